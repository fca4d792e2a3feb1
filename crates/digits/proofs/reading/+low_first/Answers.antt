use Rattle.std.proofs.Common.{subst, arith, rules}
use Rattle.digits.proofs.Steps.{Below, rest_below}
use Rattle.digits.proofs.reading.+low_first.Goals as goal

pub map_err-requires : goal.map_err-requires
map_err-requires t c =
    let rest = rest_below c.args.field.now c.low_first.result c.requires c.low_first.ensures in
    λ e is met range. omega (arith, subst (Below 4) is rest)

pub overflow_mul-result : goal.overflow_mul-result
overflow_mul-result t c =
    let rest = rest_below c.args.field.now c.low_first.result c.requires c.low_first.ensures in
    let mapped = c.map_err.ensures.cases in
    grind (arith, rules)

pub overflow_add-result : goal.overflow_add-result
overflow_add-result t c =
    let rest = rest_below c.args.field.now c.low_first.result c.requires c.low_first.ensures in
    let mapped = c.map_err.ensures.cases in
    grind (arith, rules)
