use Rattle.std.proofs.Common.{arith, rules}
use Rattle.digits.proofs.Steps.{front_below, high_step}
use Rattle.digits.proofs.reading.+high_first.Goals as goal

pub overflow_mul-result : goal.overflow_mul-result
overflow_mul-result t c =
    let front = front_below c.args.field.now c.high_first.result c.requires c.high_first.ensures in
    grind (arith, rules)

pub overflow_add-result : goal.overflow_add-result
overflow_add-result t c =
    let front = front_below c.args.field.now c.high_first.result c.requires c.high_first.ensures in
    grind (arith, rules)

pub returns-in_err-higher-in-len1-up : goal.returns-in_err-higher-in-len1-up
returns-in_err-higher-in-len1-up t c =
    let step = high_step c.args.field.now c.high_first.result (search rules) c.high_first.ensures in
    grind (arith, rules)

pub returns-in_err-number-in-len1-up : goal.returns-in_err-number-in-len1-up
returns-in_err-number-in-len1-up t c =
    let step = high_step c.args.field.now c.high_first.result (search rules) c.high_first.ensures in
    grind (arith, rules)

pub returns-in_ok-number-in-len1-up : goal.returns-in_ok-number-in-len1-up
returns-in_ok-number-in-len1-up t c =
    let step = high_step c.args.field.now c.high_first.result (search rules) c.high_first.ensures in
    grind (arith, rules)
