use Rattle.std.proofs.Common.{◌≡◌, ℕ, ◌^◌, ◌<◌, ◌≤◌, List, length, Ok, Err, Result, rules}
use Rattle.std.specs.Prelude.{IfOk, IfErr}
use Rattle.digits.specs.declared.Order.{Order}
use Rattle.digits.specs.Fields.{number_or_stray}
use Rattle.digits.proofs.Steps.{reading_below}
use Rattle.commands.proofs.instructions.number_or_stray.Goals as goal

-- the number of a short field is small, and its first stray byte is within it

number_small : (o : Order) (bs : List ℕ) (r : Result ℕ ℕ) → length bs ≤ 5 → r ≡ number_or_stray o bs → IfOk r (λ n. n < 100 ^ 5)
number_small o bs (Ok n) short e = reading_below o bs 5 (Ok n) short e
number_small o bs (Err place) short e = tt

stray_within : (o : Order) (bs : List ℕ) (r : Result ℕ ℕ) → length bs ≤ 5 → r ≡ number_or_stray o bs → IfErr r (λ place. place < 5)
stray_within o bs (Ok n) short e = tt
stray_within o bs (Err place) short e = reading_below o bs 5 (Err place) short e

pub returns-clause-small : goal.returns-clause-small
returns-clause-small c = number_small c.args.order c.args.field.now _ c.requires (search rules)

pub returns-clause-within : goal.returns-clause-within
returns-clause-within c = stray_within c.args.order c.args.field.now _ c.requires (search rules)
