use Rattle.std.proofs.Common.{refl}
use Rattle.receivers.specs.TableLaws.{first_held}
use Rattle.receivers.proofs.table.TableReceiver.new.Goals as goal

pub invariant_of-result-clause-held : goal.invariant_of-result-clause-held
invariant_of-result-clause-held c = rw c.first_numbers.ensures (first_held _ refl)
