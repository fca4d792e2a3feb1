use Rattle.std.proofs.Common.{rules}
use Rattle.receivers.specs.TableLaws.{first_held}
use Rattle.receivers.proofs.table.TableReceiver.set_up.Goals as goal

pub invariant_of-self-clause-held : goal.invariant_of-self-clause-held
invariant_of-self-clause-held c = rw c.first_numbers-self.ensures (first_held c.args.coverage (search rules))
