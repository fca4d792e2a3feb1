use Rattle.std.proofs.Common.{length}
use Rattle.digits.proofs.reading.+high_first.Given as goal

abbrev pub decreases-high_first : goal.decreases-high_first
decreases-high_first l = length l.field.now
