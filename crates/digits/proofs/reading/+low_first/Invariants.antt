use Rattle.std.proofs.Common.{length}
use Rattle.digits.proofs.reading.+low_first.Given as goal

abbrev pub decreases-low_first : goal.decreases-low_first
decreases-low_first l = length l.field.now
