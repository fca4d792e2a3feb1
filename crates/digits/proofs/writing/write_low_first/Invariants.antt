use Rattle.digits.proofs.Written.{Written}
use Rattle.digits.proofs.writing.write_low_first.Given as goal

abbrev pub invariant-loop-byte : goal.invariant-loop-byte
invariant-loop-byte l = Written l.field l.byte-index l.rest l.number
