use Rattle.std.proofs.Common.{arith}
use Rattle.digits.proofs.Written.{written_more}
use Rattle.digits.proofs.writing.write_low_first.Goals as goal

pub loop-byte-preserved : goal.loop-byte-preserved
loop-byte-preserved c =
    written_more c.loop-byte.field c.loop-byte.byte-index c.loop-byte.rest c.args.number c.digit_byte.result
    (omega arith) c.digit_byte.ensures c.loop-byte.invariant
