use Rattle.std.proofs.Common.{length, ap, arith}
use Rattle.std.proofs.lemmas.List.{at_drop_all}
use Rattle.framing.specs.Frames.{frames_for}
use Rattle.framing.specs.Machine.{gives}
use Rattle.framing.proofs.Running.{gives_stream}
use Rattle.framing.proofs.count.count_frames.Goals as goal

pub returns : goal.returns
returns c =
    omega (
      arith,
      at_drop_all (λ bs. length (frames_for c.args.address (gives c.loop-byte.framer bs))) c.args.stream.now c.loop-byte.byte-index c.loop-byte-test.false,
      ap (λ frames. length (frames_for c.args.address frames)) (gives_stream c.args.stream.now),
    )
