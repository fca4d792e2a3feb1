use Rattle.std.proofs.Common.{◌≡◌, ◌+◌, ◌≤◌, length, drop}
use Rattle.framing.specs.Frames.{frames_for}
use Rattle.framing.specs.Machine.{fresh, gives}
use Rattle.framing.proofs.count.count_frames.Given as goal

abbrev pub invariant-loop-byte : goal.invariant-loop-byte
invariant-loop-byte l =
    (l.count ≤ l.byte-index) ×
    (l.count + length (frames_for l.address (gives l.framer (drop l.byte-index l.stream))) ≡
    length (frames_for l.address (gives fresh l.stream)))
