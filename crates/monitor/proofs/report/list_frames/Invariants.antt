use Rattle.std.proofs.Common.{◌≡◌, ◌+◌, ◌≤◌, ◌++◌, length, drop}
use Rattle.framing.specs.Frames.{sound_frames}
use Rattle.framing.specs.Machine.{gives}
use Rattle.monitor.specs.Reports.{frame_lines}
use Rattle.monitor.proofs.report.list_frames.Given as goal

abbrev pub invariant-loop-byte : goal.invariant-loop-byte
invariant-loop-byte l =
    (l.frames ≤ l.byte-index) ×
    (l.page ++ frame_lines (gives l.framer (drop l.byte-index l.stream)) ≡ frame_lines (sound_frames l.stream)) ×
    (l.frames + length (gives l.framer (drop l.byte-index l.stream)) ≡ length (sound_frames l.stream))
