use Rattle.std.proofs.Common.{◌≡◌, take}
use Rattle.hexadecimal.specs.Lines.{spaced}
use Rattle.hexadecimal.specs.Memory.{in_front}
use Rattle.hexadecimal.proofs.lines.write_spaced.Given as goal

abbrev pub invariant-loop-i : goal.invariant-loop-i
invariant-loop-i l = l.memory ≡ in_front (spaced (take l.i l.bytes)) l.initial.memory
