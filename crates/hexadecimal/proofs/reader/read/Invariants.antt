use Rattle.std.proofs.Common.{◌≡◌, ◌+◌, ◌*◌, ◌≤◌, length, drop}
use Rattle.hexadecimal.specs.Steps.{DigitStanding, taken}
use Rattle.hexadecimal.specs.Texts.{reading_from, text_reading}
use Rattle.hexadecimal.proofs.Readings.{after}
use Rattle.hexadecimal.proofs.reader.read.Given as goal

abbrev pub invariant-loop-position : goal.invariant-loop-position
invariant-loop-position l = record {
  so_far : after l.bytes.items (reading_from l.standing l.position (drop l.position l.text)) ≡ text_reading l.text;
  digit : DigitStanding l.standing;
  room : 2 * length l.bytes.items + taken l.standing ≤ l.position;
  within : l.position ≤ 4096;
}
