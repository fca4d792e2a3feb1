-- What holds of lines and texts together. Assumes nothing.
use Rattle.std.specs.Prelude.{◌≡◌, ℕ, ◌<◌, ◌≤◌, List, length, Ok}
use Rattle.std.specs.List.{All}
use Rattle.hexadecimal.specs.Lines.{line}
use Rattle.hexadecimal.specs.Texts.{text_reading}

-- the line of some bytes is a text of these bytes, if it is no longer than a text may be
abbrev pub LineReadsAgain : Type 0
LineReadsAgain = (bytes : List ℕ) → All (λ b. b < 256) bytes → length (line bytes) ≤ 4096 → text_reading (line bytes) ≡ Ok bytes
