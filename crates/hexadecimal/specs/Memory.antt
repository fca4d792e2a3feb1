-- A text that is written at the start of a memory. Assumes nothing.
use Rattle.std.specs.Prelude.{ℕ, List, ◌++◌, length, drop, Ok, Err, Result, nat_le, if◌then◌else◌}
use Rattle.hexadecimal.specs.declared.lines.NoRoom.{NoRoom}

-- the text in front, and the rest as it was
abbrev pub in_front : List ℕ → List ℕ → List ℕ
in_front text memory = text ++ drop (length text) memory

-- what the memory then holds: it stays as it was where it is smaller than the text
abbrev pub placed : List ℕ → List ℕ → List ℕ
placed text memory = if nat_le (length text) (length memory) then in_front text memory else memory

-- how long the text is, if the memory has room for it
abbrev pub placed_answer : List ℕ → List ℕ → Result ℕ NoRoom
placed_answer text memory = if nat_le (length text) (length memory) then Ok (length text) else Err (record {})
