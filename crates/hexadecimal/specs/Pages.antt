-- Text behind text, in some room. Assumes nothing.
use Rattle.std.specs.Prelude.{ℕ, ◌+◌, Bool, List, ◌++◌, length, Ok, Err, Result, nat_le, if◌then◌else◌}
use Rattle.hexadecimal.specs.declared.lines.NoRoom.{NoRoom}

-- some room holds what stands there and a text behind it
abbrev pub has_room : ℕ → List ℕ → List ℕ → Bool
has_room room before text = nat_le (length before + length text) room

-- what stands there once the text was added: all of it, or nothing
abbrev pub with_text : ℕ → List ℕ → List ℕ → List ℕ
with_text room before text = if has_room room before text then before ++ text else before

-- whether it was added
abbrev pub adding : ℕ → List ℕ → List ℕ → Result (Unit {0}) NoRoom
adding room before text = if has_room room before text then Ok tt else Err (record {})
