-- The command table, and the rows that are found in it. Assumes nothing.
use Rattle.std.specs.Prelude.{◌≡◌, ℕ, ◌<◌, ◌≤◌, Bool, true, false, ◌&&◌, ◌||◌, List, [], ◌∷◌, find, Some, None, Option, ◌==◌}
use Rattle.std.specs.List.{list_any}
use Rattle.std.specs.Option.{option_to_list}
use Rattle.digits.specs.declared.Order.{Order}
use Rattle.digits.specs.declared.Order.TheVariants.{LowFirst, HighFirst}
use Rattle.commands.specs.declared.settings.Setting.{Setting}
use Rattle.commands.specs.declared.rows.Row.{Row}

-- a setting by its number
abbrev pub numbered : ℕ → Setting
numbered s = record { number = s }

-- setting, command to read, command to write, sub command, bytes of the number, their order
abbrev row : ℕ → ℕ → ℕ → Option ℕ → ℕ → Order → Row
row s r w k n o = record { setting = numbered s; read = r; write = w; sub = k; bytes = n; order = o }

-- one row for each setting
unfoldable pub rows : List Row
rows =
    row 0 0x03 0x05 None 5 LowFirst ∷  -- frequency
    row 1 0x04 0x06 None 2 HighFirst ∷  -- mode
    row 2 0x0C 0x0D None 3 LowFirst ∷  -- offset
    row 3 0x0F 0x0F None 1 HighFirst ∷  -- duplex
    row 4 0x10 0x10 None 1 HighFirst ∷  -- tuning step
    row 5 0x11 0x11 None 1 HighFirst ∷  -- attenuator
    row 6 0x12 0x12 None 1 HighFirst ∷  -- antenna
    row 7 0x14 0x14 (Some 0x01) 2 HighFirst ∷  -- AF gain
    row 8 0x14 0x14 (Some 0x02) 2 HighFirst ∷  -- RF gain
    row 9 0x14 0x14 (Some 0x03) 2 HighFirst ∷  -- squelch
    row 10 0x14 0x14 (Some 0x06) 2 HighFirst ∷  -- NR level
    row 11 0x16 0x16 (Some 0x02) 1 HighFirst ∷  -- preamp
    row 12 0x16 0x16 (Some 0x12) 1 HighFirst ∷  -- AGC
    row 13 0x16 0x16 (Some 0x22) 1 HighFirst ∷  -- noise blanker
    row 14 0x16 0x16 (Some 0x40) 1 HighFirst ∷  -- noise reduction
    []

-- the bytes that name a reading, and a writing: the command, and the sub command if the row has one
abbrev pub read_bytes : Row → List ℕ
read_bytes r = r.read ∷ option_to_list r.sub

abbrev pub write_bytes : Row → List ℕ
write_bytes r = r.write ∷ option_to_list r.sub

-- the row of a setting
abbrev pub is_of : Setting → Row → Bool
is_of s r = r.setting.number == s.number

abbrev pub row_of : Setting → Option Row
row_of s = find (is_of s) rows

-- each of the fifteen settings has its row, and no other setting has one
abbrev pub FifteenRows : Type 0
FifteenRows =
    (s : Setting) →
    (s.number ≤ 14 → (r : Row) × ((row_of s ≡ Some r) × (r.setting ≡ s))) × (14 < s.number → row_of s ≡ None)

-- a row has a command, to read or to write
abbrev pub has_command : ℕ → Row → Bool
has_command c r = r.read == c || r.write == c

-- some row has the command
abbrev pub is_known : ℕ → Bool
is_known c = list_any (has_command c) rows

-- the byte after the command is the row's sub command, or the row has none
abbrev pub has_sub : Option ℕ → Option ℕ → Bool
has_sub next None = true
has_sub None (Some k) = false
has_sub (Some b) (Some k) = b == k

-- the row of a command and the byte that follows it, if there is one
abbrev pub is_asked : ℕ → Option ℕ → Row → Bool
is_asked c next r = has_command c r && has_sub next r.sub

abbrev pub row_for : ℕ → Option ℕ → Option Row
row_for c next = find (is_asked c next) rows
