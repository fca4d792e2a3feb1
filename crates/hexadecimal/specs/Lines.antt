-- The line that shows bytes: upper-case pairs with a space between two, and LF. Assumes nothing.
use Rattle.std.specs.Prelude.{ℕ, ◌+◌, ◌-◌, ◌/◌, ◌%◌, List, [], ◌∷◌, nat_lt, if◌then◌else◌}
use Rattle.std.specs.List.{flat_map}

-- '0' to '9' and 'A' to 'F' for 0 to 15
abbrev pub digit_char : ℕ → ℕ
digit_char d = if nat_lt d 10 then 48 + d else 65 + (d - 10)

abbrev pub line : List ℕ → List ℕ
line [] = 10 ∷ []
line (b ∷ []) = digit_char (b / 16) ∷ digit_char (b % 16) ∷ 10 ∷ []
line (b ∷ c ∷ cs) = digit_char (b / 16) ∷ digit_char (b % 16) ∷ 32 ∷ line (c ∷ cs)

-- the pair of a byte, with a space after it
abbrev pub pair : ℕ → List ℕ
pair b = digit_char (b / 16) ∷ digit_char (b % 16) ∷ 32 ∷ []

-- the pairs with a space after each
abbrev pub spaced : List ℕ → List ℕ
spaced bs = flat_map pair bs
