-- What a character of a text is, by its code. Assumes nothing.
use Rattle.std.specs.Prelude.{ℕ, ◌+◌, ◌-◌, Bool, ◌&&◌, ◌||◌, ◌==◌, nat_le, if◌then◌else◌}
use Rattle.hexadecimal.specs.declared.symbols.Symbol.{Symbol}
use Rattle.hexadecimal.specs.declared.symbols.Symbol.TheVariants.{Digit, Blank, LineEnd, Hash, Other}

-- from the first to the last code
abbrev pub within : ℕ → ℕ → ℕ → Bool
within first last c = nat_le first c && nat_le c last

-- '0' to '9' are 48 to 57, 'A' to 'F' are 65 to 70, 'a' to 'f' are 97 to 102;
-- a space is 32, a tab 9, CR 13, LF 10, '#' 35
abbrev pub symbol_of : ℕ → Symbol
symbol_of c =
    if within 48 57 c then Digit (c - 48)
    else if within 65 70 c then Digit (c - 65 + 10)
    else if within 97 102 c then Digit (c - 97 + 10)
    else if c == 32 || c == 9 then Blank
    else if c == 13 || c == 10 then LineEnd
    else if c == 35 then Hash
    else Other
