-- The bytes of a text, or the position of what is wrong with it. Assumes nothing.
use Rattle.std.specs.Prelude.{ℕ, ◌+◌, ◌*◌, List, [], ◌∷◌, Some, None, Ok, Err, Option, Result, nat_le, if◌then◌else◌}
use Rattle.hexadecimal.specs.declared.symbols.Symbol.{Symbol}
use Rattle.hexadecimal.specs.declared.symbols.Symbol.TheVariants.{Digit, Blank, LineEnd, Hash, Other}
use Rattle.hexadecimal.specs.declared.reader.Standing.{Standing}
use Rattle.hexadecimal.specs.declared.reader.Standing.TheVariants.{Between, Half, Remark}
use Rattle.hexadecimal.specs.declared.reader.Step.{Step}
use Rattle.hexadecimal.specs.declared.reader.Step.TheVariants.{Onward, Pair}
use Rattle.hexadecimal.specs.declared.reader.BadText.{BadText}
use Rattle.hexadecimal.specs.Symbols.{symbol_of}

-- the bytes, or the position of what is wrong
abbrev pub Reading : Type 0
Reading = Result (List ℕ) BadText

abbrev pub bad : ℕ → Reading
bad p = Err (record { position = p })

-- a byte before the others
abbrev pub before : ℕ → Reading → Reading
before b (Ok bs) = Ok (b ∷ bs)
before b (Err e) = Err e

-- what the next character brings, unless it breaks the rules
abbrev pub advanced : Standing → Symbol → Option Step
advanced Between (Digit d) = Some (Onward (Half d))
advanced Between Blank = Some (Onward Between)
advanced Between LineEnd = Some (Onward Between)
advanced Between Hash = Some (Onward Remark)
advanced Between Other = None
advanced (Half h) (Digit d) = Some (Pair (16 * h + d))
advanced (Half h) _ = None
advanced Remark LineEnd = Some (Onward Between)
advanced Remark _ = Some (Onward Remark)

-- the reading from a position on, given what the rest then reads as
abbrev pub by_step : Option Step → ℕ → (Standing → Reading) → Reading
by_step (Some (Onward s)) p rest = rest s
by_step (Some (Pair b)) p rest = before b (rest Between)
by_step None p rest = bad p

-- the text ends: inside a pair it is bad there
abbrev pub at_end : Standing → ℕ → Reading
at_end Between p = Ok []
at_end (Half h) p = bad p
at_end Remark p = Ok []

-- the rest of a text from a position on; there is no character 4,096
abbrev pub reading_from : Standing → ℕ → List ℕ → Reading
reading_from s p [] = at_end s p
reading_from s p (c ∷ cs) = if nat_le 4096 p then bad p else by_step (advanced s (symbol_of c)) p (λ t. reading_from t (p + 1) cs)

-- a whole text
abbrev pub text_reading : List ℕ → Reading
text_reading text = reading_from Between 0 text

-- a text that goes on after 4,096 characters is bad there, or before
abbrev pub overlong : Reading → BadText
overlong (Ok bs) = record { position = 4096 }
overlong (Err e) = e
