-- What the reader may rely on from step to step. Assumes nothing.
use Rattle.std.specs.Prelude.{◌≡◌, ℕ, ◌+◌, ◌<◌, ◌≤◌}
use Rattle.hexadecimal.specs.declared.symbols.Symbol.{Symbol}
use Rattle.hexadecimal.specs.declared.symbols.Symbol.TheVariants.{Digit}
use Rattle.hexadecimal.specs.declared.reader.Standing.{Standing}
use Rattle.hexadecimal.specs.declared.reader.Standing.TheVariants.{Half}
use Rattle.hexadecimal.specs.declared.reader.Step.{Step}
use Rattle.hexadecimal.specs.declared.reader.Step.TheVariants.{Onward, Pair}

-- a digit is below 16
abbrev pub DigitSymbol : Symbol → Type 0
DigitSymbol (Digit d) = d < 16
DigitSymbol _ = Unit {0}

abbrev pub DigitStanding : Standing → Type 0
DigitStanding (Half h) = h < 16
DigitStanding _ = Unit {0}

-- how many characters of a pair are read
abbrev pub taken : Standing → ℕ
taken (Half h) = 1
taken _ = 0

-- a step takes one character, and a pair is whole only after its first digit
abbrev pub StepSound : Standing → Step → Type 0
StepSound s (Onward t) = DigitStanding t × (taken t ≤ taken s + 1)
StepSound s (Pair b) = taken s ≡ 1
