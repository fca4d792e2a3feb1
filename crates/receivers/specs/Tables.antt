-- The table receiver. Assumes nothing.
use Rattle.std.specs.Prelude.{◌≡◌, ℕ, ◌-◌, ◌/◌, ◌%◌, ◌^◌, Bool, true, not, ◌&&◌, List, [], ◌∷◌, Ok, Err, Option, Result, ◌==◌, nat_le, slice_index, if◌then◌else◌}
use Rattle.std.specs.Bool.{then_some}
use Rattle.commands.specs.Settings.{between, lawful}
use Rattle.receivers.specs.declared.refusals.Refusal.TheVariants.{NotFitted, NotTaken}
use Rattle.receivers.specs.declared.rejections.Rejection.{Rejection}
use Rattle.receivers.specs.declared.rejections.Rejection.TheVariants.{SetUp}
use Rattle.receivers.specs.declared.table.Coverage.{Coverage}
use Rattle.receivers.specs.Meaning.{Meaning, Taking, plainly}

-- a bit of a number is set
abbrev pub bit : ℕ → ℕ → Bool
bit n p = n / 2 ^ p % 2 == 1

-- the mask fits a setting
abbrev pub fitted : ℕ → ℕ → Bool
fitted mask s = nat_le s 14 && bit mask s

-- a frequency that is covered is kept on the grid, at or just below itself
abbrev pub tuned : Coverage → ℕ → Taking
tuned c n = if between c.low c.high n then Ok (n - n % c.grid) else Err (NotTaken 1)

abbrev pub table_taking : Coverage → ℕ → ℕ → Taking
table_taking c s n = if fitted c.mask s then (if s == 0 then tuned c n else plainly s n) else Err (NotFitted 1)

abbrev pub table_reading : ℕ → List ℕ → ℕ → Option ℕ
table_reading mask numbers s = then_some (fitted mask s) (slice_index numbers s)

-- what a table receiver means that has a coverage and a number for each setting
abbrev pub table : Coverage → List ℕ → Meaning
table c numbers = record { reading = table_reading c.mask numbers; taking = table_taking c }

-- a coverage that a receiver can have
abbrev pub suits : Coverage → Bool
suits c =
    nat_le c.low c.high && (nat_le c.high 9999999999 && (between 1 1000000 c.grid && (c.low % c.grid == 0 && not (bit c.mask 15))))

-- the numbers at first
abbrev pub first_numbers : ℕ → List ℕ
first_numbers low = low ∷ 201 ∷ 0 ∷ 10 ∷ 0 ∷ 0 ∷ 0 ∷ 128 ∷ 255 ∷ 0 ∷ 0 ∷ 0 ∷ 2 ∷ 0 ∷ 0 ∷ []

-- a new receiver: all frequencies on a grid of 1 Hz, bits 0 to 14 of the mask
abbrev pub whole : Coverage
whole = record { low = 0; high = 9999999999; grid = 1; mask = 32767 }

abbrev pub new_table : Meaning
new_table = table whole (first_numbers 0)

-- what a set_up answers, and what it makes of a receiver that meant m
abbrev pub set_up_answer : Coverage → Result Unit Rejection
set_up_answer c = if suits c then Ok tt else Err SetUp

abbrev pub set_up : Coverage → Meaning → Meaning
set_up c m = if suits c then table c (first_numbers c.low) else m

-- a number that a setting can have: what is kept for each fitted setting is always one
abbrev pub holds : Coverage → ℕ → ℕ → Bool
holds c s n = if s == 0 then between c.low c.high n && n % c.grid == 0 else lawful s n

abbrev pub Held : Coverage → List ℕ → Type 0
Held c numbers = (s : ℕ) → fitted c.mask s ≡ true → holds c s (slice_index numbers s) ≡ true
