-- What a receiver means: its reading, its taking, and the three laws of both. Assumes nothing.
use Rattle.std.specs.Prelude.{◌≡◌, ℕ, ◌<◌, true, Some, Ok, Err, Option, Result, ◌==◌, if◌then◌else◌}
use Rattle.commands.specs.Settings.{lawful}
use Rattle.receivers.specs.declared.refusals.Refusal.{Refusal}
use Rattle.receivers.specs.declared.refusals.Refusal.TheVariants.{NotFitted, NotTaken}

-- what becomes of a number: the number that is kept for it, or a refusal
abbrev pub Taking : Type 0
Taking = Result ℕ Refusal

-- each setting reads a number or none; each number of a setting is taken or refused
pub record Meaning : Type 0 where
  pub reading : ℕ → Option ℕ
  pub taking : ℕ → ℕ → Taking

-- a setting reads a number
abbrev pub Reads : Meaning → ℕ → ℕ → Type 0
Reads m s n = m.reading s ≡ Some n

-- a number of a setting is taken as another, or as itself
abbrev pub Takes : Meaning → ℕ → ℕ → ℕ → Type 0
Takes m s n w = m.taking s n ≡ Ok w

-- the receiver does not have a setting, as a layer of it says to each number
abbrev pub Unfitted : Meaning → ℕ → Type 0
Unfitted m s = (n : ℕ) → (layer : ℕ) × (m.taking s n ≡ Err (NotFitted layer))

pub record Lawful (m : Meaning) : Type 0 where
  -- a number that reads is lawful, and is taken as itself
  pub reads : (s n : ℕ) → Reads m s n → (lawful s n ≡ true) × Takes m s n n
  -- so is a number that another one is taken as
  pub takes : (s n w : ℕ) → Takes m s n w → (lawful s w ≡ true) × Takes m s w w
  -- a setting above 14 is not fitted, and reads no number
  pub beyond : (s : ℕ) → 14 < s → Unfitted m s × ((n : ℕ) → Reads m s n → ⊥)

-- the readings once a number of a setting was taken, or refused
abbrev pub readings_after : Taking → ℕ → (ℕ → Option ℕ) → ℕ → Option ℕ
readings_after (Ok w) s f k = if k == s then Some w else f k
readings_after (Err refusal) s f k = f k

-- what a receiver means once a number was set
abbrev pub changed : ℕ → ℕ → Meaning → Meaning
changed s n m = record { reading = readings_after (m.taking s n) s m.reading; taking = m.taking }

-- what becomes of a number of a setting that takes all its lawful numbers, each as itself
abbrev pub plainly : ℕ → ℕ → Taking
plainly s n = if lawful s n then Ok n else Err (NotTaken 1)
