-- A converter over a receiver. Assumes nothing.
use Rattle.std.specs.Prelude.{ℕ, ok_or, option_and_then, ℤ, pos, negsuc, ◌+ℤ◌, ◌-ℤ◌, Some, None, Ok, Err, Option, ◌==◌, nat_le, if◌then◌else◌}
use Rattle.std.specs.Bool.{then_some}
use Rattle.receivers.specs.declared.refusals.Refusal.TheVariants.{NotTaken}
use Rattle.receivers.specs.Refusals.{deeper}
use Rattle.receivers.specs.Meaning.{Meaning, Taking}
use Rattle.receivers.specs.Layers.{layer, passed_on}

-- a sum, if it is a frequency: 0 to 9,999,999,999
abbrev pub ranged : ℤ → Option ℕ
ranged (pos n) = then_some (nat_le n 9999999999) n
ranged (negsuc n) = None

-- what is taken below, seen from above
abbrev pub raised : ℤ → Taking → Taking
raised shift (Ok w) = ok_or (ranged (pos w +ℤ shift)) (NotTaken 1)
raised shift (Err refusal) = Err (deeper refusal)

-- what is tried below, if there is a frequency to try
abbrev pub tried : ℤ → (ℕ → Taking) → Option ℕ → Taking
tried shift t (Some n) = raised shift (t n)
tried shift t None = Err (NotTaken 1)

abbrev pub converted : ℤ → (ℕ → Taking) → ℕ → Taking
converted shift t n = tried shift t (ranged (pos n -ℤ shift))

-- what is read below, seen from above
abbrev pub lifted : ℤ → Option ℕ → Option ℕ
lifted shift = option_and_then (λ n. ranged (pos n +ℤ shift))

-- what a converter means over a receiver
abbrev pub convert : ℤ → Meaning → Meaning
convert shift m = layer (converted shift) (lifted shift) m

-- what the receiver below means once a number was tried on the converter: a frequency is set there less the shift
abbrev pub passed_at : Option ℕ → Taking → ℕ → Meaning → Meaning
passed_at (Some n) taking s m = passed_on taking s n m
passed_at None taking s m = m

abbrev pub passed_down : Taking → ℤ → ℕ → ℕ → Meaning → Meaning
passed_down taking shift s n m = if s == 0 then passed_at (ranged (pos n -ℤ shift)) taking s m else passed_on taking s n m
