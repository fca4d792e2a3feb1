-- A fence over a receiver. Assumes nothing.
use Rattle.std.specs.Prelude.{ℕ, Some, None, Ok, Err, Option, if◌then◌else◌}
use Rattle.std.specs.Bool.{then_some}
use Rattle.commands.specs.Settings.{between}
use Rattle.receivers.specs.declared.refusals.Refusal.TheVariants.{NotTaken}
use Rattle.receivers.specs.Refusals.{deeper}
use Rattle.receivers.specs.Meaning.{Meaning, Taking}
use Rattle.receivers.specs.Layers.{layer}

-- a frequency that is kept outside the fence is refused
abbrev pub kept_inside : ℕ → ℕ → Taking → Taking
kept_inside low high (Ok w) = if between low high w then Ok w else Err (NotTaken 1)
kept_inside low high (Err refusal) = Err (deeper refusal)

-- one outside the fence is not even tried below
abbrev pub fenced : ℕ → ℕ → (ℕ → Taking) → ℕ → Taking
fenced low high t n = if between low high n then kept_inside low high (t n) else Err (NotTaken 1)

-- a reading outside the fence is none
abbrev pub read_inside : ℕ → ℕ → Option ℕ → Option ℕ
read_inside low high (Some n) = then_some (between low high n) n
read_inside low high None = None

-- what a fence means over a receiver
abbrev pub fence : ℕ → ℕ → Meaning → Meaning
fence low high m = layer (fenced low high) (read_inside low high) m
