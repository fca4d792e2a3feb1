-- Layers over a receiver: they have frequencies of their own, and pass the other settings on. Assumes nothing.
use Rattle.std.specs.Prelude.{ℕ, Ok, Err, Option, ◌==◌, if◌then◌else◌}
use Rattle.receivers.specs.Refusals.{deeper}
use Rattle.receivers.specs.Meaning.{Meaning, Taking, changed}

-- what a layer passes on from below: a refusal gains a layer
abbrev pub beneath : Taking → Taking
beneath (Ok w) = Ok w
beneath (Err refusal) = Err (deeper refusal)

-- what a layer means that makes one taking and one reading of frequencies out of those below
abbrev pub layer : ((ℕ → Taking) → ℕ → Taking) → (Option ℕ → Option ℕ) → Meaning → Meaning
layer takes reads m =
    record {
      reading = λ s. if s == 0 then reads (m.reading s) else m.reading s;
      taking = λ s n. if s == 0 then takes (m.taking s) n else beneath (m.taking s n);
    }

-- what the receiver below means once a number was tried on the layer: it was set below only if the layer took it
abbrev pub passed_on : Taking → ℕ → ℕ → Meaning → Meaning
passed_on (Ok w) s n m = changed s n m
passed_on (Err refusal) s n m = m
