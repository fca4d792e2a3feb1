-- The lawful frequencies.
use Rattle.std.specs.Prelude.{◌≡◌, ℕ, ◌≤◌, true, ◌==◌}
use Rattle.std.proofs.lemmas.Bool.{eqb-true, le-leb, leb-true}
use Rattle.commands.specs.Settings.{lawful}

pub frequency_lawful : (s n : ℕ) → (s == 0) ≡ true → n ≤ 9999999999 → lawful s n ≡ true
unfolding lawful
frequency_lawful s n z h = rw (eqb-true s 0 z) (le-leb n 9999999999 h)

pub lawful_frequency : (s n : ℕ) → (s == 0) ≡ true → lawful s n ≡ true → n ≤ 9999999999
unfolding lawful
lawful_frequency s n z h = leb-true n 9999999999 (rw (eqb-true s 0 z) at h)
