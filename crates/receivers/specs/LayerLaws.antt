-- A layer over a lawful receiver is lawful if its frequencies are; so are those of a fence and of a converter.
use Rattle.std.specs.Prelude.{◌≡◌, ℕ, ◌≤◌, Bool, true, false, cond, ℤ, pos, negsuc, ◌+ℤ◌, ◌-ℤ◌, Some, None, Ok, Err, Option, ◌==◌, nat_eq, refl}
use Rattle.std.proofs.Common.{sym, ap, ◌∙◌, arith}
use Rattle.std.proofs.Math.IntN.{+ℤ-neg_ℤ_cancel}
use Rattle.std.proofs.lemmas.Bool.Decides.{nat_tests}
use Rattle.std.proofs.lemmas.Bool.{le-leb}
use Rattle.commands.specs.Settings.{between, lawful}
use Rattle.receivers.specs.declared.refusals.Refusal.TheVariants.{NotFitted, NotTaken}
use Rattle.receivers.specs.Refusals.{further}
use Rattle.receivers.specs.Meaning.{Taking, Meaning, Lawful}
use Rattle.receivers.specs.Layers.{beneath, layer}
use Rattle.receivers.specs.Fences.{fence, fenced, kept_inside, read_inside}
use Rattle.receivers.specs.Converters.{convert, converted, lifted, raised, ranged, tried}
use Rattle.receivers.specs.Frequencies.{frequency_lawful, lawful_frequency}

beneath_kept : (w : ℕ) (t : Taking) → beneath t ≡ Ok w → t ≡ Ok w
beneath_kept w (Ok u) e = e
beneath_kept w (Err refusal) e = absurd (grind arith)

beneath_unfitted : (t : Taking) → ((l : ℕ) × (t ≡ Err (NotFitted l))) → (l : ℕ) × (beneath t ≡ Err (NotFitted l))
beneath_unfitted t (l, e) = (further l, rw e)

-- the other settings are as lawful as below
module _ (takes : (ℕ → Taking) → ℕ → Taking) (reads : Option ℕ → Option ℕ) (m : Meaning) (laws : Lawful m) where
  abbrev Itself : ℕ → ℕ → Type 0
  Itself s n = (lawful s n ≡ true) × ((layer takes reads m).taking s n ≡ Ok n)

  -- what a layer owes of the frequency
  pub record Frequencies : Type 0 where
    pub read : (s n : ℕ) → (s == 0) ≡ true → reads (m.reading s) ≡ Some n → (lawful s n ≡ true) × (takes (m.taking s) n ≡ Ok n)
    pub kept : (s n w : ℕ) → (s == 0) ≡ true → takes (m.taking s) n ≡ Ok w → (lawful s w ≡ true) × (takes (m.taking s) w ≡ Ok w)

  pub layer_laws : Frequencies → Lawful (layer takes reads m)
  layer_laws own = record {
    reads = λ s n e. reads_at s n (s == 0) refl e;
    takes = λ s n w e. takes_at s n w (s == 0) refl e;
    beyond = λ s h.
        let p = laws.beyond s h in
        let z : nat_eq s 0 ≡ false = grind (arith, nat_tests) in
        (λ n. rw z (beneath_unfitted (m.taking s n) (p.0 n)), λ n e. p.1 n (rw z at e));
  }
    where
      reads_at : (s n : ℕ) (b : Bool) → (s == 0) ≡ b → cond b (reads (m.reading s)) (m.reading s) ≡ Some n → Itself s n
      reads_at s n true z e = let q = own.read s n z e in (q.0, rw z q.1)
      reads_at s n false z e = let q = laws.reads s n e in (q.0, rw z (ap beneath q.1))

      takes_at : (s n w : ℕ) (b : Bool) → (s == 0) ≡ b → cond b (takes (m.taking s) n) (beneath (m.taking s n)) ≡ Ok w → Itself s w
      takes_at s n w true z e = let q = own.kept s n w z e in (q.0, rw z q.1)
      takes_at s n w false z e = let q = laws.takes s n w (beneath_kept w (m.taking s n) e) in (q.0, rw z (ap beneath q.1))

-- a fence
read_inside_some : (low high n : ℕ) (o : Option ℕ) → read_inside low high o ≡ Some n → (o ≡ Some n) × (between low high n ≡ true)
read_inside_some low high n (Some u) e = (grind (arith, nat_tests), grind (arith, nat_tests))
read_inside_some low high n None e = absurd (grind arith)

kept_inside_kept : (low high w : ℕ) (t : Taking) → kept_inside low high t ≡ Ok w → (t ≡ Ok w) × (between low high w ≡ true)
kept_inside_kept low high w (Ok u) e = (grind (arith, nat_tests), grind (arith, nat_tests))
kept_inside_kept low high w (Err refusal) e = absurd (grind arith)

fenced_kept : (b : Bool) (low high w : ℕ) (t : Taking) → cond b (kept_inside low high t) (Err (NotTaken 1)) ≡ Ok w → (t ≡ Ok w) × (between low high w ≡ true)
fenced_kept true low high w t e = kept_inside_kept low high w t e
fenced_kept false low high w t e = absurd (grind arith)

fenced_itself : (low high n : ℕ) (t : ℕ → Taking) → t n ≡ Ok n → between low high n ≡ true → fenced low high t n ≡ Ok n
fenced_itself low high n t e b = rw (b, e, b)

pub fence_laws : (low high : ℕ) (m : Meaning) → Lawful m → Lawful (fence low high m)
fence_laws low high m laws = layer_laws (fenced low high) (read_inside low high) m laws (record {
  read = λ s n z e.
      let p = read_inside_some low high n (m.reading s) e in
      let q = laws.reads s n p.0 in
      (q.0, fenced_itself low high n (m.taking s) q.1 p.1);
  kept = λ s n w z e.
      let p = fenced_kept (between low high n) low high w (m.taking s n) e in
      let q = laws.takes s n w p.0 in
      (q.0, fenced_itself low high w (m.taking s) q.1 p.1);
})

-- a converter
ranged_some : (z : ℤ) (n : ℕ) → ranged z ≡ Some n → (z ≡ pos n) × (n ≤ 9999999999)
ranged_some (pos m) n e = (grind (arith, nat_tests), grind (arith, nat_tests))
ranged_some (negsuc m) n e = absurd (grind arith)

module _ (shift : ℤ) where
  raised_kept : (t : Taking) (w : ℕ) → raised shift t ≡ Ok w → (k : ℕ) × (t ≡ Ok k) × (ranged (pos k +ℤ shift) ≡ Some w)
  raised_kept (Ok k) w e = (k, refl, grind arith)
  raised_kept (Err refusal) w e = absurd (grind arith)

  tried_kept : (t : ℕ → Taking) (o : Option ℕ) (w : ℕ) → tried shift t o ≡ Ok w → (u k : ℕ) × (t u ≡ Ok k) × (ranged (pos k +ℤ shift) ≡ Some w)
  tried_kept t (Some u) w e = let p = raised_kept (t u) w e in (u, p.0, p.1, p.2)
  tried_kept t None w e = absurd (grind arith)

  lifted_some : (o : Option ℕ) (n : ℕ) → lifted shift o ≡ Some n → (k : ℕ) × (o ≡ Some k) × (ranged (pos k +ℤ shift) ≡ Some n)
  lifted_some (Some k) n e = (k, refl, e)
  lifted_some None n e = absurd (grind arith)

  -- a frequency that was raised is tried below as what it was
  back : (k w : ℕ) → k ≤ 9999999999 → ranged (pos k +ℤ shift) ≡ Some w → ranged (pos w -ℤ shift) ≡ Some k
  back k w h e =
      let p = ranged_some (pos k +ℤ shift) w e in
      let z : pos w -ℤ shift ≡ pos k = ap (λ x. x -ℤ shift) (sym p.0) ∙ +ℤ-neg_ℤ_cancel (pos k) shift in
      let t = le-leb k 9999999999 h in
      rw (z, t)

  raised_itself : (s k w : ℕ) (t : ℕ → Taking) → (s == 0) ≡ true → (lawful s k ≡ true) × (t k ≡ Ok k) → ranged (pos k +ℤ shift) ≡ Some w → (lawful s w ≡ true) × (converted shift t w ≡ Ok w)
  raised_itself s k w t z q r =
      let b = back k w (lawful_frequency s k z q.0) r in
      (frequency_lawful s w z (ranged_some (pos k +ℤ shift) w r).1, rw (b, q.1, r))

  pub converter_laws : (m : Meaning) → Lawful m → Lawful (convert shift m)
  converter_laws m laws = layer_laws (converted shift) (lifted shift) m laws (record {
    read = λ s n z e.
        let p = lifted_some (m.reading s) n e in
        raised_itself s p.0 n (m.taking s) z (laws.reads s p.0 p.1) p.2;
    kept = λ s n w z e.
        let p = tried_kept (m.taking s) (ranged (pos n -ℤ shift)) w e in
        raised_itself s p.1 w (m.taking s) z (laws.takes s p.0 p.1 p.2) p.3;
  })
