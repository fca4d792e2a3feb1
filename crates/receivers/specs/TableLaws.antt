-- A table receiver is lawful, whatever it was set up for and whatever was set.
use Rattle.std.specs.Prelude.{◌≡◌, ℕ, zero, suc, ◌-◌, ◌*◌, ◌/◌, ◌%◌, ◌<◌, ◌≤◌, Bool, true, false, cond, ◌&&◌, leb, ◌≢◌, List, length, Some, None, Ok, Err, ◌==◌, nat_le, slice_index, slice_set, refl}
use Rattle.std.specs.Bool.{then_some}
use Rattle.std.proofs.Common.{inl, inr, arith, div-add-mod', mul-le-mul_left, get_or-set_same, get_or-set_other}
use Rattle.std.proofs.Math.Path.{fun_ext}
use Rattle.std.proofs.Math.Nat.{div-add-mod, mul-mod_right}
use Rattle.std.proofs.lemmas.Nat.{le-div}
use Rattle.std.proofs.lemmas.Bool.Decides.{nat_tests, Decides-below_and}
use Rattle.std.proofs.lemmas.Bool.{and_parts, cases_eq, eq-eqb, ne_eqb, le-leb, leb-true, lt-leb}
use Rattle.commands.specs.Settings.{between, lawful}
use Rattle.receivers.specs.declared.refusals.Refusal.TheVariants.{NotFitted, NotTaken}
use Rattle.receivers.specs.declared.table.Coverage.{Coverage}
use Rattle.receivers.specs.Meaning.{Taking, Lawful, readings_after}
use Rattle.receivers.specs.Tables.{bit, fitted, first_numbers, holds, Held, suits, table, table_taking, table_reading}
use Rattle.receivers.specs.Frequencies.{frequency_lawful}

pub fitted_below : (mask s : ℕ) → fitted mask s ≡ true → s < 15
fitted_below mask s f = omega (arith, leb-true s 14 (and_parts (nat_le s 14) (bit mask s) f).0)

fitted_taking : (b : Bool) (t : Taking) (w : ℕ) → cond b t (Err (NotFitted 1)) ≡ Ok w → (b ≡ true) × (t ≡ Ok w)
fitted_taking true t w e = (refl, e)
fitted_taking false t w e = absurd (grind arith)

fitted_reading : (b : Bool) (u n : ℕ) → then_some b u ≡ Some n → (b ≡ true) × (u ≡ n)
fitted_reading true u n e = (refl, grind arith)
fitted_reading false u n e = absurd (grind arith)

-- the grid's frequency at or below another
module _ (low grid : ℕ) (step : 0 < grid) (start : low % grid ≡ 0) where
  grid_mod : (n : ℕ) → (n - n % grid) % grid ≡ 0
  grid_mod n =
      let e : n - n % grid ≡ grid * (n / grid) = omega (arith, div-add-mod n grid) in
      rw e (mul-mod_right grid (n / grid))

  grid_low : (n : ℕ) → low ≤ n → low ≤ n - n % grid
  grid_low n h =
      let a : low / grid ≤ n / grid = le-div (low / grid) n grid step (omega (arith, div-add-mod' low grid)) in
      let b : grid * (low / grid) ≤ grid * (n / grid) = mul-le-mul_left grid a in
      omega (arith, div-add-mod n grid, div-add-mod low grid)

  -- over any test in the place of `lawful s`, which `grind` would take apart
  taken_holds_at : (high : ℕ) (L : ℕ → Bool) (s n w : ℕ) → cond (s == 0) (cond (between low high n) (Ok (n - n % grid)) (Err (NotTaken 1))) (cond (L n) (Ok n) (Err (NotTaken 1))) ≡ Ok w → cond (s == 0) (between low high w && w % grid == 0) (L w) ≡ true
  taken_holds_at high L s n w e =
      let a = grid_mod n in
      let b = grid_low n in
      grind (arith, nat_tests)

-- a number that can be kept is taken as itself
holds_taken_at : (low high grid : ℕ) (L : ℕ → Bool) (s n : ℕ) → cond (s == 0) (between low high n && n % grid == 0) (L n) ≡ true → cond (s == 0) (cond (between low high n) (Ok (n - n % grid)) (Err (NotTaken 1))) (cond (L n) (Ok n) (Err (NotTaken 1))) ≡ Ok n
holds_taken_at low high grid L s n h = grind (arith, nat_tests)

-- each number at first is lawful, by a test that is computed
abbrev first_test : ℕ → Bool
first_test s = lawful s (slice_index (first_numbers 0) s)

abbrev first_tests : ℕ → Bool
first_tests zero = true
first_tests (suc n) = first_test n && first_tests n

all_first_tests : first_tests 15 ≡ true
unfolding lawful
all_first_tests = refl

first_lawful : (s low : ℕ) → s ≢ 0 → s < 15 → lawful s (slice_index (first_numbers low) s) ≡ true
first_lawful zero low q h = absurd (q refl)
first_lawful (suc k) low q h =
    (Decides-below_and first_test (λ k. first_test k ≡ true) first_tests (λ k. (λ e. e, λ e. e)) refl (λ n. refl) 15).0 all_first_tests (suc k) h

module _ (c : Coverage) (ok : suits c ≡ true) where
  suited_high : c.high ≤ 9999999999
  suited_high = grind (arith, nat_tests)

  suited_step : 0 < c.grid
  suited_step = grind (arith, nat_tests)

  suited_start : c.low % c.grid ≡ 0
  suited_start = grind (arith, nat_tests)

  suited_low : c.low ≤ c.high
  suited_low = grind (arith, nat_tests)

  taken_fitted : (s n w : ℕ) → table_taking c s n ≡ Ok w → fitted c.mask s ≡ true
  taken_fitted s n w e = (fitted_taking (fitted c.mask s) _ w e).0

  taken_holds : (s n w : ℕ) → table_taking c s n ≡ Ok w → holds c s w ≡ true
  taken_holds s n w e =
      taken_holds_at c.low c.grid suited_step suited_start c.high (lawful s) s n w (fitted_taking (fitted c.mask s) _ w e).1

  holds_lawful : (s n : ℕ) → holds c s n ≡ true → lawful s n ≡ true
  holds_lawful s n h = at (s == 0) refl h
    where
      at : (b : Bool) → (s == 0) ≡ b → cond b (between c.low c.high n && n % c.grid == 0) (lawful s n) ≡ true → lawful s n ≡ true
      at true z h =
          let inside = (and_parts (between c.low c.high n) (n % c.grid == 0) h).0 in
          frequency_lawful s n z (omega (arith, suited_high, leb-true n c.high (and_parts (nat_le c.low n) (nat_le n c.high) inside).1))
      at false z h = h

  itself : (s n : ℕ) → fitted c.mask s ≡ true → holds c s n ≡ true → (lawful s n ≡ true) × (table_taking c s n ≡ Ok n)
  itself s n f h = (holds_lawful s n h, rw f (holds_taken_at c.low c.high c.grid (lawful s) s n h))

  pub table_laws : (numbers : List ℕ) → Held c numbers → Lawful (table c numbers)
  table_laws numbers held = record {
    reads = λ s n e.
        let p = fitted_reading (fitted c.mask s) (slice_index numbers s) n e in
        itself s n p.0 (rw p.1 at (held s p.0));
    takes = λ s n w e. itself s w (taken_fitted s n w e) (taken_holds s n w e);
    beyond = λ s h.
        let z : leb s 14 ≡ false = lt-leb s 14 h in
        (λ n. (1, rw z), λ n e. absurd (let y : None ≡ Some n = rw z at e in grind arith));
  }

  -- a number that is set can be kept
  pub set_held : (numbers : List ℕ) → Held c numbers → length numbers ≡ 15 → (k n w : ℕ) → table_taking c k n ≡ Ok w → Held c (slice_set numbers k w)
  set_held numbers held fifteen k n w e s f =
      let lt : k < length numbers = omega (arith, fitted_below c.mask k (taken_fitted k n w e)) in
      elim (cases_eq s k) [
        | inl q ↦ rw (q, get_or-set_same) (taken_holds k n w e)
        | inr q ↦ let ne : s ≢ k = q in rw get_or-set_other (held s f)
      ]

  -- and is then what reads
  pub set_reads : (numbers : List ℕ) → length numbers ≡ 15 → (k n w : ℕ) → table_taking c k n ≡ Ok w → table_reading c.mask (slice_set numbers k w) ≡ readings_after (Ok w) k (table_reading c.mask numbers)
  set_reads numbers fifteen k n w e =
      let f = taken_fitted k n w e in
      let lt : k < length numbers = omega (arith, fitted_below c.mask k f) in
      fun_ext (λ s. elim (cases_eq s k) [
        | inl q ↦ let t = eq-eqb k k refl in rw (q, f, t, get_or-set_same)
        | inr q ↦ let ne : s ≢ k = q in let t = ne_eqb s k q in rw (t, get_or-set_other)
      ])

  -- the numbers at first can be kept
  pub first_held : Held c (first_numbers c.low)
  first_held s f =
      elim (cases_eq s 0) [
        | inl q ↦
            let l = le-leb c.low c.low (omega arith) in
            let h = le-leb c.low c.high suited_low in
            let g = eq-eqb (c.low % c.grid) 0 suited_start in
            rw (q, l, h, g)
        | inr q ↦ rw (ne_eqb s 0 q) (first_lawful s c.low q (fitted_below c.mask s f))
      ]
