-- The first item that passes a test, and the first number below another.
use Rattle.std.specs.Prelude.{◌≡◌, ℕ, ◌<◌, Bool, true, false, List, length, position, Some, None, Option, refl, suc}
use Rattle.std.specs.List.{find, position_or_len, range_with_len}
use Rattle.std.proofs.Common.{◌∙◌, sym, inl, inr, arith, get_or}
use Rattle.std.proofs.lemmas.Bool.{cases_lt}
use Rattle.std.proofs.lemmas.Bool.Decides.{nat_tests}
use Rattle.std.proofs.lemmas.List.Folds.{find_at}
use Rattle.std.proofs.lemmas.List.FromFn.{get_or-range_with_len, length-range_with_len}
use Rattle.std.proofs.lemmas.List.Quantifiers.{position-Some}
use Rattle.std.proofs.lemmas.List.Sums.{fails_before_first, position_or_len_is}
use Rattle.std.proofs.lemmas.Option.{slice_get_cases}

module _ {X : Type 0} (p : X → Bool) (xs : List X) where
  pub position_none : (d : X) → position p xs ≡ None → (k : ℕ) → k < length xs → p (get_or xs k d) ≡ false
  position_none d e k h =
      let f = fails_before_first p xs k d in
      grind (arith, nat_tests)

  pub position_is : (k : ℕ) (d : X) → k < length xs → p (get_or xs k d) ≡ true → ((j : ℕ) → j < k → p (get_or xs j d) ≡ false) → position p xs ≡ Some k
  position_is k d h e before =
      let q = position_or_len_is p xs k d (omega arith) before (λ l. e) in
      grind (arith, nat_tests)

module _ (p : ℕ → Bool) where
  -- no number below another passes
  abbrev pub FailsBelow : ℕ → Type 0
  FailsBelow k = (j : ℕ) → j < k → p j ≡ false

  pub fails_more : (n : ℕ) → FailsBelow n → p n ≡ false → FailsBelow (suc n)
  fails_more n h e j l =
      elim (cases_lt j n) [ inl b ↦ h j b | inr b ↦ let q : j ≡ n = omega arith in rw q e ]

module _ (p : ℕ → Bool) (n : ℕ) where
  -- of the numbers from 0 on, each is its own place
  find_position : find p (range_with_len 0 n) ≡ position p (range_with_len 0 n)
  find_position =
      let xs = range_with_len 0 n in
      let i = position_or_len p xs in
      let e = find_at p xs in
      let c = slice_get_cases xs i in
      let l = length-range_with_len 0 n in
      let g = get_or-range_with_len 0 n i in
      grind (arith, nat_tests)

  -- the number at a place
  at_place : (k : ℕ) → k < n → get_or (range_with_len 0 n) k 0 ≡ k
  at_place k h = omega (arith, get_or-range_with_len 0 n k 0 h)

  pub first_found : (k : ℕ) → find p (range_with_len 0 n) ≡ Some k → (k < n) × (p k ≡ true) × FailsBelow p k
  first_found k e =
      let (l, t, before) = position-Some p (range_with_len 0 n) k 0 (sym find_position ∙ e) in
      let h : k < n = omega (arith, l, length-range_with_len 0 n) in
      (h, rw (at_place k h) at t, λ j b. rw (at_place j (omega arith)) at (before j b))

  pub none_passes : find p (range_with_len 0 n) ≡ None → FailsBelow p n
  none_passes e j h =
      rw (at_place j h) at (position_none p (range_with_len 0 n) 0 (sym find_position ∙ e) j (omega (arith, length-range_with_len 0 n)))

  pub first_is : (k : ℕ) → k < n → p k ≡ true → FailsBelow p k → find p (range_with_len 0 n) ≡ Some k
  first_is k h t before =
      find_position
      ∙ position_is p (range_with_len 0 n) k 0 (omega (arith, length-range_with_len 0 n)) (rw (at_place k h) t) (λ j b. rw (at_place j (omega arith)) (before j b))

  pub first_fails : FailsBelow p n → find p (range_with_len 0 n) ≡ None
  first_fails h = at (find p (range_with_len 0 n)) refl
    where
      at : (o : Option ℕ) → find p (range_with_len 0 n) ≡ o → o ≡ None
      at None e = refl
      at (Some k) e =
          let q = first_found k e in
          let no = h k q.0 in
          absurd (grind arith)
