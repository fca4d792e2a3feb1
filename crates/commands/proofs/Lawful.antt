-- Lawful numbers: of which settings they are, and that they fit the rows' fields. Assumes nothing.
use Rattle.std.proofs.Common.{◌≡◌, ℕ, ◌/◌, ◌^◌, ◌<◌, ◌≤◌, Bool, true, false, eqb, leb, ltb, List, [], ◌∷◌, Some, ap, inl, inr, arith, lit<, refl}
use Rattle.std.specs.Prelude.{All, find}
use Rattle.std.specs.List.{list_all}
use Rattle.std.proofs.lemmas.List.{get_or_past}
use Rattle.std.proofs.lemmas.List.Elements.{All-contains, All-from_recursion}
use Rattle.std.proofs.lemmas.Bool.{false≢true, both_ways, leb-true, ltb-true, eqb-true, and_parts, or_cases, cases_lt}
use Rattle.commands.specs.declared.rows.Row.{Row}
use Rattle.commands.specs.Settings.{lawful, lawful_numbers, NoneAbove14, upto, between, among, is_mode, mode_with_filter}
use Rattle.commands.specs.Rows.{rows}
use Rattle.commands.proofs.Searching.{found}
use Rattle.commands.proofs.Tabled.{◌&◌}

pub none_above_14 : NoneAbove14
unfolding lawful
none_above_14 s n h = ap (λ p. p n) (get_or_past lawful_numbers s (λ m. false) h)

pub lawful_listed : (s n : ℕ) → lawful s n ≡ true → s ≤ 14
lawful_listed s n h =
    elim (cases_lt s 15) [ inl l ↦ omega arith | inr l ↦ absurd (both_ways (lawful s n) (none_above_14 s n l) h) ]

below : (high limit n : ℕ) → high < limit → upto high n ≡ true → n < limit
below high limit n l h = omega (arith, leb-true n high h)

within : (low high limit n : ℕ) → high < limit → between low high n ≡ true → n < limit
within low high limit n l h = below high limit n l (and_parts (leb low n) (leb n high) h).1

one_below : (ms : List ℕ) (limit n : ℕ) → list_all (λ m. ltb m limit) ms ≡ true → among ms n ≡ true → n < limit
one_below [] limit n l h = absurd (false≢true h)
one_below (m ∷ ms) limit n l h =
    let small = and_parts (ltb m limit) (list_all (λ k. ltb k limit) ms) l in
    elim (or_cases (eqb n m) (among ms n) h)
    [ inl e ↦ omega (arith, eqb-true n m e, ltb-true m limit small.0) | inr e ↦ one_below ms limit n small.1 e ]

mode_below : (n : ℕ) → mode_with_filter n ≡ true → n < 100 ^ 2
mode_below n h =
    let mode : n / 100 < 16 =
    elim (or_cases (upto 8 (n / 100)) (among (11 ∷ 14 ∷ 15 ∷ []) (n / 100)) (and_parts (is_mode (n / 100)) _ h).0) [
      | inl e ↦ below 8 16 (n / 100) (lit< tt) e
      | inr e ↦ one_below (11 ∷ 14 ∷ 15 ∷ []) 16 (n / 100) refl e
    ] in
    omega arith

abbrev Fitting : Row → Type 0
Fitting r = (n : ℕ) → lawful r.setting.number n ≡ true → n < 100 ^ r.bytes

fitting : All Fitting rows
unfolding rows lawful
fitting =
    All-from_recursion Fitting rows ((λ n. below 9999999999 (100 ^ 5) n (lit< tt)) & mode_below & (λ n. below 999999 (100 ^ 3) n (lit< tt)) &
    (λ n. within 10 12 100 n (lit< tt)) & (λ n. below 14 100 n (lit< tt)) &
    (λ n. one_below (0 ∷ 10 ∷ 20 ∷ 30 ∷ []) 100 n refl) & (λ n. below 2 100 n (lit< tt)) &
    (λ n. below 255 (100 ^ 2) n (lit< tt)) & (λ n. below 255 (100 ^ 2) n (lit< tt)) &
    (λ n. below 255 (100 ^ 2) n (lit< tt)) & (λ n. below 255 (100 ^ 2) n (lit< tt)) &
    (λ n. below 1 100 n (lit< tt)) & (λ n. within 1 3 100 n (lit< tt)) & (λ n. below 1 100 n (lit< tt)) & (λ n. below 1 100 n (lit< tt)) & tt)

-- a lawful number fits the field of its setting's row
pub lawful_fits : (p : Row → Bool) (r : Row) → find p rows ≡ Some r → (n : ℕ) → lawful r.setting.number n ≡ true → n < 100 ^ r.bytes
lawful_fits p r e = All-contains Fitting rows r fitting (found p rows r e).1
