-- What holds of each row of the command table, and so of each row that is found in it. Assumes nothing.
use Rattle.std.proofs.Common.{◌≡◌, ℕ, suc, ◌+◌, ◌<◌, ◌≤◌, Bool, true, false, cond, not, ◌&&◌, ◌||◌, eqb, leb, List, [], ◌∷◌, ◌++◌, length, Some, None, Option, refl, ap, arith}
use Rattle.std.specs.Prelude.{All, Contains, find, slice_get}
use Rattle.std.specs.List.{list_all}
use Rattle.std.specs.Option.{option_to_list}
use Rattle.std.proofs.lemmas.Bool.{leb-true, eqb-true, eqb-false, and_parts, or_parts, not-true}
use Rattle.std.proofs.lemmas.List.Elements.{All-contains, All-from_recursion, All-weaker}
use Rattle.std.proofs.lemmas.List.Sums.{AllPass-from_list_all}
use Rattle.commands.specs.declared.settings.Setting.{Setting}
use Rattle.commands.specs.declared.rows.Row.{Row}
use Rattle.commands.specs.Rows.{rows, FifteenRows, row_of, row_for, is_of, read_bytes, write_bytes}
use Rattle.commands.proofs.Searching.{found}

-- one fact after the other, as the recursion over a list has them
infixr 5 ◌&◌
abbrev pub ◌&◌ : {A B : Type 0} → A → B → A × B
a & b = (a, b)

-- a byte below those that have a meaning of their own on the wire
abbrev pub Small : ℕ → Type 0
Small b = b ≤ 0x99

-- a row is found by its setting, and by its own commands, whatever follows them; it is of one of the fifteen settings, with a number of
-- one to five bytes, that of the mode of two, under small commands other than 07
pub record Tabled (r : Row) : Type 0 where
  pub by_setting : row_of r.setting ≡ Some r
  pub by_read : (rest : List ℕ) → row_for r.read (slice_get (option_to_list r.sub ++ rest) 0) ≡ Some r
  pub by_write : (rest : List ℕ) → row_for r.write (slice_get (option_to_list r.sub ++ rest) 0) ≡ Some r
  pub listed : r.setting.number ≤ 14
  pub least : 1 ≤ r.bytes
  pub most : r.bytes ≤ 5
  pub mode_filtered : (eqb r.setting.number 1 && eqb r.bytes 1) ≡ false
  pub read_no_vfo : eqb r.read 0x07 ≡ false
  pub write_no_vfo : eqb r.write 0x07 ≡ false
  pub read_small : All Small (read_bytes r)
  pub write_small : All Small (write_bytes r)

-- what computes of it
abbrev all_small : List ℕ → Bool
all_small bs = list_all (λ b. leb b 0x99) bs

abbrev is_sized : Row → Bool
is_sized r =
    (leb r.setting.number 14 && (leb 1 r.bytes && leb r.bytes 5)) &&
    ((not (eqb r.setting.number 1 && eqb r.bytes 1) && not (eqb r.read 0x07 || eqb r.write 0x07)) &&
    (all_small (read_bytes r) && all_small (write_bytes r)))

small_from_test : (bs : List ℕ) → all_small bs ≡ true → All Small bs
small_from_test bs h = All-weaker _ Small (λ b. leb-true b 0x99) bs (AllPass-from_list_all _ bs h)

tabled_by : (r : Row) → is_sized r ≡ true → row_of r.setting ≡ Some r →
    ((rest : List ℕ) → row_for r.read (slice_get (option_to_list r.sub ++ rest) 0) ≡ Some r) →
    ((rest : List ℕ) → row_for r.write (slice_get (option_to_list r.sub ++ rest) 0) ≡ Some r) → Tabled r
tabled_by r h by_setting by_read by_write =
    let parts = and_parts (leb r.setting.number 14 && (leb 1 r.bytes && leb r.bytes 5)) _ h in
    let numbers = and_parts (leb r.setting.number 14) _ parts.0 in
    let bytes = and_parts (leb 1 r.bytes) _ numbers.1 in
    let last = and_parts (not (eqb r.setting.number 1 && eqb r.bytes 1) && not (eqb r.read 0x07 || eqb r.write 0x07)) _ parts.1 in
    let rest = and_parts (not (eqb r.setting.number 1 && eqb r.bytes 1)) _ last.0 in
    let small = and_parts (all_small (read_bytes r)) (all_small (write_bytes r)) last.1 in
    let commands = or_parts (eqb r.read 0x07) (eqb r.write 0x07) (not-true _ rest.1) in
    record {
      by_setting = by_setting;
      by_read = by_read;
      by_write = by_write;
      listed = leb-true _ _ numbers.0;
      least = leb-true _ _ bytes.0;
      most = leb-true _ _ bytes.1;
      mode_filtered = not-true _ rest.0;
      read_no_vfo = commands.0;
      write_no_vfo = commands.1;
      read_small = small_from_test (read_bytes r) small.0;
      write_small = small_from_test (write_bytes r) small.1;
    }

each_tabled : All Tabled rows
unfolding rows
each_tabled =
    All-from_recursion Tabled rows (
    tabled_by _ refl refl (λ x. refl) (λ x. refl) & tabled_by _ refl refl (λ x. refl) (λ x. refl) & tabled_by _ refl refl (λ x. refl) (λ x. refl) &
    tabled_by _ refl refl (λ x. refl) (λ x. refl) & tabled_by _ refl refl (λ x. refl) (λ x. refl) & tabled_by _ refl refl (λ x. refl) (λ x. refl) &
    tabled_by _ refl refl (λ x. refl) (λ x. refl) & tabled_by _ refl refl (λ x. refl) (λ x. refl) & tabled_by _ refl refl (λ x. refl) (λ x. refl) &
    tabled_by _ refl refl (λ x. refl) (λ x. refl) & tabled_by _ refl refl (λ x. refl) (λ x. refl) & tabled_by _ refl refl (λ x. refl) (λ x. refl) &
    tabled_by _ refl refl (λ x. refl) (λ x. refl) & tabled_by _ refl refl (λ x. refl) (λ x. refl) & tabled_by _ refl refl (λ x. refl) (λ x. refl) & tt
    )

-- it holds of a row of the table, and so of one that is found there
pub tabled : (r : Row) → Contains rows r → Tabled r
tabled r c = All-contains Tabled rows r each_tabled c

pub found_tabled : (p : Row → Bool) (r : Row) → find p rows ≡ Some r → Tabled r
found_tabled p r e = tabled r (found p rows r e).1

-- the rows are numbered from 0
abbrev Numbered : ℕ → List Row → Type 0
Numbered k [] = Unit {0}
Numbered k (r ∷ rs) = (r.setting.number ≡ k) × Numbered (suc k) rs

numbered : Numbered 0 rows
unfolding rows
numbered = refl & refl & refl & refl & refl & refl & refl & refl & refl & refl & refl & refl & refl & refl & refl & tt

fifteen : length rows ≡ 15
unfolding rows
fifteen = refl

-- the row of a setting
pub record Listed (s : Setting) : Type 0 where
  pub row : Row
  pub is : row_of s ≡ Some row
  pub of : row.setting ≡ s
  pub tabled : Tabled row

number_found : (s : Setting) (k : ℕ) (rs : List Row) → Numbered k rs → k ≤ s.number → s.number < k + length rs → (r : Row) × (find (is_of s) rs ≡ Some r)
number_found s k [] n l h = absurd (let b : ⊥ = omega arith in b)
number_found s k (r ∷ rs) n l h = here (eqb r.setting.number s.number) refl (λ m. number_found s (suc k) rs n.1 m (omega arith))
  where
    here : (b : Bool) → eqb r.setting.number s.number ≡ b → (suc k ≤ s.number → (q : Row) × (find (is_of s) rs ≡ Some q)) → (q : Row) × (cond b (Some r) (find (is_of s) rs) ≡ Some q)
    here true e f = (r, refl)
    here false e f = let d = eqb-false r.setting.number s.number e in f (omega (arith, n.0, d))

pub listed_row : (s : Setting) → s.number ≤ 14 → Listed s
listed_row s h =
    let f = number_found s 0 rows numbered (omega arith) (omega (arith, fifteen)) in
    let e = eqb-true f.0.setting.number s.number (found (is_of s) rows f.0 f.1).0 in
    record { row = f.0; is = f.1; of = ap (λ n. record { number = n }) e; tabled = found_tabled _ f.0 f.1 }

none_beyond : (s : Setting) → 14 < s.number → (o : Option Row) → row_of s ≡ o → o ≡ None
none_beyond s h None e = refl
none_beyond s h (Some r) e =
    let is = eqb-true r.setting.number s.number (found (is_of s) rows r e).0 in
    absurd (omega (arith, is, (found_tabled (is_of s) r e).listed))

pub fifteen_rows : FifteenRows
fifteen_rows s = (λ h. let l = listed_row s h in (l.row, (l.is, l.of)), λ h. none_beyond s h (row_of s) refl)
