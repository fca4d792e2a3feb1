-- A body is read as a request just when it asks for it. Assumes nothing.
use Rattle.std.proofs.Common.{◌≡◌, ℕ, ◌+◌, ◌≤◌, Bool, true, false, cond, ◌&&◌, eqb, List, [], ◌∷◌, ◌++◌, length, drop, Some, None, Ok, Err, Option, sym, refl, ap, ◌∙◌, subst, inl, inr, arith}
use Rattle.std.specs.Prelude.{slice_get}
use Rattle.std.specs.Option.{option_to_list}
use Rattle.std.proofs.lemmas.List.{append-nil, nil_from_length}
use Rattle.std.proofs.lemmas.Bool.{eq-eqb, ne_eqb, eqb-true, and_parts, and_from, and_right, or_cases, cond-true, cond-false}
use Rattle.commands.specs.declared.settings.Setting.{Setting}
use Rattle.commands.specs.declared.rows.Row.{Row}
use Rattle.commands.specs.declared.faults.Fault.TheVariants.{WrongLength}
use Rattle.commands.specs.declared.requests.Shown.TheVariants.{VfoA, VfoB}
use Rattle.commands.specs.declared.requests.VfoCommand.{VfoCommand}
use Rattle.commands.specs.declared.requests.VfoCommand.TheVariants.{Select, Show, Copy, Exchange}
use Rattle.commands.specs.Rows.{rows, row_for, is_asked, has_command, has_sub, read_bytes, write_bytes}
use Rattle.commands.specs.Requests.{Asked, read, write, vfo, request_of, by_vfo, vfo_request, vfo_under, by_row, by_command, data_place, data_of, takes_length, is_reading, is_writing}
use Rattle.commands.specs.Asking.{vfo_bytes, named, naming, data_bytes, Takes, Askable, Asks, RequestsByTheirBytes}
use Rattle.commands.proofs.Searching.{found}
use Rattle.commands.proofs.Parsing.{sub_short, too_short}
use Rattle.commands.proofs.Tabled.{Tabled, found_tabled, listed_row}

-- what follows the command is the row's sub command and then the data
sub_splits : (sub : Option ℕ) (rest : List ℕ) → has_sub (slice_get rest 0) sub ≡ true → rest ≡ option_to_list sub ++ drop (length (option_to_list sub)) rest
sub_splits None rest h = refl
sub_splits (Some k) [] h = absurd (grind arith)
sub_splits (Some k) (b ∷ rest) h = ap (λ x. x ∷ rest) (eqb-true b k h)

data_behind : (sub : Option ℕ) (a t c : ℕ) (rest : List ℕ) → drop (3 + length (option_to_list sub)) (a ∷ t ∷ c ∷ rest) ≡ drop (length (option_to_list sub)) rest
data_behind None a t c rest = refl
data_behind (Some k) a t c rest = refl

data_are : (sub : Option ℕ) (a t c : ℕ) (ys : List ℕ) → drop (3 + length (option_to_list sub)) (a ∷ t ∷ c ∷ (option_to_list sub ++ ys)) ≡ ys
data_are None a t c ys = refl
data_are (Some k) a t c ys = refl

-- a writing has one to five data bytes
pub data_length : (r : Row) (n : ℕ) → Tabled r → takes_length r n ≡ true → (1 ≤ n) × (n ≤ 5)
data_length r n z h =
    elim (or_cases (eqb n r.bytes) (eqb r.setting.number 1 && eqb n 1) h) [
      | inl e ↦ (omega (arith, eqb-true n r.bytes e, z.least), omega (arith, eqb-true n r.bytes e, z.most))
      | inr e ↦
          let one = eqb-true n 1 (and_parts (eqb r.setting.number 1) (eqb n 1) e).1 in (omega arith, omega arith)
    ]

-- a writing with so many data bytes can be asked
pub writing_askable : (r : Row) → Tabled r → (ys : List ℕ) → takes_length r (length ys) ≡ true → Askable (write r.setting ys (data_place r))
writing_askable r z ys n =
    let own = z.by_setting in
    let place : data_place r ≡ 2 + length (write_bytes r) = omega arith in (
      z.listed,
      subst (λ o. Takes o (length ys)) (sym own) n,
      place ∙ ap (λ o. 2 + length (named write_bytes o)) (sym own),
    )

-- from a body to its request

module _ (r : Row) (z : Tabled r) (a t c : ℕ) (rest ys : List ℕ) (splits : rest ≡ option_to_list r.sub ++ ys) where
  asks_reading : r.read ≡ c → ys ≡ [] → Asks (a ∷ t ∷ c ∷ rest) (read r.setting)
  asks_reading e n =
      let bytes : c ∷ rest ≡ read_bytes r ++ [] = cc in
      (z.listed, (a, (t, ap (λ xs. a ∷ t ∷ xs) (bytes ∙ ap (λ o. named read_bytes o ++ []) (sym z.by_setting)))))

  asks_writing : r.write ≡ c → takes_length r (length ys) ≡ true → Asks (a ∷ t ∷ c ∷ rest) (write r.setting ys (data_place r))
  asks_writing e n =
      let bytes : c ∷ rest ≡ write_bytes r ++ ys = cc in (
        writing_askable r z ys n,
        (a, (t, ap (λ xs. a ∷ t ∷ xs) (bytes ∙ ap (λ o. named write_bytes o ++ ys) (sym z.by_setting)))),
      )

  row_answers : (q : Asked) (size : ℕ) (x y : Bool) → is_reading r c (length ys) ≡ x → is_writing r c (length ys) ≡ y →
      cond x (Ok (read r.setting)) (cond y (Ok (write r.setting ys (data_place r))) (Err (WrongLength size))) ≡ Ok q → Asks (a ∷ t ∷ c ∷ rest) q
  row_answers q size true y f g e =
      let parts = and_parts (eqb r.read c) (eqb (length ys) 0) f in
      let same : read r.setting ≡ q = cc in
      subst (Asks (a ∷ t ∷ c ∷ rest)) same (asks_reading (eqb-true r.read c parts.0) (nil_from_length ys (eqb-true (length ys) 0 parts.1)))
  row_answers q size false true f g e =
      let parts = and_parts (eqb r.write c) (takes_length r (length ys)) g in
      let same : write r.setting ys (data_place r) ≡ q = cc in
      subst (Asks (a ∷ t ∷ c ∷ rest)) same (asks_writing (eqb-true r.write c parts.0) parts.1)
  row_answers q size false false f g e = absurd (grind arith)

row_asks : (r : Row) (a t c : ℕ) (rest : List ℕ) (q : Asked) → Tabled r → is_asked c (slice_get rest 0) r ≡ true → by_row r (a ∷ t ∷ c ∷ rest) ≡ Ok q → Asks (a ∷ t ∷ c ∷ rest) q
row_asks r a t c rest q z asked e =
    let sub = (and_parts (has_command c r) (has_sub (slice_get rest 0) r.sub) asked).1 in
    row_answers r z a t c rest (data_of r (a ∷ t ∷ c ∷ rest))
    (sub_splits r.sub rest sub ∙ ap (λ x. option_to_list r.sub ++ x) (sym (data_behind r.sub a t c rest)))
    q (length (a ∷ t ∷ c ∷ rest)) _ _ refl refl e

pub vfo_code : (k : ℕ) (v : VfoCommand) → vfo_under k ≡ Some v → vfo_bytes v ≡ k ∷ []
vfo_code k v e = go (eqb k 0x00) (eqb k 0x01) (eqb k 0xA0) (eqb k 0xB0) (eqb-true k 0x00) (eqb-true k 0x01) (eqb-true k 0xA0) (eqb-true k 0xB0) e
  where
    is : (n : ℕ) (u : VfoCommand) → k ≡ n → vfo_bytes u ≡ n ∷ [] → Some u ≡ Some v → vfo_bytes v ≡ k ∷ []
    is n u e f g = let same : u ≡ v = cc in ap vfo_bytes (sym same) ∙ f ∙ ap (λ m. m ∷ []) (sym e)

    go : (w x y z : Bool) → (w ≡ true → k ≡ 0x00) → (x ≡ true → k ≡ 0x01) → (y ≡ true → k ≡ 0xA0) → (z ≡ true → k ≡ 0xB0) →
        cond w (Some (Show VfoA)) (cond x (Some (Show VfoB)) (cond y (Some Copy) (cond z (Some Exchange) None))) ≡ Some v → vfo_bytes v ≡ k ∷ []
    go true x y z f g h i e = is 0x00 (Show VfoA) (f refl) refl e
    go false true y z f g h i e = is 0x01 (Show VfoB) (g refl) refl e
    go false false true z f g h i e = is 0xA0 Copy (h refl) refl e
    go false false false true f g h i e = is 0xB0 Exchange (i refl) refl e
    go false false false false f g h i e = absurd (grind arith)

asks_vfo : (a t c : ℕ) (rest : List ℕ) (v : VfoCommand) (q : Asked) → c ≡ 0x07 → vfo_bytes v ≡ rest → vfo v ≡ q → Asks (a ∷ t ∷ c ∷ rest) q
asks_vfo a t c rest v q e f g =
    let bytes : c ∷ rest ≡ 0x07 ∷ (vfo_bytes v ++ []) = ap (λ x. x ∷ rest) e ∙ ap (λ xs. 0x07 ∷ xs) (sym (append-nil (vfo_bytes v) ∙ f)) in
    subst (Asks (a ∷ t ∷ c ∷ rest)) g (tt, (a, (t, ap (λ xs. a ∷ t ∷ xs) bytes)))

vfo_asks : (a t c : ℕ) (rest : List ℕ) (q : Asked) → c ≡ 0x07 → by_vfo (slice_get rest 0) (length (a ∷ t ∷ c ∷ rest)) ≡ Ok q → Asks (a ∷ t ∷ c ∷ rest) q
vfo_asks a t c [] q h e = asks_vfo a t c [] Select q h refl (cc)
vfo_asks a t c (k ∷ rest) q h e = go (vfo_under k) refl (eqb (length (a ∷ t ∷ c ∷ k ∷ rest)) 4) refl e
  where
    go : (o : Option VfoCommand) → vfo_under k ≡ o → (b : Bool) → eqb (length (a ∷ t ∷ c ∷ k ∷ rest)) 4 ≡ b →
        vfo_request o (length (a ∷ t ∷ c ∷ k ∷ rest)) ≡ Ok q → Asks (a ∷ t ∷ c ∷ k ∷ rest) q
    go None f b g e = absurd (grind arith)
    go (Some v) f true g e =
        let alone = nil_from_length rest (omega (arith, eqb-true (length (a ∷ t ∷ c ∷ k ∷ rest)) 4 g)) in
        asks_vfo a t c (k ∷ rest) v q h (vfo_code k v f ∙ ap (λ xs. k ∷ xs) (sym alone)) (let same : vfo v ≡ q = cc in same)
    go (Some v) f false g e = absurd (grind arith)

command_asks : (a t c : ℕ) (rest : List ℕ) (q : Asked) (o : Option Row) → row_for c (slice_get rest 0) ≡ o → by_command o (a ∷ t ∷ c ∷ rest) ≡ Ok q → Asks (a ∷ t ∷ c ∷ rest) q
command_asks a t c rest q None f e = absurd (grind arith)
command_asks a t c rest q (Some r) f e =
    row_asks r a t c rest q (found_tabled _ r f) (found (is_asked c (slice_get rest 0)) rows r f).0 e

-- a body that is read as a request asks for it
pub asks : (body : List ℕ) (q : Asked) → request_of body ≡ Ok q → Asks body q
unfolding request_of
asks [] q e = absurd (let f = too_short [] (omega arith) in grind arith)
asks (a ∷ []) q e = absurd (let f = too_short (a ∷ []) (omega arith) in grind arith)
asks (a ∷ t ∷ []) q e = absurd (let f = too_short (a ∷ t ∷ []) (omega arith) in grind arith)
asks (a ∷ t ∷ c ∷ rest) q e = go (eqb c 0x07) refl e
  where
    go : (b : Bool) → eqb c 0x07 ≡ b →
        cond b (by_vfo (slice_get rest 0) (length (a ∷ t ∷ c ∷ rest))) (by_command (row_for c (slice_get rest 0)) (a ∷ t ∷ c ∷ rest)) ≡ Ok q →
        Asks (a ∷ t ∷ c ∷ rest) q
    go true f e = vfo_asks a t c rest q (eqb-true c 0x07 f) e
    go false f e = command_asks a t c rest q (row_for c (slice_get rest 0)) refl e

-- the data of a writing that is asked are short, and begin near the front
pub asked_short : (body : List ℕ) (s : Setting) (bytes : List ℕ) (place : ℕ) → Ok (write s bytes place) ≡ request_of body → (length bytes ≤ 5) × (place ≤ 4)
asked_short body s bytes place e =
    let askable = (asks body (write s bytes place) (sym e)).0 in
    let l = listed_row s askable.0 in
    let z = l.tabled in
    let takes = subst (λ o. Takes o (length bytes)) l.is askable.1 in
    let named-so = ap (λ o. 2 + length (named write_bytes o)) l.is in
    ((data_length l.row (length bytes) z takes).1, omega (arith, askable.2, named-so, sub_short l.row.sub))

-- from a request to its body

pub asked_read : (r : Row) (a t : ℕ) → Tabled r → request_of (a ∷ t ∷ (read_bytes r ++ [])) ≡ Ok (read r.setting)
unfolding request_of
asked_read r a t z =
    let body = a ∷ t ∷ (read_bytes r ++ []) in
    let bytes = ap length (data_are r.sub a t r.read []) in
    cond-false _ _ _ z.read_no_vfo
    ∙ ap (λ o. by_command o body) (z.by_read [])
    ∙ cond-true _ _ _ (and_from (eqb r.read r.read) _ (eq-eqb r.read r.read refl) (eq-eqb (length (data_of r body)) 0 bytes))

pub asked_write : (r : Row) (a t : ℕ) (ys : List ℕ) → Tabled r → takes_length r (length ys) ≡ true →
    request_of (a ∷ t ∷ (write_bytes r ++ ys)) ≡ Ok (write r.setting ys (data_place r))
unfolding request_of
asked_write r a t ys z takes =
    let body = a ∷ t ∷ (write_bytes r ++ ys) in
    let bytes = data_are r.sub a t r.write ys in
    let long = ap length bytes in
    let some = (data_length r (length ys) z takes).0 in
    cond-false _ _ _ z.write_no_vfo
    ∙ ap (λ o. by_command o body) (z.by_write ys)
    ∙ cond-false _ _ _ (and_right (eqb r.read r.write) (eqb (length (data_of r body)) 0) (ne_eqb (length (data_of r body)) 0 (λ e. omega arith)))
    ∙ cond-true _ _ _ (and_from (eqb r.write r.write) _ (eq-eqb r.write r.write refl) (ap (takes_length r) long ∙ takes))
    ∙ ap (λ xs. Ok (write r.setting xs (data_place r))) bytes

asked_vfo : (a t : ℕ) (v : VfoCommand) → request_of (a ∷ t ∷ ((0x07 ∷ vfo_bytes v) ++ [])) ≡ Ok (vfo v)
unfolding request_of
asked_vfo a t Select = refl
asked_vfo a t (Show VfoA) = refl
asked_vfo a t (Show VfoB) = refl
asked_vfo a t Copy = refl
asked_vfo a t Exchange = refl

-- a body that asks for a request is read as it
asked_so : (q : Asked) (a t : ℕ) → Askable q → request_of (a ∷ t ∷ (naming q ++ data_bytes q)) ≡ Ok q
asked_so (read s) a t h =
    let l = listed_row s h in
    ap (λ o. request_of (a ∷ t ∷ (named read_bytes o ++ []))) l.is
    ∙ asked_read l.row a t l.tabled
    ∙ ap (λ x. Ok (read x)) l.of
asked_so (write s bytes place) a t h =
    let l = listed_row s h.0 in
    let takes = subst (λ o. Takes o (length bytes)) l.is h.1 in
    let place_is : data_place l.row ≡ place = omega (arith, h.2, ap (λ o. 2 + length (named write_bytes o)) l.is) in
    ap (λ o. request_of (a ∷ t ∷ (named write_bytes o ++ bytes))) l.is
    ∙ asked_write l.row a t bytes l.tabled takes
    ∙ ap (λ x. Ok (write x bytes (data_place l.row))) l.of
    ∙ ap (λ p. Ok (write s bytes p)) place_is
asked_so (vfo v) a t h = asked_vfo a t v

pub requests_by_their_bytes : RequestsByTheirBytes
requests_by_their_bytes body q =
    (asks body q, λ h. ap request_of h.1.1.1 ∙ asked_so q h.1.0 h.1.1.0 h.0)
