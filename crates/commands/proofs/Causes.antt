-- Each fault of a request comes under its cause, and no other. Assumes nothing.
use Rattle.std.proofs.Common.{◌≡◌, ℕ, ◌≤◌, Bool, true, false, cond, eqb, ◌⊎◌, List, [], ◌∷◌, ◌++◌, length, get_or, replicate, Some, None, Ok, Err, Option, Result, sym, refl, ap, ◌∙◌, subst, inl, inr, arith}
use Rattle.std.specs.Prelude.{find, slice_get}
use Rattle.std.specs.Option.{option_to_list}
use Rattle.std.proofs.lemmas.List.{append-nil, length-replicate}
use Rattle.std.proofs.lemmas.List.Folds.{Any-from_list_any, list_any_at}
use Rattle.std.proofs.lemmas.Bool.{both_ways, eq-eqb, eqb-true, eqb-false, and_parts, and_from, or_cases, or_left, or_right}
use Rattle.framing.specs.Frames.{command_of}
use Rattle.commands.specs.declared.settings.Setting.{Setting}
use Rattle.commands.specs.declared.rows.Row.{Row}
use Rattle.commands.specs.declared.faults.Fault.{Fault}
use Rattle.commands.specs.declared.faults.Fault.TheVariants.{UnknownCommand, UnknownSubCommand, WrongLength, NotDigits, NotLawful}
use Rattle.commands.specs.declared.requests.Shown.TheVariants.{VfoA, VfoB}
use Rattle.commands.specs.declared.requests.VfoCommand.{VfoCommand}
use Rattle.commands.specs.declared.requests.VfoCommand.TheVariants.{Select, Show, Copy, Exchange}
use Rattle.commands.specs.Rows.{rows, row_of, row_for, is_known, has_command, has_sub, read_bytes, write_bytes}
use Rattle.commands.specs.Requests.{Asked, read, write, vfo, request_of, by_vfo, vfo_request, vfo_under, by_command, next_of, data_place, data_of, is_reading, is_writing}
use Rattle.commands.specs.Asking.{vfo_bytes, named, Askable, Asks, HasCommand, Under, HasName, Caused, FaultsByTheirCauses}
use Rattle.commands.proofs.Searching.{found, none_found}
use Rattle.commands.proofs.Tabled.{Tabled, tabled, found_tabled, listed_row}
use Rattle.commands.proofs.Asking.{requests_by_their_bytes, vfo_code, writing_askable}

-- some writing of a row
abbrev wrote : Row → Asked
wrote r = write r.setting (replicate {A = ℕ} r.bytes 0) (data_place r)

wrote_askable : (r : Row) → Tabled r → Askable (wrote r)
wrote_askable r z =
    let long : length (replicate {A = ℕ} r.bytes 0) ≡ r.bytes = length-replicate r.bytes 0 in
    writing_askable r z (replicate r.bytes 0) (or_left _ _ (eq-eqb _ r.bytes long))

-- with the name of a request a body has its command, and if it asks for the request it has its name

under_command : (body : List ℕ) (command : Row → ℕ) (rest : Row → List ℕ) (o : Option Row) → Under body command o → command_of body ≡ get_or (named (λ r. command r ∷ rest r) o) 0 0
under_command body command rest None h = absurd h
under_command body command rest (Some r) h = h.0

name_command : (body : List ℕ) (q : Asked) → HasName body q → HasCommand body q
name_command body (read s) h = under_command body (λ r. r.read) (λ r. option_to_list r.sub) (row_of s) h
name_command body (write s bytes place) h = under_command body (λ r. r.write) (λ r. option_to_list r.sub) (row_of s) h
name_command body (vfo v) h = h.0

sub_stands : (sub : Option ℕ) (ys : List ℕ) → has_sub (slice_get (option_to_list sub ++ ys) 0) sub ≡ true
sub_stands None ys = refl
sub_stands (Some k) ys = eq-eqb k k refl

stands_under : (body : List ℕ) (command : Row → ℕ) (a t : ℕ) (ys : List ℕ) (s : Setting) → s.number ≤ 14 →
    body ≡ a ∷ t ∷ (named (λ r. command r ∷ option_to_list r.sub) (row_of s) ++ ys) → Under body command (row_of s)
stands_under body command a t ys s h e =
    let l = listed_row s h in
    let f = e ∙ ap (λ o. a ∷ t ∷ (named (λ r. command r ∷ option_to_list r.sub) o ++ ys)) l.is in
    subst (Under body command) (sym l.is)
    (ap command_of f, ap (λ xs. has_sub (next_of xs) l.row.sub) f ∙ sub_stands l.row.sub ys)

asks_name : (body : List ℕ) (q : Asked) → Asks body q → HasName body q
asks_name body (read s) h = stands_under body (λ r. r.read) h.1.0 h.1.1.0 [] s h.0 h.1.1.1
asks_name body (write s bytes place) h = stands_under body (λ r. r.write) h.1.0 h.1.1.0 bytes s h.0.0 h.1.1.1
asks_name body (vfo v) h =
    (ap command_of h.1.1.1, ap next_of h.1.1.1 ∙ ap (λ xs. slice_get xs 0) (append-nil (vfo_bytes v)))

-- a row that is found has a request

row_command : (c : ℕ) (r : Row) → has_command c r ≡ true → (c ≡ r.read) ⊎ (c ≡ r.write)
row_command c r h =
    elim (or_cases (eqb r.read c) (eqb r.write c) h)
    [ inl e ↦ inl (sym (eqb-true r.read c e)) | inr e ↦ inr (sym (eqb-true r.write c e)) ]

row_named : (body : List ℕ) (r : Row) → Tabled r → has_command (command_of body) r ≡ true → has_sub (next_of body) r.sub ≡ true →
    (q : Asked) × (Askable q × HasName body q)
row_named body r z h sub =
    elim (row_command (command_of body) r h) [
      | inl e ↦ (read r.setting, (z.listed, subst (Under body (λ x. x.read)) (sym z.by_setting) (e, sub)))
      | inr e ↦ (wrote r, (wrote_askable r z, subst (Under body (λ x. x.write)) (sym z.by_setting) (e, sub)))
    ]

row_commanded : (body : List ℕ) (r : Row) → Tabled r → has_command (command_of body) r ≡ true → (q : Asked) × (Askable q × HasCommand body q)
row_commanded body r z h =
    elim (row_command (command_of body) r h) [
      | inl e ↦ (read r.setting, (z.listed, e ∙ ap (λ o. get_or (named read_bytes o) 0 0) (sym z.by_setting)))
      | inr e ↦ (wrote r, (wrote_askable r z, e ∙ ap (λ o. get_or (named write_bytes o) 0 0) (sym z.by_setting)))
    ]

known_commanded : (body : List ℕ) → is_known (command_of body) ≡ true → (q : Asked) × (Askable q × HasCommand body q)
known_commanded body h =
    let some = Any-from_list_any (has_command (command_of body)) rows h in
    row_commanded body some.1 (tabled some.1 (some.0, some.2, some.3)) some.4

-- where none is found, no request has the command, or its name

none_of : (p : Row → Bool) → find p rows ≡ None → (s : Setting) (r : Row) → row_of s ≡ Some r → p r ≡ true → ⊥
none_of p none s r e h = both_ways (p r) (none_found p rows r none (found _ rows r e).1) h

not_known : (c : ℕ) → is_known c ≡ false → (s : Setting) (r : Row) → row_of s ≡ Some r → has_command c r ≡ true → ⊥
not_known c none s r e h =
    let place = (found _ rows r e).1 in
    both_ways (is_known c) none (list_any_at (has_command c) rows place.0 r place.1 (ap (has_command c) place.2 ∙ h))

has_read : (c : ℕ) (r : Row) → c ≡ r.read → has_command c r ≡ true
has_read c r e = or_left (eqb r.read c) (eqb r.write c) (eq-eqb r.read c (sym e))

has_write : (c : ℕ) (r : Row) → c ≡ r.write → has_command c r ≡ true
has_write c r e = or_right (eqb r.read c) (eqb r.write c) (eq-eqb r.write c (sym e))

none_named : (body : List ℕ) → (command_of body ≡ 0x07 → ⊥) → row_for (command_of body) (next_of body) ≡ None → (q : Asked) → Askable q → HasName body q → ⊥
none_named body other none (read s) a h =
    let l = listed_row s a in
    let u = subst (Under body (λ r. r.read)) l.is h in
    none_of _ none s l.row l.is (and_from _ _ (has_read (command_of body) l.row u.0) u.1)
none_named body other none (write s bytes place) a h =
    let l = listed_row s a.0 in
    let u = subst (Under body (λ r. r.write)) l.is h in
    none_of _ none s l.row l.is (and_from _ _ (has_write (command_of body) l.row u.0) u.1)
none_named body other none (vfo v) a h = other h.0

none_commanded : (body : List ℕ) → (command_of body ≡ 0x07 → ⊥) → is_known (command_of body) ≡ false → (q : Asked) → Askable q → HasCommand body q → ⊥
none_commanded body other none (read s) a h =
    let l = listed_row s a in
    not_known _ none s l.row l.is (has_read (command_of body) l.row (h ∙ ap (λ o. get_or (named read_bytes o) 0 0) l.is))
none_commanded body other none (write s bytes place) a h =
    let l = listed_row s a.0 in
    not_known _ none s l.row l.is (has_write (command_of body) l.row (h ∙ ap (λ o. get_or (named write_bytes o) 0 0) l.is))
none_commanded body other none (vfo v) a h = other h

-- the same under 07

vfo_known : (v : VfoCommand) (k : ℕ) → Some k ≡ slice_get (vfo_bytes v) 0 → vfo_under k ≡ Some v
vfo_known Select k e = absurd (grind arith)
vfo_known (Show VfoA) k e = let n : k ≡ 0x00 = cc in ap vfo_under n
vfo_known (Show VfoB) k e = let n : k ≡ 0x01 = cc in ap vfo_under n
vfo_known Copy k e = let n : k ≡ 0xA0 = cc in ap vfo_under n
vfo_known Exchange k e = let n : k ≡ 0xB0 = cc in ap vfo_under n

none_vfo : (body : List ℕ) (k : ℕ) → command_of body ≡ 0x07 → next_of body ≡ Some k → vfo_under k ≡ None → (q : Asked) → Askable q → HasName body q → ⊥
none_vfo body k c n none (read s) a h =
    let l = listed_row s a in
    let u = subst (Under body (λ r. r.read)) l.is h in
    both_ways _ l.tabled.read_no_vfo (eq-eqb l.row.read 0x07 (sym u.0 ∙ c))
none_vfo body k c n none (write s bytes place) a h =
    let l = listed_row s a.0 in
    let u = subst (Under body (λ r. r.write)) l.is h in
    both_ways _ l.tabled.write_no_vfo (eq-eqb l.row.write 0x07 (sym u.0 ∙ c))
none_vfo body k c n none (vfo v) a h =
    let known = vfo_known v k (sym n ∙ h.1) in
    grind arith

-- from a fault to its cause

no_asks : (body : List ℕ) (f : Fault) → request_of body ≡ Err f → (q : Asked) → Asks body q → ⊥
no_asks body f e q h = let g = (requests_by_their_bytes body q).1 h in grind arith

module _ (body : List ℕ) (f : Fault) (whole : request_of body ≡ Err f) where
  vfo_causes : command_of body ≡ 0x07 → (next : Option ℕ) → next_of body ≡ next → by_vfo next (length body) ≡ Err f → Caused body f
  vfo_causes c None n e = absurd (grind arith)
  vfo_causes c (Some k) n e = go (vfo_under k) refl (eqb (length body) 4) refl e
    where
      go : (o : Option VfoCommand) → vfo_under k ≡ o → (b : Bool) → eqb (length body) 4 ≡ b → vfo_request o (length body) ≡ Err f → Caused body f
      go None u b g e =
          let same : UnknownSubCommand ≡ f = cc in
          subst (Caused body) same ((vfo Select, (tt, c)), none_vfo body k c n u)
      go (Some v) u true g e = absurd (grind arith)
      go (Some v) u false g e =
          let same : WrongLength (length body) ≡ f = cc in
          subst (Caused body) same (refl, (vfo v, (tt, (c, n ∙ sym (ap (λ xs. slice_get xs 0) (vfo_code k v u))))), no_asks body f whole)

  unknown_causes : (command_of body ≡ 0x07 → ⊥) → row_for (command_of body) (next_of body) ≡ None → (b : Bool) → is_known (command_of body) ≡ b →
      ◌≡◌ {A = Result Asked Fault} (Err (cond b UnknownSubCommand UnknownCommand)) (Err f) → Caused body f
  unknown_causes other none false h e =
      let same : UnknownCommand ≡ f = cc in subst (Caused body) same (none_commanded body other h)
  unknown_causes other none true h e =
      let same : UnknownSubCommand ≡ f = cc in
      subst (Caused body) same (known_commanded body h, none_named body other none)

  row_causes : (command_of body ≡ 0x07 → ⊥) → (o : Option Row) → row_for (command_of body) (next_of body) ≡ o → by_command o body ≡ Err f → Caused body f
  row_causes other None h e = unknown_causes other h (is_known (command_of body)) refl e
  row_causes other (Some r) h e = go (is_reading r (command_of body) (length (data_of r body))) (is_writing r (command_of body) (length (data_of r body))) e
    where
      go : (x y : Bool) → cond x (Ok (read r.setting)) (cond y (Ok (write r.setting (data_of r body) (data_place r))) (Err (WrongLength (length body)))) ≡ Err f → Caused body f
      go true y e = absurd (grind arith)
      go false true e = absurd (grind arith)
      go false false e =
          let same : WrongLength (length body) ≡ f = cc in
          let asked = and_parts (has_command (command_of body) r) (has_sub (next_of body) r.sub) (found _ rows r h).0 in
          subst (Caused body) same
          (refl, row_named body r (found_tabled _ r h) asked.0 asked.1, no_asks body f whole)

causes : (body : List ℕ) (f : Fault) → request_of body ≡ Err f → Caused body f
unfolding request_of
causes body f e = go (eqb (command_of body) 0x07) refl e
  where
    go : (b : Bool) → eqb (command_of body) 0x07 ≡ b →
        cond b (by_vfo (next_of body) (length body)) (by_command (row_for (command_of body) (next_of body)) body) ≡ Err f → Caused body f
    go true h g = vfo_causes body f e (eqb-true (command_of body) 0x07 h) (next_of body) refl g
    go false h g = row_causes body f e (eqb-false (command_of body) 0x07 h) (row_for (command_of body) (next_of body)) refl g

-- a cause excludes every request and every other fault

excludes : (body : List ℕ) (f : Fault) (q : Asked) → Caused body f → Asks body q → ⊥
excludes body UnknownCommand q h a = h q a.0 (name_command body q (asks_name body q a))
excludes body UnknownSubCommand q h a = h.1 q a.0 (asks_name body q a)
excludes body (WrongLength n) q h a = h.2 q a
excludes body (NotDigits place) q h a = h
excludes body (NotLawful place) q h a = h

-- no request has the command, and one has it
no_command : (body : List ℕ) → Caused body UnknownCommand → (q : Asked) × (Askable q × HasCommand body q) → ⊥
no_command body h q = h q.0 q.1.0 q.1.1

no_name : (body : List ℕ) → Caused body UnknownSubCommand → (q : Asked) × (Askable q × HasName body q) → ⊥
no_name body h q = h.1 q.0 q.1.0 q.1.1

commanded : (body : List ℕ) → (q : Asked) × (Askable q × HasName body q) → (q : Asked) × (Askable q × HasCommand body q)
commanded body q = (q.0, (q.1.0, name_command body q.0 q.1.1))

only_one : (body : List ℕ) (g f : Fault) → Caused body g → Caused body f → g ≡ f
only_one body UnknownCommand UnknownCommand h k = refl
only_one body UnknownCommand UnknownSubCommand h k = absurd (no_command body h k.0)
only_one body UnknownCommand (WrongLength n) h k = absurd (no_command body h (commanded body k.1))
only_one body UnknownCommand (NotDigits place) h k = absurd k
only_one body UnknownCommand (NotLawful place) h k = absurd k
only_one body UnknownSubCommand UnknownCommand h k = absurd (no_command body k h.0)
only_one body UnknownSubCommand UnknownSubCommand h k = refl
only_one body UnknownSubCommand (WrongLength n) h k = absurd (no_name body h k.1)
only_one body UnknownSubCommand (NotDigits place) h k = absurd k
only_one body UnknownSubCommand (NotLawful place) h k = absurd k
only_one body (WrongLength m) UnknownCommand h k = absurd (no_command body k (commanded body h.1))
only_one body (WrongLength m) UnknownSubCommand h k = absurd (no_name body k h.1)
only_one body (WrongLength m) (WrongLength n) h k = ap WrongLength (h.0 ∙ sym k.0)
only_one body (WrongLength m) (NotDigits place) h k = absurd k
only_one body (WrongLength m) (NotLawful place) h k = absurd k
only_one body (NotDigits place) f h k = absurd h
only_one body (NotLawful place) f h k = absurd h

caused : (body : List ℕ) (f : Fault) → Caused body f → request_of body ≡ Err f
caused body f h = go (request_of body) refl
  where
    go : (o : Result Asked Fault) → request_of body ≡ o → o ≡ Err f
    go (Ok q) e = absurd (excludes body f q h ((requests_by_their_bytes body q).0 e))
    go (Err g) e = ap Err (only_one body g f (causes body g e) h)

pub faults_by_their_causes : FaultsByTheirCauses
faults_by_their_causes body f = (causes body f, caused body f)
