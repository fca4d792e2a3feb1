-- A body is decoded by its bytes, data included. Assumes nothing.
use Rattle.std.proofs.Common.{◌≡◌, ℕ, ◌+◌, Bool, true, false, cond, List, [], ◌∷◌, ◌++◌, length, Some, None, Ok, Err, Option, Result, sym, refl, ap, ◌∙◌, subst, add-one, arith}
use Rattle.std.specs.Option.{option_map}
use Rattle.std.proofs.lemmas.Bool.{cond-true, cond-false}
use Rattle.digits.specs.Bytes.{is_digit_byte}
use Rattle.digits.specs.Fields.{AllDigits, number_of, unless_stray, first_stray}
use Rattle.digits.proofs.Strays.{none_stray, all_digits, from_rest}
use Rattle.commands.specs.declared.settings.Setting.{Setting}
use Rattle.commands.specs.declared.faults.Fault.{Fault}
use Rattle.commands.specs.declared.faults.Fault.TheVariants.{UnknownCommand, UnknownSubCommand, WrongLength, NotDigits, NotLawful}
use Rattle.commands.specs.declared.instructions.Instruction.{Instruction}
use Rattle.commands.specs.declared.instructions.Instruction.TheVariants.{Read, Write, Vfo}
use Rattle.commands.specs.Settings.{lawful}
use Rattle.commands.specs.Requests.{Asked, read, write, vfo, request_of}
use Rattle.commands.specs.Instructions.{order_of, completed, if_lawful, if_digits, written, writing, instructed, instruction_of}
use Rattle.commands.specs.Asking.{Asks, Caused}
use Rattle.commands.specs.Telling.{AsksToWrite, number_named, FirstStray, Tells, Faulted, DecodedByTheBytes}
use Rattle.commands.proofs.Asking.{requests_by_their_bytes}
use Rattle.commands.proofs.Causes.{faults_by_their_causes}

-- the place of the first stray byte

stray_found : (front : List ℕ) (b : ℕ) (back : List ℕ) → AllDigits front → is_digit_byte b ≡ false → first_stray (front ++ (b ∷ back)) ≡ Some (length front)
stray_found [] b back d n = cond-false _ _ _ n
stray_found (c ∷ front) b back d n =
    cond-true _ _ _ d.0 ∙ ap (option_map (λ p. p + 1)) (stray_found front b back d.1 n) ∙ ap Some (add-one (length front))

one_further : (b : ℕ) (bs : List ℕ) (k : ℕ) → is_digit_byte b ≡ true → FirstStray bs k → FirstStray (b ∷ bs) (k + 1)
one_further b bs k d f =
    record {
      front = b ∷ f.front;
      stray = f.stray;
      back = f.back;
      stands = ap (λ xs. b ∷ xs) f.stands;
      digits = (d, f.digits);
      none = f.none;
      place = omega (arith, f.place);
    }

stray_is_first : (bs : List ℕ) (k : ℕ) → first_stray bs ≡ Some k → FirstStray bs k
stray_is_first [] k e = absurd (grind arith)
stray_is_first (b ∷ bs) k e = go (is_digit_byte b) refl (first_stray bs) (stray_is_first bs) e
  where
    go : (t : Bool) → is_digit_byte b ≡ t → (o : Option ℕ) → ((j : ℕ) → o ≡ Some j → FirstStray bs j) → from_rest t o ≡ Some k → FirstStray (b ∷ bs) k
    go true h None f e = absurd (grind arith)
    go true h (Some j) f e = let same : j + 1 ≡ k = cc in subst (FirstStray (b ∷ bs)) same (one_further b bs j h (f j refl))
    go false h o f e =
        let same : 0 ≡ k = cc in
        record { front = []; stray = b; back = bs; stands = refl; digits = tt; none = h; place = same }

-- what the data of a writing come to

module _ (s : Setting) (bytes : List ℕ) (place : ℕ) where
  written_digits : AllDigits bytes → written s bytes place ≡ if_lawful s place (completed s (length bytes) (number_of (order_of s) bytes))
  written_digits d = ap (λ o. if_digits s (length bytes) place (unless_stray (number_of (order_of s) bytes) o)) (none_stray bytes d)

  written_stray : (k : ℕ) → FirstStray bytes k → written s bytes place ≡ Err (NotDigits (place + k))
  written_stray k f =
      ap (λ o. if_digits s (length bytes) place (unless_stray (number_of (order_of s) bytes) o))
      (ap first_stray f.stands ∙ stray_found f.front f.stray f.back f.digits f.none ∙ ap Some f.place)

-- what a writing comes to, from its first stray byte and whether its number is lawful
abbrev outcome : Setting → List ℕ → ℕ → Option ℕ → Result Instruction Fault
outcome s bytes place o = writing s (if_digits s (length bytes) place (unless_stray (number_of (order_of s) bytes) o))

abbrev lawful_outcome : Setting → ℕ → ℕ → Bool → Result Instruction Fault
lawful_outcome s place n b = writing s (cond b (Ok n) (Err (NotLawful place)))

module _ (body : List ℕ) where
  asked_so : (q : Asked) → request_of body ≡ Ok q → Asks body q
  asked_so q = (requests_by_their_bytes body q).0

  module _ (s : Setting) (bytes : List ℕ) (place : ℕ) (asked : request_of body ≡ Ok (write s bytes place)) where
    abbrev the_writing : AsksToWrite body
    the_writing = record { setting = s; bytes = bytes; place = place; asks = asked_so (write s bytes place) asked }

    writing_tells : (i : Instruction) (o : Option ℕ) → first_stray bytes ≡ o → outcome s bytes place o ≡ Ok i → Tells body i
    writing_tells i (Some k) f e = absurd (grind arith)
    writing_tells i None f e = go (lawful s.number (number_named the_writing)) refl e
      where
        go : (b : Bool) → lawful s.number (number_named the_writing) ≡ b → lawful_outcome s place (number_named the_writing) b ≡ Ok i → Tells body i
        go true h e =
            let same : Write s (number_named the_writing) ≡ i = cc in
            subst (Tells body) same (the_writing, (refl, all_digits bytes f, refl, h))
        go false h e = absurd (grind arith)

    writing_faulted : (g : Fault) (o : Option ℕ) → first_stray bytes ≡ o → outcome s bytes place o ≡ Err g → Faulted body g
    writing_faulted g (Some k) f e =
        let same : NotDigits (place + k) ≡ g = cc in
        subst (Faulted body) same (the_writing, (k, (stray_is_first bytes k f, refl)))
    writing_faulted g None f e = go (lawful s.number (number_named the_writing)) refl e
      where
        go : (b : Bool) → lawful s.number (number_named the_writing) ≡ b → lawful_outcome s place (number_named the_writing) b ≡ Err g → Faulted body g
        go true h e = absurd (grind arith)
        go false h e =
            let same : NotLawful place ≡ g = cc in
            subst (Faulted body) same (the_writing, (all_digits bytes f, h, refl))

  tells : (i : Instruction) (o : Result Asked Fault) → request_of body ≡ o → instructed o ≡ Ok i → Tells body i
  tells i (Ok (read s)) f e = let same : Read s ≡ i = cc in subst (Tells body) same (asked_so (read s) f)
  tells i (Ok (write s bytes place)) f e = writing_tells s bytes place f i (first_stray bytes) refl e
  tells i (Ok (vfo v)) f e = let same : Vfo v ≡ i = cc in subst (Tells body) same (asked_so (vfo v) f)
  tells i (Err g) f e = absurd (grind arith)

  cause_faults : (g : Fault) → Caused body g → Faulted body g
  cause_faults UnknownCommand h = h
  cause_faults UnknownSubCommand h = h
  cause_faults (WrongLength n) h = h
  cause_faults (NotDigits place) h = absurd h
  cause_faults (NotLawful place) h = absurd h

  faulted : (g : Fault) (o : Result Asked Fault) → request_of body ≡ o → instructed o ≡ Err g → Faulted body g
  faulted g (Ok (read s)) f e = absurd (grind arith)
  faulted g (Ok (write s bytes place)) f e = writing_faulted s bytes place f g (first_stray bytes) refl e
  faulted g (Ok (vfo v)) f e = absurd (grind arith)
  faulted g (Err h) f e = let same : h ≡ g = cc in subst (Faulted body) same (cause_faults h ((faults_by_their_causes body h).0 f))

  -- from the bytes to what they tell

  asked_write : (w : AsksToWrite body) → instruction_of body ≡ writing w.setting (written w.setting w.bytes w.place)
  asked_write w = ap instructed ((requests_by_their_bytes body (write w.setting w.bytes w.place)).1 w.asks)

  digits_outcome : (w : AsksToWrite body) (b : Bool) → AllDigits w.bytes → lawful w.setting.number (number_named w) ≡ b →
      instruction_of body ≡ lawful_outcome w.setting w.place (number_named w) b
  digits_outcome w b d h =
      asked_write w ∙ ap (writing w.setting) (written_digits w.setting w.bytes w.place d)
      ∙ ap (lawful_outcome w.setting w.place (number_named w)) h

  told : (i : Instruction) → Tells body i → instruction_of body ≡ Ok i
  told (Read s) h = ap instructed ((requests_by_their_bytes body (read s)).1 h)
  told (Write s n) (w, (of, d, is, fair)) =
      digits_outcome w true d (ap (λ x. lawful x.number (number_named w)) of ∙ ap (lawful s.number) is ∙ fair)
      ∙ ap (λ x. Ok (Write x (number_named w))) of ∙ ap (λ m. Ok (Write s m)) is
  told (Vfo v) h = ap instructed ((requests_by_their_bytes body (vfo v)).1 h)

  fault_told : (g : Fault) → Faulted body g → instruction_of body ≡ Err g
  fault_told UnknownCommand h = ap instructed ((faults_by_their_causes body UnknownCommand).1 h)
  fault_told UnknownSubCommand h = ap instructed ((faults_by_their_causes body UnknownSubCommand).1 h)
  fault_told (WrongLength n) h = ap instructed ((faults_by_their_causes body (WrongLength n)).1 h)
  fault_told (NotDigits place) (w, (k, (f, is))) =
      asked_write w ∙ ap (writing w.setting) (written_stray w.setting w.bytes w.place k f)
      ∙ ap (λ p. Err (NotDigits p)) (sym is)
  fault_told (NotLawful place) (w, (d, wrong, is)) = digits_outcome w false d wrong ∙ ap (λ p. Err (NotLawful p)) (sym is)

pub decoded_by_the_bytes : DecodedByTheBytes
decoded_by_the_bytes body =
    ((λ i. (tells body i (request_of body) refl, told body i)), (λ g. (faulted body g (request_of body) refl, fault_told body g)))
