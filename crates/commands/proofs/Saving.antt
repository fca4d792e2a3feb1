-- A saved data reply goes back as the same number. Assumes nothing.
use Rattle.std.proofs.Common.{◌≡◌, ℕ, ◌+◌, ◌^◌, ◌<◌, ◌≤◌, true, false, ◌&&◌, eqb, List, ◌∷◌, ◌++◌, length, drop, Some, None, Ok, Option, sym, refl, ap, ◌∙◌, subst, arith, length-append}
use Rattle.std.proofs.lemmas.Bool.{lt-ltb, le-leb, eq-eqb, ne_eqb, and_from, or_from, or_left, not_from_false, cond-true, cond-false}
use Rattle.std.specs.Prelude.{All}
use Rattle.std.specs.Option.{option_to_list, option_map_or}
use Rattle.std.proofs.lemmas.List.Elements.{All-cons, All-head}
use Rattle.digits.specs.declared.Order.{Order}
use Rattle.digits.specs.declared.Order.TheVariants.{HighFirst}
use Rattle.digits.specs.Fields.{field_of, number_or_stray, unless_stray, number_of}
use Rattle.digits.proofs.Fields.{field_is_one}
use Rattle.digits.proofs.Strays.{none_stray}
use Rattle.framing.specs.Frames.{NoEnd, sound}
use Rattle.commands.specs.declared.settings.Setting.{Setting}
use Rattle.commands.specs.declared.rows.Row.{Row}
use Rattle.commands.specs.declared.instructions.Instruction.TheVariants.{Write}
use Rattle.commands.specs.declared.answers.Answer.TheVariants.{Number}
use Rattle.commands.specs.Settings.{lawful}
use Rattle.commands.specs.Rows.{read_bytes, write_bytes}
use Rattle.commands.specs.Requests.{takes_length, data_place}
use Rattle.commands.specs.Instructions.{order_of, if_digits, if_lawful, written, writing, instructed, instruction_of}
use Rattle.commands.specs.Answers.{number_bytes, answer_bytes, front, framed}
use Rattle.commands.specs.Saving.{rewritten, write_back, SavedGoesBack}
use Rattle.commands.proofs.Parsing.{sub_short}
use Rattle.commands.proofs.Quiet.{Quiet, named_field_quiet, quiet_no_end, quiet_clean}
use Rattle.commands.proofs.Tabled.{Small, Tabled, listed_row}
use Rattle.commands.proofs.Lawful.{lawful_listed, lawful_fits}
use Rattle.commands.proofs.Asking.{asked_write}

-- a number's field reads as the number
field_read : (o : Order) (w n : ℕ) → n < 100 ^ w → number_or_stray o (field_of o w n) ≡ Ok n
field_read o w n h =
    let f = field_is_one o w n h in
    ap (unless_stray (number_of o (field_of o w n))) (none_stray (field_of o w n) f.digits) ∙ ap Ok f.number

field_stands : (sub : Option ℕ) (to from c : ℕ) (ys : List ℕ) → drop (5 + length (option_to_list sub)) (0xFE ∷ 0xFE ∷ to ∷ from ∷ c ∷ (option_to_list sub ++ ys)) ≡ ys
field_stands None to from c ys = refl
field_stands (Some k) to from c ys = refl

-- the row of a setting with a lawful number
record Kept (s : Setting) (n : ℕ) : Type 0 where
  pub row : Row
  pub tabled : Tabled row
  pub of : row.setting ≡ s
  pub fair : lawful row.setting.number n ≡ true
  pub fits : n < 100 ^ row.bytes

kept : (s : Setting) (n : ℕ) → lawful s.number n ≡ true → Kept s n
kept s n fair =
    let l = listed_row s (lawful_listed s.number n fair) in
    let again : lawful l.row.setting.number n ≡ true = ap (λ x. lawful x.number n) l.of ∙ fair in
    record {
      row = l.row;
      tabled = l.tabled;
      of = l.of;
      fair = again;
      fits = lawful_fits _ l.row l.is n again;
    }

-- its field, the bytes of the answer with it, and the body that writes it
abbrev field : {s : Setting} {n : ℕ} → Kept s n → List ℕ
field {n = n} k = field_of k.row.order k.row.bytes n

abbrev bytes_told : {s : Setting} {n : ℕ} → Kept s n → List ℕ
bytes_told k = read_bytes k.row ++ field k

abbrev body_back : {s : Setting} {n : ℕ} → Kept s n → ℕ → ℕ → List ℕ
body_back k address sender = address ∷ sender ∷ (write_bytes k.row ++ field k)

module _ (s : Setting) (n : ℕ) (k : Kept s n) where
  field_long : length (field k) ≡ k.row.bytes
  field_long = (field_is_one k.row.order k.row.bytes n k.fits).long

  told : answer_bytes (Number s n) ≡ Ok (bytes_told k)
  told =
      ap (λ x. answer_bytes (Number x n)) (sym k.of) ∙ ap (λ o. number_bytes o n) k.tabled.by_setting
      ∙ cond-true _ _ _ (lt-ltb n (100 ^ k.row.bytes) k.fits)

  written_back : (to from address sender : ℕ) → write_back address sender (front to from ++ bytes_told k) ≡ body_back k address sender
  written_back to from address sender =
      ap (λ o. address ∷ sender ∷ rewritten o (front to from ++ bytes_told k)) (k.tabled.by_read (field k))
      ∙ ap (λ xs. address ∷ sender ∷ (write_bytes k.row ++ xs)) (field_stands k.row.sub to from k.row.read (field k))

  -- as data, the field is the number again
  field_written : (place : ℕ) → written k.row.setting (field k) place ≡ Ok n
  field_written place =
      let r = k.row in
      let order : order_of r.setting ≡ r.order = ap (λ o. option_map_or (λ x. x.order) o HighFirst) k.tabled.by_setting in
      let alone : (eqb r.setting.number 1 && eqb (length (field k)) 1) ≡ false =
      ap (λ m. eqb r.setting.number 1 && eqb m 1) field_long ∙ k.tabled.mode_filtered in
      ap (λ o. if_digits r.setting (length (field k)) place (number_or_stray o (field k))) order
      ∙ ap (if_digits r.setting (length (field k)) place) (field_read r.order r.bytes n k.fits)
      ∙ ap (if_lawful r.setting place) (cond-false _ _ _ alone)
      ∙ cond-true _ _ _ k.fair

  sets_again : (address sender : ℕ) → instruction_of (body_back k address sender) ≡ Ok (Write s n)
  sets_again address sender =
      let r = k.row in
      let takes : takes_length r (length (field k)) ≡ true = or_left (eqb (length (field k)) r.bytes) _ (eq-eqb (length (field k)) r.bytes field_long) in
      ap instructed (asked_write r address sender (field k) k.tabled takes)
      ∙ ap (writing r.setting) (field_written (data_place r))
      ∙ ap (λ x. Ok (Write x n)) k.of

  module _ (address sender : ℕ) (receiver : address ≤ 0xDF) (low : 0xE0 ≤ sender) (high : sender ≤ 0xEF) where
    quiet_back : All Quiet (body_back k address sender)
    quiet_back =
        let told = write_bytes k.row ++ field k in
        All-cons Quiet address (sender ∷ told) (omega arith)
        (All-cons Quiet sender told high
        (named_field_quiet (write_bytes k.row) (field k) k.tabled.write_small (field_is_one k.row.order k.row.bytes n k.fits).digits))

    sound_back : sound (body_back k address sender) ≡ true
    sound_back =
        let r = k.row in
        let body = body_back k address sender in
        let command : r.write ≤ 0x99 = All-head Small k.row.write _ k.tabled.write_small in
        let long : 3 ≤ length body = omega arith in
        let short : length body ≤ 40 = omega (arith, length-append (option_to_list r.sub) (field k), field_long, k.tabled.most, sub_short r.sub) in
        let no_answer =
        or_from (eqb r.write 0xFA) (eqb r.write 0xFB) (ne_eqb r.write 0xFA (λ e. omega arith)) (ne_eqb r.write 0xFB (λ e. omega arith)) in
        and_from _ _ (and_from _ _ (le-leb 3 (length body) long) (le-leb (length body) 40 short))
        (and_from _ _ (quiet_clean body quiet_back)
        (and_from _ _ (and_from _ _ (le-leb 0xE0 sender low) (le-leb sender 0xEF high)) (not_from_false _ no_answer)))

pub saved_goes_back : SavedGoesBack
saved_goes_back to from s n fair =
    let k = kept s n fair in
    record {
      saved = front to from ++ bytes_told k;
      replied = ap (framed to from) (told s n k);
      sets_again = λ address sender. ap instruction_of (written_back s n k to from address sender) ∙ sets_again s n k address sender;
      sound_again = λ address sender receiver low high.
          let body = sym (written_back s n k to from address sender) in (
            subst (λ xs. sound xs ≡ true) body (sound_back s n k address sender receiver low high),
            subst NoEnd body (quiet_no_end (body_back k address sender) (quiet_back s n k address sender receiver low high)),
          );
    }
