-- A number's field: it is one, it reads back, and it is the only one. Assumes nothing.
use Rattle.std.proofs.Common.{◌≡◌, ℕ, zero, suc, ◌/◌, ◌%◌, ◌^◌, ◌<◌, ◌≤◌, false, ltb, List, [], ◌∷◌, reverse, length, Ok, sym, refl, ap, ◌∙◌, pow-suc, arith}
use Rattle.std.proofs.lemmas.Bool.{le-ltb}
use Rattle.std.proofs.lemmas.List.{reverse-reverse, length-reverse}
use Rattle.digits.specs.declared.Order.{Order}
use Rattle.digits.specs.declared.Order.TheVariants.{LowFirst, HighFirst}
use Rattle.digits.specs.Bytes.{number_of_byte, digit_byte}
use Rattle.digits.specs.Fields.{low_number, low_field, field_of, field_reading, AllDigits, IsField, ExactlyOneField}
use Rattle.digits.proofs.Bytes.{number_small, digit_byte_is_one, number_of_digit_byte, digit_byte_of_number}
use Rattle.digits.proofs.Strays.{reverse_digits, none_stray}

low_length : (w n : ℕ) → length (low_field w n) ≡ w
low_length zero n = refl
low_length (suc w) n = ap suc (low_length w (n / 100))

low_digits : (w n : ℕ) → AllDigits (low_field w n)
low_digits zero n = tt
low_digits (suc w) n = (digit_byte_is_one (n % 100) (omega arith), low_digits w (n / 100))

low_back : (w n : ℕ) → n < 100 ^ w → low_number (low_field w n) ≡ n
low_back zero n h = omega arith
low_back (suc w) n h =
    let k : n / 100 < 100 ^ w = omega (arith, pow-suc 100 w) in
    omega (arith, number_of_digit_byte (n % 100) (omega arith), low_back w (n / 100) k)

pub field_is_one : (o : Order) (w n : ℕ) → n < 100 ^ w → IsField o w n (field_of o w n)
field_is_one LowFirst w n h = record { long = low_length w n; digits = low_digits w n; number = low_back w n h }
field_is_one HighFirst w n h =
    record {
      long = length-reverse (low_field w n) ∙ low_length w n;
      digits = reverse_digits (low_field w n) (low_digits w n);
      number = ap low_number (reverse-reverse (low_field w n)) ∙ low_back w n h;
    }

low_only : (w n : ℕ) (bs : List ℕ) → IsField LowFirst w n bs → bs ≡ low_field w n
low_only zero n [] f = refl
low_only zero n (b ∷ bs) f = absurd (omega arith)
low_only (suc w) n [] f = absurd (omega arith)
low_only (suc w) n (b ∷ bs) f =
    let small = number_small b f.digits.0 in
    let ones : n % 100 ≡ number_of_byte b = omega (arith, f.number) in
    let higher : low_number bs ≡ n / 100 = omega (arith, f.number) in
    let first : b ≡ digit_byte (n % 100) = sym (digit_byte_of_number b f.digits.0) ∙ ap digit_byte (sym ones) in
    let rest : bs ≡ low_field w (n / 100) =
    low_only w (n / 100) bs (record { long = omega (arith, f.long); digits = f.digits.1; number = higher }) in
    cc

field_only : (o : Order) (w n : ℕ) (bs : List ℕ) → IsField o w n bs → bs ≡ field_of o w n
field_only LowFirst w n bs f = low_only w n bs f
field_only HighFirst w n bs f =
    sym (reverse-reverse bs)
    ∙ ap reverse (low_only w n (reverse bs)
    (record { long = length-reverse bs ∙ f.long; digits = reverse_digits bs f.digits; number = f.number }))

pub exactly_one_field : ExactlyOneField
exactly_one_field o w n h = (field_is_one o w n h, field_only o w n)

-- a field that is not too long reads as its number
pub field_reads : (o : Order) (w n : ℕ) (bs : List ℕ) → w ≤ 5 → IsField o w n bs → field_reading o bs ≡ Ok n
field_reads o w n bs l f =
    let short : ltb 5 (length bs) ≡ false = le-ltb 5 (length bs) (omega (arith, f.long)) in
    let fair = none_stray bs f.digits in
    let number = f.number in
    rw (short, fair, number) refl

-- what is written reads back
pub field_back : (o : Order) (w n : ℕ) (bs : List ℕ) → w ≤ 5 → n < 100 ^ w → bs ≡ field_of o w n → field_reading o bs ≡ Ok n
field_back o w n bs l h e = ap (field_reading o) e ∙ field_reads o w n (field_of o w n) l (field_is_one o w n h)
