-- Fields of digit bytes: the number of a field, and the field of a number. Assumes nothing.
use Rattle.std.specs.Prelude.{◌≡◌, ℕ, zero, suc, ◌+◌, ◌*◌, ◌/◌, ◌%◌, ◌^◌, ◌<◌, true, if◌then◌else◌, List, [], ◌∷◌, reverse, length, Some, None, Ok, Err, Option, Result, nat_lt}
use Rattle.std.specs.Option.{option_map}
use Rattle.digits.specs.declared.Order.{Order}
use Rattle.digits.specs.declared.Order.TheVariants.{LowFirst, HighFirst}
use Rattle.digits.specs.declared.Unreadable.{Unreadable}
use Rattle.digits.specs.declared.Unreadable.TheVariants as unreadable
use Rattle.digits.specs.declared.Unwritable.{Unwritable}
use Rattle.digits.specs.declared.Unwritable.TheVariants as unwritable
use Rattle.digits.specs.Bytes.{is_digit_byte, number_of_byte, digit_byte}

-- the number of a field, low first: its first byte's number plus 100 times that of the rest
abbrev pub low_number : List ℕ → ℕ
low_number [] = 0
low_number (b ∷ bs) = number_of_byte b + 100 * low_number bs

-- a high-first field is read with its bytes reversed
abbrev pub number_of : Order → List ℕ → ℕ
number_of LowFirst bs = low_number bs
number_of HighFirst bs = low_number (reverse bs)

-- the place of the first stray byte: one that is no digit byte
abbrev pub first_stray : List ℕ → Option ℕ
first_stray [] = None
first_stray (b ∷ bs) = if is_digit_byte b then option_map (λ p. p + 1) (first_stray bs) else Some 0

abbrev pub unless_stray : ℕ → Option ℕ → Result ℕ ℕ
unless_stray n None = Ok n
unless_stray n (Some place) = Err place

-- the number of a field, or the place of its first stray byte
abbrev pub number_or_stray : Order → List ℕ → Result ℕ ℕ
number_or_stray o bs = unless_stray (number_of o bs) (first_stray bs)

abbrev not_digits_at : Result ℕ ℕ → Result ℕ Unreadable
not_digits_at (Ok n) = Ok n
not_digits_at (Err place) = Err (unreadable.NotDigits place)

-- what reading a field comes to
abbrev pub field_reading : Order → List ℕ → Result ℕ Unreadable
field_reading o bs = if nat_lt 5 (length bs) then Err unreadable.TooLong else not_digits_at (number_or_stray o bs)

-- the field of a number, low first, at a width
abbrev pub low_field : ℕ → ℕ → List ℕ
low_field zero n = []
low_field (suc w) n = digit_byte (n % 100) ∷ low_field w (n / 100)

-- the field of a number at a width, in an order
abbrev pub field_of : Order → ℕ → ℕ → List ℕ
field_of LowFirst w n = low_field w n
field_of HighFirst w n = reverse (low_field w n)

-- what writing a number into a field of some width comes to: it fits below 100 to the power of the width
abbrev pub field_writing : ℕ → ℕ → Result (Unit {0}) Unwritable
field_writing n w = if nat_lt 5 w then Err unwritable.TooLong else if nat_lt n (100 ^ w) then Ok tt else Err unwritable.DoesNotFit

-- each is a digit byte; a proof goes down the field with it, which the library's word, by places, does not allow
abbrev pub AllDigits : List ℕ → Type 0
AllDigits [] = Unit {0}
AllDigits (b ∷ bs) = (is_digit_byte b ≡ true) × AllDigits bs

-- a field of a number at a width: as long, of digit bytes, and of that number
pub record IsField (o : Order) (w n : ℕ) (bs : List ℕ) : Type 0 where
  pub long : length bs ≡ w
  pub digits : AllDigits bs
  pub number : number_of o bs ≡ n

-- a number below 100 to the power w has exactly one field of w bytes in each order
abbrev pub ExactlyOneField : Type 0
ExactlyOneField =
    (o : Order) (w n : ℕ) → n < 100 ^ w →
    IsField o w n (field_of o w n) × ((bs : List ℕ) → IsField o w n bs → bs ≡ field_of o w n)
