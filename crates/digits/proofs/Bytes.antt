-- Digit bytes and their numbers. Assumes nothing.
use Rattle.std.proofs.Common.{◌≡◌, ℕ, ◌+◌, ◌*◌, ◌/◌, ◌%◌, ◌<◌, true, ltb, arith}
use Rattle.std.proofs.lemmas.Bool.{lt-ltb, ltb-true, and_from, and_parts, cond-true}
use Rattle.digits.specs.Bytes.{is_digit_byte, number_of_byte, digit_byte}

-- a byte's two digits
record Digits (b : ℕ) : Type 0 where
  pub upper : b / 16 < 10
  pub lower : b % 16 < 10
  pub number : number_of_byte b ≡ 10 * (b / 16) + b % 16

digits_of : (b : ℕ) → is_digit_byte b ≡ true → Digits b
digits_of b h =
    let halves = and_parts (ltb (b / 16) 10) (ltb (b % 16) 10) h in
    record {
      upper = ltb-true (b / 16) 10 halves.0;
      lower = ltb-true (b % 16) 10 halves.1;
      number = cond-true (is_digit_byte b) _ _ h;
    }

pub number_small : (b : ℕ) → is_digit_byte b ≡ true → number_of_byte b < 100
number_small b h = let d = digits_of b h in omega arith

module _ (n : ℕ) (small : n < 100) where
  upper_is : digit_byte n / 16 ≡ n / 10
  upper_is = omega arith

  lower_is : digit_byte n % 16 ≡ n % 10
  lower_is = omega arith

  pub digit_byte_is_one : is_digit_byte (digit_byte n) ≡ true
  digit_byte_is_one =
      and_from (ltb (digit_byte n / 16) 10) (ltb (digit_byte n % 16) 10)
      (lt-ltb (digit_byte n / 16) 10 (omega (arith, upper_is))) (lt-ltb (digit_byte n % 16) 10 (omega (arith, lower_is)))

  pub number_of_digit_byte : number_of_byte (digit_byte n) ≡ n
  number_of_digit_byte = omega (arith, (digits_of (digit_byte n) digit_byte_is_one).number, upper_is, lower_is)

-- a digit byte is the byte of its number
pub digit_byte_of_number : (b : ℕ) → is_digit_byte b ≡ true → digit_byte (number_of_byte b) ≡ b
digit_byte_of_number b h =
    let d = digits_of b h in
    let tens : number_of_byte b / 10 ≡ b / 16 = omega arith in
    let ones : number_of_byte b % 10 ≡ b % 16 = omega arith in
    omega arith
