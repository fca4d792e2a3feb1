-- Digit bytes. Assumes nothing.
use Rattle.std.specs.Prelude.{ℕ, ◌+◌, ◌*◌, ◌/◌, ◌%◌, Bool, ◌&&◌, if◌then◌else◌, nat_lt}

-- a byte of two decimal digits, the higher in its upper four bits
abbrev pub is_digit_byte : ℕ → Bool
is_digit_byte b = nat_lt (b / 16) 10 && nat_lt (b % 16) 10

-- the number of a byte: 0 to 99, or 255 where a half is above 9
abbrev pub number_of_byte : ℕ → ℕ
number_of_byte b = if is_digit_byte b then 10 * (b / 16) + b % 16 else 255

-- the byte of a number below 100
abbrev pub digit_byte : ℕ → ℕ
digit_byte n = 16 * (n / 10) + n % 10
