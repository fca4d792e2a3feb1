-- Writing a field byte by byte. Assumes nothing.
use Rattle.std.proofs.Common.{◌≡◌, ℕ, suc, ◌+◌, ◌-◌, ◌/◌, ◌%◌, ◌<◌, List, [], ◌∷◌, ◌++◌, length, take, set, ap, arith}
use Rattle.std.proofs.lemmas.List.{append_assoc, length-set, take_more_set}
use Rattle.digits.specs.Bytes.{digit_byte}
use Rattle.digits.specs.Fields.{low_field}

-- the first i bytes are written, and the rest is the field of m
abbrev pub Written : List ℕ → ℕ → ℕ → ℕ → Type 0
Written bs i m n = take i bs ++ low_field (length bs - i) m ≡ low_field (length bs) n

pub written_more : (bs : List ℕ) (i m n b : ℕ) → i < length bs → b ≡ digit_byte (m % 100) → Written bs i m n → Written (set bs i b) (i + 1) (m / 100) n
written_more bs i m n b l e w =
    let long = length-set bs i b in
    let front = take_more_set bs i b l in
    let left : length bs - i ≡ suc (length bs - (i + 1)) = omega arith in
    let joined = append_assoc (take i bs) (b ∷ []) (low_field (length bs - (i + 1)) (m / 100)) in
    let step : low_field (length bs - i) m ≡ digit_byte (m % 100) ∷ low_field (length bs - (i + 1)) (m / 100) = ap (λ k. low_field k m) left in
    cc
