-- Reading a field byte by byte, from either end. Assumes nothing.
use Rattle.std.proofs.Common.{◌≡◌, ℕ, ◌+◌, ◌-◌, ◌*◌, ◌^◌, ◌<◌, ◌≤◌, Bool, true, false, cond, List, [], ◌∷◌, ◌++◌, reverse, length, get_or, take, drop, Some, None, Ok, Err, Option, Result, sym, refl, ap, subst, lt_of_lt_of_le, pow-suc, arith, lit<}
use Rattle.std.proofs.Math.Nat.{pow-le-pow_right}
use Rattle.std.proofs.lemmas.List.{length-take, length-drop, take_more, take_all, reverse-append, length-reverse}
use Rattle.digits.specs.declared.Order.{Order}
use Rattle.digits.specs.declared.Order.TheVariants.{LowFirst, HighFirst}
use Rattle.digits.specs.Bytes.{is_digit_byte, number_of_byte}
use Rattle.digits.specs.Fields.{low_number, number_of, first_stray, unless_stray, number_or_stray, AllDigits}
use Rattle.digits.proofs.Bytes.{number_small}
use Rattle.digits.proofs.Strays.{reverse_digits, from_front, all_digits, Within, stray_within, stray_push}

-- what the pattern `[first, rest @ ..]` binds
abbrev pub rest_of : List ℕ → List ℕ
rest_of bs = take (length bs - 1) (drop 1 bs)

-- what a field comes to from what its front does, with a last byte of the number n at place k
abbrev pub after_front : Bool → ℕ → ℕ → Result ℕ ℕ → Result ℕ ℕ
after_front t n k (Ok higher) = cond t (Ok (n + 100 * higher)) (Err k)
after_front t n k (Err place) = Err place

after_front_is : (t : Bool) (n k m : ℕ) (o : Option ℕ) → after_front t n k (unless_stray m o) ≡ unless_stray (n + 100 * m) (from_front o t k)
after_front_is true n k m None = refl
after_front_is false n k m None = refl
after_front_is t n k m (Some p) = refl

push_step : (bs : List ℕ) (b : ℕ) →
    after_front (is_digit_byte b) (number_of_byte b) (length bs) (number_or_stray HighFirst bs) ≡ number_or_stray HighFirst (bs ++ b ∷ [])
push_step bs b =
    let number : low_number (reverse (bs ++ b ∷ [])) ≡ number_of_byte b + 100 * low_number (reverse bs) = ap low_number (reverse-append bs (b ∷ [])) in
    let stray = stray_push bs b in
    let step = after_front_is (is_digit_byte b) (number_of_byte b) (length bs) (low_number (reverse bs)) (first_stray bs) in
    cc

-- what the pattern `[front @ .., last]` binds
abbrev pub front_of : List ℕ → List ℕ
front_of bs = take (length bs - 1) bs

abbrev pub last_of : List ℕ → ℕ
last_of bs = get_or bs (length bs - 1) 0

pub high_step : (bs : List ℕ) (r : Result ℕ ℕ) → 1 ≤ length bs → r ≡ number_or_stray HighFirst (front_of bs) →
    after_front (is_digit_byte (last_of bs)) (number_of_byte (last_of bs)) (length (front_of bs)) r ≡ number_or_stray HighFirst bs
high_step bs r h e =
    let k = length bs - 1 in
    let whole = take_all (k + 1) bs (omega arith) in
    let parts = take_more bs k 0 (omega arith) in
    let step = push_step (front_of bs) (last_of bs) in
    cc

low_below : (bs : List ℕ) → AllDigits bs → low_number bs < 100 ^ length bs
low_below [] h = lit< tt
low_below (b ∷ bs) h = omega (arith, pow-suc 100 (length bs), number_small b h.0, low_below bs h.1)

number_below : (o : Order) (bs : List ℕ) → AllDigits bs → number_of o bs < 100 ^ length bs
number_below LowFirst bs h = low_below bs h
number_below HighFirst bs h = rw (← length-reverse bs) (low_below (reverse bs) (reverse_digits bs h))

-- a number below 100 to the power k, or a place below k
abbrev pub Below : ℕ → Result ℕ ℕ → Type 0
Below k (Ok n) = n < 100 ^ k
Below k (Err place) = place < k

below_from : (k n : ℕ) (o : Option ℕ) → (o ≡ None → n < 100 ^ k) → Within k o → Below k (unless_stray n o)
below_from k n None f w = f refl
below_from k n (Some p) f w = w

below_weaker : (j k : ℕ) (r : Result ℕ ℕ) → j ≤ k → Below j r → Below k r
below_weaker j k (Ok n) l h = lt_of_lt_of_le h (pow-le-pow_right {n = 100} (lit< tt) l)
below_weaker j k (Err place) l h = omega arith

pub reading_below : (o : Order) (bs : List ℕ) (k : ℕ) (r : Result ℕ ℕ) → length bs ≤ k → r ≡ number_or_stray o bs → Below k r
reading_below o bs k r l e =
    subst (Below k) (sym e)
    (below_weaker (length bs) k (number_or_stray o bs) l
    (below_from (length bs) (number_of o bs) (first_stray bs) (λ n. number_below o bs (all_digits bs n)) (stray_within bs)))

-- the same of all bytes but one of a field that is not too long
pub rest_below : (bs : List ℕ) (r : Result ℕ ℕ) → length bs ≤ 5 → r ≡ number_or_stray LowFirst (rest_of bs) → Below 4 r
rest_below bs r l e = reading_below LowFirst (rest_of bs) 4 r (simp (length-take, length-drop) (omega arith)) e

pub front_below : (bs : List ℕ) (r : Result ℕ ℕ) → length bs ≤ 5 → r ≡ number_or_stray HighFirst (front_of bs) → Below 4 r
front_below bs r l e = reading_below HighFirst (front_of bs) 4 r (simp length-take (omega arith)) e
