-- The first stray byte of a field, and fields that have none. Assumes nothing.
use Rattle.std.proofs.Common.{◌≡◌, ℕ, suc, ◌+◌, ◌<◌, Bool, true, false, cond, List, [], ◌∷◌, ◌++◌, reverse, length, Some, None, Option, refl, ap, ◌∙◌, arith}
use mathlib.Core.List.{reverse_aux}
use Rattle.std.specs.Option.{option_map}
use Rattle.digits.specs.Bytes.{is_digit_byte}
use Rattle.digits.specs.Fields.{first_stray, AllDigits}

onto_digits : (bs cs : List ℕ) → AllDigits bs → AllDigits cs → AllDigits (reverse_aux bs cs)
onto_digits [] cs h k = k
onto_digits (b ∷ bs) cs h k = onto_digits bs (b ∷ cs) h.1 (h.0, k)

pub reverse_digits : (bs : List ℕ) → AllDigits bs → AllDigits (reverse bs)
reverse_digits bs h = onto_digits bs [] h tt

-- the first stray byte of a field from that of its rest, where its first byte is a digit byte or not
abbrev pub from_rest : Bool → Option ℕ → Option ℕ
from_rest t o = cond t (option_map (λ p. p + 1) o) (Some 0)

pub none_stray : (bs : List ℕ) → AllDigits bs → first_stray bs ≡ None
none_stray [] h = refl
none_stray (b ∷ bs) h = let rest = none_stray bs h.1 in ap (λ t. from_rest t (first_stray bs)) h.0 ∙ ap (from_rest true) rest

both_fair : (t : Bool) (o : Option ℕ) → from_rest t o ≡ None → (t ≡ true) × (o ≡ None)
both_fair true None h = (refl, refl)
both_fair true (Some p) h = (refl, cc)
both_fair false o h = (cc, cc)

pub all_digits : (bs : List ℕ) → first_stray bs ≡ None → AllDigits bs
all_digits [] h = tt
all_digits (b ∷ bs) h = let f = both_fair (is_digit_byte b) (first_stray bs) h in (f.0, all_digits bs f.1)

-- a place, where there is one, is below k
abbrev pub Within : ℕ → Option ℕ → Type 0
Within k None = Unit {0}
Within k (Some p) = p < k

within_more : (k : ℕ) (t : Bool) (o : Option ℕ) → Within k o → Within (suc k) (from_rest t o)
within_more k true None h = tt
within_more k true (Some p) h = omega arith
within_more k false o h = omega arith

pub stray_within : (bs : List ℕ) → Within (length bs) (first_stray bs)
stray_within [] = tt
stray_within (b ∷ bs) = within_more (length bs) (is_digit_byte b) (first_stray bs) (stray_within bs)

-- the first stray byte of a field from that of its front, with the last byte at place k
abbrev pub from_front : Option ℕ → Bool → ℕ → Option ℕ
from_front None t k = cond t None (Some k)
from_front (Some p) t k = Some p

front_more : (t : Bool) (o : Option ℕ) (u : Bool) (k : ℕ) → from_rest t (from_front o u k) ≡ from_front (from_rest t o) u (suc k)
front_more true None true k = refl
front_more true None false k = ap Some (omega arith)
front_more true (Some p) u k = refl
front_more false o u k = refl

pub stray_push : (bs : List ℕ) (b : ℕ) → first_stray (bs ++ b ∷ []) ≡ from_front (first_stray bs) (is_digit_byte b) (length bs)
stray_push [] b = refl
stray_push (a ∷ bs) b =
    ap (from_rest (is_digit_byte a)) (stray_push bs b) ∙ front_more (is_digit_byte a) (first_stray bs) (is_digit_byte b) (length bs)
