-- Pairs with a space after each, and the line that they become. Assumes nothing.
use Rattle.std.proofs.Common.{◌≡◌, ℕ, suc, ◌+◌, ◌-◌, ◌*◌, ◌/◌, ◌%◌, ◌<◌, List, [], ◌∷◌, ◌++◌, length, get_or, take, drop, set, sym, refl, ap, ◌∙◌, append_assoc, arith, length-append}
use borrow.Rule.Slice.PartMut.{put_mid}
use Rattle.std.proofs.lemmas.List.{take_more, length-take-le, set-append_left, take_at, drop_at, drop-drop}
use Rattle.std.proofs.lemmas.List.Concat.{flat_map-append}
use Rattle.hexadecimal.specs.Lines.{digit_char, line, pair, spaced}
use Rattle.hexadecimal.specs.Memory.{in_front}

pub length_spaced : (bs : List ℕ) → length (spaced bs) ≡ 3 * length bs
length_spaced [] = refl
length_spaced (b ∷ bs) = let e = length_spaced bs in omega arith

pub length_line : (bs : List ℕ) → 0 < length bs → length (line bs) ≡ 3 * length bs
length_line [] h = absurd (omega arith)
length_line (b ∷ []) h = refl
length_line (b ∷ c ∷ cs) h = let e = length_line (c ∷ cs) (omega arith) in omega arith

-- LF in place of the last space
spaced_ended : (bs : List ℕ) (k : ℕ) → k + 1 ≡ 3 * length bs → set (spaced bs) k 10 ≡ line bs
spaced_ended [] k e = absurd (omega arith)
spaced_ended (b ∷ []) k e = let two : k ≡ 2 = omega arith in rw two
spaced_ended (b ∷ c ∷ cs) k e =
    let on : k ≡ suc (suc (suc (k - 3))) = omega arith in
    rw on (ap (λ ys. digit_char (b / 16) ∷ digit_char (b % 16) ∷ 32 ∷ ys) (spaced_ended (c ∷ cs) (k - 3) (omega arith)))

pub line_in_front : (bs memory : List ℕ) → 0 < length bs → set (in_front (spaced bs) memory) (3 * length bs - 1) 10 ≡ in_front (line bs) memory
line_in_front bs memory h =
    let k = 3 * length bs - 1 in
    set-append_left (spaced bs) (drop (length (spaced bs)) memory) k 10 (omega (arith, length_spaced bs))
    ∙ (λ j. spaced_ended bs k (omega arith) j ++ drop ((length_spaced bs ∙ sym (length_line bs h)) j) memory)

-- one part more at the start of a memory
in_front_more : (text memory part : List ℕ) (n k : ℕ) → length text ≡ n → length part ≡ k → put_mid n k (in_front text memory) part ≡ in_front (text ++ part) memory
in_front_more text memory part n k e f =
    let rest = drop (length text) memory in
    (λ j. take_at text rest n e j ++ (part ++ drop k (drop_at text rest n e j)))
    ∙ ap (λ left. text ++ (part ++ left)) (drop-drop k (length text) memory)
    ∙ sym (append_assoc text part (drop (length text + k) memory))
    ∙ ap (λ m. (text ++ part) ++ drop m memory) (omega (arith, length-append text part))

-- the pair and the space of one byte more
pub spaced_turn : (bs memory part : List ℕ) (i k : ℕ) → i < length bs → k ≡ 3 → part ≡ pair (get_or bs i 0) → put_mid (3 * i) k (in_front (spaced (take i bs)) memory) part ≡ in_front (spaced (take (i + 1) bs)) memory
spaced_turn bs memory part i k h three e =
    in_front_more (spaced (take i bs)) memory part (3 * i) k (length_spaced (take i bs) ∙ ap (λ n. 3 * n) (length-take-le i bs (omega arith))) (ap length e ∙ sym three)
    ∙ ap (λ text. in_front text memory) (ap (λ p. spaced (take i bs) ++ p) e ∙ sym (ap spaced (take_more bs i 0 h) ∙ flat_map-append pair (take i bs) (get_or bs i 0 ∷ [])))
