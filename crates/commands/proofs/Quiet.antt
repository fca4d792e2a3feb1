-- Bytes that have no meaning of their own on the wire. Assumes nothing.
use Rattle.std.proofs.Common.{◌≡◌, ℕ, ◌/◌, ◌%◌, ◌≤◌, true, not, ◌||◌, eqb, ltb, List, [], ◌∷◌, ◌++◌, refl, arith}
use Rattle.std.specs.Prelude.{All}
use Rattle.std.proofs.lemmas.Bool.{ltb-true, ne_eqb, and_parts, and_from, or_from, not_from_false}
use Rattle.std.proofs.lemmas.List.Elements.{All-nil, All-cons, All-head, All-tail, All-weaker, All-append}
use Rattle.digits.specs.Bytes.{is_digit_byte}
use Rattle.digits.specs.Fields.{AllDigits}
use Rattle.framing.specs.Frames.{NoEnd, clean}
use Rattle.commands.proofs.Tabled.{Small}

-- digit bytes are small

digit_small : (b : ℕ) → is_digit_byte b ≡ true → Small b
digit_small b h =
    let halves = and_parts (ltb (b / 16) 10) (ltb (b % 16) 10) h in
    omega (arith, ltb-true (b / 16) 10 halves.0, ltb-true (b % 16) 10 halves.1)

digits_small : (bs : List ℕ) → AllDigits bs → All Small bs
digits_small [] h = All-nil Small
digits_small (b ∷ bs) h = All-cons Small b bs (digit_small b h.0) (digits_small bs h.1)

-- small bytes, and addresses, are quiet
abbrev pub Quiet : ℕ → Type 0
Quiet b = b ≤ 0xEF

-- a name of small bytes and then a field
pub named_field_quiet : (name field : List ℕ) → All Small name → AllDigits field → All Quiet (name ++ field)
named_field_quiet name field h d =
    All-weaker Small Quiet (λ b small. omega arith) (name ++ field) (All-append Small name field h (digits_small field d))

-- among quiet bytes there is no FD, FC or FE

pub quiet_no_end : (bs : List ℕ) → All Quiet bs → NoEnd bs
quiet_no_end [] h = tt
quiet_no_end (b ∷ bs) h =
    (λ e. omega (arith, All-head Quiet b bs h), quiet_no_end bs (All-tail Quiet b bs h))

pub quiet_clean : (bs : List ℕ) → All Quiet bs → clean bs ≡ true
quiet_clean [] h = refl
quiet_clean (b ∷ bs) h =
    let low = All-head Quiet b bs h in
    let jammer = ne_eqb b 0xFC (λ e. omega arith) in
    let mark = ne_eqb b 0xFE (λ e. omega arith) in
    and_from (not (eqb b 0xFC || eqb b 0xFE)) (clean bs) (not_from_false _ (or_from (eqb b 0xFC) (eqb b 0xFE) jammer mark))
    (quiet_clean bs (All-tail Quiet b bs h))
