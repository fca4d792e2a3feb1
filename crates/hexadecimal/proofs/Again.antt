-- The line of some bytes reads as these bytes. Assumes nothing.
use Rattle.std.proofs.Common.{◌≡◌, ℕ, ◌+◌, ◌*◌, ◌/◌, ◌%◌, ◌<◌, ◌≤◌, leb, List, [], ◌∷◌, length, Ok, ap, ◌∙◌, arith}
use Rattle.std.specs.List.{All}
use Rattle.std.proofs.lemmas.Bool.{cond-false, lt-leb}
use Rattle.std.proofs.lemmas.List.Elements.{All-head, All-tail}
use Rattle.hexadecimal.specs.declared.symbols.Symbol.TheVariants.{Digit}
use Rattle.hexadecimal.specs.declared.reader.Standing.{Standing}
use Rattle.hexadecimal.specs.declared.reader.Standing.TheVariants.{Between, Half}
use Rattle.hexadecimal.specs.Laws.{LineReadsAgain}
use Rattle.hexadecimal.specs.Lines.{digit_char, line}
use Rattle.hexadecimal.specs.Symbols.{symbol_of}
use Rattle.hexadecimal.specs.Texts.{before, advanced, by_step, reading_from}
use Rattle.std.proofs.lemmas.Bool.Decides.{nat_tests}

symbol_digit : (d : ℕ) → d < 16 → symbol_of (digit_char d) ≡ Digit d
symbol_digit d h = grind (arith, nat_tests)

module _ (s : Standing) (p : ℕ) (below : p < 4096) where
  -- one character of a text that is not too long
  pub first : (x : ℕ) (xs : List ℕ) → reading_from s p (x ∷ xs) ≡ by_step (advanced s (symbol_of x)) p (λ t. reading_from t (p + 1) xs)
  first x xs = cond-false (leb 4096 p) _ _ (lt-leb 4096 p below)

  first_digit : (d : ℕ) (xs : List ℕ) → d < 16 → reading_from s p (digit_char d ∷ xs) ≡ by_step (advanced s (Digit d)) p (λ t. reading_from t (p + 1) xs)
  first_digit d xs h = first (digit_char d) xs ∙ ap (λ m. by_step (advanced s m) p (λ t. reading_from t (p + 1) xs)) (symbol_digit d h)

first_pair : (b p : ℕ) (xs : List ℕ) → b < 256 → p + 1 < 4096 → reading_from Between p (digit_char (b / 16) ∷ digit_char (b % 16) ∷ xs) ≡ before b (reading_from Between (p + 1 + 1) xs)
first_pair b p xs h below =
    let e : 16 * (b / 16) + b % 16 ≡ b = omega arith in
    first_digit Between p (omega arith) (b / 16) (digit_char (b % 16) ∷ xs) (omega arith)
    ∙ first_digit (Half (b / 16)) (p + 1) below (b % 16) xs (omega arith)
    ∙ ap (λ n. before n (reading_from Between (p + 1 + 1) xs)) e

line_from : (bs : List ℕ) (p : ℕ) → All (λ b. b < 256) bs → p + length (line bs) ≤ 4096 → reading_from Between p (line bs) ≡ Ok bs
line_from [] p small room = first Between p (omega arith) 10 []
line_from (b ∷ []) p small room =
    first_pair b p (10 ∷ []) (All-head (λ b. b < 256) b [] small) (omega arith)
    ∙ ap (before b) (first Between (p + 1 + 1) (omega arith) 10 [])
line_from (b ∷ c ∷ cs) p small room =
    first_pair b p (32 ∷ line (c ∷ cs)) (All-head (λ b. b < 256) b (c ∷ cs) small) (omega arith)
    ∙ ap (before b) (first Between (p + 1 + 1) (omega arith) 32 (line (c ∷ cs)) ∙ line_from (c ∷ cs) (p + 1 + 1 + 1) (All-tail (λ b. b < 256) b (c ∷ cs) small) (omega arith))

pub line_reads_again : LineReadsAgain
line_reads_again bytes small room = line_from bytes 0 small (omega arith)
