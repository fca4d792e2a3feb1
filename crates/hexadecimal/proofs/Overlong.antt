-- A text that goes on after 4,096 characters. Assumes nothing.
use Rattle.std.proofs.Common.{◌≡◌, ℕ, ◌+◌, leb, List, [], ◌∷◌, ◌++◌, length, Some, None, Ok, Err, Option, sym, refl, ap, ◌∙◌, arith}
use Rattle.std.proofs.lemmas.Bool.{cond-false, lt-leb}
use Rattle.hexadecimal.specs.declared.reader.Standing.{Standing}
use Rattle.hexadecimal.specs.declared.reader.Standing.TheVariants.{Between, Half, Remark}
use Rattle.hexadecimal.specs.declared.reader.Step.{Step}
use Rattle.hexadecimal.specs.declared.reader.Step.TheVariants.{Onward, Pair}
use Rattle.hexadecimal.specs.declared.reader.BadText.{BadText}
use Rattle.hexadecimal.specs.Symbols.{symbol_of}
use Rattle.hexadecimal.specs.Texts.{Reading, bad, before, advanced, by_step, at_end, reading_from, text_reading, overlong}

-- the text breaks off here, and the longer one goes on
before_overlong : (b : ℕ) (r longer : Reading) → longer ≡ Err (overlong r) → before b longer ≡ Err (overlong (before b r))
before_overlong b (Ok bs) longer e = ap (before b) e
before_overlong b (Err x) longer e = ap (before b) e

module _ (p : ℕ) (rest longer : Standing → Reading) (goes_on : (t : Standing) → longer t ≡ Err (overlong (rest t))) where
  step_overlong : (r : Option Step) → by_step r p longer ≡ Err (overlong (by_step r p rest))
  step_overlong (Some (Onward t)) = goes_on t
  step_overlong (Some (Pair b)) = before_overlong b (rest Between) (longer Between) (goes_on Between)
  step_overlong None = refl

end_overlong : (s : Standing) → bad 4096 ≡ Err (overlong (at_end s 4096))
end_overlong Between = refl
end_overlong (Half h) = refl
end_overlong Remark = refl

reading_overlong : (s : Standing) (p : ℕ) (xs : List ℕ) (c : ℕ) (more : List ℕ) → p + length xs ≡ 4096 → reading_from s p (xs ++ (c ∷ more)) ≡ Err (overlong (reading_from s p xs))
reading_overlong s p [] c more full =
    let e : p ≡ 4096 = omega arith in
    rw e (end_overlong s)
reading_overlong s p (x ∷ xs) c more full =
    let below = lt-leb 4096 p (omega arith) in
    cond-false (leb 4096 p) _ _ below
    ∙ step_overlong p (λ t. reading_from t (p + 1) xs) (λ t. reading_from t (p + 1) (xs ++ (c ∷ more))) (λ t. reading_overlong t (p + 1) xs c more (omega arith)) (advanced s (symbol_of x))
    ∙ ap (λ r. Err (overlong r)) (sym (cond-false (leb 4096 p) _ _ below))

pub told_overlong : (xs : List ℕ) (told : BadText) → told ≡ overlong (text_reading xs) → length xs ≡ 4096 → (c : ℕ) (more : List ℕ) → text_reading (xs ++ (c ∷ more)) ≡ Err told
told_overlong xs told e full c more = reading_overlong Between 0 xs c more (omega arith) ∙ ap Err (sym e)
