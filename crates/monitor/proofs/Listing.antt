-- A page that fills up with the lines of a stream's frames. Assumes nothing.
use Rattle.std.proofs.Common.{◌≡◌, ℕ, ◌+◌, ◌<◌, List, ◌∷◌, ◌++◌, length, sym, ap, ◌∙◌, append_assoc, arith, length-append}
use Rattle.hexadecimal.specs.Lines.{line}
use Rattle.monitor.specs.Reports.{frame_lines}

-- some lines stand on the page, and the first of the frames that are left comes next
module _ (page body : List ℕ) (frames more : List (List ℕ)) (all : List ℕ) (next : frames ≡ body ∷ more) (so_far : page ++ frame_lines frames ≡ all) where
  whole : page ++ (line body ++ frame_lines more) ≡ all
  whole = ap (λ fs. page ++ frame_lines fs) (sym next) ∙ so_far

  pub line_added : (after : List ℕ) → after ≡ page ++ line body → after ++ frame_lines more ≡ all
  line_added after e = ap (λ l. l ++ frame_lines more) e ∙ append_assoc page (line body) (frame_lines more) ∙ whole

  pub line_refused : (tail : List ℕ) (room : ℕ) → room < length page + length (line body) → room < length (all ++ tail)
  line_refused tail room h =
      omega (
        arith,
        length-append all tail,
        ap length whole,
        length-append page (line body ++ frame_lines more),
        length-append (line body) (frame_lines more),
      )
