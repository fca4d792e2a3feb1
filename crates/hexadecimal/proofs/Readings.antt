-- Reading a text from its front on. Assumes nothing.
use Rattle.std.proofs.Common.{◌≡◌, ℕ, ◌<◌, ◌≤◌, leb, List, ◌++◌, length, drop, Ok, Err, sym, ap, ◌∙◌}
use Rattle.std.proofs.lemmas.List.{at_drop_more}
use Rattle.std.proofs.lemmas.Bool.{cond-true, le-leb}
use Rattle.hexadecimal.specs.declared.reader.Standing.{Standing}
use Rattle.hexadecimal.specs.Texts.{Reading, bad, reading_from}

-- bytes that were read already, before those of the rest
abbrev pub after : List ℕ → Reading → Reading
after front (Ok bs) = Ok (front ++ bs)
after front (Err e) = Err e

-- a reader that has read some bytes of a text, of the reading `whole`, and stands at a position
module _ (front : List ℕ) (s : Standing) (xs : List ℕ) (i : ℕ) (whole : Reading) (so_far : after front (reading_from s i (drop i xs)) ≡ whole) where
  -- character 4,096
  pub past : i < length xs → 4096 ≤ i → bad i ≡ whole
  past h k = ap (after front) (sym (at_drop_more (reading_from s i) xs i 0 h ∙ cond-true (leb 4096 i) _ _ (le-leb 4096 i k))) ∙ so_far
