-- Words on lists. Assumes nothing.
use Rattle.std.specs.Prelude.{List, [], ◌∷◌}

-- each has the property; a proof goes down the list with it, which the library's word, by places, does not allow
abbrev pub All : {X : Type 0} → (X → Type 0) → List X → Type 0
All P [] = Unit {0}
All P (x ∷ xs) = P x × All P xs
