-- What a search for the first element that passes a test finds. Assumes nothing.
use Rattle.std.proofs.Common.{◌≡◌, zero, suc, Bool, true, false, cond, List, [], ◌∷◌, Some, None, refl, arith}
use Rattle.std.specs.Prelude.{find, Contains}

module _ {X : Type 0} (p : X → Bool) where
  -- what it finds passes the test, and is in the list
  pub found : (xs : List X) (x : X) → find p xs ≡ Some x → (p x ≡ true) × Contains xs x
  found [] x e = absurd (grind arith)
  found (y ∷ ys) x e = here (p y) refl e (found ys x)
    where
      here : (b : Bool) → p y ≡ b → cond b (Some y) (find p ys) ≡ Some x → (find p ys ≡ Some x → (p x ≡ true) × Contains ys x) →
          (p x ≡ true) × Contains (y ∷ ys) x
      here true h e f = let same : y ≡ x = cc in (cc, (0, omega arith, same))
      here false h e f = let rest = f e in (rest.0, (suc rest.1.0, omega (arith, rest.1.1), rest.1.2))

  -- where it finds none, no element passes
  pub none_found : (xs : List X) (x : X) → find p xs ≡ None → Contains xs x → p x ≡ false
  none_found [] x e (k, l, is) = absurd (let b : ⊥ = omega arith in b)
  none_found (y ∷ ys) x e c = here (p y) refl e c (none_found ys x)
    where
      here : (b : Bool) → p y ≡ b → cond b (Some y) (find p ys) ≡ None → Contains (y ∷ ys) x → (find p ys ≡ None → Contains ys x → p x ≡ false) → p x ≡ false
      here true h e c f = absurd (grind arith)
      here false h e (zero, l, is) f = cc
      here false h e (suc k, l, is) f = f e (k, omega arith, is)
