-- The body of a stretch follows its last pair of FE.
use Rattle.std.proofs.Common.{◌≡◌, ℕ, Bool, true, false, cond, ◌&&◌, eqb, List, [], ◌∷◌, ◌++◌, Some, None, Option, refl, ap, ◌∙◌, subst, arith}
use Rattle.std.proofs.lemmas.Bool.{both_ways, eqb-true, and_parts}
use Rattle.std.specs.Option.{option_or}
use Rattle.framing.specs.Frames.{body_of, NoPair, IsBody, BodiesFollowLastPairs}

-- a pair of FE at the front
abbrev is_pair : ℕ → ℕ → Bool
is_pair a b = eqb a 0xFE && eqb b 0xFE

pair_is : (a b : ℕ) (bs : List ℕ) → is_pair a b ≡ true → (a ∷ b ∷ bs) ≡ (0xFE ∷ 0xFE ∷ bs)
pair_is a b bs e =
    let h = and_parts (eqb a 0xFE) (eqb b 0xFE) e in
    ap (λ c. c ∷ b ∷ bs) (eqb-true a 0xFE h.0) ∙ ap (λ c. 0xFE ∷ c ∷ bs) (eqb-true b 0xFE h.1)

-- with no pair, nothing is found
none_found : (xs : List ℕ) → NoPair xs → body_of xs ≡ None
none_found [] n = refl
none_found (a ∷ []) n = refl
none_found (a ∷ b ∷ bs) n =
    ap (λ o. option_or o (cond (is_pair a b) (Some bs) None))
    (none_found (b ∷ bs) (λ front back e. n (a ∷ front) back (ap (λ l. a ∷ l) e)))
    ∙ go (is_pair a b) refl
  where
    go : (t : Bool) → is_pair a b ≡ t → cond t (Some bs) None ≡ None
    go true e = absurd (n [] bs (pair_is a b bs e))
    go false e = refl

-- the last pair is found, whatever stands before it
last_found : (front body : List ℕ) → NoPair (0xFE ∷ body) → body_of (front ++ (0xFE ∷ 0xFE ∷ body)) ≡ Some body
last_found [] body n = ap (λ o. option_or o (Some body)) (none_found (0xFE ∷ body) n)
last_found (x ∷ []) body n = ap (λ o. option_or o (cond (is_pair x 0xFE) (Some (0xFE ∷ body)) None)) (last_found [] body n)
last_found (x ∷ y ∷ xs) body n =
    ap (λ o. option_or o (cond (is_pair x y) (Some (xs ++ (0xFE ∷ 0xFE ∷ body))) None)) (last_found (y ∷ xs) body n)

-- what is found is the body, and with nothing found there is no pair
abbrev Found : List ℕ → Option (List ℕ) → Type 0
Found s None = NoPair s
Found s (Some body) = IsBody s body

tail_of : List ℕ → List ℕ
tail_of [] = []
tail_of (x ∷ xs) = xs

-- a pair can only stand at the front if there is none behind
at_front : (a b : ℕ) (bs front back : List ℕ) → NoPair (b ∷ bs) → (a ∷ b ∷ bs) ≡ front ++ (0xFE ∷ 0xFE ∷ back) → is_pair a b ≡ true
unfolding tail_of
at_front a b bs [] back n e =
    let x : a ≡ 0xFE = cc in
    let y : b ≡ 0xFE = cc in
    rw (x, y)
at_front a b bs (x ∷ front) back n e = absurd (n front back (ap tail_of e))

-- a list that is too short has no pair
no_pair_in_none : NoPair []
no_pair_in_none [] back e = let z : ◌≡◌ {A = ℕ} 0 1 = cc in omega arith
no_pair_in_none (x ∷ xs) back e = let z : ◌≡◌ {A = ℕ} 0 1 = cc in omega arith

no_pair_in_one : (a : ℕ) → NoPair (a ∷ [])
no_pair_in_one a [] back e = let z : ◌≡◌ {A = ℕ} 0 1 = cc in omega arith
no_pair_in_one a (x ∷ []) back e = let z : ◌≡◌ {A = ℕ} 0 1 = cc in omega arith
no_pair_in_one a (x ∷ y ∷ xs) back e = let z : ◌≡◌ {A = ℕ} 0 1 = cc in omega arith

found : (s : List ℕ) → Found s (body_of s)
found [] = no_pair_in_none
found (a ∷ []) = no_pair_in_one a
found (a ∷ b ∷ bs) = go (body_of (b ∷ bs)) (found (b ∷ bs)) (is_pair a b) refl
  where
    go : (o : Option (List ℕ)) → Found (b ∷ bs) o → (t : Bool) → is_pair a b ≡ t → Found (a ∷ b ∷ bs) (option_or o (cond t (Some bs) None))
    go (Some body) f t e = record { front = a ∷ f.front; stands = ap (λ l. a ∷ l) f.stands; last = f.last }
    go None f true e =
        record {
          front = [];
          stands = pair_is a b bs e;
          last = subst (λ c. NoPair (c ∷ bs)) (eqb-true b 0xFE (and_parts (eqb a 0xFE) (eqb b 0xFE) e).1) f;
        }
    go None f false e = λ front back q. both_ways (is_pair a b) e (at_front a b bs front back f q)

pub bodies_follow_last_pairs : BodiesFollowLastPairs
bodies_follow_last_pairs s = (
  λ body e. subst (Found s) e (found s),
  λ body b. ap body_of b.stands ∙ last_found b.front body b.last,
  λ e. subst (Found s) e (found s),
)
