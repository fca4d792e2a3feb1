-- What one byte more does to the body of a stretch.
use Rattle.std.proofs.Common.{◌≡◌, ℕ, ◌<◌, ◌≤◌, Bool, true, false, cond, not, ◌&&◌, ◌||◌, eqb, leb, ◌⊎◌, List, [], ◌∷◌, ◌++◌, length, Some, None, Option, refl, ap, ◌∙◌, inl, inr, arith, length-append}
use Rattle.std.proofs.lemmas.Bool.{and_left, and_right, and_from, not_from_true, lt-leb, le-leb, eq-eqb}
use Rattle.std.specs.Option.{option_or}
use Rattle.framing.specs.Frames.{body_of, sound, clean, from_controller, is_answer}
use Rattle.framing.specs.Machine.{complete}

-- the last byte is FE
abbrev pub ends_marked : List ℕ → Bool
ends_marked [] = false
ends_marked (x ∷ []) = eqb x 0xFE
ends_marked (x ∷ y ∷ ys) = ends_marked (y ∷ ys)

pub ends_marked_push : (xs : List ℕ) (b : ℕ) → ends_marked (xs ++ (b ∷ [])) ≡ eqb b 0xFE
ends_marked_push [] b = refl
ends_marked_push (x ∷ []) b = refl
ends_marked_push (x ∷ y ∷ ys) b = ends_marked_push (y ∷ ys) b

abbrev pub longer : ℕ → Option (List ℕ) → Option (List ℕ)
longer b None = None
longer b (Some body) = Some (body ++ (b ∷ []))

-- a second FE in a row begins a body, and any other byte makes the one there longer
body_push : (xs : List ℕ) (b : ℕ) → body_of (xs ++ (b ∷ [])) ≡ cond (ends_marked xs && eqb b 0xFE) (Some []) (longer b (body_of xs))
body_push [] b = refl
body_push (x ∷ []) b = refl
body_push (x ∷ y ∷ ys) b =
    ap (λ o. option_or o (cond (eqb x 0xFE && eqb y 0xFE) (Some (ys ++ (b ∷ []))) None)) (body_push (y ∷ ys) b)
    ∙ go (ends_marked (y ∷ ys) && eqb b 0xFE) (body_of (y ∷ ys)) (eqb x 0xFE && eqb y 0xFE)
  where
    go : (new : Bool) (o : Option (List ℕ)) (pair : Bool) → option_or (cond new (Some []) (longer b o)) (cond pair (Some (ys ++ (b ∷ []))) None) ≡ cond new (Some []) (longer b (option_or o (cond pair (Some ys) None)))
    go true o pair = refl
    go false (Some body) pair = refl
    go false None true = refl
    go false None false = refl

pub begins_body : (xs : List ℕ) (b : ℕ) → ends_marked xs ≡ true → b ≡ 0xFE → body_of (xs ++ (b ∷ [])) ≡ Some []
begins_body xs b m e =
    body_push xs b ∙ ap (λ t. cond t (Some []) (longer b (body_of xs))) (and_from (ends_marked xs) (eqb b 0xFE) m (eq-eqb b 0xFE e))

pub lengthens_body : (xs : List ℕ) (b : ℕ) (o : Option (List ℕ)) → (ends_marked xs && eqb b 0xFE) ≡ false → body_of xs ≡ o → body_of (xs ++ (b ∷ [])) ≡ longer b o
lengthens_body xs b o e h = body_push xs b ∙ ap (λ t. cond t (Some []) (longer b (body_of xs))) e ∙ ap (longer b) h

pub clean_push : (xs : List ℕ) (b : ℕ) → clean (xs ++ (b ∷ [])) ≡ (clean xs && not (eqb b 0xFC || eqb b 0xFE))
clean_push [] b = elim (not (eqb b 0xFC || eqb b 0xFE)) as (λ t. (t && true) ≡ t) [ true ↦ refl | false ↦ refl ]
clean_push (x ∷ xs) b =
    ap (λ t. not (eqb x 0xFC || eqb x 0xFE) && t) (clean_push xs b)
    ∙ (elim (not (eqb x 0xFC || eqb x 0xFE)) as (λ t. (t && (clean xs && not (eqb b 0xFC || eqb b 0xFE))) ≡ ((t && clean xs) && not (eqb b 0xFC || eqb b 0xFE)))
    [ true ↦ refl | false ↦ refl ])

-- bytes that no further byte makes the body of a sound frame
abbrev pub Spoilt : List ℕ → Type 0
Spoilt xs = (clean xs ≡ false) ⊎ (40 < length xs)

pub spoilt_push : (xs : List ℕ) (b : ℕ) → Spoilt xs → Spoilt (xs ++ (b ∷ []))
spoilt_push xs b (inl h) = inl (clean_push xs b ∙ and_left (clean xs) (not (eqb b 0xFC || eqb b 0xFE)) h)
spoilt_push xs b (inr h) = inr (omega (arith, length-append xs (b ∷ [])))

pub spoilt_by : (xs : List ℕ) (b : ℕ) → (eqb b 0xFC || eqb b 0xFE) ≡ true → Spoilt (xs ++ (b ∷ []))
spoilt_by xs b h = inl (clean_push xs b ∙ and_right (clean xs) (not (eqb b 0xFC || eqb b 0xFE)) (not_from_true (eqb b 0xFC || eqb b 0xFE) h))

pub spoilt_unsound : (xs : List ℕ) → Spoilt xs → sound xs ≡ false
spoilt_unsound xs (inl h) = and_right (leb 3 (length xs) && leb (length xs) 40) _ (and_left (clean xs) _ h)
spoilt_unsound xs (inr h) = and_left (leb 3 (length xs) && leb (length xs) 40) _ (and_right (leb 3 (length xs)) (leb (length xs) 40) (lt-leb (length xs) 40 h))

-- of clean bytes, at most 40, only the rules at the end are left
pub sound_complete : (xs : List ℕ) → clean xs ≡ true → length xs ≤ 40 → sound xs ≡ complete xs
sound_complete xs c l =
    ap (λ t. (leb 3 (length xs) && t) && (clean xs && (from_controller xs && not (is_answer xs)))) (le-leb (length xs) 40 l)
    ∙ ap (λ t. (leb 3 (length xs) && true) && (t && (from_controller xs && not (is_answer xs)))) c
    ∙ (elim (leb 3 (length xs)) as (λ t. ((t && true) && (from_controller xs && not (is_answer xs))) ≡ (t && (from_controller xs && not (is_answer xs))))
    [ true ↦ refl | false ↦ refl ])
