-- The framing machine stands for what came since the last FD.
use Rattle.std.proofs.Common.{◌≡◌, ℕ, ◌≤◌, Bool, true, false, cond, not, ◌&&◌, ◌||◌, eqb, leb, List, [], ◌∷◌, ◌++◌, length, Some, None, sym, refl, ap, ◌∙◌, inl, inr, arith, length-append}
use Rattle.std.proofs.lemmas.Bool.{cases_Bool, and_from, and_left, and_right, or_cases, or_parts, or_from, or_left, or_right, not_from_false, leb-true, leb-false, eq-eqb}
use Rattle.framing.specs.declared.framer.State.{State}
use Rattle.framing.specs.declared.framer.State.TheVariants.{Preamble, Body, Void}
use Rattle.framing.specs.Frames.{body_of, clean, frame_in}
use Rattle.framing.specs.Machine.{Machine, marked, grown, in_body, complete}
use Rattle.framing.proofs.Growing.{ends_marked, ends_marked_push, begins_body, lengthens_body, clean_push, Spoilt, spoilt_push, spoilt_by, spoilt_unsound, sound_complete}

abbrev pub is_empty : List ℕ → Bool
is_empty [] = true
is_empty (x ∷ xs) = false

-- the bytes since the last FD end in a body that may still become sound, all of it held
pub record Gathered (held kept : List ℕ) : Type 0 where
  pub is : body_of kept ≡ Some held
  pub fine : clean held ≡ true
  pub few : length held ≤ 40
  pub ends : ends_marked kept ≡ is_empty held

-- they end in a body that cannot become sound
pub record Spoils (mark : Bool) (kept : List ℕ) : Type 0 where
  pub part : List ℕ
  pub is : body_of kept ≡ Some part
  pub spoilt : Spoilt part
  pub ends : ends_marked kept ≡ mark

abbrev pub Stands : State → List ℕ → List ℕ → Type 0
Stands (Preamble mark) held kept = (body_of kept ≡ None) × (ends_marked kept ≡ mark)
Stands Body held kept = Gathered held kept
Stands (Void mark) held kept = Spoils mark kept

abbrev pub StandsFor : Machine → List ℕ → Type 0
StandsFor m kept = Stands m.state m.held kept

-- an empty body, after a pair of FE
newly : (kept : List ℕ) (b : ℕ) → ends_marked kept ≡ true → b ≡ 0xFE → Gathered [] (kept ++ (b ∷ []))
newly kept b m e =
    record { is = begins_body kept b m e; fine = refl; few = omega arith; ends = ends_marked_push kept b ∙ eq-eqb b 0xFE e }

pub mark_stands : (s : State) (held kept : List ℕ) (b : ℕ) → b ≡ 0xFE → Stands s held kept → StandsFor (marked s held) (kept ++ (b ∷ []))
mark_stands (Preamble false) held kept b e h =
    (lengthens_body kept b None (and_left (ends_marked kept) (eqb b 0xFE) h.1) h.0, ends_marked_push kept b ∙ eq-eqb b 0xFE e)
mark_stands (Preamble true) held kept b e h = newly kept b h.1 e
mark_stands Body [] kept b e h = newly kept b h.ends e
mark_stands Body (x ∷ xs) kept b e h =
    record {
      part = (x ∷ xs) ++ (b ∷ []);
      is = lengthens_body kept b (Some (x ∷ xs)) (and_left (ends_marked kept) (eqb b 0xFE) h.ends) h.is;
      spoilt = spoilt_by (x ∷ xs) b (or_right (eqb b 0xFC) (eqb b 0xFE) (eq-eqb b 0xFE e));
      ends = ends_marked_push kept b ∙ eq-eqb b 0xFE e;
    }
mark_stands (Void false) held kept b e h =
    record {
      part = h.part ++ (b ∷ []);
      is = lengthens_body kept b (Some h.part) (and_left (ends_marked kept) (eqb b 0xFE) h.ends) h.is;
      spoilt = spoilt_push h.part b h.spoilt;
      ends = ends_marked_push kept b ∙ eq-eqb b 0xFE e;
    }
mark_stands (Void true) held kept b e h = newly kept b h.ends e

not_empty_push : (xs : List ℕ) (b : ℕ) → is_empty (xs ++ (b ∷ [])) ≡ false
not_empty_push [] b = refl
not_empty_push (x ∷ xs) b = refl

pub byte_stands : (s : State) (held kept : List ℕ) (b : ℕ) → eqb b 0xFE ≡ false → Stands s held kept → StandsFor (grown s held b) (kept ++ (b ∷ []))
byte_stands (Preamble mark) held kept b e h =
    (lengthens_body kept b None (and_right (ends_marked kept) (eqb b 0xFE) e) h.0, ends_marked_push kept b ∙ e)
byte_stands Body held kept b e h =
    elim (cases_Bool (eqb b 0xFC || leb 40 (length held))) as (λ _. StandsFor (grown Body held b) (kept ++ (b ∷ []))) [
      | inl q ↦ rw q (record { part = held ++ (b ∷ []); is = is_longer; spoilt = spoils q; ends = ends_marked_push kept b ∙ e })
      | inr q ↦ rw q (record { is = is_longer; fine = stays_clean q; few = stays_few q; ends = ends_marked_push kept b ∙ e ∙ sym (not_empty_push held b) })
    ]
  where
    is_longer : body_of (kept ++ (b ∷ [])) ≡ Some (held ++ (b ∷ []))
    is_longer = lengthens_body kept b (Some held) (and_right (ends_marked kept) (eqb b 0xFE) e) h.is

    spoils : (eqb b 0xFC || leb 40 (length held)) ≡ true → Spoilt (held ++ (b ∷ []))
    spoils q =
        elim (or_cases (eqb b 0xFC) (leb 40 (length held)) q) [
          | inl jam ↦ spoilt_by held b (or_left (eqb b 0xFC) (eqb b 0xFE) jam)
          | inr full ↦ inr (omega (arith, length-append held (b ∷ []), leb-true 40 (length held) full))
        ]

    stays_clean : (eqb b 0xFC || leb 40 (length held)) ≡ false → clean (held ++ (b ∷ [])) ≡ true
    stays_clean q =
        clean_push held b
        ∙ and_from (clean held) (not (eqb b 0xFC || eqb b 0xFE)) h.fine
        (not_from_false (eqb b 0xFC || eqb b 0xFE) (or_from (eqb b 0xFC) (eqb b 0xFE) (or_parts (eqb b 0xFC) (leb 40 (length held)) q).0 e))

    stays_few : (eqb b 0xFC || leb 40 (length held)) ≡ false → length (held ++ (b ∷ [])) ≤ 40
    stays_few q = omega (arith, length-append held (b ∷ []), leb-false 40 (length held) (or_parts (eqb b 0xFC) (leb 40 (length held)) q).1)
byte_stands (Void mark) held kept b e h =
    record {
      part = h.part ++ (b ∷ []);
      is = lengthens_body kept b (Some h.part) (and_right (ends_marked kept) (eqb b 0xFE) e) h.is;
      spoilt = spoilt_push h.part b h.spoilt;
      ends = ends_marked_push kept b ∙ e;
    }

-- at an FD the machine gives the frame of the stretch, if it holds one
pub end_stands : (s : State) (held kept : List ℕ) → Stands s held kept → cond (in_body s && complete held) (held ∷ []) [] ≡ frame_in (body_of kept)
end_stands (Preamble mark) held kept h = ap frame_in (sym h.0)
end_stands Body held kept h =
    ap (λ t. cond t (held ∷ []) []) (sym (sound_complete held h.fine h.few)) ∙ ap frame_in (sym h.is)
end_stands (Void mark) held kept h =
    sym (ap frame_in h.is ∙ ap (λ t. cond t (h.part ∷ []) []) (spoilt_unsound h.part h.spoilt))
