-- The framing machine over a stream: it gives just the sound frames, however the stream is cut.
use Rattle.std.proofs.Common.{◌≡◌, ℕ, ◌+◌, ◌<◌, Bool, true, false, cond, ◌&&◌, eqb, List, [], ◌∷◌, ◌++◌, length, get_or, drop, sym, refl, ap, ◌∙◌, inl, inr, append_assoc}
use Rattle.std.proofs.lemmas.List.{at_drop_more}
use Rattle.std.proofs.lemmas.Bool.{cases_Bool, eqb-true}
use Rattle.framing.specs.declared.framer.State.TheVariants.{Preamble}
use Rattle.std.specs.List.{concat}
use Rattle.framing.specs.Frames.{stretches, frame_in, frames_in, body_of, sound_frames}
use Rattle.framing.specs.Machine.{Machine, at, fresh, stepped, marked, grown, in_body, complete, ends_frame, gives, leaves, gives_over, GivesSoundFrames}
use Rattle.framing.proofs.Standing.{StandsFor, mark_stands, byte_stands, end_stands}

-- one byte inside a stretch
step_stands : (m : Machine) (kept : List ℕ) (b : ℕ) → eqb b 0xFD ≡ false → StandsFor m kept → StandsFor (stepped m b) (kept ++ (b ∷ []))
step_stands m kept b e h =
    rw e
    (elim (cases_Bool (eqb b 0xFE)) as (λ _. StandsFor (cond (eqb b 0xFE) (marked m.state m.held) (grown m.state m.held b)) (kept ++ (b ∷ []))) [
      | inl q ↦ rw q (mark_stands m.state m.held kept b (eqb-true b 0xFE q) h)
      | inr q ↦ rw q (byte_stands m.state m.held kept b q h)
    ])

-- the frame given with a byte, if one is
abbrev given : Machine → ℕ → List (List ℕ)
given m b = cond (ends_frame m b) ((stepped m b).held ∷ []) []

gives_one : (m : Machine) (b : ℕ) (bs : List ℕ) → gives m (b ∷ bs) ≡ given m b ++ gives (stepped m b) bs
gives_one m b bs =
    elim (ends_frame m b) as (λ t. cond t ((stepped m b).held ∷ gives (stepped m b) bs) (gives (stepped m b) bs) ≡ cond t ((stepped m b).held ∷ []) [] ++ gives (stepped m b) bs)
    [ true ↦ refl | false ↦ refl ]

pub gives_frames : (m : Machine) (kept bs : List ℕ) → StandsFor m kept → gives m bs ≡ frames_in (stretches kept bs)
gives_frames m kept [] h = refl
gives_frames m kept (b ∷ bs) h =
    gives_one m b bs
    ∙ (elim (cases_Bool (eqb b 0xFD)) as (λ _. given m b ++ gives (stepped m b) bs ≡ frames_in (stretches kept (b ∷ bs))) [
      | inl e ↦ rw e (ap (λ l. l ++ gives (at (Preamble false) m.held) bs) (end_stands m.state m.held kept h)
          ∙ ap (λ l. frame_in (body_of kept) ++ l) (gives_frames (at (Preamble false) m.held) [] bs (refl, refl)))
      | inr e ↦ ap (λ t. cond (t && (in_body m.state && complete m.held)) ((stepped m b).held ∷ []) [] ++ gives (stepped m b) bs) e
          ∙ gives_frames (stepped m b) (kept ++ (b ∷ [])) bs (step_stands m kept b e h)
          ∙ sym (ap (λ t. frames_in (cond t (kept ∷ stretches [] bs) (stretches (kept ++ (b ∷ [])) bs))) e)
    ])

pub gives_stream : (stream : List ℕ) → gives fresh stream ≡ sound_frames stream
gives_stream stream = gives_frames fresh [] stream (refl, refl)

-- a cut makes no difference
pub gives_append : (m : Machine) (xs ys : List ℕ) → gives m (xs ++ ys) ≡ gives m xs ++ gives (leaves m xs) ys
gives_append m [] ys = refl
gives_append m (b ∷ bs) ys =
    gives_one m b (bs ++ ys)
    ∙ ap (λ l. given m b ++ l) (gives_append (stepped m b) bs ys)
    ∙ sym (append_assoc (given m b) (gives (stepped m b) bs) (gives (leaves (stepped m b) bs) ys))
    ∙ ap (λ l. l ++ gives (leaves (stepped m b) bs) ys) (sym (gives_one m b bs))

gives_joined : (m : Machine) (pieces : List (List ℕ)) → gives_over m pieces ≡ gives m (concat pieces)
gives_joined m [] = refl
gives_joined m (p ∷ ps) = ap (λ l. gives m p ++ l) (gives_joined (leaves m p) ps) ∙ sym (gives_append m p (concat ps))

pub gives_sound_frames : GivesSoundFrames
gives_sound_frames pieces = gives_joined fresh pieces ∙ gives_stream (concat pieces)

-- one byte on in a stream, where it is known whether a frame ends there
pub gives_turn :
    (m n : Machine) (stream : List ℕ) (i : ℕ) (ends : Bool) → i < length stream →
    n ≡ stepped m (get_or stream i 0) → ends_frame m (get_or stream i 0) ≡ ends →
    gives m (drop i stream) ≡ cond ends (n.held ∷ gives n (drop (i + 1) stream)) (gives n (drop (i + 1) stream))
gives_turn m n stream i ends h e known =
    at_drop_more (gives m) stream i 0 h
    ∙ (λ j. cond (known j) ((sym e j).held ∷ gives (sym e j) (drop (i + 1) stream)) (gives (sym e j) (drop (i + 1) stream)))
