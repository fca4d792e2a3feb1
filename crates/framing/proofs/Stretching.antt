-- A stream is cut at each FD, and nowhere else.
use Rattle.std.proofs.Common.{◌≡◌, ℕ, eqb, List, [], ◌∷◌, ◌++◌, map, sym, ap, ◌∙◌, inl, inr, append_assoc}
use Rattle.std.proofs.lemmas.List.{append-nil}
use Rattle.std.proofs.lemmas.Bool.{cases_Bool, eqb-true, eqb-false}
use Rattle.std.specs.List.{concat}
use Rattle.framing.specs.Lists.{All}
use Rattle.framing.specs.Frames.{stretches, waiting, NoEnd, StretchesEndAtFd}

-- stretches with their ends, and what waits
abbrev rejoined : List (List ℕ) → List ℕ → List ℕ
rejoined ss kept = concat (map (λ stretch. stretch ++ (0xFD ∷ [])) ss) ++ kept

-- the stretches of some bytes behind those that were kept, and what waits after them
record Cut (kept bytes : List ℕ) (ss : List (List ℕ)) (left : List ℕ) : Type 0 where
  whole : kept ++ bytes ≡ rejoined ss left
  ends : All NoEnd ss
  end : NoEnd left

push_free : (xs : List ℕ) (b : ℕ) → NoEnd xs → (b ≡ 0xFD → ⊥) → NoEnd (xs ++ (b ∷ []))
push_free [] b h n = (n, tt)
push_free (x ∷ xs) b h n = (h.0, push_free xs b h.1 n)

cut : (kept bytes : List ℕ) → NoEnd kept → Cut kept bytes (stretches kept bytes) (waiting kept bytes)
cut kept [] h = record { whole = append-nil kept; ends = tt; end = h }
cut kept (b ∷ bs) h =
    elim (cases_Bool (eqb b 0xFD)) as (λ _. Cut kept (b ∷ bs) (stretches kept (b ∷ bs)) (waiting kept (b ∷ bs))) [
      | inl e ↦
          let more = cut [] bs tt in
          rw e
          (record {
            whole =
                sym (append_assoc kept (b ∷ []) bs)
                ∙ ap (λ c. (kept ++ (c ∷ [])) ++ bs) (eqb-true b 0xFD e)
                ∙ ap (λ l. (kept ++ (0xFD ∷ [])) ++ l) more.whole
                ∙ sym (append_assoc (kept ++ (0xFD ∷ [])) (concat (map (λ stretch. stretch ++ (0xFD ∷ [])) (stretches [] bs))) (waiting [] bs));
            ends = (h, more.ends);
            end = more.end;
          })
      | inr e ↦
          let more = cut (kept ++ (b ∷ [])) bs (push_free kept b h (eqb-false b 0xFD e)) in
          rw e (record { whole = sym (append_assoc kept (b ∷ []) bs) ∙ more.whole; ends = more.ends; end = more.end })
    ]

pub stretches_end_at_FD : StretchesEndAtFd
stretches_end_at_FD stream = let c = cut [] stream tt in (c.whole, c.ends, c.end)
