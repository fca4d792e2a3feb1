-- What is read of a text, against its grammar. Assumes nothing.
use Rattle.std.proofs.Common.{◌≡◌, ℕ, suc, ◌+◌, ◌-◌, ◌*◌, ◌<◌, ◌≤◌, Bool, true, false, cond, leb, ◌⊎◌, List, [], ◌∷◌, ◌++◌, length, take, Some, None, Ok, Err, Option, sym, refl, ap, ◌∙◌, subst, inl, inr, arith, length-append}
use Rattle.std.proofs.lemmas.Bool.{leb-true, leb-false, cases_lt}
use Rattle.std.proofs.lemmas.List.Elements.{All-nil}
use Rattle.hexadecimal.specs.declared.reader.Standing.{Standing}
use Rattle.hexadecimal.specs.declared.reader.Standing.TheVariants.{Between, Half, Remark}
use Rattle.hexadecimal.specs.declared.reader.Step.{Step}
use Rattle.hexadecimal.specs.declared.reader.Step.TheVariants.{Onward, Pair}
use Rattle.hexadecimal.specs.declared.reader.BadText.{BadText}
use Rattle.hexadecimal.specs.Symbols.{symbol_of}
use Rattle.hexadecimal.specs.Texts.{Reading, bad, before, advanced, by_step, at_end, reading_from, text_reading}
use Rattle.hexadecimal.specs.Grammar.{Spells, nothing, CanGoOn, FirstFault, ReadsByRules}
use Rattle.hexadecimal.proofs.Again.{first}
use Rattle.hexadecimal.proofs.Grammar.{NoLineEnd, Left, After, derive, inverse, next}

same_position : (p q : ℕ) → bad p ≡ bad q → p ≡ q
same_position p q e =
    let same : ◌≡◌ {A = BadText} (record { position = p }) (record { position = q }) = cc in
    ap (λ told. told.position) same

-- a pair's byte stands before the bytes of the rest, and alters no position
before_ok : (b : ℕ) (r : Reading) (bytes : List ℕ) → before b r ≡ Ok bytes → (others : List ℕ) × (bytes ≡ b ∷ others) × (r ≡ Ok others)
before_ok b (Ok bs) bytes e = (bs, cc, refl)
before_ok b (Err x) bytes e = absurd cc

before_bad : (b : ℕ) (r : Reading) (q : ℕ) → before b r ≡ bad q → r ≡ bad q
before_bad b (Ok bs) q e = absurd cc
before_bad b (Err x) q e = e

-- what is left of a text that has ended
none_left : (s : Standing) (p : ℕ) (bytes : List ℕ) → Left s [] bytes → at_end s p ≡ Ok bytes
none_left Between p bytes r = ap Ok (sym (next [] bytes r))
none_left (Half h) p bytes r = absurd (omega (arith, ap length r.is))
none_left Remark p bytes (inl r) = ap Ok (sym r.1)
none_left Remark p bytes (inr r) = absurd (omega (arith, ap length r.is, length-append r.skipped (r.end ∷ r.rest)))

-- a text of the grammar is read
step_reads : (r : Option Step) (p : ℕ) (rest : Standing → Reading) (text bytes : List ℕ) → ((s : Standing) (bs : List ℕ) → Left s text bs → rest s ≡ Ok bs) → After r text bytes → by_step r p rest ≡ Ok bytes
step_reads (Some (Onward s)) p rest text bytes h r = h s bytes r
step_reads (Some (Pair b)) p rest text bytes h r = ap (before b) (h Between r.0 r.2) ∙ ap Ok (sym r.1)
step_reads None p rest text bytes h r = absurd r

reads : (s : Standing) (p : ℕ) (text bytes : List ℕ) → Left s text bytes → p + length text ≤ 4096 → reading_from s p text ≡ Ok bytes
reads s p [] bytes r few = none_left s p bytes r
reads s p (c ∷ cs) bytes r few =
    first s p (omega arith) c cs
    ∙ step_reads (advanced s (symbol_of c)) p (λ t. reading_from t (p + 1) cs) cs bytes (λ t bs l. reads t (p + 1) cs bs l (omega arith)) (inverse s c cs bytes r)

-- what is read is a text of the grammar
ended : (s : Standing) (p : ℕ) (bytes : List ℕ) → at_end s p ≡ Ok bytes → Left s [] bytes
ended Between p bytes e = let none : [] ≡ bytes = cc in subst (λ b. Spells [] b) none nothing
ended (Half h) p bytes e = absurd cc
ended Remark p bytes e = inl (All-nil NoLineEnd, cc)

step_spells : (r : Option Step) (p : ℕ) (rest : Standing → Reading) (text bytes : List ℕ) (K : Type 0) → ((s : Standing) (bs : List ℕ) → rest s ≡ Ok bs → Left s text bs × K) → by_step r p rest ≡ Ok bytes → After r text bytes × K
step_spells (Some (Onward s)) p rest text bytes K h e = h s bytes e
step_spells (Some (Pair b)) p rest text bytes K h e =
    let f = before_ok b (rest Between) bytes e in
    let g = h Between f.0 f.2 in
    ((f.0, f.1, g.0), g.1)
step_spells None p rest text bytes K h e = absurd cc

-- a character is one too many, or it is read
at_limit : (p : ℕ) (r answer : Reading) → cond (leb 4096 p) (bad p) r ≡ answer → ((4096 ≤ p) × (bad p ≡ answer)) ⊎ ((p < 4096) × (r ≡ answer))
at_limit p r answer e = go (leb 4096 p) refl e
  where
    go : (t : Bool) → leb 4096 p ≡ t → cond t (bad p) r ≡ answer → ((4096 ≤ p) × (bad p ≡ answer)) ⊎ ((p < 4096) × (r ≡ answer))
    go true l f = inl (leb-true 4096 p l, f)
    go false l f = inr (leb-false 4096 p l, f)

spells : (s : Standing) (p : ℕ) (text bytes : List ℕ) → reading_from s p text ≡ Ok bytes → p ≤ 4096 → Left s text bytes × (p + length text ≤ 4096)
spells s p [] bytes e few = (ended s p bytes e, omega arith)
spells s p (c ∷ cs) bytes e few =
    let rest : Standing → Reading = λ t. reading_from t (p + 1) cs in
    elim (at_limit p (by_step (advanced s (symbol_of c)) p rest) (Ok bytes) e) [
      | inl h ↦ absurd (cc h.1)
      | inr h ↦
          let below : p < 4096 = h.0 in
          let after = step_spells (advanced s (symbol_of c)) p rest cs bytes (p + 1 + length cs ≤ 4096) (λ t bs q. spells t (p + 1) cs bs q (omega arith)) h.1 in
          (derive s (symbol_of c) c cs bytes refl after.0, omega (arith, after.1))
    ]

-- from wherever the reader stands, a text can end well
complete : (s : Standing) → (more bytes : List ℕ) × Left s more bytes
complete Between = ([], [], nothing)
complete (Half h) = (48 ∷ [], (16 * h + 0) ∷ [], record { second = 48; digit = 0; rest = []; others = []; is = refl; shows = refl; gives = refl; spells = nothing })
complete Remark = ([], [], inl (All-nil NoLineEnd, refl))

-- the fault at q of a text that is read from p on
record Fault (s : Standing) (p : ℕ) (text : List ℕ) (q : ℕ) : Type 0 where
  from : p ≤ q
  to : q ≤ p + length text
  limit : p ≤ 4096 → q ≤ 4096
  begins : (more bytes : List ℕ) × Left s (take (q - p) text ++ more) bytes

here : (s : Standing) (p : ℕ) (text : List ℕ) (q : ℕ) → p ≡ q → Fault s p text q
here s p text q e =
    let none : 0 ≡ q - p = omega arith in
    record {
      from = omega arith;
      to = omega arith;
      limit = λ l. omega arith;
      begins = subst (λ k. (more bytes : List ℕ) × Left s (take k text ++ more) bytes) none (complete s);
    }

end_bad : (s : Standing) (p q : ℕ) → at_end s p ≡ bad q → p ≡ q
end_bad Between p q e = absurd cc
end_bad (Half h) p q e = same_position p q e
end_bad Remark p q e = absurd cc

-- a fault after a step
record Later (r : Option Step) (p : ℕ) (text : List ℕ) (q : ℕ) : Type 0 where
  from : p + 1 ≤ q
  to : q ≤ p + 1 + length text
  limit : p + 1 ≤ 4096 → q ≤ 4096
  begins : (more bytes : List ℕ) × After r (take (q - (p + 1)) text ++ more) bytes

step_fault : (r : Option Step) (p : ℕ) (rest : Standing → Reading) (text : List ℕ) (q : ℕ) → ((s : Standing) → rest s ≡ bad q → Fault s (p + 1) text q) → by_step r p rest ≡ bad q → (p ≡ q) ⊎ Later r p text q
step_fault (Some (Onward s)) p rest text q h e = let f = h s e in inr (record { from = f.from; to = f.to; limit = f.limit; begins = f.begins })
step_fault (Some (Pair b)) p rest text q h e =
    let f = h Between (before_bad b (rest Between) q e) in
    inr (record { from = f.from; to = f.to; limit = f.limit; begins = (f.begins.0, b ∷ f.begins.1, (f.begins.1, refl, f.begins.2)) })
step_fault None p rest text q h e = inl (same_position p q e)

-- one character before the fault
earlier : (s : Standing) (p c : ℕ) (cs : List ℕ) (q : ℕ) → p < 4096 → Later (advanced s (symbol_of c)) p cs q → Fault s p (c ∷ cs) q
earlier s p c cs q below f =
    let more = f.begins.0 in
    let from = f.from in
    let on : suc (q - (p + 1)) ≡ q - p = omega arith in
    record {
      from = omega arith;
      to = omega (arith, f.to);
      limit = λ l. f.limit (omega arith);
      begins = (
        more,
        f.begins.1,
        subst (λ k. Left s (take k (c ∷ cs) ++ more) f.begins.1) on
            (derive s (symbol_of c) c (take (q - (p + 1)) cs ++ more) f.begins.1 refl f.begins.2),
      );
    }

faults : (s : Standing) (p : ℕ) (text : List ℕ) (q : ℕ) → reading_from s p text ≡ bad q → Fault s p text q
faults s p [] q e = here s p [] q (end_bad s p q e)
faults s p (c ∷ cs) q e =
    let rest : Standing → Reading = λ t. reading_from t (p + 1) cs in
    elim (at_limit p (by_step (advanced s (symbol_of c)) p rest) (bad q) e) [
      | inl h ↦ here s p (c ∷ cs) q (same_position p q h.1)
      | inr h ↦
          elim (step_fault (advanced s (symbol_of c)) p rest cs q (λ t f. faults t (p + 1) cs q f) h.1) [
            | inl same ↦ here s p (c ∷ cs) q same
            | inr later ↦ earlier s p c cs q h.0 later
          ]
    ]

-- no text of the grammar begins with the characters up to a fault and the one there
step_breaks : (r : Option Step) (p : ℕ) (rest : Standing → Reading) (text bytes : List ℕ) (q : ℕ) → ((s : Standing) (bs : List ℕ) → rest s ≡ bad q → Left s text bs → ⊥) → by_step r p rest ≡ bad q → After r text bytes → ⊥
step_breaks (Some (Onward s)) p rest text bytes q h e a = h s bytes e a
step_breaks (Some (Pair b)) p rest text bytes q h e a = h Between a.0 (before_bad b (rest Between) q e) a.2
step_breaks None p rest text bytes q h e a = a

breaks : (s : Standing) (p : ℕ) (text : List ℕ) (q : ℕ) → reading_from s p text ≡ bad q → q < 4096 → q < p + length text → (more bytes : List ℕ) → Left s (take (q + 1 - p) text ++ more) bytes → ⊥
breaks s p [] q e below inside more bytes l = omega (arith, end_bad s p q e)
breaks s p (c ∷ cs) q e below inside more bytes l =
    let rest : Standing → Reading = λ t. reading_from t (p + 1) cs in
    let from = (faults s p (c ∷ cs) q e).from in
    let on : q + 1 - p ≡ suc (q + 1 - (p + 1)) = omega arith in
    let after = inverse s c (take (q + 1 - (p + 1)) cs ++ more) bytes (subst (λ k. Left s (take k (c ∷ cs) ++ more) bytes) on l) in
    elim (at_limit p (by_step (advanced s (symbol_of c)) p rest) (bad q) e) [
      | inl h ↦ omega (arith, h.0, same_position p q h.1)
      | inr h ↦
          step_breaks (advanced s (symbol_of c)) p rest (take (q + 1 - (p + 1)) cs ++ more) bytes q
          (λ t bs f a. breaks t (p + 1) cs q f below (omega arith) more bs a) h.1 after
    ]

fault_told : (text : List ℕ) (p : ℕ) → text_reading text ≡ bad p → FirstFault text p
fault_told text p e =
    let f = faults Between 0 text p e in
    let to = f.to in
    let limit = f.limit (omega arith) in
    let same : p - 0 ≡ p = omega arith in
    let next-too : p + 1 ≡ p + 1 - 0 = omega arith in
    record {
      begins = subst (λ k. CanGoOn (take k text)) same f.begins;
      breaks =
          elim (cases_lt p (length text)) [
            | inl inside ↦
                elim (cases_lt p 4096) [
                  | inl below ↦ inr (inr (inside, λ g. breaks Between 0 text p e below (omega arith) g.0 g.1 (subst (λ k. Spells (take k text ++ g.0) g.1) next-too g.2)))
                  | inr long ↦ inl (omega arith, omega arith)
                ]
            | inr over ↦ inr (inl (omega arith, λ bytes sp. cc (reads Between 0 text bytes sp (omega arith))))
          ];
    }

pub reads_by_rules : ReadsByRules
reads_by_rules text = (
  λ bytes e. let r = spells Between 0 text bytes e (omega arith) in (r.0, omega (arith, r.1)),
  λ bytes sp few. reads Between 0 text bytes sp (omega arith),
  fault_told text,
)
