-- A raster receiver is lawful, whatever plan was loaded and whatever was set.
use Rattle.std.specs.Prelude.{◌≡◌, ℕ, option_map, zero, suc, ◌-◌, ◌*◌, ◌/◌, ◌<◌, ◌≤◌, Bool, true, false, cond, ◌||◌, length, Some, None, Ok, Err, Option, ◌==◌, nat_eq, refl}
use Rattle.std.proofs.Common.{sym, ap, subst, ◌∙◌, inl, inr, arith}
use Rattle.std.proofs.Math.Path.{fun_ext}
use Rattle.std.proofs.Math.Nat.{mul-div-le, mul-div_right}
use Rattle.std.proofs.lemmas.Bool.Decides.{nat_tests}
use Rattle.std.proofs.lemmas.List.Quantifiers.{position-Some}
use Rattle.std.proofs.lemmas.Bool.{cases_lt, eqb-true, le-leb, or_cases}
use Rattle.commands.specs.Settings.{lawful}
use Rattle.receivers.specs.declared.plan.Channel.{Channel}
use Rattle.receivers.specs.declared.refusals.Refusal.TheVariants.{NotFitted, NotTaken}
use Rattle.receivers.specs.Meaning.{Lawful, plainly}
use Rattle.receivers.specs.Blocks.{InOrder, Reachable, block_at, inside, no_block}
use Rattle.receivers.specs.Plans.{Plan}
use Rattle.receivers.specs.Rasters.{InBlock, block_around, channel_in, channel_of, first_channel, frequency_of, loaded, raster, raster_taking, tuned_to}
use Rattle.receivers.specs.Firsts.{position_is}
use Rattle.receivers.specs.Frequencies.{frequency_lawful}

-- the two levels take their lawful numbers, each as itself
level_lawful : (s n : ℕ) → (s == 7 || s == 9) ≡ true → n ≤ 255 → lawful s n ≡ true
unfolding lawful
level_lawful s n l h =
    elim (or_cases (s == 7) (s == 9) l)
    [ inl e ↦ rw (eqb-true s 7 e) (le-leb n 255 h) | inr e ↦ rw (eqb-true s 9 e) (le-leb n 255 h) ]

level_kept : (level lawful : Bool) (n w : ℕ) → cond level (cond lawful (Ok n) (Err (NotTaken 1))) (Err (NotFitted 1)) ≡ Ok w → (level ≡ true) × (lawful ≡ true) × (n ≡ w)
level_kept true true n w e = (refl, refl, cc)
level_kept true false n w e = absurd (grind arith)
level_kept false lawful n w e = absurd (grind arith)

level_read : (gain squelch s n : ℕ) → cond (s == 7) (Some gain) (cond (s == 9) (Some squelch) None) ≡ Some n → gain ≤ 255 → squelch ≤ 255 → ((s == 7 || s == 9) ≡ true) × (n ≤ 255)
level_read gain squelch s n e g q = (grind (arith, nat_tests), grind (arith, nat_tests))

level_itself : (p : Plan) (s n : ℕ) → (s == 0) ≡ false → (s == 7 || s == 9) ≡ true → lawful s n ≡ true → (lawful s n ≡ true) × (raster_taking p s n ≡ Ok n)
level_itself p s n z l h = (h, rw (z, l, h))

-- the channel of a block that a frequency inside it is taken as
module _ (p : Plan) where
  pub channel_found : (n : ℕ) (c : Channel) → channel_of p n ≡ Some c → (block_around p n ≡ Some c.block) × (c ≡ channel_in p c.block n)
  channel_found n c e = at (block_around p n) refl e
    where
      at : (o : Option ℕ) → block_around p n ≡ o → option_map (λ k. channel_in p k n) o ≡ Some c → (block_around p n ≡ Some c.block) × (c ≡ channel_in p c.block n)
      at (Some k) b e =
          let same : channel_in p k n ≡ c = cc in
          let place : k ≡ c.block = ap (λ d. d.block) same in
          (b ∙ ap Some place, sym same ∙ ap (λ j. channel_in p j n) place)
      at None b e = absurd (grind arith)

  pub inside_bounds : (n k : ℕ) → inside n (block_at p.blocks k) ≡ true → ((block_at p.blocks k).first ≤ n) × (n ≤ (block_at p.blocks k).last)
  inside_bounds n k h = (grind (arith, nat_tests), grind (arith, nat_tests))

  -- the block that a frequency is inside
  pub around_bounds : (n k : ℕ) → block_around p n ≡ Some k → (k < length p.blocks) × ((block_at p.blocks k).first ≤ n) × (n ≤ (block_at p.blocks k).last)
  around_bounds n k e =
      let f = position-Some (inside n) p.blocks k no_block e in
      let b = inside_bounds n k f.1 in
      (f.0, b.0, b.1)

  pub channel_below : (n k : ℕ) → (block_at p.blocks k).first ≤ n → frequency_of p (channel_in p k n) ≤ n
  channel_below n k h = omega (arith, mul-div-le (n - (block_at p.blocks k).first) p.raster)

  pub found_in_block : (n : ℕ) (c : Channel) → channel_of p n ≡ Some c → InBlock p c
  found_in_block n c e =
      let q = channel_found n c e in
      let (h, first, last) = around_bounds n c.block q.0 in
      let l : frequency_of p c ≤ n = subst (λ d. frequency_of p d ≤ n) (sym q.1) (channel_below n c.block first) in
      (h, omega (arith, l, last))

  pub tuned_kept : (n w : ℕ) → tuned_to p (channel_of p n) ≡ Ok w → (c : Channel) × (channel_of p n ≡ Some c) × (frequency_of p c ≡ w)
  tuned_kept n w e = at (channel_of p n) refl e
    where
      at : (o : Option Channel) → channel_of p n ≡ o → tuned_to p o ≡ Ok w → (c : Channel) × (channel_of p n ≡ Some c) × (frequency_of p c ≡ w)
      at (Some c) o e = (c, o, cc)
      at None o e = absurd (grind arith)

-- a plan that is loaded leaves the levels
pub load_leaves : (p q : Plan) (c : Channel) (gain squelch : ℕ) → raster p first_channel gain squelch ≡ loaded (Ok p) (raster q c gain squelch)
load_leaves p q c gain squelch =
    ap (λ f. record { reading = f; taking = raster_taking p }) (fun_ext (λ s. at (s == 0) (cond (s == 7) (Some gain) (cond (s == 9) (Some squelch) None))))
  where
    at : (b : Bool) (level : Option ℕ) → cond b (Some (frequency_of p first_channel)) level ≡ cond b (Some (frequency_of p first_channel)) (cond b (Some (frequency_of q c)) level)
    at true level = refl
    at false level = refl

-- blocks that are in order ascend
module _ (p : Plan) (ordered : InOrder p.blocks) where
  begins : (k : ℕ) → k < length p.blocks → (block_at p.blocks k).first ≤ (block_at p.blocks k).last
  begins k h = let e = ordered k h in grind (arith, nat_tests)

  follows : (k : ℕ) → suc k < length p.blocks → (block_at p.blocks k).last < (block_at p.blocks (suc k)).first
  follows k h =
      let q : suc k - 1 ≡ k = omega arith in
      let e = rw q at (ordered (suc k) h) in
      grind (arith, nat_tests)

  ascends : (j k : ℕ) → j < k → k < length p.blocks → (block_at p.blocks j).last < (block_at p.blocks k).first
  ascends j zero l h = absurd (omega arith)
  ascends j (suc k) l h =
      elim (cases_lt j k) [
        | inl b ↦ omega (arith, ascends j k b (omega arith), begins k (omega arith), follows k h)
        | inr b ↦ let q : j ≡ k = omega arith in rw q (follows k h)
      ]

  -- a frequency is inside one block at most
  pub around_is : (n k : ℕ) → k < length p.blocks → inside n (block_at p.blocks k) ≡ true → block_around p n ≡ Some k
  around_is n k h e =
      position_is (inside n) p.blocks k no_block h e (λ j l. let a = ascends j k l h in grind (arith, nat_tests))

  module _ (step : 0 < p.raster) where
    -- the frequency of a channel is taken as itself
    pub channel_itself : (c : Channel) → InBlock p c → tuned_to p (channel_of p (frequency_of p c)) ≡ Ok (frequency_of p c)
    channel_itself c (h, l) =
        let f = frequency_of p c in
        let i : inside f (block_at p.blocks c.block) ≡ true = grind (arith, nat_tests) in
        let a = around_is f c.block h i in
        let s : f - (block_at p.blocks c.block).first ≡ p.raster * c.number = omega arith in
        let d : channel_in p c.block f ≡ c = ap (λ x. record { block = c.block; number = x }) (ap (λ x. x / p.raster) s ∙ mul-div_right c.number step) in
        ap (λ o. tuned_to p (option_map (λ k. channel_in p k f) o)) a ∙ ap (λ x. Ok (frequency_of p x)) d

    module _ (reachable : Reachable p.blocks) where
      itself : (s n : ℕ) → (s == 0) ≡ true → ((c : Channel) × InBlock p c × (frequency_of p c ≡ n)) → (lawful s n ≡ true) × (raster_taking p s n ≡ Ok n)
      itself s n z (c, b, e) =
          (frequency_lawful s n z (omega (arith, e, b.1, reachable c.block b.0)), rw z (subst (λ x. tuned_to p (channel_of p x) ≡ Ok x) e (channel_itself c b)))

      module _ (c : Channel) (there : InBlock p c) (gain squelch : ℕ) (loudest : gain ≤ 255) (tightest : squelch ≤ 255) where
        reads_at : (s n : ℕ) (b : Bool) → (s == 0) ≡ b → cond b (Some (frequency_of p c)) (cond (s == 7) (Some gain) (cond (s == 9) (Some squelch) None)) ≡ Some n → (lawful s n ≡ true) × (raster_taking p s n ≡ Ok n)
        reads_at s n true z e = itself s n z (c, there, cc)
        reads_at s n false z e =
            let l = level_read gain squelch s n e loudest tightest in
            level_itself p s n z l.0 (level_lawful s n l.0 l.1)

        takes_at : (s n w : ℕ) (b : Bool) → (s == 0) ≡ b → cond b (tuned_to p (channel_of p n)) (cond (s == 7 || s == 9) (plainly s n) (Err (NotFitted 1))) ≡ Ok w → (lawful s w ≡ true) × (raster_taking p s w ≡ Ok w)
        takes_at s n w true z e =
            let t = tuned_kept p n w e in
            itself s w z (t.0, found_in_block p n t.0 t.1, t.2)
        takes_at s n w false z e =
            let l = level_kept (s == 7 || s == 9) (lawful s n) n w e in
            level_itself p s w z l.0 (subst (λ x. lawful s x ≡ true) l.2 l.1)

        pub raster_laws : Lawful (raster p c gain squelch)
        raster_laws = record {
          reads = λ s n e. reads_at s n (s == 0) refl e;
          takes = λ s n w e. takes_at s n w (s == 0) refl e;
          beyond = λ s h.
              let z : nat_eq s 0 ≡ false = grind (arith, nat_tests) in
              let y : nat_eq s 7 ≡ false = grind (arith, nat_tests) in
              let x : nat_eq s 9 ≡ false = grind (arith, nat_tests) in
              (λ n. (1, rw (z, y, x)), λ n e. absurd (let u : None ≡ Some n = rw (z, y, x) at e in grind arith));
        }
