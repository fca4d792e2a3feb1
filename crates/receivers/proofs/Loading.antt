-- The relations of plans, and the definitions, agree.
use Rattle.std.proofs.Common.{◌≡◌, ℕ, option_map, ◌-◌, ◌/◌, ◌<◌, ◌≤◌, Bool, true, false, cond, leb, List, length, Some, None, Ok, Err, Option, Result, sym, refl, ap, ◌∙◌, subst, mul_comm, mul-le-mul_left, arith}
use Rattle.std.proofs.lemmas.Nat.{le-div}
use Rattle.std.proofs.lemmas.List.FromFn.{length-map-range_with_len}
use Rattle.std.proofs.lemmas.List.Quantifiers.{position-Some}
use Rattle.std.proofs.lemmas.Bool.{and_parts, leb-true}
use Rattle.commands.specs.Settings.{between}
use Rattle.receivers.specs.declared.rejections.Rejection.{Rejection}
use Rattle.receivers.specs.declared.rejections.Rejection.TheVariants.{SetUp, PlanLength, PlanRaster, PlanBlock}
use Rattle.receivers.specs.Blocks.{InOrder, block_at, first_misplaced, inside, misplaced, no_block}
use Rattle.receivers.specs.Plans.{Plan, block_count, block_of, blocks_of, counted, ordered, plan_of, unless, word}
use Rattle.receivers.specs.Rasters.{channel_in, frequency_of, raster_taking, tuned_to}
use Rattle.receivers.specs.Loading.{ChannelOf, HighestChannel, Rejected, RejectedByCauses, TunedByPlans}
use Rattle.receivers.specs.Firsts.{first_found, first_is, none_passes}
use Rattle.receivers.specs.RasterLaws.{around_is, channel_below, channel_found, inside_bounds, tuned_kept}

-- what is known of some bytes that are a plan, or are rejected
module _ (bytes : List ℕ) where
  abbrev Good : Plan → Type 0
  Good p = (0 < p.raster) × InOrder p.blocks

  abbrev Said : Result Plan Rejection → Type 0
  Said (Ok p) = Good p
  Said (Err rejection) = Rejected bytes rejection

  said_ordered : (n : ℕ) → block_count bytes ≡ Some n → between 1 1000000 (word bytes 1) ≡ true → (o : Option ℕ) → first_misplaced (blocks_of bytes n) ≡ o → Said (unless o (record { raster = word bytes 1; blocks = blocks_of bytes n }))
  said_ordered n c r (Some k) e =
      let f = first_found (misplaced (blocks_of bytes n)) (length (blocks_of bytes n)) k e in
      (n, (c, (r, (omega (arith, f.0, length-map-range_with_len (block_of bytes n) 0 n), (f.1, f.2)))))
  said_ordered n c r None e =
      (leb-true 1 (word bytes 1) (and_parts (leb 1 (word bytes 1)) (leb (word bytes 1) 1000000) r).0, none_passes (misplaced (blocks_of bytes n)) (length (blocks_of bytes n)) e)

  said_raster : (n : ℕ) → block_count bytes ≡ Some n → (b : Bool) → between 1 1000000 (word bytes 1) ≡ b → Said (cond b (ordered (word bytes 1) (blocks_of bytes n)) (Err PlanRaster))
  said_raster n c true r = said_ordered n c r (first_misplaced (blocks_of bytes n)) refl
  said_raster n c false r = (n, (c, r))

  said_counted : (o : Option ℕ) → block_count bytes ≡ o → Said (counted o bytes)
  said_counted None c = c
  said_counted (Some n) c = said_raster n c (between 1 1000000 (word bytes 1)) refl

  said : Said (plan_of bytes)
  unfolding plan_of
  said = said_counted (block_count bytes) refl

  rejected : (rejection : Rejection) → Rejected bytes rejection → plan_of bytes ≡ Err rejection
  unfolding plan_of
  rejected SetUp h = absurd h
  rejected PlanLength h = rw h
  rejected PlanRaster (n, (c, r)) = rw (c, r)
  rejected (PlanBlock k) (n, (c, (r, (l, (e, before))))) =
      let h : k < length (blocks_of bytes n) = omega (arith, l, length-map-range_with_len (block_of bytes n) 0 n) in
      let f : first_misplaced (blocks_of bytes n) ≡ Some k = first_is (misplaced (blocks_of bytes n)) (length (blocks_of bytes n)) k h e before in
      ap (λ o. counted o bytes) c
      ∙ ap (λ b. cond b (ordered (word bytes 1) (blocks_of bytes n)) (Err PlanRaster)) r
      ∙ ap (λ o. unless o (record { raster = word bytes 1; blocks = blocks_of bytes n })) f

pub rejected_by_causes : RejectedByCauses
rejected_by_causes bytes rejection = (λ e. subst (Said bytes) e (said bytes), rejected bytes rejection)

module _ (p : Plan) (step : 0 < p.raster) where
  -- no channel of the block is above the one that a frequency is taken as, and not above the frequency
  highest : (k n v : ℕ) → (block_at p.blocks k).first ≤ n → ChannelOf p k v → v ≤ n → v ≤ frequency_of p (channel_in p k n)
  highest k n v b (i, e) l =
      let first = (block_at p.blocks k).first in
      let q : i ≤ (n - first) / p.raster = le-div i (n - first) p.raster step (omega (arith, mul_comm i p.raster)) in
      omega (arith, mul-le-mul_left p.raster q)

  tuned_highest : (n w : ℕ) → raster_taking p 0 n ≡ Ok w → HighestChannel p n w
  tuned_highest n w e =
      let (c, found, f) = tuned_kept p n w e in
      let (around, same) = channel_found p n c found in
      let (l, i, before) = position-Some (inside n) p.blocks c.block no_block around in
      let b = inside_bounds p n c.block i in
      let g : frequency_of p (channel_in p c.block n) ≡ w = ap (frequency_of p) (sym same) ∙ f in
      (c.block, (l, (i, ((c.number, sym f), (subst (λ x. x ≤ n) g (channel_below p n c.block b.0), λ v a h. subst (λ x. v ≤ x) g (highest c.block n v b.0 a h))))))

  highest_tuned : InOrder p.blocks → (n w : ℕ) → HighestChannel p n w → raster_taking p 0 n ≡ Ok w
  highest_tuned o n w (k, (l, (i, (a, (h, top))))) =
      let b = inside_bounds p n k i in
      let f = frequency_of p (channel_in p k n) in
      let up : w ≤ f = highest k n w b.0 a h in
      let down : f ≤ w = top f ((channel_in p k n).number, refl) (channel_below p n k b.0) in
      let same : f ≡ w = omega (arith, up, down) in
      ap (λ x. tuned_to p (option_map (λ k. channel_in p k n) x)) (around_is p o n k l i) ∙ ap Ok same

pub tuned_by_plans : TunedByPlans
tuned_by_plans bytes p e n w =
    let good : Good bytes p = subst (Said bytes) e (said bytes) in
    (tuned_highest p good.0 n w, highest_tuned p good.0 good.1 n w)
