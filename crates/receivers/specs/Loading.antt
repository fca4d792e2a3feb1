-- Which bytes are plans, which frequencies a loaded plan takes, and as what: in relations. Assumes nothing.
use Rattle.std.specs.Prelude.{◌≡◌, ℕ, ◌+◌, ◌*◌, ◌<◌, ◌≤◌, true, false, List, length, Some, None, Ok, Err}
use Rattle.commands.specs.Settings.{between}
use Rattle.receivers.specs.declared.rejections.Rejection.{Rejection}
use Rattle.receivers.specs.declared.rejections.Rejection.TheVariants.{SetUp, PlanLength, PlanRaster, PlanBlock}
use Rattle.receivers.specs.Blocks.{block_at, inside, misplaced}
use Rattle.receivers.specs.Plans.{Plan, block_count, blocks_of, plan_of, word}
use Rattle.receivers.specs.Rasters.{raster_taking}

-- why some bytes are no plan: the length comes before the raster, and that before the blocks
abbrev pub Rejected : List ℕ → Rejection → Type 0
Rejected bytes SetUp = ⊥
Rejected bytes PlanLength = block_count bytes ≡ None
Rejected bytes PlanRaster =
    (n : ℕ) × ((block_count bytes ≡ Some n) × (between 1 1000000 (word bytes 1) ≡ false))
Rejected bytes (PlanBlock k) =
    (n : ℕ) × ((block_count bytes ≡ Some n) × ((between 1 1000000 (word bytes 1) ≡ true) × ((k < n) × ((misplaced (blocks_of bytes n) k ≡ true) × ((j : ℕ) → j < k → misplaced (blocks_of bytes n) j ≡ false)))))

-- a plan is rejected just under its cause
abbrev pub RejectedByCauses : Type 0
RejectedByCauses =
    (bytes : List ℕ) (rejection : Rejection) →
    (plan_of bytes ≡ Err rejection → Rejected bytes rejection) × (Rejected bytes rejection → plan_of bytes ≡ Err rejection)

-- a channel of a block: the first frequency, and a multiple of the raster
abbrev pub ChannelOf : Plan → ℕ → ℕ → Type 0
ChannelOf p k w = (i : ℕ) × (w ≡ (block_at p.blocks k).first + p.raster * i)

-- the highest channel not above a frequency, of the block that the frequency is inside
abbrev pub HighestChannel : Plan → ℕ → ℕ → Type 0
HighestChannel p n w =
    (k : ℕ) × ((k < length p.blocks) × ((inside n (block_at p.blocks k) ≡ true) × (ChannelOf p k w × ((w ≤ n) × ((v : ℕ) → ChannelOf p k v → v ≤ n → v ≤ w)))))

-- a frequency is taken just as that channel, by every plan that can be loaded
abbrev pub TunedByPlans : Type 0
TunedByPlans =
    (bytes : List ℕ) (p : Plan) → plan_of bytes ≡ Ok p → (n w : ℕ) →
    (raster_taking p 0 n ≡ Ok w → HighestChannel p n w) × (HighestChannel p n w → raster_taking p 0 n ≡ Ok w)
