-- Channel plans, as bytes and as blocks on a raster. Assumes nothing.
use Rattle.std.specs.Prelude.{ℕ, ◌+◌, ◌*◌, ◌<◌, ◌≤◌, ◌&&◌, List, map, length, Some, None, Ok, Err, Option, Result, ◌==◌, slice_index, if◌then◌else◌}
use Rattle.std.specs.Bool.{then_some}
use Rattle.std.specs.List.{range_with_len}
use Rattle.commands.specs.Settings.{between}
use Rattle.receivers.specs.declared.blocks.Block.{Block}
use Rattle.receivers.specs.declared.rejections.Rejection.{Rejection}
use Rattle.receivers.specs.declared.rejections.Rejection.TheVariants.{PlanLength, PlanRaster, PlanBlock}
use Rattle.receivers.specs.Blocks.{InOrder, Reachable, first_misplaced}

-- blocks of channels, all on one raster
pub record Plan : Type 0 where
  pub raster : ℕ
  pub blocks : List Block

-- what holds of every plan that is kept
pub record IsWellFormed (p : Plan) : Type 0 where
  pub some : 0 < length p.blocks
  pub few : length p.blocks ≤ 16
  pub step : 0 < p.raster
  pub fine : p.raster ≤ 1000000
  pub ordered : InOrder p.blocks
  pub reachable : Reachable p.blocks

-- the number of four bytes from a place on, the highest first
abbrev pub word : List ℕ → ℕ → ℕ
word bytes i = ((slice_index bytes i * 256 + slice_index bytes (i + 1)) * 256 + slice_index bytes (i + 2)) * 256 + slice_index bytes (i + 3)

-- how many blocks a plan says to have, if it has their number of bytes
abbrev pub block_count : List ℕ → Option ℕ
block_count bytes =
    then_some (between 1 16 (slice_index bytes 0) && length bytes == 5 + 8 * slice_index bytes 0) (slice_index bytes 0)

-- one of n blocks: behind the number of blocks and the raster stand all first frequencies, then all last ones
abbrev pub block_of : List ℕ → ℕ → ℕ → Block
block_of bytes n k = record { first = word bytes (5 + 4 * k); last = word bytes (5 + 4 * n + 4 * k) }

abbrev pub blocks_of : List ℕ → ℕ → List Block
blocks_of bytes n = map (block_of bytes n) (range_with_len 0 n)

-- the plan of some blocks, if none is misplaced
abbrev pub unless : Option ℕ → Plan → Result Plan Rejection
unless (Some k) p = Err (PlanBlock k)
unless None p = Ok p

abbrev pub ordered : ℕ → List Block → Result Plan Rejection
ordered raster blocks = unless (first_misplaced blocks) (record { raster = raster; blocks = blocks })

abbrev pub counted : Option ℕ → List ℕ → Result Plan Rejection
counted None bytes = Err PlanLength
counted (Some n) bytes =
    if between 1 1000000 (word bytes 1) then ordered (word bytes 1) (blocks_of bytes n) else Err PlanRaster

-- the plan that some bytes are, or why they are none
unfoldable pub plan_of : List ℕ → Result Plan Rejection
plan_of bytes = counted (block_count bytes) bytes
