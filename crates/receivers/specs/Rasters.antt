-- The raster receiver. Assumes nothing.
use Rattle.std.specs.Prelude.{ℕ, ok_or, option_map, ◌+◌, ◌-◌, ◌*◌, ◌/◌, ◌<◌, ◌≤◌, ◌||◌, [], ◌∷◌, length, position, Some, None, Ok, Err, Option, Result, ◌==◌, if◌then◌else◌}
use Rattle.receivers.specs.declared.plan.Channel.{Channel}
use Rattle.receivers.specs.declared.refusals.Refusal.TheVariants.{NotFitted, NotTaken}
use Rattle.receivers.specs.declared.rejections.Rejection.{Rejection}
use Rattle.receivers.specs.Meaning.{Meaning, Taking, plainly, readings_after}
use Rattle.receivers.specs.Blocks.{block_at, inside}
use Rattle.receivers.specs.Plans.{Plan}

-- the frequency of a channel: the first of its block, and as many steps of the raster as its number says
abbrev pub frequency_of : Plan → Channel → ℕ
frequency_of p c = (block_at p.blocks c.block).first + p.raster * c.number

-- where a channel is: in one of the blocks, and not above its end
abbrev pub InBlock : Plan → Channel → Type 0
InBlock p c = (c.block < length p.blocks) × (frequency_of p c ≤ (block_at p.blocks c.block).last)

-- the block that a frequency is inside
abbrev pub block_around : Plan → ℕ → Option ℕ
block_around p n = position (inside n) p.blocks

-- the highest channel of a block that is not above a frequency
abbrev pub channel_in : Plan → ℕ → ℕ → Channel
channel_in p k n = record { block = k; number = (n - (block_at p.blocks k).first) / p.raster }

-- the channel that a frequency is taken as
abbrev pub channel_of : Plan → ℕ → Option Channel
channel_of p n = option_map (λ k. channel_in p k n) (block_around p n)

abbrev pub tuned_to : Plan → Option Channel → Taking
tuned_to p o = ok_or (option_map (frequency_of p) o) (NotTaken 1)

-- the frequency, AF gain and squelch are fitted
abbrev pub raster_taking : Plan → ℕ → ℕ → Taking
raster_taking p s n =
    if s == 0 then tuned_to p (channel_of p n) else if s == 7 || s == 9 then plainly s n else Err (NotFitted 1)

abbrev pub raster_reading : ℕ → ℕ → ℕ → ℕ → Option ℕ
raster_reading frequency gain squelch s =
    if s == 0 then Some frequency else if s == 7 then Some gain else if s == 9 then Some squelch else None

-- what a raster receiver means that has a plan, a channel of it, and the two levels
abbrev pub raster : Plan → Channel → ℕ → ℕ → Meaning
raster p c gain squelch = record { reading = raster_reading (frequency_of p c) gain squelch; taking = raster_taking p }

-- a new receiver: one block with the frequency 0
abbrev pub first_channel : Channel
first_channel = record { block = 0; number = 0 }

abbrev pub new_plan : Plan
new_plan = record { raster = 1; blocks = record { first = 0; last = 0 } ∷ [] }

abbrev pub new_raster : Meaning
new_raster = raster new_plan first_channel 128 0

-- what loading a plan answers, and what it makes of a receiver that meant m: it is tuned to the first channel of the plan, and the levels stay
abbrev pub load_answer : Result Plan Rejection → Result Unit Rejection
load_answer (Ok p) = Ok tt
load_answer (Err rejection) = Err rejection

abbrev pub loaded : Result Plan Rejection → Meaning → Meaning
loaded (Ok p) m = record { reading = readings_after (Ok (frequency_of p first_channel)) 0 m.reading; taking = raster_taking p }
loaded (Err rejection) m = m
