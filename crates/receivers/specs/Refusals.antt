-- Why a receiver does not take a number or is not prepared, and the numbers of the causes. Assumes nothing.
use Rattle.std.specs.Prelude.{ℕ, ◌+◌, min, Some, None, Option}
use Rattle.receivers.specs.declared.refusals.Refusal.{Refusal}
use Rattle.receivers.specs.declared.refusals.Refusal.TheVariants.{NotFitted, NotTaken}
use Rattle.receivers.specs.declared.rejections.Rejection.{Rejection}
use Rattle.receivers.specs.declared.rejections.Rejection.TheVariants.{SetUp, PlanLength, PlanRaster, PlanBlock}

-- each refusal's cause
abbrev pub cause_of : Refusal → ℕ
cause_of (NotFitted layer) = 25
cause_of (NotTaken layer) = 26

-- the layer of a pile that refused, counted from the top
abbrev pub layer_of : Refusal → ℕ
layer_of (NotFitted layer) = layer
layer_of (NotTaken layer) = layer

-- a layer further down, up to 255
abbrev pub further : ℕ → ℕ
further layer = min (layer + 1) 255

-- the same refusal, seen from the layer above
abbrev pub deeper : Refusal → Refusal
deeper (NotFitted layer) = NotFitted (further layer)
deeper (NotTaken layer) = NotTaken (further layer)

-- each rejection's number
abbrev pub number_of : Rejection → ℕ
number_of SetUp = 6
number_of PlanLength = 7
number_of PlanRaster = 8
number_of (PlanBlock block) = 9

-- the block that a rejection is about, counted from 0
abbrev pub rejected_block : Rejection → Option ℕ
rejected_block SetUp = None
rejected_block PlanLength = None
rejected_block PlanRaster = None
rejected_block (PlanBlock block) = Some block
