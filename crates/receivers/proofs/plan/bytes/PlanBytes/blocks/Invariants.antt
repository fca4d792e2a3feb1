use Rattle.std.proofs.Common.{◌≡◌, length, map}
use Rattle.std.specs.List.{range_with_len}
use Rattle.receivers.specs.Plans.{block_of}
use Rattle.receivers.proofs.plan.bytes.PlanBytes.blocks.Given as goal

abbrev pub invariant-loop-k : goal.invariant-loop-k
invariant-loop-k l =
    record { filled : length l.blocks.items ≡ l.k; items : l.blocks.items ≡ map (block_of l.self.bytes.now l.self.count) (range_with_len 0 l.k) }
