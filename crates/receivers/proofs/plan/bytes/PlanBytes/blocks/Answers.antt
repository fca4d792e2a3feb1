use Rattle.std.proofs.Common.{arith, rules}
use Rattle.std.proofs.lemmas.List.FromFn.{map-range_with_len_more}
use Rattle.receivers.specs.Plans.{block_of}
use Rattle.receivers.proofs.plan.bytes.PlanBytes.blocks.Goals as goal

pub loop-k-preserved : goal.loop-k-preserved
loop-k-preserved c =
    let v = c.args.self.now in
    let k = c.loop-k.k in
    record {
      filled = search rules;
      items = cc (map-range_with_len_more (block_of v.bytes.now v.count) 0 k k (omega arith));
    }
