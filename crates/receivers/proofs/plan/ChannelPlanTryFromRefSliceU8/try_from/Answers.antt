use Rattle.std.proofs.Common.{◌≡◌, sym, subst, arith, rules}
use Rattle.receivers.specs.Blocks.{Reachable}
use Rattle.receivers.proofs.Words.{blocks_reachable}
use Rattle.receivers.proofs.plan.ChannelPlanTryFromRefSliceU8.try_from.Goals as goal

pub ordered-requires-clause-reachable : goal.ordered-requires-clause-reachable
ordered-requires-clause-reachable c =
    let plan = c.in_ok-plan.plan in
    let same : plan.bytes.now ≡ c.args.bytes.now = search rules in
    subst Reachable (sym c.blocks-2.ensures) (blocks_reachable plan.bytes.now (λ i. let b = c.type_inv.bytes i in rw same (omega arith)) plan.count)
