use Rattle.std.proofs.Common.{length, sym, rules}
use Rattle.receivers.specs.Blocks.{misplaced}
use Rattle.receivers.specs.Firsts.{none_passes}
use Rattle.receivers.proofs.plan.ChannelPlan.ordered.Goals as goal

pub invariant_of-result : goal.invariant_of-result
invariant_of-result c =
    let blocks = c.deref.result.now in
    record {
      some = search rules;
      few = search rules;
      step = search rules;
      fine = search rules;
      ordered = rw c.deref.ensures.0 at (none_passes (misplaced blocks) (length blocks) (sym c.in-None.ensures));
      reachable = search rules;
    }

pub returns-in-None-clause-sound : goal.returns-in-None-clause-sound
returns-in-None-clause-sound c = invariant_of-result c
