use Rattle.receivers.proofs.Loading.{rejected_by_causes, tuned_by_plans}
use Rattle.receivers.proofs.raster.RasterReceiver.load.Goals as goal

pub returns-in_err-self-clause-causes : goal.returns-in_err-self-clause-causes
returns-in_err-self-clause-causes c = rejected_by_causes

pub returns-in_err-self-clause-channels : goal.returns-in_err-self-clause-channels
returns-in_err-self-clause-channels c = tuned_by_plans

pub returns-clause-causes : goal.returns-clause-causes
returns-clause-causes c = rejected_by_causes

pub returns-clause-channels : goal.returns-clause-channels
returns-clause-channels c = tuned_by_plans
