use Rattle.commands.proofs.Composing.{short_replies}
use Rattle.commands.proofs.Replying.{replies_tell}
use Rattle.commands.proofs.Saving.{saved_goes_back}
use Rattle.commands.proofs.answers.compose.Goals as goal

pub returns-clause-short : goal.returns-clause-short
returns-clause-short c = short_replies

pub returns-clause-tells : goal.returns-clause-tells
returns-clause-tells c = replies_tell

pub returns-clause-goes_back : goal.returns-clause-goes_back
returns-clause-goes_back c = saved_goes_back
