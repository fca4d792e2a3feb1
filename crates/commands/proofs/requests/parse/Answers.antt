use Rattle.std.proofs.Common.{rules}
use Rattle.commands.proofs.Asking.{requests_by_their_bytes}
use Rattle.commands.proofs.Parsing.{too_short}
use Rattle.commands.proofs.requests.parse.Goals as goal

pub returns-in_default-clause-value : goal.returns-in_default-clause-value
returns-in_default-clause-value c = too_short c.args.body.now (search rules)

-- the law on requests holds of every body

pub returns-in_default-clause-requests : goal.returns-in_default-clause-requests
returns-in_default-clause-requests c = requests_by_their_bytes

pub returns-in-7-clause-requests : goal.returns-in-7-clause-requests
returns-in-7-clause-requests c = requests_by_their_bytes

pub returns-in-len3-up-clause-requests : goal.returns-in-len3-up-clause-requests
returns-in-len3-up-clause-requests c = requests_by_their_bytes
