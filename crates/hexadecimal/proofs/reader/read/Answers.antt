use Rattle.hexadecimal.proofs.Rules.{reads_by_rules}
use Rattle.hexadecimal.proofs.reader.read.Goals as goal

pub returns-then-position-ge-LIMIT-clause-by_rules : goal.returns-then-position-ge-LIMIT-clause-by_rules
returns-then-position-ge-LIMIT-clause-by_rules c = reads_by_rules

pub returns-in_err-next-clause-by_rules : goal.returns-in_err-next-clause-by_rules
returns-in_err-next-clause-by_rules c = reads_by_rules

pub returns-in-Half-clause-by_rules : goal.returns-in-Half-clause-by_rules
returns-in-Half-clause-by_rules c = reads_by_rules

pub returns-in-Between-clause-by_rules : goal.returns-in-Between-clause-by_rules
returns-in-Between-clause-by_rules c = reads_by_rules
