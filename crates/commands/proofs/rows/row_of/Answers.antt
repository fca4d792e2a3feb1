use Rattle.commands.proofs.Tabled.{fifteen_rows}
use Rattle.commands.proofs.rows.row_of.Goals as goal

pub returns-clause-fifteen : goal.returns-clause-fifteen
returns-clause-fifteen c = fifteen_rows
