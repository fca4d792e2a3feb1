use Rattle.std.proofs.Common.{◌≡◌, ap, ◌∙◌, Some, rules}
use Rattle.framing.specs.Frames.{command_of}
use Rattle.commands.specs.Rows.{row_for}
use Rattle.commands.proofs.Parsing.{data_within}
use Rattle.commands.proofs.requests.parse_row.Goals as goal

pub parse_data-requires : goal.parse_data-requires
parse_data-requires c =
    let row : Some c.in_ok-row.row ≡ c.row_for.result = search rules in
    data_within c.in_ok-row.row c.args.body.now c.requires
    (row ∙ c.row_for.ensures ∙ ap (row_for (command_of c.args.body.now)) c.next_of.ensures)
