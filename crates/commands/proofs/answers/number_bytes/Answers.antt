use Rattle.std.proofs.Common.{sym, ap, ◌∙◌}
use Rattle.std.specs.Result.{result_ok}
use Rattle.commands.proofs.Tabled.{found_tabled}
use Rattle.commands.proofs.answers.number_bytes.Goals as goal

pub row_bytes-requires : goal.row_bytes-requires
row_bytes-requires c =
    let row = sym c.row_of.ensures.value ∙ c.ok_or.ensures.ok_part ∙ ap result_ok c.in_ok-row.was in
    (found_tabled _ c.in_ok-row.row row).most
