-- A cut text is reported as each text that goes on from it. Assumes nothing.
use Rattle.std.proofs.Common.{◌≡◌, ℕ, List, sym, refl, ap, ◌∙◌}
use Rattle.hexadecimal.proofs.Overlong.{told_overlong}
use Rattle.monitor.specs.Reports.{report_of, reading_of, Reports}
use Rattle.monitor.specs.declared.report.Given.{Given}
use Rattle.monitor.specs.declared.report.Given.TheVariants.{Whole, Cut}

pub reports_reading : (given : Given) (page : List ℕ) → page ≡ report_of (reading_of given) → Reports given page
reports_reading (Whole text) page e = e
reports_reading (Cut text) page e = λ full c more. e ∙ ap report_of (sym (told_overlong text.now _ refl full c more))
