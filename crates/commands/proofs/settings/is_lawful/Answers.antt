use Rattle.std.proofs.Common.{◌≡◌, false, get_or, sym, ap, rules}
use Rattle.commands.specs.Settings.{lawful, lawful_numbers}
use Rattle.commands.proofs.settings.is_lawful.Goals as goal

pub returns-in-OFFSET-clause-value : goal.returns-in-OFFSET-clause-value
unfolding lawful
returns-in-OFFSET-clause-value c =
    let offset : c.args.setting.number ≡ 2 = search rules in
    ap (λ s. get_or lawful_numbers s (λ m. false) c.args.number) (sym offset)
