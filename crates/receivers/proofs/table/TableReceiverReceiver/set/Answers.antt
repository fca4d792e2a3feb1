use Rattle.std.proofs.Common.{sym, ap, ◌∙◌, rules}
use Rattle.receivers.specs.Meaning.{readings_after}
use Rattle.receivers.specs.Tables.{table_reading, table_taking}
use Rattle.receivers.specs.TableLaws.{set_held, set_reads}
use Rattle.receivers.proofs.table.TableReceiverReceiver.set.Goals as goal

pub invariant_of-self-clause-held : goal.invariant_of-self-clause-held
invariant_of-self-clause-held c =
    let v = c.args.self.now in
    rw c.from.ensures (set_held v.coverage v.suited v.numbers v.held (search rules) c.args.setting.number c.args.number c.in_ok-kept.kept (sym c.in_ok-kept.ensures))

pub returns-clause-changes : goal.returns-clause-changes
returns-clause-changes c =
    let v = c.args.self.now in
    let k = c.args.setting.number in
    let e = sym c.in_ok-kept.ensures in
    rw c.from.ensures (ap (λ f. record { reading = f; taking = table_taking v.coverage })
    (set_reads v.coverage v.suited v.numbers (search rules) k c.args.number c.in_ok-kept.kept e
    ∙ ap (λ t. readings_after t k (table_reading v.coverage.mask v.numbers)) (sym e)))
