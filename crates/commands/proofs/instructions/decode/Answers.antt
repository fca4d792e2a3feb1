use Rattle.std.proofs.Common.{Ok, sym, ap, ◌∙◌}
use Rattle.commands.specs.Requests.{asked}
use Rattle.commands.proofs.Asking.{asked_short}
use Rattle.commands.proofs.Telling.{decoded_by_the_bytes}
use Rattle.commands.proofs.instructions.decode.Goals as goal

-- the data of a writing are short, and begin near the front

pub written-requires-clause-short : goal.written-requires-clause-short
written-requires-clause-short c =
    (asked_short c.args.body.now c.in-Write.setting c.in-Write.«data».now c.in-Write.place
    (ap (λ q. Ok (asked q)) (sym c.in-Write.is) ∙ c.in_ok-setting.ensures.value)).0

pub written-requires-clause-near : goal.written-requires-clause-near
written-requires-clause-near c =
    (asked_short c.args.body.now c.in-Write.setting c.in-Write.«data».now c.in-Write.place
    (ap (λ q. Ok (asked q)) (sym c.in-Write.is) ∙ c.in_ok-setting.ensures.value)).1

-- the law holds of every body

pub returns-in_err-setting-clause-by_the_bytes : goal.returns-in_err-setting-clause-by_the_bytes
returns-in_err-setting-clause-by_the_bytes c = decoded_by_the_bytes

pub returns-in-Read-clause-by_the_bytes : goal.returns-in-Read-clause-by_the_bytes
returns-in-Read-clause-by_the_bytes c = decoded_by_the_bytes

pub returns-in-Write-clause-by_the_bytes : goal.returns-in-Write-clause-by_the_bytes
returns-in-Write-clause-by_the_bytes c = decoded_by_the_bytes

pub returns-in-Vfo-clause-by_the_bytes : goal.returns-in-Vfo-clause-by_the_bytes
returns-in-Vfo-clause-by_the_bytes c = decoded_by_the_bytes
