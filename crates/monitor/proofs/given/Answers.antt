use Rattle.std.proofs.Common.{sym, inl, inr, arith}
use Rattle.std.proofs.lemmas.List.{take_all}
use Rattle.monitor.proofs.given.Goals as goal
use Rattle.monitor.proofs.given.Goals.{in_default-via-in-Some+else-text-gt-LIMIT, in_default-via-in_default}

-- a text that is not longer than it may be is all of it
pub returns-in_default-clause-characters : goal.returns-in_default-clause-characters
returns-in_default-clause-characters c =
    sym
    (take_all 4096 c.args.text.now (elim c.in_default.branch [
      | in_default-via-in-Some+else-text-gt-LIMIT w ↦ omega arith
      | in_default-via-in_default w ↦ elim w.in_default.ensures.lookup.0 [ inl none ↦ omega arith | inr short ↦ omega arith ]
    ]))
