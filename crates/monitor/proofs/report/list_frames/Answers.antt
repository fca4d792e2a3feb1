use Rattle.std.proofs.Common.{Bool, true, false, ◌++◌, length, sym, ap, ◌∙◌, arith}
use Rattle.std.proofs.lemmas.Result.{MatchResult-from_err}
use Rattle.framing.specs.Machine.{gives}
use Rattle.framing.proofs.Running.{gives_turn, gives_stream}
use Rattle.hexadecimal.specs.Lines.{line}
use Rattle.monitor.specs.Reports.{frame_lines}
use Rattle.monitor.proofs.Listing.{line_added, line_refused}
use Rattle.monitor.proofs.report.list_frames.Goals as goal
use Rattle.monitor.proofs.report.list_frames.Goals.{then-take+in_ok-add, else-take}

pub loop-byte-init : goal.loop-byte-init
loop-byte-init c =
    let stream = c.args.stream.now in
    let given = ap (λ m. gives m stream) c.new-framer.ensures.value ∙ gives_stream stream in
    (omega arith, (λ j. c.blank-page.ensures j ++ frame_lines (given j)), omega (arith, ap length given))

pub returns-in_err-add : goal.returns-in_err-add
returns-in_err-add c =
    let next = gives_turn c.loop-byte.framer c.take.new.self c.args.stream.now c.loop-byte.byte-index true (omega arith) c.take.ensures.after (sym c.if-take.ensures.ends) in
    MatchResult-from_err c.from_residual.result _ _ c.from_residual.ensures.0
    (λ _. line_refused c.loop-byte.page _ _ _ _ next c.loop-byte.invariant.1 _ 32768 (omega (arith, c.in_err-add.ensures.cases, ap (λ b. length (line b)) c.frame.ensures.body)))

pub loop-byte-preserved : goal.loop-byte-preserved
loop-byte-preserved c =
    let turn = λ (ends : Bool). gives_turn c.loop-byte.framer c.take.new.self c.args.stream.now c.loop-byte.byte-index ends (omega arith) c.take.ensures.after in
    elim c.if-take.branch [
      | then-take+in_ok-add w ↦
          let next = turn true (sym w.if-take.ensures.ends) in
          let added = w.page-is ∙ w.in_ok-add.ensures.cases ∙ ap (λ b. c.loop-byte.page ++ line b) w.frame.ensures.body in (
            omega (arith, w.frames-is),
            line_added c.loop-byte.page _ _ _ _ next c.loop-byte.invariant.1 _ added,
            omega (arith, w.frames-is, ap length next),
          )
      | else-take w ↦
          let next = turn false (sym w.if-take.ensures.ends) in (
            omega (arith, w.frames-is),
            (λ j. w.page-is j ++ frame_lines (sym next j)) ∙ c.loop-byte.invariant.1,
            omega (arith, w.frames-is, ap length next),
          )
    ]
