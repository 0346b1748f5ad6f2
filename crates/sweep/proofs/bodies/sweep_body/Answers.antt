-- `bodies::sweep_body` meets its contract: a test that fails is the procedure's least refusal, and a body that passes is noted.
use native.Mathlib.Omega.{arith}
use Rattle.table.proofs.FittingLaws.{body-low}
use Rattle.visit.proofs.LeastLaws.{passed, failed}
use Rattle.sweep.specs.Swept.{body_best, body_marks}
use Rattle.sweep.proofs.bodies.sweep_body.Goals as goal

pub returns-then-not-procedure_fits : goal.returns-then-not-procedure_fits
unfolding body_best body_marks
returns-then-not-procedure_fits c =
    let fits = failed c.procedure_fits.ensures c.if-not-procedure_fits.true-raw in
    (simp (fits, c.worse.ensures), simp fits)

pub returns-then-not-body_is_statement : goal.returns-then-not-body_is_statement
unfolding body_best body_marks
returns-then-not-body_is_statement c =
    let fits = passed c.procedure_fits.ensures c.if-not-procedure_fits.false-raw in
    let statement = failed c.body_is_statement.ensures c.if-not-body_is_statement.true-raw in
    (simp (fits, statement, c.worse-then-not-body_is_statement.ensures), simp (fits, statement))

pub note-requires : goal.note-requires
note-requires c =
    let fits = passed c.procedure_fits.ensures c.if-not-procedure_fits.false-raw in
    let given = c.requires in
    (omega (arith, body-low _ _ fits, c.body.ensures, c.args.table.now.sized.nodes-high), given.1)

pub returns : goal.returns
unfolding body_best body_marks
returns c =
    let fits = passed c.procedure_fits.ensures c.if-not-procedure_fits.false-raw in
    let statement = passed c.body_is_statement.ensures c.if-not-body_is_statement.false-raw in
    let read = c.body.ensures in
    let note = c.note.ensures in
    (simp (fits, statement, ← read) note.0, simp (fits, statement, ← read) note.1)
