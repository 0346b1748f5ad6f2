-- `exact::exact` meets its contract: questions 7, 8 and 9 in turn, and 11 where they pass.
use Rattle.visit.proofs.LeastLaws.{failed, passed}
use Rattle.visit.specs.Exact.{node_best, node_marks}
use Rattle.visit.proofs.exact.exact.Goals as goal

pub returns-then-not-kind_known : goal.returns-then-not-kind_known
unfolding node_best node_marks
returns-then-not-kind_known c =
    let known = failed c.kind_known.ensures c.if-not-kind_known.true-raw in
    (simp (known, c.worse.ensures), simp known)

pub returns-then-not-unnamed_zero : goal.returns-then-not-unnamed_zero
unfolding node_best node_marks
returns-then-not-unnamed_zero c =
    let known = passed c.kind_known.ensures c.if-not-kind_known.false-raw in
    let zero = simp c.node_at.ensures at
    (failed c.unnamed_zero.ensures c.if-not-unnamed_zero.true-raw) in
    (simp (known, zero, c.worse-then-not-unnamed_zero.ensures), simp (known, zero))

pub returns-then-not-node_fits : goal.returns-then-not-node_fits
unfolding node_best node_marks
returns-then-not-node_fits c =
    let known = passed c.kind_known.ensures c.if-not-kind_known.false-raw in
    let zero = simp c.node_at.ensures at
    (passed c.unnamed_zero.ensures c.if-not-unnamed_zero.false-raw) in
    let fits = failed c.node_fits.ensures c.if-not-node_fits.true-raw in
    (simp (known, zero, fits, c.worse-then-not-node_fits.ensures), simp (known, zero, fits))

pub returns : goal.returns
unfolding node_best node_marks
returns c =
    let known = passed c.kind_known.ensures c.if-not-kind_known.false-raw in
    let zero = simp c.node_at.ensures at
    (passed c.unnamed_zero.ensures c.if-not-unnamed_zero.false-raw) in
    let fits = passed c.node_fits.ensures c.if-not-node_fits.false-raw in
    (simp (known, zero, fits, c.note_parts.ensures.0), simp (known, zero, fits, c.note_parts.ensures.1))
