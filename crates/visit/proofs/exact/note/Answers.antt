-- `exact::note` meets its contract: a node that is marked already is a refusal.
use mathlib.Core.Path.{sym, ◌∙◌}
use Rattle.table.specs.Marks.{with_bit}
use Rattle.visit.specs.Exact.{noted_code}
use Rattle.visit.proofs.exact.note.Goals as goal

pub returns-then-marked : goal.returns-then-marked
unfolding noted_code with_bit
returns-then-marked c =
    let full = sym c.marked.ensures ∙ c.if-marked.true in
    (simp (full, c.worse.ensures), simp full)

pub returns : goal.returns
unfolding noted_code
returns c = (simp (sym c.marked.ensures ∙ c.if-marked.false), c.mark.ensures)
