-- `bodies::flag_body` meets its contract: the bit of the body stands in the lent plane of facts.
use native.Mathlib.Omega.{arith}
use mathlib.Core.Path.{sym, ◌∙◌}
use Rattle.visit.specs.Fields.{facts_plane}
use Rattle.visit.proofs.LeastLaws.{passed, failed}
use Rattle.sweep.proofs.BodyLaws.{body-lent, marked-body, flag_local, flag_set, flag_missing}
use Rattle.sweep.proofs.bodies.flag_body.Goals as goal

pub marked-requires : goal.marked-requires
marked-requires c =
    let given = c.requires in
    body-lent given.0 (rw c.args.table.now.sized.procedures-read at given.1) c.args.planes.now given.2 c.body.ensures

pub returns-then-not-marked : goal.returns-then-not-marked
returns-then-not-marked c =
    let given = c.requires in
    let effect =
    marked-body given.0 (rw c.args.table.now.sized.procedures-read at given.1) c.args.planes.now given.2 c.body.ensures c.marked.ensures in
    omega (arith, flag_local _ _ _ (failed effect c.if-not-marked.true-raw), given.3)

pub returns-then-effect_flag : goal.returns-then-effect_flag
returns-then-effect_flag c =
    let given = c.requires in
    omega (arith, flag_set _ (facts_plane c.args.planes.now) _ (sym c.effect_flag.ensures ∙ c.if-effect_flag.true), given.3)

pub returns : goal.returns
returns c =
    let given = c.requires in
    let effect =
    marked-body given.0 (rw c.args.table.now.sized.procedures-read at given.1) c.args.planes.now given.2 c.body.ensures c.marked.ensures in
    let missing = sym c.effect_flag.ensures ∙ c.if-effect_flag.false in
    omega (arith, flag_missing _ _ _ (passed effect c.if-not-marked.false-raw) missing, c.worse.ensures)
