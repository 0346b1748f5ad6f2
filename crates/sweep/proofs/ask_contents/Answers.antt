-- `ask_contents` meets its contract: 6 to 11 from the least refusal, and the rest where there is none.
use mathlib.Core.Path.{◌∙◌}
use Rattle.visit.proofs.PlaneLaws.{used-length}
use Rattle.sweep.proofs.EndLaws.{swept_high}
use Rattle.sweep.proofs.NodeLaws.{kept_put}
use Rattle.sweep.proofs.FormedLaws.{passes-first}
use Rattle.sweep.proofs.ask_contents.Goals as goal

pub ask_calls-requires-clause-kept_to : goal.ask_calls-requires-clause-kept_to
ask_calls-requires-clause-kept_to c =
    let past = c.if-best-lt-NONE.false in
    let uses = c.sweep_uses-best.ensures in
    let found = c.sweep_nodes-found.ensures in
    let planes = c.sweep_nodes-found.new.planes in
    let words = c.sweep_uses-best.new.marks in
    let many = c.sweep_uses-best.auto.marks ∙ used-length planes found.size in
    let first = passes-first uses past (swept_high c.args.table.now.sized.nodes-high found.marks) in
    kept_put planes found.size words many (found.kept first)
