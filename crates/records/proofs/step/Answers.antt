-- `records::step` meets its contract: what is said of the words lent is said of the records saved from them.
use Rattle.std.proofs.Common.{rules}
use Rattle.records.proofs.Recorded.{through_words}
use Rattle.records.proofs.TeamCalls.{step_call}
use Rattle.records.proofs.step.Goals as goal

pub returns : goal.returns
returns c =
    let a = c.args in
    through_words _ _
    (step_call a.table.now a.state.now a.process c.through_words.result c.through_words.new.state)
    (λ before after gives. search rules) _ _ c.through_words.ensures
