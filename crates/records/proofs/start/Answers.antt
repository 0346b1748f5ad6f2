-- `records::start` meets its contract: what is said of the words lent is said of the records saved from them.
use Rattle.std.proofs.Common.{rules}
use Rattle.records.proofs.Recorded.{through_words}
use Rattle.records.proofs.TeamCalls.{start-call}
use Rattle.records.proofs.start.Goals as goal

pub returns : goal.returns
returns c =
    let a = c.args in
    through_words _ _
    (start-call a.table.now a.processes a.words.now a.state.now c.through_words.result c.through_words.new.state)
    (λ before after gives. search rules) _ _ c.through_words.ensures
