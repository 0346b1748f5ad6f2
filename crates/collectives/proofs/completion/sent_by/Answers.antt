-- `collectives::completion::sent_by` meets its contract.
use borrow.Author.Tests.{lt-ltb, le-ltb}
use borrow.Author.Rules.{rules}
use Rattle.collectives.proofs.completion.sent_by.Goals as goal

pub returns-then-source-count : goal.returns-then-source-count
returns-then-source-count c = search (rules, lt-ltb)

pub returns-else-source-count : goal.returns-else-source-count
returns-else-source-count c = search (rules, le-ltb)
