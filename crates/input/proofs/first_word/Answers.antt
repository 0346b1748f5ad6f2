-- `input::first_word` meets its contract: the word of the first bytes.
use mathlib.Core.Path.{◌∙◌, ap}
use Rattle.rules.specs.Table.{word_at}
use Rattle.input.proofs.first_word.Goals as goal

pub returns : goal.returns
unfolding word_at
returns c = c.word.ensures ∙ ap (λ l. word_at l 0) c.first_bytes-four.ensures
