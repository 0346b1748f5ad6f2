-- `input::serve_words` meets its contract: what question 25 allows has no more words than there is place for.
use mathlib.Core.Path.{◌∙◌, ap}
use native.Mathlib.Omega.{arith}
use lib.ListN.{length}
use Rattle.rules.proofs.InputLaws.{few_words, exactly_within}
use Rattle.rules.specs.Input.{behind, serve_behind, words_exactly, serve_input}
use Rattle.input.proofs.PartLaws.{words-front}
use Rattle.input.proofs.serve_words.Goals as goal

pub read_words-requires : goal.read_words-requires
read_words-requires c =
    let input = c.args.input.now in
    let within = exactly_within (behind serve_behind input) in
    let few = few_words serve_behind input _ c.requires.0 within in
    let count = c.words_exactly.ensures ∙ ap words_exactly c.behind-given.ensures in (
      omega (arith, within, count, ap length c.behind-given.ensures),
      omega (arith, few, count, c.requires.1),
    )

pub returns : goal.returns
unfolding serve_input
returns c =
    let input = c.args.input.now in
    let within = exactly_within (behind serve_behind input) in
    let few = few_words serve_behind input _ c.requires.0 within in
    let count = c.words_exactly.ensures ∙ ap words_exactly c.behind-given.ensures in (
      omega (arith, few, count, c.read_words.ensures.0),
      cc (words-front _ _ _ _ c.read_words.ensures.1),
    )
