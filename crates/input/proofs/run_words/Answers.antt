-- `input::run_words` meets its contract: what question 25 allows has no more words than there is place for.
use mathlib.Core.Path.{ap}
use native.Mathlib.Omega.{arith}
use lib.ListN.{length}
use Rattle.rules.proofs.InputLaws.{few_words, taken-within}
use Rattle.rules.specs.Input.{run_behind, run_input}
use Rattle.input.proofs.PartLaws.{words-front}
use Rattle.input.proofs.run_words.Goals as goal

pub read_words-requires : goal.read_words-requires
read_words-requires c =
    let input = c.args.input.now in
    let within = taken-within input in
    let few = few_words run_behind input _ c.requires.0 within in (
      omega (arith, within, c.words_taken.ensures, ap length c.behind.ensures),
      omega (arith, few, c.words_taken.ensures, c.requires.1),
    )

pub returns : goal.returns
unfolding run_input
returns c =
    let input = c.args.input.now in
    let within = taken-within input in
    let few = few_words run_behind input _ c.requires.0 within in (
      omega (arith, few, c.words_taken.ensures, c.read_words.ensures.0),
      cc (words-front _ _ _ _ c.read_words.ensures.1),
    )
