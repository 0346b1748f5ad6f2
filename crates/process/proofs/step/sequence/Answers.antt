-- `process::step::sequence` meets its contract.
use native.Mathlib.Omega.{arith}
use Rattle.rules.proofs.StackLaws.{replaced-length, replaced-depth}
use mathlib.Core.Path.{◌∙◌}
use Rattle.process.proofs.step.sequence.Goals as goal

pub push-requires : goal.push-requires
push-requires c =
    let args = c.args in
    let given = c.requires in
    rw c.replace.ensures (
      replaced-length args.words.now args.b ∙ given.0.sized,
      omega (arith, replaced-depth args.words.now given.0.sized args.b given.0.held),
    )

pub returns : goal.returns
returns c = rw (← c.replace.ensures) c.push.ensures
