-- `asking::ask_both` meets its contract: 27, 28 and 29 in turn.
use Rattle.linker.proofs.PairLaws.{linking, agreeing, many, few}
use Rattle.linker.proofs.asking.ask_both.Goals as goal

pub returns-then-library-program : goal.returns-then-library-program
returns-then-library-program c =
    let both = c.args.both.now in
    rw (
      linking both _ c.first_unlinked-procedure.ensures c.if-procedure-library.false,
      agreeing both _ _ c.min-shared.ensures c.first_disagreeing-variable.ensures c.if-variable-shared.false,
      many both c.if-library-program.true,
    )
    c.refused-then-library-program.ensures

pub returns : goal.returns
returns c =
    let both = c.args.both.now in
    rw (
      linking both _ c.first_unlinked-procedure.ensures c.if-procedure-library.false,
      agreeing both _ _ c.min-shared.ensures c.first_disagreeing-variable.ensures c.if-variable-shared.false,
      few both c.if-library-program.false,
    )
