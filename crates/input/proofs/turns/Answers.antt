-- `input::turns` meets its contract: the start words end within what follows.
use mathlib.Core.Path.{ap}
use native.Mathlib.Omega.{arith}
use lib.ListN.{length}
use Rattle.rules.proofs.InputLaws.{taken-within}
use Rattle.rules.specs.Input.{run_input}
use Rattle.input.proofs.turns.Goals as goal

pub overflow_mul-words_taken : goal.overflow_mul-words_taken
overflow_mul-words_taken c =
    record {
      fits = omega (
        arith,
        taken-within c.args.input.now,
        c.words_taken.ensures,
        ap length c.behind.ensures,
      );
    }

pub returns : goal.returns
unfolding run_input
returns c = cc
