-- `input::words_taken` meets its contract: a process has few start words, so the product fits.
use Prim.Native.Nat.{◌≤◌}
use native.Mathlib.Nat.{mul-le-mul}
use native.Mathlib.Omega.{arith}
use Rattle.rules.specs.Input.{words_taken}
use Rattle.input.proofs.words_taken.Goals as goal

pub overflow_mul-each : goal.overflow_mul-each
overflow_mul-each c =
    let each : c.start_size-each.result ≤ 75 = c.start_size-each.ensures.1 in
    let many : c.word_behind.result ≤ 4294967295 = omega arith in
    record { fits = omega (arith, mul-le-mul each many) }

pub returns : goal.returns
unfolding words_taken
returns c = cc
