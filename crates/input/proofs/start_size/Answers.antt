-- `input::start_size` meets its contract: V stands in the first word.
use mathlib.Core.Path.{◌∙◌, ap}
use native.Mathlib.Omega.{arith}
use Prim.Native.Nat.{◌+◌}
use Rattle.rules.specs.Evaluation.{doors}
use Rattle.rules.specs.Start.{start_size}
use Rattle.rules.specs.Table.{decode, word_at, variables}
use Rattle.table.specs.Header.{header_of}
use Rattle.input.proofs.start_size.Goals as goal

pub overflow_add-result : goal.overflow_add-result
unfolding header_of variables decode
overflow_add-result c = record { fits = omega (arith, ap (λ h. h.variables) c.header.ensures) }

pub returns : goal.returns
unfolding header_of start_size variables decode word_at
returns c =
    let size = ap (λ h. h.variables + doors) c.header.ensures in (
      size ∙ ap (λ l. start_size (decode l)) c.first_bytes-first.ensures,
      omega (arith, size),
    )
