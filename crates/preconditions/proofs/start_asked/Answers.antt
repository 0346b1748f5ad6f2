-- `preconditions::start_asked` meets its contract.
use Rattle.preconditions.proofs.QuestionLaws.{given-fits}
use Rattle.table.specs.Header.{header_of}
use Rattle.rules.proofs.Formed.{formed, exact}
use Rattle.rules.specs.Evaluation.{doors}
use Rattle.rules.specs.Start.{start_size}
use borrow.Author.Tests.{eq-eqb, ne_eqb, le-leb}
use native.Mathlib.Omega.{arith}
use Prim.Native.Nat.{◌+◌}
use mathlib.Core.Path.{ap}
use Rattle.preconditions.proofs.start_asked.Goals as goal

pub header-size-requires : goal.header-size-requires
header-size-requires c =
    let sized = exact _ c.requires in
    omega (arith, sized)

pub overflow_add-size : goal.overflow_add-size
unfolding header_of
overflow_add-size c =
    let few = (formed _ c.requires).variables-high in
    let same = ap (λ h. h.variables) c.header-size.ensures in
    omega arith

pub overflow_mul-size : goal.overflow_mul-size
unfolding header_of
overflow_mul-size c =
    let args = c.args in
    let few = (formed _ c.requires).variables-high in
    let same = ap (λ h. h.variables) c.header-size.ensures in
    omega (
      arith,
      given-fits (c.header-size.result.variables + doors) args.processes (omega arith)
          c.if-count-gt-MOST_PROCESSES.false,
    )

pub returns-then-words-size : goal.returns-then-words-size
unfolding start_size header_of
returns-then-words-size c =
    rw (
      le-leb _ _ c.if-count-lt1.false,
      le-leb _ _ c.if-count-gt-MOST_PROCESSES.false,
      ← ap (λ h. h.variables) c.header-size.ensures,
      ne_eqb _ _ c.if-words-size.true,
    )
    c.refused-then-words-size.ensures

pub returns-then-state-count : goal.returns-then-state-count
unfolding start_size header_of
returns-then-state-count c =
    rw (
      le-leb _ _ c.if-count-lt1.false,
      le-leb _ _ c.if-count-gt-MOST_PROCESSES.false,
      ← ap (λ h. h.variables) c.header-size.ensures,
      eq-eqb _ _ c.if-words-size.false,
      ne_eqb _ _ c.if-state-count.true,
    )
    c.refused-then-state-count.ensures

pub returns-then-roll-count : goal.returns-then-roll-count
unfolding start_size header_of
returns-then-roll-count c =
    rw (
      le-leb _ _ c.if-count-lt1.false,
      le-leb _ _ c.if-count-gt-MOST_PROCESSES.false,
      ← ap (λ h. h.variables) c.header-size.ensures,
      eq-eqb _ _ c.if-words-size.false,
      eq-eqb _ _ c.if-state-count.false,
      ne_eqb _ _ c.if-roll-count.true,
    )
    c.refused-then-roll-count.ensures

pub returns : goal.returns
unfolding start_size header_of
returns c =
    rw (
      le-leb _ _ c.if-count-lt1.false,
      le-leb _ _ c.if-count-gt-MOST_PROCESSES.false,
      ← ap (λ h. h.variables) c.header-size.ensures,
      eq-eqb _ _ c.if-words-size.false,
      eq-eqb _ _ c.if-state-count.false,
      eq-eqb _ _ c.if-roll-count.false,
    )
