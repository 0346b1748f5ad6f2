-- `again::stretch_end` meets its contract. The loop's invariant: no node so far is marked.
use mathlib.Core.Path.{◌≡◌, sym, ◌∙◌}
use native.Mathlib.Decide.{dec_lt}
use native.Mathlib.Omega.{arith}
use Rattle.switches.proofs.FourLaws.{aside-lent}
use Rattle.switches.proofs.again.stretch_end.Goals as goal

pub returns-then-marked : goal.returns-then-marked
returns-then-marked c =
    record {
      from = omega arith;
      to = omega arith;
      free = c.loop-end.invariant;
      stop = λ inside.
          rw (aside-lent c.args.planes.now c.requires.0) at (sym c.marked.ensures ∙ c.if-marked.true);
    }

pub loop-end-preserved : goal.loop-end-preserved
loop-end-preserved c =
    let turn = c.loop-end in
    let free = rw (aside-lent c.args.planes.now c.requires.0) at (sym c.marked.ensures ∙ c.if-marked.false) in
    λ k from to.
    elim (dec_lt k turn.end) [
      | yes earlier ↦ turn.invariant k from earlier
      | no here ↦ let same : k ≡ turn.end = omega arith in rw same free
    ]

pub returns : goal.returns
returns c =
    record {
      from = omega arith;
      to = omega arith;
      free = λ k from to. c.loop-end.invariant k from (omega arith);
      stop = λ inside. absurd (omega arith);
    }
