-- `again::next_stretch` meets its contract. The loop's invariant: each node so far is marked.
use mathlib.Core.Path.{◌≡◌, sym, ◌∙◌}
use native.Mathlib.Decide.{dec_lt}
use native.Mathlib.Omega.{arith}
use mathlib.Core.Bool.{false}
use Prim.Native.Nat.{◌<◌}
use Rattle.rules.proofs.VisibleLaws.{contrary}
use Rattle.table.specs.Marks.{bit_at}
use Rattle.switches.specs.Aside.{aside_plane}
use Rattle.switches.proofs.FourLaws.{aside-lent}
use Rattle.switches.proofs.again.next_stretch.Goals as goal

pub loop-first-preserved : goal.loop-first-preserved
loop-first-preserved c =
    let turn = c.loop-first in
    let set = rw (aside-lent c.args.planes.now c.requires.0) at (sym c.marked.ensures ∙ c.if-not-marked.false) in
    λ k from to.
    elim (dec_lt k turn.first) [
      | yes earlier ↦ turn.invariant k from earlier
      | no here ↦ let same : k ≡ turn.first = omega arith in rw same set
    ]

pub returns-then-not-marked : goal.returns-then-not-marked
returns-then-not-marked c =
    let planes = c.args.planes.now in
    let first = c.loop-first.first in
    let stretch = c.stretch_end.ensures in
    let free : bit_at (aside_plane planes) first ≡ false =
    rw (aside-lent planes c.requires.0) at (sym c.marked.ensures ∙ c.if-not-marked.true) in
    let some : first < c.stretch_end.result =
    elim (dec_lt first c.stretch_end.result) [
      | yes below ↦ below
      | no past ↦
          let none : c.stretch_end.result ≡ first = omega (arith, stretch.from) in
          absurd (contrary (bit_at (aside_plane planes) first) (rw none at (stretch.stop (omega arith))) free)
    ] in
    (c.loop-first.invariant, omega arith, some, stretch)
