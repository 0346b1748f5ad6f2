-- `asking::is_stub` meets its contract: body, kind and flag in turn.
use native.Mathlib.Omega.{arith}
use borrow.Author.Tests.{eq-eqb, ne_eqb}
use Rattle.linker.specs.Linking.{stub}
use Rattle.rules.proofs.Formed.{formed}
use Rattle.linker.proofs.asking.is_stub.Goals as goal

pub returns-then-body-p : goal.returns-then-body-p
unfolding stub
returns-then-body-p c = simp (← c.body.ensures, ne_eqb _ _ c.if-body-p.true)

pub kind_at-requires : goal.kind_at-requires
kind_at-requires c =
    let both = c.args.both.now in
    let sized = both.program.sized in
    let below = (formed _ both.program_formed).body_below c.args.p (omega (arith, c.requires.1, sized.procedures-read)) in
    omega (arith, c.if-body-p.false, c.body.ensures, below, sized.nodes-read)

pub returns-then-kind_at-ne-NOTHING : goal.returns-then-kind_at-ne-NOTHING
unfolding stub
returns-then-kind_at-ne-NOTHING c =
    simp (
      ← c.body.ensures,
      eq-eqb _ _ c.if-body-p.false,
      ← c.kind_at.ensures,
      ne_eqb _ _ c.if-kind_at-ne-NOTHING.true,
    )

pub returns : goal.returns
unfolding stub
returns c =
    simp (
      ← c.body.ensures,
      eq-eqb _ _ c.if-body-p.false,
      ← c.kind_at.ensures,
      eq-eqb _ _ c.if-kind_at-ne-NOTHING.false,
      ← c.effect_flag.ensures,
      ← c.effect_flag-2.ensures,
    )
