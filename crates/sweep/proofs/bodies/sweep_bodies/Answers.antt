-- `bodies::sweep_bodies` meets its contract: each body keeps what the sweep says so far, and raises no refusal.
use mathlib.Core.Path.{◌≡◌, ◌∙◌, ap}
use Prim.Native.Nat.{◌<◌}
use native.Mathlib.Omega.{arith}
use lib.ListN.{length}
use Rattle.rules.specs.Table.{decode, procedures}
use Rattle.sweep.proofs.EndLaws.{entered-none, entered_all, body_swept, body-length}
use Rattle.sweep.proofs.BodyLaws.{body-lower}
use Rattle.sweep.proofs.bodies.sweep_bodies.Goals as goal

pub loop-p-init : goal.loop-p-init
loop-p-init c =
    let given = c.requires in
    (given.0, entered-none _ _ _ given.1, omega arith)

pub loop-p-preserved : goal.loop-p-preserved
loop-p-preserved c =
    let given = c.args.table.now.sized in
    let inv = c.loop-p.invariant in
    let done = c.sweep_body-best.ensures in
    let low : c.loop-p.p < 16 = omega (arith, given.procedures-read, given.procedures-high) in (
      ap length done.1 ∙ body-length _ _ _ ∙ inv.0,
      rw (done.0, done.1) (body_swept _ given.nodes-high _ low _ _ inv.1),
      body-lower _ _ _ _ done.0 inv.2,
    )

pub returns : goal.returns
returns c =
    let inv = c.loop-p.invariant in
    let all : c.loop-p.p ≡ procedures (decode c.args.table.now.bytes.now) = omega (arith, c.args.table.now.sized.procedures-read) in
    (entered_all _ _ _ (simp all at inv.1), inv.0, inv.2)
