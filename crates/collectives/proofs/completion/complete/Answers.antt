-- `collectives::completion::complete` meets its contract.
-- The loop's state has the collective completed for the processes passed; the others' words are as they were.
use Rattle.process.proofs.LentLaws.{lent, back}
use Rattle.collectives.specs.Given.{collective_of}
use Rattle.rules.proofs.CollectiveLaws.{taken, taken_keeps}
use Rattle.rules.proofs.ProcessLaws.{each_process-length, each_process-kept}
use Rattle.rules.specs.Process.{process_words, each_process, with_process}
use Rattle.rules.specs.Collective.{completed_state}
use Rattle.rules.specs.Table.{Collective}
use lib.ListN.{length}
use native.Mathlib.Numerals.{add-one}
use native.Mathlib.Omega.{arith}
use Prim.Native.Nat.{ℕ, suc, ◌≤◌, ◌+◌, ◌*◌}
use mathlib.Core.Path.{◌≡◌, refl, ◌∙◌, ap}
use mathlib.Core.List.{List}
use Rattle.collectives.proofs.completion.complete.Goals as goal

still_sized : (roll : List ℕ) (count : ℕ) (k : Collective) (state₀ state : List ℕ) (p : ℕ) → p ≤ count
    → length state₀ ≡ process_words * count
    → state ≡ each_process (taken roll count k) p state₀ → length state ≡ process_words * count
still_sized roll count k state₀ state p l sized e =
    ap length e ∙ each_process-length (taken roll count k) state₀ count (taken_keeps roll count k) sized p l ∙ sized

pub loop-p-init : goal.loop-p-init
unfolding each_process
loop-p-init c = refl

pub slice_bounds-complete_one-end : goal.slice_bounds-complete_one-end
slice_bounds-complete_one-end c =
    omega (
      arith,
      still_sized _ _ _ _ _ _ (omega arith) c.requires.at_collective.1
          c.loop-p.invariant,
    )

pub complete_one-requires : goal.complete_one-requires
complete_one-requires c =
    let loop = c.loop-p in
    let args = c.args in
    let given = c.requires in
    let roll = args.roll.now in
    let count = args.count in
    let k = collective_of args.node in
    let p = loop.p in
    let kept =
    each_process-kept (taken roll count k) args.state.now count (taken_keeps roll count k) given.at_collective.1
    p p (omega arith) c.loop-p-test.true in (
      given.at_collective.0,
      rw (lent loop.state p, loop.invariant, kept) (given.by_index p c.loop-p-test.true),
      c.loop-p-test.true,
    )

pub loop-p-preserved : goal.loop-p-preserved
unfolding each_process
loop-p-preserved c =
    let complete-one = c.complete_one in
    let loop = c.loop-p in
    let args = c.args in
    let roll = args.roll.now in
    let count = args.count in
    let k = collective_of args.node in
    let p = loop.p in
    let state = loop.state in
    let next : p + 1 ≡ suc p = add-one p in
    rw (next, ← loop.invariant)
    (back state complete-one.new.words p
    ∙ ap (with_process state p) (complete-one.ensures ∙ ap (taken roll count k p) (lent state p)))

pub shape_of-state : goal.shape_of-state
shape_of-state c =
    ap length c.loop-p.invariant
    ∙ each_process-length _ _ c.args.count (taken_keeps _ _ _)
    c.requires.at_collective.1 _ (omega arith)

pub returns : goal.returns
unfolding completed_state
returns c =
    let args = c.args in
    let end : c.loop-p.p ≡ args.count = omega arith in
    c.loop-p.invariant
    ∙ ap (λ n. each_process (taken args.roll.now args.count (collective_of args.node)) n args.state.now) end
