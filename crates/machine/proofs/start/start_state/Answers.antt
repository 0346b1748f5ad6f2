-- `machine::start::start_state` meets its contract. The processes passed are laid out; a part of the state is lent for each.
use Rattle.machine.proofs.StartLaws.{laid-all, given-within}
use Rattle.process.proofs.LentLaws.{lent, back}
use Rattle.machine.specs.Layout.{Startable}
use Rattle.table.proofs.PassingLaws.{read-shaped}
use Rattle.rules.proofs.VerdictLaws.{laid, start_words-length}
use Rattle.rules.proofs.ProcessLaws.{KeepsBelow, each_below-length, process_length}
use Rattle.rules.proofs.Formed.{formed}
use Rattle.rules.specs.Table
use Rattle.rules.specs.Table.{decode, procedures, main_body, body}
use Rattle.rules.specs.Start.{start_size, start_process, start_words, start_state}
use Rattle.rules.specs.Evaluation.{doors}
use Rattle.rules.specs.Process.{process_words, each_process, with_process}
use lib.ListN.{length, take, drop}
use native.Mathlib.Numerals.{add-one}
use native.Mathlib.Omega.{arith}
use Prim.Native.Nat.{ℕ, suc, ◌+◌, ◌-◌, ◌*◌, ◌≤◌}
use mathlib.Core.Path.{◌≡◌, refl, sym, ◌∙◌, ap}
use mathlib.Core.List.{List}
use Rattle.machine.proofs.start.start_state.Invariants.{Laying, laid_for}
use Rattle.machine.proofs.start.start_state.Goals as goal

laid_keeps : {table : List ℕ} {count : ℕ} {words state : List ℕ} → Startable table count words state
    → KeepsBelow (laid_for table words) count
laid_keeps {table} {count} {words} s q earlier l h =
    (laid (decode table) (start_words (decode table) words q) (formed table s.well-formed).variables-high
    (start_words-length (decode table) words count q s.worded l)
    ).sized

still_sized : {table : List ℕ} {count : ℕ} {words state₀ : List ℕ} {v entry : ℕ} {state : List ℕ} {p : ℕ}
    → Startable table count words state₀ → p ≤ count → Laying table words state₀ v entry state p
    → length state ≡ process_words * count
still_sized {table} {count} {words} {state₀} {p = p} s within i =
    ap length i.reached
    ∙ each_below-length (laid_for table words) state₀ count (laid_keeps s) s.stated p within
    ∙ s.stated

given_is : (table words : List ℕ) (p : ℕ) {v : ℕ} {given : List ℕ} → v ≡ Table.variables (decode table)
    → given ≡ take (v + doors) (drop ((v + doors) * p) words) → given ≡ start_words (decode table) words p
unfolding start_words start_size
given_is table words p e g = rw (← e) g

pub of-table-requires : goal.of-table-requires
of-table-requires c = read-shaped (record { passed = c.requires.well-formed })

pub overflow_cast-entry : goal.overflow_cast-entry
overflow_cast-entry c =
    let table = c.args.table.now in
    let shape = formed table c.requires.well-formed in
    let sized = c.of-table.result.sized in
    let same : procedures (decode c.of-table.result.bytes.now) ≡ procedures (decode table) = rw c.of-table.ensures in
    let entry = rw c.of-table.ensures at c.body-entry.ensures in
    omega (
      arith,
      entry,
      shape.body_below (c.of-table.result.header.procedures - 1)
          (omega (arith, same, sized.procedures-read, shape.procedures-low)),
      shape.nodes-high,
    )

pub loop-p-init : goal.loop-p-init
unfolding each_process main_body
loop-p-init c =
    let sized = rw c.of-table.ensures at c.of-table.result.sized in
    record {
      counted = sized.variables-read;
      entered = rw (c.of-table.ensures, sized.procedures-read) at c.body-entry.ensures;
      reached = refl;
    }

pub overflow_add-variables : goal.overflow_add-variables
overflow_add-variables c = omega (arith, c.loop-p.invariant.counted, (formed _ c.requires.well-formed).variables-high)

pub given_to-given-requires : goal.given_to-given-requires
unfolding start_size
given_to-given-requires c =
    rw (c.loop-p.invariant.counted, c.requires.worded)
    (given-within _ c.args.count c.loop-p.p c.loop-p-test.true)

pub slice_bounds-lay_out-end : goal.slice_bounds-lay_out-end
slice_bounds-lay_out-end c = omega (arith, still_sized c.requires (omega arith) c.loop-p.invariant)

pub lay_out-requires : goal.lay_out-requires
unfolding start_size
lay_out-requires c =
    let args = c.args in
    let pre = c.requires in
    let few = (formed _ pre.well-formed).variables-high in
    let inv = c.loop-p.invariant in
    let p = c.loop-p.p in
    let below = c.loop-p-test.true in
    let mine = given_is args.table.now args.words.now p inv.counted c.given_to-given.ensures in (
      ap length (lent c.loop-p.state p)
          ∙ process_length _ args.count p (still_sized pre (omega arith) inv) below,
      rw (mine, inv.counted) (start_words-length _ _ args.count p pre.worded below),
      omega (arith, inv.counted),
    )

pub loop-p-preserved : goal.loop-p-preserved
unfolding each_process
loop-p-preserved c =
    let lay-out = c.lay_out in
    let loop-test = c.loop-p-test in
    let loop = c.loop-p in
    let args = c.args in
    let pre = c.requires in
    let table = args.table.now in
    let words = args.words.now in
    let count = args.count in
    let p = loop.p in
    let state = loop.state in
    let last = lay-out.new.words in
    let inv = loop.invariant in
    let mine = given_is table words p inv.counted c.given_to-given.ensures in
    let sized : length last ≡ process_words =
    lay-out.auto.words
    ∙ ap length (lent state p)
    ∙ process_length state count p (still_sized pre (omega arith) inv) loop-test.true in
    let laid_out : last ≡ start_process (decode table) (start_words (decode table) words p) =
    laid-all (decode table) (start_words (decode table) words p) (formed table pre.well-formed).variables-high
    (start_words-length (decode table) words count p pre.worded loop-test.true) last sized
    (λ i l. rw (inv.counted, inv.entered, mine) at (lay-out.ensures i l)) in
    let next : p + 1 ≡ suc p = add-one p in
    record {
      counted = inv.counted;
      entered = inv.entered;
      reached = rw (next, ← inv.reached) (back state last p ∙ ap (with_process state p) laid_out);
    }

pub shape_of-state : goal.shape_of-state
shape_of-state c =
    let pre = c.requires in
    still_sized pre (omega arith) c.loop-p.invariant ∙ sym pre.stated

pub returns : goal.returns
unfolding start_state
returns c =
    let args = c.args in
    let inv = c.loop-p.invariant in
    let end : c.loop-p.p ≡ args.count = omega arith in
    inv.reached ∙ ap (λ n. each_process (laid_for args.table.now args.words.now) n args.state.now) end
