-- `preconditions::fitting::stack_fits` meets its contract. The loop has passed only entries that are statements, two a turn.
use mathlib.Core.Bool.{Bool, true, false}
use mathlib.Core.List.{List}
use mathlib.Core.Path.{◌≡◌, sym, ◌∙◌, ap}
use Prim.Native.Nat.{ℕ, ◌+◌, ◌*◌}
use native.Mathlib.Omega.{arith}
use lib.ListN.{get_or}
use Rattle.rules.specs.Choice.{all_below}
use Rattle.rules.specs.Process.{depth_at, stack_at}
use Rattle.rules.specs.Step.{stack_fits}
use Rattle.rules.specs.WellFormed.{is_statement}
use Rattle.rules.proofs.ChoiceLaws.{Passed, passed_none, passed-more, all_true, all-false}
use Rattle.rules.specs.Table.{decode}
use Rattle.preconditions.proofs.fitting.stack_fits.Invariants.{entry-fits}
use Rattle.preconditions.proofs.fitting.stack_fits.Goals as goal

-- an entry by its place among the words
entry_at : (table words : List ℕ) (i at : ℕ) (r : Bool) → at ≡ stack_at + i → r ≡ is_statement (decode table) (get_or words at 0)
    → r ≡ entry-fits table words i
entry_at table words i at r e h = h ∙ ap (λ (k : ℕ). is_statement (decode table) (get_or words k 0)) e

-- the last entry decides where all before it have passed
decides : (test : ℕ → Bool) (n count : ℕ) (r : Bool) → count ≡ n + 1 → Passed test n → r ≡ test n → r ≡ all_below test count
decides test n count true e h last = sym (all_true test count (λ k l. passed-more test n h (sym last) k (omega arith)))
decides test n count false e h last = sym (all-false test count n (omega arith) (sym last))

pub loop-i-init : goal.loop-i-init
loop-i-init c = passed_none _

pub overflow_cast-words : goal.overflow_cast-words
overflow_cast-words c = omega (arith, c.type_inv.words (stack_at + 2 * c.loop-i.i))

pub returns-then-not-names_statement : goal.returns-then-not-names_statement
unfolding stack_fits
returns-then-not-names_statement c =
    let args = c.args in
    sym (all-false (entry-fits args.table.now.bytes.now args.words.now) _ (2 * c.loop-i.i) (omega arith)
    (sym c.names_statement.ensures ∙ c.if-not-names_statement.true))

pub overflow_cast-words-in-loop-i : goal.overflow_cast-words-in-loop-i
overflow_cast-words-in-loop-i c = omega (arith, c.type_inv.words (stack_at + 2 * c.loop-i.i + 1))

pub returns-then-not-names_statement-2 : goal.returns-then-not-names_statement-2
unfolding stack_fits
returns-then-not-names_statement-2 c =
    let args = c.args in
    let i = c.loop-i.i in
    sym (all-false (entry-fits args.table.now.bytes.now args.words.now) _ (2 * i + 1) (omega arith)
    (sym (entry_at args.table.now.bytes.now args.words.now (2 * i + 1) (stack_at + 2 * i + 1) _ (omega arith)
    c.names_statement-in-loop-i.ensures)
    ∙ c.if-not-names_statement-2.true))

pub loop-i-preserved : goal.loop-i-preserved
loop-i-preserved c =
    let args = c.args in
    let loop = c.loop-i in
    let i = loop.i in
    let first = sym c.names_statement.ensures ∙ c.if-not-names_statement.false in
    let second =
    sym (entry_at args.table.now.bytes.now args.words.now (2 * i + 1) (stack_at + 2 * i + 1) _ (omega arith)
    c.names_statement-in-loop-i.ensures)
    ∙ c.if-not-names_statement-2.false in
    let both = passed-more _ _ (passed-more _ _ loop.invariant first) second in
    λ k l. both k (omega arith)

pub returns-then-depth-eq0 : goal.returns-then-depth-eq0
unfolding stack_fits
returns-then-depth-eq0 c =
    let args = c.args in
    let loop = c.loop-i in
    sym (all_true (entry-fits args.table.now.bytes.now args.words.now) _ (λ k l. loop.invariant k (omega arith)))

pub overflow_cast-words-2 : goal.overflow_cast-words-2
overflow_cast-words-2 c =
    let words = c.args.words.now in
    omega (arith, c.type_inv.words (depth_at + get_or words depth_at 0))

pub returns : goal.returns
unfolding stack_fits
returns c =
    let args = c.args in
    let loop = c.loop-i in
    let high = get_or args.words.now depth_at 0 in
    let odd : high ≡ 2 * loop.i + 1 = omega arith in
    decides (entry-fits args.table.now.bytes.now args.words.now) (2 * loop.i) high _ odd loop.invariant
    (entry_at args.table.now.bytes.now args.words.now (2 * loop.i) (depth_at + high) _ (omega arith) c.names_statement-2.ensures)
