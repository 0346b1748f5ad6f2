-- `shape::shape` meets its contract: each answer follows from the tests before it.
use Rattle.table.specs.declared.Header.{Header}
use Rattle.table.specs.Header.{header_of}
use Rattle.table.specs.Sized.{header_test}
use Rattle.table.proofs.ShapeLaws.{header_law, refused2, refused3, refused4, answered5, read-variables, read-procedures, read-nodes}
use Rattle.rules.specs.WellFormed.{header_fits}
use Rattle.rules.specs.Table.{decode, word_at, procedures, nodes}
use native.Mathlib.Omega.{arith}
use Prim.Native.Nat.{ℕ, ◌+◌, ◌*◌}
use mathlib.Core.Bool.{Bool}
use mathlib.Core.List.{List}
use mathlib.Core.Path.{◌≡◌, sym, ◌∙◌}
use Rattle.table.proofs.shape.shape.Goals as goal

-- the header's test is question 3
test3 : (table : List ℕ) {fits : Bool} {first : ℕ} {counts : Header} → fits ≡ header_test first counts
    → first ≡ word_at table 0 → counts ≡ header_of table → header_fits table ≡ fits
test3 table test first counts = header_law table ∙ simp (test, first, counts)

length4 : (table : List ℕ) (counts : Header) → counts ≡ header_of table
    → 4 * (2 + counts.procedures + counts.nodes) ≡ 4 * (2 + procedures (decode table) + nodes (decode table))
length4 table counts e = omega (arith, read-procedures table counts e, read-nodes table counts e)

pub returns-then-not-length_fits : goal.returns-then-not-length_fits
returns-then-not-length_fits c = c.refused.ensures ∙ sym (refused2 _ (sym c.length_fits.ensures ∙ c.if-not-length_fits.true))

pub returns-then-not-header_fits : goal.returns-then-not-header_fits
returns-then-not-header_fits c =
    c.refused-then-not-header_fits.ensures
    ∙ sym (refused3 c.args.table.now (sym c.length_fits.ensures ∙ c.if-not-length_fits.false)
    (test3 _ c.header_fits.ensures c.word.ensures c.header-counts.ensures ∙ c.if-not-header_fits.true))

pub returns-then-bytes-counts : goal.returns-then-bytes-counts
returns-then-bytes-counts c =
    c.refused-then-bytes-counts.ensures
    ∙ sym (refused4 c.args.table.now (sym c.length_fits.ensures ∙ c.if-not-length_fits.false)
    (test3 _ c.header_fits.ensures c.word.ensures c.header-counts.ensures ∙ c.if-not-header_fits.false)
    (λ e. c.if-bytes-counts.true (e ∙ sym (length4 _ _ c.header-counts.ensures))))

-- past question 4 the answer is that of question 5
pub returns-then-not-flags_fit : goal.returns-then-not-flags_fit
returns-then-not-flags_fit c =
    let table = c.args.table.now in
    let variables = read-variables table c.header-counts.result c.header-counts.ensures in
    c.refused-then-not-flags_fit.ensures
    ∙ sym (answered5 table c.flags_fit.result (sym c.length_fits.ensures ∙ c.if-not-length_fits.false)
    (test3 _ c.header_fits.ensures c.word.ensures c.header-counts.ensures ∙ c.if-not-header_fits.false)
    (c.if-bytes-counts.false ∙ length4 _ _ c.header-counts.ensures)
    (c.flags_fit.ensures ∙ simp (c.word-2.ensures, variables))
    ∙ simp c.if-not-flags_fit.true)

pub returns : goal.returns
returns c =
    let table = c.args.table.now in
    let variables = read-variables table c.header-counts.result c.header-counts.ensures in
    sym (answered5 table c.flags_fit.result (sym c.length_fits.ensures ∙ c.if-not-length_fits.false)
    (test3 _ c.header_fits.ensures c.word.ensures c.header-counts.ensures ∙ c.if-not-header_fits.false)
    (c.if-bytes-counts.false ∙ length4 _ _ c.header-counts.ensures)
    (c.flags_fit.ensures ∙ simp (c.word-2.ensures, variables))
    ∙ simp c.if-not-flags_fit.false)
