-- `copy_words` meets its contract.
use mathlib.Core.Path.{◌≡◌, refl, ◌∙◌, ap}
use Prim.Native.Nat.{ℕ, ◌+◌}
use native.Mathlib.Omega.{arith}
use lib.ListN.{length}
use lib.Seq.{length-sets}
use Rattle.rules.specs.Table.{word_at}
use Rattle.rules.specs.WellFormed.{joined}
use Rattle.writer.proofs.WordLaws.{word_more}
use Rattle.writer.proofs.copy_words.Goals as goal

pub loop-k-init : goal.loop-k-init
unfolding joined
loop-k-init c = (omega arith, refl, refl)

pub loop-k-preserved : goal.loop-k-preserved
loop-k-preserved c =
    let loop = c.loop-k in
    let args = c.args in
    let word : ℕ → ℕ = λ j. word_at args.table.now (args.from + j) in
    let put = c.put_word.ensures in (
      omega arith,
      ap length put ∙ simp length-sets loop.invariant.1,
      word_more word args.out.now args.to loop.k _ _ _ loop.invariant.2 put c.word.ensures,
    )

pub returns : goal.returns
returns c =
    let e : c.loop-k.k ≡ c.args.count = omega arith in
    rw (← e) c.loop-k.invariant.2
