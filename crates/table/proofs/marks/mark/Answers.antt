-- `marks::mark` meets its contract: a bit that is set stays set.
use mathlib.Core.Bool.{true, false}
use mathlib.Core.Logic.{⊎_elim}
use mathlib.Core.Path.{◌≡◌}
use Prim.Native.Nat.{◌<◌, ◌/◌, ◌%◌}
use native.Mathlib.Omega.{arith}
use lib.ListN.{get_or}
use lib.Seq.{set-get_or}
use Rattle.rules.proofs.ChoiceLaws.{bool_cases}
use Rattle.table.specs.Marks.{bit_at, with_bit}
use Rattle.table.proofs.BitLaws.{shifted, or_bit, bit-set, bit-clear}
use Rattle.table.proofs.marks.mark.Goals as goal

pub returns : goal.returns
unfolding with_bit bit_at
returns c =
    let n = c.args.n in
    let words = c.args.marks.now in
    let low : n % 32 < 32 = omega arith in
    rw (shifted (n % 32) low, or_bit (get_or words (n / 32) 0) (n % 32))
    (⊎_elim
    (λ (e : bit_at words n ≡ true). simp (bit-set words n e, set-get_or words (n / 32) 0))
    (λ (e : bit_at words n ≡ false). simp (bit-clear words n e))
    (bool_cases (bit_at words n)))
