-- `loose::bodies_closed` meets its contract: the bodies passed hold no leave.
use Rattle.std.proofs.Common.{rules, ◌≡◌, ◌%◌, not, true, false, refl, ℕ, arith}
use Rattle.std.proofs.lemmas.Iterator.{cases_from_all, YieldsList-from_range}
use Rattle.rules.specs.Table.{decode, body}
use Rattle.table.specs.Marks.{bit_at}
use Rattle.visit.specs.Fields.{leaves_plane}
use Rattle.loops.proofs.RangeLaws.{all_told}
use Rattle.leaves.proofs.loose.bodies_closed.Goals as goal

pub returns : goal.returns
returns c =
    let table = c.args.table.now.bytes.now in
    let planes = c.args.planes.now in
    let n = c.args.table.now.header.procedures in
    let test = λ (p : ℕ). not (bit_at (leaves_plane planes) (body (decode table) p % 256)) in
    rw (← c.args.table.now.sized.procedures-read)
    (all_told test n _
    (cases_from_all _ _ _ (λ p. test p ≡ true) (λ p. test p ≡ false) c.all.ensures.ran (YieldsList-from_range 0 n n refl (omega arith))
    (λ p r k. search rules) (λ p r k. search rules)))
