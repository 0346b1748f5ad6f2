-- `judge_again` meets its contract: where nothing is set aside every node counts.
use mathlib.Core.Path.{◌≡◌, sym, ◌∙◌, ap}
use native.Mathlib.Omega.{arith}
use borrow.Rule.Slice.PartMut.{mid_of, put_mid}
use Rattle.table.proofs.PassingLaws.{read-formed}
use Rattle.rules.specs.Acceptance.{judged_by}
use Rattle.table.proofs.BitLaws.{none-set}
use Rattle.visit.specs.Fields.{plane_words, all_planes}
use Rattle.switches.proofs.AsideLaws.{none-aside}
use Rattle.switches.proofs.FourLaws.{aside-lent, aside_put_aside, length_put_aside, beside_aside}
use Rattle.rules.specs.Table.{decode}
use Rattle.switches.proofs.judge_again.Goals as goal

pub set_aside-requires : goal.set_aside-requires
set_aside-requires c = (c.requires.0, aside-lent c.args.planes.now c.requires.1 ∙ c.requires.2)

pub returns-then-none_marked : goal.returns-then-none_marked
returns-then-none_marked c =
    let planes = c.args.planes.now in
    let formed = read-formed c.requires.0 in
    let aside = c.set_aside.ensures in
    let words = c.set_aside.new.aside in
    let size = c.requires.1 in
    let lent : mid_of all_planes plane_words (put_mid all_planes plane_words planes words) ≡ words =
    aside-lent (put_mid all_planes plane_words planes words) (length_put_aside planes size words aside.size)
    ∙ aside_put_aside planes size words aside.size in
    let none = rw lent at (sym c.none_marked.ensures ∙ c.if-none_marked.true) in
    c.requires.3
    ∙ ap (judged_by (decode c.args.table.now.bytes.now))
    (sym (none-aside (decode c.args.table.now.bytes.now) formed words aside (λ k l. none-set words none k (omega (arith, aside.size)))))

pub judge_counted-requires : goal.judge_counted-requires
judge_counted-requires c =
    let aside = c.set_aside.ensures in
    (c.requires.0, beside_aside c.args.planes.now c.requires.1 c.set_aside.new.aside aside.size aside)
