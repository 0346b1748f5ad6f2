-- `marks::none_marked` meets its contract: its chain puts the test to each word, and the clause to each place.
use Rattle.std.proofs.Common.{rules, tests, ◌∙◌, eqb}
use Rattle.std.proofs.lemmas.Iterator.{YieldsList-from_slice}
use Rattle.std.proofs.lemmas.Iterator.Search.{all_from_yields_List}
use Rattle.table.proofs.BitLaws.{listed-below}
use Rattle.table.proofs.marks.none_marked.Goals as goal

pub returns : goal.returns
returns c =
    let marks = c.args.marks.now in
    all_from_yields_List (λ w. eqb w 0) _ _ _ c.all.ensures.ran (YieldsList-from_slice marks cc) (λ x b q k. search (rules, tests))
    ∙ listed-below _ marks
