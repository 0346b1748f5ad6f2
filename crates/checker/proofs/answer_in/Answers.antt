-- `answer_in` meets its contract: the planes are zero when they are lent.
use mathlib.Core.Path.{◌≡◌, refl, ◌∙◌}
use Rattle.rules.specs.Acceptance.{scratch_words}
use Rattle.switches.specs.Aside.{four_planes}
use Rattle.table.proofs.BitLaws.{cleared}
use Rattle.checker.proofs.answer_in.Goals as goal

-- the words that question 1 asks for are the planes, and no more
all_planes_lem : scratch_words ≡ four_planes
all_planes_lem = refl

pub answer-requires : goal.answer-requires
answer-requires c = cleared _ c.args.planes.now c.clear.ensures (c.requires ∙ all_planes_lem)
