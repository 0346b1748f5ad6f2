-- `values::evaluation::leaf` meets its contract.
use Rattle.rules.specs.Table.{expression_of}
use Rattle.rules.specs.Evaluation.{value_of}
use Rattle.std.proofs.Common.{◌≡◌, arith}
use Rattle.values.proofs.evaluation.leaf.Goals as goal

pub bounds-words-node : goal.bounds-words-node
bounds-words-node c = omega (arith, c.requires.a_lt_process_words c.in-1.is)

pub returns-in-0 : goal.returns-in-0
unfolding value_of expression_of
returns-in-0 c = λ part. simp c.in-0.is c.constant.ensures

pub returns-in-1 : goal.returns-in-1
unfolding value_of expression_of
returns-in-1 c = λ part. simp c.in-1.is

pub returns-in-2 : goal.returns-in-2
unfolding value_of expression_of
returns-in-2 c = λ part. simp c.in-2.is

pub returns-in_default : goal.returns-in_default
unfolding value_of expression_of
returns-in_default c =
    λ part.
    let e : c.args.node.kind ≡ 3 = omega arith in
    simp e
