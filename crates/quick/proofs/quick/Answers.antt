-- `quick` meets its contract: each arm of the match visits a kind by its roles and is judged by its source, question and
-- guard; a kind without an arm is not known.
use mathlib.Core.Path.{refl, sym, ◌∙◌, ap}
use native.Mathlib.Omega.{arith}
use Rattle.rules.specs.declared.Node.{Node}
use Rattle.rules.specs.WellFormed.{is_expression, is_statement, kind_known}
use Rattle.visit.proofs.QuickLaws.{named_0, named_1, named_2, named_3, named_4, named_5, named_6}
use Rattle.visit.proofs.QuickLaws.{named_17, named_18, named_19, named_20, named_21, named_22, named_24, named_25, named_26}
use Rattle.visit.proofs.SettledLaws.{judges_0, judges_1, judges_2, judges_3, judges_4, judges_5, judges_6}
use Rattle.visit.proofs.SettledLaws.{judges_17, judges_18, judges_19, judges_20, judges_21, judges_22, judges_24, judges_25, judges_26}
use Rattle.quick.proofs.VisitLaws.{leave-arm, word-arm, no_arm, other_as, other-either, other-operation, uncalled, called-below}
use Rattle.quick.proofs.VisitLaws.{operation-kind, unnamed-kind}
use Rattle.quick.proofs.quick.Goals as goal

pub settled-requires-in-5-clause-question_bound : goal.settled-requires-in-5-clause-question_bound
settled-requires-in-5-clause-question_bound c = (omega arith, λ used called. uncalled refl called)

pub settled-requires-in-17-clause-question_bound : goal.settled-requires-in-17-clause-question_bound
settled-requires-in-17-clause-question_bound c = (omega arith, λ used called. uncalled refl called)

pub settled-requires-in-18-clause-question_bound : goal.settled-requires-in-18-clause-question_bound
settled-requires-in-18-clause-question_bound c = (omega arith, λ used called. uncalled refl called)

pub settled-requires-in-19-clause-question_bound : goal.settled-requires-in-19-clause-question_bound
settled-requires-in-19-clause-question_bound c = (omega arith, λ used called. uncalled refl called)

pub settled-requires-in-20-clause-question_bound : goal.settled-requires-in-20-clause-question_bound
settled-requires-in-20-clause-question_bound c = (omega arith, λ used called. uncalled refl called)

pub settled-requires-in-21-clause-question_bound : goal.settled-requires-in-21-clause-question_bound
settled-requires-in-21-clause-question_bound c =
    let fields = c.fields-used-in-21 in
    (omega arith, λ used called. called-below c.args.table.now.sized fields.ensures used)

pub settled-requires-in-22-clause-question_bound : goal.settled-requires-in-22-clause-question_bound
settled-requires-in-22-clause-question_bound c = (omega arith, λ used called. uncalled refl called)

pub settled-requires-in-24-clause-question_bound : goal.settled-requires-in-24-clause-question_bound
settled-requires-in-24-clause-question_bound c = (omega arith, λ used called. uncalled refl called)

pub settled-requires-in-25-clause-question_bound : goal.settled-requires-in-25-clause-question_bound
settled-requires-in-25-clause-question_bound c = (omega arith, λ used called. uncalled refl called)

pub settled-requires-in-26-clause-question_bound : goal.settled-requires-in-26-clause-question_bound
settled-requires-in-26-clause-question_bound c = (omega arith, λ used called. uncalled refl called)

pub settled-requires-in-6-clause-question_bound : goal.settled-requires-in-6-clause-question_bound
settled-requires-in-6-clause-question_bound c = (omega arith, λ used called. uncalled refl called)

pub returns-in-0 : goal.returns-in-0
returns-in-0 c =
    let sized = c.args.table.now.sized in
    let given = c.requires.inside in
    word-arm _ _ sized given.0 (λ m. m.a) named_0 (judges_0 _ _ _ _ sized) (λ k. other_as 0 refl) given.1
    c.requires.packed_value c.kind_of.ensures c.in-0.is
    c.unpacked-node.ensures c.fields-used.ensures c.settled.ensures

pub returns-in-1 : goal.returns-in-1
returns-in-1 c =
    let sized = c.args.table.now.sized in
    let given = c.requires.inside in
    word-arm _ _ sized given.0 (λ m. m.a) named_1 (judges_1 _ _ _ _ sized) (λ k. other_as 1 refl) given.1
    c.requires.packed_value c.kind_of.ensures c.in-1.is
    c.unpacked-node-in-1.ensures c.fields-used-in-1.ensures c.settled-in-1.ensures

pub returns-in-2 : goal.returns-in-2
returns-in-2 c =
    let sized = c.args.table.now.sized in
    let given = c.requires.inside in
    word-arm _ _ sized given.0 (λ m. m.a) named_2 (judges_2 _ _ _ _ sized) (λ k. other-either 2 23 refl refl) given.1
    c.requires.packed_value c.kind_of.ensures c.in-2.is
    c.unpacked-node-in-2.ensures c.fields-used-in-2.ensures c.settled-in-2.ensures

pub returns-in-3 : goal.returns-in-3
returns-in-3 c =
    let sized = c.args.table.now.sized in
    let given = c.requires.inside in
    word-arm _ _ sized given.0 (λ m. m.a) named_3 (judges_3 _ _ _ _ sized) (λ k. other-either 3 16 refl refl) given.1
    c.requires.packed_value c.kind_of.ensures c.in-3.is
    c.unpacked-node-in-3.ensures c.fields-used-in-3.ensures c.settled-in-3.ensures

pub returns-in-4 : goal.returns-in-4
returns-in-4 c =
    let sized = c.args.table.now.sized in
    let given = c.requires.inside in
    word-arm _ _ sized given.0 (λ m. m.a) named_4 (judges_4 _ _ _ _ sized) (λ k. other_as 4 refl) given.1
    c.requires.packed_value c.kind_of.ensures c.in-4.is
    c.unpacked-node-in-4.ensures c.fields-used-in-4.ensures c.settled-in-4.ensures

pub returns-in-5 : goal.returns-in-5
returns-in-5 c =
    let sized = c.args.table.now.sized in
    let given = c.requires.inside in
    word-arm _ _ sized given.0 (λ m. m.a) named_5 (judges_5 _ _ _ _ sized) (λ k. other_as 5 refl) given.1
    c.requires.packed_value c.kind_of.ensures c.in-5.is
    c.unpacked-node-in-5.ensures c.fields-used-in-5.ensures c.settled-in-5.ensures

pub returns-in-17 : goal.returns-in-17
returns-in-17 c =
    let sized = c.args.table.now.sized in
    let given = c.requires.inside in
    word-arm _ _ sized given.0 (λ m. m.b) named_17 (judges_17 _ _ _ _ sized) (λ k. other_as 17 refl) given.1
    c.requires.packed_value c.kind_of.ensures c.in-17.is
    c.unpacked-node-in-17.ensures c.fields-used-in-17.ensures c.settled-in-17.ensures

pub returns-in-18 : goal.returns-in-18
returns-in-18 c =
    let sized = c.args.table.now.sized in
    let given = c.requires.inside in
    word-arm _ _ sized given.0 (λ m. m.a) named_18 (judges_18 _ _ _ _ sized) (λ k. other_as 18 refl) given.1
    c.requires.packed_value c.kind_of.ensures c.in-18.is
    c.unpacked-node-in-18.ensures c.fields-used-in-18.ensures c.settled-in-18.ensures

pub returns-in-19 : goal.returns-in-19
returns-in-19 c =
    let sized = c.args.table.now.sized in
    let given = c.requires.inside in
    word-arm _ _ sized given.0 (λ m. m.a) named_19 (judges_19 _ _ _ _ sized) (λ k. other_as 19 refl) given.1
    c.requires.packed_value c.kind_of.ensures c.in-19.is
    c.unpacked-node-in-19.ensures c.fields-used-in-19.ensures c.settled-in-19.ensures

pub returns-in-20 : goal.returns-in-20
returns-in-20 c =
    let sized = c.args.table.now.sized in
    let given = c.requires.inside in
    word-arm _ _ sized given.0 (λ m. m.a) named_20 (judges_20 _ _ _ _ sized) (λ k. other_as 20 refl) given.1
    c.requires.packed_value c.kind_of.ensures c.in-20.is
    c.unpacked-node-in-20.ensures c.fields-used-in-20.ensures c.settled-in-20.ensures

pub returns-in-21 : goal.returns-in-21
returns-in-21 c =
    let sized = c.args.table.now.sized in
    let given = c.requires.inside in
    word-arm _ _ sized given.0 (λ m. m.a) named_21 (judges_21 _ _ _ _ sized) (λ k. other_as 21 refl) given.1
    c.requires.packed_value c.kind_of.ensures c.in-21.is
    c.unpacked-node-in-21.ensures c.fields-used-in-21.ensures c.settled-in-21.ensures

pub returns-in-22 : goal.returns-in-22
returns-in-22 c =
    let sized = c.args.table.now.sized in
    let given = c.requires.inside in
    word-arm _ _ sized given.0 (λ m. m.a) named_22 (judges_22 _ _ _ _ sized) (λ k. other_as 22 refl) given.1
    c.requires.packed_value c.kind_of.ensures c.in-22.is
    c.unpacked-node-in-22.ensures c.fields-used-in-22.ensures c.settled-in-22.ensures

pub returns-in-24 : goal.returns-in-24
returns-in-24 c =
    let sized = c.args.table.now.sized in
    let given = c.requires.inside in
    word-arm _ _ sized given.0 (λ m. m.c) named_24 (judges_24 _ _ _ _ sized) (λ k. other_as 24 refl) given.1
    c.requires.packed_value c.kind_of.ensures c.in-24.is
    c.unpacked-node-in-24.ensures c.fields-used-in-24.ensures c.settled-in-24.ensures

pub returns-in-25 : goal.returns-in-25
returns-in-25 c =
    let sized = c.args.table.now.sized in
    let given = c.requires.inside in
    word-arm _ _ sized given.0 (λ m. m.a) named_25 (judges_25 _ _ _ _ sized) (λ k. other_as 25 refl) given.1
    c.requires.packed_value c.kind_of.ensures c.in-25.is
    c.unpacked-node-in-25.ensures c.fields-used-in-25.ensures c.settled-in-25.ensures

pub returns-in-26 : goal.returns-in-26
returns-in-26 c =
    let node = c.unpacked-node-in-26.ensures ∙ c.requires.packed_value in
    let key = c.in-26.is in
    let kind = c.kind_of.ensures ∙ ap (λ (m : Node). m.kind) c.requires.packed_value in
    let sized = c.args.table.now.sized in
    let given = c.requires.inside in
    let noted = c.note_leave.ensures in
    leave-arm _ _ sized given.0 _ _ _ _ _ _ _ _ _ _ _ node (rw (kind, ← node) at (named_26 _ key))
    (λ inside fits reading known. rw node (judges_26 _ _ _ _ sized inside fits reading known (sym kind ∙ key)))
    given.1 c.fields-used-in-26.ensures noted.kept c.settled-in-26.ensures
    (rw (kind, ← node) at key) noted.planes_after

pub returns-in-6 : goal.returns-in-6
returns-in-6 c =
    let sized = c.args.table.now.sized in
    let given = c.requires.inside in
    let rest = c.in-6.in_default-own.rest in
    let first = rest.0.0.0.0.0.0.0.0.0 in
    let key =
    operation-kind first.0.0.0.0.0.1 first.0.0.0.0.1 first.0.0.0.1 first.0.0.1 first.0.1 first.1
    c.in-6.if-this-lt13-own.true in
    word-arm _ _ sized given.0 (λ m. m.a) named_6 (judges_6 _ _ _ _ sized) (λ k. other-operation) given.1
    c.requires.packed_value c.kind_of.ensures key
    c.unpacked-node-in-6.ensures c.fields-used-in-6.ensures c.settled-in-6.ensures

pub returns-in_default : goal.returns-in_default
unfolding kind_known is_expression is_statement
returns-in_default c =
    let rest = c.in_default.in_default-own.rest in
    let sized = c.args.table.now.sized in
    let given = c.requires.inside in
    let first = rest.0.0.0.0.0.0.0.0 in
    let unknown =
    unnamed-kind first.0.0.0.0.1 first.0.0.0.1 first.1 rest.0.0.0.0.0.0.0.1
    rest.0.0.0.0.0.0.1 rest.0.0.0.0.0.1 rest.0.0.0.0.1 rest.0.0.0.1 rest.0.0.1 rest.0.1
    rest.1 c.in_default.if-this-lt13-own.false in
    let kind = c.kind_of.ensures ∙ ap (λ (m : Node). m.kind) c.requires.packed_value in
    no_arm _ _ sized given.0 _ given.1 (rw kind at unknown)
