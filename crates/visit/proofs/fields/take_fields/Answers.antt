-- `fields::take_fields` meets its contract: fields that are free are marked one after the other.
use mathlib.Core.Path.{refl, sym}
use native.Mathlib.Omega.{arith}
use Rattle.table.proofs.TestLaws.{never}
use Rattle.visit.proofs.LeastLaws.{passed, failed}
use Rattle.visit.proofs.QuickLaws.{markable, three-tests, part_low, used-three}
use Rattle.visit.proofs.fields.take_fields.Goals as goal

pub returns-then-not-fields_free : goal.returns-then-not-fields_free
returns-then-not-fields_free c =
    record {
      value = sym (failed c.fields_free.ensures c.if-not-fields_free.true-raw);
      used = λ e. never (sym e);
      marks_unchanged = λ e. refl;
    }

pub take-requires : goal.take-requires
take-requires c =
    let given = c.requires in
    let t = three-tests _ _ _ _ _ (passed c.fields_free.ensures c.if-not-fields_free.false-raw) in (
      λ part. markable c.args.table.now.sized given.0 (part_low _ _ _ _ _ t.a part),
      given.1,
    )

pub take-requires-2 : goal.take-requires-2
take-requires-2 c =
    let given = c.requires in
    let t = three-tests _ _ _ _ _ (passed c.fields_free.ensures c.if-not-fields_free.false-raw) in (
      λ part. markable c.args.table.now.sized given.0 (part_low _ _ _ _ _ t.b part),
      omega (arith, c.take.auto.marks, given.1),
    )

pub take-requires-3 : goal.take-requires-3
take-requires-3 c =
    let given = c.requires in
    let t = three-tests _ _ _ _ _ (passed c.fields_free.ensures c.if-not-fields_free.false-raw) in (
      λ part. markable c.args.table.now.sized given.0 (part_low _ _ _ _ _ t.c part),
      omega (arith, c.take.auto.marks, c.take-2.auto.marks, given.1),
    )

pub returns : goal.returns
returns c =
    let so = passed c.fields_free.ensures c.if-not-fields_free.false-raw in
    let used =
    used-three _ _ _ _
    c.take.ensures
    c.take-2.ensures
    c.take-3.ensures in
    record { value = sym so; used = λ e. record { free = so; used = used }; marks_unchanged = λ e. never e }
