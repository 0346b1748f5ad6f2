-- `fields::fields` meets its contract: the plane of the nodes used is lent, and the facts stay as they are.
use mathlib.Core.Path.{◌∙◌, ap}
use borrow.Rule.Slice.PartMut.{put_mid}
use Rattle.visit.proofs.PlaneLaws.{used-length, used-kept, used_put_used, facts_put_used, leaves_put_used, length_put_used}
use Rattle.visit.proofs.fields.fields.Goals as goal

pub returns : goal.returns
returns c =
    let planes = c.args.planes.now in
    let size = c.requires.1 in
    let words = c.take_fields.new.marks in
    let many = c.take_fields.auto.marks ∙ used-length planes size in
    record {
      answer = c.take_fields.ensures.value;
      taken = λ e. rw (used_put_used planes size words many) (c.take_fields.ensures.used e);
      same = λ e. ap (put_mid 0 8 planes) (c.take_fields.ensures.marks_unchanged e) ∙ used-kept planes size;
      facts = facts_put_used planes size words many;
      leaves = leaves_put_used planes size words many;
      size = length_put_used planes size words many;
    }
