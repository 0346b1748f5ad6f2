-- `answer` meets its contract: by the answer where every node counts, and where that is a refusal by 13 to 17, by the nodes that count.
use mathlib.Core.Bool.{Bool, true}
use mathlib.Core.List.{List}
use mathlib.Core.Path.{◌≡◌, sym, ◌∙◌, ap}
use Prim.Native.Nat.{ℕ}
use lib.ListN.{length}
use Rattle.std.specs.Prelude.{Err}
use Rattle.rules.specs.declared.Refusal.{Refusal}
use Rattle.rules.specs.Answers.{Verdict, Accepted, ◌then◌}
use Rattle.rules.specs.Acceptance.{judged_by, judged}
use Rattle.rules.specs.Table.{decode, statement_at}
use Rattle.rules.specs.WellFormed.{well_formed}
use Rattle.table.proofs.PassingLaws.{read-shaped}
use Rattle.switches.specs.Aside.{aside_plane}
use Rattle.switches.proofs.FourLaws.{work-length, aside_put_work, length_put_work}
use Rattle.switches.proofs.NumberLaws.{by_rules, refused-judged, refused-formed, whole-accepted}
use Rattle.switches.proofs.answer.Goals as goal

-- a refusal by 13 to 17 is of a table that passes 2 to 12 and 26
by_13_to_17 : (table : List ℕ) (r : Refusal) {v : Verdict} {b : Bool} → v ≡ Err r
    → v ≡ (well_formed table then judged_by (decode table) (statement_at (decode table)))
    → b ≡ by_rules r.number → b ≡ true
    → (well_formed table ≡ Accepted) × (Err r ≡ judged_by (decode table) (statement_at (decode table)))
by_13_to_17 table r failed whole test true_ = refused-judged table r (sym failed ∙ whole) (sym test ∙ true_)

pub of-requires : goal.of-requires
of-requires c =
    let refused = by_13_to_17 _ _ c.in-Err.is c.accepted-whole.ensures c.by_rules.ensures c.if-by_rules.true in
    read-shaped (record { passed = refused.0 })

pub judge_again-requires : goal.judge_again-requires
judge_again-requires c =
    let refused = by_13_to_17 _ _ c.in-Err.is c.accepted-whole.ensures c.by_rules.ensures c.if-by_rules.true in
    let planes = c.args.planes.now in
    let size = ap length c.requires in
    let words = c.accepted-whole.new.planes in
    let many = c.accepted-whole.auto.planes ∙ work-length planes size in
    rw c.of.ensures (
      record { passed = refused.0 },
      length_put_work planes size words many,
      aside_put_work planes size words many ∙ ap aside_plane c.requires,
      refused.1,
    )

pub returns-in-Err : goal.returns-in-Err
returns-in-Err c =
    let refused = by_13_to_17 _ _ c.in-Err.is c.accepted-whole.ensures c.by_rules.ensures c.if-by_rules.true in
    (rw c.of.ensures at c.judge_again.ensures) ∙ sym (ap (λ v. v then judged (decode c.args.table.now)) refused.0)

pub returns-in_default : goal.returns-in_default
returns-in_default c =
    refused-formed _ _ (sym c.in-Err.is ∙ c.accepted-whole.ensures) (sym c.by_rules.ensures ∙ c.if-by_rules.false)

pub returns-in_default-2 : goal.returns-in_default-2
returns-in_default-2 c =
    c.in_default.is ∙ sym (whole-accepted _ (sym c.accepted-whole.ensures ∙ c.in_default.is))
