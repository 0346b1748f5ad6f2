-- Two tables that say the same are answered alike: a call reads a table's bytes for questions 2 to 6 and for what `decode` makes of them,
-- and for nothing else. Nothing else cites this file.
use Rattle.std.specs.Prelude.{List, ◌≡◌, ℕ}
use Rattle.rules.specs.Acceptance.{checked}
use Rattle.rules.specs.Run.{Team, after_turns, answers}
use Rattle.rules.specs.Scheduling.{served}
use Rattle.rules.specs.Start.{started}
use Rattle.rules.specs.Step.{stepped}
use Rattle.rules.specs.Table.{decode}
use Rattle.rules.specs.WellFormed.{well_formed}

-- every call gives one answer and leaves the same words, and so does every run
pub record SameAnswers (table other : List ℕ) : Type 0 where
  pub checks : (scratch : List ℕ) → checked table scratch ≡ checked other scratch
  pub starts : (count : ℕ) (words state roll : List ℕ)
      → started table count words state roll ≡ started other count words state roll
  pub steps : (state roll : List ℕ) (p : ℕ) → stepped table state roll p ≡ stepped other state roll p
  pub serves : (state roll : List ℕ) (last turns : ℕ) → served table state roll last turns ≡ served other state roll last turns
  pub runs : (team : Team) (turns : List ℕ) → answers table team turns ≡ answers other team turns
  pub leaves : (team : Team) (turns : List ℕ) → after_turns table team turns ≡ after_turns other team turns

abbrev pub AnsweredAlike : Type 0
AnsweredAlike =
    (table other : List ℕ) → well_formed table ≡ well_formed other → decode table ≡ decode other → SameAnswers table other
