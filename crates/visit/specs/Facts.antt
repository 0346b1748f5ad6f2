-- What the sweep keeps of the nodes for questions 13 to 17, and the refusals by them.
use Rattle.std.specs.Prelude.{Bool, true, false, cond, not, ◌&&◌, ◌||◌, List, ◌⊎◌, ◌≡◌, ℕ, ◌%◌, ◌≤◌, ◌<◌, eqb, length}
use Rattle.rules.specs.Acceptance.{rule_of, body_flagged}
use Rattle.rules.specs.Judgement.{single, effect}
use Rattle.rules.specs.declared.Node.{Node}
use Rattle.rules.specs.Table.{Program, flagged, effect_flag, node_at, statement_at, Statement, nothing}
use Rattle.table.specs.Marks.{bit_at, with_bit}
use Rattle.visit.specs.declared.Visit.{Visit}
use Rattle.visit.specs.declared.facts.Source.{Source}
use Rattle.visit.specs.declared.facts.Source.TheVariants.{Never, Always, Unflagged, Flagged, Called, OfA, OfB, OfAOrB, OfBOrC}
use Rattle.visit.specs.Fields.{used_plane, facts_plane, leaves_plane, all_planes, plane_words}
use Rattle.visit.specs.Least.{none, code, failure}

-- a reading by which every node counts as what it is or as nothing, and those from n up to `end` as what they are
pub record Reading (program : Program) (n end : ℕ) : Type 0 where
  pub counts : ℕ → Statement
  pub each : (k : ℕ) → (counts k ≡ statement_at program k) ⊎ (counts k ≡ nothing)
  pub here : (k : ℕ) → n ≤ k → k < end → counts k ≡ statement_at program k

-- by a reading
module _ (program : Program) (reading : ℕ → Statement) where
  -- what is kept of a node for questions 13 to 17: an expression that is not single, or a statement with a global effect. A
  -- statement reads as a constant expression, which is single, and an expression as the statement nothing, which has no effect.
  unfoldable pub fact : ℕ → Bool
  fact n = not (single program n) || effect program reading n

  -- the least refusal of 13 to 16 at node n
  unfoldable pub rule_code : ℕ → ℕ
  rule_code n = failure (rule_of program reading (reading n)).question n (rule_of program reading (reading n)).holds

  -- the same where it is not looked at whether a while is left locally: a while that counts has its body's effect
  unfoldable pub guard_code : ℕ → ℕ
  guard_code n =
      cond (eqb (node_at program n).kind 20)
      (failure 16 n (single program (node_at program n).a || not (effect program reading n)))
      (rule_code n)

  -- and of 17 at procedure p
  unfoldable pub flag_code : ℕ → ℕ
  flag_code p = failure 17 p (body_flagged program reading p)

-- the plane of a test once it is known of the nodes below n: one bit for each, and none from there on
pub record PlaneTo (test : ℕ → Bool) (n : ℕ) (plane : List ℕ) : Type 0 where
  pub size : length plane ≡ plane_words
  pub known : (k : ℕ) → k < n → bit_at plane k ≡ test k
  pub clear : (k : ℕ) → n ≤ k → k < 256 → bit_at plane k ≡ false

-- of facts, and of leaves
abbrev pub FactsTo : Program → (ℕ → Statement) → ℕ → List ℕ → Type 0
FactsTo program reading = PlaneTo (fact program reading)

abbrev pub NotedTo : Program → ℕ → List ℕ → Type 0
NotedTo program = PlaneTo (λ n. eqb (node_at program n).kind 26)

-- where a node's fact comes from: nowhere, from the kind alone, from a variable's flag, from a procedure's, from parts. A field
-- is read as a variable below 32 or as a node below 256, which it is where the node fits.
module _ (program : Program) (facts : List ℕ) (m : Node) where
  abbrev bit : ℕ → Bool
  bit n = bit_at facts (n % 256)

  unfoldable pub sourced : Source → Bool
  sourced Never = false
  sourced Always = true
  sourced Unflagged = not (flagged program (m.a % 32))
  sourced Flagged = flagged program (m.a % 32)
  sourced Called = effect_flag program m.a
  sourced OfA = bit m.a
  sourced OfB = bit m.b
  sourced OfAOrB = bit m.a || bit m.b
  sourced OfBOrC = bit m.b || bit m.c

-- the refusal by a rule where there is an effect: its guard is not single. 0 stands for no rule.
unfoldable pub ruled : Bool → ℕ → ℕ → ℕ
ruled local question n = cond (eqb question 0) none (cond local (code question n) none)

-- what is kept and answered of a node: nothing where its fields did not pass
pub record Settled (program : Program) (v : Visit) (m : Node) (used : Bool) (source : Source) (question guard : ℕ)
    (before after : List ℕ) (r : ℕ) : Type 0 where
  pub answer : r
      ≡ cond used
      (cond (sourced program (facts_plane before) m source)
      (ruled (bit_at (facts_plane before) (guard % 256)) question v.node) none)
      0
  pub marks : used_plane after ≡ used_plane before
  pub facts : facts_plane after
      ≡ cond (used && sourced program (facts_plane before) m source) (with_bit (facts_plane before) v.node)
      (facts_plane before)
  pub leaves : leaves_plane after ≡ leaves_plane before
  pub same : used ≡ false → after ≡ before
  pub size : length after ≡ all_planes
