-- The fourth plane: the statements that stand in dead branches.
use Rattle.std.specs.Prelude.{true, false, cond, List, [], ◌∷◌, ◌≡◌, ℕ, ◌+◌, ◌<◌, eqb, length, take, drop}
use Rattle.rules.specs.Judgement.{Fixing, fixed, unfixed, fixing, live, counted}
use Rattle.rules.specs.Table.{Program, nodes, statement_at}
use Rattle.rules.specs.Table.{Statement, nothing, assign, sequence, branch, loop, call, latch, collective, leave}
use Rattle.rules.specs.WellFormed.{is_statement}
use Rattle.table.specs.Marks.{bit_at, with_bits}
use Rattle.visit.specs.Fields.{plane_words, all_planes}

-- it lies behind the planes of the sweep
abbrev pub four_planes : ℕ
four_planes = all_planes + plane_words

abbrev pub work_planes : List ℕ → List ℕ
work_planes planes = take all_planes planes

abbrev pub aside_plane : List ℕ → List ℕ
aside_plane planes = drop all_planes planes

-- the parts of a statement that are statements
unfoldable pub inner_parts : Statement → List ℕ
inner_parts nothing = []
inner_parts (assign a b) = []
inner_parts (sequence a b) = a ∷ b ∷ []
inner_parts (branch a b c) = b ∷ c ∷ []
inner_parts (loop a b) = b ∷ []
inner_parts (call p) = []
inner_parts (latch a b) = []
inner_parts (collective k) = []
inner_parts leave = []

-- the branch of an if that will never be taken, where there is one
abbrev pub never_of : Fixing → ℕ → ℕ → List ℕ
never_of (fixed v) first second = cond (eqb v 0) first second ∷ []
never_of unfixed first second = []

unfoldable pub never_parts : Program → Statement → List ℕ
never_parts program nothing = []
never_parts program (assign a b) = []
never_parts program (sequence a b) = []
never_parts program (branch a b c) = never_of (fixing program a) b c
never_parts program (loop a b) = []
never_parts program (call p) = []
never_parts program (latch a b) = []
never_parts program (collective k) = []
never_parts program leave = []

-- the marks once node n is passed on the way down
unfoldable pub aside_marks : Program → ℕ → List ℕ → List ℕ
aside_marks program n marks =
    cond (bit_at marks n) (with_bits marks (inner_parts (statement_at program n))) (with_bits marks (never_parts program (statement_at program n)))

-- what is marked is a statement of a dead branch; what is not counts as what it is
pub record Aside (program : Program) (marks : List ℕ) : Type 0 where
  pub size : length marks ≡ plane_words
  pub dead : (k : ℕ) → k < 256 → bit_at marks k ≡ true → (is_statement program k ≡ true) × (live program k ≡ false)
  pub counts : (k : ℕ) → k < nodes program → bit_at marks k ≡ false → counted program k ≡ statement_at program k
