-- The walk from a body down: marks of the statements that wait, of which the highest is taken first.
use Rattle.std.specs.Prelude.{Bool, true, false, cond, not, ◌&&◌, ◌||◌, List, [], ◌∷◌, ◌≡◌, ℕ, Option, None, Some, ◌+◌, ◌/◌, ◌≤◌, ◌<◌, leb, ltb, length, get_or, replicate}
use Rattle.rules.specs.Table.{Program, Statement, nothing, assign, sequence, branch, loop, call, latch, collective, leave}
use Rattle.rules.specs.Table.{body, node_at, statement_at}
use Rattle.rules.specs.WellFormed.{in_tree}
use Rattle.table.specs.Marks.{bit_at}

-- the parts that are statements
unfoldable pub inner_statements : Statement → List ℕ
inner_statements nothing = []
inner_statements (assign a b) = []
inner_statements (sequence a b) = a ∷ b ∷ []
inner_statements (branch a b c) = b ∷ c ∷ []
inner_statements (loop a b) = b ∷ []
inner_statements (call q) = []
inner_statements (latch a b) = []
inner_statements (collective k) = []
inner_statements leave = []

-- a node may hold a call: it is a sequence, a branch, a loop or a call
unfoldable pub may_call : Program → ℕ → Bool
may_call program n = leb 18 (node_at program n).kind && leb (node_at program n).kind 21

-- those of a list that may hold a call
unfoldable pub callers : Program → List ℕ → List ℕ
callers program [] = []
callers program (n ∷ nodes) = cond (may_call program n) (n ∷ callers program nodes) (callers program nodes)

-- what waits once node n is visited
abbrev pub waiting : Program → ℕ → List ℕ
waiting program n = callers program (inner_statements (statement_at program n))

-- a statement is no call, or calls a procedure below p
unfoldable pub calls_below : ℕ → Statement → Bool
calls_below p nothing = true
calls_below p (assign a b) = true
calls_below p (sequence a b) = true
calls_below p (branch a b c) = true
calls_below p (loop a b) = true
calls_below p (call q) = ltb q p
calls_below p (latch a b) = true
calls_below p (collective k) = true
calls_below p leave = true

-- question 12 of node n as far as procedure p goes
unfoldable pub own_calls : Program → ℕ → ℕ → Bool
own_calls program p n = not (in_tree program n (body program p)) || calls_below p (statement_at program n)

-- the words from k on hold no node
abbrev pub ClearFrom : List ℕ → ℕ → Type 0
ClearFrom marks k = (i : ℕ) → k ≤ i → i < 8 → get_or marks i 0 ≡ 0

-- the highest node taken out of the marks, if there was one
pub data Topped (before after : List ℕ) : Option ℕ → Type 0 where
  empty : before ≡ replicate 8 0 → after ≡ replicate 8 0 → Topped before after None
  taken : (n : ℕ) → n < 256 → bit_at before n ≡ true → ((k : ℕ) → n < k → k < 256 → bit_at before k ≡ false)
      → bit_at after n ≡ false → ((k : ℕ) → (k ≡ n → ⊥) → bit_at after k ≡ bit_at before k) → length after ≡ 8
      → ClearFrom after (n / 32 + 1) → Topped before after (Some n)
