-- The walk down one procedure's tree: what waits, and the lowest call so far that does not call below the procedure.
use mathlib.Core.Bool.{true, false, cond, or-true}
use mathlib.Core.List.{List, [], ◌∷◌}
use mathlib.Core.Logic.{⊎_elim}
use mathlib.Core.Path.{◌≡◌, refl, sym, ◌∙◌}
use Prim.Native.Nat.{ℕ, zero, suc, ◌+◌, ◌-◌, ◌/◌, ◌≤◌, ◌<◌}
use native.Mathlib.Nat.{add-zero}
use native.Mathlib.Omega.{arith}
use lib.ListN.{length, replicate, get_or-replicate}
use lib.Seq.{get_or-set_other}
use Rattle.std.proofs.Common.{Option, None, Some}
use Rattle.rules.specs.Choice.{first_failing}
use Rattle.rules.specs.Table.{Program, decode, nodes, body, statement_at}
use Rattle.rules.specs.WellFormed.{in_tree}
use Rattle.rules.proofs.ChoiceLaws.{bool_cases}
use Rattle.table.specs.declared.Header.{Header}
use Rattle.table.specs.Sized.{Sized}
use Rattle.table.specs.Marks.{bit_at, with_bit, with_bits}
use Rattle.table.specs.Uses.{Fitting}
use Rattle.table.proofs.BitLaws.{bit-same, bit-other, bit-zero}
use Rattle.table.proofs.TestLaws.{never}
use Rattle.calls.specs.Walk.{may_call, callers, waiting, calls_below, own_calls, ClearFrom, Topped, empty, taken}
use Rattle.calls.proofs.FoundLaws.{Found, found_first, found_none, found_passed, found_here}
use Rattle.calls.proofs.InnerLaws.{no_call}
use Rattle.calls.proofs.VisitLaws.{one-waits, none-waits}
use Rattle.calls.proofs.WaitLaws.{Wait, wait_start, wait_passed, wait_taken, waits}

-- what a visit of node n leaves and answers
abbrev leaves : Program → ℕ → List ℕ → List ℕ
leaves program n m = with_bits m (waiting program n)

abbrev answers : Program → ℕ → ℕ → ℕ → ℕ
answers program p n low = cond (calls_below p (statement_at program n)) low n

-- words that hold no node, while nodes of lower words are marked
pub clear-bit : (m : List ℕ) (k a : ℕ) → a / 32 < k → ClearFrom m k → ClearFrom (with_bit m a) k
unfolding with_bit
clear-bit m k a low clear =
    ⊎_elim
    (λ (e : bit_at m a ≡ true). simp e clear)
    (λ (e : bit_at m a ≡ false).
    simp e (λ i above inside. get_or-set_other m (a / 32) i _ 0 (λ same. omega arith) ∙ clear i above inside))
    (bool_cases (bit_at m a))

pub waited-clear : (program : Program) (m : List ℕ) (k a : ℕ) → a / 32 < k → ClearFrom m k → ClearFrom (with_bits m (callers program (a ∷ []))) k
waited-clear program m k a low clear =
    ⊎_elim
    (λ (e : may_call program a ≡ true). rw (one-waits program m a e) (clear-bit m k a low clear))
    (λ (e : may_call program a ≡ false). rw (none-waits program m a e) clear)
    (bool_cases (may_call program a))

-- the body alone is taken at once
root-taken : (b : ℕ) → b < 256 → Topped (with_bit (replicate 8 0) b) (replicate 8 0) (Some b)
root-taken b low =
    taken b low (bit-same (replicate 8 0) b low)
    (λ k above inside. bit-other (replicate 8 0) b k (λ e. omega arith) ∙ bit-zero 8 k)
    (bit-zero 8 b)
    (λ k other. sym (bit-other (replicate 8 0) b k other))
    refl
    (λ i above inside. get_or-replicate 8 i 0 0 inside)

-- with the lowest call so far that does not call below p
abbrev Walked : Program → ℕ → ℕ → List ℕ → ℕ → Type 0
Walked program p i m low = Wait program (body program p) i m × Found (own_calls program p) (nodes program) i low

-- the nodes below which a node was taken: up to it, or none where none was
abbrev pub above : Option ℕ → ℕ
above None = 0
above (Some n) = n + 1

-- from one that was taken to the next: what the loop keeps
pub record Going (program : Program) (p : ℕ) (next : Option ℕ) (m : List ℕ) (low : ℕ) : Type 0 where
  pub before : List ℕ
  pub walked : Walked program p (above next) before low
  pub topped : Topped before m next
  pub high : above next ≤ nodes program

-- a procedure's body is a node
pub body-inside : {table : List ℕ} {header : Header} → Sized table header → Fitting table → (p : ℕ) → p < header.procedures
    → body (decode table) p < nodes (decode table)
body-inside s f p low = f.bodies p (omega (arith, s.procedures-read))

emptied : {before after : List ℕ} → Topped before after None → after ≡ replicate 8 0
emptied (empty was is) = is

module _ (table : List ℕ) (f : Fitting table) (p : ℕ) (l : body (decode table) p < nodes (decode table)) where
  abbrev root : ℕ
  root = body (decode table) p

  own-passed : (n : ℕ) → n < nodes (decode table) → (m : List ℕ) → Wait (decode table) root (n + 1) m → bit_at m n ≡ false
      → own_calls (decode table) p n ≡ true
  unfolding own_calls
  own-passed n inside m w e =
      ⊎_elim
      (λ (h : in_tree (decode table) n root ≡ true).
      ⊎_elim
      (λ (s : may_call (decode table) n ≡ true). never (sym (waits table f root l n inside m w s h) ∙ e))
      (λ (s : may_call (decode table) n ≡ false). simp ((no_call (decode table) n s).1 p, or-true))
      (bool_cases (may_call (decode table) n)))
      (λ (h : in_tree (decode table) n root ≡ false). simp h)
      (bool_cases (in_tree (decode table) n root))

  walked-passed : (n : ℕ) → n < nodes (decode table) → (m : List ℕ) (low : ℕ) → Walked (decode table) p (n + 1) m low → bit_at m n ≡ false
      → Walked (decode table) p n m low
  walked-passed n inside m low w e = (
    wait_passed table f root l n inside m w.0 e,
    found_passed (own_calls (decode table) p) (nodes (decode table)) n low inside w.1 (own-passed n inside m w.0 e),
  )

  -- down to the next that waits
  walked_jump : (d n : ℕ) (m : List ℕ) (low : ℕ) → n + d ≤ nodes (decode table) → Walked (decode table) p (n + d) m low
      → ((k : ℕ) → n ≤ k → k < n + d → bit_at m k ≡ false) → Walked (decode table) p n m low
  walked_jump zero n m low under w none = rw (add-zero n) at w
  walked_jump (suc d) n m low under w none =
      let here : n + suc d ≡ (n + d) + 1 = omega arith in
      walked_jump d n m low (omega arith)
      (walked-passed (n + d) (omega arith) m low (rw here at w) (none (n + d) (omega arith) (omega arith)))
      (λ k above below. none k above (omega arith))

  own_below : (n : ℕ) → calls_below p (statement_at (decode table) n) ≡ true → own_calls (decode table) p n ≡ true
  unfolding own_calls
  own_below n e = simp (e, or-true)

  own-high : (n : ℕ) → in_tree (decode table) n root ≡ true → calls_below p (statement_at (decode table) n) ≡ false → own_calls (decode table) p n ≡ false
  unfolding own_calls
  own-high n h e = simp (h, e)

  -- a node that was taken
  walked-taken : (n : ℕ) → n < nodes (decode table) → (m : List ℕ) (low : ℕ) → Walked (decode table) p (n + 1) m low → (after : List ℕ)
      → length after ≡ 8 → bit_at m n ≡ true → bit_at after n ≡ false
      → ((k : ℕ) → (k ≡ n → ⊥) → bit_at after k ≡ bit_at m k)
      → Walked (decode table) p n (leaves (decode table) n after) (answers (decode table) p n low)
  walked-taken n inside m low w after size marked gone same = (
    wait_taken table f root l n inside m w.0 after size marked gone same,
    ⊎_elim
        (λ (e : calls_below p (statement_at (decode table) n) ≡ true).
        simp e (found_passed (own_calls (decode table) p) (nodes (decode table)) n low inside w.1 (own_below n e)))
        (λ (e : calls_below p (statement_at (decode table) n) ≡ false).
        simp e (found_here (own_calls (decode table) p) (nodes (decode table)) n low inside w.1
        (own-high n (w.0.sound n (omega (arith, f.sized.nodes-high)) marked).0 e)))
        (bool_cases (calls_below p (statement_at (decode table) n))),
  )

  walked_start : Walked (decode table) p (nodes (decode table)) (with_bit (replicate 8 0) root) (nodes (decode table))
  walked_start = (wait_start table f root l, found_none (own_calls (decode table) p) (nodes (decode table)))

  topped-below : {before after : List ℕ} {next : Option ℕ} → Topped before after next → (k : ℕ) → above next ≤ k → k < 256
      → bit_at before k ≡ false
  topped-below (empty e g) k past low = rw e (bit-zero 8 k)
  topped-below (taken n low' marked over gone same size clear) k past low = over k (omega arith) low

  topped-high : {before after : List ℕ} {next : Option ℕ} (i : ℕ) → Topped before after next
      → ((k : ℕ) → k < 256 → bit_at before k ≡ true → k < i) → above next ≤ i
  topped-high i (empty e g) h = omega arith
  topped-high i (taken n low marked over gone same size clear) h = omega (arith, h n low marked)

  going : (i : ℕ) (m : List ℕ) (low : ℕ) → i ≤ nodes (decode table) → Walked (decode table) p i m low → (after : List ℕ)
      (next : Option ℕ) → Topped m after next → (Going (decode table) p next after low) × (above next ≤ i)
  going i m low under w after next t =
      let high : above next ≤ i = topped-high i t (λ k low e. (w.0.sound k low e).1) in
      let gap : above next + (i - above next) ≡ i = omega arith in (
        record {
          before = m;
          walked = walked_jump (i - above next) (above next) m low (omega arith) (rw gap w)
              (λ k past below. topped-below t k past (omega (arith, f.sized.nodes-high)));
          topped = t;
          high = omega arith;
        },
        high,
      )

  visited : {n : ℕ} {before m : List ℕ} (low : ℕ) → Topped before m (Some n) → n + 1 ≤ nodes (decode table)
      → Walked (decode table) p (n + 1) before low → Walked (decode table) p n (leaves (decode table) n m) (answers (decode table) p n low)
  visited low (taken n few marked over gone same size clear) high w =
      walked-taken n (omega arith) _ low w _ size marked gone same

  pub going_start : (m : List ℕ) (r count : ℕ) → m ≡ replicate 8 0 → r ≡ root → count ≡ nodes (decode table)
      → Going (decode table) p (Some r) m count
  going_start m r count none at-root counted =
      let t = root-taken root (omega (arith, f.sized.nodes-high)) in
      rw (none, at-root, counted)
      (going (nodes (decode table)) (with_bit (replicate 8 0) root) (nodes (decode table)) (omega arith) walked_start _ _ t).0

  -- one turn, at a node that was taken
  module _ (n low : ℕ) (m : List ℕ) (g : Going (decode table) p (Some n) m low) where
    pub going_next : (low' : ℕ) (next : Option ℕ) (after : List ℕ) → low' ≡ answers (decode table) p n low
        → Topped (leaves (decode table) n m) after next → (Going (decode table) p next after low') × (above next ≤ n)
    going_next low' next after answer t =
        rw answer
        (going n (leaves (decode table) n m) (answers (decode table) p n low) (omega (arith, g.high))
        (visited low g.topped g.high g.walked) after next t)

pub going_end : (program : Program) (p : ℕ) (m : List ℕ) (low : ℕ) → Going program p None m low
    → (low ≡ first_failing (own_calls program p) (nodes program)) × (m ≡ replicate 8 0)
going_end program p m low g = (found_first (own_calls program p) (nodes program) low g.walked.1, emptied g.topped)
