-- Laws of the state after a collective: every process's words, what a broadcast leaves in its variable, and what an exchange leaves
-- alone.
use mathlib.Core.List.{List}
use mathlib.Core.Path.{◌≡◌, sym, ◌∙◌, ap}
use Prim.Native.Nat.{ℕ, ◌+◌, ◌*◌, ◌<◌}
use native.Mathlib.Omega.{arith}
use lib.ListN.{length, get_or}
use lib.Seq.{get_or-set_same}
use Rattle.rules.specs.Arrivals.{arrival_source}
use Rattle.rules.specs.Collective.{sent_by, received, completed_state, EqualSources, OtherAreasKept}
use Rattle.rules.specs.Evaluation.{gathered_slot}
use Rattle.rules.specs.Process.{process_words, variable_places, gathered_at, process_at, popped}
use Rattle.rules.specs.Table.{Collective, broadcast, exchange}
use Rattle.rules.proofs.ProcessLaws.{KeepsSize, process_length, each_process-length, each_process_changed}
use Rattle.rules.proofs.StackLaws.{popped-length, popped-below, received-length, gathered-other}

-- a process's words after it
abbrev pub taken : List ℕ → ℕ → Collective → ℕ → List ℕ → List ℕ
taken roll count k p words = popped (received roll count k p words)

pub taken_keeps : (roll : List ℕ) (count : ℕ) (k : Collective) → KeepsSize (taken roll count k)
taken_keeps roll count k p words h = popped-length (received roll count k p words) ∙ received-length roll count k p words ∙ h

module _ (roll : List ℕ) (count : ℕ) (k : Collective) (state : List ℕ) (sized : length state ≡ process_words * count) where
  pub completed-length : length (completed_state roll count k state) ≡ process_words * count
  unfolding completed_state
  completed-length = each_process-length (taken roll count k) state count (taken_keeps roll count k) sized count (omega arith) ∙ sized

  pub completed-at : (p : ℕ) → p < count
      → process_at (completed_state roll count k state) p ≡ taken roll count k p (process_at state p)
  unfolding completed_state
  completed-at p l = each_process_changed (taken roll count k) state count (taken_keeps roll count k) sized count p l (omega arith)

-- what a process holds in a broadcast's variable
broadcast-at : (roll state : List ℕ) (count a b c p : ℕ) → length state ≡ process_words * count → a < variable_places → p < count
    → get_or (process_at (completed_state roll count (broadcast a b c) state) p) a 0 ≡ sent_by roll count (arrival_source roll p)
unfolding received
broadcast-at roll state count a b c p sized low l =
    ap (λ words. get_or words a 0) (completed-at roll count (broadcast a b c) state sized p l)
    ∙ popped-below (received roll count (broadcast a b c) p (process_at state p)) a (omega arith)
    ∙ get_or-set_same (process_at state p) a (sent_by roll count (arrival_source roll p)) 0
    (omega (arith, process_length state count p sized l))

pub equal_sources : EqualSources
equal_sources roll state count a b c p q sized low l m e =
    broadcast-at roll state count a b c p sized low l
    ∙ ap (sent_by roll count) e
    ∙ sym (broadcast-at roll state count a b c q sized low m)

pub other_areas_kept : OtherAreasKept
unfolding received
other_areas_kept roll state count a r s i p sized few l area apart low =
    let at = gathered_at + gathered_slot s i in
    ap (λ words. get_or words at 0) (completed-at roll count (exchange a r) state sized p l)
    ∙ popped-below (received roll count (exchange a r) p (process_at state p)) at (omega arith)
    ∙ gathered-other roll r count (process_at state p) at (λ k b. omega arith)
