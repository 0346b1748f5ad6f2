-- A process's words as the part of the state that is lent, and the state when the part is back.
use mathlib.Core.List.{List}
use mathlib.Core.Path.{◌≡◌, sym, ◌∙◌, ap}
use Prim.Native.Nat.{ℕ, ◌+◌, ◌-◌, ◌*◌, ◌<◌}
use native.Mathlib.Omega.{arith}
use lib.ListN.{length, get_or, take, drop}
use borrow.Rule.Slice.PartMut.{put_mid}
use Rattle.rules.specs.Process.{depth_at, process_words, process_at, with_process, depth}
use Rattle.rules.proofs.ProcessLaws.{process_at_lem, with_process-same}

pub part-size : (p : ℕ) → process_words * p + process_words - process_words * p ≡ process_words
part-size p = omega arith

pub lent : (state : List ℕ) (p : ℕ) → take (process_words * p + process_words - process_words * p) (drop (process_words * p) state) ≡ process_at state p
unfolding process_at
lent state p = rw (part-size p)

pub back : (state words : List ℕ) (p : ℕ)
    → put_mid (process_words * p) (process_words * p + process_words - process_words * p) state words ≡ with_process state p words
unfolding with_process
back state words p = rw (part-size p)

-- a process's depth in the state
pub depth_in : (state : List ℕ) (p : ℕ) → depth (process_at state p) ≡ get_or state (process_words * p + depth_at) 0
depth_in state p = process_at_lem state p depth_at (omega arith)

-- and once it has other words
pub depth_with : (state words : List ℕ) (count p : ℕ) → length state ≡ process_words * count → length words ≡ process_words → p < count
    → get_or (with_process state p words) (process_words * p + depth_at) 0 ≡ depth words
depth_with state words count p sized l h =
    sym (depth_in (with_process state p words) p) ∙ ap depth (with_process-same state count p words sized l h)
