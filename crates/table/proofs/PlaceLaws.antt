-- A question put to every place: its answer from the place found.
use mathlib.Core.Bool.{Bool}
use mathlib.Core.Path.{◌≡◌, refl}
use Prim.Native.Nat.{ℕ, ◌≤◌, ◌<◌}
use borrow.Author.Tests.{lt-ltb, le-ltb}
use Rattle.std.specs.Prelude.{Ok, Err}
use Rattle.rules.specs.Answers.{Verdict, Accepted, refused, ◌then◌, ask_each}
use Rattle.rules.specs.Choice.{first_failing}

module _ (question count : ℕ) (test : ℕ → Bool) (place : ℕ) (found : place ≡ first_failing test count) where
  pub each-refused : place < count → ask_each question count test ≡ refused question place
  each-refused l = simp (← found, lt-ltb place count l)

  pub each-accepted : count ≤ place → ask_each question count test ≡ Accepted
  each-accepted l = simp (← found, le-ltb place count l)

-- an answer with nothing asked after it
pub then_none : (v : Verdict) → (v then Accepted) ≡ v
then_none (Ok _) = refl
then_none (Err r) = refl
