-- What keeps a process's words sized and its stack held: a store below the stack.
use mathlib.Core.Bool.{true, false, cond}
use mathlib.Core.List.{List}
use mathlib.Core.Logic.{⊎_elim}
use mathlib.Core.Path.{◌≡◌, ◌∙◌}
use Prim.Native.Nat.{ℕ, ◌+◌, ◌<◌}
use native.Mathlib.Omega.{arith}
use lib.Dec.{ltb}
use lib.ListN.{length, set, length-set}
use borrow.Author.Tests.{ltb-true}
use Rattle.rules.specs.Process.{latch_places, latches_at, depth_at, depth}
use Rattle.rules.proofs.ChoiceLaws.{bool_cases}
use Rattle.rules.proofs.StackLaws.{set-depth}
use Rattle.process.specs.Given.{Stacked}

pub stacked-by : {words others : List ℕ} → length others ≡ length words → depth others ≡ depth words
    → Stacked words
    → Stacked others
stacked-by l d s = record { sized = l ∙ s.sized; held = rw d s.held; bounded = rw d s.bounded }

pub stacked-set : (words : List ℕ) (a v : ℕ) → a < depth_at → Stacked words → Stacked (set words a v)
stacked-set words a v h s = stacked-by (length-set words a v) (set-depth words a v h) s

pub stacked-latch : (words : List ℕ) (place v : ℕ) → Stacked words
    → Stacked (cond (ltb place latch_places) (set words (latches_at + place) v) words)
stacked-latch words place v s =
    ⊎_elim
    (λ (e : ltb place latch_places ≡ true).
    let low : place < latch_places = ltb-true place latch_places e in
    rw e (stacked-set words (latches_at + place) v (omega arith) s))
    (λ (e : ltb place latch_places ≡ false). rw e s)
    (bool_cases (ltb place latch_places))
