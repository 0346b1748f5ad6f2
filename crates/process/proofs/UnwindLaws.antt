-- A stack that is unwound, an entry at a time.
use mathlib.Core.Bool.{cond}
use mathlib.Core.List.{List}
use mathlib.Core.Path.{◌≡◌, sym, ◌∙◌, ap}
use Prim.Native.Nat.{ℕ, suc, ◌-◌, ◌≤◌}
use native.Mathlib.Omega.{arith}
use lib.Dec.{eqb}
use lib.ListN.{length}
use borrow.Author.Tests.{eq-eqb, ne_eqb}
use Rattle.rules.specs.Process.{stack_places, process_words, depth, top, popped, unwound}
use Rattle.rules.proofs.StackLaws.{popped-length, popped-depth}
use Rattle.process.specs.Given.{Stacked}

-- words on the way: what is left to unwind leads to what the first words lead to
pub record Unwinding (w : ℕ) (first words : List ℕ) : Type 0 where
  pub sized : length words ≡ process_words
  pub bounded : depth words ≤ stack_places
  pub rest : unwound w (depth words) words ≡ unwound w (depth first) first

module _ {w : ℕ} {first words : List ℕ} (u : Unwinding w first words) where
  pub unwind_end : depth words ≡ 0 → words ≡ unwound w (depth first) first
  unwind_end e = sym (none e) ∙ u.rest
    where
      none : depth words ≡ 0 → unwound w (depth words) words ≡ words
      none = unfold unwound in λ h. rw h

  module _ (held : depth words ≡ 0 → ⊥) where
    pub unwind_stacked : Stacked words
    unwind_stacked = record { sized = u.sized; held = omega (arith, held); bounded = u.bounded }

    -- one entry
    once : unwound w (depth words) words ≡ cond (eqb (top words) w) (popped words) (unwound w (depth words - 1) (popped words))
    unfolding unwound
    once = let e : depth words ≡ suc (depth words - 1) = omega (arith, unwind_stacked.held) in ap (λ d. unwound w d words) e

    pub unwind_found : top words ≡ w → popped words ≡ unwound w (depth first) first
    unwind_found e = sym (once ∙ simp (eq-eqb (top words) w e)) ∙ u.rest

    pub unwind_on : (top words ≡ w → ⊥) → Unwinding w first (popped words)
    unwind_on other =
        let fewer = popped-depth words u.sized in
        record {
          sized = popped-length words ∙ u.sized;
          bounded = omega (arith, u.bounded);
          rest = rw fewer (sym (once ∙ simp (ne_eqb (top words) w other)) ∙ u.rest);
        }
