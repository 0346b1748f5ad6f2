-- `asking::ask` meets its contract: what `map_err` hands on says which of the two tables is refused.
use mathlib.Core.Path.{◌≡◌, refl, sym, ◌∙◌, ap}
use borrow.Author.Rules.{rules}
use native.Mathlib.Omega.{arith}
use Prim.Native.Nat.{ℕ}
use Rattle.std.specs.Prelude.{MatchResult, IsErrAnd, Ok, Err}
use Rattle.std.proofs.lemmas.Result.{err_from_is_err_and}
use Rattle.rules.specs.declared.Refusal.{Refusal}
use Rattle.rules.specs.Answers.{Verdict, Accepted}
use Rattle.linker.specs.declared.LinkRefusal.{LinkRefusal}
use Rattle.linker.specs.declared.LinkRefusal.TheVariants.{OfLibrary, OfProgram}
use Rattle.linker.specs.Linking.{Link, Joined, ask_library, ask_program, joinable}
use Rattle.linker.proofs.asking.ask.Goals as goal

-- of an answer, and of it with its refusal mapped, as `map_err` relates the two: `answer` says the same
module _ (table : Refusal → LinkRefusal) (answer : Verdict → Link) (joins : answer Accepted ≡ Joined)
    (refuses : (e : Refusal) → answer (Err e) ≡ Err (table e)) where
  named : (Q : Refusal → LinkRefusal → Type 0) (v : Verdict) (r : Link)
      → MatchResult v (λ x. r ≡ Ok x) (λ e. IsErrAnd r (Q e)) → ((e : Refusal) (y : LinkRefusal) → Q e y → y ≡ table e)
      → r ≡ answer v
  named Q (Ok _) r m names = m ∙ sym joins
  named Q (Err e) (Ok _) m names = absurd m
  named Q (Err e) (Err y) m names = ap Err (names e y m) ∙ sym (refuses e)

library-refused : (v : Verdict) (next : Link) (y : LinkRefusal) → ask_library v Joined ≡ Err y → Err y ≡ ask_library v next
library-refused (Ok _) next y is = let z : ◌≡◌ {A = ℕ} 0 1 = cc in absurd (omega arith)
library-refused (Err e) next y is = sym is

library-passed : (v : Verdict) (u : Unit {0}) → ask_library v Joined ≡ Ok u → v ≡ Accepted
library-passed (Ok _) u is = refl
library-passed (Err e) u is = let z : ◌≡◌ {A = ℕ} 0 1 = cc in absurd (omega arith)

abbrev of_library : Verdict → Link
of_library v = ask_library v Joined

pub returns-in_err-map_err : goal.returns-in_err-map_err
unfolding joinable
returns-in_err-map_err c =
    let p = err_from_is_err_and c.from_residual.result c.from_residual.ensures.1 in
    let library : c.map_err.result ≡ of_library c.ask_alone.result =
    named OfLibrary of_library refl (λ e. refl) _ _ _ c.map_err.ensures.cases (λ e y q. search rules) in
    rw (p.1, p.2, ← c.ask_alone.ensures) (library-refused _ _ _ (sym library ∙ c.in_err-map_err.was))

pub returns : goal.returns
unfolding joinable
returns c =
    let library : c.map_err.result ≡ of_library c.ask_alone.result =
    named OfLibrary of_library refl (λ e. refl) _ _ _ c.map_err.ensures.cases (λ e y q. search rules) in
    let passed = library-passed _ _ (sym library ∙ c.in_ok-map_err.was) in
    rw (← c.ask_alone.ensures, passed, ← c.ask_program.ensures)
    (named OfProgram ask_program refl (λ e. refl) _ _ _ c.map_err-2.ensures.cases (λ e y q. search rules))
