-- What is answered, and what the output then is, by what is asked of the two tables.
use mathlib.Core.List.{List}
use mathlib.Core.Path.{◌≡◌, refl}
use Prim.Native.Nat.{ℕ}
use lib.ListN.{length}
use borrow.Author.Tests.{eq-eqb, ne_eqb}
use Rattle.std.specs.Prelude.{Err}
use Rattle.linker.specs.declared.LinkRefusal.{LinkRefusal}
use Rattle.linker.specs.declared.LinkRefusal.TheVariants.{OfProgram}
use Rattle.linker.specs.Linking.{Link, Joined, joined_bytes, linked, joinable, link_answer, link_output}
use Rattle.rules.specs.Encoding.{encode}
use Rattle.rules.specs.Table.{decode}

module _ (library program output : List ℕ) where
  abbrev Outcome : Link → List ℕ → Type 0
  Outcome answer left = (answer ≡ link_answer library program output) × (left ≡ link_output library program output)

  pub output-refused : (r : LinkRefusal) → joinable library program ≡ Err r → Outcome (Err r) output
  unfolding link_answer link_output
  output-refused r e = rw e (refl, refl)

  module _ (e : joinable library program ≡ Joined) where
    pub output_other : (length output ≡ joined_bytes (decode library) (decode program) → ⊥)
        → Outcome (Err (OfProgram (record { number = 29; place = 0 }))) output
    unfolding link_answer link_output
    output_other other = rw (e, ne_eqb _ _ other) (refl, refl)

    pub output_written : length output ≡ joined_bytes (decode library) (decode program)
        → Outcome Joined (encode (linked (decode library) (decode program)))
    unfolding link_answer link_output
    output_written same = rw (e, eq-eqb _ _ same) (refl, refl)
