-- The collective that a node is, and what a well-formed table says of its parts.
use mathlib.Core.Bool.{true, false}
use mathlib.Core.List.{List}
use mathlib.Core.Logic.{⊎_elim}
use mathlib.Core.Path.{◌≡◌}
use Prim.Native.Nat.{ℕ, ◌<◌}
use native.Mathlib.Decide.{dec_lt}
use native.Mathlib.Omega.{arith}
use lib.Dec.{eqb}
use borrow.Author.Tests.{eqb-true}
use Rattle.rules.specs.declared.Node.{Node}
use Rattle.rules.specs.Process.{variable_places, top}
use Rattle.rules.specs.Table.{decode, statement_of, collective, barrier, broadcast, exchange, gathered_areas}
use Rattle.rules.proofs.ChoiceLaws.{bool_cases}
use Rattle.rules.proofs.KindLaws.{barrier_of, broadcast_of, exchange_of, broadcast_fields, exchange_fields}
use Rattle.rules.proofs.StackLaws.{StoresLow}
use Rattle.values.specs.Given.{Part}
use Rattle.process.specs.Given.{is_collective, Topped}
use Rattle.collectives.specs.Given.{collective_of}
use Rattle.process.proofs.AloneLaws.{collective_range}
use Rattle.process.proofs.StatementLaws.{top-formed, top_part}

module _ (m : Node) where
  pub is-barrier : m.kind ≡ 23 → collective_of m ≡ barrier
  unfolding collective_of
  is-barrier e = rw e

  pub is-broadcast : m.kind ≡ 24 → collective_of m ≡ broadcast m.a m.b m.c
  unfolding collective_of
  is-broadcast e = rw e

  pub is-exchange : m.kind ≡ 25 → collective_of m ≡ exchange m.a m.b
  unfolding collective_of
  is-exchange e = rw e

  -- kinds 23 to 25 are the collectives
  pub collective_of_lem : is_collective m.kind ≡ true → statement_of m ≡ collective (collective_of m)
  collective_of_lem t =
      let range = collective_range m.kind t in
      elim (dec_lt m.kind 24) [
        | yes l ↦ let e : m.kind ≡ 23 = omega arith in rw (is-barrier e) (barrier_of m e)
        | no l ↦
            elim (dec_lt m.kind 25) [
              | yes l' ↦ let e : m.kind ≡ 24 = omega arith in rw (is-broadcast e) (broadcast_of m e)
              | no l' ↦ let e : m.kind ≡ 25 = omega arith in rw (is-exchange e) (exchange_of m e)
            ]
      ]

-- what a process whose top statement is a collective evaluates
module _ {table : List ℕ} {words : List ℕ} {count : ℕ} {m : Node}
    (t : Topped table words count m) where
  pub broadcast-fits : m.kind ≡ 24 → (m.a < variable_places) × Part (decode table) m.b × Part (decode table) m.c
  broadcast-fits e =
      let f = broadcast_fields (decode table) (top-formed t) (top words) m t.here e in
      (omega (arith, f.0, (top-formed t).variables-high), top_part t f.1, top_part t f.2)

  pub exchange-fits : m.kind ≡ 25 → Part (decode table) m.a × (m.b < gathered_areas)
  exchange-fits e =
      let f = exchange_fields (decode table) (top-formed t) (top words) m t.here e in
      (top_part t f.0, f.1)

-- a collective stores below the stack
pub stores_low : (m : Node) → (m.kind ≡ 24 → m.a < variable_places) → (m.kind ≡ 25 → m.b < gathered_areas) → StoresLow (collective_of m)
unfolding collective_of
stores_low m stored filled =
    ⊎_elim
    (λ (e : eqb m.kind 24 ≡ true). rw e (omega (arith, stored (eqb-true m.kind 24 e))))
    (λ (e : eqb m.kind 24 ≡ false).
    ⊎_elim
    (λ (f : eqb m.kind 25 ≡ true). rw (e, f) (filled (eqb-true m.kind 25 f)))
    (λ (f : eqb m.kind 25 ≡ false). rw (e, f) tt)
    (bool_cases (eqb m.kind 25)))
    (bool_cases (eqb m.kind 24))
