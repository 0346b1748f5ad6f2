-- Two tables that pass 2 to 12 and 26: questions 27 to 29 of them by their counts.
use mathlib.Core.Path.{◌≡◌}
use Prim.Native.Nat.{ℕ, ◌+◌, ◌≤◌, ◌<◌, min}
use native.Mathlib.Omega.{arith}
use borrow.Author.Tests.{le-ltb, lt-leb, le-leb}
use Rattle.linker.specs.declared.both.Both.{Both}
use Rattle.linker.specs.Given.{library_of, program_of}
use Rattle.linker.specs.Linking.{procedure_links, flags_agree, joined_nodes, question27, question28, question29}
use Rattle.rules.specs.Answers.{Accepted, refused}
use Rattle.rules.specs.Choice.{first_failing}
use Rattle.rules.specs.Table.{variables, procedures}

module _ (both : Both) where
  pub linking : (found : ℕ)
      → found ≡ first_failing (procedure_links (library_of both) (program_of both)) (1 + procedures (library_of both))
      → both.library.header.procedures < found → question27 (library_of both) (program_of both) ≡ Accepted
  linking found e h =
      rw (← e, le-ltb found (1 + procedures (library_of both)) (omega (arith, both.library.sized.procedures-read)))

  pub agreeing : (found shared : ℕ) → shared ≡ min both.library.header.variables both.program.header.variables
      → found ≡ first_failing (flags_agree (library_of both) (program_of both)) shared → shared ≤ found
      → question28 (library_of both) (program_of both) ≡ Accepted
  agreeing found shared s e h =
      let both_have : min (variables (library_of both)) (variables (program_of both)) ≡ shared =
      omega (arith, s, both.library.sized.variables-read, both.program.sized.variables-read) in
      rw (both_have, ← e, le-ltb found shared h)

  -- L stands on both sides, so that nothing is taken away
  pub many : 256 + both.library.header.procedures < both.library.header.nodes + both.program.header.nodes
      → question29 (library_of both) (program_of both) ≡ refused 29 0
  unfolding joined_nodes
  many l =
      let own = both.library.sized in
      let other = both.program.sized in
      rw
      (lt-leb (joined_nodes (library_of both) (program_of both)) 256
      (omega (arith, own.nodes-read, own.nodes-high, own.procedures-read, other.nodes-read)))

  pub few : both.library.header.nodes + both.program.header.nodes ≤ 256 + both.library.header.procedures
      → question29 (library_of both) (program_of both) ≡ Accepted
  unfolding joined_nodes
  few l =
      let own = both.library.sized in
      let other = both.program.sized in
      rw
      (le-leb (joined_nodes (library_of both) (program_of both)) 256
      (omega (arith, own.nodes-read, own.nodes-high, own.procedures-read, other.nodes-read)))
