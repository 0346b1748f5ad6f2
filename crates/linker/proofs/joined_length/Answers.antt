-- `joined_length` meets its contract.
use mathlib.Core.Path.{sym, ◌∙◌}
use native.Mathlib.Omega.{arith}
use Rattle.linker.specs.Given.{Joinable}
use Rattle.linker.specs.Linking.{joined_length}
use Rattle.linker.proofs.LinkLaws.{both_formed}
use Rattle.linker.proofs.WordLaws.{joining, bytes-joined, bytes-few}
use Rattle.linker.proofs.joined_length.Goals as goal

pub of-requires : goal.of-requires
of-requires c = both_formed _ _ (sym c.ask.ensures ∙ c.in-Ok.is)

pub returns-in-Ok : goal.returns-in-Ok
unfolding joined_length
returns-in-Ok c =
    let both = c.of in
    let passed = sym c.ask.ensures ∙ c.in-Ok.is in
    let given : Joinable both.result = rw (both.ensures.0, both.ensures.1) passed in
    let size = c.joined_bytes.ensures in
    let length = rw (both.ensures.0, both.ensures.1) at (bytes-joined (joining both.result given)) in
    (rw passed (size ∙ length), omega (arith, size, bytes-few (joining both.result given)))

pub returns-in-Err : goal.returns-in-Err
unfolding joined_length
returns-in-Err c = (rw (sym c.ask.ensures ∙ c.in-Err.is), omega arith)
