-- `link_joinable` meets its contract.
use mathlib.Core.Path.{sym, ◌∙◌}
use Rattle.linker.specs.Given.{Joinable}
use Rattle.linker.proofs.LinkLaws.{both_formed}
use Rattle.linker.proofs.OutcomeLaws.{output_other, output_written}
use Rattle.linker.proofs.WordLaws.{joining, bytes-joined}
use Rattle.linker.proofs.link_joinable.Goals as goal

pub of-both-requires : goal.of-both-requires
of-both-requires c = both_formed _ _ c.requires

pub returns-then-out-joined_bytes : goal.returns-then-out-joined_bytes
returns-then-out-joined_bytes c =
    let both = c.of-both in
    let given : Joinable both.result = rw (both.ensures.0, both.ensures.1) c.requires in
    let same = rw (both.ensures.0, both.ensures.1) at (bytes-joined (joining both.result given)) in
    output_other _ _ _ c.requires (λ e. c.if-out-joined_bytes.true (e ∙ sym (c.joined_bytes.ensures ∙ same)))

pub returns : goal.returns
returns c =
    let both = c.of-both in
    let given : Joinable both.result = rw (both.ensures.0, both.ensures.1) c.requires in
    let same = rw (both.ensures.0, both.ensures.1) at (bytes-joined (joining both.result given)) in
    let size = c.if-out-joined_bytes.false ∙ (c.joined_bytes.ensures ∙ same) in
    let (answer, left) = output_written _ _ _ c.requires size in
    (answer, rw (both.ensures.0, both.ensures.1) at c.write.ensures ∙ left)
