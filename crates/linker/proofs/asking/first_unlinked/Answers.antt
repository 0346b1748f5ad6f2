-- `asking::first_unlinked` meets its contract. The loop's invariant: every procedure passed links.
use mathlib.Core.Path.{◌≡◌, sym, ◌∙◌, ap}
use Prim.Native.Nat.{◌+◌}
use native.Mathlib.Omega.{arith}
use Rattle.linker.specs.Given.{library_of, program_of}
use Rattle.linker.specs.Linking.{procedure_links}
use Rattle.rules.proofs.ChoiceLaws.{first-none, first-at}
use Rattle.rules.specs.Table.{procedures}
use Rattle.linker.proofs.asking.first_unlinked.Goals as goal

pub returns-then-not-procedure_links : goal.returns-then-not-procedure_links
returns-then-not-procedure_links c =
    let both = c.args.both.now in
    let loop = c.loop-p in
    sym (first-at (procedure_links (library_of both) (program_of both)) _ loop.p
    (omega (arith, both.library.sized.procedures-read)) loop.invariant
    (sym c.procedure_links.ensures ∙ c.if-not-procedure_links.true))

pub returns : goal.returns
returns c =
    let read = c.args.both.now.library.sized.procedures-read in
    let all : c.loop-p.p ≡ 1 + procedures (library_of c.args.both.now) = omega (arith, read) in
    ap (λ n. 1 + n) read ∙ sym (first-none _ _ (rw all at c.loop-p.invariant))
