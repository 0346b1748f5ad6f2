-- `writing::write` meets its contract: the words before the nodes, the library's nodes and the program's are all there are.
use borrow.Author.Rules.{rules}
use mathlib.Core.Path.{refl, ◌∙◌, ap}
use Prim.Native.Nat.{ℕ}
use Rattle.linker.specs.Given.{library_of, program_of}
use Rattle.linker.specs.Linking.{linked}
use Rattle.linker.proofs.WordLaws.{joining, counted, node_kept, node-moves}
use Rattle.rules.specs.Encoding.{word_bytes, word_of, encode}
use Rattle.rules.specs.WellFormed.{joined}
use Rattle.writer.proofs.WordLaws.{begins_more, begins_all}
use Rattle.linker.proofs.writing.write.Goals as goal

pub returns : goal.returns
unfolding encode
returns c =
    let both = c.args.both.now in
    let given = c.requires.0 in
    let word : ℕ → ℕ = word_of (linked (library_of both) (program_of both)) in
    let front = c.write_front in
    let copied = c.copy_words in
    let wrote = c.write_nodes in
    let own = begins_more word _ front.new.out copied.new.out front.ensures _ _ refl _ copied.ensures
    (node_kept (joining both given)) (search rules) in
    let all = begins_more word _ copied.new.out wrote.new.out own _ _ refl _ wrote.ensures
    (node-moves (joining both given)) (search rules) in
    begins_all word _ wrote.new.out all (search rules) ∙ ap (joined (λ i. word_bytes (word i))) (counted (joining both given))
