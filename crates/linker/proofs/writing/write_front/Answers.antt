-- `writing::write_front` meets its contract: each word in turn is the joined table's.
use borrow.Author.Rules.{rules}
use mathlib.Core.Path.{refl, sym, ◌∙◌}
use Prim.Native.Nat.{ℕ, ◌+◌}
use native.Mathlib.Omega.{arith}
use Rattle.linker.specs.Given.{library_of, program_of}
use Rattle.linker.specs.Linking.{linked}
use Rattle.linker.proofs.WordLaws.{joining, procedures-there, header-joined, procedure-kept, procedure-moved}
use Rattle.rules.specs.Encoding.{word_of}
use Rattle.rules.specs.WellFormed.{joined}
use Rattle.writer.proofs.WordLaws.{begins_word, begins_more}
use Rattle.linker.proofs.writing.write_front.Goals as goal

pub copy_words-requires : goal.copy_words-requires
copy_words-requires c = search (rules, procedures-there (joining c.args.both.now c.requires.0))

pub returns : goal.returns
unfolding word_of joined
returns c =
    let both = c.args.both.now in
    let given = c.requires.0 in
    let fewer = procedures-there (joining both given) in
    let word : ℕ → ℕ = word_of (linked (library_of both) (program_of both)) in
    let put = c.put_word in
    let put2 = c.put_word-2 in
    let copied = c.copy_words in
    let wrote = c.write_bodies in
    let one = begins_word word 0 c.args.out.now put.new.out refl _ put.ensures
    (c.header_word.ensures ∙ sym (header-joined (joining both given))) (search rules) in
    let two = begins_word word 1 put.new.out put2.new.out one _ put2.ensures c.flags_word.ensures (search rules) in
    let own = begins_more word 2 put2.new.out copied.new.out two _ _ refl _ copied.ensures (procedure-kept (joining both given))
    (search (rules, fewer)) in
    begins_more word _ copied.new.out wrote.new.out own _
    (2 + both.program.header.procedures) (omega (arith, fewer)) _ wrote.ensures (procedure-moved (joining both given))
    (search rules)
