-- `input::read_words` meets its contract: word by word, each within the bytes.
use Rattle.std.proofs.Common.{◌≡◌, refl, ◌∙◌, ap, ◌++◌, [], length, take, drop, append-nil, arith}
use Rattle.std.proofs.Math.ListN.{drop_of_length-le}
use Rattle.std.proofs.Math.Seq.{length-take-le}
use Rattle.rules.specs.Input.{words_of}
use Rattle.rules.specs.WellFormed.{joined}
use Rattle.input.proofs.PartLaws.{word_more}
use Rattle.input.proofs.read_words.Goals as goal

pub loop-i-init : goal.loop-i-init
unfolding words_of joined
loop-i-init c = refl

pub loop-i-preserved : goal.loop-i-preserved
loop-i-preserved c =
    cc (word_more c.args.bytes.now (take c.args.count c.args.words.now) c.loop-i.i c.loop-i-test.true)

pub returns : goal.returns
returns c =
    let bytes = c.args.bytes.now in
    let count = c.args.count in
    let first = take count c.args.words.now in
    let size : length first ≡ count = length-take-le count c.args.words.now c.requires.1 in
    let all : c.loop-i.i ≡ count = omega (arith, size) in
    let none : drop count first ≡ [] = drop_of_length-le first (omega (arith, size)) in
    let read = ap (λ n. words_of n bytes ++ drop n first) all ∙ ap (λ ws. words_of count bytes ++ ws) none in
    (refl, ap (λ ws. ws ++ drop count c.args.words.now) (c.loop-i.invariant ∙ read ∙ append-nil (words_of count bytes)))
