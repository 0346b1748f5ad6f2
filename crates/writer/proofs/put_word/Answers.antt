-- `put_word` meets its contract: the four bytes that the library makes of a word are the word's.
use Rattle.std.proofs.Common.{◌≡◌, ◌∙◌, ap, ℕ, ◌+◌, ◌*◌, ◌-◌, ◌/◌, ◌^◌, ◌<◌, arith, w32}
use Rattle.std.proofs.Math.Nat.{mod-eq_of_lt}
use Rattle.std.specs.Int.{to_be_bytes}
use Rattle.std.proofs.lemmas.List.Edits.{sets}
use Rattle.rules.specs.Encoding.{word_bytes}
use Rattle.writer.proofs.WordLaws.{put_sets}
use Rattle.writer.proofs.put_word.Goals as goal

bytes_of_word : (w : ℕ) → w < 2 ^ 32 → to_be_bytes w32 w ≡ word_bytes w
unfolding word_bytes
bytes_of_word w l =
    let high : w / 16777216 < 256 = omega arith in
    simp (mod-eq_of_lt high)

pub returns : goal.returns
returns c =
    let at = 4 * c.args.i in
    let four : at + 4 - at ≡ 4 = omega arith in
    let put = c.copy_from_slice.new.self in
    let written : put ≡ word_bytes c.args.word
    = c.copy_from_slice.ensures.after ∙ c.to_be_bytes.ensures ∙ bytes_of_word c.args.word c.ranges.word.fits in
    rw (four, put_sets at 4 c.args.out.now put (simp (c.copy_from_slice.ensures.after, c.to_be_bytes.ensures)) (omega arith))
    (ap (sets c.args.out.now at) written)
