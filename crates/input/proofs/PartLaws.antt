-- Words read one by one.
use mathlib.Core.List.{List, ◌++◌}
use mathlib.Core.Path.{◌≡◌, sym, ◌∙◌}
use Prim.Native.Nat.{ℕ, suc, ◌+◌, ◌<◌}
use native.Mathlib.Numerals.{add-one}
use lib.ListN.{length, take, drop, set, get_or}
use lib.Seq.{drop-cons, set_at, take_at, append_snoc}
use Rattle.rules.proofs.InputLaws.{words-length}
use Rattle.rules.specs.Input.{words_of}
use Rattle.rules.specs.Table.{word_at}
use Rattle.rules.specs.WellFormed.{joined}

pub word_more : (bytes words : List ℕ) (i : ℕ) → i < length words
    → set (words_of i bytes ++ drop i words) i (word_at bytes i) ≡ words_of (i + 1) bytes ++ drop (i + 1) words
unfolding words_of joined
word_more bytes words i h =
    rw (add-one, drop-cons words i 0 h)
    (set_at (words_of i bytes) (get_or words i 0) (drop (suc i) words) (word_at bytes i) i (words-length i bytes)
    ∙ sym (append_snoc (words_of i bytes) (word_at bytes i) (drop (suc i) words)))

-- words read into the front of a place
pub words-front : (given behind read : List ℕ) (n : ℕ) → read ≡ words_of n given ++ behind → take n read ≡ words_of n given
words-front given behind read n e = rw e (take_at (words_of n given) behind n (words-length n given))
