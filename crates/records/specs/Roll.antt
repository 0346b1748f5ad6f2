-- The roll as records and as words: four words a record, as in rules; and the words that a call lends the core.
use Rattle.std.specs.Prelude.{List, [], ◌∷◌, ◌++◌, ℕ, zero, suc, ◌+◌, ◌-◌, ◌*◌, min, set, take, replicate}
use Rattle.rules.specs.declared.Arrival.{Arrival}
use Rattle.rules.specs.Arrivals.{arrival_size, arrival_words, running_record}
use Rattle.rules.specs.Process.{most_processes}
use Rattle.collectives.specs.Given.{arrival_at}

-- the words of a roll of records
unfoldable pub roll_words : List Arrival → List ℕ
roll_words [] = []
roll_words (arrival ∷ roll) = arrival_words arrival ++ roll_words roll

-- Of a roll of too many records, one more than the most is lent to the core, which refuses their number as it would any other.
abbrev pub most_lent : ℕ
most_lent = most_processes + 1

abbrev pub lent_words : ℕ
lent_words = arrival_size * most_lent

abbrev pub lent_records : ℕ → ℕ
lent_records records = min records most_lent

-- the words lent: of the first `count` records, and of records at rest up to the most
unfoldable pub loaded : List Arrival → ℕ → List ℕ
loaded roll count = roll_words (take count roll ++ replicate (most_lent - count) running_record)

-- the roll after a call, whose first records are read from the words lent
unfoldable pub saved : List ℕ → ℕ → List Arrival → List Arrival
saved words zero roll = roll
saved words (suc p) roll = set (saved words p roll) p (arrival_at words p)
