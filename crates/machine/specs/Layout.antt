-- What a start lays out, word by word, and how it answers.
use Rattle.std.specs.Prelude.{cond, List, ◌≡◌, ℕ, ◌+◌, ◌-◌, ◌*◌, ◌≤◌, ltb, eqb, length, get_or}
use Rattle.rules.specs.Answers.{Verdict, Accepted}
use Rattle.rules.specs.Process.{doors_at, latches_at, depth_at, stack_at, process_words, most_processes}
use Rattle.rules.specs.Start.{Started, start_size}
use Rattle.rules.specs.WellFormed.{well_formed}
use Rattle.rules.specs.Table.{decode}

-- word i of a process whose start words are `given`: `variables` of them, then the doors
abbrev pub laid_word : ℕ → ℕ → List ℕ → ℕ → ℕ
laid_word variables entry given i =
    cond (ltb i variables) (get_or given i 0)
    (cond (ltb i doors_at) 0
    (cond (ltb i latches_at) (get_or given (variables + (i - doors_at)) 0)
    (cond (eqb i depth_at) 1 (cond (eqb i stack_at) entry 0))))

-- what questions 2 to 12, 26 and 18 to 20 say
pub record Startable (table : List ℕ) (count : ℕ) (words state : List ℕ) : Type 0 where
  pub well-formed : well_formed table ≡ Accepted
  pub some : 1 ≤ count
  pub few : count ≤ most_processes
  pub worded : length words ≡ start_size (decode table) * count
  pub stated : length state ≡ process_words * count

-- an answer, and the state and the roll afterwards, are a start's
pub record Starts (outcome : Started) (answer : Verdict) (state roll : List ℕ) : Type 0 where
  pub answered : answer ≡ outcome.answer
  pub left : state ≡ outcome.state
  pub written : roll ≡ outcome.roll
