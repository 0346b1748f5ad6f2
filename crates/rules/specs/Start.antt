-- A start: questions 2 to 12, 26 and 18 to 21, the words that it lays out, and the view of a process's latches.
use Rattle.std.specs.Prelude.{cond, ◌&&◌, List, [], ◌∷◌, ◌++◌, ℕ, ◌+◌, ◌-◌, ◌*◌, ◌/◌, ◌%◌, leb, ltb, eqb, length, take, drop, replicate}
use Rattle.std.specs.Prelude.{Ok, Err}
use Rattle.rules.specs.Answers.{Verdict, Accepted, ◌then◌, ask}
use Rattle.rules.specs.Arrivals.{arrival_size, running_record, each_arrival}
use Rattle.rules.specs.Evaluation.{doors}
use Rattle.rules.specs.Process.{variable_places, gathered_places, latch_places, stack_places, latches_at, process_words, most_processes, each_process}
use Rattle.rules.specs.Table.{Program, decode, variables, main_body}
use Rattle.rules.specs.WellFormed.{well_formed}

-- 18: "1 to 16 banks?"
abbrev pub question18 : ℕ → Verdict
question18 count = ask 18 (leb 1 count && leb count most_processes)

-- the start words of one process: "V variables then 12 doors a bank"
unfoldable pub start_size : Program → ℕ
start_size program = variables program + doors

-- 19: "Start words, V variables then 12 doors a bank, exactly?"
abbrev pub question19 : Program → ℕ → List ℕ → Verdict
question19 program count words = ask 19 (eqb (length words) (start_size program * count))

-- 20: "State exactly 329 words a bank?", by now 377
abbrev pub question20 : ℕ → List ℕ → Verdict
question20 count state = ask 20 (eqb (length state) (process_words * count))

-- 21: "Roll one record a bank, 1 to 16?"
abbrev pub question21 : ℕ → List ℕ → Verdict
question21 count roll = ask 21 (eqb (length roll) (arrival_size * count) && leb 1 count && leb count most_processes)

-- the questions of a start, in order
unfoldable pub start_verdict : List ℕ → ℕ → List ℕ → List ℕ → List ℕ → Verdict
start_verdict table count words state roll =
    well_formed table
    then question18 count
    then question19 (decode table) count words
    then question20 count state
    then question21 count roll

-- the start words of process p
unfoldable pub start_words : Program → List ℕ → ℕ → List ℕ
start_words program words p = take (start_size program) (drop (start_size program * p) words)

-- "At start the stack holds the main body; variables and doors are as given; all else is 0."
unfoldable pub start_process : Program → List ℕ → List ℕ
start_process program words =
    take (variables program) words
    ++ (replicate (variable_places - variables program) 0
    ++ (replicate gathered_places 0
    ++ (drop (variables program) words
    ++ (replicate latch_places 0
    ++ (1 ∷ main_body program ∷ replicate (stack_places - 1) 0)))))

unfoldable pub start_state : Program → ℕ → List ℕ → List ℕ → List ℕ
start_state program count words state = each_process (λ p earlier. start_process program (start_words program words p)) count state

-- "Every record of the roll is then running."
unfoldable pub start_roll : ℕ → List ℕ → List ℕ
start_roll count roll = each_arrival (λ p. running_record) count roll

-- a start's answer, and state and roll after it: "A refusal leaves state, roll and any lent output unchanged."
pub record Started : Type 0 where
  pub answer : Verdict
  pub state : List ℕ
  pub roll : List ℕ

unfoldable pub started_by : Verdict → Program → ℕ → List ℕ → List ℕ → List ℕ → Started
started_by (Ok _) program count words state roll =
    record { answer = Accepted; state = start_state program count words state; roll = start_roll count roll }
started_by (Err r) program count words state roll = record { answer = Err r; state = state; roll = roll }

unfoldable pub started : List ℕ → ℕ → List ℕ → List ℕ → List ℕ → Started
started table count words state roll =
    started_by (start_verdict table count words state roll) (decode table) count words state roll

-- "A host sees a bank's latches as the part of the lent state that holds them. For a bank the state lacks, or a state whose
-- length is not a multiple of 329", by now of 377, "that part is empty."
unfoldable pub latches_of : List ℕ → ℕ → List ℕ
latches_of state p =
    cond (eqb (length state % process_words) 0 && ltb p (length state / process_words))
    (take latch_places (drop (process_words * p + latches_at) state))
    []
