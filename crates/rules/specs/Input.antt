-- "Two programs", the run program and the one that serves: what of its input is what, and what each asks before the first turn,
-- question 25 and then those of a start up to 19.
use Rattle.std.specs.Prelude.{cond, ◌&&◌, List, [], ◌∷◌, ◌≡◌, ℕ, ◌+◌, ◌*◌, ◌/◌, ◌%◌, min, leb, eqb, length, take, drop}
use Rattle.rules.specs.Answers.{Verdict, Accepted, ◌then◌, ask}
use Rattle.rules.specs.Arrivals.{arrival_size}
use Rattle.rules.specs.Process.{process_words, most_processes}
use Rattle.rules.specs.Start.{question18, question19, start_size, started}
use Rattle.rules.specs.Table.{decode, word_at}
use Rattle.rules.specs.WellFormed.{joined, well_formed}

-- "The run program reads a word L, L table bytes": what follows is behind the table.
unfoldable pub table_bytes : List ℕ → List ℕ
table_bytes input = take (word_at input 0) (drop 4 input)

-- where "L, the L table bytes" and so many words behind them end
abbrev pub end_behind : ℕ → List ℕ → ℕ
end_behind words input = 4 + word_at input 0 + 4 * words

-- what stands there, and the word that it begins with
unfoldable pub behind : ℕ → List ℕ → List ℕ
behind words input = drop (end_behind words input) input

abbrev pub word_behind : ℕ → List ℕ → ℕ
word_behind words input = word_at (behind words input) 0

-- so many words of some bytes, the first ones: they are read as those of a table are
unfoldable pub words_of : ℕ → List ℕ → List ℕ
words_of count bytes = joined (λ i. word_at bytes i ∷ []) count

abbrev pub most_input_bytes : ℕ
most_input_bytes = 32768

-- 25: "Run program, before all others: is its input at most 32,768 bytes, with L, the L table bytes and the number of banks all
-- there?" That is one word behind the table. The program that serves has three, and asks for all of them.
abbrev pub question25 : ℕ → List ℕ → Verdict
question25 words input = ask 25 (leb (length input) most_input_bytes && leb (end_behind words input) (length input))

abbrev pub run_behind : ℕ
run_behind = 1

abbrev pub serve_behind : ℕ
serve_behind = 3

-- "reads a word L, L table bytes, a word for the number of banks, start words, then one byte a turn"
pub record RunInput : Type 0 where
  pub table : List ℕ
  pub processes : ℕ
  pub words : List ℕ
  pub turns : List ℕ

-- how many start words a run's input has: those that 19 asks for, or as many whole words as there are. "Start words cut short are
-- 19."
unfoldable pub words_taken : List ℕ → ℕ
words_taken input =
    min (start_size (decode (table_bytes input)) * word_behind 0 input) (length (behind run_behind input) / 4)

unfoldable pub run_input : List ℕ → RunInput
run_input input =
    record {
      table = table_bytes input;
      processes = word_behind 0 input;
      words = words_of (words_taken input) (behind run_behind input);
      turns = drop (4 * words_taken input) (behind run_behind input);
    }

-- "Given the bank served last and a number of turns" (request U4): the two words stand behind the number of banks, then come the
-- start words, and nothing after them.
pub record ServeInput : Type 0 where
  pub table : List ℕ
  pub processes : ℕ
  pub last : ℕ
  pub turns : ℕ
  pub words : List ℕ

-- how many words some bytes are. Bytes that are no whole number of words count as none, and 19 always asks for some.
unfoldable pub words_exactly : List ℕ → ℕ
words_exactly bytes = cond (eqb (length bytes % 4) 0) (length bytes / 4) 0

unfoldable pub serve_input : List ℕ → ServeInput
serve_input input =
    record {
      table = table_bytes input;
      processes = word_behind 0 input;
      last = word_behind 1 input;
      turns = word_behind 2 input;
      words = words_of (words_exactly (behind serve_behind input)) (behind serve_behind input);
    }

-- what is asked of table, number and start words, "Start (2 to 12 first)", with 26 after 12: 18, then 19
unfoldable pub given_verdict : List ℕ → ℕ → List ℕ → Verdict
given_verdict table processes words =
    well_formed table then question18 processes then question19 (decode table) processes words

-- a program's questions, 25 "before all others"
unfoldable pub run_verdict : List ℕ → Verdict
run_verdict input =
    question25 run_behind input
    then given_verdict (run_input input).table (run_input input).processes (run_input input).words

unfoldable pub serve_verdict : List ℕ → Verdict
serve_verdict input =
    question25 serve_behind input
    then given_verdict (serve_input input).table (serve_input input).processes (serve_input input).words

-- state and roll for as many processes as are asked for, or for the most that a team has: what a program lends to its start
pub record Lent (processes : ℕ) (state roll : List ℕ) : Type 0 where
  pub state-sized : length state ≡ process_words * min processes most_processes
  pub roll-sized : length roll ≡ arrival_size * min processes most_processes

-- From 2 on a program's questions are its start's, with the start's answers. So 20 and 21 never refuse it, and where table or
-- number are refused, which start words are lent plays no part.
abbrev pub RunStarts : Type 0
RunStarts =
    (input state roll : List ℕ) → question25 run_behind input ≡ Accepted → Lent (run_input input).processes state roll
    → (started (run_input input).table (run_input input).processes (run_input input).words state roll).answer ≡ run_verdict input

abbrev pub ServeStarts : Type 0
ServeStarts =
    (input state roll : List ℕ) → question25 serve_behind input ≡ Accepted → Lent (serve_input input).processes state roll
    → (started (serve_input input).table (serve_input input).processes (serve_input input).words state roll).answer
    ≡ serve_verdict input

-- 19, "exactly?": a serve is accepted only if what stands behind its three words is as long as the start words, to the byte
abbrev pub ServeExact : Type 0
ServeExact =
    (input : List ℕ) → serve_verdict input ≡ Accepted
    → length (behind serve_behind input) ≡ 4 * (start_size (decode (serve_input input).table) * (serve_input input).processes)
