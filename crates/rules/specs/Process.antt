-- "Steps of a bank": a process's words by named offsets, its stack, and one step of a statement that is no collective.
use Rattle.std.specs.Prelude.{Bool, true, false, cond, not, List, ◌++◌, ℕ, zero, suc, ◌+◌, ◌-◌, ◌*◌, ltb, eqb, get_or, set, take, drop}
use Rattle.rules.specs.Evaluation.{Environment, value, doors, area_slots}
use Rattle.rules.specs.Table.{Program, body, gathered_areas}
use Rattle.rules.specs.Table.{Statement, nothing, assign, sequence, branch, loop, call, latch, collective, leave}
use Rattle.rules.specs.WellFormed.{nearest_loop}

-- "In lent words that is 329: 32, 16, 12, 12, depth, 256 stack places, first entry lowest", and since then "A bank's state is 377
-- words, the rosters standing together where the one stood". Variables stand at 0. The code's constants are held to these names
-- in src/layout.rt.
abbrev pub variable_places : ℕ
variable_places = 32

abbrev pub gathered_places : ℕ
gathered_places = gathered_areas * area_slots

abbrev pub latch_places : ℕ
latch_places = 12

abbrev pub stack_places : ℕ
stack_places = 256

-- each part stands behind the one before
abbrev pub gathered_at : ℕ
gathered_at = variable_places

abbrev pub doors_at : ℕ
doors_at = gathered_at + gathered_places

abbrev pub latches_at : ℕ
latches_at = doors_at + doors

abbrev pub depth_at : ℕ
depth_at = latches_at + latch_places

abbrev pub stack_at : ℕ
stack_at = depth_at + 1

abbrev pub process_words : ℕ
process_words = stack_at + stack_places

-- "1 to 16 banks"
abbrev pub most_processes : ℕ
most_processes = 16

-- the words of process p in the lent state, and the state with other words there
unfoldable pub process_at : List ℕ → ℕ → List ℕ
process_at state p = take process_words (drop (process_words * p) state)

unfoldable pub with_process : List ℕ → ℕ → List ℕ → List ℕ
with_process state p words =
    take (process_words * p) state ++ (words ++ drop process_words (drop (process_words * p) state))

-- the state with `change p` made to the words of each process p below a count, lowest first
unfoldable pub each_process : (ℕ → List ℕ → List ℕ) → ℕ → List ℕ → List ℕ
each_process change zero state = state
each_process change (suc n) state =
    let earlier = each_process change n state in
    with_process earlier n (change n (process_at earlier n))

-- a process's words as an environment
abbrev pub environment : List ℕ → ℕ → ℕ → Environment
environment words own count =
    record {
      variable = λ a. get_or words a 0;
      gathered = λ i. get_or words (gathered_at + i) 0;
      door = λ i. get_or words (doors_at + i) 0;
      own = own;
      count = count;
    }

abbrev pub depth : List ℕ → ℕ
depth words = get_or words depth_at 0

-- the top entry, at stack_at + depth - 1
abbrev pub top : List ℕ → ℕ
top words = get_or words (depth_at + depth words) 0

-- the top entry goes; "Vacated stack places are 0."
abbrev pub popped : List ℕ → List ℕ
popped words = set (set words (depth_at + depth words) 0) depth_at (depth words - 1)

-- the top entry becomes another
abbrev pub replaced : List ℕ → ℕ → List ℕ
replaced words n = set words (depth_at + depth words) n

-- an entry above the top
abbrev pub pushed : List ℕ → ℕ → List ℕ
pushed words n = set (set words (stack_at + depth words) n) depth_at (depth words + 1)

-- "the stack is popped down to and including the highest entry of that while": entries go until the first that is node w has
-- gone, at most so many
unfoldable pub unwound : ℕ → ℕ → List ℕ → List ℕ
unwound w zero words = words
unwound w (suc d) words = cond (eqb (top words) w) (popped words) (unwound w d (popped words))

-- "Kinds 16, 17, 22 do their work and go. 18 becomes A above B. 19 becomes its branch. 20 with a zero condition goes, otherwise
-- its body lies above it. 21 becomes the procedure's body." A latch number "from 12 on nothing is changed". A collective is
-- left to Collective.antt. A leave "ends the nearest while around it".
unfoldable pub advanced : Program → Environment → List ℕ → Statement → List ℕ
advanced program env words nothing = popped words
advanced program env words (assign a b) = popped (set words a (value program env b))
advanced program env words (sequence a b) = pushed (replaced words b) a
advanced program env words (branch a b c) = replaced words (cond (eqb (value program env a) 0) c b)
advanced program env words (loop a b) = cond (eqb (value program env a) 0) (popped words) (pushed words b)
advanced program env words (call p) = replaced words (body program p)
advanced program env words (latch a b) =
    popped
    (cond (ltb (value program env a) latch_places) (set words (latches_at + value program env a) (value program env b)) words)
advanced program env words (collective k) = words
advanced program env words leave = unwound (nearest_loop program (top words)) (depth words) words

-- 24's "if one is needed": kind 18, and kind 20 with a condition that is not zero
unfoldable pub needs_place : Program → Environment → Statement → Bool
needs_place program env nothing = false
needs_place program env (assign a b) = false
needs_place program env (sequence a b) = true
needs_place program env (branch a b c) = false
needs_place program env (loop a b) = not (eqb (value program env a) 0)
needs_place program env (call p) = false
needs_place program env (latch a b) = false
needs_place program env (collective k) = false
needs_place program env leave = false
