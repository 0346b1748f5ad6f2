-- What runs do, and steps of made-up states.
use Rattle.std.specs.Prelude.{List, [], ◌∷◌, ◌++◌, ◌≡◌, refl, ℕ, ◌-◌, replicate, set, take, drop, Err}
use Rattle.rules.specs.declared.Event.TheVariants.{Moved, Finished, Arrived, Waiting, Ended}
use Rattle.rules.specs.Answers.{Accepted, refused}
use Rattle.rules.specs.declared.TeamStatus.TheVariants.{Going, Done, Deadlocked}
use Rattle.rules.specs.Cases.{opened, bytes, verdict, start_on, run, answer, t1, zeros}
use Rattle.rules.specs.Cases.{broadcast-table, sent, rosters, gathered-by, stocktake}
use Rattle.rules.specs.Order.{worked_turns}
use Rattle.rules.specs.Process.{depth_at, stack_at, stack_places}
use Rattle.rules.specs.Run.{Team, after_turns}
use Rattle.rules.specs.Step.{step_verdict, stepped}

-- if own number then barrier else another barrier: the barriers are matched by node and not by kind
two-barriers : List ℕ
two-barriers = set t1 5 0xB8000000

two_barriers_deadlocked : run two-barriers 2 (zeros 2) (0 ∷ 0 ∷ 1 ∷ 1 ∷ [])
    ≡ answer Moved Going ∷ answer (Arrived 2) Going ∷ answer Moved Going ∷ answer (Arrived 1) Deadlocked ∷ []
unfolding opened zeros t1 two-barriers
two_barriers_deadlocked = refl

-- T1, which the checker refuses, in another order than the paper's, with idle turns and one that is refused: the site is crossed
-- again, though another bank's turn says so, and bank 1 has again made two turns that were not idle
other-turns : List ℕ
other-turns = 1 ∷ 1 ∷ 1 ∷ 0 ∷ 9 ∷ 0 ∷ 0 ∷ []

t1_in_another_order : run t1 2 (zeros 2) other-turns
    ≡ answer Moved Going ∷ answer (Arrived 1) Going ∷ answer Waiting Going ∷ answer Moved Going
    ∷ Err (record { number = 22; place = 9 }) ∷ answer Finished Deadlocked ∷ answer Ended Deadlocked ∷ []
unfolding opened zeros t1 other-turns
t1_in_another_order = refl

t1_turns_counted : worked_turns 1 other-turns (run t1 2 (zeros 2) other-turns) ≡ 2
unfolding opened zeros t1 other-turns worked_turns
t1_turns_counted = refl

-- each process uses its own source, and so gets its own value
own_sources : sent 0 1 ≡ 7 ∷ 9 ∷ []
unfolding opened broadcast-table sent
own_sources = refl

-- "a source number at or above the number of banks gives every bank that names it zero": where both name it, and where one does
source_at_count : sent 2 2 ≡ 0 ∷ 0 ∷ []
unfolding opened broadcast-table sent
source_at_count = refl

source_above_count : sent 3 3 ≡ 0 ∷ 0 ∷ []
unfolding opened broadcast-table sent
source_above_count = refl

roster_not_named : gathered-by (rosters 3 1) ≡ 0 ∷ 0 ∷ 0 ∷ 0 ∷ 1 ∷ []
unfolding opened zeros rosters gathered-by
roster_not_named = refl

-- "Older tables have B zero and mean roster 0."
older_table : gathered-by (rosters 0 0) ≡ 1 ∷ 1 ∷ 0 ∷ 0 ∷ 0 ∷ []
unfolding opened zeros rosters gathered-by
older_table = refl

-- the same with nothing in the barrier's place
unfoldable pub search_loop : List ℕ
search_loop = set stocktake 9 0x80000000

search_loop_accepted : verdict search_loop ≡ Accepted
unfolding opened stocktake search_loop
search_loop_accepted = refl

-- one process whose door 0 holds 1
open_door : List ℕ
open_door = 0 ∷ 1 ∷ replicate 11 0

search_run : run search_loop 1 open_door (0 ∷ 0 ∷ 0 ∷ 0 ∷ [])
    ≡ answer Moved Going ∷ answer Moved Going ∷ answer Moved Going ∷ answer Finished Done ∷ []
unfolding opened stocktake search_loop open_door
search_run = refl

-- the team of that process after so many turns, and of a state the depth and the lowest stack places
searching : List ℕ → Team
searching turns = after_turns (bytes search_loop) (start_on search_loop 1 open_door) turns

stack_of : List ℕ → List ℕ
stack_of state = take 5 (drop depth_at state)

-- the leave, 3, lies above the rest of the body, 6, and the while, 8
leave_on_top : stack_of (searching (0 ∷ 0 ∷ 0 ∷ [])).state ≡ 3 ∷ 8 ∷ 6 ∷ 3 ∷ 0 ∷ []
unfolding opened stocktake search_loop open_door searching stack_of
leave_on_top = refl

-- "the stack is popped down to and including the highest entry of that while"
leave-taken : stack_of (searching (0 ∷ 0 ∷ 0 ∷ 0 ∷ [])).state ≡ 0 ∷ 0 ∷ 0 ∷ 0 ∷ 0 ∷ []
unfolding opened stocktake search_loop open_door searching stack_of
leave-taken = refl

-- the highest, in a made-up stack that has the while twice
twice : List ℕ
twice = take depth_at (searching (0 ∷ 0 ∷ 0 ∷ [])).state ++ 4 ∷ 8 ∷ 8 ∷ 6 ∷ 3 ∷ replicate (stack_places - 4) 0

leave_highest : stack_of (stepped (bytes search_loop) twice (searching []).roll 0).state ≡ 1 ∷ 8 ∷ 0 ∷ 0 ∷ 0 ∷ []
unfolding opened stocktake search_loop open_door searching stack_of twice
leave_highest = refl

-- "A made-up stack with a leave on top and that while not below is number 23."
leave_unfounded : step_verdict (bytes search_loop) (set (searching (0 ∷ 0 ∷ 0 ∷ [])).state stack_at 4) (searching []).roll 0
    ≡ refused 23 0
unfolding opened stocktake search_loop open_door searching
leave_unfounded = refl
