-- The cases that the paper marks to be proved of the rules, and one or two of each request, one table of theorems, each by
-- computation from the words of a table. The crate cases has more.
use Rattle.std.specs.Prelude.{List, [], ◌∷◌, ◌++◌, ◌≡◌, refl, ℕ, ◌+◌, ◌-◌, ◌*◌, ◌/◌, ◌%◌, ◌^◌, get_or, replicate, set, take, Ok}
use Rattle.rules.specs.declared.Event.{Event}
use Rattle.rules.specs.declared.Event.TheVariants.{Moved, Finished, Arrived, Completed}
use Rattle.rules.specs.Answers.{Verdict, Stepped, Accepted, refused}
use Rattle.rules.specs.declared.TeamStatus.{TeamStatus}
use Rattle.rules.specs.declared.TeamStatus.TheVariants.{Going, Done, Deadlocked}
use Rattle.rules.specs.Acceptance
use Rattle.rules.specs.Acceptance.{scratch_words, checked}
use Rattle.rules.specs.Arrivals
use Rattle.rules.specs.Arrivals.{arrival_size}
use Rattle.rules.specs.Below
use Rattle.rules.specs.Choice
use Rattle.rules.specs.Collective
use Rattle.rules.specs.Evaluation
use Rattle.rules.specs.Evaluation.{Environment, value}
use Rattle.rules.specs.Judgement
use Rattle.rules.specs.Process
use Rattle.rules.specs.Process.{depth_at, stack_places, process_words, process_at}
use Rattle.rules.specs.Run
use Rattle.rules.specs.Run.{Team, answers, after_turns, start_team}
use Rattle.rules.specs.Scheduling
use Rattle.rules.specs.Scheduling.{served, chosen_in}
use Rattle.rules.specs.Start
use Rattle.rules.specs.Step
use Rattle.rules.specs.Step.{step_verdict}
use Rattle.rules.specs.Table
use Rattle.rules.specs.WellFormed
use Rattle.rules.specs.Table.{decode}

-- the bytes of a table's words
unfoldable pub bytes : List ℕ → List ℕ
bytes [] = []
bytes (w ∷ words) = w / 2 ^ 24 ∷ (w / 2 ^ 16 % 256) ∷ (w / 2 ^ 8 % 256) ∷ (w % 256) ∷ bytes words

-- the checker's answer on a table's words, with scratch enough
unfoldable pub verdict : List ℕ → Verdict
verdict words = checked (bytes words) (replicate scratch_words 0)

-- the team after a start of `count` processes on zeroed words, and the answers to a list of turns
unfoldable pub start_on : List ℕ → ℕ → List ℕ → Team
start_on words count start =
    start_team (bytes words) count start (replicate (process_words * count) 0) (replicate (arrival_size * count) 0)

unfoldable pub run : List ℕ → ℕ → List ℕ → List ℕ → List Stepped
run words count start turns = answers (bytes words) (start_on words count start) turns

unfoldable pub answer : Event → TeamStatus → Stepped
answer event team = Ok (record { event = event; team = team })

-- "Words of a table", and the questions whether it is well formed
unfoldable pub table-opened : ℕ
unfolding Choice.first_failing Choice.all_below Below.below Below.at_node Table.word_at Table.edition Table.procedure_word
    Table.unpacked Table.decode Table.variables Table.procedures Table.nodes Table.flagged Table.body Table.effect_flag
    Table.node_at Table.main_body Table.expression_of Table.statement_of Table.expression_at Table.statement_at
    WellFormed.header_fits WellFormed.procedure_fits WellFormed.is_expression WellFormed.is_statement WellFormed.kind_known
    WellFormed.named_fields WellFormed.unnamed_zero WellFormed.expression_part WellFormed.statement_part WellFormed.expression_fits
    WellFormed.statement_fits WellFormed.node_fits WellFormed.expression_parts WellFormed.statement_parts WellFormed.parts_at
    WellFormed.joined WellFormed.uses WellFormed.occurrences WellFormed.used_once WellFormed.some_of WellFormed.anywhere
    WellFormed.called_below WellFormed.open_parts WellFormed.loop_around WellFormed.nearest_loop WellFormed.leave_enclosed
    WellFormed.well_built WellFormed.well_formed
table-opened = 0

-- "Single values and effects", and what the checker judges by them
unfoldable pub judgement_opened : ℕ
unfolding Judgement.single_of Judgement.single Judgement.both_fixed Judgement.fixing_of Judgement.fixing Judgement.never_taken
    Judgement.dead_in Judgement.live Judgement.counted Judgement.effect_of Judgement.effect Judgement.holds_leave
    Judgement.local_if Judgement.left_locally Acceptance.rule_of Acceptance.body_flagged Acceptance.judged_by Acceptance.checked
    Acceptance.checked_scratch
judgement_opened = 0

-- "Steps of a bank", of one process and of a team
unfoldable pub process_opened : ℕ
unfolding Evaluation.applied Evaluation.value_of Evaluation.value Process.process_at Process.with_process Process.each_process
    Process.unwound Process.advanced Process.needs_place Arrivals.with_arrival Arrivals.each_arrival Arrivals.team_status
    Arrivals.all_at_one_node Collective.arrival_of Collective.gathered_from Collective.received Collective.completed_state
    Collective.released_roll Start.start_size Start.start_verdict Start.start_words Start.start_process Start.start_state
    Start.start_roll Start.started_by Start.started Start.latches_of Step.processes_in Step.stack_fits Step.fields_zero
    Step.lacked_zero Step.wait_fits Step.leave_fits Step.record_fits Step.process_fits Step.place_lacked Step.team_verdict
    Step.step_verdict Step.moved Step.completed Step.arrived_at Step.step_running Step.step_taken Step.stepped_by Step.stepped
process_opened = 0

-- runs, and turns shared
unfoldable pub run-opened : ℕ
unfolding Run.after_turns Run.answers Run.collectives Scheduling.passed_over Scheduling.next_process Scheduling.serving
    Scheduling.served_by Scheduling.served Scheduling.chosen Scheduling.chosen_by Scheduling.chosen_in
run-opened = 0

-- all of them, and the names above, so that a case computes
unfoldable pub opened : ℕ
unfolding bytes verdict start_on run answer table-opened judgement_opened process_opened run-opened
opened = 0

-- T1: if own number then barrier else nothing
unfoldable pub t1 : List ℕ
t1 = 0x10420400 ∷ 0x00000000 ∷ 0x03800000 ∷ 0x10000000 ∷ 0xB8000000 ∷ 0x80000000 ∷ 0x98000202 ∷ []

-- T2: T1 with the number of processes as its condition
unfoldable pub t2 : List ℕ
t2 = set t1 3 0x18000000

-- the start words of a process with one variable, all 0
unfoldable pub zeros : ℕ → List ℕ
zeros count = replicate (13 * count) 0

-- the checker

t1-refused : verdict t1 ≡ refused 15 3
unfolding opened t1
t1-refused = refl

t2-accepted : verdict t2 ≡ Accepted
unfolding opened t1 t2
t2-accepted = refl

t1-unflagged : verdict (set t1 2 0x03000000) ≡ refused 15 3
unfolding opened t1
t1-unflagged = refl

t1-cut : verdict (take 6 t1) ≡ refused 4 0
unfolding opened t1
t1-cut = refl

t1_shared_node : verdict (set t1 6 0x98000201) ≡ refused 11 1
unfolding opened t1
t1_shared_node = refl

t1_no_variables : verdict (set t1 0 0x10020400) ≡ refused 3 0
unfolding opened t1
t1_no_variables = refl

-- runs

t1_on_two : run t1 2 (zeros 2) (0 ∷ 0 ∷ 1 ∷ 1 ∷ [])
    ≡ answer Moved Going ∷ answer Finished Going ∷ answer Moved Going ∷ answer (Arrived 1) Deadlocked ∷ []
unfolding opened zeros t1
t1_on_two = refl

t2_on_one : run t2 1 (zeros 1) (0 ∷ 0 ∷ []) ≡ answer Moved Going ∷ answer (Completed 1) Done ∷ []
unfolding opened zeros t1 t2
t2_on_one = refl

t2_on_two : run t2 2 (zeros 2) (0 ∷ 0 ∷ 1 ∷ 1 ∷ [])
    ≡ answer Moved Going ∷ answer (Arrived 1) Going ∷ answer Moved Going ∷ answer (Completed 1) Done ∷ []
unfolding opened zeros t1 t2
t2_on_two = refl

-- "and, asked last, are not all banks waiting at one node (place 0)?": a made-up state of one process that waits at the barrier
all_waiting_refused : step_verdict (bytes t2) (replicate depth_at 0 ++ 1 ∷ 1 ∷ replicate (stack_places - 1) 0) (1 ∷ 1 ∷ 0 ∷ 0 ∷ []) 0
    ≡ refused 23 0
unfolding opened t1 t2
all_waiting_refused = refl

-- values: an environment whose doors 11 and 12 both hold 7 if read

-- node 0 is the constant k, node 1 the door of that number
unfoldable pub door-table : ℕ → List ℕ
door-table k = 0x10420400 ∷ 0 ∷ 0x03800000 ∷ k ∷ 0x20000000 ∷ []

unfoldable pub sevens : Environment
sevens = record { variable = λ a. 7; gathered = λ i. 7; door = λ i. 7; own = 0; count = 1 }

door_11 : value (decode (bytes (door-table 11))) sevens 1 ≡ 7
unfolding opened door-table sevens
door_11 = refl

door_12 : value (decode (bytes (door-table 12))) sevens 1 ≡ 0
unfolding opened door-table sevens
door_12 = refl

-- node 2 is 9 divided by 0
unfoldable pub division_table : List ℕ
division_table = 0x10420400 ∷ 0 ∷ 0x03800000 ∷ 9 ∷ 0 ∷ 0x48000200 ∷ []

divisor_0 : value (decode (bytes division_table)) sevens 2 ≡ 0
unfolding opened division_table sevens
divisor_0 = refl

-- leaves: "ends the nearest while around it in the same procedure"

-- while 1, leave; then a leave, which has no while around it
unfoldable pub loose_leave : List ℕ
loose_leave =
    0x10420500 ∷ 0 ∷ 0x04000000
    ∷ 0x00000001 ∷ 0xD0000000 ∷ 0xA0000200 ∷ 0xD0000000 ∷ 0x90080600 ∷ []

loose_leave_refused : verdict loose_leave ≡ refused 26 3
unfolding opened loose_leave
loose_leave_refused = refl

-- while 1: if own door 0 then leave else nothing; then a barrier
unfoldable pub stocktake : List ℕ
stocktake =
    0x10420900 ∷ 0 ∷ 0x08800000
    ∷ 0x00000001 ∷ 0x00000000 ∷ 0x20040000 ∷ 0xD0000000 ∷ 0x80000000 ∷ 0x98080604 ∷ 0xB8000000 ∷ 0x90140C00 ∷ 0xA0000E00 ∷ []

-- "Such a loop may hold no global effect."
stocktake-refused : verdict stocktake ≡ refused 16 8
unfolding opened stocktake
stocktake-refused = refl

-- absent senders

-- a broadcast of the own door 0 into variable 0, from the process that variable 0 numbers
unfoldable pub broadcast-table : List ℕ
broadcast-table = 0x10420400 ∷ 0 ∷ 0x03800000 ∷ 0 ∷ 0x20000000 ∷ 0x08000000 ∷ 0xC0000202 ∷ []

-- variable 0 of two processes after it, whose sources are given and whose doors hold 7 and 9
unfoldable pub sent : ℕ → ℕ → List ℕ
sent source other =
    let start = start_on broadcast-table 2 (source ∷ replicate 12 7 ++ (other ∷ replicate 12 9)) in
    let state = (after_turns (bytes broadcast-table) start (0 ∷ 1 ∷ [])).state in
    get_or (process_at state 0) 0 0 ∷ get_or (process_at state 1) 0 0 ∷ []

source_absent_for_one : sent 1 2 ≡ 9 ∷ 0 ∷ []
unfolding opened broadcast-table sent
source_absent_for_one = refl

-- turns shared: made, last and answer of a call right after a start on two processes, and the order that it chooses

unfoldable pub serve : List ℕ → ℕ → ℕ → ℕ × (ℕ × Verdict)
serve words last turns =
    let team = start_on words 2 (zeros 2) in
    let end = served (bytes words) team.state team.roll last turns in
    (end.made, (end.last, end.answer))

unfoldable pub order : List ℕ → ℕ → ℕ → List ℕ
order words last turns = chosen_in (bytes words) (start_on words 2 (zeros 2)) last turns

serve-many : serve t2 0 9 ≡ (4, (0, Accepted))
unfolding opened zeros t1 t2 serve
serve-many = refl

serve-order : order t2 1 9 ≡ 0 ∷ 1 ∷ 0 ∷ 1 ∷ []
unfolding opened zeros t1 t2 order
serve-order = refl

-- scratch

-- "The scratch is 32 words .. in number 1 and in what is zeroed": 1 is asked first, of a table that 4 would refuse; such a call
-- leaves the words
short_scratch : checked (bytes (take 6 t1)) (replicate 31 7) ≡ refused 1 0
unfolding opened t1
short_scratch = refl

-- rosters

-- rosters: an exchange of the own number into one, and variable 0 takes slot 1 of another
unfoldable pub rosters : ℕ → ℕ → List ℕ
rosters filled read =
    0x10420600 ∷ 0x80000000 ∷ 0x05800000
    ∷ 0x10000000 ∷ (0xC8000000 + filled * 2 ^ 9) ∷ 1 ∷ (0x28080000 + read * 2 ^ 9) ∷ 0x88000600 ∷ 0x90040800 ∷ []

exchange_above_3 : verdict (rosters 4 0) ≡ refused 9 1
unfolding opened rosters
exchange_above_3 = refl

-- variable 0 of the first of two processes after it, and slot 1 of each of its rosters
unfoldable pub gathered-by : List ℕ → List ℕ
gathered-by words =
    let state = (after_turns (bytes words) (start_on words 2 (zeros 2)) (0 ∷ 0 ∷ 1 ∷ 1 ∷ 0 ∷ [])).state in
    get_or state 0 0 ∷ get_or state 33 0 ∷ get_or state 49 0 ∷ get_or state 65 0 ∷ get_or state 81 0 ∷ []

roster_named : gathered-by (rosters 2 2) ≡ 1 ∷ 0 ∷ 0 ∷ 1 ∷ 0 ∷ []
unfolding opened zeros rosters gathered-by
roster_named = refl

-- switches: "Of an if with a fixed condition only the branch that will be taken is put to questions 13 to 16"

-- if 0 then (if own number then barrier else nothing) else nothing
unfoldable pub switched_off : List ℕ
switched_off =
    0x10420700 ∷ 0 ∷ 0x06000000
    ∷ 0x00000000 ∷ 0x10000000 ∷ 0xB8000000 ∷ 0x80000000 ∷ 0x98040403 ∷ 0x80000000 ∷ 0x98000805 ∷ []

switched_off_accepted : verdict switched_off ≡ Accepted
unfolding opened switched_off
switched_off_accepted = refl

-- "26 is still put to both": if 0 then leave else nothing
unfoldable pub dead-leave : List ℕ
dead-leave = 0x10420400 ∷ 0 ∷ 0x03000000 ∷ 0x00000000 ∷ 0xD0000000 ∷ 0x80000000 ∷ 0x98000202 ∷ []

dead_leave_refused : verdict dead-leave ≡ refused 26 1
unfolding opened dead-leave
dead_leave_refused = refl
