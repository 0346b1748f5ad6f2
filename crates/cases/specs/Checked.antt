-- What the checker answers.
use Rattle.std.specs.Prelude.{List, [], ◌∷◌, ◌++◌, ◌≡◌, refl, ℕ, zero, suc, ◌+◌, ◌*◌, ◌^◌, replicate, set}
use Rattle.rules.specs.Answers.{Accepted, refused}
use Rattle.rules.specs.Acceptance.{checked, checked_scratch}
use Rattle.rules.specs.Cases.{opened, bytes, verdict, t1, t2, rosters, stocktake, switched_off}
use Rattle.rules.specs.Judgement.{fixing, fixed, unfixed}
use Rattle.rules.specs.Table.{decode}

short_scratch_left : checked_scratch (replicate 31 7) ≡ replicate 31 7
unfolding opened
short_scratch_left = refl

-- 32 words are enough, whatever they hold
full_scratch : checked (bytes t2) (replicate 32 7) ≡ Accepted
unfolding opened t1 t2
full_scratch = refl

-- later words keep their contents
long_scratch_left : checked_scratch (replicate 34 7) ≡ replicate 32 0 ++ 7 ∷ 7 ∷ []
unfolding opened
long_scratch_left = refl

-- a call of a flagged procedure whose body is nothing, under a local condition: the flag decides
flagged-call : List ℕ
flagged-call =
    0x10440500 ∷ 0 ∷ 0x00800000 ∷ 0x04800000
    ∷ 0x80000000 ∷ 0x10000000 ∷ 0xA8000000 ∷ 0x80000000 ∷ 0x98040403 ∷ []

flagged_call_refused : verdict flagged-call ≡ refused 15 4
unfolding opened flagged-call
flagged_call_refused = refl

-- a single variable that takes a constant, under a local condition
single_under_local : List ℕ
single_under_local =
    0x10420500 ∷ 0x80000000 ∷ 0x04800000
    ∷ 0x10000000 ∷ 0x00000001 ∷ 0x88000200 ∷ 0x80000000 ∷ 0x98000403 ∷ []

single_under_local_refused : verdict single_under_local ≡ refused 15 4
unfolding opened single_under_local
single_under_local_refused = refl

-- an exchange and 127 barriers in sequence: 256 nodes
unfoldable pub barriers : ℕ → List ℕ
barriers zero = []
barriers (suc k) = barriers k ++ (0xB8000000 ∷ (0x90000000 + (2 * k + 1) * 2 ^ 18 + (2 * k + 2) * 2 ^ 9) ∷ [])

full_table : List ℕ
full_table = 0x10430000 ∷ 0 ∷ 0xFF800000 ∷ 0x18000000 ∷ 0xC8000000 ∷ barriers 127

full_table_accepted : verdict full_table ≡ Accepted
unfolding opened barriers full_table
full_table_accepted = refl

-- "Kinds 5 and 25 name one in field B, 0 to 3; above 3 is number 9": at its node
rosters-accepted : verdict (rosters 3 2) ≡ Accepted
unfolding opened rosters
rosters-accepted = refl

slot_above_3 : verdict (rosters 0 4) ≡ refused 9 3
unfolding opened rosters
slot_above_3 = refl

-- left under a single condition, slot 0 of the roster, it may
stocktake-single : verdict (set stocktake 5 0x28040000) ≡ Accepted
unfolding opened stocktake
stocktake-single = refl

-- switches

-- with 1 for 0 the barrier's branch will be taken
switched_on_refused : verdict (set switched_off 3 0x00000001) ≡ refused 15 4
unfolding opened switched_off
switched_on_refused = refl

-- the number of banks is single and not fixed
bank_switch_refused : verdict (set switched_off 3 0x18000000) ≡ refused 15 4
unfolding opened switched_off
bank_switch_refused = refl

bank_switch_unfixed : fixing (decode (bytes (set switched_off 3 0x18000000))) 0 ≡ unfixed
unfolding opened switched_off
bank_switch_unfixed = refl

-- the other branch of a switch that is on: if 9 divided by 0 equals 0 then nothing else (as above)
worked_out : List ℕ
worked_out =
    0x10420B00 ∷ 0 ∷ 0x0A000000
    ∷ 0x00000009 ∷ 0x00000000 ∷ 0x48000200 ∷ 0x00000000 ∷ 0x58080600
    ∷ 0x10000000 ∷ 0xB8000000 ∷ 0x80000000 ∷ 0x98140C07 ∷ 0x80000000 ∷ 0x98101208 ∷ []

worked_out_fixed : fixing (decode (bytes worked_out)) 4 ≡ fixed 1
unfolding opened worked_out
worked_out_fixed = refl

worked_out_accepted : verdict worked_out ≡ Accepted
unfolding opened worked_out
worked_out_accepted = refl

-- "counted for effects": if 0 then (variable 0, which is single, takes the own number) else nothing, in a procedure without flag
dead_assignment : List ℕ
dead_assignment =
    0x10420500 ∷ 0x80000000 ∷ 0x04000000
    ∷ 0x00000000 ∷ 0x10000000 ∷ 0x88000200 ∷ 0x80000000 ∷ 0x98000403 ∷ []

dead_assignment_accepted : verdict dead_assignment ≡ Accepted
unfolding opened dead_assignment
dead_assignment_accepted = refl

live_assignment_refused : verdict (set dead_assignment 3 0x00000001) ≡ refused 13 2
unfolding opened dead_assignment
live_assignment_refused = refl

-- a single value passes 13, and 17 asks for the flag
live_effect_refused : verdict (set (set dead_assignment 3 0x00000001) 4 0x18000000) ≡ refused 17 0
unfolding opened dead_assignment
live_effect_refused = refl

-- "counted .. for U1's own conditions": while 1: (if own number then (if 0 then leave else nothing) else nothing), then barrier
switched_leave : List ℕ
switched_leave =
    0x10420B00 ∷ 0 ∷ 0x0A800000
    ∷ 0x00000001 ∷ 0x10000000 ∷ 0x00000000 ∷ 0xD0000000 ∷ 0x80000000 ∷ 0x98080604 ∷ 0x80000000 ∷ 0x98040A06
    ∷ 0xB8000000 ∷ 0x901C1000 ∷ 0xA0001200 ∷ []

switched_leave_accepted : verdict switched_leave ≡ Accepted
unfolding opened switched_leave
switched_leave_accepted = refl

-- where the number of banks stands for 0, the leave may be reached
reached_leave_refused : verdict (set switched_leave 5 0x18000000) ≡ refused 16 10
unfolding opened switched_leave
reached_leave_refused = refl
