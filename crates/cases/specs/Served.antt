-- What calls that serve answer, and whom they choose.
use Rattle.std.specs.Prelude.{List, [], ◌∷◌, ◌++◌, ◌≡◌, refl, ℕ, ◌-◌, ◌*◌, replicate, take}
use Rattle.rules.specs.Answers.{Verdict, Accepted, refused}
use Rattle.rules.specs.Arrivals.{arrival_size}
use Rattle.rules.specs.Cases.{opened, bytes, t1, t2, zeros, stocktake, serve, order}
use Rattle.rules.specs.Process.{depth_at, stack_places}
use Rattle.rules.specs.Scheduling.{served}
use Rattle.cases.specs.Played.{search_loop}

-- "No turns made: the last bank is the one given."
serve-none : serve t2 1 0 ≡ (0, (1, Accepted))
unfolding opened zeros t1 t2 serve
serve-none = refl

-- "the first running bank after that one, cyclically", "until the turns are used or no bank runs"
serve-one : serve t2 0 1 ≡ (1, (1, Accepted))
unfolding opened zeros t1 t2 serve
serve-one = refl

-- if own number then barrier else a sequence of nothing and nothing: process 1 waits, and is passed over, while 0 goes on
two_speeds : List ℕ
two_speeds =
    0x10420600 ∷ 0 ∷ 0x05800000
    ∷ 0x10000000 ∷ 0xB8000000 ∷ 0x80000000 ∷ 0x80000000 ∷ 0x90080600 ∷ 0x98000204 ∷ []

serve-passes : order two_speeds 1 9 ≡ 0 ∷ 1 ∷ 0 ∷ 1 ∷ 0 ∷ 0 ∷ []
unfolding opened zeros two_speeds order
serve-passes = refl

-- "A last bank that the roll lacks gets number 22, in its usual place", also when no turn is made
serve-lacking : serve t2 2 0 ≡ (0, (2, refused 22 2))
unfolding opened zeros t1 t2 serve
serve-lacking = refl

serve_made_up : ℕ → List ℕ → ℕ × (ℕ × Verdict)
serve_made_up count state =
    let end = served (bytes search_loop) state (replicate (arrival_size * count) 0) (count - 1) 9 in
    (end.made, (end.last, end.answer))

-- a process with so deep a stack, its lowest entries as given and the others the while, 8
standing : ℕ → List ℕ → List ℕ
standing deep entries = replicate depth_at 0 ++ deep ∷ take stack_places (entries ++ replicate stack_places 8)

-- a leave that a pop uncovers, with no while below it
serve_uncovered : serve_made_up 1 (standing 2 (3 ∷ 4 ∷ [])) ≡ (1, (0, refused 23 0))
unfolding opened stocktake search_loop serve_made_up standing
serve_uncovered = refl

-- process 1 has a full stack with a while on it; process 0, served before it, has ended
serve_full : serve_made_up 2 (standing 1 (4 ∷ []) ++ standing stack_places []) ≡ (1, (0, refused 24 1))
unfolding opened stocktake search_loop serve_made_up standing
serve_full = refl

-- "the first included"
serve_full_first : serve_made_up 1 (standing stack_places []) ≡ (0, (0, refused 24 0))
unfolding opened stocktake search_loop serve_made_up standing
serve_full_first = refl
