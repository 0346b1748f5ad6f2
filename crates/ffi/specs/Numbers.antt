-- Answers as numbers, for callers in other languages.
use Rattle.std.specs.Prelude.{List, ◌++◌, ◌≡◌, ℕ, ◌+◌, ◌*◌, ◌^◌, min, length, take, drop, Ok, Err}
use Rattle.linker.specs.declared.LinkRefusal.TheVariants.{OfLibrary, OfProgram}
use Rattle.linker.specs.Linking.{Link}
use Rattle.rules.specs.Answers.{event_number, event_node, team_number, Verdict, Stepped}
use Rattle.rules.specs.Scheduling.{Served}
use Rattle.rules.specs.Start.{Started}
use Rattle.rules.specs.Step.{Outcome}
use Rattle.ffi.specs.declared.FcLink.{FcLink}
use Rattle.ffi.specs.declared.FcServe.{FcServe}
use Rattle.ffi.specs.declared.FcStep.{FcStep}

-- 0 for accepted, otherwise number × 2^32 + place
abbrev pub verdict_number : Verdict → ℕ
verdict_number (Ok _) = 0
verdict_number (Err r) = r.number * 2 ^ 32 + r.place

-- number 0 for a step that was taken
abbrev pub step_numbers : Stepped → FcStep
step_numbers (Ok answer) =
    record {
      number = 0;
      place = 0;
      event = event_number answer.event;
      node = event_node answer.event;
      site = team_number answer.team;
    }
step_numbers (Err r) = record { number = r.number; place = r.place; event = 0; node = 0; site = 0 }

-- a start's number, and the state and the roll after it
pub record StartNumbers (outcome : Started) (number : ℕ) (state roll : List ℕ) : Type 0 where
  pub answered : number ≡ verdict_number outcome.answer
  pub left : state ≡ outcome.state
  pub written : roll ≡ outcome.roll

-- a step's numbers, and the state and the roll after it
pub record StepNumbers (outcome : Outcome) (numbers : FcStep) (state roll : List ℕ) : Type 0 where
  pub answered : numbers ≡ step_numbers outcome.answer
  pub left : state ≡ outcome.state
  pub written : roll ≡ outcome.roll

-- number 0 for a call to which no refusal was added
abbrev pub refusal_numbers : ℕ → ℕ → Verdict → FcServe
refusal_numbers made last (Ok _) = record { made = made; last = last; number = 0; place = 0 }
refusal_numbers made last (Err r) = record { made = made; last = last; number = r.number; place = r.place }

-- a call's numbers, and the state and the roll after it
pub record ServeNumbers (end : Served) (numbers : FcServe) (state roll : List ℕ) : Type 0 where
  pub answered : numbers ≡ refusal_numbers end.made end.last end.answer
  pub left : state ≡ end.state
  pub written : roll ≡ end.roll

-- number 0 for a joined table; a refusal says which table, 0 for the library and 1 for the program
abbrev pub link_numbers : Link → FcLink
link_numbers (Ok _) = record { number = 0; place = 0; table = 0 }
link_numbers (Err (OfLibrary r)) = record { number = r.number; place = r.place; table = 0 }
link_numbers (Err (OfProgram r)) = record { number = r.number; place = r.place; table = 1 }

-- how many of the words fit the place lent for them, and that place after the copy
abbrev pub copied_count : List ℕ → List ℕ → ℕ
copied_count words out = min (length words) (length out)

abbrev pub copied : List ℕ → List ℕ → List ℕ
copied words out = take (copied_count words out) words ++ drop (copied_count words out) out
