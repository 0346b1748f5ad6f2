-- Fairness: at any point of a call, a process that stays running is served within as many turns as there are processes.
use mathlib.Core.Bool.{Bool, true, false, cond, not}
use mathlib.Core.List.{List, [], ◌∷◌}
use mathlib.Core.Logic.{◌⊎◌, inl, inr}
use mathlib.Core.Path.{◌≡◌, refl, sym, ap, subst, ◌∙◌}
use Prim.Native.Nat.{ℕ, zero, suc, ◌+◌, ◌-◌, ◌/◌, ◌%◌, ◌≤◌, ◌<◌}
use native.Mathlib.Decide.{dec_lt}
use native.Mathlib.Nat.{mod-eq_of_lt, mod-eq-sub-mod, add-mod_right}
use native.Mathlib.Omega.{arith}
use lib.Dec.{eqb, ltb}
use lib.ListN.{length, take, drop}
use borrow.Author.Tests.{eq-eqb, ltb-true, lt-ltb}
use Rattle.rules.specs.declared.Answer.{Answer}
use Rattle.rules.specs.declared.Refusal.{Refusal}
use Rattle.std.specs.Prelude.{Ok, Err}
use Rattle.rules.specs.Answers.{Verdict, Stepped, Accepted, refused}
use Rattle.rules.specs.Arrivals.{running, waiting, status_at, ended_record}
use Rattle.rules.specs.Collective.{released_roll}
use Rattle.rules.specs.Run.{Team, turn, after_turn, after_turns}
use Rattle.rules.specs.Scheduling.{place_after, passed_over, some_runs, next_process, Served, if_taken, serving}
use Rattle.rules.specs.Scheduling.{chosen, chosen_by, chosen_in, last_of, Worked, next_turns, StaysRunning, FairlyServed}
use Rattle.rules.specs.WellFormed.{Occurs, well_formed}
use Rattle.rules.specs.Start.{question20, question21}
use Rattle.rules.specs.Step.{Outcome, processes_in, question22, completed, step_running, step_taken}
use Rattle.rules.specs.Step.{team_verdict, step_verdict, stepped_by, stepped}
use Rattle.rules.proofs.AnswerLaws.{then_first, then_rest}
use Rattle.rules.proofs.ArrivalLaws.{with_arrival-length, each_arrival-length}
use Rattle.rules.proofs.ChoiceLaws.{first-passed}
use Rattle.rules.proofs.ServingLaws.{next-found, next-below, next-runs, taken-worked, not-refused, by-serving}
use Rattle.rules.proofs.TurnCases.{by-test, by-step}
use Rattle.rules.specs.Table.{decode}

-- no turn changes the length of the roll, in whatever state
module _ (table state roll : List ℕ) (count p : ℕ) where
  abbrev Keeps : Outcome → Type 0
  Keeps outcome = length outcome.roll ≡ length roll

  running_keeps : Keeps (step_running (decode table) state roll count p)
  unfolding completed released_roll
  running_keeps =
      by-step table count state roll p (Unit {0}) Keeps
      (record {
        moves = λ h n. refl;
        finishes = λ h d. with_arrival-length roll p ended_record;
        arrives = λ h k e apart. with_arrival-length roll p _;
        completes = λ h k e meets. each_arrival-length _ count _ ∙ with_arrival-length roll p _;
      })
      tt

  taken_keeps : Keeps (step_taken (decode table) state roll count p)
  unfolding step_taken
  taken_keeps =
      by-test Keeps (eqb (status_at roll p) running) _ _ (λ e. running_keeps)
      (λ e. by-test Keeps (eqb (status_at roll p) waiting) _ _ (λ f. refl) (λ f. refl))

module _ (table state roll : List ℕ) (p : ℕ) where
  by_keeps : (v : Verdict) → length (stepped_by v (decode table) state roll p).roll ≡ length roll
  unfolding stepped_by
  by_keeps (Ok _) = taken_keeps table state roll (processes_in roll) p
  by_keeps (Err r) = refl

  pub step_keeps : length (stepped table state roll p).roll ≡ length roll
  unfolding stepped
  step_keeps = by_keeps (step_verdict table state roll p)

  pub processes-kept : processes_in (stepped table state roll p).roll ≡ processes_in roll
  unfolding processes_in
  processes-kept = ap (λ n. n / 4) step_keeps

-- p is d places after the one next to `last`, cyclically
module _ (count : ℕ) where
  abbrev Away : ℕ → ℕ → ℕ → Type 0
  Away last d p = (last + 1 + d ≡ p) ⊎ (last + 1 + d ≡ p + count)

  away_place : (last d p : ℕ) → p < count → Away last d p → place_after count last d ≡ p
  away_place last d p l (inl e) = rw e (mod-eq_of_lt l)
  away_place last d p l (inr e) = rw e (add-mod_right p count ∙ mod-eq_of_lt l)

  place_away : (last i : ℕ) → last < count → i < count → Away last i (place_after count last i)
  place_away last i l m =
      elim (dec_lt (last + 1 + i) count) [
        | yes low ↦ inl (sym (mod-eq_of_lt low))
        | no high ↦
            let e : (last + 1 + i) % count ≡ last + 1 + i - count =
            mod-eq-sub-mod (omega arith) ∙ mod-eq_of_lt (omega arith) in
            inr (omega (arith, e))
      ]

  away_some : (last p : ℕ) → last < count → p < count → (d : ℕ) × (d < count) × Away last d p
  away_some last p l m =
      elim (dec_lt last p) [
        | yes low ↦ (p - last - 1, omega arith, inl (omega arith))
        | no high ↦ (p + count - last - 1, omega arith, inr (omega arith))
      ]

  -- a turn of one that is nearer brings p nearer
  away_nearer : (last d p j q : ℕ) → p < count → j < d → Away last d p → Away last j q → Away q (d - j - 1) p
  away_nearer last d p j q l m (inl e) (inl f) = inl (omega arith)
  away_nearer last d p j q l m (inl e) (inr f) = absurd (omega arith)
  away_nearer last d p j q l m (inr e) (inl f) = inr (omega arith)
  away_nearer last d p j q l m (inr e) (inr f) = inl (omega arith)

-- the next process is no farther than one that runs
module _ (roll : List ℕ) (count last d p : ℕ) (l : p < count) (away : Away count last d p)
    (runs : status_at roll p ≡ running) where
  passed-low : passed_over roll count last ≤ d
  unfolding passed_over
  passed-low =
      elim (dec_lt d (passed_over roll count last)) [
        | yes more ↦
            let t : not (eqb (status_at roll (place_after count last d)) running) ≡ true =
            first-passed (λ i. not (eqb (status_at roll (place_after count last i)) running)) count d more in
            let here : not (eqb (status_at roll p) running) ≡ true = rw (away_place count last d p l away) at t in
            let f : not (eqb (status_at roll p) running) ≡ false = ap not (eq-eqb (status_at roll p) running runs) in
            let z : ◌≡◌ {A = ℕ} 0 1 = cc in
            absurd (omega arith)
        | no less ↦ omega arith
      ]

-- a turn that was not idle was taken
if_worked : {A : Type 0} (s : Stepped) → Worked s → (go_on : A) (stop : Refusal → A) → if_taken s go_on stop ≡ go_on
if_worked (Ok a) w go_on stop = refl
if_worked (Err r) w go_on stop = absurd (not-refused (Err r) w r refl)

module _ (table : List ℕ) (count p : ℕ) (l : p < count) where
  -- a point of a call: a last process of the team's, and p runs
  module _ (last : ℕ) (team : Team) (m : last < count) (sized : processes_in team.roll ≡ count)
      (runs : status_at team.roll p ≡ running) where
    abbrev next : ℕ
    next = next_process team.roll last

    pub some : some_runs team.roll last ≡ true
    some =
        let way = away_some count last p m l in
        rw sized
        (lt-ltb (passed_over team.roll count last) count
        (omega (arith, passed-low team.roll count last way.0 p l way.2 runs, way.1)))

    next_low : next < count
    next_low = rw sized at (next-below team.roll last some)

    sized-after : processes_in (after_turn table team next).roll ≡ count
    sized-after = processes-kept table team.state team.roll next ∙ sized

    next-is : next ≡ place_after count last (passed_over team.roll count last)
    unfolding next_process
    next-is = rw sized refl

    next_away : Away count last (passed_over team.roll count last) next
    next_away = rw next-is (place_away count last (passed_over team.roll count last) m (rw sized at (next-found team.roll last some)))

    next-worked : step_verdict table team.state team.roll next ≡ Accepted → Worked (turn table team next).answer
    unfolding stepped stepped_by
    next-worked v =
        rw v (taken-worked table team.state team.roll (processes_in team.roll) next (next-runs team.roll last some))

  -- p is among the next turns, if it is near enough
  soon : (n d last : ℕ) (team : Team) → last < count → processes_in team.roll ≡ count → d < count → d < n → Away count last d p
      → StaysRunning table p team (next_turns table n last team) → Occurs p (next_turns table n last team)
  unfolding StaysRunning next_turns
  soon zero d last team m sized b n away stays = absurd (omega arith)
  soon (suc n) d last team m sized b h away stays =
      let low = passed-low team.roll count last d p l away stays.0 in
      elim (dec_lt (passed_over team.roll count last) d) [
        | yes less ↦
            inr
            (soon n (d - passed_over team.roll count last - 1) (next_process team.roll last) _
            (next_low last team m sized stays.0) (sized-after last team m sized stays.0) (omega arith) (omega arith)
            (away_nearer count last d p (passed_over team.roll count last) (next_process team.roll last) l less away
            (next_away last team m sized stays.0))
            stays.2)
        | no more ↦
            let e : passed_over team.roll count last ≡ d = omega (arith, low) in
            inl (sym (next-is last team m sized stays.0 ∙ (ap (place_after count last) e ∙ away_place count last d p l away)))
      ]

  -- and they are those that serving makes, if so many are left
  made : (n turns last : ℕ) (team : Team) → last < count → processes_in team.roll ≡ count → n ≤ turns
      → StaysRunning table p team (next_turns table n last team) → take n (chosen table turns last team) ≡ next_turns table n last team
  unfolding StaysRunning next_turns chosen
  made zero turns last team m sized few stays = refl
  made (suc n) zero last team m sized few stays = absurd (omega arith)
  made (suc n) (suc turns) last team m sized few stays =
      rw (
        some last team m sized stays.0,
        if_worked (turn table team (next_process team.roll last)).answer (next-worked last team m sized stays.0 stays.1) _ _,
      )
      (ap (λ list. next_process team.roll last ∷ list)
      (made n turns (next_process team.roll last) _ (next_low last team m sized stays.0) (sized-after last team m sized stays.0)
      (omega arith) stays.2))

-- what is left of a call after some of its turns is a call
module _ (table : List ℕ) (count : ℕ) where
  record Left (turns last : ℕ) (team : Team) (list : List ℕ) (i : ℕ) : Type 0 where
    pub rest : drop i list ≡ chosen table (turns - i) (last_of last (take i list)) (after_turns table team (take i list))
    pub low : last_of last (take i list) < count
    pub sized : processes_in (after_turns table team (take i list)).roll ≡ count

  record Later (turns before last : ℕ) (team : Team) (end : Served) (list : List ℕ) : Type 0 where
    pub whole : list ≡ chosen table turns last team
    pub left : last < count → processes_in team.roll ≡ count → (i : ℕ) → i ≤ length list → Left turns last team list i

  at_once : (turns last : ℕ) (team : Team) (list : List ℕ) → list ≡ chosen table turns last team → last < count
      → processes_in team.roll ≡ count → Left turns last team list 0
  unfolding last_of after_turns
  at_once turns last team list e m sized =
      let z : turns - 0 ≡ turns = omega arith in
      record { rest = rw z e; low = m; sized = sized }

  later-none : (turns before last : ℕ) (team : Team) (end : Served) → [] ≡ chosen table turns last team → Later turns before last team end []
  later-none turns before last team end e =
      record {
        whole = e;
        left = λ m sized i h. let z : i ≡ 0 = omega arith in rw z (at_once turns last team [] e m sized);
      }

  module _ (turns before last : ℕ) (team : Team) (a : Answer) (some : some_runs team.roll last ≡ true)
      (e : (turn table team (next_process team.roll last)).answer ≡ Ok a) (end : Served) (list : List ℕ)
      (later : Later turns (suc before) (next_process team.roll last) (after_turn table team (next_process team.roll last)) end list) where
    whole-taken : next_process team.roll last ∷ list ≡ chosen table (suc turns) last team
    unfolding chosen
    whole-taken = rw (some, e) (ap (λ rest. next_process team.roll last ∷ rest) later.whole)

    left-taken : last < count → processes_in team.roll ≡ count → (i : ℕ) → i ≤ length (next_process team.roll last ∷ list)
        → Left (suc turns) last team (next_process team.roll last ∷ list) i
    unfolding last_of after_turns
    left-taken m sized zero h = at_once (suc turns) last team _ whole-taken m sized
    left-taken m sized (suc i) h =
        let on = later.left (rw sized at (next-below team.roll last some))
        (processes-kept table team.state team.roll (next_process team.roll last) ∙ sized) i (omega arith) in
        let z : suc turns - suc i ≡ turns - i = omega arith in
        record { rest = rw z on.rest; low = on.low; sized = on.sized }

  later_in : (turns before last : ℕ) (team : Team)
      → Later turns before last team (serving table turns before last team) (chosen table turns last team)
  unfolding chosen
  later_in =
      by-serving Later table
      (record {
        used = λ before last team. later-none zero before last team _ refl;
        none = λ turns before last team e. later-none (suc turns) before last team _ (rw e refl);
        refuses = λ turns before last team r some e. later-none (suc turns) before last team _ (rw (some, e) refl);
        takes = λ turns before last team a some e end list later.
            record {
              whole = whole-taken turns before last team a some e end list later;
              left = left-taken turns before last team a some e end list later;
            };
      })

-- a call that is not refused at once names a last process that the roll has
passed_22 : (count last : ℕ) (b : Bool) → cond b Accepted (refused 22 last) ≡ Accepted → b ≡ true
passed_22 count last true e = refl
passed_22 count last false e = let z : ◌≡◌ {A = ℕ} 0 1 = cc in absurd (omega arith)

pub has_last : (table state roll : List ℕ) (last : ℕ) → team_verdict table state roll last ≡ Accepted
    → last < processes_in roll
unfolding team_verdict
has_last table state roll last v =
    let after26 = then_rest (well_formed table) _ v in
    let after21 = then_rest (question21 (processes_in roll) roll) _ after26 in
    let after20 = then_rest (question20 (processes_in roll) state) _ after21 in
    ltb-true last (processes_in roll)
    (passed_22 (processes_in roll) last (ltb last (processes_in roll))
    (then_first (question22 (processes_in roll) last) _ after20))

module _ (table : List ℕ) (team : Team) (last turns i p : ℕ) (l : p < processes_in team.roll) (few : i + processes_in team.roll ≤ turns) where
  abbrev FairIn : List ℕ → Type 0
  FairIn list =
      i ≤ length list
      → StaysRunning table p (after_turns table team (take i list))
      (next_turns table (processes_in team.roll) (last_of last (take i list)) (after_turns table team (take i list)))
      → Occurs p (take (processes_in team.roll) (drop i list))

  fair_chosen : last < processes_in team.roll → FairIn (chosen table turns last team)
  fair_chosen m h stays =
      let count : ℕ = processes_in team.roll in
      let left = (later_in table count turns 0 last team).left m refl i h in
      let way = away_some count _ p left.low l in
      subst (Occurs p)
      (sym (ap (take count) left.rest ∙ made table count p l count (turns - i) _ _ left.low left.sized (omega arith) stays))
      (soon table count p l count way.0 _ _ left.low left.sized way.1 way.1 way.2 stays)

  -- by the answer to a call's questions
  fair_by : (v : Verdict) → v ≡ Accepted → last < processes_in team.roll → FairIn (chosen_by v table team last turns)
  unfolding chosen_by
  fair_by (Ok _) e m = fair_chosen m
  fair_by (Err r) e m = let z : ◌≡◌ {A = ℕ} 0 1 = cc in absurd (omega arith)

pub fairly_served : FairlyServed
unfolding chosen_in
fairly_served table team last turns i p v l h few stays =
    fair_by table team last turns i p l few (team_verdict table team.state team.roll last) v
    (has_last table team.state team.roll last v) h stays
