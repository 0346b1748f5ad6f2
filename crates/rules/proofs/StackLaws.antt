-- Laws of one process's words: what the stack's moves, a store below the stack and a collective do to the number of words, to
-- the words below the depth, to the depth and to the stack's entries; and the stack as a list, top first.
use mathlib.Core.Bool.{Bool, true, false, cond}
use mathlib.Core.List.{List, [], ◌∷◌}
use mathlib.Core.Logic.{◌≢◌}
use mathlib.Core.Path.{◌≡◌, refl, sym, ◌∙◌, ap}
use Prim.Native.Nat.{ℕ, zero, suc, ◌+◌, ◌-◌, ◌≤◌, ◌<◌}
use native.Mathlib.Decide.{dec_lt}
use native.Mathlib.Omega.{arith}
use lib.Dec.{ltb, eqb}
use lib.ListN.{length, get_or, set, length-set}
use lib.Seq.{get_or-set_same, get_or-set_other}
use Rattle.rules.specs.Arrivals.{arrival_value}
use Rattle.rules.specs.Collective.{gathered_from, received}
use Rattle.rules.specs.Evaluation.{Environment, value, gathered_slot}
use Rattle.rules.specs.Process.{latch_places, most_processes, gathered_at, latches_at, depth_at, stack_at, stack_places, process_words}
use Rattle.rules.specs.Process.{depth, top, popped, replaced, pushed, unwound, advanced}
use Rattle.rules.specs.Table.{Program, Statement, nothing, assign, sequence, branch, loop, call, latch, collective, leave}
use Rattle.rules.specs.Table.{Collective, barrier, broadcast, exchange, gathered_areas}
use Rattle.rules.specs.WellFormed.{nearest_loop}

-- the stack entry at height i, the lowest at 0
abbrev pub entry : List ℕ → ℕ → ℕ
entry words i = get_or words (stack_at + i) 0

-- the entries below height k, the highest first
abbrev pub stack_of : List ℕ → ℕ → List ℕ
stack_of words zero = []
stack_of words (suc k) = entry words k ∷ stack_of words k

-- the stack, top first
abbrev pub stack : List ℕ → List ℕ
stack words = stack_of words (depth words)

-- the number of words

pub popped-length : (words : List ℕ) → length (popped words) ≡ length words
popped-length words = simp length-set

pub replaced-length : (words : List ℕ) (n : ℕ) → length (replaced words n) ≡ length words
replaced-length words n = simp length-set

pub pushed-length : (words : List ℕ) (n : ℕ) → length (pushed words n) ≡ length words
pushed-length words n = simp length-set

pub unwound-length : (w d : ℕ) (words : List ℕ) → length (unwound w d words) ≡ length words
unfolding unwound
unwound-length w zero words = refl
unwound-length w (suc d) words =
    picked (eqb (top words) w) (popped-length words) (unwound-length w d (popped words) ∙ popped-length words)
  where
    picked : (test : Bool) → length (popped words) ≡ length words → length (unwound w d (popped words)) ≡ length words
        → length (cond test (popped words) (unwound w d (popped words))) ≡ length words
    picked true e f = e
    picked false e f = f

pub gathered-length : (roll : List ℕ) (r count : ℕ) (words : List ℕ) → length (gathered_from roll r count words) ≡ length words
unfolding gathered_from
gathered-length roll r zero words = refl
gathered-length roll r (suc n) words =
    length-set (gathered_from roll r n words) (gathered_at + gathered_slot r n) (arrival_value roll n) ∙ gathered-length roll r n words

pub received-length : (roll : List ℕ) (count : ℕ) (k : Collective) (p : ℕ) (words : List ℕ)
    → length (received roll count k p words) ≡ length words
unfolding received
received-length roll count barrier p words = refl
received-length roll count (broadcast a b c) p words = simp length-set
received-length roll count (exchange a r) p words = gathered-length roll _ count words

-- the words that a latch statement stores to
pub latched_length : (words : List ℕ) (test : Bool) (a v : ℕ) → length (cond test (set words a v) words) ≡ length words
latched_length words true a v = length-set words a v
latched_length words false a v = refl

looped-length : (words : List ℕ) (test : Bool) (n : ℕ) → length (cond test (popped words) (pushed words n)) ≡ length words
looped-length words true n = popped-length words
looped-length words false n = pushed-length words n

pub advanced-length : (program : Program) (env : Environment) (words : List ℕ) (s : Statement)
    → length (advanced program env words s) ≡ length words
unfolding advanced
advanced-length program env words nothing = popped-length words
advanced-length program env words (assign a b) = popped-length (set words a (value program env b)) ∙ simp length-set
advanced-length program env words (sequence a b) = pushed-length (replaced words b) a ∙ replaced-length words b
advanced-length program env words (branch a b c) = replaced-length words _
advanced-length program env words (loop a b) = looped-length words (eqb (value program env a) 0) b
advanced-length program env words (call p) = replaced-length words _
advanced-length program env words (latch a b) =
    popped-length (cond (ltb (value program env a) latch_places) (set words (latches_at + value program env a) (value program env b)) words)
    ∙ latched_length words (ltb (value program env a) latch_places) (latches_at + value program env a) (value program env b)
advanced-length program env words (collective k) = refl
advanced-length program env words leave = unwound-length (nearest_loop program (top words)) (depth words) words

-- the words below the depth

pub popped-below : (words : List ℕ) (j : ℕ) → j < depth_at → get_or (popped words) j 0 ≡ get_or words j 0
popped-below words j h =
    get_or-set_other (set words (depth_at + depth words) 0) depth_at j (depth words - 1) 0 (omega arith)
    ∙ get_or-set_other words (depth_at + depth words) j 0 0 (omega arith)

pub replaced-below : (words : List ℕ) (n j : ℕ) → j < depth_at → get_or (replaced words n) j 0 ≡ get_or words j 0
replaced-below words n j h = get_or-set_other words (depth_at + depth words) j n 0 (omega arith)

pub pushed-below : (words : List ℕ) (n j : ℕ) → j < depth_at → get_or (pushed words n) j 0 ≡ get_or words j 0
pushed-below words n j h =
    get_or-set_other (set words (stack_at + depth words) n) depth_at j (depth words + 1) 0 (omega arith)
    ∙ get_or-set_other words (stack_at + depth words) j n 0 (omega arith)

pub unwound-below : (w d : ℕ) (words : List ℕ) (j : ℕ) → j < depth_at → get_or (unwound w d words) j 0 ≡ get_or words j 0
unfolding unwound
unwound-below w zero words j h = refl
unwound-below w (suc d) words j h =
    picked (eqb (top words) w) (popped-below words j h) (unwound-below w d (popped words) j h ∙ popped-below words j h)
  where
    picked : (test : Bool) → get_or (popped words) j 0 ≡ get_or words j 0
        → get_or (unwound w d (popped words)) j 0 ≡ get_or words j 0
        → get_or (cond test (popped words) (unwound w d (popped words))) j 0 ≡ get_or words j 0
    picked true e f = e
    picked false e f = f

-- a store below the depth keeps depth and entries

pub set-depth : (words : List ℕ) (a v : ℕ) → a < depth_at → depth (set words a v) ≡ depth words
set-depth words a v h = get_or-set_other words a depth_at v 0 (omega arith)

pub set-entry : (words : List ℕ) (a v i : ℕ) → a < depth_at → entry (set words a v) i ≡ entry words i
set-entry words a v i h = get_or-set_other words a (stack_at + i) v 0 (omega arith)

-- depth and entries after a move of the stack

module _ (words : List ℕ) (sized : length words ≡ process_words) where
  pub popped-depth : depth (popped words) ≡ depth words - 1
  popped-depth =
      get_or-set_same (set words (depth_at + depth words) 0) depth_at (depth words - 1) 0
      (simp length-set (omega arith))

  pub replaced-depth : (n : ℕ) → 0 < depth words → depth (replaced words n) ≡ depth words
  replaced-depth n h = get_or-set_other words (depth_at + depth words) depth_at n 0 (omega arith)

  pub pushed-depth : (n : ℕ) → depth (pushed words n) ≡ depth words + 1
  pushed-depth n =
      get_or-set_same (set words (stack_at + depth words) n) depth_at (depth words + 1) 0
      (simp length-set (omega arith))

  pub top-entry : 0 < depth words → top words ≡ entry words (depth words - 1)
  top-entry h = let e : depth_at + depth words ≡ stack_at + (depth words - 1) = omega arith in rw e

  pub popped-entry : (i : ℕ) → i < depth words - 1 → entry (popped words) i ≡ entry words i
  popped-entry i h =
      get_or-set_other (set words (depth_at + depth words) 0) depth_at (stack_at + i) (depth words - 1) 0 (omega arith)
      ∙ get_or-set_other words (depth_at + depth words) (stack_at + i) 0 0 (omega arith)

  pub replaced-entry : (n i : ℕ) → i < depth words - 1 → entry (replaced words n) i ≡ entry words i
  replaced-entry n i h = get_or-set_other words (depth_at + depth words) (stack_at + i) n 0 (omega arith)

  pub replaced-top : (n : ℕ) → 0 < depth words → depth words ≤ stack_places
      → entry (replaced words n) (depth words - 1) ≡ n
  replaced-top n h b =
      let e : stack_at + (depth words - 1) ≡ depth_at + depth words = omega arith in
      rw e (get_or-set_same words (depth_at + depth words) n 0 (omega arith))

  pub pushed-entry : (n i : ℕ) → i < depth words → entry (pushed words n) i ≡ entry words i
  pushed-entry n i h =
      get_or-set_other (set words (stack_at + depth words) n) depth_at (stack_at + i) (depth words + 1) 0 (omega arith)
      ∙ get_or-set_other words (stack_at + depth words) (stack_at + i) n 0 (omega arith)

  pub pushed-top : (n : ℕ) → depth words < stack_places → entry (pushed words n) (depth words) ≡ n
  pushed-top n h =
      get_or-set_other (set words (stack_at + depth words) n) depth_at (stack_at + depth words) (depth words + 1) 0 (omega arith)
      ∙ get_or-set_same words (stack_at + depth words) n 0 (omega arith)

-- the stack as a list

pub stack_of-kept : (words others : List ℕ) (k : ℕ) → ((i : ℕ) → i < k → entry words i ≡ entry others i)
    → stack_of words k ≡ stack_of others k
stack_of-kept words others zero h = refl
stack_of-kept words others (suc k) h =
    let here : entry words k ≡ entry others k = h k (omega arith) in
    let rest : stack_of words k ≡ stack_of others k = stack_of-kept words others k (λ i l. h i (omega arith)) in
    cc

-- two stacks of one depth and with the same entries
pub stack-kept : (words others : List ℕ) → depth words ≡ depth others
    → ((i : ℕ) → i < depth words → entry words i ≡ entry others i) → stack words ≡ stack others
stack-kept words others e h = stack_of-kept words others (depth words) h ∙ ap (stack_of others) e

pub stack_set : (words : List ℕ) (a v : ℕ) → a < depth_at → stack (set words a v) ≡ stack words
stack_set words a v h =
    stack-kept (set words a v) words (set-depth words a v h) (λ i l. set-entry words a v i h)

module _ (words : List ℕ) (sized : length words ≡ process_words) where
  pub stack_top : 0 < depth words → stack words ≡ top words ∷ stack_of words (depth words - 1)
  stack_top h =
      let e : depth words ≡ suc (depth words - 1) = omega arith in
      ap (stack_of words) e ∙ ap (λ n. n ∷ stack_of words (depth words - 1)) (sym (top-entry words sized h))

  pub stack-popped : stack (popped words) ≡ stack_of words (depth words - 1)
  stack-popped =
      ap (stack_of (popped words)) (popped-depth words sized)
      ∙ stack_of-kept (popped words) words (depth words - 1) (popped-entry words sized)

  pub stack-replaced : (n : ℕ) → 0 < depth words → depth words ≤ stack_places
      → stack (replaced words n) ≡ n ∷ stack_of words (depth words - 1)
  stack-replaced n h b =
      let e : depth (replaced words n) ≡ suc (depth words - 1) = omega (arith, replaced-depth words sized n h) in
      let here : entry (replaced words n) (depth words - 1) ≡ n = replaced-top words sized n h b in
      let rest : stack_of (replaced words n) (depth words - 1) ≡ stack_of words (depth words - 1) =
      stack_of-kept (replaced words n) words (depth words - 1) (replaced-entry words sized n) in
      ap (stack_of (replaced words n)) e ∙ cc

  pub stack-pushed : (n : ℕ) → depth words < stack_places → stack (pushed words n) ≡ n ∷ stack words
  stack-pushed n b =
      let e : depth (pushed words n) ≡ suc (depth words) = omega (arith, pushed-depth words sized n) in
      let here : entry (pushed words n) (depth words) ≡ n = pushed-top words sized n b in
      let rest : stack_of (pushed words n) (depth words) ≡ stack_of words (depth words) =
      stack_of-kept (pushed words n) words (depth words) (pushed-entry words sized n) in
      ap (stack_of (pushed words n)) e ∙ cc

-- a stack, top first, without its entries down to and including the first that is w
abbrev pub dropped_to : ℕ → List ℕ → List ℕ
dropped_to w [] = []
dropped_to w (n ∷ entries) = cond (eqb n w) entries (dropped_to w entries)

pub stack-unwound : (w d : ℕ) (words : List ℕ) → length words ≡ process_words → depth words ≡ d
    → stack (unwound w d words) ≡ dropped_to w (stack words)
unfolding unwound
stack-unwound w zero words sized e = rw e
stack-unwound w (suc d) words sized e =
    let less : depth (popped words) ≡ d = omega (arith, popped-depth words sized) in
    picked (eqb (top words) w) (stack-unwound w d (popped words) (popped-length words ∙ sized) less)
    ∙ sym (ap (dropped_to w) (stack_top words sized (omega arith) ∙ ap (λ s. top words ∷ s) (sym (stack-popped words sized))))
  where
    picked : (test : Bool) → stack (unwound w d (popped words)) ≡ dropped_to w (stack (popped words))
        → stack (cond test (popped words) (unwound w d (popped words)))
        ≡ cond test (stack (popped words)) (dropped_to w (stack (popped words)))
    picked true f = refl
    picked false f = f

-- what a process takes away from a collective leaves its stack alone

-- a broadcast stores to a variable, an exchange to one of the areas
abbrev pub StoresLow : Collective → Type 0
StoresLow barrier = Unit {0}
StoresLow (broadcast a b c) = a < depth_at
StoresLow (exchange a r) = r < gathered_areas

-- an exchange leaves all but the slots that it fills as it was
pub gathered-other : (roll : List ℕ) (r count : ℕ) (words : List ℕ) (j : ℕ)
    → ((i : ℕ) → i < count → j ≢ gathered_at + gathered_slot r i) → get_or (gathered_from roll r count words) j 0 ≡ get_or words j 0
unfolding gathered_from
gathered-other roll r zero words j h = refl
gathered-other roll r (suc n) words j h =
    get_or-set_other (gathered_from roll r n words) (gathered_at + gathered_slot r n) j (arrival_value roll n) 0 (h n (omega arith))
    ∙ gathered-other roll r n words j (λ i l. h i (omega arith))

pub received-depth : (roll : List ℕ) (count : ℕ) (k : Collective) (p : ℕ) (words : List ℕ) → count ≤ most_processes → StoresLow k
    → depth (received roll count k p words) ≡ depth words
unfolding received
received-depth roll count barrier p words h low = refl
received-depth roll count (broadcast a b c) p words h low = set-depth words a _ low
received-depth roll count (exchange a r) p words h low = gathered-other roll _ count words depth_at (λ i l. omega arith)

pub received-entry : (roll : List ℕ) (count : ℕ) (k : Collective) (p : ℕ) (words : List ℕ) (i : ℕ) → count ≤ most_processes → StoresLow k
    → entry (received roll count k p words) i ≡ entry words i
unfolding received
received-entry roll count barrier p words i h low = refl
received-entry roll count (broadcast a b c) p words i h low = set-entry words a _ i low
received-entry roll count (exchange a r) p words i h low =
    gathered-other roll _ count words (stack_at + i) (λ j l. omega arith)

pub stack-received : (roll : List ℕ) (count : ℕ) (k : Collective) (p : ℕ) (words : List ℕ) → count ≤ most_processes → StoresLow k
    → stack (received roll count k p words) ≡ stack words
stack-received roll count k p words h low =
    stack-kept (received roll count k p words) words (received-depth roll count k p words h low)
    (λ i l. received-entry roll count k p words i h low)

-- the slots that an exchange fills: the value of each process below the count
pub gathered-at : (roll : List ℕ) (r count : ℕ) (words : List ℕ) (i : ℕ) → length words ≡ process_words → r < gathered_areas
    → count ≤ most_processes → i < count
    → get_or (gathered_from roll r count words) (gathered_at + gathered_slot r i) 0 ≡ arrival_value roll i
unfolding gathered_from
gathered-at roll r zero words i sized area h l = absurd (omega arith)
gathered-at roll r (suc n) words i sized area h l =
    let earlier = gathered_from roll r n words in
    elim (dec_lt i n) [
      | yes b ↦
          get_or-set_other earlier (gathered_at + gathered_slot r n) (gathered_at + gathered_slot r i) (arrival_value roll n) 0 (omega arith)
          ∙ gathered-at roll r n words i sized area (omega arith) b
      | no b ↦
          let e : i ≡ n = omega arith in
          rw e
          (get_or-set_same earlier (gathered_at + gathered_slot r n) (arrival_value roll n) 0
          (omega (arith, gathered-length roll r n words)))
    ]
