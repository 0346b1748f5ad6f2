-- A call on words that are those of records: it is one on the records, and a roll too long for any team is refused whatever it holds.
use mathlib.Core.Bool.{and-false}
use mathlib.Core.List.{List, ◌++◌}
use mathlib.Core.Path.{◌≡◌, refl, ap, sym, ◌∙◌, subst}
use Prim.Native.Nat.{ℕ, zero, suc, ◌*◌, ◌≤◌, ◌<◌}
use native.Mathlib.Decide.{dec_lt}
use native.Mathlib.Omega.{arith}
use borrow.Author.Tests.{lt-leb, ne_eqb}
use lib.ListN.{length, set, take, drop, length-set}
use lib.Seq.{take_all, length-take-le}
use Rattle.rules.specs.declared.Arrival.{Arrival}
use Rattle.rules.specs.declared.Refusal.{Refusal}
use Rattle.std.specs.Prelude.{Ok, Err}
use Rattle.rules.specs.Answers.{Verdict, ◌then◌, refused}
use Rattle.rules.specs.Arrivals.{arrival_size, with_arrival, each_arrival}
use Rattle.rules.specs.Start.{question21}
use Rattle.rules.specs.Process.{most_processes}
use Rattle.records.specs.Held.{OnLent, ThroughWords}
use Rattle.records.specs.Roll.{most_lent, lent_words, roll_words, lent_records, loaded, saved}
use Rattle.records.proofs.RollLaws.{words-length, words-set}
use Rattle.records.proofs.LendLaws.{loaded-words, saved-words, saved-same}

-- words of n records
unfoldable pub Recorded : ℕ → List ℕ → Type 0
Recorded n words = (records : List Arrival) × ((length records ≡ n) × (words ≡ roll_words records))

pub recorded_with : (n : ℕ) (words : List ℕ) (p : ℕ) (a : Arrival) → Recorded n words → Recorded n (with_arrival words p a)
unfolding Recorded
recorded_with n words p a (records, (sized, e)) =
    (set records p a, (length-set records p a ∙ sized, ap (λ (w : List ℕ). with_arrival w p a) e ∙ words-set records p a))

pub recorded-each : (n : ℕ) (words : List ℕ) (arrival : ℕ → Arrival) (count : ℕ) → Recorded n words → Recorded n (each_arrival arrival count words)
unfolding each_arrival
recorded-each n words arrival zero h = h
recorded-each n words arrival (suc count) h = recorded_with n (each_arrival arrival count words) count (arrival count) (recorded-each n words arrival count h)

-- 21 refuses too many records
pub long_21 : (count : ℕ) (roll : List ℕ) → arrival_size * most_processes < length roll → question21 count roll ≡ refused 21 0
long_21 count roll l =
    elim (dec_lt count most_lent) [
      | yes few ↦ let n : length roll ≡ arrival_size * count → ⊥ = λ e. omega arith in simp (ne_eqb (length roll) (arrival_size * count) n)
      | no many ↦ simp (lt-leb count most_processes (omega arith), and-false)
    ]

-- a question whose answer is a refusal ends the row with a refusal
pub then_refused : (v w : Verdict) → (r : Refusal) × (w ≡ Err r) → (r : Refusal) × ((v then w) ≡ Err r)
then_refused (Ok _) w h = h
then_refused (Err r) w h = (r, refl)

-- What is said of a call, whatever it answers and leaves of the state: `Says before after` of the roll lent and as it is left.
pub record Call (Says : List ℕ → List ℕ → Type 0) : Type 0 where
  pub long : (before after : List ℕ) → arrival_size * most_processes < length before → Says before after
      → (after ≡ before) × ((other : List ℕ) → arrival_size * most_processes < length other → Says other other)
  pub recorded : (n : ℕ) (before after : List ℕ) → Recorded n before → Says before after → Recorded n after

-- Such a call on the words lent is one on the words of the records: what is saved of the words that it leaves are the records that
-- the call leaves.
module _ (Says : List ℕ → List ℕ → Type 0) (call : Call Says) (records : List Arrival) (words : List ℕ) where
  few : (n : ℕ) → n ≡ length records → OnLent Says n (loaded records n) words → Says (roll_words records) (roll_words (saved words n records))
  unfolding Recorded
  few n e on =
      let whole : take (arrival_size * n) (loaded records n) ≡ roll_words records
      = loaded-words records n (omega (arith, e)) ∙ ap roll_words (take_all n records (omega (arith, e))) in
      let said' : Says (roll_words records) on.after = subst (λ (w : List ℕ). Says w on.after) whole on.said in
      let new : Recorded n on.after = call.recorded n (roll_words records) on.after (records, (sym e, refl)) said' in
      let rest : List ℕ = drop (arrival_size * n) (loaded records n) in
      subst (Says (roll_words records))
      (new.1.1
      ∙ sym (ap (λ (w : List ℕ). roll_words (saved w n records)) (on.left_is ∙ ap (λ (w : List ℕ). w ++ rest) new.1.1)
      ∙ ap roll_words (saved-words new.0 records rest n new.1.0 e))) said'

  many : most_lent ≤ length records → OnLent Says most_lent (loaded records most_lent) words
      → Says (roll_words records) (roll_words (saved words most_lent records))
  many l on =
      let first : take lent_words (loaded records most_lent) ≡ roll_words (take most_lent records) = loaded-words records most_lent l in
      let short : arrival_size * most_processes < length (take lent_words (loaded records most_lent))
      = omega (arith, ap length first, words-length (take most_lent records), length-take-le most_lent records l) in
      let long : arrival_size * most_processes < length (roll_words records) = omega (arith, words-length records, l) in
      let rest : List ℕ = drop lent_words (loaded records most_lent) in
      let kept = call.long (take lent_words (loaded records most_lent)) on.after short on.said in
      subst (Says (roll_words records))
      (sym (ap (λ (w : List ℕ). roll_words (saved w most_lent records)) (on.left_is ∙ ap (λ (w : List ℕ). w ++ rest) (kept.0 ∙ first))
      ∙ ap roll_words (saved-same records rest most_lent l))) (kept.1 (roll_words records) long)

  pub through : OnLent Says (lent_records (length records)) (loaded records (lent_records (length records))) words
      → Says (roll_words records) (roll_words (saved words (lent_records (length records)) records))
  through said =
      elim (dec_lt (length records) most_lent) [
        | yes l ↦
            let e : lent_records (length records) ≡ length records = omega arith in
            few (lent_records (length records)) e said
        | no m ↦
            let e : lent_records (length records) ≡ most_lent = omega arith in
            subst (λ (n : ℕ). OnLent Says n (loaded records n) words → Says (roll_words records) (roll_words (saved words n records)))
            (sym e) (many (omega arith)) said
      ]

-- what a call gives on the words of a roll is said of the roll, where it gives what is said of such a call
pub through_words : (Says Told : List ℕ → List ℕ → Type 0) → Call Told → ((before after : List ℕ) → Says before after → Told before after)
    → (roll left : List Arrival) → ThroughWords Says roll left → Told (roll_words roll) (roll_words left)
through_words Says Told call tells roll left t =
    let on : OnLent Told (lent_records (length roll)) (loaded roll (lent_records (length roll))) t.words
    = record { after = t.said.after; said = tells _ _ t.said.said; left_is = t.said.left_is } in
    subst (λ (r : List Arrival). Told (roll_words roll) (roll_words r)) (sym t.left_is) (through Told call roll t.words on)
