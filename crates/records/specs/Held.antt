-- What a call says of the slices lent to it, of the words of a roll, and of a team's records held by value.
use Rattle.std.specs.Prelude.{List, ◌++◌, ◌≡◌, ℕ, ◌*◌, length, take, drop}
use Rattle.std.specs.Fn.{Once}
use denote.Ref.{MutBor}
use Rattle.rules.specs.declared.Arrival.{Arrival}
use Rattle.rules.specs.Arrivals.{arrival_size}
use Rattle.records.specs.Roll.{lent_records, loaded, saved}

-- a call of f at a state and a roll lent by `&mut` may give r and leave state' and roll'
pub record GivesTwo {F S T R : Type 0}
    (g : Once F (MutBor S × (MutBor T × Unit {0})) (R × (MutBor S × (MutBor T × Unit {0})))) (f : F)
    (state : S) (roll : T) (r : R) (state' : S) (roll' : T) : Type 0 where
  pub first : MutBor S
  pub second : MutBor T
  pub first_is : first.now ≡ state
  pub second_is : second.now ≡ roll
  pub first_left : MutBor S
  pub second_left : MutBor T
  pub met : g.post f (first, (second, tt)) (r, (first_left, (second_left, tt)))
  pub first_leaves : first_left.now ≡ state'
  pub second_leaves : second_left.now ≡ roll'

-- `Says before after` holds of the first n of some items, as they are lent and as they are left; the items after those stay.
pub record OnFirst {A : Type 0} (Says : List A → List A → Type 0) (n : ℕ) (lent left : List A) : Type 0 where
  pub after : List A
  pub said : Says (take n lent) after
  pub left_is : left ≡ after ++ drop n lent

-- what is said of the words of the first n records
abbrev pub OnLent : (List ℕ → List ℕ → Type 0) → ℕ → List ℕ → List ℕ → Type 0
OnLent Says n lent left = OnFirst Says (arrival_size * n) lent left

-- what is said of the words that are loaded of a roll of records; the records left are those saved from the words left
pub record ThroughWords (Says : List ℕ → List ℕ → Type 0) (roll left : List Arrival) : Type 0 where
  pub words : List ℕ
  pub said : OnLent Says (lent_records (length roll)) (loaded roll (lent_records (length roll))) words
  pub left_is : left ≡ saved words (lent_records (length roll)) roll
