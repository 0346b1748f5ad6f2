-- The order of questions as a minimum: a refusal is one number, and the first refusal is the least.
use Rattle.std.specs.Prelude.{Bool, cond, ℕ, zero, suc, ◌+◌, ◌*◌, ◌/◌, ◌%◌, min, ltb, Ok, Err}
use Rattle.rules.specs.Answers.{Verdict, Accepted, refused}

-- no refusal: larger than every refusal
abbrev pub none : ℕ
none = 4294967295

abbrev pub code : ℕ → ℕ → ℕ
code number place = number * 65536 + place

-- what a test at a place comes to
abbrev pub failure : ℕ → ℕ → Bool → ℕ
failure number place holds = cond holds none (code number place)

-- the least of `codes 0`, `codes 1`, .., `codes (count - 1)`
unfoldable pub least_below : (ℕ → ℕ) → ℕ → ℕ
least_below codes zero = none
least_below codes (suc n) = min (least_below codes n) (codes n)

abbrev pub rank : Verdict → ℕ
rank (Ok _) = none
rank (Err r) = code r.number r.place

abbrev pub verdict_of : ℕ → Verdict
verdict_of best = cond (ltb best none) (refused (best / 65536) (best % 65536)) Accepted
