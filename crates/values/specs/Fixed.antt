-- What the value that `fixing` returns, or none, says of an expression.
use Rattle.std.specs.Prelude.{ℕ, Option, Some, None}
use Rattle.rules.specs.Judgement.{Fixing, fixed, unfixed}

abbrev pub fixed_as : Option ℕ → Fixing
fixed_as (Some v) = fixed v
fixed_as None = unfixed
