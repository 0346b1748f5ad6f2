-- The measure is twice the node number, and one more for `value_at`, which hands the same node on.
use Rattle.std.proofs.Common.{◌+◌, ◌*◌}
use Rattle.values.proofs.evaluation.+evaluate_value_at.Given as goal

abbrev pub decreases-evaluate : goal.decreases-evaluate
decreases-evaluate l = 2 * l.n

abbrev pub decreases-value_at : goal.decreases-value_at
decreases-value_at l = 2 * l.n + 1
