-- `ffi::verdict_number` meets its contract, from those of its callees.
use Rattle.ffi.proofs.verdict_number.Goals as goal

pub returns-in-Err : goal.returns-in-Err
returns-in-Err c = simp c.in-Err.is
