-- `ffi::fc_start` meets its contract, from those of its callees.
use mathlib.Core.Path.{◌∙◌, ap}
use Rattle.ffi.specs.Numbers.{verdict_number}
use Rattle.ffi.proofs.fc_start.Goals as goal

pub returns : goal.returns
returns c =
    record {
      answered = c.verdict_number.ensures ∙ ap verdict_number c.start.ensures.answered;
      left = c.start.ensures.left;
      written = c.start.ensures.written;
    }
