-- `ffi::fc_step` meets its contract, from those of its callees.
use mathlib.Core.Path.{◌∙◌, ap}
use Rattle.ffi.specs.Numbers.{step_numbers}
use Rattle.ffi.proofs.fc_step.Goals as goal

pub returns : goal.returns
returns c =
    record {
      answered = c.from.ensures ∙ ap step_numbers c.step.ensures.answered;
      left = c.step.ensures.left;
      written = c.step.ensures.written;
    }
