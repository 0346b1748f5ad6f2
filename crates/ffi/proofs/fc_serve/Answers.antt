-- `ffi::fc_serve` meets its contract, from those of its callees.
use mathlib.Core.Path.{◌∙◌}
use Rattle.ffi.proofs.fc_serve.Goals as goal

pub returns : goal.returns
returns c =
    let end = c.serve.ensures in
    record {
      answered = c.from.ensures ∙ rw (end.made, end.last, end.answered);
      left = end.left;
      written = end.written;
    }
