-- `ffi::fc_latches` meets its contract: the view of the latches is copied as far as it fits.
use Rattle.std.proofs.Common.{ap, length, arith}
use Rattle.ffi.proofs.CopyLaws.{few_latches}
use Rattle.ffi.proofs.fc_latches.Goals as goal

pub overflow_cast-result : goal.overflow_cast-result
overflow_cast-result c =
    omega (
      arith,
      c.min-n.ensures,
      ap length c.latches-latches.ensures,
      few_latches c.args.state.now c.args.process,
    )
