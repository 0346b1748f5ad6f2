-- `both::Both::of` meets its contract.
use Rattle.table.proofs.PassingLaws.{read-shaped}
use Rattle.linker.proofs.both.Both.of.Goals as goal

pub of-requires : goal.of-requires
of-requires c = read-shaped (record { passed = c.requires.0 })

pub of-requires-2 : goal.of-requires-2
of-requires-2 c = read-shaped (record { passed = c.requires.1 })
