-- `asking::joined_nodes` meets its contract: the program has a node for each stub.
use Rattle.linker.proofs.WordLaws.{joining, nodes-there}
use Rattle.linker.proofs.asking.joined_nodes.Goals as goal

pub overflow_sub-result : goal.overflow_sub-result
overflow_sub-result c = nodes-there (joining c.args.both.now c.requires)
