-- What the code is given, the two tables with their counts, and what it works out of these.
use Rattle.std.specs.Prelude.{◌≡◌, ℕ, ◌+◌, ◌-◌, ◌*◌, ◌^◌, ◌≤◌, ◌<◌}
use Rattle.linker.specs.declared.both.Both.{Both}
use Rattle.linker.specs.Linking.{Joined, part_at, joinable}
use Rattle.rules.specs.declared.Node.{Node}
use Rattle.rules.specs.Encoding.{packed}
use Rattle.rules.specs.Evaluation.{bit}
use Rattle.rules.specs.Table.{Program, decode, word_at, node_at}
use Rattle.table.specs.declared.Header.{Header}

-- what the two tables say
abbrev pub library_of : Both → Program
library_of both = decode both.library.bytes.now

abbrev pub program_of : Both → Program
program_of both = decode both.program.bytes.now

-- they pass 27 to 29 as well
abbrev pub Joinable : Both → Type 0
Joinable both = joinable both.library.bytes.now both.program.bytes.now ≡ Joined

-- how many procedures and nodes the program has behind its stubs
abbrev pub bodies_behind : Both → ℕ
bodies_behind both = both.program.header.procedures - both.library.header.procedures

abbrev pub nodes_behind : Both → ℕ
nodes_behind both = both.program.header.nodes - both.library.header.procedures

-- the nodes and the length of the joined table, by the counts
abbrev pub nodes_of : Both → ℕ
nodes_of both = both.library.header.nodes + nodes_behind both

abbrev pub bytes_of : Both → ℕ
bytes_of both = 4 * (2 + both.program.header.procedures + nodes_of both)

-- a word whose nodes are renumbered, of which a 1 counts `one` in the word: L less, and the library's nodes more
abbrev pub moved_by : Header → ℕ → ℕ → ℕ
moved_by library one word = word - library.procedures * one + library.nodes * one

abbrev pub moved_word : Both → ℕ → ℕ → ℕ
moved_word both = moved_by both.library.header

-- its nodes are no stubs, and stay in their bits
abbrev pub MovableBy : Header → ℕ → ℕ → Type 0
MovableBy library one word = (library.procedures * one ≤ word) × (moved_by library one word < 2 ^ 32)

abbrev pub Movable : Both → ℕ → ℕ → Type 0
Movable both = MovableBy both.library.header

-- what a 1 of its body counts in a procedure's word, and a 1 of each of its parts in a node's
abbrev pub body_unit : ℕ
body_unit = 2 ^ 24

unfoldable pub part_units : Node → ℕ
part_units m = bit (part_at m 0) * 2 ^ 18 + bit (part_at m 1) * 2 ^ 9 + bit (part_at m 2)

-- the program's words behind its stubs: of procedure L + k, and of node L + k
abbrev pub procedure_behind : Both → ℕ → ℕ
procedure_behind both k = word_at both.program.bytes.now (2 + both.library.header.procedures + k)

abbrev pub moved_procedure : Both → ℕ → ℕ
moved_procedure both k = moved_word both body_unit (procedure_behind both k)

abbrev pub node_behind : Both → ℕ → Node
node_behind both k = node_at (program_of both) (both.library.header.procedures + k)

abbrev pub moved_node : Both → Node → ℕ
moved_node both m = moved_word both (part_units m) (packed m)
