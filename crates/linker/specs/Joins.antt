-- What is claimed of a joined table.
use Rattle.std.specs.Prelude.{List, ◌≡◌, ℕ, ◌≤◌, length}
use Rattle.linker.specs.Linking.{Joined, linked, link_answer, link_output, joined_length}
use Rattle.rules.specs.Answers.{Accepted}
use Rattle.rules.specs.Acceptance.{checked}
use Rattle.rules.specs.Table.{decode}
use Rattle.rules.specs.WellFormed.{well_formed}

-- any call leaves an output of the length that it was lent
abbrev pub KeepsLength : Type 0
KeepsLength = (library program output : List ℕ) → length (link_output library program output) ≡ length output

-- a call is taken exactly if the output has the length told beforehand, and that is not 0
abbrev pub LengthTold : Type 0
LengthTold =
    (library program output : List ℕ)
    → (link_answer library program output ≡ Joined
    → (1 ≤ joined_length library program) × (length output ≡ joined_length library program))
    × (1 ≤ joined_length library program → length output ≡ joined_length library program
    → link_answer library program output ≡ Joined)

-- what a joined table says, decoded, is the joined program
abbrev pub SaysJoined : Type 0
SaysJoined =
    (library program output : List ℕ) → link_answer library program output ≡ Joined
    → decode (link_output library program output) ≡ linked (decode library) (decode program)

-- a joined table passes 2 to 12 and 26, whatever the checker says of the two
abbrev pub FormedJoin : Type 0
FormedJoin =
    (library program output : List ℕ) → link_answer library program output ≡ Joined
    → well_formed (link_output library program output) ≡ Accepted

-- "Two accepted tables join into an accepted one."
abbrev pub AcceptedJoin : Type 0
AcceptedJoin =
    (library program output scratch : List ℕ) → checked library scratch ≡ Accepted → checked program scratch ≡ Accepted
    → link_answer library program output ≡ Joined → checked (link_output library program output) scratch ≡ Accepted
