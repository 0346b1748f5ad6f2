-- The words of a joined table: the library's as they were, the program's with other numbers of nodes.
use mathlib.Core.Bool.{Bool, true, false, cond}
use mathlib.Core.List.{List, [], ◌∷◌}
use mathlib.Core.Path.{◌≡◌, refl, sym, ◌∙◌, ap}
use Prim.Native.Nat.{ℕ, zero, suc, ◌+◌, ◌-◌, ◌*◌, ◌^◌, ◌≤◌, ◌<◌, max}
use native.Mathlib.Decide.{dec_lt, ℕ_discrete}
use native.Mathlib.Omega.{arith}
use lib.ListN.{get_or, replicate, get_or-replicate, get_or-eq_default}
use lib.Seq.{get_or-drop}
use Rattle.linker.specs.declared.both.Both.{Both}
use Rattle.linker.specs.Linking.{Joined, part_at, joined_nodes, joined_bytes, renumbered, renamed, linked, joinable}
use Rattle.linker.specs.Given.{Joinable, moved_by, MovableBy, body_unit, part_units}
use Rattle.linker.proofs.LinkFormed.{linked-fit}
use Rattle.linker.proofs.LinkLaws.{Links, both_formed, links, link-procedures, link-nodes, stubs-below, part-high, body-high}
use Rattle.linker.proofs.LinkLaws.{flagged_library, flagged-own, flagged-program, flag_library, flag_own}
use Rattle.linker.proofs.LinkLaws.{body_library, body-program, node_library, node-behind}
use Rattle.linker.proofs.RenameLaws.{node_parts, named, unknown_part}
use Rattle.rules.specs.declared.Node.{Node}
use Rattle.rules.specs.Answers.{Accepted}
use Rattle.rules.specs.Encoding.{header_word, flag_bits, body_word, packed, word_of}
use Rattle.rules.specs.Evaluation.{bit}
use Rattle.rules.specs.Table.{Program, decode, word_at, variables, procedures, nodes, flagged, body, effect_flag}
use Rattle.rules.specs.Table.{unpacked, node_at, expression_of, statement_of, expression_at, statement_at}
use Rattle.rules.specs.WellFormed.{most_table_bytes, parts_at, well_formed}
use Rattle.rules.proofs.AnywhereLaws.{In}
use Rattle.rules.proofs.EncodingLaws.{bit-low, word_of-procedure, word_of-node}
use Rattle.rules.proofs.Formed.{well-passes}
use Rattle.rules.proofs.ReencodingLaws.{packed-unpacked, word_1, word-procedure, word-node}
use Rattle.table.specs.declared.Header.{Header}
use Rattle.table.specs.Header.{header_of}
use Rattle.table.specs.Sized.{Sized}
use Rattle.table.proofs.PassingLaws.{read-shaped}
use Rattle.table.proofs.RoleLaws.{listed, Each, none, ◌also◌, each-kind, node}
use Rattle.table.proofs.ShapeLaws.{sized}

-- what a 1 in each part counts, by kind
unfoldable pub units : List ℕ
units =
    0 ∷ 0 ∷ 0 ∷ 0 ∷ 262144 ∷ 262144 ∷ 262656 ∷ 262656 ∷ 262656 ∷ 262656 ∷ 262656 ∷ 262656 ∷ 262656 ∷ 0 ∷ 0 ∷ 0
    ∷ 0 ∷ 512 ∷ 262656 ∷ 262657 ∷ 262656 ∷ 0 ∷ 262656 ∷ 0 ∷ 513 ∷ 262144 ∷ 0 ∷ 0 ∷ 0 ∷ 0 ∷ 0 ∷ 0 ∷ []

abbrev UnitsAt : ℕ → Type 0
UnitsAt k = (a b c : ℕ) → get_or units k 0 ≡ part_units (node k a b c)

units-known : Each UnitsAt listed
unfolding units part_units part_at expression_of statement_of
units-known =
    none also (λ a b c. refl) also (λ a b c. refl) also (λ a b c. refl) also (λ a b c. refl) also (λ a b c. refl)
    also (λ a b c. refl) also (λ a b c. refl) also (λ a b c. refl) also (λ a b c. refl) also (λ a b c. refl)
    also (λ a b c. refl) also (λ a b c. refl) also (λ a b c. refl) also (λ a b c. refl) also (λ a b c. refl)
    also (λ a b c. refl) also (λ a b c. refl) also (λ a b c. refl) also (λ a b c. refl) also (λ a b c. refl)
    also (λ a b c. refl) also (λ a b c. refl) also (λ a b c. refl) also (λ a b c. refl) also (λ a b c. refl)
    also (λ a b c. refl) also (λ a b c. refl)

units-past : (k : ℕ) → listed ≤ k → get_or units k 0 ≡ 0
unfolding units
units-past k h =
    let e : k ≡ listed + (k - listed) = omega arith in
    ap (λ n. get_or units n 0) e ∙ (sym (get_or-drop listed units (k - listed) 0) ∙ zeros (k - listed))
  where
    zeros : (n : ℕ) → ◌≡◌ {A = ℕ} (get_or (replicate 5 0) n 0) 0
    zeros n = elim (dec_lt n 5) [ yes l ↦ get_or-replicate 5 n 0 0 l | no m ↦ get_or-eq_default (replicate 5 0) 0 {n = n} (omega arith) ]

units_unknown : (k : ℕ) → listed ≤ k → UnitsAt k
unfolding part_units
units_unknown k h a b c =
    rw (unknown_part k a b c h 0, unknown_part k a b c h 1, unknown_part k a b c h 2) (units-past k h)

pub units_of : (m : Node) → get_or units m.kind 0 ≡ part_units m
units_of m = each-kind UnitsAt units-known units_unknown m.kind m.a m.b m.c

-- the counts of kinds that one arm takes together
or_else : (k j : ℕ) {n : ℕ} → get_or units j 0 ≡ n → ((k ≡ j → ⊥) → get_or units k 0 ≡ n) → get_or units k 0 ≡ n
or_else k j here other = elim (ℕ_discrete k j) [ yes e ↦ rw e here | no n ↦ other n ]

pub units_operation : (k : ℕ) → 6 ≤ k → k < 13 → get_or units k 0 ≡ 262656
unfolding units
units_operation k low high =
    or_else k 6 refl (λ a. or_else k 7 refl (λ b. or_else k 8 refl (λ c.
    or_else k 9 refl (λ d. or_else k 10 refl (λ e. or_else k 11 refl (λ f.
    let last : k ≡ 12 = omega (arith, a, b, c, d, e, f) in rw last refl))))))

pub units_read : (k : ℕ) → 4 ≤ k → k < 6 → get_or units k 0 ≡ 262144
unfolding units
units_read k low high = or_else k 4 refl (λ a. let last : k ≡ 5 = omega (arith, a) in rw last refl)

pub units_few : (k : ℕ) → k < 4 → get_or units k 0 ≡ 0
unfolding units
units_few k few =
    or_else k 0 refl (λ a. or_else k 1 refl (λ b. or_else k 2 refl (λ c.
    let last : k ≡ 3 = omega (arith, a, b, c) in rw last refl)))

pub units_none : (k : ℕ) → 13 ≤ k → (k ≡ 17 → ⊥) → (k ≡ 18 → ⊥) → (k ≡ 19 → ⊥) → (k ≡ 20 → ⊥)
    → (k ≡ 22 → ⊥) → (k ≡ 24 → ⊥) → (k ≡ 25 → ⊥) → get_or units k 0 ≡ 0
unfolding units
units_none k low a b c d f g h =
    or_else k 13 refl (λ i. or_else k 14 refl (λ j. or_else k 15 refl (λ l. or_else k 16 refl (λ m.
    or_else k 21 refl (λ e. or_else k 23 refl (λ n. or_else k 26 refl (λ o.
    units-past k (omega (arith, a, b, c, d, e, f, g, h, i, j, l, m, n, o)))))))))

-- what is read of a node's word
module _ (word kind : ℕ) (m : Node) (is : unpacked word ≡ m) (k : kind ≡ (unpacked word).kind) where
  pub read-packed : word ≡ packed m
  read-packed = sym (packed-unpacked word) ∙ ap packed is

  pub read-units : (one : ℕ) → ((a b c : ℕ) → one ≡ part_units (node kind a b c)) → one ≡ part_units m
  read-units one counts = counts m.a m.b m.c ∙ ap (λ n. part_units (node n m.a m.b m.c)) (k ∙ ap (λ (x : Node). x.kind) is)

-- the fields of a node, each moved or not: L less and N more in those that are parts
fields_moved : (pa pb pc : Bool) (a b c L N : ℕ) → (pa ≡ true → L ≤ a) → (pb ≡ true → L ≤ b) → (pc ≡ true → L ≤ c) → (high : ℕ)
    → (high + cond pa (N + (a - L)) a * 2 ^ 18 + cond pb (N + (b - L)) b * 2 ^ 9 + cond pc (N + (c - L)) c
    ≡ high + a * 2 ^ 18 + b * 2 ^ 9 + c - L * (bit pa * 2 ^ 18 + bit pb * 2 ^ 9 + bit pc)
    + N * (bit pa * 2 ^ 18 + bit pb * 2 ^ 9 + bit pc))
    × (L * (bit pa * 2 ^ 18 + bit pb * 2 ^ 9 + bit pc) ≤ high + a * 2 ^ 18 + b * 2 ^ 9 + c)
fields_moved true true true a b c L N ha hb hc high =
    let x = ha refl in let y = hb refl in let z = hc refl in (omega arith, omega arith)
fields_moved true true false a b c L N ha hb hc high = let x = ha refl in let y = hb refl in (omega arith, omega arith)
fields_moved true false true a b c L N ha hb hc high = let x = ha refl in let z = hc refl in (omega arith, omega arith)
fields_moved true false false a b c L N ha hb hc high = let x = ha refl in (omega arith, omega arith)
fields_moved false true true a b c L N ha hb hc high = let y = hb refl in let z = hc refl in (omega arith, omega arith)
fields_moved false true false a b c L N ha hb hc high = let y = hb refl in (omega arith, omega arith)
fields_moved false false true a b c L N ha hb hc high = let z = hc refl in (omega arith, omega arith)
fields_moved false false false a b c L N ha hb hc high = (omega arith, omega arith)

-- by the counts of the library
module _ (library program : Program) (L N : ℕ) (stubs : L ≡ procedures library) (own : N ≡ nodes library) where
  renumbered-by : (n : ℕ) → renumbered library program n ≡ N + (n - L)
  unfolding renumbered
  renumbered-by n = rw (stubs, own)

  node-moved : (m : Node) → ((x : ℕ) → In x (node_parts m) → procedures library ≤ x)
      → (packed (renamed (renumbered library program) m) ≡ packed m - L * part_units m + N * part_units m)
      × (L * part_units m ≤ packed m)
  unfolding packed renamed part_units
  node-moved m high =
      rw (renumbered-by m.a, renumbered-by m.b, renumbered-by m.c)
      (fields_moved (part_at m 0) (part_at m 1) (part_at m 2) m.a m.b m.c L N
      (λ e. rw stubs (high m.a ((named m).0 e)))
      (λ e. rw stubs (high m.b ((named m).1 e)))
      (λ e. rw stubs (high m.c ((named m).2 e)))
      (m.kind * 2 ^ 27))

  body-moved : (b low : ℕ) → procedures library ≤ b
      → (renumbered library program b * 2 ^ 24 + low ≡ b * 2 ^ 24 + low - L * 2 ^ 24 + N * 2 ^ 24)
      × (L * 2 ^ 24 ≤ b * 2 ^ 24 + low)
  body-moved b low h = rw (renumbered-by b) (omega (arith, stubs), omega (arith, stubs))

flags-same : (first second : ℕ → Bool) → ((v : ℕ) → first v ≡ second v) → (n : ℕ) → flag_bits first n ≡ flag_bits second n
unfolding flag_bits
flags-same first second same zero = refl
flags-same first second same (suc n) = simp (flags-same first second same n, same n)

-- two tables' bytes that pass 27 to 29 as well, and the headers read off them
pub record Joining (library program : List ℕ) (own its : Header) : Type 0 where
  pub passed : joinable library program ≡ Joined
  pub headed_library : own ≡ header_of library
  pub headed-program : its ≡ header_of program

pub joining : (both : Both) → Joinable both
    → Joining both.library.bytes.now both.program.bytes.now both.library.header both.program.header
joining both j =
    record { passed = j; headed_library = both.library.sized.read; headed-program = both.program.sized.read }

module _ {library program : List ℕ} {own its : Header} (j : Joining library program own its) where
  abbrev J : Program
  J = linked (decode library) (decode program)

  pub linked_up : Links (decode library) (decode program)
  linked_up = links library program j.passed

  own-formed : well_formed library ≡ Accepted
  own-formed = (both_formed library program j.passed).0

  its_formed : well_formed program ≡ Accepted
  its_formed = (both_formed library program j.passed).1

  library_sized : Sized library own
  library_sized = rw j.headed_library (sized library (read-shaped (record { passed = own-formed })))

  program_sized : Sized program its
  program_sized = rw j.headed-program (sized program (read-shaped (record { passed = its_formed })))

  -- the program has a procedure and a node for each stub
  pub procedures-there : own.procedures ≤ its.procedures
  procedures-there = omega (arith, library_sized.procedures-read, program_sized.procedures-read, linked_up.left)

  pub nodes-there : own.procedures ≤ its.nodes
  nodes-there = omega (arith, library_sized.procedures-read, program_sized.nodes-read, stubs-below linked_up)

  pub counted : 2 + its.procedures + own.nodes + (its.nodes - own.procedures)
      ≡ 2 + procedures (linked (decode library) (decode program)) + nodes (linked (decode library) (decode program))
  counted =
      omega (
        arith,
        link-procedures linked_up,
        link-nodes linked_up,
        library_sized.procedures-read,
        library_sized.nodes-read,
        program_sized.procedures-read,
        program_sized.nodes-read,
      )

  -- word 0 and word 1

  pub header-joined : word_of (linked (decode library) (decode program)) 0
      ≡ 2 ^ 28 + max own.variables its.variables * 2 ^ 22
      + its.procedures * 2 ^ 17 + (own.nodes + (its.nodes - own.procedures)) * 2 ^ 8
  unfolding word_of header_word variables procedures nodes linked joined_nodes
  header-joined =
      rw (
        library_sized.variables-read,
        program_sized.variables-read,
        library_sized.procedures-read,
        library_sized.nodes-read,
        program_sized.procedures-read,
        program_sized.nodes-read,
      )

  pub flags-program : own.variables < its.variables → word_at program 1 < 2 ^ 32
      → flag_bits (flagged (linked (decode library) (decode program))) 32 ≡ word_at program 1
  flags-program l fits =
      flags-same (flagged J) (flagged (decode program))
      (λ v. elim (dec_lt v (variables (decode program))) [
        | yes b ↦ flagged-program linked_up v b
        | no m ↦ flagged-own linked_up v (omega (arith, library_sized.variables-read, program_sized.variables-read))
      ])
      32
      ∙ word_1 program (well-passes program its_formed) fits

  pub flags_library : its.variables ≤ own.variables → word_at library 1 < 2 ^ 32
      → flag_bits (flagged (linked (decode library) (decode program))) 32 ≡ word_at library 1
  flags_library h fits =
      flags-same (flagged J) (flagged (decode library))
      (λ v. elim (dec_lt v (variables (decode library))) [
        | yes b ↦ flagged_library linked_up v b
        | no m ↦
            flagged-own linked_up v (omega arith)
            ∙ (linked_up.of_program.bounds.flags_off v (omega (arith, library_sized.variables-read, program_sized.variables-read))
            ∙ sym (linked_up.of_library.bounds.flags_off v (omega arith)))
      ])
      32
      ∙ word_1 library (well-passes library own-formed) fits

  -- procedures

  pub procedure-kept : (p : ℕ) → p < own.procedures
      → word_at library (2 + p) ≡ word_of (linked (decode library) (decode program)) (2 + p)
  procedure-kept p l =
      let here : p < procedures (decode library) = omega (arith, library_sized.procedures-read) in
      sym
      (word_of-procedure J p (omega (arith, link-procedures linked_up, linked_up.left))
      ∙ (ap (λ b. body_word b (effect_flag J p)) (body_library linked_up p here)
      ∙ (ap (body_word (body (decode library) p)) (flag_library linked_up p here)
      ∙ word-procedure library (well-passes library own-formed) p here)))

  module _ (k : ℕ) (l : k < its.procedures - own.procedures) where
    abbrev p : ℕ
    p = own.procedures + k

    other : procedures (decode library) ≤ p
    other = omega (arith, library_sized.procedures-read)

    there : p < procedures (decode program)
    there = omega (arith, program_sized.procedures-read)

    its_word : word_at program (2 + own.procedures + k)
        ≡ body (decode program) p * 2 ^ 24 + bit (effect_flag (decode program) p) * 2 ^ 23
    unfolding body_word
    its_word =
        let place : 2 + own.procedures + k ≡ 2 + p = omega arith in
        rw place (sym (word-procedure program (well-passes program its_formed) p there))

    moves : (body_word (body J p) (effect_flag J p) ≡ moved_by own body_unit (word_at program (2 + own.procedures + k)))
        × (own.procedures * body_unit ≤ word_at program (2 + own.procedures + k))
    unfolding body_word
    moves =
        rw (body-program linked_up p other there, flag_own linked_up p other, its_word)
        (body-moved (decode library) (decode program) _ _ library_sized.procedures-read library_sized.nodes-read
        (body (decode program) p) (bit (effect_flag (decode program) p) * 2 ^ 23) (body-high linked_up p other there))

    pub procedure-moved : moved_by own body_unit (word_at program (2 + own.procedures + k))
        ≡ word_of (linked (decode library) (decode program)) (2 + own.procedures + k)
    procedure-moved =
        sym (word_of-procedure J p (omega (arith, link-procedures linked_up, there)) ∙ moves.0) ∙ ap (word_of J) (omega arith)

    pub procedure_movable : MovableBy own body_unit (word_at program (2 + own.procedures + k))
    unfolding body_word
    procedure_movable =
        let below = (linked-fit linked_up).bodies-fit p (omega (arith, link-procedures linked_up, there)) in
        (moves.1, omega (arith, moves.0, below, bit-low (effect_flag J p)))

  -- nodes

  pub node_kept : (n : ℕ) → n < own.nodes
      → word_at library (2 + own.procedures + n)
      ≡ word_of (linked (decode library) (decode program)) (2 + its.procedures + n)
  node_kept n l =
      rw (library_sized.procedures-read, program_sized.procedures-read, ← link-procedures linked_up)
      (sym
      (word_of-node J n
      ∙ (ap packed (node_library linked_up n (omega (arith, library_sized.nodes-read))) ∙ word-node library n)))

  module _ (k : ℕ) (l : k < its.nodes - own.procedures) where
    abbrev m : Node
    m = node_at (decode program) (own.procedures + k)

    new : node_at J (own.nodes + k) ≡ renamed (renumbered (decode library) (decode program)) m
    new =
        let back : procedures (decode library) + (own.nodes + k - nodes (decode library))
        ≡ own.procedures + k =
        omega (arith, library_sized.nodes-read, library_sized.procedures-read) in
        node-behind linked_up (own.nodes + k) (omega (arith, library_sized.nodes-read))
        ∙ ap (λ n. renamed (renumbered (decode library) (decode program)) (node_at (decode program) n)) back

    moved : (packed (renamed (renumbered (decode library) (decode program)) m) ≡ moved_by own (part_units m) (packed m))
        × (own.procedures * part_units m ≤ packed m)
    unfolding parts_at expression_at statement_at
    moved =
        node-moved (decode library) (decode program) _ _ library_sized.procedures-read library_sized.nodes-read m
        (part-high linked_up (own.procedures + k))

    pub node-moves : moved_by own (part_units (node_at (decode program) (own.procedures + k)))
        (packed (node_at (decode program) (own.procedures + k)))
        ≡ word_of (linked (decode library) (decode program)) (2 + its.procedures + own.nodes + k)
    node-moves =
        sym (word_of-node J (own.nodes + k) ∙ (ap packed new ∙ moved.0))
        ∙ ap (word_of J) (omega (arith, program_sized.procedures-read, link-procedures linked_up))

    pub node_movable : MovableBy own (part_units (node_at (decode program) (own.procedures + k)))
        (packed (node_at (decode program) (own.procedures + k)))
    unfolding packed
    node_movable =
        let n = own.nodes + k in
        let here : n < nodes J = omega (arith, link-nodes linked_up, library_sized.nodes-read, program_sized.nodes-read, library_sized.procedures-read) in
        let kind = (linked-fit linked_up).kinds_fit n here in
        let fields = (linked-fit linked_up).fields_fit n here in
        let whole : packed (node_at J n) ≡ moved_by own (part_units m) (packed m) = ap packed new ∙ moved.0 in
        (moved.1, omega (arith, whole, kind, fields.0, fields.1, fields.2))

  -- the length

  pub bytes-joined : 4 * (2 + its.procedures + (own.nodes + (its.nodes - own.procedures)))
      ≡ joined_bytes (decode library) (decode program)
  unfolding joined_nodes
  bytes-joined = rw (library_sized.procedures-read, library_sized.nodes-read, program_sized.procedures-read, program_sized.nodes-read)

  pub bytes-few : 4 * (2 + its.procedures + (own.nodes + (its.nodes - own.procedures))) ≤ most_table_bytes
  unfolding joined_nodes
  bytes-few =
      let nodes-most = linked_up.few in
      omega (arith, bytes-joined, linked_up.of_program.bounds.procedures-high)
