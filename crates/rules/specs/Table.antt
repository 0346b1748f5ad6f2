-- "Words of a table": words out of bytes, header, procedures, nodes, and the two decoded views of a node.
use Rattle.std.specs.Prelude.{Bool, true, false, cond, ◌&&◌, List, [], ◌∷◌, ℕ, ◌+◌, ◌-◌, ◌*◌, ◌/◌, ◌%◌, ◌^◌, ltb, eqb, get_or}
use Rattle.rules.specs.declared.Node.{Node}

-- "A table is 32-bit words, high byte first." A word past the end reads as 0.
unfoldable pub word_at : List ℕ → ℕ → ℕ
word_at table i =
    get_or table (4 * i) 0 * 2 ^ 24 + get_or table (4 * i + 1) 0 * 2 ^ 16 + get_or table (4 * i + 2) 0 * 2 ^ 8
    + get_or table (4 * i + 3) 0

-- "Word 0: edition, 4 bits .. variables V, 6 bits .. procedures P, 5 bits .. nodes N, 9 bits .. 8 zero bits."
unfoldable pub edition : List ℕ → ℕ
edition table = word_at table 0 / 2 ^ 28

-- "P procedure words: body node, 8 bits; effect flag, 1 bit; 23 zero bits. The last procedure is the main one."
unfoldable pub procedure_word : List ℕ → ℕ → ℕ
procedure_word table p = word_at table (2 + p)

-- "N node words: kind, 5 bits; fields A, B, C, 9 bits each."
unfoldable pub unpacked : ℕ → Node
unpacked word = record { kind = word / 2 ^ 27; a = word / 2 ^ 18 % 512; b = word / 2 ^ 9 % 512; c = word % 512 }

-- what the words of a table say, whatever they are laid out in
pub record Program : Type 0 where
  pub variables : ℕ
  pub procedures : ℕ
  pub nodes : ℕ
  pub flagged : ℕ → Bool
  pub body : ℕ → ℕ
  pub effect_flag : ℕ → Bool
  pub node : ℕ → Node

-- "Word 1: single flags. The highest bit belongs to variable 0." A variable or a procedure that the words have no place for is not
-- flagged and has body 0. A node past the last is whatever words follow; in a table that passes question 4 none do, and it is all 0.
unfoldable pub decode : List ℕ → Program
decode table =
    let procedures = word_at table 0 / 2 ^ 17 % 32 in
    record {
      variables = word_at table 0 / 2 ^ 22 % 64;
      procedures = procedures;
      nodes = word_at table 0 / 2 ^ 8 % 512;
      flagged = λ a. ltb a 32 && eqb (word_at table 1 / 2 ^ (31 - a) % 2) 1;
      body = λ p. cond (ltb p procedures) (procedure_word table p / 2 ^ 24) 0;
      effect_flag = λ p. ltb p procedures && eqb (procedure_word table p / 2 ^ 23 % 2) 1;
      node = λ n. unpacked (word_at table (2 + procedures + n));
    }

-- its parts, each under a name that laws can rewrite
unfoldable pub variables : Program → ℕ
variables program = program.variables

unfoldable pub procedures : Program → ℕ
procedures program = program.procedures

unfoldable pub nodes : Program → ℕ
nodes program = program.nodes

unfoldable pub flagged : Program → ℕ → Bool
flagged program a = program.flagged a

unfoldable pub body : Program → ℕ → ℕ
body program p = program.body p

unfoldable pub effect_flag : Program → ℕ → Bool
effect_flag program p = program.effect_flag p

unfoldable pub main_body : Program → ℕ
main_body program = body program (procedures program - 1)

unfoldable pub node_at : Program → ℕ → Node
node_at program n = program.node n

-- the bounds of kinds: expressions from 0 on, statements from the first to the last
abbrev pub last_expression : ℕ
last_expression = 12

abbrev pub first_statement : ℕ
first_statement = 16

abbrev pub last_statement : ℕ
last_statement = 26

-- "A bank has four rosters of sixteen. Kinds 5 and 25 name one in field B, 0 to 3." A roster is called a gathered area here.
abbrev pub gathered_areas : ℕ
gathered_areas = 4

-- kinds 6 to 12
pub data Operator : Type 0 where
  sum difference product quotient less equal both : Operator

-- "Expressions", in the order of their kinds 0 to 12; parts are node numbers, and a slot's second number is its area
pub data Expression : Type 0 where
  constant : ℕ → Expression
  variable : ℕ → Expression
  own_number : Expression
  process_count : Expression
  door : ℕ → Expression
  slot : ℕ → ℕ → Expression
  operation : Operator → ℕ → ℕ → Expression

-- kinds 23 to 25, the collectives (the paper's meetings); an exchange's second number is the area that it fills
pub data Collective : Type 0 where
  barrier : Collective
  broadcast : ℕ → ℕ → ℕ → Collective
  exchange : ℕ → ℕ → Collective

-- "Statements", in the order of their kinds 16 to 22, the collectives, and "New statement kind 26, no fields"; parts are node
-- numbers
pub data Statement : Type 0 where
  nothing : Statement
  assign : ℕ → ℕ → Statement
  sequence : ℕ → ℕ → Statement
  branch : ℕ → ℕ → ℕ → Statement
  loop : ℕ → ℕ → Statement
  call : ℕ → Statement
  latch : ℕ → ℕ → Statement
  collective : Collective → Statement
  leave : Statement

-- the expression that a node is; one that is none reads as the constant 0
unfoldable pub expression_of : Node → Expression
expression_of m =
    get_or
    (constant (m.b * 512 + m.c)
    ∷ variable m.a
    ∷ own_number
    ∷ process_count
    ∷ door m.a
    ∷ slot m.a m.b
    ∷ operation sum m.a m.b
    ∷ operation difference m.a m.b
    ∷ operation product m.a m.b
    ∷ operation quotient m.a m.b
    ∷ operation less m.a m.b
    ∷ operation equal m.a m.b
    ∷ operation both m.a m.b
    ∷ [])
    m.kind
    (constant 0)

-- the statement that a node is; one that is none reads as nothing
unfoldable pub statement_of : Node → Statement
statement_of m =
    get_or
    (nothing
    ∷ assign m.a m.b
    ∷ sequence m.a m.b
    ∷ branch m.a m.b m.c
    ∷ loop m.a m.b
    ∷ call m.a
    ∷ latch m.a m.b
    ∷ collective barrier
    ∷ collective (broadcast m.a m.b m.c)
    ∷ collective (exchange m.a m.b)
    ∷ leave
    ∷ [])
    (m.kind - first_statement)
    nothing

unfoldable pub expression_at : Program → ℕ → Expression
expression_at program n = expression_of (node_at program n)

unfoldable pub statement_at : Program → ℕ → Statement
statement_at program n = statement_of (node_at program n)

-- what a field stands for: a variable, a procedure, a gathered area, or a part of the sort named
pub data Operand : Type 0 where
  variable_operand procedure_operand area_operand expression_operand statement_operand : ℕ → Operand

-- the fields that a node names, in the order A, B, C: the first so many. A constant has a value in B and C and no operand.
abbrev pub expression_operands : Expression → List Operand
expression_operands (constant v) = []
expression_operands (variable a) = variable_operand a ∷ []
expression_operands own_number = []
expression_operands process_count = []
expression_operands (door a) = expression_operand a ∷ []
expression_operands (slot a r) = expression_operand a ∷ area_operand r ∷ []
expression_operands (operation o a b) = expression_operand a ∷ expression_operand b ∷ []

abbrev pub collective_operands : Collective → List Operand
collective_operands barrier = []
collective_operands (broadcast a b c) = variable_operand a ∷ expression_operand b ∷ expression_operand c ∷ []
collective_operands (exchange a r) = expression_operand a ∷ area_operand r ∷ []

abbrev pub statement_operands : Statement → List Operand
statement_operands nothing = []
statement_operands (assign a b) = variable_operand a ∷ expression_operand b ∷ []
statement_operands (sequence a b) = statement_operand a ∷ statement_operand b ∷ []
statement_operands (branch a b c) = expression_operand a ∷ statement_operand b ∷ statement_operand c ∷ []
statement_operands (loop a b) = expression_operand a ∷ statement_operand b ∷ []
statement_operands (call p) = procedure_operand p ∷ []
statement_operands (latch a b) = expression_operand a ∷ expression_operand b ∷ []
statement_operands (collective k) = collective_operands k
statement_operands leave = []

-- what is said of a collective, and of any other statement
abbrev pub on_collective : {A : Type 0} → Statement → (Collective → A) → A → A
on_collective nothing meet other = other
on_collective (assign a b) meet other = other
on_collective (sequence a b) meet other = other
on_collective (branch a b c) meet other = other
on_collective (loop a b) meet other = other
on_collective (call p) meet other = other
on_collective (latch a b) meet other = other
on_collective (collective k) meet other = meet k
on_collective leave meet other = other

-- the same of an if, of a while and of a call
abbrev pub on_branch : {A : Type 0} → Statement → (ℕ → ℕ → ℕ → A) → A → A
on_branch nothing choose other = other
on_branch (assign a b) choose other = other
on_branch (sequence a b) choose other = other
on_branch (branch a b c) choose other = choose a b c
on_branch (loop a b) choose other = other
on_branch (call p) choose other = other
on_branch (latch a b) choose other = other
on_branch (collective k) choose other = other
on_branch leave choose other = other

abbrev pub on_loop : {A : Type 0} → Statement → (ℕ → ℕ → A) → A → A
on_loop nothing repeat other = other
on_loop (assign a b) repeat other = other
on_loop (sequence a b) repeat other = other
on_loop (branch a b c) repeat other = other
on_loop (loop a b) repeat other = repeat a b
on_loop (call p) repeat other = other
on_loop (latch a b) repeat other = other
on_loop (collective k) repeat other = other
on_loop leave repeat other = other

abbrev pub on_call : {A : Type 0} → Statement → (ℕ → A) → A → A
on_call nothing enter other = other
on_call (assign a b) enter other = other
on_call (sequence a b) enter other = other
on_call (branch a b c) enter other = other
on_call (loop a b) enter other = other
on_call (call p) enter other = enter p
on_call (latch a b) enter other = other
on_call (collective k) enter other = other
on_call leave enter other = other

-- kind 26
abbrev pub is_leave : Statement → Bool
is_leave nothing = false
is_leave (assign a b) = false
is_leave (sequence a b) = false
is_leave (branch a b c) = false
is_leave (loop a b) = false
is_leave (call p) = false
is_leave (latch a b) = false
is_leave (collective k) = false
is_leave leave = true
