-- "Joining a library to a table", request U8. The table that the library is joined to is the program, and a stand-in is a stub here.
use Rattle.std.specs.Prelude.{Bool, true, false, cond, ◌&&◌, ◌||◌, List, ◌++◌, map, ℕ, ◌+◌, ◌-◌, ◌*◌, min, max, leb, ltb, eqb, length, get_or}
use Rattle.std.specs.Bool.{beq}
use Rattle.linker.specs.declared.LinkRefusal.{LinkRefusal}
use Rattle.linker.specs.declared.LinkRefusal.TheVariants.{OfLibrary, OfProgram}
use Rattle.rules.specs.declared.Node.{Node}
use Rattle.std.specs.Prelude.{Result, Ok, Err}
use Rattle.rules.specs.Answers.{Verdict, ◌then◌, ask, ask_each}
use Rattle.rules.specs.Encoding.{encode}
use Rattle.rules.specs.Table.{Program, decode, variables, procedures, nodes, flagged, body, effect_flag, node_at}
use Rattle.rules.specs.Table.{expression_of, statement_of, expression_operands, statement_operands}
use Rattle.rules.specs.Table.{Operand, variable_operand, procedure_operand, area_operand, expression_operand, statement_operand}
use Rattle.rules.specs.WellFormed.{well_formed}

-- "procedures 0 to L − 1, whose bodies are nodes 0 to L − 1, each of kind 16, with the effect flags of the library's procedures"
unfoldable pub stub : Program → Program → ℕ → Bool
stub library program p =
    eqb (body program p) p
    && eqb (node_at program p).kind 16
    && beq (effect_flag library p) (effect_flag program p)

-- 27: "a stand-in missing, with another body or flag than said, at the lowest such procedure, or no program procedure left, at
-- L": each of 0, 1, .., L is a procedure of the program, and those below L are stubs
unfoldable pub procedure_links : Program → Program → ℕ → Bool
procedure_links library program p =
    ltb p (procedures program) && (leb (procedures library) p || stub library program p)

abbrev pub question27 : Program → Program → Verdict
question27 library program = ask_each 27 (1 + procedures library) (procedure_links library program)

-- 28: "shared flags that differ, at the lowest such variable"
unfoldable pub flags_agree : Program → Program → ℕ → Bool
flags_agree library program v = beq (flagged library v) (flagged program v)

abbrev pub question28 : Program → Program → Verdict
question28 library program = ask_each 28 (min (variables library) (variables program)) (flags_agree library program)

-- "The nodes are the library's, then the program's from node L on."
unfoldable pub joined_nodes : Program → Program → ℕ
joined_nodes library program = nodes library + (nodes program - procedures library)

-- "the joined length": the joined table's procedures are as many as the program's, stubs included
abbrev pub joined_bytes : Program → Program → ℕ
joined_bytes library program = 4 * (2 + procedures program + joined_nodes library program)

-- 29: "more than 256 nodes", and then "an output not exactly the joined length, place 0"
abbrev pub question29 : Program → Program → Verdict
question29 library program = ask 29 (leb (joined_nodes library program) 256)

abbrev pub output_question : Program → Program → List ℕ → Verdict
output_question library program output = ask 29 (eqb (length output) (joined_bytes library program))

-- the new number of a node of the program, from node L on
unfoldable pub renumbered : Program → Program → ℕ → ℕ
renumbered library program n = nodes library + (n - procedures library)

-- what is renumbered: the parts of a node. "Variables are shared by number", and a procedure keeps its number, since a stub has
-- the number of what it stands for.
abbrev pub names_node : Operand → Bool
names_node (variable_operand a) = false
names_node (procedure_operand p) = false
names_node (area_operand r) = false
names_node (expression_operand a) = true
names_node (statement_operand a) = true

-- whether the field A, B or C, at 0, 1 or 2, names a node
unfoldable pub part_at : Node → ℕ → Bool
part_at m i = get_or (map names_node (expression_operands (expression_of m) ++ statement_operands (statement_of m))) i false

-- a node with other numbers for its parts
unfoldable pub renamed : (ℕ → ℕ) → Node → Node
renamed to m =
    record {
      kind = m.kind;
      a = cond (part_at m 0) (to m.a) m.a;
      b = cond (part_at m 1) (to m.b) m.b;
      c = cond (part_at m 2) (to m.c) m.c;
    }

-- the joined program: "the library's procedures in their place", and the library's nodes, then the program's. "Variables are
-- shared by number; where one table has fewer, the other's flags count." Past the last procedure the body is 0, as `decode` has it.
unfoldable pub linked : Program → Program → Program
linked library program =
    record {
      variables = max (variables library) (variables program);
      procedures = procedures program;
      nodes = joined_nodes library program;
      flagged = λ v. cond (ltb v (variables library)) (flagged library v) (flagged program v);
      body = λ p.
          cond (ltb p (procedures library)) (body library p)
          (cond (ltb p (procedures program)) (renumbered library program (body program p)) 0);
      effect_flag = λ p. cond (ltb p (procedures library)) (effect_flag library p) (effect_flag program p);
      node = λ n.
          cond (ltb n (nodes library)) (node_at library n)
          (renamed (renumbered library program) (node_at program (procedures library + (n - nodes library))));
    }

-- the answer: the joined table is written, or it is refused
abbrev pub Link : Type 0
Link = Result (Unit {0}) LinkRefusal

abbrev pub Joined : Link
Joined = Ok tt

-- "library first, the answer saying which table (the program for 27 to 29)"
abbrev pub ask_library : Verdict → Link → Link
ask_library (Ok _) next = next
ask_library (Err r) next = Err (OfLibrary r)

abbrev pub ask_program : Verdict → Link
ask_program (Ok _) = Joined
ask_program (Err r) = Err (OfProgram r)

-- what is answered once nothing failed, and where something did
abbrev pub on_joined : {A : Type 0} → Link → A → (Link → A) → A
on_joined (Ok _) joins refuses = joins
on_joined (Err r) joins refuses = refuses (Err r)

-- "Turned away, after both tables pass 2 to 12 and 26": what is asked of the two tables, whatever the output
unfoldable pub joinable : List ℕ → List ℕ → Link
joinable library program =
    ask_library (well_formed library)
    (ask_program
    (well_formed program
    then question27 (decode library) (decode program)
    then question28 (decode library) (decode program)
    then question29 (decode library) (decode program)))

unfoldable pub link_answer : List ℕ → List ℕ → List ℕ → Link
link_answer library program output =
    on_joined (joinable library program) (ask_program (output_question (decode library) (decode program) output)) (λ refusal. refusal)

-- "A refusal leaves state, roll and any lent output unchanged."
unfoldable pub link_output : List ℕ → List ℕ → List ℕ → List ℕ
link_output library program output =
    on_joined (link_answer library program output) (encode (linked (decode library) (decode program))) (λ refusal. output)

-- the length that the output has to have, 0 where no output would do
unfoldable pub joined_length : List ℕ → List ℕ → ℕ
joined_length library program =
    on_joined (joinable library program) (joined_bytes (decode library) (decode program)) (λ refusal. 0)
