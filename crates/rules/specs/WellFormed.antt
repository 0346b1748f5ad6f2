-- Questions 2 to 12 and 26: is the table well formed? They are asked by the checker, a start and a step alike.
use Rattle.std.specs.Prelude.{Bool, true, false, cond, not, ◌&&◌, ◌||◌, List, [], ◌∷◌, ◌++◌, ◌⊎◌, ◌≡◌, ℕ, zero, suc, ◌+◌, ◌-◌, ◌*◌, ◌%◌, ◌^◌, leb, ltb, eqb, length, get_or}
use Rattle.rules.specs.declared.Node.{Node}
use Rattle.rules.specs.Answers.{Verdict, ◌then◌, ask, ask_each}
use Rattle.rules.specs.Below.{at_node}
use Rattle.rules.specs.Choice.{all_below, first_failing}
use Rattle.rules.specs.Table.{Program, decode, word_at, edition, variables, procedures, nodes, procedure_word, body, node_at}
use Rattle.rules.specs.Table.{last_expression, first_statement, last_statement, gathered_areas}
use Rattle.rules.specs.Table.{Expression, expression_of, expression_at, expression_operands}
use Rattle.rules.specs.Table.{Statement, nothing, assign, sequence, branch, loop, call, latch, collective, leave}
use Rattle.rules.specs.Table.{statement_of, statement_at, statement_operands, on_loop, on_call, is_leave}
use Rattle.rules.specs.Table.{Operand, variable_operand, procedure_operand, area_operand, expression_operand, statement_operand}

-- two words, 16 procedures and 256 nodes
abbrev pub most_table_bytes : ℕ
most_table_bytes = 1096

-- 2: "Is the length a multiple of 4, from 16 to 1,096 bytes?"
abbrev pub question2 : List ℕ → Verdict
question2 table = ask 2 (eqb (length table % 4) 0 && leb 16 (length table) && leb (length table) most_table_bytes)

-- "edition, 4 bits, is 1; variables V .. 1 to 32; procedures P .. 1 to 16; nodes N .. 1 to 256; 8 zero bits"
unfoldable pub header_fits : List ℕ → Bool
header_fits table =
    eqb (edition table) 1
    && leb 1 (variables (decode table))
    && leb (variables (decode table)) 32
    && leb 1 (procedures (decode table))
    && leb (procedures (decode table)) 16
    && leb 1 (nodes (decode table))
    && leb (nodes (decode table)) 256
    && eqb (word_at table 0 % 2 ^ 8) 0

-- 3: "Is word 0 as above?"
abbrev pub question3 : List ℕ → Verdict
question3 table = ask 3 (header_fits table)

-- 4: "Is the length 4 × (2 + P + N)?"
abbrev pub question4 : List ℕ → Verdict
question4 table = ask 4 (eqb (length table) (4 * (2 + procedures (decode table) + nodes (decode table))))

-- 5: "Are the flags from V on zero?"
abbrev pub question5 : List ℕ → Verdict
question5 table = ask 5 (eqb (word_at table 1 % 2 ^ (32 - variables (decode table))) 0)

-- 6: "Are a procedure's low 23 bits zero, its body below N?"
unfoldable pub procedure_fits : List ℕ → ℕ → Bool
procedure_fits table p = eqb (procedure_word table p % 2 ^ 23) 0 && ltb (body (decode table) p) (nodes (decode table))

abbrev pub question6 : List ℕ → Verdict
question6 table = ask_each 6 (procedures (decode table)) (procedure_fits table)

-- 7: "Is the kind known?" Kinds 0 to 12 are expressions, 16 to 26 statements.
unfoldable pub is_expression : Program → ℕ → Bool
is_expression program n = leb (node_at program n).kind last_expression

unfoldable pub is_statement : Program → ℕ → Bool
is_statement program n = leb first_statement (node_at program n).kind && leb (node_at program n).kind last_statement

unfoldable pub kind_known : Program → ℕ → Bool
kind_known program n = is_expression program n || is_statement program n

abbrev pub question7 : Program → Verdict
question7 program = ask_each 7 (nodes program) (kind_known program)

-- how many of the fields A, B, C a node names: the first so many. Kind 0 names B and C instead.
unfoldable pub named_fields : Node → ℕ
named_fields m = length (expression_operands (expression_of m)) + length (statement_operands (statement_of m))

-- 8: "Are unnamed fields zero?"
unfoldable pub unnamed_zero : Node → Bool
unnamed_zero m =
    cond (eqb m.kind 0) (eqb m.a 0)
    ((leb 1 (named_fields m) || eqb m.a 0)
    && (leb 2 (named_fields m) || eqb m.b 0)
    && (leb 3 (named_fields m) || eqb m.c 0))

abbrev pub question8 : Program → Verdict
question8 program = ask_each 8 (nodes program) (λ n. unnamed_zero (node_at program n))

-- 9: "Is a variable below V, a procedure below P, a part's node below the node naming it and of the sort named?" Of a roster,
-- "above 3 is number 9".
unfoldable pub expression_part : Program → ℕ → ℕ → Bool
expression_part program n a = ltb a n && is_expression program a

unfoldable pub statement_part : Program → ℕ → ℕ → Bool
statement_part program n a = ltb a n && is_statement program a

abbrev pub operand_fits : Program → ℕ → Operand → Bool
operand_fits program n (variable_operand a) = ltb a (variables program)
operand_fits program n (procedure_operand p) = ltb p (procedures program)
operand_fits program n (area_operand r) = ltb r gathered_areas
operand_fits program n (expression_operand a) = expression_part program n a
operand_fits program n (statement_operand a) = statement_part program n a

-- whether each operand of a list fits, and those before it did
abbrev pub operands_fit : Program → ℕ → Bool → List Operand → Bool
operands_fit program n before [] = before
operands_fit program n before (operand ∷ rest) = operands_fit program n (before && operand_fits program n operand) rest

unfoldable pub expression_fits : Program → ℕ → Expression → Bool
expression_fits program n e = operands_fit program n true (expression_operands e)

unfoldable pub statement_fits : Program → ℕ → Statement → Bool
statement_fits program n s = operands_fit program n true (statement_operands s)

unfoldable pub node_fits : Program → ℕ → Bool
node_fits program n = expression_fits program n (expression_at program n) && statement_fits program n (statement_at program n)

abbrev pub question9 : Program → Verdict
question9 program = ask_each 9 (nodes program) (node_fits program)

-- 10: "Is each body a statement?"
abbrev pub question10 : Program → Verdict
question10 program = ask_each 10 (procedures program) (λ p. is_statement program (body program p))

-- the parts of a node, in the order of its fields
abbrev pub operand_parts : List Operand → List ℕ
operand_parts [] = []
operand_parts (variable_operand a ∷ rest) = operand_parts rest
operand_parts (procedure_operand p ∷ rest) = operand_parts rest
operand_parts (area_operand r ∷ rest) = operand_parts rest
operand_parts (expression_operand a ∷ rest) = a ∷ operand_parts rest
operand_parts (statement_operand a ∷ rest) = a ∷ operand_parts rest

unfoldable pub expression_parts : Expression → List ℕ
expression_parts e = operand_parts (expression_operands e)

unfoldable pub statement_parts : Statement → List ℕ
statement_parts s = operand_parts (statement_operands s)

unfoldable pub parts_at : Program → ℕ → List ℕ
parts_at program n = expression_parts (expression_at program n) ++ statement_parts (statement_at program n)

-- the list of `list 0`, `list 1`, .., `list (n - 1)`, joined
unfoldable pub joined : (ℕ → List ℕ) → ℕ → List ℕ
joined list zero = []
joined list (suc n) = joined list n ++ list n

-- every use of a node: the parts of every node, then the body of every procedure
unfoldable pub uses : Program → List ℕ
uses program = joined (parts_at program) (nodes program) ++ joined (λ p. body program p ∷ []) (procedures program)

-- how often a number stands in a list
unfoldable pub occurrences : ℕ → List ℕ → ℕ
occurrences n [] = 0
occurrences n (x ∷ xs) = cond (eqb x n) 1 0 + occurrences n xs

-- and that it stands there
abbrev pub Occurs : ℕ → List ℕ → Type 0
Occurs n [] = ⊥
Occurs n (x ∷ xs) = (n ≡ x) ⊎ Occurs n xs

-- 11: "Is each node used once, as a part or a body?"
unfoldable pub used_once : Program → ℕ → Bool
used_once program n = eqb (occurrences n (uses program)) 1

abbrev pub question11 : Program → Verdict
question11 program = ask_each 11 (nodes program) (used_once program)

-- whether a list of results is true at some node of a list
unfoldable pub some_of : List Bool → List ℕ → Bool
some_of results [] = false
some_of results (a ∷ nodes) = get_or results a false || some_of results nodes

-- whether a test holds of node m, or of a node that the parts lead down to from it
unfoldable pub anywhere : (ℕ → List ℕ) → (ℕ → Bool) → ℕ → Bool
anywhere parts test m = at_node (λ earlier k. test k || some_of earlier (parts k)) m

-- whether node n stands in the tree of node m: it is m, or it stands in the tree of a part of m
abbrev pub in_tree : Program → ℕ → ℕ → Bool
in_tree program n m = anywhere (parts_at program) (λ k. eqb k n) m

-- the procedure that the statement at node n calls is below every procedure whose body's tree holds the node
unfoldable pub called_below : Program → ℕ → Statement → Bool
called_below program n s =
    on_call s (λ q. all_below (λ p. not (in_tree program n (body program p)) || ltb q p) (procedures program)) true

-- 12: "Does each call name a procedure below its own?"
abbrev pub question12 : Program → Verdict
question12 program = ask_each 12 (nodes program) (λ n. called_below program n (statement_at program n))

-- the parts of a statement that are statements and stand in the same while as it; a while's body stands in that while
unfoldable pub open_parts : Statement → List ℕ
open_parts nothing = []
open_parts (assign a b) = []
open_parts (sequence a b) = a ∷ b ∷ []
open_parts (branch a b c) = b ∷ c ∷ []
open_parts (loop a b) = []
open_parts (call p) = []
open_parts (latch a b) = []
open_parts (collective k) = []
open_parts leave = []

-- whether a test holds of node m, or of a statement that stands "within" it, "not in an inner while"
abbrev pub openly : Program → (ℕ → Bool) → ℕ → Bool
openly program test m = anywhere (λ k. open_parts (statement_at program k)) test m

-- whether the statement is a while and node n stands "within the while's body, not in an inner while"
unfoldable pub loop_around : Program → ℕ → Statement → Bool
loop_around program n s = on_loop s (λ a b. openly program (λ k. eqb k n) b) false

-- "the nearest while around it in the same procedure". By 11 there is one at most; the number of nodes stands for none.
unfoldable pub nearest_loop : Program → ℕ → ℕ
nearest_loop program n = first_failing (λ w. not (loop_around program n (statement_at program w))) (nodes program)

-- 26: "a leave with no while around it, at its node, asked after 12 by checker, start and turn alike"
unfoldable pub leave_enclosed : Program → ℕ → Bool
leave_enclosed program n = not (is_leave (statement_at program n)) || ltb (nearest_loop program n) (nodes program)

abbrev pub question26 : Program → Verdict
question26 program = ask_each 26 (nodes program) (leave_enclosed program)

-- the first of questions 7 to 12 that fails, and of those and 26: what is asked of the program, whatever it is laid out in
abbrev pub built_by : Program → Verdict
built_by program =
    question7 program
    then question8 program
    then question9 program
    then question10 program
    then question11 program
    then question12 program

unfoldable pub formed_by : Program → Verdict
formed_by program = built_by program then question26 program

-- the first of questions 2 to 12 that fails
unfoldable pub well_built : List ℕ → Verdict
well_built table =
    question2 table
    then question3 table
    then question4 table
    then question5 table
    then question6 table
    then built_by (decode table)

-- the first of questions 2 to 12 and 26 that fails
unfoldable pub well_formed : List ℕ → Verdict
well_formed table = well_built table then question26 (decode table)
