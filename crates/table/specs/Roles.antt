-- What each field of a node stands for, by kind: one table for questions 8, 9 and 11.
use Rattle.std.specs.Prelude.{Bool, true, false, cond, List, [], ◌∷◌, ℕ, ltb, eqb, get_or}
use Rattle.rules.specs.Table.{Program, variables, procedures, gathered_areas}
use Rattle.rules.specs.WellFormed.{expression_part, statement_part}
use Rattle.table.specs.declared.fields.Role.{Role}
use Rattle.table.specs.declared.fields.Role.TheVariants.{Unnamed, Variable, Expression, Statement, Procedure, Half, Area}
use Rattle.table.specs.declared.fields.Roles.{Roles}

abbrev pub three : Role → Role → Role → Roles
three a b c = record { a = a; b = b; c = c }

abbrev pub no_roles : Roles
no_roles = three Unnamed Unnamed Unnamed

-- the roles of the fields of the kinds, from 0 on
unfoldable pub roles : List Roles
roles =
    three Unnamed Half Half
    ∷ three Variable Unnamed Unnamed
    ∷ no_roles
    ∷ no_roles
    ∷ three Expression Unnamed Unnamed
    ∷ three Expression Area Unnamed
    ∷ three Expression Expression Unnamed
    ∷ three Expression Expression Unnamed
    ∷ three Expression Expression Unnamed
    ∷ three Expression Expression Unnamed
    ∷ three Expression Expression Unnamed
    ∷ three Expression Expression Unnamed
    ∷ three Expression Expression Unnamed
    ∷ no_roles
    ∷ no_roles
    ∷ no_roles
    ∷ no_roles
    ∷ three Variable Expression Unnamed
    ∷ three Statement Statement Unnamed
    ∷ three Expression Statement Statement
    ∷ three Expression Statement Unnamed
    ∷ three Procedure Unnamed Unnamed
    ∷ three Expression Expression Unnamed
    ∷ no_roles
    ∷ three Variable Expression Expression
    ∷ three Expression Area Unnamed
    ∷ no_roles
    ∷ []

-- the fields of an unknown kind are unnamed
unfoldable pub roles_of : ℕ → Roles
roles_of kind = get_or roles kind no_roles

-- whether a role is that of a part
abbrev pub is_part : Role → Bool
is_part Unnamed = false
is_part Variable = false
is_part Expression = true
is_part Statement = true
is_part Procedure = false
is_part Half = false
is_part Area = false

-- question 8 of one field
unfoldable pub field_zero : Role → ℕ → Bool
field_zero Unnamed value = eqb value 0
field_zero Variable value = true
field_zero Expression value = true
field_zero Statement value = true
field_zero Procedure value = true
field_zero Half value = true
field_zero Area value = true

-- question 9 of one field of node n
unfoldable pub field_fits : Program → ℕ → Role → ℕ → Bool
field_fits program n Unnamed value = true
field_fits program n Variable value = ltb value (variables program)
field_fits program n Expression value = expression_part program n value
field_fits program n Statement value = statement_part program n value
field_fits program n Procedure value = ltb value (procedures program)
field_fits program n Half value = true
field_fits program n Area value = ltb value gathered_areas

-- the nodes that one field names
unfoldable pub field_parts : Role → ℕ → List ℕ
field_parts role value = cond (is_part role) (value ∷ []) []
