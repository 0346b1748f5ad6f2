-- The fields of a node at which nothing fails, by their roles: each passes 8 and 9, and what it names is not used yet.
use Rattle.std.specs.Prelude.{Bool, true, false, not, ◌&&◌, ◌||◌, List, ◌++◌, ◌≡◌, ℕ, ◌+◌, ◌*◌, ltb, eqb, length, take, drop}
use Rattle.rules.specs.declared.Node.{Node}
use Rattle.table.specs.declared.fields.Role.{Role}
use Rattle.table.specs.declared.fields.Role.TheVariants.{Unnamed, Variable, Expression, Statement, Procedure, Half, Area}
use Rattle.table.specs.declared.fields.Roles.{Roles}
use Rattle.table.specs.Marks.{bit_at, with_bits}
use Rattle.table.specs.Roles.{is_part, field_zero, field_fits, field_parts}
use Rattle.visit.specs.declared.Visit.{Visit}
use Rattle.rules.specs.Table.{Program}

-- a procedure that is called is below the limit
unfoldable pub within : ℕ → Role → ℕ → Bool
within limit Unnamed value = true
within limit Variable value = true
within limit Expression value = true
within limit Statement value = true
within limit Procedure value = ltb value limit
within limit Half value = true
within limit Area value = true

unfoldable pub field_free : Program → List ℕ → Visit → Role → ℕ → Bool
field_free program marks v role value =
    field_zero role value
    && (field_fits program v.node role value
    && (within v.limit role value && (not (is_part role) || not (bit_at marks value))))

-- two fields do not name one node
unfoldable pub distinct : Role → ℕ → Role → ℕ → Bool
distinct r x s y = not (is_part r) || (not (is_part s) || not (eqb x y))

-- the three fields of a node, by their roles
module _ (program : Program) (marks : List ℕ) (v : Visit) (m : Node) (roles : Roles) where
  unfoldable pub fields_free : Bool
  fields_free =
      field_free program marks v roles.a m.a
      && (field_free program marks v roles.b m.b
      && (field_free program marks v roles.c m.c
      && (distinct roles.a m.a roles.b m.b
      && (distinct roles.a m.a roles.c m.c
      && distinct roles.b m.b roles.c m.c))))

-- the nodes that they name
abbrev pub three_parts : Node → Roles → List ℕ
three_parts m roles =
    field_parts roles.a m.a ++ (field_parts roles.b m.b ++ field_parts roles.c m.c)

-- the fields are free, and what they name is used afterwards
pub record Used (program : Program) (v : Visit) (m : Node) (roles : Roles) (before after : List ℕ) : Type 0 where
  pub free : fields_free program before v m roles ≡ true
  pub used : after ≡ with_bits before (three_parts m roles)

-- a plane has a bit for each of 256 nodes; of the planes the first has the nodes used, the second the facts, the third the leaves
abbrev pub plane_words : ℕ
plane_words = 8

abbrev pub leaves_from : ℕ
leaves_from = 2 * plane_words

abbrev pub all_planes : ℕ
all_planes = leaves_from + plane_words

abbrev pub used_plane : List ℕ → List ℕ
used_plane planes = take plane_words planes

abbrev pub facts_plane : List ℕ → List ℕ
facts_plane planes = take plane_words (drop plane_words planes)

abbrev pub leaves_plane : List ℕ → List ℕ
leaves_plane planes = drop leaves_from planes

pub record Fields (program : Program) (v : Visit) (m : Node) (roles : Roles) (before after : List ℕ) (r : Bool) : Type 0 where
  pub answer : r ≡ fields_free program (used_plane before) v m roles
  pub taken : r ≡ true → Used program v m roles (used_plane before) (used_plane after)
  pub same : r ≡ false → after ≡ before
  pub facts : facts_plane after ≡ facts_plane before
  pub leaves : leaves_plane after ≡ leaves_plane before
  pub size : length after ≡ all_planes

-- nothing but the plane of leaves is another, and nothing at all where the fields were not taken
pub record Kept (used : Bool) (before after : List ℕ) : Type 0 where
  pub size : length after ≡ all_planes
  pub same : used ≡ false → after ≡ before
  pub marks : used_plane after ≡ used_plane before
  pub facts : facts_plane after ≡ facts_plane before
