-- Marks: a set of nodes as bits in lent words. Node n is bit n % 32 of word n / 32.
use Rattle.std.specs.Prelude.{Bool, cond, List, [], ◌∷◌, ℕ, ◌+◌, ◌/◌, ◌%◌, ◌^◌, eqb, get_or, set}

-- whether a word has bit k
unfoldable pub has_bit : ℕ → ℕ → Bool
has_bit word k = eqb (word / 2 ^ k % 2) 1

-- whether the marks have node n
unfoldable pub bit_at : List ℕ → ℕ → Bool
bit_at marks n = has_bit (get_or marks (n / 32) 0) (n % 32)

-- the marks with node n marked
unfoldable pub with_bit : List ℕ → ℕ → List ℕ
with_bit marks n = cond (bit_at marks n) marks (set marks (n / 32) (get_or marks (n / 32) 0 + 2 ^ (n % 32)))

-- the marks with each node of a list marked
unfoldable pub with_bits : List ℕ → List ℕ → List ℕ
with_bits marks [] = marks
with_bits marks (n ∷ nodes) = with_bits (with_bit marks n) nodes
