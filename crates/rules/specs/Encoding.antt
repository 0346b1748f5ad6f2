-- A program written out as a table of edition 1, for the tools whose answer is a table: the other way round from `decode`.
use Rattle.std.specs.Prelude.{Bool, false, cond, List, [], ◌∷◌, ◌≡◌, ℕ, zero, suc, ◌+◌, ◌-◌, ◌*◌, ◌/◌, ◌%◌, ◌^◌, ◌≤◌, ◌<◌, ltb, get_or}
use Rattle.rules.specs.declared.Node.{Node}
use Rattle.rules.specs.Answers.{Accepted}
use Rattle.rules.specs.Evaluation.{bit}
use Rattle.rules.specs.Table.{Program, decode, variables, procedures, nodes, flagged, body, effect_flag, node_at, unpacked}
use Rattle.rules.specs.WellFormed.{joined, formed_by, well_formed}

-- "32-bit words, high byte first"
unfoldable pub word_bytes : ℕ → List ℕ
word_bytes w = w / 2 ^ 24 ∷ (w / 2 ^ 16 % 256) ∷ (w / 2 ^ 8 % 256) ∷ (w % 256) ∷ []

-- "Word 0: edition, 4 bits .. variables V, 6 bits .. procedures P, 5 bits .. nodes N, 9 bits .. 8 zero bits."
unfoldable pub header_word : Program → ℕ
header_word program = 2 ^ 28 + variables program * 2 ^ 22 + procedures program * 2 ^ 17 + nodes program * 2 ^ 8

-- "The highest bit belongs to variable 0.": of n flags
unfoldable pub flag_bits : (ℕ → Bool) → ℕ → ℕ
flag_bits flag zero = 0
flag_bits flag (suc n) = 2 * flag_bits flag n + bit (flag n)

unfoldable pub body_word : ℕ → Bool → ℕ
body_word node effect = node * 2 ^ 24 + bit effect * 2 ^ 23

unfoldable pub packed : Node → ℕ
packed m = m.kind * 2 ^ 27 + m.a * 2 ^ 18 + m.b * 2 ^ 9 + m.c

unfoldable pub word_of : Program → ℕ → ℕ
word_of program zero = header_word program
word_of program (suc zero) = flag_bits (flagged program) 32
word_of program (suc (suc i)) =
    cond (ltb i (procedures program)) (body_word (body program i) (effect_flag program i))
    (packed (node_at program (i - procedures program)))

unfoldable pub encode : Program → List ℕ
encode program = joined (λ i. word_bytes (word_of program i)) (2 + procedures program + nodes program)

-- the numbers fit their bits, and what there is no place for is as `decode` reads it
pub record Encodable (program : Program) : Type 0 where
  pub variables-fit : variables program < 64
  pub procedures-fit : procedures program < 32
  pub nodes-fit : nodes program < 512
  pub flags-past : (a : ℕ) → 32 ≤ a → flagged program a ≡ false
  pub bodies-fit : (p : ℕ) → p < procedures program → body program p < 256
  pub bodies-past : (p : ℕ) → procedures program ≤ p → body program p ≡ 0
  pub effects_past : (p : ℕ) → procedures program ≤ p → effect_flag program p ≡ false
  pub kinds_fit : (n : ℕ) → n < nodes program → (node_at program n).kind < 32
  pub fields_fit : (n : ℕ) → n < nodes program
      → ((node_at program n).a < 512) × ((node_at program n).b < 512) × ((node_at program n).c < 512)
  pub nodes-past : (n : ℕ) → nodes program ≤ n → node_at program n ≡ unpacked 0

-- what is written is read
abbrev pub DecodeEncode : Type 0
DecodeEncode = (program : Program) → Encodable program → decode (encode program) ≡ program

-- and what a well-formed table says, written out, is that table
abbrev pub Bytes : List ℕ → Type 0
Bytes table = (i : ℕ) → get_or table i 0 < 256

abbrev pub EncodeDecode : Type 0
EncodeDecode = (table : List ℕ) → well_formed table ≡ Accepted → Bytes table → encode (decode table) ≡ table

-- what questions 3, 5 and 6 ask
pub record Bounded (program : Program) : Type 0 where
  pub variables-low : 1 ≤ variables program
  pub variables-high : variables program ≤ 32
  pub procedures-low : 1 ≤ procedures program
  pub procedures-high : procedures program ≤ 16
  pub nodes-low : 1 ≤ nodes program
  pub nodes-high : nodes program ≤ 256
  pub flags_off : (a : ℕ) → variables program ≤ a → flagged program a ≡ false
  pub bodies-below : (p : ℕ) → p < procedures program → body program p < nodes program

-- of a table that was written only questions 7 to 12 and 26 are left
abbrev pub WellWritten : Type 0
WellWritten = (program : Program) → Encodable program → Bounded program → well_formed (encode program) ≡ formed_by program

-- the flags of another: "the table with the largest set of single variables"
unfoldable pub reflagged : Program → (ℕ → Bool) → (ℕ → Bool) → Program
reflagged program flags effects =
    record {
      variables = program.variables;
      procedures = program.procedures;
      nodes = program.nodes;
      flagged = flags;
      body = program.body;
      effect_flag = effects;
      node = program.node;
    }
