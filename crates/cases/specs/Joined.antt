-- What joining a library answers and writes.
use Rattle.std.specs.Prelude.{List, [], ◌∷◌, ◌≡◌, refl, ℕ, replicate, set, take, Err}
use Rattle.linker.specs.declared.LinkRefusal.TheVariants.{OfLibrary, OfProgram}
use Rattle.linker.specs.Linking.{Link, Joined, question29, link_answer, link_output, joined_length}
use Rattle.linker.specs.Linking
use Rattle.rules.specs.Answers.{Accepted, refused}
use Rattle.rules.specs.Cases.{opened, bytes, verdict, t1, t2}
use Rattle.rules.specs.Encoding
use Rattle.rules.specs.Table.{decode}
use Rattle.cases.specs.Checked.{barriers}

-- opens every definition of joining, so that a case computes
joining : ℕ
unfolding opened Encoding.word_bytes Encoding.header_word Encoding.flag_bits Encoding.body_word Encoding.packed Encoding.word_of
    Encoding.encode Linking.stub Linking.procedure_links Linking.flags_agree Linking.joined_nodes Linking.renumbered
    Linking.part_at Linking.renamed Linking.linked Linking.joinable Linking.link_answer Linking.link_output Linking.joined_length
joining = 0

-- a library of one procedure, a barrier and then nothing
one-barrier : List ℕ
one-barrier = 0x10420300 ∷ 0 ∷ 0x02800000 ∷ 0xB8000000 ∷ 0x80000000 ∷ 0x90000200 ∷ []

-- a program with a stub for it, which it calls, and then does nothing; its variable 1 is single
calling : List ℕ
calling =
    0x10840400 ∷ 0x40000000 ∷ 0x00800000 ∷ 0x03800000 ∷ 0x80000000 ∷ 0xA8000000 ∷ 0x80000000 ∷ 0x90040400 ∷ []

-- both: the program's nodes 1, 2, 3 are 3, 4, 5
barrier-called : List ℕ
barrier-called =
    0x10840600 ∷ 0x40000000 ∷ 0x02800000 ∷ 0x05800000
    ∷ 0xB8000000 ∷ 0x80000000 ∷ 0x90000200 ∷ 0xA8000000 ∷ 0x80000000 ∷ 0x900C0800 ∷ []

-- the answer and the output, from an output of 7s
link : List ℕ → List ℕ → ℕ → Link × List ℕ
link library program size =
    let output : List ℕ = replicate size 7 in
    (link_answer (bytes library) (bytes program) output, link_output (bytes library) (bytes program) output)

-- a refusal of the program that leaves the output
left : ℕ → ℕ → ℕ → Link × List ℕ
left number place size = (Err (OfProgram (record { number = number; place = place })), replicate size 7)

joined-whole : link one-barrier calling 40 ≡ (Joined, bytes barrier-called)
unfolding joining link one-barrier calling barrier-called
joined-whole = refl

joined-accepted : verdict barrier-called ≡ Accepted
unfolding opened barrier-called
joined-accepted = refl

length-told : joined_length (bytes one-barrier) (bytes calling) ≡ 40
unfolding joining one-barrier calling
length-told = refl

no_length : joined_length (bytes one-barrier) (bytes t2) ≡ 0
unfolding joining one-barrier t1 t2
no_length = refl

-- 27: a stub without the library's flag; a table without a stub; nothing left behind the stubs
stub-unflagged : link one-barrier (set calling 2 0) 40 ≡ left 27 0 40
unfolding joining link left one-barrier calling
stub-unflagged = refl

no-stub : link one-barrier t2 40 ≡ left 27 0 40
unfolding joining link left one-barrier t1 t2
no-stub = refl

none_left : link one-barrier (0x10420100 ∷ 0 ∷ 0x00800000 ∷ 0x80000000 ∷ []) 24 ≡ left 27 1 24
unfolding joining link left one-barrier
none_left = refl

-- 28: variable 0 is single in the program alone; and the lower of two that differ
flags_differ : link one-barrier (set calling 1 0xC0000000) 40 ≡ left 28 0 40
unfolding joining link left one-barrier calling
flags_differ = refl

lower_flag : link (set (set one-barrier 0 0x10820300) 1 0xC0000000) (set calling 1 0) 40 ≡ left 28 0 40
unfolding joining link left one-barrier calling
lower_flag = refl

-- 29: an output a byte short
output_short : link one-barrier calling 39 ≡ left 29 0 39
unfolding joining link left one-barrier calling
output_short = refl

-- a library that is cut short, and a program
library_cut : link (take 5 one-barrier) calling 40 ≡ (Err (OfLibrary (record { number = 4; place = 0 })), replicate 40 7)
unfolding joining link one-barrier calling
library_cut = refl

program-cut : link one-barrier (take 7 calling) 40 ≡ left 4 0 40
unfolding joining link left one-barrier calling
program-cut = refl

-- 29: 256 nodes in all, and 258
full_passes : question29 (decode (bytes one-barrier))
    (decode (bytes (0x1044FE00 ∷ 0 ∷ 0x00800000 ∷ 0xFD800000 ∷ 0x80000000 ∷ 0xB8000000 ∷ barriers 126)))
    ≡ Accepted
unfolding joining one-barrier barriers
full_passes = refl

over-refused : question29 (decode (bytes one-barrier))
    (decode (bytes (0x10450000 ∷ 0 ∷ 0x00800000 ∷ 0xFF800000 ∷ 0x80000000 ∷ 0xB8000000 ∷ barriers 127)))
    ≡ refused 29 0
unfolding joining one-barrier barriers
over-refused = refl
