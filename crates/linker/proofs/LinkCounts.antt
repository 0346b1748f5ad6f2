-- Every node of the joined program is used once: its parts and its bodies are the library's, and behind them the program's,
-- renumbered.
use mathlib.Core.List.{List, [], ◌∷◌, map}
use mathlib.Core.Logic.{inl, inr}
use mathlib.Core.Path.{◌≡◌, refl, sym, ◌∙◌, ap}
use Prim.Native.Nat.{ℕ, zero, suc, ◌+◌, ◌-◌, ◌≤◌, ◌<◌}
use native.Mathlib.Decide.{dec_lt}
use native.Mathlib.Omega.{arith}
use lib.Dec.{eqb}
use Rattle.linker.specs.Linking.{renumbered, linked}
use Rattle.rules.specs.Table.{Program, procedures, nodes, body, expression_at, statement_at}
use Rattle.rules.specs.WellFormed.{parts_at, joined, uses, occurrences}
use Rattle.rules.proofs.AnywhereLaws.{In}
use Rattle.rules.proofs.LeaveLaws.{counted_in}
use Rattle.rules.proofs.LoopLaws.{counted_append, uses-counted}
use Rattle.rules.proofs.PartLaws.{in_one, part_low}
use Rattle.linker.proofs.EmbedLaws.{map_in, same_number, parts-to}
use Rattle.linker.proofs.LinkEmbeds.{program_embeds}
use Rattle.linker.proofs.LinkLaws.{Links, in_library, in_program, link-procedures, link-nodes, stubs-below, stub-body}
use Rattle.linker.proofs.LinkLaws.{part-high, body-high, body_library, body-program, node_library, renumbered-past}

absent : (xs : List ℕ) (x : ℕ) → (In x xs → ⊥) → occurrences x xs ≡ 0
absent xs x none =
    elim (dec_lt 0 (occurrences x xs)) [ yes l ↦ absurd (none (counted_in xs x l)) | no m ↦ omega arith ]

counted-map : (to : ℕ → ℕ) (x y : ℕ) (xs : List ℕ) → ((a : ℕ) → In a xs → eqb (to a) y ≡ eqb a x)
    → occurrences y (map to xs) ≡ occurrences x xs
unfolding occurrences
counted-map to x y [] same = refl
counted-map to x y (a ∷ xs) same = rw (same a (inl refl), counted-map to x y xs (λ b i. same b (inr i)))

joined_same : (f g : ℕ → List ℕ) (n : ℕ) → ((i : ℕ) → i < n → f i ≡ g i) → joined f n ≡ joined g n
unfolding joined
joined_same f g zero same = refl
joined_same f g (suc n) same = rw (joined_same f g n (λ i l. same i (omega arith)), same n (omega arith))

-- lists that lack the number add nothing
counted-kept : (f : ℕ → List ℕ) (x a n : ℕ) → a ≤ n → ((i : ℕ) → a ≤ i → i < n → In x (f i) → ⊥)
    → occurrences x (joined f n) ≡ occurrences x (joined f a)
unfolding joined
counted-kept f x a zero h lacks = let e : a ≡ 0 = omega arith in rw e
counted-kept f x a (suc n) h lacks =
    elim (dec_lt n a) [
      | yes l ↦ let e : a ≡ suc n = omega arith in rw e
      | no m ↦
          let earlier = counted-kept f x a n (omega arith) (λ i g l. lacks i g (omega arith)) in
          omega (arith, counted_append (joined f n) (f n) x, absent (f n) x (lacks n (omega arith) (omega arith)))
    ]

-- lists that hold one number as often as others hold another add as much
counted-moved : (f g : ℕ → List ℕ) (x y a b m : ℕ) → occurrences x (joined f a) ≡ occurrences y (joined g b)
    → ((i : ℕ) → i < m → occurrences x (f (a + i)) ≡ occurrences y (g (b + i)))
    → occurrences x (joined f (a + m)) ≡ occurrences y (joined g (b + m))
unfolding joined
counted-moved f g x y a b zero start same =
    let e : a + 0 ≡ a = omega arith in
    let e' : b + 0 ≡ b = omega arith in
    rw (e, e') start
counted-moved f g x y a b (suc m) start same =
    let e : a + suc m ≡ suc (a + m) = omega arith in
    let e' : b + suc m ≡ suc (b + m) = omega arith in
    let earlier = counted-moved f g x y a b m start (λ i l. same i (omega arith)) in
    let here = same m (omega arith) in
    rw (e, e')
    (omega (arith, counted_append (joined f (a + m)) (f (a + m)) x, counted_append (joined g (b + m)) (g (b + m)) y))

-- f is g, up to `own`, and then h from L on, up to `other`, renumbered: the parts of the nodes, or the bodies of the procedures,
-- of the joined program, of the library and of the program
record Rows (library program : Program) (f g h : ℕ → List ℕ) (own other count : ℕ) : Type 0 where
  size : count ≡ own + (other - procedures library)
  room : procedures library ≤ other
  front : (i : ℕ) → i < own → f i ≡ g i
  behind : (i : ℕ) → i < other - procedures library
      → f (own + i) ≡ map (renumbered library program) (h (procedures library + i))
  low : (i a : ℕ) → i < own → In a (g i) → a < nodes library
  stubs : (i a : ℕ) → i < procedures library → In a (h i) → a < procedures library
  high : (i a : ℕ) → procedures library ≤ i → i < other → In a (h i) → procedures library ≤ a

module _ {library program : Program} (k : Links library program) where
  abbrev J : Program
  J = linked library program

  abbrev L : ℕ
  L = procedures library

  abbrev to : ℕ → ℕ
  to = renumbered library program

  module _ {f g h : ℕ → List ℕ} {own other count : ℕ} (r : Rows library program f g h own other count) where
    -- a node of the library stands in no list of the program
    library_counted : (x : ℕ) → x < nodes library → occurrences x (joined f count) ≡ occurrences x (joined g own)
    library_counted x l =
        let size = r.size in
        counted-kept f x own count (omega arith)
        (λ i least most inside.
        let e : i ≡ own + (i - own) = omega arith in
        let (a, j, s) = map_in to (h (L + (i - own))) x (rw (e, r.behind (i - own) (omega arith)) at inside) in
        omega (arith, renumbered-past library program a))
        ∙ ap (occurrences x) (joined_same f g own r.front)

    -- a node of the program that is no stub stands in no list of the library, and in none of a stub
    program-counted : (x : ℕ) → L ≤ x → occurrences (to x) (joined f count) ≡ occurrences x (joined h other)
    unfolding joined occurrences
    program-counted x g =
        let size = r.size in
        let room = r.room in
        let past = renumbered-past library program x in
        let here : occurrences (to x) (joined f own) ≡ 0 =
        counted-kept f (to x) 0 own (omega arith)
        (λ i least most inside. omega (arith, r.low i (to x) most (rw (r.front i most) at inside))) in
        let there : occurrences x (joined h L) ≡ 0 =
        counted-kept h x 0 L (omega arith) (λ i least most inside. omega (arith, r.stubs i x most inside)) in
        let all : L + (other - L) ≡ other = omega arith in
        ap (λ n. occurrences (to x) (joined f n)) size
        ∙ counted-moved f h (to x) x own L (other - L) (here ∙ sym there)
        (λ i b.
        ap (occurrences (to x)) (r.behind i b)
        ∙ counted-map to x (to x) (h (L + i))
        (λ a j. same_number (program_embeds k) a x (r.high (L + i) a (omega arith) (omega arith) j) g))
        ∙ ap (λ n. occurrences x (joined h n)) all

  parts : Rows library program (parts_at J) (parts_at library) (parts_at program) (nodes library) (nodes program) (nodes J)
  unfolding renumbered parts_at expression_at statement_at
  parts =
      record {
        size = link-nodes k;
        room = stubs-below k;
        front = λ i l. rw (node_library k i l);
        behind = λ i l.
            let place : nodes library + i ≡ to (L + i) = omega arith in
            ap (parts_at J) place ∙ parts-to (program_embeds k) (L + i) (omega arith) (omega arith);
        low = λ i a l j. omega (arith, part_low library (in_library k) i a j);
        stubs = λ i a l j. omega (arith, part_low program (in_program k) i a j);
        high = λ i a h l j. part-high k i a j;
      }

  abbrev bodies : Program → ℕ → List ℕ
  bodies table p = body table p ∷ []

  one : Rows library program (bodies J) (bodies library) (bodies program) L (procedures program) (procedures J)
  one =
      record {
        size = omega (arith, link-procedures k, k.left);
        room = omega (arith, k.left);
        front = λ p l. ap (λ x. x ∷ []) (body_library k p l);
        behind = λ p l. ap (λ x. x ∷ []) (body-program k (L + p) (omega arith) (omega arith));
        low = λ p a l j. omega (arith, in_one a (body library p) j, (in_library k).body_below p l);
        stubs = λ p a l j. omega (arith, in_one a (body program p) j, stub-body k p l);
        high = λ p a h l j. omega (arith, in_one a (body program p) j, body-high k p h l);
      }

  pub library_once : (x : ℕ) → x < nodes library → occurrences x (uses (linked library program)) ≡ 1
  library_once x l =
      omega (
        arith,
        uses-counted J x,
        library_counted parts x l,
        library_counted one x l,
        uses-counted library x,
        (in_library k).used-once x l,
      )

  pub program-once : (x : ℕ) → procedures library ≤ x → x < nodes program
      → occurrences (renumbered library program x) (uses (linked library program)) ≡ 1
  program-once x h l =
      omega (
        arith,
        uses-counted J (to x),
        program-counted parts x h,
        program-counted one x h,
        uses-counted program x,
        (in_program k).used-once x l,
      )
