-- The planes as parts that are lent: which words a part is, and the planes when it is back.
use mathlib.Core.Bool.{Bool, true}
use mathlib.Core.List.{List, ◌++◌, append-nil}
use mathlib.Core.Path.{◌≡◌, refl, sym, ◌∙◌, ap}
use Prim.Native.Nat.{ℕ, ◌≤◌}
use native.Mathlib.Omega.{arith}
use lib.ListN.{length, take, drop, length-drop, take-append-drop, drop_of_length-le}
use lib.Seq.{length-take-le, take_all, take_at, take-take, take-append-le, drop_at, drop-drop, drop-append-le}
use borrow.Rule.Slice.PartMut.{mid_of, post_of, put_mid, same_len_mid, take_put, drop_put}
use Rattle.table.proofs.TestLaws.{never}
use Rattle.visit.specs.Fields.{plane_words, leaves_from, all_planes, used_plane, facts_plane, leaves_plane, Kept}

-- the facts lie before the leaves
facts-front : (planes : List ℕ) → leaves_from ≤ length planes → facts_plane planes ≡ facts_plane (take leaves_from planes)
facts-front planes enough =
    let first = take leaves_from planes in
    let size : length first ≡ leaves_from = length-take-le leaves_from planes enough in
    ap facts_plane (sym (take-append-drop leaves_from planes))
    ∙ ap (take plane_words) (drop-append-le plane_words first (drop leaves_from planes) (omega arith))
    ∙ take-append-le plane_words (drop plane_words first) (drop leaves_from planes)
    (omega (arith, length-drop plane_words first))

module _ (planes : List ℕ) (size : length planes ≡ all_planes) where
  pub used-length : length (used_plane planes) ≡ plane_words
  used-length = length-take-le plane_words planes (omega arith)

  pub facts-length : length (facts_plane planes) ≡ plane_words
  facts-length = length-take-le plane_words (drop plane_words planes) (omega (arith, length-drop plane_words planes))

  pub leaves-length : length (leaves_plane planes) ≡ plane_words
  leaves-length = length-drop leaves_from planes ∙ omega arith

  -- the parts that are lent
  pub facts-lent : mid_of plane_words plane_words planes ≡ facts_plane planes
  facts-lent = refl

  pub leaves-lent : mid_of leaves_from plane_words planes ≡ leaves_plane planes
  leaves-lent = take_all plane_words (leaves_plane planes) (omega (arith, leaves-length))

  -- back as they were
  pub used-kept : put_mid 0 plane_words planes (used_plane planes) ≡ planes
  used-kept = take-append-drop plane_words planes

  -- back with other words
  module _ (words : List ℕ) (many : length words ≡ plane_words) where
    pub used_put_used : used_plane (put_mid 0 plane_words planes words) ≡ words
    used_put_used = take_at words (drop plane_words planes) plane_words many

    pub facts_put_used : facts_plane (put_mid 0 plane_words planes words) ≡ facts_plane planes
    facts_put_used = ap (take plane_words) (drop_at words (drop plane_words planes) plane_words many)

    pub leaves_put_used : leaves_plane (put_mid 0 plane_words planes words) ≡ leaves_plane planes
    leaves_put_used =
        sym (drop-drop plane_words plane_words (put_mid 0 plane_words planes words))
        ∙ ap (drop plane_words) (drop_at words (drop plane_words planes) plane_words many)
        ∙ drop-drop plane_words plane_words planes

    pub length_put_used : length (put_mid 0 plane_words planes words) ≡ all_planes
    length_put_used = same_len_mid 0 plane_words planes words (many ∙ sym used-length) ∙ size

    pub used_put_facts : used_plane (put_mid plane_words plane_words planes words) ≡ used_plane planes
    used_put_facts = take_put plane_words plane_words planes words (omega arith)

    pub facts_put_facts : facts_plane (put_mid plane_words plane_words planes words) ≡ words
    facts_put_facts =
        ap (take plane_words)
        (drop_at (used_plane planes) (words ++ post_of plane_words plane_words planes) plane_words used-length)
        ∙ take_at words (post_of plane_words plane_words planes) plane_words many

    pub leaves_put_facts : leaves_plane (put_mid plane_words plane_words planes words) ≡ leaves_plane planes
    leaves_put_facts = drop_put plane_words leaves_from planes words (omega arith) (omega arith) many

    pub length_put_facts : length (put_mid plane_words plane_words planes words) ≡ all_planes
    length_put_facts = same_len_mid plane_words plane_words planes words (many ∙ sym facts-length) ∙ size

    -- what lies before the leaves
    front : take leaves_from (put_mid leaves_from plane_words planes words) ≡ take leaves_from planes
    front = take_put leaves_from plane_words planes words (omega arith)

    pub used_put_leaves : used_plane (put_mid leaves_from plane_words planes words) ≡ used_plane planes
    used_put_leaves =
        sym (take-take plane_words leaves_from (put_mid leaves_from plane_words planes words) (omega arith))
        ∙ ap (take plane_words) front
        ∙ take-take plane_words leaves_from planes (omega arith)

    pub length_put_leaves : length (put_mid leaves_from plane_words planes words) ≡ all_planes
    length_put_leaves =
        same_len_mid leaves_from plane_words planes words (many ∙ sym (ap length leaves-lent ∙ leaves-length)) ∙ size

    pub facts_put_leaves : facts_plane (put_mid leaves_from plane_words planes words) ≡ facts_plane planes
    facts_put_leaves =
        facts-front (put_mid leaves_from plane_words planes words) (omega (arith, length_put_leaves))
        ∙ ap facts_plane front
        ∙ sym (facts-front planes (omega arith))

    pub leaves_put_leaves : leaves_plane (put_mid leaves_from plane_words planes words) ≡ words
    leaves_put_leaves =
        drop_at (take leaves_from planes) (words ++ post_of leaves_from plane_words planes) leaves_from
        (length-take-le leaves_from planes (omega arith))
        ∙ ap (λ rest. words ++ rest) (drop_of_length-le (leaves_plane planes) {i = plane_words} (omega (arith, leaves-length)))
        ∙ append-nil words

-- the plane of leaves, lent and back
pub kept-none : (used : Bool) (planes : List ℕ) → length planes ≡ all_planes → Kept used planes planes
kept-none used planes size = record { size = size; same = λ e. refl; marks = refl; facts = refl }

pub kept_put : (planes : List ℕ) (size : length planes ≡ all_planes) (words : List ℕ) (many : length words ≡ plane_words)
    → Kept true planes (put_mid leaves_from plane_words planes words)
kept_put planes size words many =
    record {
      size = length_put_leaves planes size words many;
      same = λ e. never e;
      marks = used_put_leaves planes size words many;
      facts = facts_put_leaves planes size words many;
    }
