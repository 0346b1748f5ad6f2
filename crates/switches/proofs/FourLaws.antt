-- The four planes as two parts that are lent: those of the sweep, and that of the statements set aside.
use mathlib.Core.List.{List, ◌++◌, append-nil}
use mathlib.Core.Path.{◌≡◌, sym, ◌∙◌, ap}
use Prim.Native.Nat.{ℕ}
use native.Mathlib.Omega.{arith}
use lib.ListN.{length, length-drop, drop_of_length-le}
use lib.Seq.{length-take-le, take_all, take_at, drop_at}
use borrow.Rule.Slice.PartMut.{mid_of, post_of, put_mid, same_len_mid}
use Rattle.visit.specs.Fields.{plane_words, all_planes}
use Rattle.switches.specs.Again.{Beside}
use Rattle.switches.specs.Aside.{four_planes, work_planes, aside_plane, Aside}
use Rattle.rules.specs.Table.{Program}

module _ (planes : List ℕ) (size : length planes ≡ four_planes) where
  pub work-length : length (work_planes planes) ≡ all_planes
  work-length = length-take-le all_planes planes (omega arith)

  pub aside-length : length (aside_plane planes) ≡ plane_words
  aside-length = length-drop all_planes planes ∙ omega arith

  pub aside-lent : mid_of all_planes plane_words planes ≡ aside_plane planes
  aside-lent = take_all plane_words (aside_plane planes) (omega (arith, aside-length))

  -- back with other words
  module _ (words : List ℕ) (many : length words ≡ all_planes) where
    pub work_put_work : work_planes (put_mid 0 all_planes planes words) ≡ words
    work_put_work = take_at words (aside_plane planes) all_planes many

    pub aside_put_work : aside_plane (put_mid 0 all_planes planes words) ≡ aside_plane planes
    aside_put_work = drop_at words (aside_plane planes) all_planes many

    pub length_put_work : length (put_mid 0 all_planes planes words) ≡ four_planes
    length_put_work = same_len_mid 0 all_planes planes words (many ∙ sym work-length) ∙ size

    pub beside_work : {program : Program} → Beside program planes → Beside program (put_mid 0 all_planes planes words)
    beside_work beside = record { size = length_put_work; aside = rw aside_put_work beside.aside }

  module _ (words : List ℕ) (many : length words ≡ plane_words) where
    pub aside_put_aside : aside_plane (put_mid all_planes plane_words planes words) ≡ words
    aside_put_aside =
        drop_at (work_planes planes) (words ++ post_of all_planes plane_words planes) all_planes work-length
        ∙ ap (λ rest. words ++ rest) (drop_of_length-le (aside_plane planes) {i = plane_words} (omega (arith, aside-length)))
        ∙ append-nil words

    pub length_put_aside : length (put_mid all_planes plane_words planes words) ≡ four_planes
    length_put_aside =
        same_len_mid all_planes plane_words planes words (many ∙ sym (ap length aside-lent ∙ aside-length)) ∙ size

    pub beside_aside : {program : Program} → Aside program words → Beside program (put_mid all_planes plane_words planes words)
    beside_aside aside = record { size = length_put_aside; aside = rw aside_put_aside aside }
