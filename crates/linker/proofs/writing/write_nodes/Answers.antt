-- `writing::write_nodes` meets its contract. The loop's invariant: the words passed are written.
use mathlib.Core.Path.{refl, sym, ◌∙◌, ap, subst}
use native.Mathlib.Omega.{arith}
use Rattle.linker.specs.Given.{moved_word, Movable, part_units, node_behind, moved_node}
use Rattle.linker.proofs.WordLaws.{joining, read-packed, read-units, nodes-there, node_movable}
use Rattle.rules.specs.WellFormed.{joined}
use Rattle.writer.proofs.WordLaws.{word_more}
use Rattle.linker.proofs.writing.write_nodes.Goals as goal

pub overflow_sub-count : goal.overflow_sub-count
overflow_sub-count c = nodes-there (joining c.args.both.now c.requires.0)

pub loop-k-init : goal.loop-k-init
unfolding joined
loop-k-init c = refl

pub moved-requires : goal.moved-requires
moved-requires c =
    let is = c.packed_at-node.ensures in
    let kind = c.kind_of.ensures in
    let both = c.args.both.now in
    let m = node_behind both c.loop-k.k in
    let movable = node_movable (joining both c.requires.0) c.loop-k.k (omega arith) in
    let packs = subst (Movable both (part_units m)) (sym (read-packed _ _ _ is kind)) movable in
    subst (λ one. Movable both one c.packed_at-node.result) (sym (read-units _ _ _ is kind _ c.part_unit-one.ensures)) packs

pub loop-k-preserved : goal.loop-k-preserved
loop-k-preserved c =
    let loop = c.loop-k in
    let both = c.args.both.now in
    let put = c.put_word.ensures in
    let is = c.packed_at-node.ensures in
    let kind = c.kind_of.ensures in
    word_more (λ i. moved_node both (node_behind both i)) c.args.out.now _ loop.k _ _ _ loop.invariant put
    (c.moved.ensures
    ∙ (ap (λ one. moved_word both one c.packed_at-node.result) (read-units _ _ _ is kind _ c.part_unit-one.ensures)
    ∙ ap (moved_word both (part_units (node_behind both loop.k))) (read-packed _ _ _ is kind)))
