-- A tree may cross threads, and be shared by them. A type that holds itself is shown to by a layer of it over any parts
-- that do.
use denote.RattleType.{RattleType}
use denote.Struct.Field.{Field, row_field}
use denote.Hole.{as_row}
use denote.Model.Local.{Parts, rows}
use denote.Model.Goals.{send, sync, part_has, has_of}
use denote.Model.Marks.{tied_send, tied_sync}
use denote.Param.Send.{IsSend, IsSync, sendable, recorded_send, recorded_sync, view_send, view_sync}
use denote.Param.SendFields.{as_row_send, as_row_sync, declared_send, declared_sync, variants_send, variants_sync}
use Rattle.std.specs.contracts.alloc.Global as Global
use Rattle.std.specs.contracts.boxed.Box as Box
use Rattle.std.specs.contracts.impls.GlobalAllocator.TheImpl.{ghosts}
use Rattle.std.proofs.Crossing.{Box-send, Box-sync}
use Rattle.box_tree_base.specs.contracts.leaves.Leaf as Leaf
use Rattle.box_tree_base.specs.contracts.tree.Stem as Stem
use Rattle.box_tree_base.specs.contracts.tree.Tree as Tree
use Rattle.box_tree_base.specs.contracts.tree.Tree.TheKnot as Knot
use Rattle.box_tree_base.specs.declared.tree.Tree.TheDeep.{the_members, member-Tree}

leaf_send : IsSend (Leaf.the_field).row
leaf_send = search sendable depth 30

leaf_sync : IsSync (Leaf.the_field).row
leaf_sync = search sendable depth 30

stem_send : IsSend (Stem.the_field).row
stem_send = search sendable depth 30

stem_sync : IsSync (Stem.the_field).row
stem_sync = search sendable depth 30

module _ (p : Parts Knot.frame) where
  abbrev hole_row : RattleType
  hole_row = rows Knot.frame p member-Tree

  abbrev side_field : Field
  side_field = row_field (Box.the_row hole_row Global.the_row ghosts)

  node_send : IsSend hole_row → IsSend (Knot.at-Node p)
  node_send s =
      let side = Box-send hole_row s in
      let node = variants_send (Knot.type-Node hole_row hole_row) (
        (as_row_send (row_field (as_row Leaf.the_field)) (as_row_send Leaf.the_field leaf_send), tt),
        (
          (as_row_send side_field side, (as_row_send (row_field (as_row Stem.the_field)) (as_row_send Stem.the_field stem_send), (as_row_send side_field side, tt))),
          tt,
        ),
      ) in
      search recorded_send

  node_sync : IsSync hole_row → IsSync (Knot.at-Node p)
  node_sync y =
      let side = Box-sync hole_row y in
      let node = variants_sync (Knot.type-Node hole_row hole_row) (
        (as_row_sync (row_field (as_row Leaf.the_field)) (as_row_sync Leaf.the_field leaf_sync), tt),
        (
          (as_row_sync side_field side, (as_row_sync (row_field (as_row Stem.the_field)) (as_row_sync Stem.the_field stem_sync), (as_row_sync side_field side, tt))),
          tt,
        ),
      ) in
      search recorded_sync

  layer_send : IsSend hole_row → IsSend (Knot.at-Tree p)
  layer_send s =
      let layer = declared_send (Knot.type-Tree (Knot.at-Node p)) (as_row_send (row_field (Knot.at-Node p)) (node_send s), tt) in
      search recorded_send

  layer_sync : IsSync hole_row → IsSync (Knot.at-Tree p)
  layer_sync y =
      let layer = declared_sync (Knot.type-Tree (Knot.at-Node p)) (as_row_sync (row_field (Knot.at-Node p)) (node_sync y), tt) in
      search recorded_sync

  step_send : IsSend hole_row → IsSend (rows Knot.frame (Knot.step p) member-Tree)
  step_send s = has_of Knot.frame send (Knot.step p) member-Tree (part_has send (Knot.view-Tree p) (view_send (Knot.at-Tree p) _ _ _ _ (layer_send s)))

  step_sync : IsSync hole_row → IsSync (rows Knot.frame (Knot.step p) member-Tree)
  step_sync y = has_of Knot.frame sync (Knot.step p) member-Tree (part_has sync (Knot.view-Tree p) (view_sync (Knot.at-Tree p) _ _ _ _ (layer_sync y)))

each_send : (p : Parts Knot.frame) → ((j : the_members) → IsSend (rows Knot.frame p j)) → (i : the_members) → IsSend (rows Knot.frame (Knot.step p) i)
each_send p all member-Tree = step_send p (all member-Tree)

each_sync : (p : Parts Knot.frame) → ((j : the_members) → IsSync (rows Knot.frame p j)) → (i : the_members) → IsSync (rows Knot.frame (Knot.step p) i)
each_sync p all member-Tree = step_sync p (all member-Tree)

pub tree_send : IsSend Tree.the_row
tree_send = tied_send Knot.frame Knot.step Knot.sizes each_send member-Tree

pub tree_sync : IsSync Tree.the_row
tree_sync = tied_sync Knot.frame Knot.step Knot.sizes each_sync member-Tree
