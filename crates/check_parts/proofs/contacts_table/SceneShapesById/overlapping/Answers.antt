use Rattle.check_parts.proofs.SceneLaws.{all_overlapping}
use Rattle.check_parts.proofs.contacts_table.SceneShapesById.overlapping.Goals as goal

pub returns-clause-complete : goal.returns-clause-complete
returns-clause-complete c = rw (← c.self.view_is) (all_overlapping c.self.inside.shapes c.self.inside.slots.items _ _ _ c.args.wanted.now c.new-slots.ensures.items c.deref.ensures.value c.in_ok-extend_from_slice.ensures.items c.self.invariant)
