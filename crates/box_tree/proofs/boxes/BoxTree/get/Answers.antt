use Rattle.std.proofs.Common.{sym, ◌∙◌, is_some, ap, Option}
use Rattle.fixed_geom.specs.declared.boxes.Box2.{Box2}
use Rattle.box_tree.proofs.IndexLemmas.{some_within}
use Rattle.box_tree.proofs.boxes.BoxTree.get.Goals as goal

pub returns-clause-room : goal.returns-clause-room
returns-clause-room c = λ h. rw (← c.self.view_is) (some_within c.self.inside.boxes.items c.args.key (rw c.deref.ensures.value at (ap (λ (o : Option Box2). is_some o) (sym c.box_in.ensures) ∙ h)))
