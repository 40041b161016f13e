-- What the tree of a world's boxes holds.
use Rattle.std.specs.Prelude.{◌≡◌, ℕ, true, List, Option, Some}
use Rattle.fixed_geom.specs.declared.boxes.Box2.{Box2}
use Rattle.box_tree.specs.BoxLists.{box_at}
use Rattle.plain_world.specs.Slots.{body_at}
use Rattle.plain_world.specs.declared.body.Body.{Body}
use Rattle.world_core_base.specs.Covers.{IsCover}

-- by the slot of each enabled body there is a box, which holds each of the body's fat boxes
abbrev pub HoldsEnabled : List (Option Body) → List (Option Box2) → Type 0
HoldsEnabled bodies boxes = (slot : ℕ) (b : Body) → body_at bodies slot ≡ Some b → b.enabled ≡ true → IsCover (box_at boxes slot) b.fats
