-- Trusted: The collide: which shapes touch, and what begins and ends.
use Rattle.std.specs.Prelude.{ℕ, suc, Bool, cond, List, [], ◌∷◌, ◌++◌, Option}
use Rattle.std.specs.Option.{option_map_or}
use Rattle.fixed_geom.specs.declared.boxes.Box2.{Box2}
use Rattle.shapes.specs.declared.pose.Pose.{Pose}
use Rattle.shapes.specs.declared.shape.ShapeDef.{ShapeDef}
use Rattle.contacts_base.specs.declared.key.ContactKey.{ContactKey}
use Rattle.contacts_base.specs.declared.contact.ContactEntry.{ContactEntry}
use Rattle.contacts_base.specs.declared.near.Proxy.{Proxy}
use Rattle.contacts_base.specs.ByPairs.{contacts_between}
use Rattle.contacts_base.specs.Changes.{keys_touching_only_in}
use Rattle.plain_world.specs.declared.body.Body.{Body}
use Rattle.plain_world.specs.declared.joint.BodyJoint.{BodyJoint}
use Rattle.plain_world.specs.Joints.{forbidden_pairs}
use Rattle.plain_world.specs.Bodies.{pose_of, stirs}
use Rattle.plain_world.specs.Kinds.{is_dynamic}

-- ---- the shapes that the collide reads: those of enabled bodies, ascending

-- those of one body, from the shape at `index` on, with their fat boxes
abbrev pub shape_proxies : ℕ → Bool → Bool → Pose → ℕ → List ShapeDef → List Box2 → List Proxy
shape_proxies slot dynamic stirs pose index [] fats = []
shape_proxies slot dynamic stirs pose index (d ∷ defs) [] = []
shape_proxies slot dynamic stirs pose index (d ∷ defs) (fat ∷ fats) =
    record {
      id = record { slot = slot; index = index };
      fat = fat;
      filter = d.filter;
      dynamic = dynamic;
      stirs = stirs;
      surface = record { friction = d.friction; restitution = d.restitution };
      shape = d.shape;
      pose = pose;
    } ∷ shape_proxies slot dynamic stirs pose (suc index) defs fats

abbrev pub body_proxies : ℕ → Body → List Proxy
body_proxies slot b = cond b.enabled (shape_proxies slot (is_dynamic b.kind) (stirs b) (pose_of b) 0 b.shapes b.fats) []

abbrev pub proxies_from : ℕ → List (Option Body) → List Proxy
proxies_from slot [] = []
proxies_from slot (o ∷ bodies) = option_map_or (body_proxies slot) o [] ++ proxies_from (suc slot) bodies

abbrev pub proxies_of : List (Option Body) → List Proxy
proxies_of bodies = proxies_from 0 bodies

-- ---- the collide

-- the contacts, and those that began and ended, ascending
pub record Collided : Type 0 where
  pub now : List ContactEntry
  pub begin : List ContactKey
  pub end : List ContactKey

-- Each near pair that no joint keeps apart has a contact: evaluated anew if one of its bodies stirs, else as it was.
unfoldable pub contacts_after : List (Option Body) → List (Option BodyJoint) → List ContactEntry → List ContactEntry
contacts_after bodies joints old = contacts_between (forbidden_pairs joints) (proxies_of bodies) old

abbrev pub collided : List (Option Body) → List (Option BodyJoint) → List ContactEntry → Collided
collided bodies joints old =
    let now = contacts_after bodies joints old in
    record { now = now; begin = keys_touching_only_in old now; end = keys_touching_only_in now old }
