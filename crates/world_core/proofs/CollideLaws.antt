-- The shapes that a collide reads, contacts that are dropped, and bodies that joints keep apart.
use Rattle.std.proofs.Common.{◌≡◌, ◌&&◌, ℕ, ◌<◌, ◌≤◌, List, [], ◌∷◌, length, map, Option, Some, None, Bool, true, false, cond, refl, Result, Ok, Err}
use Rattle.std.specs.Prelude.{nat_le, filter, IfOk}
use Rattle.std.specs.List.{list_all}
use Rattle.std.proofs.lemmas.Bool.{leb-true}
use Rattle.fixed_geom.specs.declared.refusal.Refusal.TheVariants.{BadShape, OutOfRange}
use Rattle.shapes.specs.declared.shape.ShapeDef.{ShapeDef}
use Rattle.shapes.specs.Shapes.{are_forms_allowed, shapes_refusal, is_in_range, is_form_allowed}
use Rattle.contacts_base.specs.declared.contact.ContactEntry.{ContactEntry}
use Rattle.contacts_base.specs.ByPairs.{contacts_between}
use Rattle.plain_world.specs.declared.body.Body.{Body}
use Rattle.plain_world.specs.declared.joint.BodyJoint.{BodyJoint}
use Rattle.plain_world.specs.Joints.{forbidden_pairs}
use Rattle.world_rules.specs.Collide.{contacts_after, proxies_of}
use Rattle.contacts_base.specs.Contacts.{number_of}
use Rattle.contacts_base.proofs.Members.{Each}
use Rattle.contacts_base.proofs.Rising.{IsRising}

-- ---- a body has eight shapes at most

count_if : (few some forms : Bool) → ((some && few) && forms) ≡ true → few ≡ true
count_if true some forms e = refl
count_if false true forms e = cc
count_if false false forms e = cc

allowed_if : (forms range : Bool) → cond forms (cond range None (Some OutOfRange)) (Some BadShape) ≡ None → forms ≡ true
allowed_if true range e = refl
allowed_if false range e = cc

pub eight_at_most : (segments : Bool) (defs : List ShapeDef) → shapes_refusal segments defs ≡ None → length defs ≤ 8
unfolding shapes_refusal
eight_at_most segments defs e =
    leb-true _ _ (count_if (nat_le (length defs) 8) (nat_le 1 (length defs)) (list_all (λ d. is_form_allowed segments d.shape) defs) (allowed_if (are_forms_allowed segments defs) (list_all is_in_range defs) e))

-- ---- what joints keep from colliding

pub contacts_are_after : (bodies : List (Option Body)) (joints : List (Option BodyJoint)) (old : List ContactEntry) → contacts_between (forbidden_pairs joints) (proxies_of bodies) old ≡ contacts_after bodies joints old
unfolding contacts_after
contacts_are_after bodies joints old = refl
