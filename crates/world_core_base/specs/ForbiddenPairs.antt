-- Which pairs of bodies joints keep from colliding, asked of the ends of some of them.
use Rattle.std.specs.Prelude.{ℕ, ◌/◌, Bool, false, List, Option, Some, None, option_and_then}
use Rattle.std.specs.List.{list_any}
use Rattle.contacts_base.specs.declared.body_pair.BodyPair.{BodyPair}
use Rattle.contacts_base.specs.Forbidden.{is_pair_of}
use Rattle.plain_world.specs.declared.joint.BodyJoint.{BodyJoint}
use Rattle.plain_world.specs.Joints.{joint_at, forbidden_by}

-- the pair, if there is one, is of the bodies in these two slots
abbrev pub is_of : ℕ → ℕ → Option BodyPair → Bool
is_of a b None = false
is_of a b (Some pair) = is_pair_of a b pair

-- the joint, if there is one, keeps the two bodies from colliding
abbrev pub keeps_apart : ℕ → ℕ → Option BodyJoint → Bool
keeps_apart a b o = is_of a b (option_and_then forbidden_by o)

-- so does one of the joints with these ends
abbrev pub one_keeps_apart : List (Option BodyJoint) → ℕ → ℕ → List ℕ → Bool
one_keeps_apart joints a b ids = list_any (λ id. keeps_apart a b (joint_at joints (id / 2))) ids
