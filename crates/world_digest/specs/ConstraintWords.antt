-- Trusted: Joints, contacts and colours as words.
use Rattle.std.specs.Prelude.{ℕ, zero, suc, ◌++◌, List, [], ◌∷◌}
use Rattle.body_handles.specs.declared.handle.Handle.{Handle}
use Rattle.plain_world.specs.declared.constraint.Constraint.{Constraint}
use Rattle.plain_world.specs.declared.constraint.Constraint.TheVariants.{Joint, Contact}
use Rattle.contacts_base.specs.Keys.{id_number}
use Rattle.contacts_base.specs.declared.contact.ContactEntry.{ContactEntry}
use Rattle.contacts_base.specs.declared.contact.ContactPoint.{ContactPoint}
use Rattle.contacts_base.specs.declared.key.ContactKey.{ContactKey}
use Rattle.joint_rows.specs.declared.joint.Joint.{Joint as RowJoint}
use Rattle.plain_world.specs.KeptColours.{members_at}
use Rattle.plain_world.specs.declared.joint.BodyJoint.{BodyJoint}
use Rattle.world_digest.specs.BodyWords.{vector_words}
use Rattle.world_digest.specs.Sums.{integer_word, list_words, option_words, truth_word}

abbrev pub row_joint_words : RowJoint → List ℕ
row_joint_words j = vector_words j.from ++ vector_words j.to ++ integer_word j.length ∷ integer_word j.impulse ∷ []

abbrev pub joint_words : BodyJoint → List ℕ
joint_words j = j.a ∷ j.b ∷ truth_word j.collide ∷ row_joint_words j.joint

-- a key: the number of each of its shapes
abbrev pub key_words : ContactKey → List ℕ
key_words k = id_number k.first ∷ id_number k.second ∷ []

abbrev pub point_words : ContactPoint → List ℕ
point_words p = vector_words p.normal ++ integer_word p.separation ∷ (vector_words p.ra ++ vector_words p.rb ++ integer_word p.normal_impulse ∷ integer_word p.tangent_impulse ∷ p.candidate ∷ [])

abbrev pub contact_words : ContactEntry → List ℕ
contact_words e = key_words e.key ++ (integer_word e.surface.friction ∷ integer_word e.surface.restitution ∷ option_words point_words e.contact.first) ++ option_words point_words e.contact.second

abbrev pub handle_words : Handle → List ℕ
handle_words h = h.slot ∷ h.generation ∷ []

-- 0 and a joint's handle, or 1 and a contact's key
abbrev pub constraint_words : Constraint → List ℕ
constraint_words (Joint handle) = 0 ∷ handle_words handle
constraint_words (Contact key) = 1 ∷ key_words key

-- the constraints of the first colours, colour by colour
abbrev pub colours_words : List (List Constraint) → ℕ → List ℕ
colours_words colours zero = []
colours_words colours (suc k) = colours_words colours k ++ list_words constraint_words (members_at colours k)
