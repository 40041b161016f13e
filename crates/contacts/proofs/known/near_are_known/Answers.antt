use Rattle.std.proofs.Common.{map, inl, inr}
use Rattle.contacts_base.specs.Contacts.{number_of as entry_number}
use Rattle.contacts.specs.ByCodes.{allowed_codes}
use Rattle.contacts.specs.Known.{staying, fresh, code_number}
use Rattle.contacts_base.proofs.Members.{in_from_contains, contains_from_in}
use Rattle.contacts.proofs.KnownLemmas.{near_in_parts, parts_are_near}
use Rattle.contacts.proofs.known.near_are_known.Goals as goal

pub returns : goal.returns
returns c = λ moved pairs ps old list known n. (
  λ h. elim (near_in_parts moved pairs ps old n list known (in_from_contains (map (code_number ps) (allowed_codes pairs ps)) n h)) [
    | inl a ↦ inl (contains_from_in (map entry_number (staying moved pairs ps old)) n a)
    | inr b ↦ inr (contains_from_in (map (code_number ps) (fresh moved pairs ps old)) n b)
  ],
  λ h. contains_from_in (map (code_number ps) (allowed_codes pairs ps)) n (parts_are_near moved pairs ps old n list known (elim h [
    | inl a ↦ inl (in_from_contains (map entry_number (staying moved pairs ps old)) n a)
    | inr b ↦ inr (in_from_contains (map (code_number ps) (fresh moved pairs ps old)) n b)
  ])),
)
