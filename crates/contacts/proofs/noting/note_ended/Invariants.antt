use Rattle.std.proofs.Common.{◌≡◌, ◌++◌, take}
use Rattle.std.specs.Prelude.{option_map, slice_get}
use Rattle.std.specs.List.{filter_map}
use Rattle.contacts_base.specs.declared.contact.ContactEntry.{ContactEntry}
use Rattle.contacts.proofs.noting.note_ended.Given as goal

abbrev pub invariant-loop-index : goal.invariant-loop-index
invariant-loop-index l = l.gone.items ≡ l.fn.gone.items ++ filter_map (λ place. option_map (λ (e : ContactEntry). e.key) (slice_get l.entries place)) (take l.index l.places)
