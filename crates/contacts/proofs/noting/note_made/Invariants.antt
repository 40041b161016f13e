use Rattle.std.proofs.Common.{◌≡◌, take}
use Rattle.std.specs.Prelude.{option_map}
use Rattle.std.specs.List.{filter_map}
use Rattle.contacts_base.specs.Contacts.{lookup}
use Rattle.contacts.specs.Numbered.{numbered_of}
use Rattle.contacts.proofs.noting.note_made.Given as goal

abbrev pub invariant-loop-index : goal.invariant-loop-index
invariant-loop-index l = l.made.items ≡ filter_map (λ key. option_map numbered_of (lookup l.entries key)) (take l.index l.keys)
