use Rattle.std.proofs.Common.{◌≡◌, drop}
use Rattle.std.specs.List.{list_all}
use Rattle.world_file.specs.Fitting.{is_contact_colourless}
use Rattle.world_file.proofs.ties.are_contacts_colourless.Given as goal

abbrev pub invariant-loop-saved : goal.invariant-loop-saved
invariant-loop-saved l = list_all (is_contact_colourless l.bodies) (drop l.saved-index l.contacts) ≡ list_all (is_contact_colourless l.bodies) l.contacts
