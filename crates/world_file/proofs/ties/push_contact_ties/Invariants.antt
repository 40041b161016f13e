use Rattle.std.proofs.Common.{◌≡◌, ◌++◌, drop}
use Rattle.std.specs.List.{flat_map}
use Rattle.world_file.specs.Fitting.{contact_listed}
use Rattle.world_file.proofs.ties.push_contact_ties.Given as goal

abbrev pub invariant-loop-saved : goal.invariant-loop-saved
invariant-loop-saved l = l.ties.items ++ flat_map (contact_listed l.bodies) (drop l.saved-index l.contacts) ≡ l.fn.ties.items ++ flat_map (contact_listed l.bodies) l.contacts
