use Rattle.std.proofs.Common.{◌≡◌, ◌++◌, ◌&&◌, true, drop}
use Rattle.contacts.specs.Stirring.{one_flagged, stirring_places}
use Rattle.contacts_base.specs.Split.{places_from}
use Rattle.contacts.proofs.stirring_places.scan_places.Given as goal

abbrev pub invariant-loop-place : goal.invariant-loop-place
invariant-loop-place l = (l.places.items ++ places_from (λ e. one_flagged l.flags e && true) l.place (drop l.place l.entries)) ≡ stirring_places l.flags (λ key. true) l.entries
