use Rattle.std.proofs.Common.{◌≡◌, drop}
use Rattle.world_core_base.specs.Gather.{with_rows}
use Rattle.world_core_base.proofs.impulses.put_contact_impulses.Given as goal

abbrev pub invariant-loop-index : goal.invariant-loop-index
invariant-loop-index l = record {
  given : with_rows l.contacts.contacts (drop l.index l.rows) ≡ with_rows l.initial.contacts.contacts l.rows;
  numbered : l.contacts.numbered ≡ l.initial.contacts.numbered;
}
