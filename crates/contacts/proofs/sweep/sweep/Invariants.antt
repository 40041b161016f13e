use Rattle.std.proofs.Common.{◌≡◌, ◌++◌, drop}
use Rattle.contacts.specs.Sweep.{dynamics_of, swept}
use Rattle.contacts.proofs.sweep.sweep.Given as goal

abbrev pub invariant-loop-place : goal.invariant-loop-place
invariant-loop-place l = record {
  pushed : l.near.items ++ swept l.bits l.proxies (drop l.place l.starts) ≡ l.initial.near.items ++ swept l.bits l.proxies l.starts;
  later : l.later ≡ dynamics_of l.proxies (drop l.place l.starts);
}
