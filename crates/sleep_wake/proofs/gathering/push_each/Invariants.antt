use Rattle.std.proofs.Common.{◌≤◌, drop, vec_capacity}
use Rattle.std.specs.Prelude.{filter}
use Rattle.sleep_wake.specs.Gathered.{is_first_of}
use Rattle.sleep_wake.proofs.GatherLemmas.{ArePushed}
use Rattle.sleep_wake.proofs.gathering.push_each.Given as goal

abbrev pub invariant-loop-place : goal.invariant-loop-place
invariant-loop-place g l = record {
  pushed : ArePushed (g.T.TieSource.ties l.source) (drop l.place l.members) l.fn.list.items (filter (is_first_of l.members) (g.T.TieSource.ties l.source)) l.list.items;
  capacity : vec_capacity l.fn.list ≤ vec_capacity l.list;
}
