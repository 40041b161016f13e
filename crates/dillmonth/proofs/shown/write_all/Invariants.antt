use Rattle.std.proofs.Common.{◌≡◌, map, take}
use Rattle.dillmonth.specs.Lists.{written}
use Rattle.dillmonth.proofs.shown.write_all.Given as goal

abbrev pub invariant-loop-at : goal.invariant-loop-at
invariant-loop-at g l = l.out ≡ written (map g.T.Shown.shown (take l.at l.items)) l.fn.out
