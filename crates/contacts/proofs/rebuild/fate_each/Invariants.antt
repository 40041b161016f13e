use Rattle.std.proofs.Common.{◌≡◌, ◌≤◌, ◌++◌, length, map, take, drop}
use Rattle.contacts_base.specs.Contacts.{number_of}
use Rattle.contacts_base.specs.Merge.{merged}
use Rattle.contacts_base.specs.ShortLists.{counted_in}
use Rattle.contacts.proofs.ShortLaws.{rank_in}
use Rattle.contacts.specs.Known.{again, staying}
use Rattle.contacts.specs.Fates.{begun_keys, ended_keys, gone_keys, moved_by}
use Rattle.contacts.proofs.rebuild.fate_each.Given as goal

abbrev pub invariant-loop-place : goal.invariant-loop-place
invariant-loop-place g l = record {
  within : l.next ≤ length l.fresh;
  all : l.all.items ++ merged number_of (map (again (g.S.ShapesById.proxies l.collide.shapes.now)) (staying (moved_by l.collide.marks.now) (g.F.ForbiddenPairs.pairs l.collide.forbidden.now) (g.S.ShapesById.proxies l.collide.shapes.now) (drop (rank_in l.place l.old) (counted_in l.old)))) (drop l.next l.fresh) ≡ merged number_of (map (again (g.S.ShapesById.proxies l.collide.shapes.now)) (staying (moved_by l.collide.marks.now) (g.F.ForbiddenPairs.pairs l.collide.forbidden.now) (g.S.ShapesById.proxies l.collide.shapes.now) (counted_in l.old))) l.fresh;
  begin : l.begin.items ≡ begun_keys (moved_by l.collide.marks.now) (g.F.ForbiddenPairs.pairs l.collide.forbidden.now) (g.S.ShapesById.proxies l.collide.shapes.now) (take (rank_in l.place l.old) (counted_in l.old));
  gone : l.gone.items ≡ gone_keys (moved_by l.collide.marks.now) (g.F.ForbiddenPairs.pairs l.collide.forbidden.now) (g.S.ShapesById.proxies l.collide.shapes.now) (take (rank_in l.place l.old) (counted_in l.old));
  end : l.end.items ≡ ended_keys (moved_by l.collide.marks.now) (g.F.ForbiddenPairs.pairs l.collide.forbidden.now) (g.S.ShapesById.proxies l.collide.shapes.now) (take (rank_in l.place l.old) (counted_in l.old));
}
