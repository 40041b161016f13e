use Rattle.std.proofs.Common.{◌≡◌, ◌++◌, drop}
use Rattle.std.specs.List.{filter_map}
use Rattle.contacts_base.specs.Split.{contacts_in}
use Rattle.contacts.specs.NearMarked.{fresh_by}
use Rattle.contacts.specs.Fates.{moved_by}
use Rattle.contacts.proofs.moved_pairs.fresh_of_marked.Given as goal

abbrev pub invariant-loop-place : goal.invariant-loop-place
invariant-loop-place g l = (l.fresh.items ++ filter_map (fresh_by (moved_by l.collide.marks.now) (g.F.ForbiddenPairs.pairs l.collide.forbidden.now) (g.S.ShapesById.proxies l.collide.shapes.now) (contacts_in l.old)) (drop l.place l.listed)) ≡ filter_map (fresh_by (moved_by l.collide.marks.now) (g.F.ForbiddenPairs.pairs l.collide.forbidden.now) (g.S.ShapesById.proxies l.collide.shapes.now) (contacts_in l.old)) l.listed
