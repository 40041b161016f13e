use Rattle.std.proofs.Common.{◌≡◌, ◌≤◌, length, take, vec_capacity, vec_len}
use Rattle.contacts.specs.Fates.{moved_by}
use Rattle.contacts.specs.SurveyPieces.{looks_of}
use Rattle.contacts.proofs.survey.look_over.Given as goal

abbrev pub invariant-loop-index : goal.invariant-loop-index
invariant-loop-index g l = record {
  notes : l.notes.items ≡ (looks_of (moved_by l.collide.marks.now) (g.F.ForbiddenPairs.pairs l.collide.forbidden.now) (g.S.ShapesById.proxies l.collide.shapes.now) l.old (take l.index l.places)).notes;
  ends : l.ends.items ≡ (looks_of (moved_by l.collide.marks.now) (g.F.ForbiddenPairs.pairs l.collide.forbidden.now) (g.S.ShapesById.proxies l.collide.shapes.now) l.old (take l.index l.places)).ends;
  begin : l.begin.items ≡ (looks_of (moved_by l.collide.marks.now) (g.F.ForbiddenPairs.pairs l.collide.forbidden.now) (g.S.ShapesById.proxies l.collide.shapes.now) l.old (take l.index l.places)).begin;
  end : l.end.items ≡ (looks_of (moved_by l.collide.marks.now) (g.F.ForbiddenPairs.pairs l.collide.forbidden.now) (g.S.ShapesById.proxies l.collide.shapes.now) l.old (take l.index l.places)).end;
  notes_long : vec_len l.notes ≤ l.index;
  ends_long : vec_len l.ends ≤ l.index;
  begin_long : vec_len l.begin ≤ l.index;
  end_long : vec_len l.end ≤ l.index;
  notes_room : length l.places ≤ vec_capacity l.notes;
  ends_room : length l.places ≤ vec_capacity l.ends;
  begin_room : length l.places ≤ vec_capacity l.begin;
  end_room : length l.places ≤ vec_capacity l.end;
}
