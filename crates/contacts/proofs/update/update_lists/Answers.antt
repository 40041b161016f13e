use Rattle.std.proofs.Common.{List, None, Some, subst, sym}
use Rattle.std.specs.Prelude.{All}
use Rattle.contacts_base.specs.declared.contact.ContactEntry.{ContactEntry}
use Rattle.contacts_base.specs.ShortLists.{counted_in}
use Rattle.contacts.specs.declared.pending_update.Touches.{Touches}
use Rattle.contacts.specs.Known.{IsPairKey}
use Rattle.contacts.specs.Looked.{IsDone, IsRebuilt}
use Rattle.contacts.specs.Fates.{moved_by}
use Rattle.contacts.proofs.JoinLaws.{done_both, done_long, fresh_rises, gone_none, gone_some, if_ok_both, looks_found, on_ok_known, rebuilt_contacts, rebuilt_none, rebuilt_some, short_pairs, touches_ascend}
use Rattle.contacts.proofs.update.update_lists.Given
use Rattle.contacts.proofs.update.update_lists.Goals as goal

pub rebuild_if-requires-clause-keys : goal.rebuild_if-requires-clause-keys
rebuild_if-requires-clause-keys g c = subst (λ (l : List ContactEntry). All (λ e. IsPairKey e.key) l) (sym c.short.ensures.value) (short_pairs c.args.old.now c.requires.known.keys)

pub rebuild_if-requires-clause-fresh : goal.rebuild_if-requires-clause-fresh
rebuild_if-requires-clause-fresh g c = fresh_rises (moved_by c.args.collide.now.marks.now) (g.F.ForbiddenPairs.pairs c.args.collide.now.forbidden.now) (g.S.ShapesById.proxies c.args.collide.now.shapes.now) _ c.args.fresh.now c.requires.shapes c.requires.fresh

-- ---- the short list stays as it is

done_none : (g : Given.Over) (c : goal.In-None g) → IsDone (g.F.ForbiddenPairs.pairs c.args.collide.now.forbidden.now) (g.S.ShapesById.proxies c.args.collide.now.shapes.now) c.args.old.now c.note_found.new.notes.items c.note_found.new.ends.items None c.in_ok-touches.touches.begin.items c.in_ok-touches.touches.end.items
done_none g c =
    let pairs = g.F.ForbiddenPairs.pairs c.args.collide.now.forbidden.now in
    let ps = g.S.ShapesById.proxies c.args.collide.now.shapes.now in
    let moved = moved_by c.args.collide.now.marks.now in
    done_long moved pairs ps c.args.old.now _ _ c.args.fresh.now _ _ c.requires.shapes c.know_ascending.ensures.long c.know_ascending.ensures.short c.know_ascending.ensures.contacts c.requires.known c.requires.fresh (looks_found moved pairs ps c.args.old.now _ _ c.in_ok-touches.ensures.looks c.requires.looked)
    (rebuilt_none moved pairs ps c.args.old.now.short (counted_in c.short.result.now) c.args.fresh.now _ c.short.ensures.value c.in-None.is c.in_ok-rebuilt.ensures.rebuilt)

pub returns-in-None-clause-done : goal.returns-in-None-clause-done
returns-in-None-clause-done g c = done_none g c

pub returns-in-None-clause-gone : goal.returns-in-None-clause-gone
returns-in-None-clause-gone g c = gone_none (moved_by c.args.collide.now.marks.now) (g.F.ForbiddenPairs.pairs c.args.collide.now.forbidden.now) (g.S.ShapesById.proxies c.args.collide.now.shapes.now) c.args.old.now.short (counted_in c.short.result.now) _ _ c.short.ensures.value c.in-None.is c.clear.ensures.items c.in_ok-rebuilt.ensures.gone

pub returns-in-None-clause-ended : goal.returns-in-None-clause-ended
returns-in-None-clause-ended g c = (looks_found (moved_by c.args.collide.now.marks.now) (g.F.ForbiddenPairs.pairs c.args.collide.now.forbidden.now) (g.S.ShapesById.proxies c.args.collide.now.shapes.now) c.args.old.now _ _ c.in_ok-touches.ensures.looks c.requires.looked).gone_is

-- ---- it is made anew

pub from_entries-requires : goal.from_entries-requires
from_entries-requires g c =
    let pairs = g.F.ForbiddenPairs.pairs c.args.collide.now.forbidden.now in
    let ps = g.S.ShapesById.proxies c.args.collide.now.shapes.now in
    let moved = moved_by c.args.collide.now.marks.now in
    rebuilt_contacts moved pairs ps c.args.old.now _ _ c.args.fresh.now c.in-Some.rebuilt.all.items _ _ _ _ c.requires.shapes c.know_ascending.ensures.contacts c.requires.known c.requires.fresh (looks_found moved pairs ps c.args.old.now _ _ c.in_ok-touches.ensures.looks c.requires.looked)
    (rebuilt_some moved pairs ps c.args.old.now.short (counted_in c.short.result.now) c.args.fresh.now _ c.in-Some.rebuilt c.short.ensures.value c.in-Some.is c.in_ok-rebuilt.ensures.rebuilt)

pub join_touches-requires-clause-long_begin : goal.join_touches-requires-clause-long_begin
join_touches-requires-clause-long_begin g c =
    let pairs = g.F.ForbiddenPairs.pairs c.args.collide.now.forbidden.now in
    let ps = g.S.ShapesById.proxies c.args.collide.now.shapes.now in
    let moved = moved_by c.args.collide.now.marks.now in
    let new = rebuilt_some moved pairs ps c.args.old.now.short (counted_in c.short.result.now) c.args.fresh.now _ c.in-Some.rebuilt c.short.ensures.value c.in-Some.is c.in_ok-rebuilt.ensures.rebuilt in
    (touches_ascend moved pairs ps c.args.old.now _ _ c.args.fresh.now _ _ _ _ _ c.requires.shapes c.know_ascending.ensures.long c.know_ascending.ensures.short c.requires.fresh (looks_found moved pairs ps c.args.old.now _ _ c.in_ok-touches.ensures.looks c.requires.looked) new).first

pub join_touches-requires-clause-long_end : goal.join_touches-requires-clause-long_end
join_touches-requires-clause-long_end g c =
    let pairs = g.F.ForbiddenPairs.pairs c.args.collide.now.forbidden.now in
    let ps = g.S.ShapesById.proxies c.args.collide.now.shapes.now in
    let moved = moved_by c.args.collide.now.marks.now in
    let new = rebuilt_some moved pairs ps c.args.old.now.short (counted_in c.short.result.now) c.args.fresh.now _ c.in-Some.rebuilt c.short.ensures.value c.in-Some.is c.in_ok-rebuilt.ensures.rebuilt in
    (touches_ascend moved pairs ps c.args.old.now _ _ c.args.fresh.now _ _ _ _ _ c.requires.shapes c.know_ascending.ensures.long c.know_ascending.ensures.short c.requires.fresh (looks_found moved pairs ps c.args.old.now _ _ c.in_ok-touches.ensures.looks c.requires.looked) new).second

pub join_touches-requires-clause-short_begin : goal.join_touches-requires-clause-short_begin
join_touches-requires-clause-short_begin g c =
    let pairs = g.F.ForbiddenPairs.pairs c.args.collide.now.forbidden.now in
    let ps = g.S.ShapesById.proxies c.args.collide.now.shapes.now in
    let moved = moved_by c.args.collide.now.marks.now in
    let new = rebuilt_some moved pairs ps c.args.old.now.short (counted_in c.short.result.now) c.args.fresh.now _ c.in-Some.rebuilt c.short.ensures.value c.in-Some.is c.in_ok-rebuilt.ensures.rebuilt in
    (touches_ascend moved pairs ps c.args.old.now _ _ c.args.fresh.now _ _ _ _ _ c.requires.shapes c.know_ascending.ensures.long c.know_ascending.ensures.short c.requires.fresh (looks_found moved pairs ps c.args.old.now _ _ c.in_ok-touches.ensures.looks c.requires.looked) new).third

pub join_touches-requires-clause-short_end : goal.join_touches-requires-clause-short_end
join_touches-requires-clause-short_end g c =
    let pairs = g.F.ForbiddenPairs.pairs c.args.collide.now.forbidden.now in
    let ps = g.S.ShapesById.proxies c.args.collide.now.shapes.now in
    let moved = moved_by c.args.collide.now.marks.now in
    let new = rebuilt_some moved pairs ps c.args.old.now.short (counted_in c.short.result.now) c.args.fresh.now _ c.in-Some.rebuilt c.short.ensures.value c.in-Some.is c.in_ok-rebuilt.ensures.rebuilt in
    (touches_ascend moved pairs ps c.args.old.now _ _ c.args.fresh.now _ _ _ _ _ c.requires.shapes c.know_ascending.ensures.long c.know_ascending.ensures.short c.requires.fresh (looks_found moved pairs ps c.args.old.now _ _ c.in_ok-touches.ensures.looks c.requires.looked) new).fourth

pub returns-in_ok-short-in-Some-clause-done : goal.returns-in_ok-short-in-Some-clause-done
returns-in_ok-short-in-Some-clause-done g c =
    let pairs = g.F.ForbiddenPairs.pairs c.args.collide.now.forbidden.now in
    let ps = g.S.ShapesById.proxies c.args.collide.now.shapes.now in
    let moved = moved_by c.args.collide.now.marks.now in
    let list = c.in_ok-short-in-Some.short in
    let new : IsRebuilt moved pairs ps c.args.old.now.short c.args.fresh.now c.in-Some.rebuilt.all.items c.in-Some.rebuilt.touches.begin.items c.in-Some.rebuilt.touches.end.items =
    rebuilt_some moved pairs ps c.args.old.now.short (counted_in c.short.result.now) c.args.fresh.now _ c.in-Some.rebuilt c.short.ensures.value c.in-Some.is c.in_ok-rebuilt.ensures.rebuilt in
    if_ok_both _ _ (λ (t : Touches). IsDone pairs ps c.args.old.now c.note_found.new.notes.items c.note_found.new.ends.items (Some (counted_in list)) t.begin.items t.end.items) c.join_touches.result (λ t b e.
    done_both moved pairs ps c.args.old.now _ _ (Some (counted_in list)) c.args.fresh.now c.in-Some.rebuilt.all.items _ _ _ _ t.begin.items t.end.items c.requires.shapes c.know_ascending.ensures.contacts c.requires.known c.requires.fresh (looks_found moved pairs ps c.args.old.now _ _ c.in_ok-touches.ensures.looks c.requires.looked) new c.in_ok-short-in-Some.ensures.value b e) c.join_touches.ensures.begin c.join_touches.ensures.end

pub returns-in_ok-short-in-Some-clause-gone : goal.returns-in_ok-short-in-Some-clause-gone
returns-in_ok-short-in-Some-clause-gone g c =
    on_ok_known _ c.join_touches.result (gone_some (moved_by c.args.collide.now.marks.now) (g.F.ForbiddenPairs.pairs c.args.collide.now.forbidden.now) (g.S.ShapesById.proxies c.args.collide.now.shapes.now) c.args.old.now.short (counted_in c.short.result.now) _ c.in-Some.rebuilt c.short.ensures.value c.in-Some.is c.in_ok-rebuilt.ensures.gone)

pub returns-in_ok-short-in-Some-clause-ended : goal.returns-in_ok-short-in-Some-clause-ended
returns-in_ok-short-in-Some-clause-ended g c = on_ok_known _ c.join_touches.result (looks_found (moved_by c.args.collide.now.marks.now) (g.F.ForbiddenPairs.pairs c.args.collide.now.forbidden.now) (g.S.ShapesById.proxies c.args.collide.now.shapes.now) c.args.old.now _ _ c.in_ok-touches.ensures.looks c.requires.looked).gone_is
