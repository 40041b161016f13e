use Rattle.std.proofs.Common.{◌≡◌, ◌-◌, List, [], ◌++◌, ap, arith, drop, length, map, subst, sym, ◌∙◌}
use Rattle.std.proofs.lemmas.List.{drop_all, length-drop, take_all}
use Rattle.contacts_base.specs.declared.contact.ContactEntry.{ContactEntry}
use Rattle.contacts_base.specs.Contacts.{number_of}
use Rattle.contacts_base.specs.Merge.{merged}
use Rattle.contacts_base.specs.ShortLists.{counted_in}
use Rattle.contacts.specs.Known.{IsPairKey, again, staying}
use Rattle.contacts.specs.Fates.{begun_keys, ended_keys, gone_keys, moved_by}
use Rattle.contacts.proofs.FateLemmas.{begun_step, ended_step, gone_step}
use Rattle.contacts.proofs.ShortLaws.{StandsAt, ends_at, passed_at, rank_in, stands_at}
use Rattle.contacts.proofs.UpdateLemmas.{fate_more}
use Rattle.contacts.proofs.rebuild.fate_each.Goals as goal

pub loop-place-preserved-then-is_over : goal.loop-place-preserved-then-is_over
loop-place-preserved-then-is_over g c =
    let passed = passed_at c.args.old.now c.entries-entries.result.now c.loop-place.place c.entries-entries.ensures.value c.entries-entries.ensures.flags (sym c.is_over.ensures ∙ c.if-is_over.true) in
    record {
      within = c.loop-place.invariant.within;
      all = rw passed c.loop-place.invariant.all;
      begin = rw passed c.loop-place.invariant.begin;
      end = rw passed c.loop-place.invariant.end;
      gone = rw passed c.loop-place.invariant.gone;
    }

pub loop-place-preserved : goal.loop-place-preserved
loop-place-preserved g c =
    let ps = g.S.ShapesById.proxies c.args.collide.now.shapes.now in
    let moved = moved_by c.args.collide.now.marks.now in
    let pairs = g.F.ForbiddenPairs.pairs c.args.collide.now.forbidden.now in
    let s = c.args.old.now in
    let old = counted_in s in
    let place = c.loop-place.place in
    let entry = c.index-entries-place.result in
    let fate = c.fate_in-fate.result in
    let at : StandsAt s place entry = stands_at s c.entries-entries.result.now place entry c.entries-entries.ensures.value c.entries-entries.ensures.flags c.loop-place-test.true (sym c.is_over.ensures ∙ c.if-is_over.false) c.index-entries-place.is in
    record {
      within = c.in_ok-next.ensures.within;
      all = rw at.next (fate_more moved pairs ps old (rank_in place s) entry entry fate c.args.fresh.now _ _ _ _ _ at.within at.is c.fate_in-fate.ensures c.requires.old.rising c.requires.fresh c.in_ok-next.ensures.added c.loop-place.invariant.all);
      begin = rw at.next (begun_step moved pairs ps old (rank_in place s) entry entry fate _ _ _ at.within at.is c.fate_in-fate.ensures c.begun_key.ensures c.loop-place.invariant.begin c.in_ok-push_key.ensures.pushed);
      end = rw at.next (ended_step moved pairs ps old (rank_in place s) entry entry fate _ _ _ at.within at.is c.fate_in-fate.ensures c.ended_key.ensures c.loop-place.invariant.end c.in_ok-push_key-2.ensures.pushed);
      gone = rw at.next (gone_step moved pairs ps old (rank_in place s) entry entry fate _ _ _ at.within at.is c.fate_in-fate.ensures c.gone_key.ensures c.loop-place.invariant.gone c.in_ok-push_key-3.ensures.pushed);
    }

pub fate_in-fate-requires-clause-key : goal.fate_in-fate-requires-clause-key
fate_in-fate-requires-clause-key g c =
    let s = c.args.old.now in
    let entry = c.index-entries-place.result in
    let at : StandsAt s c.loop-place.place entry = stands_at s c.entries-entries.result.now c.loop-place.place entry c.entries-entries.ensures.value c.entries-entries.ensures.flags c.loop-place-test.true (sym c.is_over.ensures ∙ c.if-is_over.false) c.index-entries-place.is in
    subst (λ (e : ContactEntry). IsPairKey e.key) (sym at.is) (c.requires.keys (rank_in c.loop-place.place s) entry at.within)

pub returns-clause-begin : goal.returns-clause-begin
returns-clause-begin g c =
    let s = c.args.old.now in
    c.loop-place.invariant.begin
    ∙ ap (begun_keys (moved_by c.args.collide.now.marks.now) (g.F.ForbiddenPairs.pairs c.args.collide.now.forbidden.now) (g.S.ShapesById.proxies c.args.collide.now.shapes.now)) (take_all (rank_in c.loop-place.place s) (counted_in s) (ends_at s c.entries-entries.result.now c.loop-place.place c.entries-entries.ensures.value c.entries-entries.ensures.flags c.loop-place-test.false))

pub returns-clause-end : goal.returns-clause-end
returns-clause-end g c =
    let s = c.args.old.now in
    c.loop-place.invariant.end
    ∙ ap (ended_keys (moved_by c.args.collide.now.marks.now) (g.F.ForbiddenPairs.pairs c.args.collide.now.forbidden.now) (g.S.ShapesById.proxies c.args.collide.now.shapes.now)) (take_all (rank_in c.loop-place.place s) (counted_in s) (ends_at s c.entries-entries.result.now c.loop-place.place c.entries-entries.ensures.value c.entries-entries.ensures.flags c.loop-place-test.false))

pub returns-clause-gone : goal.returns-clause-gone
returns-clause-gone g c =
    let s = c.args.old.now in
    c.loop-place.invariant.gone
    ∙ ap (gone_keys (moved_by c.args.collide.now.marks.now) (g.F.ForbiddenPairs.pairs c.args.collide.now.forbidden.now) (g.S.ShapesById.proxies c.args.collide.now.shapes.now)) (take_all (rank_in c.loop-place.place s) (counted_in s) (ends_at s c.entries-entries.result.now c.loop-place.place c.entries-entries.ensures.value c.entries-entries.ensures.flags c.loop-place-test.false))

pub returns-clause-all : goal.returns-clause-all
returns-clause-all g c =
    let s = c.args.old.now in
    let none : drop (rank_in c.loop-place.place s) (counted_in s) ≡ [] = drop_all (rank_in c.loop-place.place s) (counted_in s) (ends_at s c.entries-entries.result.now c.loop-place.place c.entries-entries.ensures.value c.entries-entries.ensures.flags c.loop-place-test.false) in
    let fresh = c.args.fresh.now in
    let left : length (drop c.loop-place.next fresh) ≡ length fresh - c.loop-place.next = length-drop c.loop-place.next fresh in
    c.in_ok-extend_from_slice.ensures.items
    ∙ ap (λ (l : List ContactEntry). c.loop-place.all.items ++ l) (take_all (length fresh - c.loop-place.next) (drop c.loop-place.next fresh) (omega (arith, left)))
    ∙ ap (λ (l : List ContactEntry). c.loop-place.all.items ++ merged number_of (map (again (g.S.ShapesById.proxies c.args.collide.now.shapes.now)) (staying (moved_by c.args.collide.now.marks.now) (g.F.ForbiddenPairs.pairs c.args.collide.now.forbidden.now) (g.S.ShapesById.proxies c.args.collide.now.shapes.now) l)) (drop c.loop-place.next c.args.fresh.now)) (sym none)
    ∙ c.loop-place.invariant.all
