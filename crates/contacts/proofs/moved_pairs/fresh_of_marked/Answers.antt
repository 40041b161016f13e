use Rattle.std.proofs.Common.{List, ℕ, ◌∙◌, refl, subst, sym}
use Rattle.std.specs.Prelude.{All}
use Rattle.std.specs.List.Sorted.{IsStrictlyIncreasing}
use Rattle.contacts_base.specs.Split.{contacts_in}
use Rattle.contacts.specs.NearMarked.{HasNumbersIn, fresh_by}
use Rattle.contacts.specs.Fates.{moved_by}
use Rattle.contacts.proofs.NearMarkedLaws.{all_picked, marked_have_all, picked_are_fresh, picked_step}
use Rattle.contacts.proofs.moved_pairs.fresh_of_marked.Goals as goal

pub loop-place-preserved : goal.loop-place-preserved
loop-place-preserved g c =
    let ps = g.S.ShapesById.proxies c.args.collide.now.shapes.now in
    picked_step (fresh_by (moved_by c.args.collide.now.marks.now) (g.F.ForbiddenPairs.pairs c.args.collide.now.forbidden.now) ps (contacts_in c.args.old.now)) c.as_slice-listed.result.now c.loop-place.place _ 0 _ _ _ _ c.loop-place-test.true refl c.fresh_by.ensures c.in_ok-push_entry.ensures.pushed c.loop-place.invariant

pub returns-clause-value : goal.returns-clause-value
returns-clause-value g c =
    let ps = g.S.ShapesById.proxies c.args.collide.now.shapes.now in
    let same = sym c.as_slice-listed.ensures.value in
    all_picked (fresh_by (moved_by c.args.collide.now.marks.now) (g.F.ForbiddenPairs.pairs c.args.collide.now.forbidden.now) ps (contacts_in c.args.old.now)) c.as_slice-listed.result.now c.loop-place.place _ c.loop-place-test.false c.loop-place.invariant
    ∙ picked_are_fresh (moved_by c.args.collide.now.marks.now) (g.F.ForbiddenPairs.pairs c.args.collide.now.forbidden.now) ps (contacts_in c.args.old.now) c.as_slice-listed.result.now c.requires.shapes (subst (λ (l : List ℕ). IsStrictlyIncreasing l) same c.in_ok-list_numbers.ensures.rising) (marked_have_all c.args.collide.now.marks.now c.args.collide.now.marked.now (g.F.ForbiddenPairs.pairs c.args.collide.now.forbidden.now) ps c.as_slice-listed.result.now c.requires.shapes c.requires.within c.requires.listed (subst (λ (l : List ℕ). All (λ (slot : ℕ). HasNumbersIn ps slot l) c.args.collide.now.marked.now) same c.in_ok-list_numbers.ensures.near))
