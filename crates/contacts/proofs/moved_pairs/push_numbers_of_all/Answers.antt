use Rattle.std.proofs.Common.{ℕ, take}
use Rattle.std.proofs.lemmas.List.{take_all}
use Rattle.std.proofs.lemmas.List.Elements.{All-more}
use Rattle.contacts.specs.NearMarked.{HasNumbersIn}
use Rattle.contacts.proofs.NearMarkedLaws.{all_more}
use Rattle.contacts.proofs.moved_pairs.push_numbers_of_all.Goals as goal

pub loop-place-preserved : goal.loop-place-preserved
loop-place-preserved g c =
    let ps = g.S.ShapesById.proxies c.args.shapes.now in
    All-more (λ (slot : ℕ). HasNumbersIn ps slot c.push_numbers_of_slot.new.numbers.items) c.args.marked.now c.loop-place.place _ c.loop-place-test.true (all_more ps (take c.loop-place.place c.args.marked.now) c.loop-place.numbers.items _ c.in_ok-push_numbers_of_slot.ensures.kept c.loop-place.invariant) c.in_ok-push_numbers_of_slot.ensures.near

pub returns-clause-near : goal.returns-clause-near
returns-clause-near g c = rw (take_all c.loop-place.place c.args.marked.now c.loop-place-test.false) at c.loop-place.invariant
