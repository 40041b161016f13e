use Rattle.std.proofs.Common.{◌<◌, ℕ, true, List, length, get_or, refl, sym, ap, ◌∙◌, subst, arith}
use Rattle.graph_colours.specs.declared.member.Member.{Member}
use Rattle.graph_colours.specs.Movers.{AreBelow, has_mover}
use Rattle.graph_colours.specs.TakenColours.{bit_of, any_has_mover, AreSet}
use Rattle.graph_colours.proofs.EditLemmas.{take_whole}
use Rattle.graph_colours.proofs.GivenLaws.{one_taken}
use Rattle.graph_colours.proofs.colours.from_lists.set_list_bits.Goals as goal

pub set_colour_bits-requires : goal.set_colour_bits-requires
set_colour_bits-requires g c = λ low.
    let ms = c.args.members.now in
    let m = c.index-members-place.result in
    let lt : c.loop-place.place < length ms = omega (arith, c.loop-place-test.true, c.loop-place.auto.place-end) in
    let Q : ℕ → Type 0 = λ n. AreBelow n (get_or ms c.loop-place.place m).movers in
    subst Q (sym c.loop-place.invariant.long) (c.requires.below c.loop-place.place m lt)

pub loop-place-init : goal.loop-place-init
loop-place-init g c = record { own = c.requires.clear; others = λ slot other off. refl; long = refl }

pub loop-place-preserved : goal.loop-place-preserved
loop-place-preserved g c =
    let ms = c.args.members.now in
    let m = c.index-members-place.result in
    let lt : c.loop-place.place < length ms = omega (arith, c.loop-place-test.true, c.loop-place.auto.place-end) in
    let P : Member g.row.C.Denot → Type 0 = λ x. AreSet c.loop-place.words.items c.set_colour_bits.new.words.items (has_mover x.movers) c.args.colour true in
    let set : P m = subst P (sym c.index-members-place.is) (c.set_colour_bits.ensures.set c.requires.colour) in
    record {
      own = λ slot. one_taken ms c.loop-place.place m c.loop-place.words.items c.set_colour_bits.new.words.items c.args.colour slot lt c.index-members-place.is set (c.loop-place.invariant.own slot);
      others = λ slot other off. set.others slot other off ∙ c.loop-place.invariant.others slot other off;
      long = set.long ∙ c.loop-place.invariant.long;
    }

pub returns-clause-own : goal.returns-clause-own
returns-clause-own g c = λ slot.
    let ms = c.args.members.now in
    c.loop-place.invariant.own slot ∙ ap (λ (l : List (Member g.row.C.Denot)). bit_of (any_has_mover l slot)) (take_whole ms c.loop-place.place (omega (arith, c.loop-place-test.false, c.loop-place.auto.place-end)))
