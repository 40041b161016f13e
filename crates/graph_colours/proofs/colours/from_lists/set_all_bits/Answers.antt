use Rattle.std.proofs.Common.{◌≡◌, ◌+◌, ◌<◌, ℕ, List, length, refl, sym, ap, ◌∙◌, subst, inl, inr, arith}
use Rattle.std.proofs.lemmas.Bool.{cases_eq}
use Rattle.graph_colours.specs.declared.limits.TheConstants.{COLOURS}
use Rattle.graph_colours.specs.declared.member.Member.{Member}
use Rattle.graph_colours.specs.Colours.{list_at}
use Rattle.graph_colours.specs.Given.{AreAllBelow, members_of}
use Rattle.graph_colours.specs.TakenColours.{bit_of, colour_bit, any_has_mover}
use Rattle.graph_colours.proofs.GivenLaws.{below_at, vector_at}
use Rattle.graph_colours.proofs.colours.from_lists.set_all_bits.Goals as goal

pub set_list_bits-requires-clause-below : goal.set_list_bits-requires-clause-below
set_list_bits-requires-clause-below g c =
    let lists = c.args.lists.now in
    let colour = c.loop-colour.colour in
    let lt : colour < COLOURS + 1 = omega (arith, c.loop-colour-test.true) in
    let is = vector_at lists colour (COLOURS + 1) c.index-lists-colour.result c.as_slice.result.now c.requires.count lt c.index-lists-colour.is c.as_slice.ensures.value in
    let P : ℕ → Type 0 = λ n. AreAllBelow n c.as_slice.result.now in
    subst P (sym c.loop-colour.invariant.long) (below_at (members_of lists) colour (COLOURS + 1) (length c.args.words.now.items) c.as_slice.result.now c.requires.count lt c.requires.below is)

pub set_list_bits-requires-clause-clear : goal.set_list_bits-requires-clause-clear
set_list_bits-requires-clause-clear g c = λ slot. c.loop-colour.invariant.clear slot c.loop-colour.colour (omega arith)

pub loop-colour-init : goal.loop-colour-init
loop-colour-init g c = record { own = λ slot colour lt. absurd (omega (arith, lt)); clear = λ slot colour le. c.requires.clear slot colour; long = refl }

pub loop-colour-preserved : goal.loop-colour-preserved
loop-colour-preserved g c =
    let lists = c.args.lists.now in
    let colour = c.loop-colour.colour in
    let lt : colour < COLOURS + 1 = omega (arith, c.loop-colour-test.true) in
    let is = vector_at lists colour (COLOURS + 1) c.index-lists-colour.result c.as_slice.result.now c.requires.count lt c.index-lists-colour.is c.as_slice.ensures.value in
    let Own : ℕ → ℕ → Type 0 = λ slot k. colour_bit c.set_list_bits.new.words.items slot k ≡ bit_of (any_has_mover (list_at (members_of lists) k) slot) in
    record {
      own = λ slot k below.
          let here : Own slot colour = c.set_list_bits.ensures.own slot ∙ ap (λ (l : List (Member g.row.C.Denot)). bit_of (any_has_mover l slot)) is in
          elim (cases_eq k colour) [ inl q ↦ subst (Own slot) (sym q) here | inr off ↦ c.set_list_bits.ensures.others slot k off ∙ c.loop-colour.invariant.own slot k (omega (arith, below, off)) ];
      clear = λ slot k le. c.set_list_bits.ensures.others slot k (λ q. omega (arith, q, le)) ∙ c.loop-colour.invariant.clear slot k (omega (arith, le));
      long = c.set_list_bits.ensures.long ∙ c.loop-colour.invariant.long;
    }

pub returns-clause-bits : goal.returns-clause-bits
returns-clause-bits g c = record {
  own = λ slot colour lt. c.loop-colour.invariant.own slot colour (omega (arith, lt, c.loop-colour-test.false));
  no_more = λ slot colour le. c.loop-colour.invariant.clear slot colour (omega (arith, le, c.loop-colour.auto.colour-end));
}
