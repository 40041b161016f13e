use Rattle.std.proofs.Common.{◌≡◌, None, Option, is_some, get_or, length, ap, refl, sym, subst, ◌∙◌}
use Rattle.std.proofs.lemmas.List.{get_or-set_same, get_or_default}
use Rattle.std.specs.Prelude.{option_map}
use Rattle.box_tree.specs.BoxLists.{box_at}
use Rattle.momenta.specs.declared.state.BodyState.{BodyState}
use Rattle.colour_solver.specs.States.{nobody}
use Rattle.plain_world.specs.declared.body.Body.{Body}
use Rattle.plain_world.specs.Slots.{body_at}
use Rattle.world_core_base.specs.Covers.{IsCovered}
use Rattle.world_core_base.specs.Gather.{with_motion}
use Rattle.world_core_base.specs.Moved.{FitsState}
use Rattle.world_core_base.specs.Renewal.{with_renewed}
use Rattle.world_core_base.proofs.CoverLaws.{box_there, covered_slot, there_mapped}
use Rattle.world_core_base.proofs.MarkedLaws.{get_body, length-mark_if, marked_eq, marked_slot}
use Rattle.world_core_base.proofs.moving.move_slot.Goals as goal

pub move_entry-made-requires : goal.move_entry-made-requires
move_entry-made-requires c =
    let bodies = c.args.bodies.now.items in
    let states = c.args.states.now.items in
    let slot = c.args.slot in
    λ x e.
    let body : get_or bodies slot None ≡ c.index_mut.result.now = get_or_default bodies slot None c.index_mut.result.now c.requires.body ∙ sym c.index_mut.ensures.value in
    let state : get_or states slot nobody ≡ c.index.result.now = get_or_default states slot nobody c.index.result.now c.requires.state ∙ sym c.index.ensures in
    subst (λ (s : BodyState). FitsState s x) state (c.requires.fits x (body ∙ e))

pub cover_again-requires : goal.cover_again-requires
cover_again-requires c = λ on1.
    let bodies = c.args.bodies.now.items in
    let slot = c.args.slot in
    let before = c.index_mut.result.now in
    let state = c.index.result.now in
    let body : get_or bodies slot None ≡ before = get_or_default bodies slot None before c.requires.body ∙ sym c.index_mut.ensures.value in
    let entry : c.index-2.result.now ≡ c.move_entry-made.new.entry = c.index-2.ensures ∙ get_or-set_same bodies slot c.move_entry-made.new.entry c.index-2.result.now c.requires.body in
    let same : is_some c.index-2.result.now ≡ is_some (body_at bodies slot) =
    ap is_some (entry ∙ c.move_entry-made.ensures.moved) ∙ there_mapped with_renewed (option_map (with_motion state) before) ∙ there_mapped (with_motion state) before ∙ ap is_some (sym body ∙ get_body bodies slot) in
    box_there (box_at c.args.boxes.now slot) (body_at bodies slot) (c.requires.covered slot) (sym same ∙ on1)

pub returns-clause-marked : goal.returns-clause-marked
returns-clause-marked c =
    let bodies = c.args.bodies.now.items in
    let slot = c.args.slot in
    let body : get_or bodies slot None ≡ c.index_mut.result.now = get_or_default bodies slot None c.index_mut.result.now c.requires.body ∙ sym c.index_mut.ensures.value in
    marked_eq _ _ _ _ _ _ refl c.mark_if.ensures (marked_slot bodies c.args.marks.now slot c.index_mut.result.now c.move_entry-made.new.entry c.move_entry-made.result body c.move_entry-made.ensures.alike)

pub returns-clause-len : goal.returns-clause-len
returns-clause-len c = ap length c.mark_if.ensures ∙ length-mark_if c.args.marks.now c.args.slot c.move_entry-made.result

pub returns-clause-covered : goal.returns-clause-covered
returns-clause-covered c =
    let bodies = c.args.bodies.now.items in
    let slot = c.args.slot in
    let body : get_or bodies slot None ≡ c.index_mut.result.now = get_or_default bodies slot None c.index_mut.result.now c.requires.body ∙ sym c.index_mut.ensures.value in
    let entry : c.index-2.result.now ≡ c.move_entry-made.new.entry = c.index-2.ensures ∙ get_or-set_same bodies slot c.move_entry-made.new.entry c.index-2.result.now c.requires.body in
    covered_slot bodies c.args.boxes.now c.cover_again.new.boxes slot c.index_mut.result.now c.move_entry-made.new.entry c.move_entry-made.result c.requires.covered body c.cover_again.ensures.others (λ on1. subst (λ (o : Option Body). IsCovered (box_at c.cover_again.new.boxes slot) o) entry (c.cover_again.ensures.covered on1)) c.cover_again.ensures.same c.move_entry-made.ensures.alike
