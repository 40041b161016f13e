use Rattle.std.proofs.Common.{◌≡◌, ◌<◌, ◌≤◌, ℕ, List, [], ◌∷◌, ◌++◌, All, length, map, take, arith, sym, ap, subst, ◌∙◌}
use Rattle.std.proofs.lemmas.List.{length-map, map-append, take_all, take_more}
use Rattle.plain_world.specs.Constraints.{constraint_number}
use Rattle.plain_world.specs.declared.constraint.Constraint.{Constraint}
use Rattle.graph_colours.specs.Members.{AreRising}
use Rattle.graph_colours.specs.declared.member.Member.{Member}
use Rattle.colour_solver.specs.declared.row_visits.Slots.{Slots}
use Rattle.part_solver.specs.Stages.{lists_of, slots_of}
use Rattle.part_solver.specs.declared.stages.Stage.{Stage}
use Rattle.part_solver.proofs.stages.list_stages.Goals as goal

pub loop-colour-preserved : goal.loop-colour-preserved
loop-colour-preserved c =
    let lists = c.args.colours.now.lists in
    let joints = c.args.joints.now in
    let i = c.loop-colour.colour in
    let members = c.members.result.now in
    let known = c.loop-colour.invariant in
    let made = c.in_ok-add_stage.ensures in
    let old = c.loop-colour.stages.items in
    let many = c.members.ensures.colouring.count in
    let lt : i < length lists = omega (arith, c.loop-colour-test.true, many) in
    record {
      lists = made.lists ∙ ap (λ (l : List (List (Member Constraint))). l ++ members ∷ []) known.lists ∙ ap (λ (m : List (Member Constraint)). take i lists ++ m ∷ []) c.members.ensures.value ∙ sym (take_more lists i [] lt);
      slots =
          made.slots ∙ ap (λ (l : List (List Slots)). l ++ slots_of joints members ∷ []) known.slots ∙ sym (map-append (slots_of joints) (lists_of old) (members ∷ []))
          ∙ ap (map (slots_of joints)) (sym made.lists);
      colouring = λ more. c.members.ensures.colouring;
    }

-- after the last colour all are listed
all_listed : (lists listed : List (List (Member Constraint))) (i : ℕ) → length lists ≤ i → listed ≡ take i lists → listed ≡ lists
all_listed lists listed i last is = is ∙ take_all i lists last

pub returns-clause-lists : goal.returns-clause-lists
returns-clause-lists c =
    let known = c.loop-colour.invariant in
    let lists = c.args.colours.now.lists in
    let colouring = known.colouring (omega (arith, c.loop-colour-test.false)) in
    let many = colouring.count in
    all_listed lists (lists_of c.loop-colour.stages.items) c.loop-colour.colour (omega (arith, c.loop-colour-test.false, many)) known.lists

pub returns-clause-are : goal.returns-clause-are
returns-clause-are c =
    let known = c.loop-colour.invariant in
    let lists = c.args.colours.now.lists in
    let stages = c.loop-colour.stages.items in
    let colouring = known.colouring (omega (arith, c.loop-colour-test.false)) in
    let many = colouring.count in
    let all : lists_of stages ≡ lists = all_listed lists (lists_of stages) c.loop-colour.colour (omega (arith, c.loop-colour-test.false, many)) known.lists in
    record {
      count = sym (length-map stages (λ (s : Stage). s.members.items)) ∙ ap length all ∙ many;
      slots = known.slots;
      rising = subst (All (AreRising constraint_number)) (sym all) colouring.rising;
    }
