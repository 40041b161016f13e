use Rattle.std.proofs.Common.{◌≡◌, ◌<◌, ◌∙◌, ℕ, All, List, length, rules, ap, subst, sym}
use Rattle.std.proofs.lemmas.Option.{IfSome_then}
use Rattle.graph_colours.specs.Colours.{all_members}
use Rattle.graph_colours.specs.declared.limits.TheConstants.{COLOURS}
use Rattle.part_runs.specs.Runs.{part_ran}
use Rattle.part_solver.specs.Lending.{CanLend, step_over}
use Rattle.part_solver.specs.Benches.{IsRoomy, IsRoomyFor}
use Rattle.part_solver.specs.Parts.{AreDealt, run_at}
use Rattle.part_solver.specs.Steps.{CanSolve}
use Rattle.part_solver.specs.Stages.{lists_of}
use Rattle.part_solver.specs.declared.stages.Stage.{Stage}
use Rattle.part_solver.proofs.OverLaws.{all_roomy, can_solve, over_impulses, over_left}
use Rattle.part_solver.proofs.parting.solve_by_parts.Goals as goal

pub lend_to_parts-requires-clause-can : goal.lend_to_parts-requires-clause-can
lend_to_parts-requires-clause-can g c =
    let states = c.args.states.now.items in
    let joints = c.args.constraints.now.joints.joints in
    let contacts = c.args.constraints.now.contacts.contacts in
    let home = c.args.memory.now.deal.home.items in
    let there : c.prepare.new.self.stages.items ≡ c.args.memory.now.lists.stages.items = search rules in
    subst (λ (l : List Stage). CanSolve (step_over states joints contacts l home c.args.plan.pace)) (sym there)
    (can_solve states joints contacts c.args.memory.now.lists.stages.items home c.args.plan.pace c.requires.lend c.requires.few c.requires.gravity c.requires.count c.requires.dealt.long)

pub lend_to_parts-requires-clause-lend : goal.lend_to_parts-requires-clause-lend
lend_to_parts-requires-clause-lend g c =
    let there : c.prepare.new.self.stages.items ≡ c.args.memory.now.lists.stages.items = search rules in
    subst (λ (l : List Stage). CanLend c.args.states.now.items c.args.constraints.now.joints.joints c.args.constraints.now.contacts.contacts l) (sym there) c.requires.lend

pub lend_to_parts-requires-clause-rooms : goal.lend_to_parts-requires-clause-rooms
lend_to_parts-requires-clause-rooms g c =
    let states = c.args.states.now.items in
    let joints = c.args.constraints.now.joints.joints in
    let contacts = c.args.constraints.now.contacts.contacts in
    let stages = c.args.memory.now.lists.stages.items in
    let home = c.args.memory.now.deal.home.items in
    let benches = c.prepare.new.self.benches.items in
    let there : c.prepare.new.self.stages.items ≡ stages = search rules in
    let counted : c.in_ok-all.all ≡ length (all_members (lists_of stages)) = search rules in
    let rooms : All (IsRoomy (length states) c.in_ok-all.all COLOURS) benches = search rules in
    subst (λ (l : List Stage). All (IsRoomyFor (step_over states joints contacts l home c.args.plan.pace)) benches) (sym there) (all_roomy states joints contacts stages home c.args.plan.pace c.requires.lend c.in_ok-all.all benches counted rooms)

pub returns-clause-left : goal.returns-clause-left
returns-clause-left g c =
    let states = c.args.states.now.items in
    let joints = c.args.constraints.now.joints.joints in
    let contacts = c.args.constraints.now.contacts.contacts in
    let stages = c.args.memory.now.lists.stages.items in
    let home = c.args.memory.now.deal.home.items in
    let parts = c.lend_to_parts.new.memory.lists.parts.items in
    let there : c.prepare.new.self.stages.items ≡ stages = search rules in
    let many : length parts ≡ c.args.plan.parts = search rules in
    let dealt : AreDealt home (length parts) states = subst (λ (n : ℕ). AreDealt home n states) (sym many) c.requires.dealt in
    let runs : (k : ℕ) → k < length parts → run_at parts k ≡ part_ran (step_over states joints contacts stages home c.args.plan.pace) k =
    λ k lt. c.lend_to_parts.ensures.runs c.if-not-lend_to_parts.false k lt ∙ ap (λ (l : List Stage). part_ran (step_over states joints contacts l home c.args.plan.pace) k) there in
    IfSome_then c.read_back.result c.read_back.ensures.left (λ outcome told.
    over_left states joints contacts stages home c.args.plan.pace c.requires.lend c.lend_to_parts.new.states.items c.as_slice.result.now parts c.lend_to_parts.ensures.states (c.as_slice.ensures.value ∙ c.lend_to_parts.ensures.home) dealt runs
    c.read_back.new.states.items outcome.sums told)

pub returns-clause-impulses : goal.returns-clause-impulses
returns-clause-impulses g c =
    let states = c.args.states.now.items in
    let joints = c.args.constraints.now.joints.joints in
    let contacts = c.args.constraints.now.contacts.contacts in
    let stages = c.args.memory.now.lists.stages.items in
    let home = c.args.memory.now.deal.home.items in
    let parts = c.lend_to_parts.new.memory.lists.parts.items in
    let given = c.lend_to_parts.new.constraints in
    let now = c.read_back.new.constraints in
    let there : c.prepare.new.self.stages.items ≡ stages = search rules in
    let many : length parts ≡ c.args.plan.parts = search rules in
    let dealt : AreDealt home (length parts) states = subst (λ (n : ℕ). AreDealt home n states) (sym many) c.requires.dealt in
    let runs : (k : ℕ) → k < length parts → run_at parts k ≡ part_ran (step_over states joints contacts stages home c.args.plan.pace) k =
    λ k lt. c.lend_to_parts.ensures.runs c.if-not-lend_to_parts.false k lt ∙ ap (λ (l : List Stage). part_ran (step_over states joints contacts l home c.args.plan.pace) k) there in
    IfSome_then c.read_back.result c.read_back.ensures.impulses (λ outcome told.
    over_impulses states joints contacts stages home c.args.plan.pace c.requires.lend c.lend_to_parts.new.states.items c.as_slice.result.now parts c.lend_to_parts.ensures.states (c.as_slice.ensures.value ∙ c.lend_to_parts.ensures.home) dealt runs
    given.joints.joints now.joints.joints given.contacts.contacts now.contacts.contacts outcome.sums c.lend_to_parts.ensures.joints c.lend_to_parts.ensures.contacts told)
