use Rattle.std.proofs.Common.{◌≡◌, List, length, subst}
use Rattle.part_solver.specs.Parts.{Solved}
use Rattle.part_solver.specs.PuttingBack.{contacts_by, joints_by}
use Rattle.part_solver.proofs.LeftLaws.{AreRead, all_impulses, all_left}
use Rattle.part_solver.proofs.SolvedLaws.{AreAdded}
use Rattle.part_solver.proofs.back.read_back.Goals as goal

pub returns-clause-left : goal.returns-clause-left
returns-clause-left c = λ t is.
    let states = c.args.states.now.items in
    let home = c.args.home.now in
    let now = c.read_bodies.new.states.items in
    let sums = c.sum_up-sums.result in
    let known = c.sum_up-sums.ensures in
    let there = c.as_slice-parts.ensures.value in
    let added = subst (λ (l : List Solved). AreAdded l sums) there (record { gravity = known.gravity; immovable = known.immovable; clamp = known.clamp; ranges = known.ranges }) in
    let read = subst (λ (l : List Solved). AreRead states home l now) there (record { all = c.read_bodies.ensures }) in
    (all_left t states home c.args.lists.now.parts.items is c.runs_are_read_back.ensures c.parts_are_runs.ensures c.parts_step_all.ensures sums added (c.are_small.ensures c.if-not-are_small.false) now read).0

pub returns-clause-impulses : goal.returns-clause-impulses
returns-clause-impulses c = λ t is apart.
    let states = c.args.states.now.items in
    let home = c.args.home.now in
    let now = c.read_bodies.new.states.items in
    let sums = c.sum_up-sums.result in
    let known = c.sum_up-sums.ensures in
    let there = c.as_slice-parts.ensures.value in
    let put = c.put_all_impulses.new.constraints in
    let joints = c.args.constraints.now.joints.joints in
    let contacts = c.args.constraints.now.contacts.contacts in
    let added = subst (λ (l : List Solved). AreAdded l sums) there (record { gravity = known.gravity; immovable = known.immovable; clamp = known.clamp; ranges = known.ranges }) in
    let read = subst (λ (l : List Solved). AreRead states home l now) there (record { all = c.read_bodies.ensures }) in
    let joints_are = subst (λ (l : List Solved). put.joints.joints ≡ joints_by joints l (length l)) there c.put_all_impulses.ensures.joints in
    let contacts_are = subst (λ (l : List Solved). put.contacts.contacts ≡ contacts_by contacts l (length l)) there c.put_all_impulses.ensures.contacts in
    let left = all_left t states home c.args.lists.now.parts.items is c.runs_are_read_back.ensures c.parts_are_runs.ensures c.parts_step_all.ensures sums added (c.are_small.ensures c.if-not-are_small.false) now read in
    all_impulses t states home c.args.lists.now.parts.items is c.runs_are_read_back.ensures apart sums left.1 joints put.joints.joints joints_are contacts put.contacts.contacts contacts_are
