use Rattle.std.proofs.Common.{◌^◌, rules, tests, ◌≡◌, ℕ, Bool, true, List, None, ap}
use Rattle.fixed_geom.specs.Vectors.{IsWithin}
use Rattle.world_core.proofs.Whole.{empty_whole}
use Rattle.std.specs.Prelude.{slice_index_or}
use Rattle.world_core_base.proofs.ContactAsleepLaws.{contacts_none}
use Rattle.world_core_base.proofs.JointAsleepLaws.{joints_none}
use Rattle.world_core.proofs.CoreLaws.{core_all}
use Rattle.world_core.proofs.Refusals.{not_made}
use Rattle.world_rules.specs.Apply.{empty_world, gravity_refusal}
use Rattle.world_core.proofs.world.WorldCore.new.Goals as goal

pub invariant_of-result : goal.invariant_of-result
invariant_of-result c =
    let within : IsWithin (2 ^ 16) c.args.gravity = search (rules, tests) in
    let marked : (slot : ℕ) → slice_index_or c.new-3.result.marks slot true ≡ true = λ slot. ap (λ (marks : List Bool). slice_index_or marks slot true) c.new-3.ensures.marks in
    core_all _ _ _
    (rw (c.new.ensures, c.new-3.ensures.bodies, c.new-2.ensures, c.new-7.ensures, c.new-8.ensures.contacts, c.in_ok-new.ensures.acting, c.new-11.ensures.entries, c.new-11.ensures.settled, c.new-12.ensures)
    (empty_whole c.args.gravity within))
    marked c.new-5.result (joints_none _ _ c.new-5.result c.new-3.ensures.bodies c.new-7.ensures c.new-5.ensures.names)
    c.new-8.result.numbered c.new-6.result (contacts_none _ _ c.new-6.result c.new-3.ensures.bodies c.new-8.ensures.numbered c.new-6.ensures.names)

pub returns-in_err-new-clause-made : goal.returns-in_err-new-clause-made
returns-in_err-new-clause-made c =
    let none : gravity_refusal c.args.gravity ≡ None = search (rules, tests) in
    not_made (gravity_refusal c.args.gravity) (empty_world c.args.gravity) _ _ none c.from_residual.ensures.0 c.from_residual.ensures.1 c.in_err-new.ensures.memory_only
