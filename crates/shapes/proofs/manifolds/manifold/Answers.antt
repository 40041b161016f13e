use Rattle.std.proofs.Common.{refl}
use Rattle.std.proofs.lemmas.Int.{to_z-of_z}
use Rattle.std.specs.Int.{w64}
use mir.Val.{SFits}
use Rattle.shapes.proofs.LeastLemmas.{manifold_has_least}
use Rattle.shapes.proofs.NearLemmas.{manifold_has_near}
use Rattle.shapes.proofs.SecondLemmas.{manifold_has_second}
use Rattle.shapes.proofs.TouchLemmas.{manifold_has_touching}
use Rattle.shapes.proofs.manifolds.manifold.Goals as goal

pub returns-clause-value : goal.returns-clause-value
returns-clause-value c =
    let first : SFits w64 c.radius.result = record { sfits = c.radius.type_inv } in
    let second : SFits w64 c.radius-2.result = record { sfits = c.radius-2.type_inv } in
    let pair = simp to_z-of_z at c.pair_of-pair.ensures.value in
    rw (c.manifold_between.ensures, pair, c.core_of.ensures.value, c.core_of-2.ensures.value, c.radius.ensures, c.radius-2.ensures) refl

pub returns-clause-first : goal.returns-clause-first
returns-clause-first c = (manifold_has_least c.args.a.now c.args.pose_a c.args.b.now c.args.pose_b c.manifold_between.result (returns-clause-value c)).first

pub returns-clause-second : goal.returns-clause-second
returns-clause-second c = (manifold_has_least c.args.a.now c.args.pose_a c.args.b.now c.args.pose_b c.manifold_between.result (returns-clause-value c)).second

pub returns-clause-alone : goal.returns-clause-alone
returns-clause-alone c = (manifold_has_least c.args.a.now c.args.pose_a c.args.b.now c.args.pose_b c.manifold_between.result (returns-clause-value c)).alone

pub returns-clause-first_near : goal.returns-clause-first_near
returns-clause-first_near c = λ k w.
    (manifold_has_near c.args.a.now c.args.pose_a c.args.b.now c.args.pose_b c.manifold_between.result (returns-clause-value c) c.requires.first c.requires.first_pose c.requires.second c.requires.second_pose k w).first

pub returns-clause-second_near : goal.returns-clause-second_near
returns-clause-second_near c = λ k w.
    (manifold_has_near c.args.a.now c.args.pose_a c.args.b.now c.args.pose_b c.manifold_between.result (returns-clause-value c) c.requires.first c.requires.first_pose c.requires.second c.requires.second_pose k w).second

pub returns-clause-other : goal.returns-clause-other
returns-clause-other c = manifold_has_second c.args.a.now c.args.pose_a c.args.b.now c.args.pose_b c.manifold_between.result (returns-clause-value c)

pub returns-clause-first_touching : goal.returns-clause-first_touching
returns-clause-first_touching c =
    (manifold_has_touching c.args.a.now c.args.pose_a c.args.b.now c.args.pose_b c.manifold_between.result (returns-clause-value c) c.requires.first c.requires.first_pose c.requires.second c.requires.second_pose).first

pub returns-clause-second_touching : goal.returns-clause-second_touching
returns-clause-second_touching c =
    (manifold_has_touching c.args.a.now c.args.pose_a c.args.b.now c.args.pose_b c.manifold_between.result (returns-clause-value c) c.requires.first c.requires.first_pose c.requires.second c.requires.second_pose).second
