use Rattle.std.proofs.Common.{◌≤◌, ◌^◌, sym, unsigned_abs, refl, arith, rules}
use Rattle.std.proofs.lemmas.Int.{to_z-of_z}
use Rattle.std.specs.Int.{w64}
use mir.Val.{SFits}
use Rattle.momenta.specs.Line64.{with_momenta}
use Rattle.momenta.proofs.Laws64.{grown_64, turned_64}
use Rattle.momenta.proofs.WarmLaws.{given_fixed, given_mover}
use Rattle.momenta.proofs.impulses_64.given_64.Goals as goal

pub returns-then-not-body-clause-value : goal.returns-then-not-body-clause-value
returns-then-not-body-clause-value c = sym (given_fixed c.args.j c.args.r (with_momenta c.args.body.now c.args.now) c.if-not-body.true)

pub turned_by_64-requires-clause-reciprocal : goal.turned_by_64-requires-clause-reciprocal
turned_by_64-requires-clause-reciprocal c =
    let inertia : SFits w64 c.args.body.now.mass.inertia = search rules in
    let reciprocal : SFits w64 c.args.body.now.reciprocals.inertia = search rules in
    simp to_z-of_z c.requires.reciprocal

pub turned_by_64-requires-clause-moment : goal.turned_by_64-requires-clause-moment
turned_by_64-requires-clause-moment c =
    let moment : SFits w64 c.cross_64.result = record { sfits = c.cross_64.type_inv } in
    simp to_z-of_z (omega (arith, c.cross_64.ensures.size (2 ^ 27) (2 ^ 30) c.requires.offset c.requires.impulse))

pub returns-clause-value : goal.returns-clause-value
returns-clause-value c =
    let inertia : SFits w64 c.args.body.now.mass.inertia = search rules in
    let l : SFits w64 c.args.now.l = search rules in
    let moment : SFits w64 c.cross_64.result = record { sfits = c.cross_64.type_inv } in
    let result : SFits w64 c.turned_by_64.result = record { sfits = c.turned_by_64.type_inv } in
    let turned = rw c.cross_64.ensures.value at (simp to_z-of_z at c.turned_by_64.ensures.value) in
    simp to_z-of_z (rw (given_mover c.args.j c.args.r (with_momenta c.args.body.now c.args.now) c.if-not-body.false, turned, c.plus.ensures.value) refl)

pub returns-clause-leaves_room : goal.returns-clause-leaves_room
returns-clause-leaves_room c =
    let l : SFits w64 c.args.now.l = search rules in
    let moment : SFits w64 c.cross_64.result = record { sfits = c.cross_64.type_inv } in
    let result : SFits w64 c.turned_by_64.result = record { sfits = c.turned_by_64.type_inv } in
    let small : unsigned_abs c.cross_64.result ≤ 2 ^ 58 = omega (arith, c.cross_64.ensures.size (2 ^ 27) (2 ^ 30) c.requires.offset c.requires.impulse) in
    let size = simp to_z-of_z at c.turned_by_64.ensures.size in
    λ k n. record {
      p = record {
        x = rw c.plus.ensures.value (grown_64 k c.args.now.p.x c.args.j.x n.p.x c.requires.impulse.x);
        y = rw c.plus.ensures.value (grown_64 k c.args.now.p.y c.args.j.y n.p.y c.requires.impulse.y);
      };
      l = simp to_z-of_z (turned_64 k (unsigned_abs c.args.now.l) (unsigned_abs c.cross_64.result) (unsigned_abs c.turned_by_64.result) size n.l small);
    }
