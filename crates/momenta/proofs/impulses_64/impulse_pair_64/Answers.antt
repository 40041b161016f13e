use Rattle.std.proofs.Common.{◌≡◌}
use Rattle.fixed_geom.specs.Vectors.{opposite}
use Rattle.momenta.specs.Impulses.{given}
use Rattle.momenta.specs.Line64.{with_momenta}
use Rattle.momenta.proofs.ImpulseLaws.{IsPairGiven}
use Rattle.momenta.proofs.Laws64.{inertia_reciprocal, pair_64}
use Rattle.momenta.proofs.impulses_64.impulse_pair_64.Goals as goal

pub given_64-requires-clause-reciprocal : goal.given_64-requires-clause-reciprocal
given_64-requires-clause-reciprocal c = inertia_reciprocal c.args.a.now.mass c.args.a.now.reciprocals c.requires.states.a.reciprocals

pub given_64-requires-2-clause-reciprocal : goal.given_64-requires-2-clause-reciprocal
given_64-requires-2-clause-reciprocal c = inertia_reciprocal c.args.b.now.mass c.args.b.now.reciprocals c.requires.states.b.reciprocals

both : (c : goal.After-given_64-2) → IsPairGiven c.args.j c.args.ra c.args.rb (record { a = with_momenta c.args.a.now c.args.now.a; b = with_momenta c.args.b.now c.args.now.b }) (with_momenta c.args.a.now c.given_64.result) (with_momenta c.args.b.now c.given_64-2.result)
both c =
    let first : with_momenta c.args.a.now c.given_64.result ≡ given (opposite c.args.j) c.args.ra (with_momenta c.args.a.now c.args.now.a) = rw c.opposite.ensures.value at c.given_64.ensures.value in
    pair_64 c.args.j c.args.ra c.args.rb c.args.a.now c.args.b.now c.args.now (record { a = c.given_64.result; b = c.given_64-2.result }) c.requires.states c.requires.leaves_room c.requires.impulse c.requires.first c.requires.second first c.given_64-2.ensures.value

pub returns-clause-value : goal.returns-clause-value
returns-clause-value c = (both c).value

pub returns-clause-impulse : goal.returns-clause-impulse
returns-clause-impulse c = record {
  states = (both c).states;
  same = (both c).same;
  kept = (both c).kept;
  leaves_room = λ k n. record { a = c.given_64.ensures.leaves_room k n.a; b = c.given_64-2.ensures.leaves_room k n.b };
}
