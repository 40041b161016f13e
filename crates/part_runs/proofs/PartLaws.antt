-- A part's bodies are within the limits of a step.
use Rattle.std.proofs.Common.{◌≡◌, ℕ, zero, suc, Bool, true, false, cond, List, [], ◌∷◌, Some, arith, refl, subst}
use Rattle.std.specs.Prelude.{nat_eq}
use Rattle.std.specs.List.{slice_get}
use Rattle.std.proofs.lemmas.Int.{ints}
use Rattle.fixed_geom.specs.Numbers.{rdiv}
use Rattle.fixed_geom.specs.Reciprocals.{rdiv_reciprocal, share_reciprocal}
use Rattle.momenta.specs.declared.state.BodyState.{BodyState}
use Rattle.momenta.specs.ImpulseBounds.{IsState}
use Rattle.momenta.specs.Motions.{IsMass}
use Rattle.momenta.specs.Reciprocals.{reciprocals_of}
use Rattle.colour_solver.specs.Passes.{carried_along, changed}
use Rattle.colour_solver.specs.States.{AreAllStates, HasCourse, HaveCourses, is_carried, nobody}
use Rattle.colour_solver.specs.Masses.{standing}
use Rattle.part_runs.specs.Hidden.{hidden, hidden_from, part_at, seen}
use Rattle.part_runs.specs.Laws.{BodiesAreHidden, PartsCanRun}
use Rattle.part_runs.proofs.HiddenLaws.{carried_hidden, hidden-map, length-hidden_from, movers_hidden}
use Rattle.part_runs.proofs.WholeLaws.{along_is, changed_is}

-- ---- bodies

standing_reciprocals : nobody.reciprocals ≡ reciprocals_of standing
unfolding reciprocals_of rdiv_reciprocal share_reciprocal rdiv
standing_reciprocals = refl

is_standing : IsMass standing
is_standing = record { positive = omega (arith, ints); mass = omega arith; nonnegative = omega (arith, ints); inertia = omega arith }

pub is_nobody : IsState nobody
is_nobody = record {
  mass = is_standing;
  reciprocals = standing_reciprocals;
  motion = record {
    p = record { x = omega arith; y = omega arith };
    l = omega arith;
    still = λ e. refl;
    x = record { x = omega arith; y = omega arith };
    facing = record { c = omega arith; s = omega arith; long = omega arith; short = omega arith };
  };
  start = record { x = omega arith; y = omega arith };
}

-- what holds of a body and of nobody holds of what is seen
seen_all : (P : BodyState → Type 0) → P nobody → (m o : Bool) (s : BodyState) → P s → P (cond m (cond o s nobody) s)
seen_all P none true true s is = is
seen_all P none true false s is = none
seen_all P none false o s is = is

all_hidden : (P : BodyState → Type 0) → P nobody → (g : ℕ → ℕ) (k n : ℕ) (ss : List BodyState) → ((slot : ℕ) (s : BodyState) → slice_get ss slot ≡ Some s → P s) → (slot : ℕ) (s : BodyState) → slice_get (hidden_from g k n ss) slot ≡ Some s → P s
all_hidden P none g k n [] all slot s at = all slot s at
all_hidden P none g k n (a ∷ ss) all zero s at = let is : seen g k n a ≡ s = cc at in subst P is (seen_all P none a.movable (nat_eq (g n) k) a (all zero a refl))
all_hidden P none g k n (a ∷ ss) all (suc slot) s at = all_hidden P none g k (suc n) ss (λ i b e. all (suc i) b e) slot s at

states_hidden : (g : ℕ → ℕ) (k : ℕ) (ss : List BodyState) → AreAllStates ss → AreAllStates (hidden g k ss)
states_hidden g k ss all = all_hidden IsState is_nobody g k 0 ss all

pub courses_hidden : (g : ℕ → ℕ) (k : ℕ) (ss : List BodyState) → HaveCourses ss → HaveCourses (hidden g k ss)
courses_hidden g k ss all = all_hidden (λ s. is_carried s ≡ true → HasCourse s) (λ e. absurd (cc e)) g k 0 ss all

-- ---- the laws

pub bodies_hidden : BodiesAreHidden
bodies_hidden g k states = record {
  long = length-hidden_from g k 0 states;
  movers = movers_hidden g k states;
  carried = carried_hidden g k states;
  states = states_hidden g k states;
  courses = courses_hidden g k states;
  changed = λ f. hidden-map (changed f) (changed_is f) g k states;
  carried_on = hidden-map carried_along along_is g k states;
}

pub parts_can : PartsCanRun
parts_can t k can =
    let g : ℕ → ℕ = part_at t.home in
    record {
      states = states_hidden g k t.states can.states;
      courses = courses_hidden g k t.states can.courses;
    }
