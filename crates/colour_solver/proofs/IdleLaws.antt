-- A visit that leaves a row and its bodies as they are leaves all bodies so, and gives nothing.
use Rattle.std.proofs.Common.{◌≡◌, sym, Bool, true, false, List, length, get_or, refl}
use Rattle.std.proofs.lemmas.List.{set-get_or}
use Rattle.fixed_geom.specs.Vectors.{minus, zero_vector}
use Rattle.fixed_geom.specs.declared.vectors.Vec2.{Vec2}
use Rattle.momenta.specs.declared.state.BodyState.{BodyState}
use Rattle.momenta.specs.declared.state.Ends.{Ends}
use Rattle.momenta.specs.ImpulseBounds.{AreStates}
use Rattle.colour_solver_base.specs.RowsAfter.{RowAfter}
use Rattle.colour_solver.specs.declared.row_visits.Slots.{Slots}
use Rattle.colour_solver.specs.States.{AreAllStates, nobody}
use Rattle.colour_solver.specs.RowVisits.{IsRowOn, after, ends_of, got, got_by, visit_of, with_ends}
use Rattle.colour_solver.proofs.VisitLaws.{state_at}
use Rattle.colour_solver.proofs.VectorLaws.{minus_same}

-- what a visit does at a row where it is idle
abbrev pub IsIdle : {R : Type 0} → (R → Ends → RowAfter R) → R → Type 0
IsIdle f r = (e : Ends) → AreStates e → f r e ≡ record { row = r; ends = e }

ends_states : {R : Type 0} (at : R → Slots) (is : R → Type 0) (ss : List BodyState) (r : R) → AreAllStates ss → IsRowOn at is (length ss) r → AreStates (ends_of at ss r)
ends_states at is ss r all below = record {
  a = state_at ss (at r).a (get_or ss (at r).a nobody) nobody all below.a refl;
  b = state_at ss (at r).b (get_or ss (at r).b nobody) nobody all below.b refl;
}

pub idle_visit : {R : Type 0} (at : R → Slots) (is : R → Type 0) (f : R → Ends → RowAfter R) (ss : List BodyState) (r : R) → AreAllStates ss → IsRowOn at is (length ss) r → IsIdle f r → visit_of at f ss r ≡ record { row = r; ends = ends_of at ss r }
idle_visit at is f ss r all below idle = idle (ends_of at ss r) (ends_states at is ss r all below)

put_back : {R : Type 0} (at : R → Slots) (ss : List BodyState) (r : R) → with_ends at ss r (ends_of at ss r) ≡ ss
put_back at ss r = rw (set-get_or ss (at r).a nobody) (set-get_or ss (at r).b nobody)

pub idle_after : {R : Type 0} (at : R → Slots) (is : R → Type 0) (f : R → Ends → RowAfter R) (ss : List BodyState) (r : R) → AreAllStates ss → IsRowOn at is (length ss) r → IsIdle f r → ss ≡ after at f ss r
idle_after at is f ss r all below idle = sym (rw (idle_visit at is f ss r all below idle) (put_back at ss r))

none_of : (a b : Bool) (v w : Vec2) → zero_vector ≡ got_by a b (minus v v) (minus w w)
none_of true true v w = refl
none_of true false v w = sym (minus_same v)
none_of false true v w = sym (minus_same w)
none_of false false v w = refl

pub idle_got : {R : Type 0} (at : R → Slots) (is : R → Type 0) (f : R → Ends → RowAfter R) (ss : List BodyState) (r : R) → AreAllStates ss → IsRowOn at is (length ss) r → IsIdle f r → zero_vector ≡ got (ends_of at ss r) (visit_of at f ss r).ends
idle_got at is f ss r all below idle = let e = ends_of at ss r in rw (idle_visit at is f ss r all below idle) (none_of e.a.movable e.b.movable e.a.motion.p e.b.motion.p)
