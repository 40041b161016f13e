-- An impulse of zero: every state within its limits takes it, and nothing changes.
use Rattle.std.proofs.Common.{◌≡◌, zero, suc, ◌^◌, Bool, true, false, cond, Some, ℤ, pos, negsuc, ◌-ℤ◌, unsigned_abs, arith, refl}
use Rattle.std.proofs.lemmas.Bool.{le-leb}
use Rattle.std.proofs.lemmas.Int.{ints}
use lib.IntN.{zero-*ℤ, *ℤ-zero, +ℤ_idr}
use Rattle.fixed_geom.specs.Numbers.{rdiv}
use Rattle.fixed_geom.specs.Vectors.{cross, plus, zero_vector}
use Rattle.fixed_geom.specs.declared.vectors.Vec2.{Vec2}
use Rattle.momenta.specs.declared.motion.Motion.{Motion}
use Rattle.momenta.specs.declared.state.BodyState.{BodyState}
use Rattle.momenta.specs.declared.state.Ends.{Ends}
use Rattle.momenta.specs.declared.line.Line.{Line}
use Rattle.momenta.specs.declared.mass.MassData.{MassData}
use Rattle.momenta.specs.Motions.{IsMotion}
use Rattle.momenta.specs.Impulses.{along, exerted, fits, given, impulse_pair, taken, turned_by, warmed}
use Rattle.momenta.specs.ImpulseBounds.{AreStates, IsMomentumKept, IsSameBody, AreSameBodies, IsState}

cross_none : (r : Vec2) → cross r zero_vector ≡ pos 0
unfolding cross
cross_none r = rw (*ℤ-zero r.x, *ℤ-zero r.y) refl

turned_none : (inertia l : ℤ) → turned_by inertia l (pos 0) ≡ l
turned_none (pos zero) l = refl
turned_none (pos (suc n)) l = +ℤ_idr l
turned_none (negsuc n) l = +ℤ_idr l

plus_none : (p : Vec2) → plus p zero_vector ≡ p
plus_none p = rw (+ℤ_idr p.x, +ℤ_idr p.y) refl

same_state : (s : BodyState) (p : Vec2) (l : ℤ) → p ≡ s.motion.p → l ≡ s.motion.l → record s { motion = record s.motion { p = p; l = l } } ≡ s
same_state s p l h k = rw (h, k) refl

either : (t : Bool) (m s : BodyState) → m ≡ s → cond t m s ≡ s
either true m s h = h
either false m s h = refl

given_none : (r : Vec2) (s : BodyState) → given zero_vector r s ≡ s
unfolding given
given_none r s = either s.movable _ s (same_state s (plus s.motion.p zero_vector) (turned_by s.mass.inertia s.motion.l (cross r zero_vector)) (plus_none s.motion.p) (rw (cross_none r) (turned_none s.mass.inertia s.motion.l)))

fitting : (m : MassData) (s : Motion) → IsMotion m s → fits s ≡ true
fitting m s h = rw (le-leb (unsigned_abs s.p.x) (2 ^ 60) h.p.x, le-leb (unsigned_abs s.p.y) (2 ^ 60) h.p.y, le-leb (unsigned_abs s.l) (2 ^ 90) h.l) refl

taken_none : (r : Vec2) (s : BodyState) → IsState s → taken zero_vector r s ≡ Some s
unfolding taken
taken_none r s h = rw (given_none r s, fitting s.mass s.motion h.motion) refl

pair_none : (ra rb : Vec2) (e : Ends) → AreStates e → impulse_pair zero_vector ra rb e ≡ Some e
unfolding impulse_pair
pair_none ra rb e h = rw (taken_none ra e.a h.a, taken_none rb e.b h.b) refl

along_none : (direction : Vec2) → along direction (pos 0) ≡ zero_vector
unfolding along rdiv
along_none direction = rw (zero-*ℤ direction.x, zero-*ℤ direction.y) refl

nothing : (z : ℤ) → z -ℤ z ≡ pos 0
nothing z = omega (arith, ints)

-- where the accumulated impulse is as it was, all is
pub exerted_none : (line : Line) (total : ℤ) (e : Ends) → AreStates e → exerted line total total e ≡ record { ends = e; total = total }
unfolding exerted
exerted_none line total e h = rw (nothing total, along_none line.direction, pair_none line.ra line.rb e h) refl

-- an accumulated impulse of zero is none to give
pub warmed_none : (line : Line) (e : Ends) → AreStates e → warmed line (pos 0) e ≡ e
unfolding warmed
warmed_none line e h = rw (along_none line.direction, pair_none line.ra line.rb e h) refl

same_body : (s : BodyState) → IsSameBody s s
same_body s = record { movable = refl; mass = refl; start = refl; reciprocals = refl; position = refl; facing = refl; immovable = λ h. refl }

pub same_bodies : (e : Ends) → AreSameBodies e e
same_bodies e = record { a = same_body e.a; b = same_body e.b }

pub same_momentum : (e : Ends) → IsMomentumKept e e
same_momentum e = record { x = λ h k. refl; y = λ h k. refl }
