-- The momenta of two bodies stay within a bound, whatever impulses they give one another.
use Rattle.std.proofs.Common.{◌≡◌, ℕ, ◌≤◌, ◌^◌, Bool, true, false, cond, nat_le, Option, Some, None, ℤ, unsigned_abs, arith, refl, subst}
use Rattle.std.specs.Prelude.{◌-ℤ◌, unwrap_or}
use Rattle.std.proofs.lemmas.Grind.{common_steps}
use Rattle.std.proofs.lemmas.Option.{none-some, same_Some}
use Rattle.fixed_geom.specs.Vectors.{IsWithin, is_within, opposite}
use Rattle.fixed_geom.specs.declared.vectors.Vec2.{Vec2}
use Rattle.momenta.specs.Impulses as impulses
use Rattle.momenta.specs.Impulses.{along, both, exerted, fits, given, impulse_pair, or_dropped, taken, warmed}
use Rattle.momenta.specs.declared.limits.TheConstants.{MAX_ANGULAR_MOMENTUM, MAX_MOMENTUM}
use Rattle.momenta.specs.declared.line.Line.{Line}
use Rattle.momenta.specs.declared.motion.Motion.{Motion}
use Rattle.momenta.specs.declared.state.BodyState.{BodyState}
use Rattle.momenta.specs.declared.state.Ends.{Ends}
use Rattle.contacts_base.specs.declared.contact.Contact.{Contact}
use Rattle.contacts_base.specs.declared.contact.ContactEntry.{ContactEntry}
use Rattle.contacts_base.specs.declared.contact.ContactPoint.{ContactPoint}
use Rattle.joint_rows.specs.declared.joint.Joint.{Joint}
use Rattle.colour_solver_base.specs.ContactSolving.{SolvedPoint, bounces, contact_bounced, contact_solved, contact_warmed, from_first, normal_solved, point_bounced, point_solved, point_warmed, separation_now, tangent_solved, then_second, overlap_bias}
use Rattle.world_core_base.specs.Solving.{Visits, bounce, solve, warm}

-- ---- two bodies

-- no component of a momentum of the two is beyond k
pub record AreEndsWithin (k : ℕ) (e : Ends) : Type 0 where
  pub a : IsWithin k e.a.motion.p
  pub b : IsWithin k e.b.motion.p

pub wider : (n k : ℕ) (v : Vec2) → n ≤ k → IsWithin n v → IsWithin k v
wider n k v le h = let x = h.x in let y = h.y in record { x = omega (arith, x, le); y = omega (arith, y, le) }

-- ---- one impulse

within_of : (n : ℕ) (v : Vec2) → is_within n v ≡ true → IsWithin n v
within_of n v e = record { x = grind (arith, common_steps); y = grind (arith, common_steps) }

first_holds : (s t : Bool) → cond s t false ≡ true → s ≡ true
first_holds true t e = refl
first_holds false t e = cc

fit_within : (m : Motion) → fits m ≡ true → IsWithin (2 ^ 60) m.p
fit_within m e = within_of (2 ^ 60) m.p (first_holds (is_within (unsigned_abs MAX_MOMENTUM) m.p) (nat_le (unsigned_abs m.l) (unsigned_abs MAX_ANGULAR_MOMENTUM)) e)

taken_if : (t : Bool) (s now : BodyState) → (t ≡ true → IsWithin (2 ^ 60) s.motion.p) → cond t (Some s) None ≡ Some now → IsWithin (2 ^ 60) now.motion.p
taken_if true s now h e = subst (λ (x : BodyState). IsWithin (2 ^ 60) x.motion.p) (same_Some s now e) (h refl)
taken_if false s now h e = absurd (none-some now e)

taken_within : (j r : Vec2) (s now : BodyState) → taken j r s ≡ Some now → IsWithin (2 ^ 60) now.motion.p
unfolding taken
taken_within j r s now e = taken_if (fits (given j r s).motion) (given j r s) now (λ f. fit_within (given j r s).motion f) e

both_within : (a b : Option BodyState) (e : Ends) → ((s : BodyState) → a ≡ Some s → IsWithin (2 ^ 60) s.motion.p) → ((s : BodyState) → b ≡ Some s → IsWithin (2 ^ 60) s.motion.p) → both a b ≡ Some e → AreEndsWithin (2 ^ 60) e
both_within (Some a) (Some b) e f g h = subst (AreEndsWithin (2 ^ 60)) (same_Some (record { a = a; b = b }) e h) (record { a = f a refl; b = g b refl })
both_within (Some a) None e f g h = absurd (none-some e h)
both_within None b e f g h = absurd (none-some e h)

pair_within : (j ra rb : Vec2) (e now : Ends) → impulse_pair j ra rb e ≡ Some now → AreEndsWithin (2 ^ 60) now
unfolding impulse_pair
pair_within j ra rb e now h = both_within (taken (opposite j) ra e.a) (taken j rb e.b) now (λ s f. taken_within (opposite j) ra e.a s f) (λ s f. taken_within j rb e.b s f) h

wider_ends : (k : ℕ) (e : Ends) → 2 ^ 60 ≤ k → AreEndsWithin (2 ^ 60) e → AreEndsWithin k e
wider_ends k e le h = record { a = wider (2 ^ 60) k e.a.motion.p le h.a; b = wider (2 ^ 60) k e.b.motion.p le h.b }

kept_within : (k : ℕ) (e : Ends) (o : Option Ends) → 2 ^ 60 ≤ k → AreEndsWithin k e → ((now : Ends) → o ≡ Some now → AreEndsWithin (2 ^ 60) now) → AreEndsWithin k (unwrap_or o e)
kept_within k e None le h f = h
kept_within k e (Some now) le h f = wider_ends k now le (f now refl)

dropped_within : (k : ℕ) (old new : ℤ) (e : Ends) (o : Option Ends) → 2 ^ 60 ≤ k → AreEndsWithin k e → ((now : Ends) → o ≡ Some now → AreEndsWithin (2 ^ 60) now) → AreEndsWithin k (or_dropped old e new o).ends
dropped_within k old new e None le h f = h
dropped_within k old new e (Some now) le h f = wider_ends k now le (f now refl)

exerted_within : (k : ℕ) (line : Line) (old new : ℤ) (e : Ends) → 2 ^ 60 ≤ k → AreEndsWithin k e → AreEndsWithin k (exerted line old new e).ends
unfolding exerted
exerted_within k line old new e le h =
    let j : Vec2 = along line.direction (new -ℤ old) in
    dropped_within k old new e (impulse_pair j line.ra line.rb e) le h (λ now f. pair_within j line.ra line.rb e now f)

solved_within : (k : ℕ) (line : Line) (bias low high total : ℤ) (e : Ends) → 2 ^ 60 ≤ k → AreEndsWithin k e → AreEndsWithin k (impulses.solved_impulse line bias low high total e).ends
unfolding impulses.solved_impulse
solved_within k line bias low high total e le h = exerted_within k line total _ e le h

warmed_within : (k : ℕ) (line : Line) (total : ℤ) (e : Ends) → 2 ^ 60 ≤ k → AreEndsWithin k e → AreEndsWithin k (warmed line total e)
unfolding warmed
warmed_within k line total e le h =
    let j : Vec2 = along line.direction total in
    kept_within k e (impulse_pair j line.ra line.rb e) le h (λ now f. pair_within j line.ra line.rb e now f)

-- ---- a point of a contact

point_warmed_within : (k : ℕ) (p : ContactPoint) (e : Ends) → 2 ^ 60 ≤ k → AreEndsWithin k e → AreEndsWithin k (point_warmed p e)
point_warmed_within k p e le h = warmed_within k _ p.tangent_impulse _ le (warmed_within k _ p.normal_impulse e le h)

normal_within : (k : ℕ) (bias : ℤ) (p : ContactPoint) (e : Ends) → 2 ^ 60 ≤ k → AreEndsWithin k e → AreEndsWithin k (normal_solved bias p e).ends
normal_within k bias p e le h = solved_within k _ _ _ _ _ e le h

tangent_within : (k : ℕ) (friction : ℤ) (s : SolvedPoint) → 2 ^ 60 ≤ k → AreEndsWithin k s.ends → AreEndsWithin k (tangent_solved friction s).ends
tangent_within k friction s le h = solved_within k _ _ _ _ _ s.ends le h

point_solved_within : (k : ℕ) (friction : ℤ) (p : ContactPoint) (e : Ends) → 2 ^ 60 ≤ k → AreEndsWithin k e → AreEndsWithin k (point_solved friction p e).ends
point_solved_within k friction p e le h = tangent_within k friction (normal_solved (overlap_bias (separation_now p e)) p e) le (normal_within k (overlap_bias (separation_now p e)) p e le h)

bounced_if : (k : ℕ) (t : Bool) (s u : SolvedPoint) → AreEndsWithin k s.ends → AreEndsWithin k u.ends → AreEndsWithin k (cond t s u).ends
bounced_if k true s u f g = f
bounced_if k false s u f g = g

point_bounced_within : (k : ℕ) (restitution : ℤ) (start : Ends) (p : ContactPoint) (e : Ends) → 2 ^ 60 ≤ k → AreEndsWithin k e → AreEndsWithin k (point_bounced restitution start p e).ends
point_bounced_within k restitution start p e le h = bounced_if k (bounces restitution start p) _ _ (normal_within k _ p e le h) h

-- ---- a contact

second_within : (k : ℕ) (f : ContactPoint → Ends → SolvedPoint) (c : Contact) (first : SolvedPoint) (o : Option ContactPoint) → ((p : ContactPoint) (e : Ends) → AreEndsWithin k e → AreEndsWithin k (f p e).ends) → AreEndsWithin k first.ends → AreEndsWithin k (then_second f c first o).ends
second_within k f c first None keeps h = h
second_within k f c first (Some p) keeps h = keeps p first.ends h

first_within : (k : ℕ) (f : ContactPoint → Ends → SolvedPoint) (c : Contact) (e : Ends) (o : Option ContactPoint) → ((p : ContactPoint) (e : Ends) → AreEndsWithin k e → AreEndsWithin k (f p e).ends) → AreEndsWithin k e → AreEndsWithin k (from_first f c e o).ends
first_within k f c e None keeps h = h
first_within k f c e (Some p) keeps h = second_within k f c (f p e) c.second keeps (keeps p e h)

warm_within : (k : ℕ) (c : Contact) (e : Ends) → 2 ^ 60 ≤ k → AreEndsWithin k e → AreEndsWithin k (contact_warmed c e).ends
unfolding contact_warmed
warm_within k c e le h = first_within k (λ p e. record { point = p; ends = point_warmed p e }) c e c.first (λ p e. point_warmed_within k p e le) h

solve_within : (k : ℕ) (friction : ℤ) (c : Contact) (e : Ends) → 2 ^ 60 ≤ k → AreEndsWithin k e → AreEndsWithin k (contact_solved friction c e).ends
unfolding contact_solved
solve_within k friction c e le h = first_within k (point_solved friction) c e c.first (λ p e. point_solved_within k friction p e le) h

bounce_within : (k : ℕ) (restitution : ℤ) (start : Ends) (c : Contact) (e : Ends) → 2 ^ 60 ≤ k → AreEndsWithin k e → AreEndsWithin k (contact_bounced restitution start c e).ends
unfolding contact_bounced
bounce_within k restitution start c e le h = first_within k (point_bounced restitution start) c e c.first (λ p e. point_bounced_within k restitution start p e le) h

-- ---- the visits of a pass

-- a visit leaves the momenta of its two bodies within the bound
pub record KeepsWithin (k : ℕ) (f : Visits) : Type 0 where
  pub joint : (j : Joint) (start now : Ends) → AreEndsWithin k now → AreEndsWithin k (f.joint j start now).ends
  pub contact : (c : ContactEntry) (start now : Ends) → AreEndsWithin k now → AreEndsWithin k (f.contact c start now).ends

pub warm_keeps : (k : ℕ) → 2 ^ 60 ≤ k → KeepsWithin k warm
warm_keeps k le = record {
  joint = λ j start now h. warmed_within k _ j.impulse now le h;
  contact = λ c start now h. warm_within k c.contact now le h;
}

pub solve_keeps : (k : ℕ) → 2 ^ 60 ≤ k → KeepsWithin k solve
solve_keeps k le = record {
  joint = λ j start now h. solved_within k _ _ _ _ j.impulse now le h;
  contact = λ c start now h. solve_within k c.surface.friction c.contact now le h;
}

pub bounce_keeps : (k : ℕ) → 2 ^ 60 ≤ k → KeepsWithin k bounce
bounce_keeps k le = record {
  joint = λ j start now h. h;
  contact = λ c start now h. bounce_within k c.surface.restitution start c.contact now le h;
}
