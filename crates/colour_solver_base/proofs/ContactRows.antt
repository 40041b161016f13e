-- The visit of a row is what the definition makes of its contact.
use Rattle.std.proofs.Common.{◌≡◌, ◌∙◌, ◌^◌, Bool, true, false, cond, Option, Some, None, ℤ, pos, neg_ℤ, ◌+ℤ◌, ◌-ℤ◌, ◌*ℤ◌, int_lt, refl, sym, ap, subst}
use Rattle.std.specs.Prelude.{option_map, unwrap_or}
use Rattle.fixed_geom.specs.Numbers.{rdiv}
use Rattle.fixed_geom.specs.Reciprocals.{over_inverse_reciprocal}
use Rattle.fixed_geom.specs.Vectors.{unit_length, cross, opposite}
use Rattle.fixed_geom.specs.declared.vectors.Vec2.{Vec2}
use Rattle.momenta.specs.declared.mass.MassData.{MassData}
use Rattle.momenta.specs.declared.motion.Motion.{Motion}
use Rattle.momenta.specs.declared.state.BodyState.{BodyState}
use Rattle.momenta.specs.declared.state.Ends.{Ends}
use Rattle.momenta.specs.declared.line.Line.{Line}
use Rattle.momenta.specs.declared.line.Exerted.{Exerted}
use Rattle.momenta.specs.Impulses.{along, between, both, exerted, fits, given, impulse_pair, inverse_mass, inverse_share, line_along, or_dropped, solved_impulse, speed_along, taken, turning_share, wanted, warmed}
use Rattle.contacts_base.specs.declared.contact.ContactPoint.{ContactPoint}
use Rattle.contacts_base.specs.declared.contact.Contact.{Contact}
use Rattle.fixed_geom.specs.declared.limits.TheConstants.{MAX_NORMAL_IMPULSE}
use Rattle.colour_solver_base.specs.declared.limits.TheConstants.{BOUNCE_SPEED}
use Rattle.colour_solver_base.specs.declared.row.PointRow.{PointRow}
use Rattle.colour_solver_base.specs.declared.row.ContactRow.{ContactRow}
use Rattle.colour_solver_base.specs.declared.row.Bodies.{Bodies}
use Rattle.colour_solver_base.specs.declared.solve.PointAfter.{PointAfter}
use Rattle.colour_solver_base.specs.RowsAfter.{RowAfter}
use Rattle.colour_solver_base.specs.Rows as rows
use Rattle.colour_solver_base.specs.Rows.{is_springy, point_row, row_bounced, row_from, row_solved, row_warmed, start_speed}
use Rattle.colour_solver_base.specs.ContactSolving.{SolvedPoint, at_points, contact_bounced, contact_solved, contact_warmed, normal_line, normal_solved, point_bounced, point_solved, point_warmed, separation_now, tangent_line, tangent_solved, with_normal_impulse, with_tangent_impulse, overlap_bias, most_friction, tangent}
use Rattle.colour_solver_base.specs.Laws.{AreMovedFrom, IsMovedFrom, IsRowOf, RowsAreContacts}

-- ---- masses stay

like_then : (a b c : BodyState) → IsMovedFrom a b → IsMovedFrom b c → IsMovedFrom a c
like_then a b c h k = record { movable = k.movable ∙ h.movable; mass = k.mass ∙ h.mass; start = k.start ∙ h.start; reciprocals = k.reciprocals ∙ h.reciprocals }

pub masses_then : (a b c : Ends) → AreMovedFrom a b → AreMovedFrom b c → AreMovedFrom a c
masses_then a b c h k = record { a = like_then a.a b.a c.a h.a k.a; b = like_then a.b b.b c.b h.b k.b }

same_body : (s : BodyState) → IsMovedFrom s s
same_body s = record { movable = refl; mass = refl; start = refl; reciprocals = refl }

same_bodies : (e : Ends) → AreMovedFrom e e
same_bodies e = record { a = same_body e.a; b = same_body e.b }

like_by : (moves : Bool) (s : BodyState) (m : Motion) → IsMovedFrom s (cond moves (record s { motion = m }) s)
like_by true s m = record { movable = refl; mass = refl; start = refl; reciprocals = refl }
like_by false s m = same_body s

given_like : (j r : Vec2) (s : BodyState) → IsMovedFrom s (given j r s)
unfolding given
given_like j r s = like_by s.movable s _

kept_by : (t u : Bool) (e : Ends) (a b : BodyState) → IsMovedFrom e.a a → IsMovedFrom e.b b → AreMovedFrom e (unwrap_or (both (cond t (Some a) None) (cond u (Some b) None)) e)
kept_by true true e a b h k = record { a = h; b = k }
kept_by true false e a b h k = same_bodies e
kept_by false u e a b h k = same_bodies e

pair_masses : (j ra rb : Vec2) (e : Ends) → AreMovedFrom e (unwrap_or (impulse_pair j ra rb e) e)
unfolding impulse_pair taken
pair_masses j ra rb e = kept_by (fits (given (opposite j) ra e.a).motion) (fits (given j rb e.b).motion) e (given (opposite j) ra e.a) (given j rb e.b) (given_like (opposite j) ra e.a) (given_like j rb e.b)

dropped_ends : (old new : ℤ) (e : Ends) (o : Option Ends) → unwrap_or o e ≡ (or_dropped old e new o).ends
dropped_ends old new e (Some after) = refl
dropped_ends old new e None = refl

pub warmed_masses : (line : Line) (total : ℤ) (e : Ends) → AreMovedFrom e (warmed line total e)
unfolding warmed
warmed_masses line total e = pair_masses (along line.direction total) line.ra line.rb e

exerted_masses : (line : Line) (old new : ℤ) (e : Ends) → AreMovedFrom e (exerted line old new e).ends
unfolding exerted
exerted_masses line old new e =
    let j : Vec2 = along line.direction (new -ℤ old) in
    subst (AreMovedFrom e) (dropped_ends old new e (impulse_pair j line.ra line.rb e)) (pair_masses j line.ra line.rb e)

pub solved_masses : (line : Line) (bias low high total : ℤ) (e : Ends) → AreMovedFrom e (solved_impulse line bias low high total e).ends
unfolding solved_impulse
solved_masses line bias low high total e = exerted_masses line total (between low high (total +ℤ wanted (speed_along line e) bias line.inverse_mass)) e

-- ---- lines stay

abbrev share_by : Vec2 → Vec2 → Bool → MassData → ℤ
share_by n r moves m = cond moves (rdiv (pos (2 ^ 40)) m.mass +ℤ turning_share m.inertia (rdiv (cross r n) unit_length)) (pos 0)

same_share : (n r : Vec2) (s t : BodyState) → t.movable ≡ s.movable → t.mass ≡ s.mass → inverse_share n r s ≡ inverse_share n r t
same_share n r s t h k = ap (λ (b : Bool). share_by n r b s.mass) (sym h) ∙ ap (λ (m : MassData). share_by n r t.movable m) (sym k)

same_inverse : (n ra rb : Vec2) (s e : Ends) → AreMovedFrom s e → inverse_mass n ra rb s ≡ inverse_mass n ra rb e
unfolding inverse_mass
same_inverse n ra rb s e h =
    ap (λ (z : ℤ). z +ℤ inverse_share n rb s.b) (same_share n ra s.a e.a h.a.movable h.a.mass) ∙ ap (λ (z : ℤ). inverse_share n ra e.a +ℤ z) (same_share n rb s.b e.b h.b.movable h.b.mass)

same_line : (n ra rb : Vec2) (s e : Ends) → AreMovedFrom s e → line_along n ra rb s ≡ line_along n ra rb e
same_line n ra rb s e h = ap (λ (z : ℤ). record { direction = n; ra = ra; rb = rb; inverse_mass = z; reciprocal = over_inverse_reciprocal z }) (same_inverse n ra rb s e h)

-- ---- one point

-- the point's row, and the bodies
abbrev row_point : Bool → Ends → SolvedPoint → PointAfter
row_point springy s t = record { point = point_row springy s t.point; ends = t.ends }

normal_put : (springy : Bool) (s : Ends) (p : ContactPoint) (x : Exerted) → rows.with_normal (point_row springy s p) x ≡ row_point springy s (with_normal_impulse p x)
unfolding point_row
normal_put springy s p x = refl

tangent_put : (springy : Bool) (s : Ends) (p : ContactPoint) (x : Exerted) → rows.with_tangent (point_row springy s p) x ≡ row_point springy s (with_tangent_impulse p x)
unfolding point_row
tangent_put springy s p x = refl

normal_row : (springy : Bool) (s e : Ends) (bias : ℤ) (p : ContactPoint) → rows.normal_solved bias (point_row springy s p) e ≡ rows.with_normal (point_row springy s p) (solved_impulse (normal_line p s) bias (pos 0) MAX_NORMAL_IMPULSE p.normal_impulse e)
unfolding point_row
normal_row springy s e bias p = refl

normal_alike : (springy : Bool) (s e : Ends) (bias : ℤ) (p : ContactPoint) → AreMovedFrom s e → rows.normal_solved bias (point_row springy s p) e ≡ row_point springy s (normal_solved bias p e)
normal_alike springy s e bias p h =
    normal_row springy s e bias p
    ∙ ap (λ (l : Line). rows.with_normal (point_row springy s p) (solved_impulse l bias (pos 0) MAX_NORMAL_IMPULSE p.normal_impulse e)) (same_line p.normal p.ra p.rb s e h)
    ∙ normal_put springy s p (solved_impulse (normal_line p e) bias (pos 0) MAX_NORMAL_IMPULSE p.normal_impulse e)

tangent_row : (springy : Bool) (s : Ends) (friction : ℤ) (t : SolvedPoint) → rows.then_tangent friction (row_point springy s t)
    ≡ rows.with_tangent (point_row springy s t.point) (solved_impulse (tangent_line t.point s) (pos 0) (neg_ℤ (most_friction friction t.point.normal_impulse)) (most_friction friction t.point.normal_impulse) t.point.tangent_impulse t.ends)
unfolding point_row
tangent_row springy s friction t = refl

tangent_alike : (springy : Bool) (s : Ends) (friction : ℤ) (t : SolvedPoint) → AreMovedFrom s t.ends → rows.then_tangent friction (row_point springy s t) ≡ row_point springy s (tangent_solved friction t)
tangent_alike springy s friction t h =
    let most : ℤ = most_friction friction t.point.normal_impulse in
    tangent_row springy s friction t
    ∙ ap (λ (l : Line). rows.with_tangent (point_row springy s t.point) (solved_impulse l (pos 0) (neg_ℤ most) most t.point.tangent_impulse t.ends)) (same_line (tangent t.point.normal) t.point.ra t.point.rb s t.ends h)
    ∙ tangent_put springy s t.point (solved_impulse (tangent_line t.point t.ends) (pos 0) (neg_ℤ most) most t.point.tangent_impulse t.ends)

normal_masses : (bias : ℤ) (p : ContactPoint) (e : Ends) → AreMovedFrom e (normal_solved bias p e).ends
normal_masses bias p e = solved_masses (normal_line p e) bias (pos 0) MAX_NORMAL_IMPULSE p.normal_impulse e

tangent_masses : (friction : ℤ) (t : SolvedPoint) → AreMovedFrom t.ends (tangent_solved friction t).ends
tangent_masses friction t = solved_masses (tangent_line t.point t.ends) (pos 0) (neg_ℤ (most_friction friction t.point.normal_impulse)) (most_friction friction t.point.normal_impulse) t.point.tangent_impulse t.ends

same_separation : (springy : Bool) (s e : Ends) (p : ContactPoint) → rows.separation_now (point_row springy s p) e ≡ separation_now p e
unfolding rows.separation_now point_row
same_separation springy s e p = refl

-- what a visit of the point's row makes is what the definition makes of the point
record IsAlike (springy : Bool) (s : Ends) (f : ContactPoint → Ends → SolvedPoint) (g : PointRow → Ends → PointAfter) : Type 0 where
  value : (p : ContactPoint) (e : Ends) → AreMovedFrom s e → g (point_row springy s p) e ≡ row_point springy s (f p e)
  masses : (p : ContactPoint) (e : Ends) → AreMovedFrom e (f p e).ends

solve_value : (springy : Bool) (s : Ends) (friction : ℤ) (p : ContactPoint) (e : Ends) → AreMovedFrom s e → rows.point_solved friction (point_row springy s p) e ≡ row_point springy s (point_solved friction p e)
unfolding rows.point_solved
solve_value springy s friction p e h =
    let bias : ℤ = overlap_bias (separation_now p e) in
    let first : SolvedPoint = normal_solved bias p e in
    ap (λ (z : ℤ). rows.then_tangent friction (rows.normal_solved (overlap_bias z) (point_row springy s p) e)) (same_separation springy s e p)
    ∙ ap (rows.then_tangent friction) (normal_alike springy s e bias p h)
    ∙ tangent_alike springy s friction first (masses_then s e first.ends h (normal_masses bias p e))

solve_alike : (springy : Bool) (s : Ends) (friction : ℤ) → IsAlike springy s (point_solved friction) (rows.point_solved friction)
solve_alike springy s friction = record {
  value = solve_value springy s friction;
  masses = λ p e. masses_then e (normal_solved (overlap_bias (separation_now p e)) p e).ends (point_solved friction p e).ends (normal_masses (overlap_bias (separation_now p e)) p e) (tangent_masses friction (normal_solved (overlap_bias (separation_now p e)) p e));
}

-- ---- the warm start

warm_row : (springy : Bool) (s : Ends) (p : ContactPoint) (e : Ends) → rows.point_warmed (point_row springy s p) e ≡ warmed (tangent_line p s) p.tangent_impulse (warmed (normal_line p s) p.normal_impulse e)
unfolding rows.point_warmed point_row
warm_row springy s p e = refl

warm_value : (springy : Bool) (s : Ends) (p : ContactPoint) (e : Ends) → AreMovedFrom s e → rows.point_warmed (point_row springy s p) e ≡ point_warmed p e
warm_value springy s p e h =
    let first : Ends = warmed (normal_line p e) p.normal_impulse e in
    warm_row springy s p e
    ∙ ap (λ (l : Line). warmed (tangent_line p s) p.tangent_impulse (warmed l p.normal_impulse e)) (same_line p.normal p.ra p.rb s e h)
    ∙ ap (λ (l : Line). warmed l p.tangent_impulse first) (same_line (tangent p.normal) p.ra p.rb s first (masses_then s e first h (warmed_masses (normal_line p e) p.normal_impulse e)))

warm_alike : (springy : Bool) (s : Ends) → IsAlike springy s (λ p e. record { point = p; ends = point_warmed p e }) (λ p e. record { point = p; ends = rows.point_warmed p e })
warm_alike springy s = record {
  value = λ p e h. ap (λ (f : Ends). record { point = point_row springy s p; ends = f }) (warm_value springy s p e h);
  masses = λ p e. masses_then e (warmed (normal_line p e) p.normal_impulse e) (point_warmed p e) (warmed_masses (normal_line p e) p.normal_impulse e) (warmed_masses (tangent_line p (warmed (normal_line p e) p.normal_impulse e)) p.tangent_impulse (warmed (normal_line p e) p.normal_impulse e));
}

-- ---- restitution

bounce_if : (t : Bool) (springy : Bool) (s e : Ends) (bias : ℤ) (p : ContactPoint) → AreMovedFrom s e
    → cond t (rows.normal_solved bias (point_row springy s p) e) (record { point = point_row springy s p; ends = e }) ≡ row_point springy s (cond t (normal_solved bias p e) (record { point = p; ends = e }))
bounce_if true springy s e bias p h = normal_alike springy s e bias p h
bounce_if false springy s e bias p h = refl

-- how fast the point's bodies came together, as its row has it
speed_of : (springy : Bool) (s : Ends) (p : ContactPoint) → (point_row springy s p).start_speed ≡ cond springy (speed_along (normal_line p s) s) (pos 0)
unfolding point_row
speed_of springy s p = refl

pushed_of : (springy : Bool) (s : Ends) (p : ContactPoint) → (point_row springy s p).normal_impulse ≡ p.normal_impulse
unfolding point_row
pushed_of springy s p = refl

bounce_by : (t : Bool) (restitution : ℤ) (s e : Ends) (p : ContactPoint) → int_lt (pos 0) restitution ≡ t → AreMovedFrom s e
    → rows.point_bounced restitution (point_row t s p) e ≡ row_point t s (point_bounced restitution s p e)
unfolding rows.point_bounced speed_along point_row
bounce_by true restitution s e p springs h =
    rw (springs, speed_of true s p, pushed_of true s p)
    (bounce_if (cond (int_lt (speed_along (normal_line p s) s) (neg_ℤ BOUNCE_SPEED)) (int_lt (pos 0) p.normal_impulse) false) true s e (neg_ℤ (rdiv (restitution *ℤ speed_along (normal_line p s) s) (pos 256))) p h)
bounce_by false restitution s e p springs h = rw springs refl

bounced_masses : (t : Bool) (bias : ℤ) (p : ContactPoint) (e : Ends) → AreMovedFrom e (cond t (normal_solved bias p e) (record { point = p; ends = e })).ends
bounced_masses true bias p e = normal_masses bias p e
bounced_masses false bias p e = same_bodies e

bounce_alike : (restitution : ℤ) (s : Ends) → IsAlike (int_lt (pos 0) restitution) s (point_bounced restitution s) (rows.point_bounced restitution)
bounce_alike restitution s = record {
  value = λ p e h. bounce_by (int_lt (pos 0) restitution) restitution s e p refl h;
  masses = λ p e. bounced_masses _ _ p e;
}

-- ---- a whole contact

alike_by : (b : Bodies) (s e : Ends) (first second : Option ContactPoint) (r : ContactRow) (f : ContactPoint → Ends → SolvedPoint) (g : PointRow → Ends → PointAfter) → IsAlike (is_springy b) s f g
    → row_from b s first second ≡ Some r → AreMovedFrom s e → IsRowOf b s (at_points f (record { first = first; second = second }) e) (rows.at_points g r e)
alike_by b s e None second r f g alike is h = cc
alike_by b s e (Some p) None r f g alike is h =
    let row : record { bodies = b; first = point_row (is_springy b) s p; second = None } ≡ r = cc in
    subst (λ (r : ContactRow). IsRowOf b s (at_points f (record { first = Some p; second = None }) e) (rows.at_points g r e)) row (record {
      row = ap (λ (t : PointAfter). Some (record { bodies = b; first = t.point; second = None })) (sym (alike.value p e h));
      ends = ap (λ (t : PointAfter). t.ends) (alike.value p e h);
      moved = masses_then s e (f p e).ends h (alike.masses p e);
    })
alike_by b s e (Some p) (Some q) r f g alike is h =
    let row : record { bodies = b; first = point_row (is_springy b) s p; second = Some (point_row (is_springy b) s q) } ≡ r = cc in
    let first : SolvedPoint = f p e in
    let then_masses : AreMovedFrom s first.ends = masses_then s e first.ends h (alike.masses p e) in
    let one : g (point_row (is_springy b) s p) e ≡ row_point (is_springy b) s first = alike.value p e h in
    let two : g (point_row (is_springy b) s q) first.ends ≡ row_point (is_springy b) s (f q first.ends) = alike.value q first.ends then_masses in
    let both : rows.at_points g (record { bodies = b; first = point_row (is_springy b) s p; second = Some (point_row (is_springy b) s q) }) e
    ≡ record { row = record { bodies = b; first = point_row (is_springy b) s first.point; second = Some (point_row (is_springy b) s (f q first.ends).point) }; ends = (f q first.ends).ends } =
    ap (λ (t : PointAfter). rows.then_second g (record { row = record { bodies = b; first = t.point; second = Some (point_row (is_springy b) s q) }; ends = t.ends }) (Some (point_row (is_springy b) s q))) one
    ∙ ap (λ (t : PointAfter). record { row = record { bodies = b; first = point_row (is_springy b) s first.point; second = Some t.point }; ends = t.ends }) two in
    subst (λ (r : ContactRow). IsRowOf b s (at_points f (record { first = Some p; second = Some q }) e) (rows.at_points g r e)) row (record {
      row = ap (λ (t : RowAfter ContactRow). Some t.row) (sym both);
      ends = ap (λ (t : RowAfter ContactRow). t.ends) both;
      moved = masses_then s first.ends (f q first.ends).ends then_masses (alike.masses q first.ends);
    })

warm_rows : (b : Bodies) (s e : Ends) (c : Contact) (r : ContactRow) → row_from b s c.first c.second ≡ Some r → AreMovedFrom s e → IsRowOf b s (contact_warmed c e) (row_warmed r e)
unfolding contact_warmed row_warmed
warm_rows b s e c r is h = alike_by b s e c.first c.second r _ _ (warm_alike (is_springy b) s) is h

solve_rows : (b : Bodies) (s e : Ends) (c : Contact) (r : ContactRow) → row_from b s c.first c.second ≡ Some r → AreMovedFrom s e → IsRowOf b s (contact_solved b.friction c e) (row_solved r e)
unfolding contact_solved row_solved
solve_rows b s e c r is h =
    subst (λ (friction : ℤ). IsRowOf b s (at_points (point_solved b.friction) c e) (rows.at_points (rows.point_solved friction) r e)) (ap (λ (b : Bodies). b.friction) (row_bodies c.first c.second is))
    (alike_by b s e c.first c.second r _ _ (solve_alike (is_springy b) s b.friction) is h)
  where
    row_bodies : (first second : Option ContactPoint) → row_from b s first second ≡ Some r → b ≡ r.bodies
    row_bodies None second is = cc
    row_bodies (Some p) second is = ap (λ (r : ContactRow). r.bodies) (let same : record { bodies = b; first = point_row (is_springy b) s p; second = option_map (point_row (is_springy b) s) second } ≡ r = cc in same)

bounce_rows : (b : Bodies) (s e : Ends) (c : Contact) (r : ContactRow) → row_from b s c.first c.second ≡ Some r → AreMovedFrom s e → IsRowOf b s (contact_bounced b.restitution s c e) (row_bounced r e)
unfolding contact_bounced row_bounced
bounce_rows b s e c r is h =
    subst (λ (restitution : ℤ). IsRowOf b s (at_points (point_bounced b.restitution s) c e) (rows.at_points (rows.point_bounced restitution) r e)) (ap (λ (b : Bodies). b.restitution) (row_bodies c.first c.second is))
    (alike_by b s e c.first c.second r _ _ (bounce_alike b.restitution s) is h)
  where
    row_bodies : (first second : Option ContactPoint) → row_from b s first second ≡ Some r → b ≡ r.bodies
    row_bodies None second is = cc
    row_bodies (Some p) second is = ap (λ (r : ContactRow). r.bodies) (let same : record { bodies = b; first = point_row (is_springy b) s p; second = option_map (point_row (is_springy b) s) second } ≡ r = cc in same)

pub rows_are_contacts : RowsAreContacts
rows_are_contacts = record {
  warm = λ b s e c r is h. warm_rows b s e c r is h;
  solve = λ b s e c r is h. solve_rows b s e c r is h;
  bounce = λ b s e c r is h. bounce_rows b s e c r is h;
}
