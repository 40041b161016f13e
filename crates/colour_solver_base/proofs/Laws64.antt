-- A pass over a point in 64 bits from its two impulses, and over a contact from those over its points.
use Rattle.std.proofs.Common.{◌≡◌, ℕ, ◌+◌, ◌^◌, ◌≤◌, Option, None, Some, option_map, ℤ, pos, ◌≤ℤ◌, unsigned_abs, arith, refl, sym, ◌∙◌, ap, subst}
use Rattle.std.specs.Option.{ForSome}
use Rattle.momenta.specs.declared.state.BodyState.{BodyState}
use Rattle.momenta.specs.declared.state.Ends.{Ends}
use Rattle.momenta.specs.declared.line_64.MomentaPair64.{MomentaPair64}
use Rattle.momenta.specs.declared.line_64.Exerted64.{Exerted64}
use Rattle.momenta.specs.Line64.{IsImpulse, LeaveRoom64, both_ends, ends_with}
use Rattle.colour_solver_base.specs.declared.row.PointRow.{PointRow}
use Rattle.colour_solver_base.specs.declared.row.ContactRow.{ContactRow}
use Rattle.colour_solver_base.specs.declared.solve.PointAfter.{PointAfter}
use Rattle.colour_solver_base.specs.declared.row_64.PointImpulses.{PointImpulses}
use Rattle.colour_solver_base.specs.declared.row_64.PointAfter64.{PointAfter64}
use Rattle.colour_solver_base.specs.declared.row_64.RowAfter64.{RowAfter64}
use Rattle.colour_solver_base.specs.Rows.{IsPointRow, IsRow, at_points, point_solved, normal_solved, separation_now, tangent_solved, then_tangent}
use Rattle.colour_solver_base.specs.ContactSolving.{overlap_bias}
use Rattle.colour_solver_base.specs.Row64.{HasPointRoom64, IsPointAfter64, IsRowAfter64, with_impulses, with_point_impulses, with_row_impulses}
use Rattle.colour_solver_base.proofs.Kept.{kept_then, same_then}

-- what impulses change has no part in the separation
pub same_separation : (p : PointRow) (a b : BodyState) (n : MomentaPair64) → separation_now p (both_ends a b) ≡ separation_now p (ends_with a b n)
unfolding separation_now
same_separation p a b n = refl

-- ---- sizes

pub point_with : (p : PointRow) (normal_impulse tangent_impulse : ℤ) → IsPointRow p → pos 0 ≤ℤ normal_impulse → unsigned_abs normal_impulse ≤ 2 ^ 42 → unsigned_abs tangent_impulse ≤ 2 ^ 43 → IsPointRow (with_impulses p normal_impulse tangent_impulse)
point_with p normal_impulse tangent_impulse h low high small = record {
  normal_line = h.normal_line;
  tangent_line = h.tangent_line;
  separation = h.separation;
  start_speed = h.start_speed;
  normal_low = low;
  normal_high = high;
  tangent_impulse = small;
}

-- ---- the normal impulse, then friction

point_solved_by : (friction normal_impulse tangent_impulse : ℤ) (p : PointRow) (d e f : Ends) → normal_solved (overlap_bias (separation_now p d)) p d ≡ record { point = with_impulses p normal_impulse p.tangent_impulse; ends = e }
    → tangent_solved friction (with_impulses p normal_impulse p.tangent_impulse) e ≡ record { point = with_impulses p normal_impulse tangent_impulse; ends = f } → point_solved friction p d ≡ record { point = with_impulses p normal_impulse tangent_impulse; ends = f }
unfolding point_solved
point_solved_by friction normal_impulse tangent_impulse p d e f h k = ap (then_tangent friction) h ∙ k

pub point_after : (friction : ℤ) (p : PointRow) (a b : BodyState) (old : MomentaPair64) (after_normal slid : Exerted64) → IsPointRow p
    → normal_solved (overlap_bias (separation_now p (ends_with a b old))) p (ends_with a b old) ≡ record { point = with_impulses p after_normal.total p.tangent_impulse; ends = ends_with a b after_normal.now }
    → IsImpulse a b old after_normal.now → pos 0 ≤ℤ after_normal.total → unsigned_abs after_normal.total ≤ 2 ^ 42
    → tangent_solved friction (with_impulses p after_normal.total p.tangent_impulse) (ends_with a b after_normal.now) ≡ record { point = with_impulses p after_normal.total slid.total; ends = ends_with a b slid.now }
    → IsImpulse a b after_normal.now slid.now → unsigned_abs slid.total ≤ 2 ^ 43
    → IsPointAfter64 (point_solved friction p (ends_with a b old)) p a b (ends_with a b old) (record { impulses = record { normal = after_normal.total; tangent = slid.total }; now = slid.now })
point_after friction p a b old after_normal slid row h first low high k second small = record {
  value = point_solved_by friction after_normal.total slid.total p (ends_with a b old) (ends_with a b after_normal.now) (ends_with a b slid.now) h k;
  point = point_with p after_normal.total slid.total row low high small;
  states = second.states;
  same = same_then (ends_with a b old) (ends_with a b after_normal.now) (ends_with a b slid.now) first.same second.same;
  kept = kept_then (ends_with a b old) (ends_with a b after_normal.now) (ends_with a b slid.now) first.same first.kept second.kept;
}

-- two impulses leave room for as many fewer
pub room_then : (a b : BodyState) (old now n : MomentaPair64) → IsImpulse a b old now → IsImpulse a b now n → (k : ℕ) → LeaveRoom64 k old → LeaveRoom64 (k + 2) n
room_then a b old now n first second k h =
    let two : (k + 1) + 1 ≡ k + 2 = omega arith in
    subst (λ m. LeaveRoom64 m n) two (second.leaves_room (k + 1) (first.leaves_room k h))

-- ---- the first point of a contact

-- the bodies with their own momenta are the bodies as they stand
pub after_own : (f : PointRow → Ends → PointAfter) (p : PointRow) (a b : BodyState) (own : MomentaPair64) (n : PointAfter64) → ends_with a b own ≡ both_ends a b → IsPointAfter64 (f p (ends_with a b own)) p a b (ends_with a b own) n
    → IsPointAfter64 (f p (both_ends a b)) p a b (both_ends a b) n
after_own f p a b own n same h = subst (λ (e : Ends). IsPointAfter64 (f p e) p a b e n) same h

-- the room that there is for the second point after the first
pub second_room : (friction : ℤ) (o : Option PointRow) (t : PointAfter) (q : PointRow) (g : Ends) → t ≡ record { point = q; ends = g } → ForSome o (λ p. HasPointRoom64 friction p t.ends) → ForSome o (λ p. HasPointRoom64 friction p g)
second_room friction o t q g is room = λ p e. subst (λ (s : PointAfter). HasPointRoom64 friction p s.ends) is (room p e)

-- ---- a contact with one point

at_one_point : (f : PointRow → Ends → PointAfter) (r : ContactRow) (e g : Ends) (p : PointRow) → r.second ≡ None → f r.first e ≡ record { point = p; ends = g } → at_points f r e ≡ record { row = record r { first = p }; ends = g }
at_one_point f r e g p none h = rw (none, h) refl

one_written : (r : ContactRow) (first second : PointImpulses) → r.second ≡ None → record r { first = with_point_impulses first r.first } ≡ with_row_impulses r first second
one_written r first second none = rw none refl

no_point : (g : PointRow → PointRow) (o : Option PointRow) → o ≡ None → ForSome (option_map g o) IsPointRow
no_point g o none = rw none (λ x e. cc)

pub row_after_one : (f : PointRow → Ends → PointAfter) (r : ContactRow) (a b : BodyState) (second : PointImpulses) (n : PointAfter64) → r.second ≡ None → IsRow r → IsPointAfter64 (f r.first (both_ends a b)) r.first a b (both_ends a b) n
    → IsRowAfter64 (at_points f r (both_ends a b)) r a b (record { first = n.impulses; second = second; now = n.now })
row_after_one f r a b second n none row h = record {
  value = at_one_point f r (both_ends a b) (ends_with a b n.now) (with_point_impulses n.impulses r.first) none h.value ∙ ap (λ (q : ContactRow). record { row = q; ends = ends_with a b n.now }) (one_written r n.impulses second none);
  row = record { surfaces = row.surfaces; first = h.point; second = no_point (with_point_impulses second) r.second none };
  states = h.states;
  same = h.same;
  kept = h.kept;
}

-- ---- a contact with two points

at_two_points : (f : PointRow → Ends → PointAfter) (r : ContactRow) (e g k : Ends) (p q s : PointRow) → r.second ≡ Some p → f r.first e ≡ record { point = q; ends = g } → f p g ≡ record { point = s; ends = k }
    → at_points f r e ≡ record { row = record r { first = q; second = Some s }; ends = k }
at_two_points f r e g k p q s some h i = rw (some, h, i) refl

both_written : (r : ContactRow) (first second : PointImpulses) (p : PointRow) → r.second ≡ Some p → record r { first = with_point_impulses first r.first; second = Some (with_point_impulses second p) } ≡ with_row_impulses r first second
both_written r first second p some = rw some refl

that_point : (g : PointRow → PointRow) (o : Option PointRow) (p : PointRow) → o ≡ Some p → IsPointRow (g p) → ForSome (option_map g o) IsPointRow
that_point g o p some h = rw some (λ x e. let same : g p ≡ x = cc in subst IsPointRow same h)

pub row_after_two : (f : PointRow → Ends → PointAfter) (r : ContactRow) (a b : BodyState) (p : PointRow) (n m : PointAfter64) → r.second ≡ Some p → IsRow r → IsPointAfter64 (f r.first (both_ends a b)) r.first a b (both_ends a b) n
    → IsPointAfter64 (f p (ends_with a b n.now)) p a b (ends_with a b n.now) m → IsRowAfter64 (at_points f r (both_ends a b)) r a b (record { first = n.impulses; second = m.impulses; now = m.now })
row_after_two f r a b p n m some row h i = record {
  value = at_two_points f r (both_ends a b) (ends_with a b n.now) (ends_with a b m.now) p (with_point_impulses n.impulses r.first) (with_point_impulses m.impulses p) some h.value i.value
      ∙ ap (λ (q : ContactRow). record { row = q; ends = ends_with a b m.now }) (both_written r n.impulses m.impulses p some);
  row = record { surfaces = row.surfaces; first = h.point; second = that_point (with_point_impulses m.impulses) r.second p some i.point };
  states = i.states;
  same = same_then (both_ends a b) (ends_with a b n.now) (ends_with a b m.now) h.same i.same;
  kept = kept_then (both_ends a b) (ends_with a b n.now) (ends_with a b m.now) h.same h.kept i.kept;
}
