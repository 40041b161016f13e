-- Trusted: a pass over rows in solve order: the left fold of one visit, and what the immovable bodies have given. A row
-- may be of any kind: what is known of it is where its two bodies stand.
use Rattle.std.specs.Prelude.{◌≡◌, ℕ, Bool, ◌<◌, ◌≢◌, ◌-◌, cond, List, [], ◌∷◌, length, take, drop, All, slice_set, slice_index_or}
use Rattle.fixed_geom.specs.Vectors.{minus, plus, zero_vector}
use Rattle.fixed_geom.specs.declared.vectors.Vec2.{Vec2}
use Rattle.momenta.specs.declared.state.BodyState.{BodyState}
use Rattle.momenta.specs.declared.state.Ends.{Ends}
use Rattle.momenta.specs.declared.line_64.MomentaPair64.{MomentaPair64}
use Rattle.momenta.specs.ImpulseBounds.{AreStates, AreSameBodies, IsMomentumKept}
use Rattle.momenta.specs.Line64.{both_ends, ends_with}
use Rattle.joint_rows.specs.declared.centres_64.MomentumPair.{MomentumPair}
use Rattle.joint_rows.specs.Centres64.{with_own_turning}
use Rattle.colour_solver_base.specs.RowsAfter.{RowAfter}
use Rattle.colour_solver.specs.declared.row_visits.Slots.{Slots}
use Rattle.colour_solver.specs.States.{AreAllStates, AreSameStates, nobody, total}

-- the two bodies of a row
abbrev pub ends_of : {R : Type 0} → (R → Slots) → List BodyState → R → Ends
ends_of at states r = record { a = slice_index_or states (at r).a nobody; b = slice_index_or states (at r).b nobody }

abbrev pub with_ends : {R : Type 0} → (R → Slots) → List BodyState → R → Ends → List BodyState
with_ends at states r e = slice_set (slice_set states (at r).a e.a) (at r).b e.b

-- the two bodies with these momenta
abbrev pub ends_64 : {R : Type 0} → (R → Slots) → List BodyState → R → MomentaPair64 → Ends
ends_64 at states r n = ends_with (slice_index_or states (at r).a nobody) (slice_index_or states (at r).b nobody) n

-- the same, their angular momenta being as they are
abbrev pub centres_64 : {R : Type 0} → (R → Slots) → List BodyState → R → MomentumPair → Ends
centres_64 at states r n = ends_64 at states r (with_own_turning (slice_index_or states (at r).a nobody) (slice_index_or states (at r).b nobody) n)

-- the visit of one row, the bodies standing so
abbrev pub visit_of : {R : Type 0} → (R → Slots) → (R → Ends → RowAfter R) → List BodyState → R → RowAfter R
visit_of at f states r = f r (ends_of at states r)

abbrev pub after : {R : Type 0} → (R → Slots) → (R → Ends → RowAfter R) → List BodyState → R → List BodyState
after at f states r = with_ends at states r (visit_of at f states r).ends

-- the bodies after all visits, one after another
abbrev pub passed : {R : Type 0} → (R → Slots) → (R → Ends → RowAfter R) → List BodyState → List R → List BodyState
passed at f states [] = states
passed at f states (r ∷ rs) = passed at f (after at f states r) rs

-- the rows after their visits
abbrev pub rows_passed : {R : Type 0} → (R → Slots) → (R → Ends → RowAfter R) → List BodyState → List R → List R
rows_passed at f states [] = []
rows_passed at f states (r ∷ rs) = (visit_of at f states r).row ∷ rows_passed at f (after at f states r) rs

-- ---- what the movers got where the other body is immovable

-- what the first has gained where it alone moves, or the second where that does
abbrev pub got_by : Bool → Bool → Vec2 → Vec2 → Vec2
got_by first second a b = cond first (cond second zero_vector a) (cond second b zero_vector)

abbrev pub got : Ends → Ends → Vec2
got e after = got_by e.a.movable e.b.movable (minus after.a.motion.p e.a.motion.p) (minus after.b.motion.p e.b.motion.p)

abbrev pub share : {R : Type 0} → (R → Slots) → (R → Ends → RowAfter R) → List BodyState → List R → Vec2
share at f states [] = zero_vector
share at f states (r ∷ rs) = plus (got (ends_of at states r) (visit_of at f states r).ends) (share at f (after at f states r) rs)

-- ---- what must hold of the rows

-- a whole row of two different bodies below n
pub record IsRowOn {R : Type 0} (at : R → Slots) (is : R → Type 0) (n : ℕ) (r : R) : Type 0 where
  pub row : is r
  pub a : (at r).a < n
  pub b : (at r).b < n
  pub apart : (at r).a ≢ (at r).b

abbrev pub AreRowsOn : {R : Type 0} → (R → Slots) → (R → Type 0) → ℕ → List R → Type 0
AreRowsOn at is n rows = All (IsRowOn at is n) rows

-- ---- a pass over some rows

-- the rows from the one with the number n up to the one with the number e
abbrev pub between : {R : Type 0} → ℕ → ℕ → List R → List R
between n e rows = take (e - n) (drop n rows)

-- the visits f of the rows, from the bodies before them on, leave these bodies and these rows, and the movers with so
-- much more momentum
pub record IsPassed {R : Type 0} (at : R → Slots) (is : R → Type 0) (f : R → Ends → RowAfter R) (before : List BodyState) (rows : List R) (now : List BodyState) (visited : List R) (given : Vec2) : Type 0 where
  pub states : now ≡ passed at f before rows
  pub rows_are : visited ≡ rows_passed at f before rows
  pub share_is : given ≡ share at f before rows
  pub all_states : AreAllStates now
  pub all_rows : AreRowsOn at is (length now) visited
  pub same : AreSameStates before now
  pub momentum : total now ≡ plus (total before) given

-- ---- a visit of one row

-- the visit f of the row r, from the bodies before it on, leaves these bodies and this row, and the movers with so much
-- more momentum
pub record IsVisited {R : Type 0} (at : R → Slots) (is : R → Type 0) (f : R → Ends → RowAfter R) (before : List BodyState) (r : R) (now : List BodyState) (visited : R) (given : Vec2) : Type 0 where
  pub states : now ≡ after at f before r
  pub row_is : visited ≡ (visit_of at f before r).row
  pub got_is : given ≡ got (ends_of at before r) (visit_of at f before r).ends
  pub all_states : AreAllStates now
  pub below : IsRowOn at is (length now) visited
  pub long : length now ≡ length before
  pub same : AreSameStates before now
  pub momentum : total now ≡ plus (total before) given

-- ---- a visit in 64 bits

-- the visit t has left the row r, and the bodies a and b with the momenta n
pub record IsVisit64 {R : Type 0} (is : R → Type 0) (t : RowAfter R) (a b : BodyState) (r : R) (n : MomentaPair64) : Type 0 where
  pub value : t ≡ record { row = r; ends = ends_with a b n }
  pub row : is r
  pub states : AreStates (ends_with a b n)
  pub same : AreSameBodies (both_ends a b) (ends_with a b n)
  pub kept : IsMomentumKept (both_ends a b) (ends_with a b n)

-- the same of a visit between the centres, which leaves their angular momenta alone
abbrev pub IsCentreVisit64 : {R : Type 0} → (R → Type 0) → RowAfter R → BodyState → BodyState → R → MomentumPair → Type 0
IsCentreVisit64 {R} is t a b r n = IsVisit64 is t a b r (with_own_turning a b n)
