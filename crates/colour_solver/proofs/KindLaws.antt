-- Rows of joints and of contacts in one list, and in two.
use Rattle.std.proofs.Common.{◌≡◌, ℕ, List, [], ◌∷◌, ◌++◌, length, map, arith, refl, sym, ap, ◌∙◌}
use Rattle.std.specs.List.{flat_map}
use Rattle.std.proofs.lemmas.List.{append-nil}
use Rattle.std.proofs.lemmas.List.Elements.{All-cons, All-head, All-nil, All-tail, filter_map-append}
use Rattle.fixed_geom.specs.Vectors.{plus}
use Rattle.fixed_geom.specs.declared.vectors.Vec2.{Vec2}
use Rattle.joint_rows.specs.declared.row.JointRow.{JointRow}
use Rattle.joint_rows.specs.Rows.{IsJointRow}
use Rattle.momenta.specs.declared.state.BodyState.{BodyState}
use Rattle.momenta.specs.declared.state.Ends.{Ends}
use Rattle.colour_solver_base.specs.declared.row.ContactRow.{ContactRow}
use Rattle.colour_solver_base.specs.Rows.{IsRow}
use Rattle.colour_solver_base.specs.RowsAfter.{RowAfter}
use Rattle.colour_solver.specs.declared.constraint_row.ConstraintRow.{ConstraintRow}
use Rattle.colour_solver.specs.declared.constraint_row.ConstraintRow.TheVariants.{Joint, Contact}
use Rattle.colour_solver.specs.RowVisits.{AreRowsOn, IsPassed, IsRowOn, after, ends_of, got, passed, rows_passed, share, visit_of}
use Rattle.colour_solver.specs.ConstraintVisits.{AreRowsBelow, IsConstraintRow, IsRowBelow, both_visits, constraint_slots, contact_in, contact_slots, contacts_among, joint_in, joint_slots, joints_among}
use Rattle.colour_solver.specs.ColourRows.{each_joints_first, joints_first}
use Rattle.colour_solver.proofs.PassedLaws.{passed_on}

-- ---- a pass over joints alone, and over contacts alone

joints_passed : (f : JointRow → Ends → RowAfter JointRow) (g : ContactRow → Ends → RowAfter ContactRow) (ss : List BodyState) (rs : List JointRow) → passed constraint_slots (both_visits f g) ss (map Joint rs) ≡ passed joint_slots f ss rs
joints_passed f g ss [] = refl
joints_passed f g ss (r ∷ rs) = joints_passed f g (after joint_slots f ss r) rs

contacts_passed : (f : JointRow → Ends → RowAfter JointRow) (g : ContactRow → Ends → RowAfter ContactRow) (ss : List BodyState) (rs : List ContactRow) → passed constraint_slots (both_visits f g) ss (map Contact rs) ≡ passed contact_slots g ss rs
contacts_passed f g ss [] = refl
contacts_passed f g ss (r ∷ rs) = contacts_passed f g (after contact_slots g ss r) rs

joints_visited : (f : JointRow → Ends → RowAfter JointRow) (g : ContactRow → Ends → RowAfter ContactRow) (ss : List BodyState) (rs : List JointRow) → rows_passed constraint_slots (both_visits f g) ss (map Joint rs) ≡ map Joint (rows_passed joint_slots f ss rs)
joints_visited f g ss [] = refl
joints_visited f g ss (r ∷ rs) = ap (λ (l : List ConstraintRow). Joint (visit_of joint_slots f ss r).row ∷ l) (joints_visited f g (after joint_slots f ss r) rs)

contacts_visited : (f : JointRow → Ends → RowAfter JointRow) (g : ContactRow → Ends → RowAfter ContactRow) (ss : List BodyState) (rs : List ContactRow) → rows_passed constraint_slots (both_visits f g) ss (map Contact rs) ≡ map Contact (rows_passed contact_slots g ss rs)
contacts_visited f g ss [] = refl
contacts_visited f g ss (r ∷ rs) = ap (λ (l : List ConstraintRow). Contact (visit_of contact_slots g ss r).row ∷ l) (contacts_visited f g (after contact_slots g ss r) rs)

joints_share : (f : JointRow → Ends → RowAfter JointRow) (g : ContactRow → Ends → RowAfter ContactRow) (ss : List BodyState) (rs : List JointRow) → share constraint_slots (both_visits f g) ss (map Joint rs) ≡ share joint_slots f ss rs
joints_share f g ss [] = refl
joints_share f g ss (r ∷ rs) = ap (plus (got (ends_of joint_slots ss r) (visit_of joint_slots f ss r).ends)) (joints_share f g (after joint_slots f ss r) rs)

contacts_share : (f : JointRow → Ends → RowAfter JointRow) (g : ContactRow → Ends → RowAfter ContactRow) (ss : List BodyState) (rs : List ContactRow) → share constraint_slots (both_visits f g) ss (map Contact rs) ≡ share contact_slots g ss rs
contacts_share f g ss [] = refl
contacts_share f g ss (r ∷ rs) = ap (plus (got (ends_of contact_slots ss r) (visit_of contact_slots g ss r).ends)) (contacts_share f g (after contact_slots g ss r) rs)

-- ---- what holds of the rows

joint_on : (n : ℕ) (r : JointRow) → IsRowOn joint_slots IsJointRow n r → IsRowBelow n (Joint r)
joint_on n r is = record { row = is.row; a = is.a; b = is.b; apart = is.apart }

contact_on : (n : ℕ) (r : ContactRow) → IsRowOn contact_slots IsRow n r → IsRowBelow n (Contact r)
contact_on n r is = record { row = is.row; a = is.a; b = is.b; apart = is.apart }

pub joints_on : (n : ℕ) (rs : List JointRow) → AreRowsOn joint_slots IsJointRow n rs → AreRowsBelow n (map Joint rs)
joints_on n [] all = All-nil (IsRowBelow n)
joints_on n (r ∷ rs) all =
    All-cons (IsRowBelow n) (Joint r) (map Joint rs) (joint_on n r (All-head (IsRowOn joint_slots IsJointRow n) r rs all)) (joints_on n rs (All-tail (IsRowOn joint_slots IsJointRow n) r rs all))

pub contacts_on : (n : ℕ) (rs : List ContactRow) → AreRowsOn contact_slots IsRow n rs → AreRowsBelow n (map Contact rs)
contacts_on n [] all = All-nil (IsRowBelow n)
contacts_on n (r ∷ rs) all =
    All-cons (IsRowBelow n) (Contact r) (map Contact rs) (contact_on n r (All-head (IsRowOn contact_slots IsRow n) r rs all)) (contacts_on n rs (All-tail (IsRowOn contact_slots IsRow n) r rs all))

pub joints_below : (n : ℕ) (rs : List ConstraintRow) → AreRowsBelow n rs → AreRowsOn joint_slots IsJointRow n (joints_among rs)
joints_below n [] all = All-nil (IsRowOn joint_slots IsJointRow n)
joints_below n (Joint r ∷ rs) all =
    let is : IsRowBelow n (Joint r) = All-head (IsRowBelow n) (Joint r) rs all in
    let here : IsRowOn joint_slots IsJointRow n r = record { row = is.row; a = is.a; b = is.b; apart = is.apart } in
    All-cons (IsRowOn joint_slots IsJointRow n) r (joints_among rs) here (joints_below n rs (All-tail (IsRowBelow n) (Joint r) rs all))
joints_below n (Contact r ∷ rs) all = joints_below n rs (All-tail (IsRowBelow n) (Contact r) rs all)

pub contacts_below : (n : ℕ) (rs : List ConstraintRow) → AreRowsBelow n rs → AreRowsOn contact_slots IsRow n (contacts_among rs)
contacts_below n [] all = All-nil (IsRowOn contact_slots IsRow n)
contacts_below n (Contact r ∷ rs) all =
    let is : IsRowBelow n (Contact r) = All-head (IsRowBelow n) (Contact r) rs all in
    let here : IsRowOn contact_slots IsRow n r = record { row = is.row; a = is.a; b = is.b; apart = is.apart } in
    All-cons (IsRowOn contact_slots IsRow n) r (contacts_among rs) here (contacts_below n rs (All-tail (IsRowBelow n) (Contact r) rs all))
contacts_below n (Joint r ∷ rs) all = contacts_below n rs (All-tail (IsRowBelow n) (Joint r) rs all)

-- ---- a pass over joints, and then over contacts, is one over both

joints_lifted : (f : JointRow → Ends → RowAfter JointRow) (g : ContactRow → Ends → RowAfter ContactRow) (ss ts : List BodyState) (rs visited : List JointRow) (given : Vec2) → IsPassed joint_slots IsJointRow f ss rs ts visited given
    → IsPassed constraint_slots IsConstraintRow (both_visits f g) ss (map Joint rs) ts (map Joint visited) given
joints_lifted f g ss ts rs visited given known = record {
  states = known.states ∙ sym (joints_passed f g ss rs);
  rows_are = ap (map Joint) known.rows_are ∙ sym (joints_visited f g ss rs);
  share_is = known.share_is ∙ sym (joints_share f g ss rs);
  all_states = known.all_states;
  all_rows = joints_on (length ts) visited known.all_rows;
  same = known.same;
  momentum = known.momentum;
}

contacts_lifted : (f : JointRow → Ends → RowAfter JointRow) (g : ContactRow → Ends → RowAfter ContactRow) (ss ts : List BodyState) (rs visited : List ContactRow) (given : Vec2) → IsPassed contact_slots IsRow g ss rs ts visited given
    → IsPassed constraint_slots IsConstraintRow (both_visits f g) ss (map Contact rs) ts (map Contact visited) given
contacts_lifted f g ss ts rs visited given known = record {
  states = known.states ∙ sym (contacts_passed f g ss rs);
  rows_are = ap (map Contact) known.rows_are ∙ sym (contacts_visited f g ss rs);
  share_is = known.share_is ∙ sym (contacts_share f g ss rs);
  all_states = known.all_states;
  all_rows = contacts_on (length ts) visited known.all_rows;
  same = known.same;
  momentum = known.momentum;
}

pub joints_then_contacts : (f : JointRow → Ends → RowAfter JointRow) (g : ContactRow → Ends → RowAfter ContactRow) (ss ts us : List BodyState) (joints jointed : List JointRow) (contacts visited : List ContactRow) (given more : Vec2)
    → IsPassed joint_slots IsJointRow f ss joints ts jointed given → IsPassed contact_slots IsRow g ts contacts us visited more
    → IsPassed constraint_slots IsConstraintRow (both_visits f g) ss (joints_first joints contacts) us (joints_first jointed visited) (plus given more)
joints_then_contacts f g ss ts us joints jointed contacts visited given more first next =
    passed_on constraint_slots IsConstraintRow (both_visits f g) ss ts us (map Joint joints) (map Contact contacts) (map Joint jointed) (map Contact visited) given more
    (joints_lifted f g ss ts joints jointed given first) (contacts_lifted f g ts us contacts visited more next)

-- ---- the joints among the rows, and the contacts

joints_in_joints : (rs : List JointRow) → joints_among (map Joint rs) ≡ rs
joints_in_joints [] = refl
joints_in_joints (r ∷ rs) = ap (λ (l : List JointRow). r ∷ l) (joints_in_joints rs)

joints_in_contacts : (rs : List ContactRow) → joints_among (map Contact rs) ≡ []
joints_in_contacts [] = refl
joints_in_contacts (r ∷ rs) = joints_in_contacts rs

contacts_in_joints : (rs : List JointRow) → contacts_among (map Joint rs) ≡ []
contacts_in_joints [] = refl
contacts_in_joints (r ∷ rs) = contacts_in_joints rs

contacts_in_contacts : (rs : List ContactRow) → contacts_among (map Contact rs) ≡ rs
contacts_in_contacts [] = refl
contacts_in_contacts (r ∷ rs) = ap (λ (l : List ContactRow). r ∷ l) (contacts_in_contacts rs)

pub joints_first_joints : (joints : List JointRow) (contacts : List ContactRow) → joints_among (joints_first joints contacts) ≡ joints
joints_first_joints joints contacts =
    filter_map-append joint_in (map Joint joints) (map Contact contacts)
    ∙ ap (λ (l : List JointRow). l ++ joints_among (map Contact contacts)) (joints_in_joints joints)
    ∙ ap (λ (l : List JointRow). joints ++ l) (joints_in_contacts contacts)
    ∙ append-nil joints

pub joints_first_contacts : (joints : List JointRow) (contacts : List ContactRow) → contacts_among (joints_first joints contacts) ≡ contacts
joints_first_contacts joints contacts =
    filter_map-append contact_in (map Joint joints) (map Contact contacts)
    ∙ ap (λ (l : List ContactRow). l ++ contacts_among (map Contact contacts)) (contacts_in_joints joints)
    ∙ contacts_in_contacts contacts

pub joints_each : (joints : List (List JointRow)) (contacts : List (List ContactRow)) → length joints ≡ length contacts
    → joints_among (flat_map (λ (rs : List ConstraintRow). rs) (each_joints_first joints contacts)) ≡ flat_map (λ (rs : List JointRow). rs) joints
joints_each [] contacts h = refl
joints_each (js ∷ joints) [] h = absurd (omega (arith, h))
joints_each (js ∷ joints) (cs ∷ contacts) h =
    let rest : List ConstraintRow = flat_map (λ (rs : List ConstraintRow). rs) (each_joints_first joints contacts) in
    filter_map-append joint_in (joints_first js cs) rest
    ∙ ap (λ (l : List JointRow). l ++ joints_among rest) (joints_first_joints js cs)
    ∙ ap (λ (l : List JointRow). js ++ l) (joints_each joints contacts (omega (arith, h)))

pub contacts_each : (joints : List (List JointRow)) (contacts : List (List ContactRow)) → length joints ≡ length contacts
    → contacts_among (flat_map (λ (rs : List ConstraintRow). rs) (each_joints_first joints contacts)) ≡ flat_map (λ (rs : List ContactRow). rs) contacts
contacts_each [] [] h = refl
contacts_each [] (cs ∷ contacts) h = absurd (omega (arith, h))
contacts_each (js ∷ joints) [] h = absurd (omega (arith, h))
contacts_each (js ∷ joints) (cs ∷ contacts) h =
    let rest : List ConstraintRow = flat_map (λ (rs : List ConstraintRow). rs) (each_joints_first joints contacts) in
    filter_map-append contact_in (joints_first js cs) rest
    ∙ ap (λ (l : List ContactRow). l ++ contacts_among rest) (joints_first_contacts js cs)
    ∙ ap (λ (l : List ContactRow). cs ++ l) (contacts_each joints contacts (omega (arith, h)))
