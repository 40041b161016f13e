-- Rows kept as joints and contacts with where each colour ends in both: what is added, ended and passed over.
use Rattle.std.proofs.Common.{◌≡◌, ℕ, ◌+◌, ◌-◌, ◌<◌, ◌≤◌, List, [], ◌∷◌, ◌++◌, length, get_or, take, drop, map, min, arith, refl, sym, ap, ◌∙◌, subst}
use Rattle.std.specs.List.{flat_map}
use Rattle.std.proofs.lemmas.List.{append-nil, append_assoc, get_or-map, length-append, length-map, length-take, map-append, map_push, take_all, take_more, take_rest}
use Rattle.std.proofs.lemmas.List.Concat.{flat_map-append}
use Rattle.std.proofs.lemmas.List.Elements.{filter_map-append}
use Rattle.fixed_geom.specs.Vectors.{plus}
use Rattle.fixed_geom.specs.declared.vectors.Vec2.{Vec2}
use Rattle.joint_rows.specs.declared.row.JointRow.{JointRow}
use Rattle.joint_rows.specs.Rows.{IsJointRow}
use Rattle.momenta.specs.declared.state.BodyState.{BodyState}
use Rattle.momenta.specs.declared.state.Ends.{Ends}
use Rattle.colour_solver_base.specs.declared.row.ContactRow.{ContactRow}
use Rattle.colour_solver_base.specs.Rows.{IsRow}
use Rattle.colour_solver_base.specs.RowsAfter.{RowAfter}
use Rattle.colour_solver.specs.declared.constraint_row.ConstraintRow.{ConstraintRow}
use Rattle.colour_solver.specs.declared.constraint_row.ConstraintRow.TheVariants.{Joint, Contact}
use Rattle.colour_solver.specs.RowVisits.{AreRowsOn, IsPassed, between}
use Rattle.colour_solver.specs.ConstraintVisits.{IsConstraintRow, both_visits, constraint_slots, contact_in, contact_slots, contacts_among, joint_in, joint_slots, joints_among}
use Rattle.colour_solver.specs.ColourRows.{AreEnds, colours_of, cut, each_joints_first, joints_first, last_end, left_of, rows_kept, rows_left}
use Rattle.colour_solver.proofs.ColourRowLaws.{cut_all, cut_count, cut_end, cut_long, cut_more, cut_next, cut_same, end_high, end_low, ends_end, ends_more, ends_taken, last_more, left_end, left_from, left_more, taken_high}
use Rattle.colour_solver.proofs.KindLaws.{contacts_each, joints_each, joints_first_contacts, joints_first_joints}
use Rattle.colour_solver.proofs.PassedLaws.{drop_further, passed_alike, passed_on}

-- ---- a row more, a colour more

pub joints_more : (joints : List JointRow) (contacts : List ContactRow) (r : JointRow) → contacts ≡ [] → joints_first (joints ++ r ∷ []) contacts ≡ joints_first joints contacts ++ Joint r ∷ []
joints_more joints contacts r none =
    rw none (append-nil (map Joint (joints ++ r ∷ [])) ∙ map-append Joint joints (r ∷ []) ∙ ap (λ (l : List ConstraintRow). l ++ Joint r ∷ []) (sym (append-nil (map Joint joints))))

pub contacts_more : (joints : List JointRow) (contacts : List ContactRow) (r : ContactRow) → joints_first joints (contacts ++ r ∷ []) ≡ joints_first joints contacts ++ Contact r ∷ []
contacts_more joints contacts r =
    ap (λ (l : List ConstraintRow). map Joint joints ++ l) (map-append Contact contacts (r ∷ [])) ∙ sym (append_assoc (map Joint joints) (map Contact contacts) (Contact r ∷ []))

pub each_more : (joints : List (List JointRow)) (contacts : List (List ContactRow)) (js : List JointRow) (cs : List ContactRow) → length joints ≡ length contacts
    → each_joints_first (joints ++ js ∷ []) (contacts ++ cs ∷ []) ≡ each_joints_first joints contacts ++ joints_first js cs ∷ []
each_more [] [] js cs h = refl
each_more [] (x ∷ contacts) js cs h = absurd (omega (arith, h))
each_more (x ∷ joints) [] js cs h = absurd (omega (arith, h))
each_more (x ∷ joints) (y ∷ contacts) js cs h = ap (λ (l : List (List ConstraintRow)). joints_first x y ∷ l) (each_more joints contacts js cs (omega (arith, h)))

pub as_many_cuts : {R S : Type 0} (n m : ℕ) (ends others : List ℕ) (rows : List R) (more : List S) → length ends ≡ length others → length (cut n ends rows) ≡ length (cut m others more)
as_many_cuts n m ends others rows more h = cut_count n ends rows ∙ h ∙ sym (cut_count m others more)

pub colours_end : (je ce : List ℕ) (joints : List JointRow) (contacts : List ContactRow) → length je ≡ length ce → AreEnds 0 je (length joints) → AreEnds 0 ce (length contacts)
    → colours_of (je ++ length joints ∷ []) (ce ++ length contacts ∷ []) joints contacts ≡ colours_of je ce joints contacts ++ rows_left je ce joints contacts ∷ []
colours_end je ce joints contacts same j k =
    rw (cut_end 0 je (length joints) joints j (omega arith), cut_end 0 ce (length contacts) contacts k (omega arith))
    (each_more (cut 0 je joints) (cut 0 ce contacts) (left_of 0 je joints) (left_of 0 ce contacts) (as_many_cuts 0 0 je ce joints contacts same))

each_long : (joints old : List (List JointRow)) (contacts before : List (List ContactRow)) → length joints ≡ length contacts → map length joints ≡ map length old → map length contacts ≡ map length before
    → map length (each_joints_first joints contacts) ≡ map length (each_joints_first old before)
each_long [] [] contacts before h j k = refl
each_long [] (o ∷ old) contacts before h j k = absurd (cc j)
each_long (x ∷ joints) [] contacts before h j k = absurd (cc j)
each_long (x ∷ joints) (o ∷ old) [] before h j k = absurd (omega (arith, h))
each_long (x ∷ joints) (o ∷ old) (y ∷ contacts) [] h j k = absurd (cc k)
each_long (x ∷ joints) (o ∷ old) (y ∷ contacts) (b ∷ before) h j k =
    let first : length x ≡ length o = cc j in
    let second : length y ≡ length b = cc k in
    let more : map length joints ≡ map length old = cc j in
    let others : map length contacts ≡ map length before = cc k in
    let here : length (joints_first x y) ≡ length (joints_first o b) =
    length-append (map Joint x) (map Contact y) ∙ ap (λ (n : ℕ). n + length (map Contact y)) (length-map x Joint ∙ first ∙ sym (length-map o Joint)) ∙ ap (λ (n : ℕ). length (map Joint o) + n) (length-map y Contact ∙ second ∙ sym (length-map b Contact)) ∙ sym (length-append (map Joint o) (map Contact b)) in
    ap (λ (n : ℕ). n ∷ map length (each_joints_first joints contacts)) here ∙ ap (λ (l : List ℕ). length (joints_first o b) ∷ l) (each_long joints old contacts before (omega (arith, h)) more others)

-- as many rows in each colour
pub colours_long : (je ce : List ℕ) (joints old : List JointRow) (contacts before : List ContactRow) → length je ≡ length ce → length joints ≡ length old → length contacts ≡ length before
    → map length (colours_of je ce joints contacts) ≡ map length (colours_of je ce old before)
colours_long je ce joints old contacts before same j k =
    each_long (cut 0 je joints) (cut 0 je old) (cut 0 ce contacts) (cut 0 ce before) (as_many_cuts 0 0 je ce joints contacts same) (cut_long 0 je old joints j) (cut_long 0 ce before contacts k)

-- ---- the joints among all rows, and the contacts

pub joints_kept : (je ce : List ℕ) (joints : List JointRow) (contacts : List ContactRow) → length je ≡ length ce → joints_among (rows_kept je ce joints contacts) ≡ joints
joints_kept je ce joints contacts same =
    filter_map-append joint_in (flat_map (λ (rs : List ConstraintRow). rs) (colours_of je ce joints contacts)) (rows_left je ce joints contacts)
    ∙ ap (λ (l : List JointRow). l ++ joints_among (rows_left je ce joints contacts)) (joints_each (cut 0 je joints) (cut 0 ce contacts) (as_many_cuts 0 0 je ce joints contacts same))
    ∙ ap (λ (l : List JointRow). flat_map (λ (rs : List JointRow). rs) (cut 0 je joints) ++ l) (joints_first_joints (left_of 0 je joints) (left_of 0 ce contacts))
    ∙ cut_all 0 je joints

pub contacts_kept : (je ce : List ℕ) (joints : List JointRow) (contacts : List ContactRow) → length je ≡ length ce → contacts_among (rows_kept je ce joints contacts) ≡ contacts
contacts_kept je ce joints contacts same =
    filter_map-append contact_in (flat_map (λ (rs : List ConstraintRow). rs) (colours_of je ce joints contacts)) (rows_left je ce joints contacts)
    ∙ ap (λ (l : List ContactRow). l ++ contacts_among (rows_left je ce joints contacts)) (contacts_each (cut 0 je joints) (cut 0 ce contacts) (as_many_cuts 0 0 je ce joints contacts same))
    ∙ ap (λ (l : List ContactRow). flat_map (λ (rs : List ContactRow). rs) (cut 0 ce contacts) ++ l) (joints_first_contacts (left_of 0 je joints) (left_of 0 ce contacts))
    ∙ cut_all 0 ce contacts

-- ---- a pass over the first k colours

-- the rows of the first k colours
abbrev pub first_rows : ℕ → List ℕ → List ℕ → List JointRow → List ContactRow → List ConstraintRow
first_rows k je ce joints contacts = flat_map (λ (rs : List ConstraintRow). rs) (colours_of (take k je) (take k ce) joints contacts)

-- the pass from the bodies ss, the joints and the contacts at first on has come through k colours
pub record HasPassed (f : JointRow → Ends → RowAfter JointRow) (g : ContactRow → Ends → RowAfter ContactRow) (k : ℕ) (je ce : List ℕ) (ss : List BodyState) (joints : List JointRow) (contacts : List ContactRow) (ts : List BodyState) (js : List JointRow) (cs : List ContactRow) (given : Vec2) : Type 0 where
  pub passed : IsPassed constraint_slots IsConstraintRow (both_visits f g) ss (first_rows k je ce joints contacts) ts (first_rows k je ce js cs) given
  pub joints_behind : drop (last_end 0 (take k je)) js ≡ drop (last_end 0 (take k je)) joints
  pub contacts_behind : drop (last_end 0 (take k ce)) cs ≡ drop (last_end 0 (take k ce)) contacts
  pub as_many_joints : length js ≡ length joints
  pub as_many_contacts : length cs ≡ length contacts
  pub all_joints : AreRowsOn joint_slots IsJointRow (length ts) js
  pub all_contacts : AreRowsOn contact_slots IsRow (length ts) cs

-- a pass over the rows between two places of each list: it leaves those before and behind them
pub record HasVisited (f : JointRow → Ends → RowAfter JointRow) (g : ContactRow → Ends → RowAfter ContactRow) (n m d e : ℕ) (ss : List BodyState) (joints : List JointRow) (contacts : List ContactRow) (ts : List BodyState) (js : List JointRow) (cs : List ContactRow) (given : Vec2) : Type 0 where
  pub passed : IsPassed constraint_slots IsConstraintRow (both_visits f g) ss (joints_first (between n d joints) (between m e contacts)) ts (joints_first (between n d js) (between m e cs)) given
  pub joints_before : take n js ≡ take n joints
  pub joints_behind : drop d js ≡ drop d joints
  pub contacts_before : take m cs ≡ take m contacts
  pub contacts_behind : drop e cs ≡ drop e contacts
  pub as_many_joints : length js ≡ length joints
  pub as_many_contacts : length cs ≡ length contacts
  pub all_joints : AreRowsOn joint_slots IsJointRow (length ts) js
  pub all_contacts : AreRowsOn contact_slots IsRow (length ts) cs

-- the ends of the colours of joints and of contacts, and the lists that they cut
pub record AreBothEnds (je ce : List ℕ) (joints : List JointRow) (contacts : List ContactRow) : Type 0 where
  pub as_many : length je ≡ length ce
  pub of_joints : AreEnds 0 je (length joints)
  pub of_contacts : AreEnds 0 ce (length contacts)

flat_one : {X : Type 0} (xss : List (List X)) (xs : List X) → flat_map (λ (l : List X). l) (xss ++ xs ∷ []) ≡ flat_map (λ (l : List X). l) xss ++ xs
flat_one {X} xss xs = flat_map-append (λ (l : List X). l) xss (xs ∷ []) ∙ ap (λ (l : List X). flat_map (λ (l : List X). l) xss ++ l) (append-nil xs)

-- the next colour of one list
next_cut : {R : Type 0} (k : ℕ) (ends : List ℕ) (rows : List R) → AreEnds 0 ends (length rows) → k < length ends
    → cut 0 (take (k + 1) ends) rows ≡ cut 0 (take k ends) rows ++ between (last_end 0 (take k ends)) (get_or ends k 0) rows ∷ []
next_cut {R} k ends rows h lt =
    let s = last_end 0 (take k ends) in
    let e = get_or ends k 0 in
    ap (λ (l : List ℕ). cut 0 l rows) (take_more ends k 0 lt)
    ∙ cut_next 0 (take k ends) e rows
    ∙ ap (λ (l : List R). cut 0 (take k ends) rows ++ take (e - s) l ∷ []) (left_from (take k ends) s rows (ends_taken k 0 ends (length rows) h))

next_rows : (k : ℕ) (je ce : List ℕ) (joints : List JointRow) (contacts : List ContactRow) → AreBothEnds je ce joints contacts → k < length je
    → first_rows (k + 1) je ce joints contacts
    ≡ first_rows k je ce joints contacts ++ joints_first (between (last_end 0 (take k je)) (get_or je k 0) joints) (between (last_end 0 (take k ce)) (get_or ce k 0) contacts)
next_rows k je ce joints contacts ends lt =
    let also : k < length ce = omega (arith, lt, ends.as_many) in
    let js = between (last_end 0 (take k je)) (get_or je k 0) joints in
    let cs = between (last_end 0 (take k ce)) (get_or ce k 0) contacts in
    let same : length (take k je) ≡ length (take k ce) = length-take k je ∙ ap (min k) ends.as_many ∙ sym (length-take k ce) in
    let many : length (cut 0 (take k je) joints) ≡ length (cut 0 (take k ce) contacts) = as_many_cuts 0 0 (take k je) (take k ce) joints contacts same in
    let colours : colours_of (take (k + 1) je) (take (k + 1) ce) joints contacts ≡ colours_of (take k je) (take k ce) joints contacts ++ joints_first js cs ∷ [] =
    ap (λ (l : List (List JointRow)). each_joints_first l (cut 0 (take (k + 1) ce) contacts)) (next_cut k je joints ends.of_joints lt)
    ∙ ap (λ (l : List (List ContactRow)). each_joints_first (cut 0 (take k je) joints ++ js ∷ []) l) (next_cut k ce contacts ends.of_contacts also)
    ∙ each_more (cut 0 (take k je) joints) (cut 0 (take k ce) contacts) js cs many in
    ap (flat_map (λ (rs : List ConstraintRow). rs)) colours ∙ flat_one (colours_of (take k je) (take k ce) joints contacts) (joints_first js cs)

-- the first colours of one list, as they are after a pass over rows behind them
same_cut : {R : Type 0} (k : ℕ) (ends : List ℕ) (rows now : List R) → AreEnds 0 ends (length rows) → length now ≡ length rows → take (last_end 0 (take k ends)) now ≡ take (last_end 0 (take k ends)) rows
    → cut 0 (take k ends) now ≡ cut 0 (take k ends) rows
same_cut {R} k ends rows now h long same =
    let low : last_end 0 (take k ends) ≤ length rows = taken_high k 0 ends (length rows) h in
    cut_same (take k ends) rows now (ends_taken k 0 ends (length rows) h) low (omega (arith, low, long)) same

same_rows : (k : ℕ) (je ce : List ℕ) (joints js : List JointRow) (contacts cs : List ContactRow) → AreBothEnds je ce joints contacts → length js ≡ length joints → length cs ≡ length contacts
    → take (last_end 0 (take k je)) js ≡ take (last_end 0 (take k je)) joints → take (last_end 0 (take k ce)) cs ≡ take (last_end 0 (take k ce)) contacts → first_rows k je ce js cs ≡ first_rows k je ce joints contacts
same_rows k je ce joints js contacts cs ends j c first second =
    ap (flat_map (λ (rs : List ConstraintRow). rs))
    (ap (λ (l : List (List JointRow)). each_joints_first l (cut 0 (take k ce) cs)) (same_cut k je joints js ends.of_joints j first)
    ∙ ap (λ (l : List (List ContactRow)). each_joints_first (cut 0 (take k je) joints) l) (same_cut k ce contacts cs ends.of_contacts c second))

both_long : (je ce : List ℕ) (joints js : List JointRow) (contacts cs : List ContactRow) → AreBothEnds je ce joints contacts → length js ≡ length joints → length cs ≡ length contacts → AreBothEnds je ce js cs
both_long je ce joints js contacts cs ends j c = record {
  as_many = ends.as_many;
  of_joints = subst (AreEnds 0 je) (sym j) ends.of_joints;
  of_contacts = subst (AreEnds 0 ce) (sym c) ends.of_contacts;
}

-- the rows between two places, where those from the first on are as they were
between_same : {R : Type 0} (n e : ℕ) (rows all : List R) → drop n rows ≡ drop n all → between n e rows ≡ between n e all
between_same {R} n e rows all same = ap (λ (l : List R). take (e - n) l) same

-- one colour more
pub has_passed_more : (f : JointRow → Ends → RowAfter JointRow) (g : ContactRow → Ends → RowAfter ContactRow) (k : ℕ) (je ce : List ℕ) (ss ts us : List BodyState) (joints js kept : List JointRow) (contacts cs held : List ContactRow) (given more : Vec2)
    → AreBothEnds je ce joints contacts → k < length je → HasPassed f g k je ce ss joints contacts ts js cs given
    → HasVisited f g (last_end 0 (take k je)) (last_end 0 (take k ce)) (get_or je k 0) (get_or ce k 0) ts js cs us kept held more
    → HasPassed f g (k + 1) je ce ss joints contacts us kept held (plus given more)
has_passed_more f g k je ce ss ts us joints js kept contacts cs held given more ends lt known made =
    let also : k < length ce = omega (arith, lt, ends.as_many) in
    let n = last_end 0 (take k je) in
    let m = last_end 0 (take k ce) in
    let d = get_or je k 0 in
    let e = get_or ce k 0 in
    let many : length kept ≡ length joints = made.as_many_joints ∙ known.as_many_joints in
    let others : length held ≡ length contacts = made.as_many_contacts ∙ known.as_many_contacts in
    let earlier : AreBothEnds je ce js cs = both_long je ce joints js contacts cs ends known.as_many_joints known.as_many_contacts in
    let now : AreBothEnds je ce kept held = both_long je ce joints kept contacts held ends many others in
    let old : joints_first (between n d js) (between m e cs) ≡ joints_first (between n d joints) (between m e contacts) =
    ap (λ (l : List JointRow). joints_first l (between m e cs)) (between_same n d js joints known.joints_behind) ∙ ap (λ (l : List ContactRow). joints_first (between n d joints) l) (between_same m e cs contacts known.contacts_behind) in
    let first_now : first_rows k je ce kept held ≡ first_rows k je ce js cs =
    same_rows k je ce js kept cs held earlier made.as_many_joints made.as_many_contacts made.joints_before made.contacts_before in
    let joint_end : last_end 0 (take (k + 1) je) ≡ d = ap (last_end 0) (take_more je k 0 lt) ∙ last_more 0 (take k je) d in
    let contact_end : last_end 0 (take (k + 1) ce) ≡ e = ap (last_end 0) (take_more ce k 0 also) ∙ last_more 0 (take k ce) e in
    record {
      passed =
          passed_alike constraint_slots IsConstraintRow (both_visits f g) ss us
          (first_rows k je ce joints contacts ++ joints_first (between n d js) (between m e cs)) (first_rows (k + 1) je ce joints contacts)
          (first_rows k je ce js cs ++ joints_first (between n d kept) (between m e held)) (first_rows (k + 1) je ce kept held) (plus given more)
          (next_rows k je ce joints contacts ends lt ∙ ap (λ (l : List ConstraintRow). first_rows k je ce joints contacts ++ l) (sym old))
          (next_rows k je ce kept held now lt ∙ ap (λ (l : List ConstraintRow). l ++ joints_first (between n d kept) (between m e held)) first_now)
          (passed_on constraint_slots IsConstraintRow (both_visits f g) ss ts us (first_rows k je ce joints contacts) (joints_first (between n d js) (between m e cs)) (first_rows k je ce js cs) (joints_first (between n d kept) (between m e held)) given more known.passed made.passed);
      joints_behind = subst (λ (p : ℕ). drop p kept ≡ drop p joints) (sym joint_end) (made.joints_behind ∙ drop_further n d js joints (end_low k 0 je (length joints) 0 ends.of_joints lt) known.joints_behind);
      contacts_behind = subst (λ (p : ℕ). drop p held ≡ drop p contacts) (sym contact_end) (made.contacts_behind ∙ drop_further m e cs contacts (end_low k 0 ce (length contacts) 0 ends.of_contacts also) known.contacts_behind);
      as_many_joints = many;
      as_many_contacts = others;
      all_joints = made.all_joints;
      all_contacts = made.all_contacts;
    }

-- what is left behind the last end, as the rows between two places
pub left_between : {R : Type 0} (ends : List ℕ) (rows : List R) → AreEnds 0 ends (length rows) → left_of 0 ends rows ≡ between (last_end 0 ends) (length rows) rows
left_between ends rows h = left_from ends (length rows) rows h ∙ sym (take_rest rows (last_end 0 ends))

left_rows : (je ce : List ℕ) (joints : List JointRow) (contacts : List ContactRow) → AreBothEnds je ce joints contacts
    → rows_left je ce joints contacts ≡ joints_first (between (last_end 0 je) (length joints) joints) (between (last_end 0 ce) (length contacts) contacts)
left_rows je ce joints contacts ends =
    ap (λ (l : List JointRow). joints_first l (left_of 0 ce contacts)) (left_between je joints ends.of_joints) ∙ ap (λ (l : List ContactRow). joints_first (between (last_end 0 je) (length joints) joints) l) (left_between ce contacts ends.of_contacts)

-- all colours, and then the rows of the one that hasn't ended
pub all_passed : (f : JointRow → Ends → RowAfter JointRow) (g : ContactRow → Ends → RowAfter ContactRow) (k : ℕ) (je ce : List ℕ) (ss ts us : List BodyState) (joints js kept : List JointRow) (contacts cs held : List ContactRow) (given more : Vec2)
    → AreBothEnds je ce joints contacts → length je ≤ k → HasPassed f g k je ce ss joints contacts ts js cs given → HasVisited f g (last_end 0 je) (last_end 0 ce) (length js) (length cs) ts js cs us kept held more
    → IsPassed constraint_slots IsConstraintRow (both_visits f g) ss (rows_kept je ce joints contacts) us (rows_kept je ce kept held) (plus given more)
all_passed f g k je ce ss ts us joints js kept contacts cs held given more ends high known made =
    let n = last_end 0 je in
    let m = last_end 0 ce in
    let whole : take k je ≡ je = take_all k je high in
    let whole_too : take k ce ≡ ce = take_all k ce (omega (arith, high, ends.as_many)) in
    let many : length kept ≡ length joints = made.as_many_joints ∙ known.as_many_joints in
    let others : length held ≡ length contacts = made.as_many_contacts ∙ known.as_many_contacts in
    let earlier : AreBothEnds je ce js cs = both_long je ce joints js contacts cs ends known.as_many_joints known.as_many_contacts in
    let now : AreBothEnds je ce kept held = both_long je ce joints kept contacts held ends many others in
    let joints_are : drop n js ≡ drop n joints = rw whole at known.joints_behind in
    let contacts_are : drop m cs ≡ drop m contacts = rw whole_too at known.contacts_behind in
    let last_old : rows_left je ce joints contacts ≡ joints_first (between n (length js) js) (between m (length cs) cs) =
    left_rows je ce joints contacts ends
    ∙ ap (λ (p : ℕ). joints_first (between n p joints) (between m (length contacts) contacts)) (sym known.as_many_joints)
    ∙ ap (λ (p : ℕ). joints_first (between n (length js) joints) (between m p contacts)) (sym known.as_many_contacts)
    ∙ ap (λ (l : List JointRow). joints_first l (between m (length cs) contacts)) (sym (between_same n (length js) js joints joints_are))
    ∙ ap (λ (l : List ContactRow). joints_first (between n (length js) js) l) (sym (between_same m (length cs) cs contacts contacts_are)) in
    let last_now : rows_left je ce kept held ≡ joints_first (between n (length js) kept) (between m (length cs) held) =
    left_rows je ce kept held now ∙ ap (λ (p : ℕ). joints_first (between n p kept) (between m (length held) held)) made.as_many_joints ∙ ap (λ (p : ℕ). joints_first (between n (length js) kept) (between m p held)) made.as_many_contacts in
    let before : first_rows k je ce kept held ≡ first_rows k je ce js cs =
    same_rows k je ce js kept cs held earlier made.as_many_joints made.as_many_contacts (subst (λ (l : List ℕ). take (last_end 0 l) kept ≡ take (last_end 0 l) js) (sym whole) made.joints_before) (subst (λ (l : List ℕ). take (last_end 0 l) held ≡ take (last_end 0 l) cs) (sym whole_too) made.contacts_before) in
    let all_first : (xs : List JointRow) (ys : List ContactRow) → flat_map (λ (rs : List ConstraintRow). rs) (colours_of je ce xs ys) ≡ first_rows k je ce xs ys =
    λ xs ys. ap (λ (l : List ℕ). flat_map (λ (rs : List ConstraintRow). rs) (colours_of l ce xs ys)) (sym whole) ∙ ap (λ (l : List ℕ). flat_map (λ (rs : List ConstraintRow). rs) (colours_of (take k je) l xs ys)) (sym whole_too) in
    passed_alike constraint_slots IsConstraintRow (both_visits f g) ss us
    (first_rows k je ce joints contacts ++ joints_first (between n (length js) js) (between m (length cs) cs)) (rows_kept je ce joints contacts)
    (first_rows k je ce js cs ++ joints_first (between n (length js) kept) (between m (length cs) held)) (rows_kept je ce kept held) (plus given more)
    (ap (λ (l : List ConstraintRow). l ++ rows_left je ce joints contacts) (all_first joints contacts) ∙ ap (λ (l : List ConstraintRow). first_rows k je ce joints contacts ++ l) last_old)
    (ap (λ (l : List ConstraintRow). l ++ rows_left je ce kept held) (all_first kept held ∙ before) ∙ ap (λ (l : List ConstraintRow). first_rows k je ce js cs ++ l) last_now)
    (passed_on constraint_slots IsConstraintRow (both_visits f g) ss ts us (first_rows k je ce joints contacts) (joints_first (between n (length js) js) (between m (length cs) cs)) (first_rows k je ce js cs) (joints_first (between n (length js) kept) (between m (length cs) held)) given more known.passed made.passed)

-- the same pass, its places named otherwise
pub visited_there : (f : JointRow → Ends → RowAfter JointRow) (g : ContactRow → Ends → RowAfter ContactRow) (n m d e a b p q : ℕ) (ss : List BodyState) (joints : List JointRow) (contacts : List ContactRow) (ts : List BodyState) (js : List JointRow) (cs : List ContactRow) (given : Vec2)
    → n ≡ a → m ≡ b → d ≡ p → e ≡ q → HasVisited f g n m d e ss joints contacts ts js cs given → HasVisited f g a b p q ss joints contacts ts js cs given
visited_there f g n m d e a b p q ss joints contacts ts js cs given h i j k known =
    subst (λ (z : ℕ). HasVisited f g z b p q ss joints contacts ts js cs given) h
    (subst (λ (z : ℕ). HasVisited f g n z p q ss joints contacts ts js cs given) i
    (subst (λ (z : ℕ). HasVisited f g n m z q ss joints contacts ts js cs given) j (subst (λ (z : ℕ). HasVisited f g n m d z ss joints contacts ts js cs given) k known)))

-- ---- ends of one kind, each a part of the ends of a colour

pub as_many_ends : {X : Type 0} (f g : X → ℕ) (ends : List X) → length (map f ends) ≡ length (map g ends)
as_many_ends f g ends = length-map ends f ∙ sym (length-map ends g)

pub below_ends : {X : Type 0} (f : X → ℕ) (ends : List X) (k : ℕ) → k < length ends → k < length (map f ends)
below_ends f ends k lt = let long = length-map ends f in omega (arith, lt, long)

pub end_there : {X : Type 0} (f : X → ℕ) (ends : List X) (k : ℕ) (d : X) → k < length ends → f (get_or ends k d) ≡ get_or (map f ends) k 0
end_there f ends k d lt = sym (get_or-map f ends k d 0 lt)

pub start_low : {X : Type 0} (f : X → ℕ) (ends : List X) (k start last : ℕ) (d : X) → AreEnds 0 (map f ends) last → k < length ends → start ≡ last_end 0 (take k (map f ends)) → start ≤ f (get_or ends k d)
start_low f ends k start last d h lt e =
    let there = end_there f ends k d lt in
    let low = end_low k 0 (map f ends) last 0 h (below_ends f ends k lt) in
    omega (arith, e, there, low)

pub end_inside : {X : Type 0} (f : X → ℕ) (ends : List X) (k last : ℕ) (d : X) → AreEnds 0 (map f ends) last → k < length ends → f (get_or ends k d) ≤ last
end_inside f ends k last d h lt =
    let there = end_there f ends k d lt in
    let high = end_high k 0 (map f ends) last 0 h (below_ends f ends k lt) in
    omega (arith, there, high)

pub start_inside : {X : Type 0} (f : X → ℕ) (ends : List X) (k start last : ℕ) → AreEnds 0 (map f ends) last → start ≡ last_end 0 (take k (map f ends)) → start ≤ last
start_inside f ends k start last h e = let high = taken_high k 0 (map f ends) last h in omega (arith, e, high)

pub start_more : {X : Type 0} (f : X → ℕ) (ends : List X) (k : ℕ) (d : X) → k < length ends → f (get_or ends k d) ≡ last_end 0 (take (k + 1) (map f ends))
start_more f ends k d lt =
    end_there f ends k d lt ∙ sym (ap (last_end 0) (take_more (map f ends) k 0 (below_ends f ends k lt)) ∙ last_more 0 (take k (map f ends)) (get_or (map f ends) k 0))

-- where the colour n begins
pub start_back : {X : Type 0} (f : X → ℕ) (ends : List X) (n : ℕ) (d : X) → 1 ≤ n → n ≤ length ends → f (get_or ends (n - 1) d) ≡ last_end 0 (take n (map f ends))
start_back f ends n d some h =
    let whole : (n - 1) + 1 ≡ n = omega (arith, some) in
    start_more f ends (n - 1) d (omega (arith, some, h)) ∙ ap (λ (k : ℕ). last_end 0 (take k (map f ends))) whole

pub ends_pushed : {X : Type 0} (f : X → ℕ) (ends : List X) (e : X) (last : ℕ) → f e ≡ last → AreEnds 0 (map f ends) last → AreEnds 0 (map f (ends ++ e ∷ [])) last
ends_pushed f ends e last is h =
    subst (λ (l : List ℕ). AreEnds 0 l last) (sym (map_push f ends e ∙ ap (λ (n : ℕ). map f ends ++ n ∷ []) is)) (ends_end 0 (map f ends) last h)

pub left_pushed : {X R : Type 0} (f : X → ℕ) (ends : List X) (e : X) (rows : List R) → f e ≡ length rows → AreEnds 0 (map f ends) (length rows) → left_of 0 (map f (ends ++ e ∷ [])) rows ≡ []
left_pushed {X} {R} f ends e rows is h =
    ap (λ (l : List ℕ). left_of 0 l rows) (map_push f ends e ∙ ap (λ (n : ℕ). map f ends ++ n ∷ []) is) ∙ left_end 0 (map f ends) (length rows) rows h (omega arith)

pub colours_pushed : {X : Type 0} (f g : X → ℕ) (ends : List X) (e : X) (joints : List JointRow) (contacts : List ContactRow) → f e ≡ length joints → g e ≡ length contacts → AreEnds 0 (map f ends) (length joints) → AreEnds 0 (map g ends) (length contacts)
    → colours_of (map f (ends ++ e ∷ [])) (map g (ends ++ e ∷ [])) joints contacts ≡ colours_of (map f ends) (map g ends) joints contacts ++ rows_left (map f ends) (map g ends) joints contacts ∷ []
colours_pushed f g ends e joints contacts j c h k =
    ap (λ (l : List ℕ). colours_of l (map g (ends ++ e ∷ [])) joints contacts) (map_push f ends e ∙ ap (λ (n : ℕ). map f ends ++ n ∷ []) j)
    ∙ ap (λ (l : List ℕ). colours_of (map f ends ++ length joints ∷ []) l joints contacts) (map_push g ends e ∙ ap (λ (n : ℕ). map g ends ++ n ∷ []) c)
    ∙ colours_end (map f ends) (map g ends) joints contacts (as_many_ends f g ends) h k

pub none_left : {X : Type 0} (f g : X → ℕ) (ends : List X) (e : X) (joints : List JointRow) (contacts : List ContactRow) → f e ≡ length joints → g e ≡ length contacts → AreEnds 0 (map f ends) (length joints) → AreEnds 0 (map g ends) (length contacts)
    → rows_left (map f (ends ++ e ∷ [])) (map g (ends ++ e ∷ [])) joints contacts ≡ []
none_left f g ends e joints contacts j c h k =
    ap (λ (l : List JointRow). joints_first l (left_of 0 (map g (ends ++ e ∷ [])) contacts)) (left_pushed f ends e joints j h) ∙ ap (λ (l : List ContactRow). joints_first [] l) (left_pushed g ends e contacts c k)

-- ---- a joint more, a contact more

pub ends_still : {R : Type 0} (ends : List ℕ) (rows : List R) (r : R) → AreEnds 0 ends (length rows) → AreEnds 0 ends (length (rows ++ r ∷ []))
ends_still ends rows r h = let long = length-append rows (r ∷ []) in ends_more 0 ends (length rows) (length (rows ++ r ∷ [])) h (omega (arith, long))

pub joint_colours : (je ce : List ℕ) (joints : List JointRow) (contacts : List ContactRow) (r : JointRow) → AreEnds 0 je (length joints) → colours_of je ce (joints ++ r ∷ []) contacts ≡ colours_of je ce joints contacts
joint_colours je ce joints contacts r h = ap (λ (l : List (List JointRow)). each_joints_first l (cut 0 ce contacts)) (cut_more 0 je (length joints) joints (r ∷ []) h (omega arith))

pub contact_colours : (je ce : List ℕ) (joints : List JointRow) (contacts : List ContactRow) (r : ContactRow) → AreEnds 0 ce (length contacts) → colours_of je ce joints (contacts ++ r ∷ []) ≡ colours_of je ce joints contacts
contact_colours je ce joints contacts r h = ap (λ (l : List (List ContactRow)). each_joints_first (cut 0 je joints) l) (cut_more 0 ce (length contacts) contacts (r ∷ []) h (omega arith))

pub joint_left : (je ce : List ℕ) (joints : List JointRow) (contacts : List ContactRow) (r : JointRow) → AreEnds 0 je (length joints) → contacts_among (rows_left je ce joints contacts) ≡ []
    → rows_left je ce (joints ++ r ∷ []) contacts ≡ rows_left je ce joints contacts ++ Joint r ∷ []
joint_left je ce joints contacts r h none =
    let no_contact : left_of 0 ce contacts ≡ [] = sym (joints_first_contacts (left_of 0 je joints) (left_of 0 ce contacts)) ∙ none in
    ap (λ (l : List JointRow). joints_first l (left_of 0 ce contacts)) (left_more 0 je (length joints) joints (r ∷ []) h (omega arith)) ∙ joints_more (left_of 0 je joints) (left_of 0 ce contacts) r no_contact

pub contact_left : (je ce : List ℕ) (joints : List JointRow) (contacts : List ContactRow) (r : ContactRow) → AreEnds 0 ce (length contacts)
    → rows_left je ce joints (contacts ++ r ∷ []) ≡ rows_left je ce joints contacts ++ Contact r ∷ []
contact_left je ce joints contacts r h =
    ap (λ (l : List ContactRow). joints_first (left_of 0 je joints) l) (left_more 0 ce (length contacts) contacts (r ∷ []) h (omega arith)) ∙ contacts_more (left_of 0 je joints) (left_of 0 ce contacts) r
