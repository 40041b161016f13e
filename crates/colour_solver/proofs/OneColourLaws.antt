-- One colour that is passed over: the others are as they were.
use Rattle.std.proofs.Common.{◌≡◌, ℕ, zero, suc, ◌+◌, ◌-◌, ◌<◌, ◌≤◌, List, [], ◌∷◌, ◌++◌, length, get_or, take, drop, set, map, arith, refl, sym, ap, ap₂, ◌∙◌, subst}
use Rattle.std.specs.List.{flat_map}
use Rattle.std.proofs.lemmas.List.{append_assoc, drop-drop}
use Rattle.std.proofs.lemmas.List.Elements.{All-append, All-drop, All-take}
use Rattle.joint_rows.specs.declared.row.JointRow.{JointRow}
use Rattle.joint_rows.specs.Rows.{IsJointRow}
use Rattle.colour_solver_base.specs.declared.row.ContactRow.{ContactRow}
use Rattle.colour_solver_base.specs.Rows.{IsRow}
use Rattle.colour_solver.specs.declared.constraint_row.ConstraintRow.{ConstraintRow}
use Rattle.colour_solver.specs.declared.constraint_row.ConstraintRow.TheVariants.{Contact, Joint}
use Rattle.colour_solver.specs.RowVisits.{AreRowsOn, IsRowOn, between}
use Rattle.colour_solver.specs.ConstraintVisits.{AreRowsBelow, IsRowBelow, contact_slots, joint_slots}
use Rattle.colour_solver.specs.ColourRows.{AreEnds, colours_of, cut, each_joints_first, joints_first, last_end, left_of, rows_kept, rows_left}
use Rattle.colour_solver.proofs.ColourRowLaws.{end_high, end_low, ends_taken, ends_within, left_from}
use Rattle.colour_solver.proofs.KeptRowLaws.{as_many_cuts}
use Rattle.colour_solver.proofs.KindLaws.{contacts_on, joints_on}
use Rattle.colour_solver.proofs.RowPlaceLaws.{colour_there, cut_there}
use Rattle.colour_solver.proofs.PassedLaws.{drop_further}

-- ---- one list

take_less : {R : Type 0} (m p : ℕ) (rows now : List R) → m ≤ p → take p now ≡ take p rows → take m now ≡ take m rows
take_less zero p rows now h same = refl
take_less (suc m) zero rows now h same = absurd (omega (arith, h))
take_less (suc m) (suc p) [] [] h same = refl
take_less (suc m) (suc p) [] (x ∷ now) h same = absurd (cc same)
take_less (suc m) (suc p) (r ∷ rows) [] h same = absurd (cc same)
take_less {R} (suc m) (suc p) (r ∷ rows) (x ∷ now) h same =
    let first : x ≡ r = cc same in
    let more : take p now ≡ take p rows = cc same in
    ap (λ (y : R). y ∷ take m now) first ∙ ap (λ (l : List R). r ∷ l) (take_less m p rows now (omega (arith, h)) more)

take_behind : {R : Type 0} (m p q : ℕ) (rows now : List R) → q ≡ m + p → take q now ≡ take q rows → take p (drop m now) ≡ take p (drop m rows)
take_behind zero p q rows now far same = let way : q ≡ p = omega (arith, far) in subst (λ (k : ℕ). take k now ≡ take k rows) way same
take_behind (suc m) p zero rows now far same = absurd (omega (arith, far))
take_behind (suc m) p (suc q) [] [] far same = refl
take_behind (suc m) p (suc q) [] (x ∷ now) far same = absurd (cc same)
take_behind (suc m) p (suc q) (r ∷ rows) [] far same = absurd (cc same)
take_behind (suc m) p (suc q) (r ∷ rows) (x ∷ now) far same = let more : take q now ≡ take q rows = cc same in take_behind m p q rows now (omega (arith, far)) more

-- the pieces of a list whose piece k alone has changed
cut_set : {R : Type 0} (n k : ℕ) (ends : List ℕ) (last : ℕ) (rows now : List R) → AreEnds n ends last → k < length ends
    → take (last_end n (take k ends) - n) now ≡ take (last_end n (take k ends) - n) rows
    → drop (get_or ends k 0 - n) now ≡ drop (get_or ends k 0 - n) rows
    → cut n ends now ≡ set (cut n ends rows) k (get_or (cut n ends now) k [])
cut_set n k [] last rows now h lt front back = absurd (omega (arith, lt))
cut_set {R} n zero (e ∷ ends) last rows now h lt front back = ap (λ (l : List R). take (e - n) now ∷ cut e ends l) back
cut_set {R} n (suc k) (e ∷ ends) last rows now h lt front back =
    let s = last_end e (take k ends) in
    let f = get_or ends k 0 in
    let few : k < length ends = omega (arith, lt) in
    let low : e ≤ s = ends_within e (take k ends) s (ends_taken k e ends last h.1) in
    let high : s ≤ f = end_low k e ends last 0 h.1 few in
    let far : s - n ≡ (e - n) + (s - e) = omega (arith, h.0, low) in
    let farther : f - n ≡ (e - n) + (f - e) = omega (arith, h.0, low, high) in
    let first : take (e - n) now ≡ take (e - n) rows = take_less (e - n) (s - n) rows now (omega (arith, low)) front in
    let front_more : take (s - e) (drop (e - n) now) ≡ take (s - e) (drop (e - n) rows) = take_behind (e - n) (s - e) (s - n) rows now far front in
    let back_more : drop (f - e) (drop (e - n) now) ≡ drop (f - e) (drop (e - n) rows) =
    drop-drop (f - e) (e - n) now ∙ subst (λ (m : ℕ). drop m now ≡ drop m rows) farther back ∙ sym (drop-drop (f - e) (e - n) rows) in
    let rest = cut_set e k ends last (drop (e - n) rows) (drop (e - n) now) h.1 few front_more back_more in
    ap (λ (l : List R). l ∷ cut e ends (drop (e - n) now)) first ∙ ap (λ (l : List (List R)). take (e - n) rows ∷ l) rest

ends_whole : (n : ℕ) (ends : List ℕ) (last : ℕ) → AreEnds n ends last → AreEnds n ends (last_end n ends)
ends_whole n [] last h = omega arith
ends_whole n (e ∷ ends) last h = (h.0, ends_whole e ends last h.1)

-- what is left behind all pieces stays
left_same : {R : Type 0} (k : ℕ) (ends : List ℕ) (rows now : List R) → AreEnds 0 ends (length rows) → length now ≡ length rows → k < length ends → drop (get_or ends k 0) now ≡ drop (get_or ends k 0) rows
    → left_of 0 ends now ≡ left_of 0 ends rows
left_same {R} k ends rows now h long lt back =
    let far : get_or ends k 0 ≤ last_end 0 ends = end_high k 0 ends (last_end 0 ends) 0 (ends_whole 0 ends (length rows) h) lt in
    left_from ends (length now) now (subst (AreEnds 0 ends) (sym long) h) ∙ drop_further (get_or ends k 0) (last_end 0 ends) now rows far back ∙ sym (left_from ends (length rows) rows h)

-- ---- joints and contacts

each_set : (k : ℕ) (joints : List (List JointRow)) (contacts : List (List ContactRow)) (js : List JointRow) (cs : List ContactRow) → length joints ≡ length contacts
    → each_joints_first (set joints k js) (set contacts k cs) ≡ set (each_joints_first joints contacts) k (joints_first js cs)
each_set k [] contacts js cs h = refl
each_set k (j ∷ joints) [] js cs h = absurd (omega (arith, h))
each_set zero (j ∷ joints) (c ∷ contacts) js cs h = refl
each_set (suc k) (j ∷ joints) (c ∷ contacts) js cs h = ap (λ (l : List (List ConstraintRow)). joints_first j c ∷ l) (each_set k joints contacts js cs (omega (arith, h)))

-- the pieces of one list, of which the piece k alone has changed, between these two places
pub record IsOneColour (k : ℕ) (ends : List ℕ) {R : Type 0} (rows now : List R) (start end : ℕ) : Type 0 where
  pub ascend : AreEnds 0 ends (length rows)
  pub few : k < length ends
  pub from : start ≡ last_end 0 (take k ends)
  pub to : end ≡ get_or ends k 0
  pub long : length now ≡ length rows
  pub before : take start now ≡ take start rows
  pub behind : drop end now ≡ drop end rows

piece_set : {R : Type 0} (k : ℕ) (ends : List ℕ) (rows now : List R) (start end : ℕ) → IsOneColour k ends rows now start end → cut 0 ends now ≡ set (cut 0 ends rows) k (get_or (cut 0 ends now) k [])
piece_set k ends rows now start end is =
    let s : start ≡ last_end 0 (take k ends) - 0 = omega (arith, is.from) in
    let e : end ≡ get_or ends k 0 - 0 = omega (arith, is.to) in
    cut_set 0 k ends (length rows) rows now is.ascend is.few (subst (λ (m : ℕ). take m now ≡ take m rows) s is.before) (subst (λ (m : ℕ). drop m now ≡ drop m rows) e is.behind)

piece_left : {R : Type 0} (k : ℕ) (ends : List ℕ) (rows now : List R) (start end : ℕ) → IsOneColour k ends rows now start end → left_of 0 ends now ≡ left_of 0 ends rows
piece_left k ends rows now start end is = left_same k ends rows now is.ascend is.long is.few (subst (λ (m : ℕ). drop m now ≡ drop m rows) is.to is.behind)

-- of the colours the colour k alone has changed
pub colours_set : (k : ℕ) (je ce : List ℕ) (joints js : List JointRow) (contacts cs : List ContactRow) (a b p q : ℕ) → length je ≡ length ce → IsOneColour k je joints js a p → IsOneColour k ce contacts cs b q
    → colours_of je ce js cs ≡ set (colours_of je ce joints contacts) k (get_or (colours_of je ce js cs) k [])
colours_set k je ce joints js contacts cs a b p q same first second =
    let x = get_or (cut 0 je js) k [] in
    let y = get_or (cut 0 ce cs) k [] in
    ap (λ (l : List (List JointRow)). each_joints_first l (cut 0 ce cs)) (piece_set k je joints js a p first)
    ∙ ap (λ (l : List (List ContactRow)). each_joints_first (set (cut 0 je joints) k x) l) (piece_set k ce contacts cs b q second)
    ∙ each_set k (cut 0 je joints) (cut 0 ce contacts) x y (as_many_cuts 0 0 je ce joints contacts same)
    ∙ ap (set (colours_of je ce joints contacts) k) (sym (colour_there je ce js cs k same))

piece_was : {R : Type 0} (k : ℕ) (ends : List ℕ) (rows now : List R) (start end : ℕ) → IsOneColour k ends rows now start end → get_or (cut 0 ends rows) k [] ≡ between start end rows
piece_was k ends rows now start end is = cut_there ends rows k is.ascend is.few ∙ ap₂ (λ (n e : ℕ). between n e rows) (sym is.from) (sym is.to)

piece_is : {R : Type 0} (k : ℕ) (ends : List ℕ) (rows now : List R) (start end : ℕ) → IsOneColour k ends rows now start end → get_or (cut 0 ends now) k [] ≡ between start end now
piece_is k ends rows now start end is = cut_there ends now k (subst (AreEnds 0 ends) (sym is.long) is.ascend) is.few ∙ ap₂ (λ (n e : ℕ). between n e now) (sym is.from) (sym is.to)

-- its rows before the pass, and after it
pub colour_was : (k : ℕ) (je ce : List ℕ) (joints js : List JointRow) (contacts cs : List ContactRow) (a b p q : ℕ) → length je ≡ length ce → IsOneColour k je joints js a p → IsOneColour k ce contacts cs b q
    → get_or (colours_of je ce joints contacts) k [] ≡ joints_first (between a p joints) (between b q contacts)
colour_was k je ce joints js contacts cs a b p q same first second =
    colour_there je ce joints contacts k same ∙ ap₂ joints_first (piece_was k je joints js a p first) (piece_was k ce contacts cs b q second)

pub colour_is : (k : ℕ) (je ce : List ℕ) (joints js : List JointRow) (contacts cs : List ContactRow) (a b p q : ℕ) → length je ≡ length ce → IsOneColour k je joints js a p → IsOneColour k ce contacts cs b q
    → get_or (colours_of je ce js cs) k [] ≡ joints_first (between a p js) (between b q cs)
colour_is k je ce joints js contacts cs a b p q same first second =
    colour_there je ce js cs k same ∙ ap₂ joints_first (piece_is k je joints js a p first) (piece_is k ce contacts cs b q second)

-- and the rows that have no colour stay
pub left_kept : (k : ℕ) (je ce : List ℕ) (joints js : List JointRow) (contacts cs : List ContactRow) (a b p q : ℕ) → IsOneColour k je joints js a p → IsOneColour k ce contacts cs b q → rows_left je ce js cs ≡ rows_left je ce joints contacts
left_kept k je ce joints js contacts cs a b p q first second =
    ap (λ (l : List JointRow). joints_first l (left_of 0 ce cs)) (piece_left k je joints js a p first) ∙ ap (λ (l : List ContactRow). joints_first (left_of 0 je joints) l) (piece_left k ce contacts cs b q second)

-- ---- what holds of all joints and of all contacts holds of the rows

both_below : (n : ℕ) (joints : List JointRow) (contacts : List ContactRow) → AreRowsOn joint_slots IsJointRow n joints → AreRowsOn contact_slots IsRow n contacts → AreRowsBelow n (joints_first joints contacts)
both_below n joints contacts js cs = All-append (IsRowBelow n) (map Joint joints) (map Contact contacts) (joints_on n joints js) (contacts_on n contacts cs)

cut_below : (n a b : ℕ) (je ce : List ℕ) (joints : List JointRow) (contacts : List ContactRow) → length je ≡ length ce → AreRowsOn joint_slots IsJointRow n joints → AreRowsOn contact_slots IsRow n contacts
    → AreRowsBelow n (flat_map (λ (rs : List ConstraintRow). rs) (each_joints_first (cut a je joints) (cut b ce contacts)) ++ joints_first (left_of a je joints) (left_of b ce contacts))
cut_below n a b [] [] joints contacts same js cs = both_below n joints contacts js cs
cut_below n a b [] (f ∷ ce) joints contacts same js cs = absurd (omega (arith, same))
cut_below n a b (e ∷ je) [] joints contacts same js cs = absurd (omega (arith, same))
cut_below n a b (e ∷ je) (f ∷ ce) joints contacts same js cs =
    let here : List ConstraintRow = joints_first (take (e - a) joints) (take (f - b) contacts) in
    let rest : List ConstraintRow = flat_map (λ (rs : List ConstraintRow). rs) (each_joints_first (cut e je (drop (e - a) joints)) (cut f ce (drop (f - b) contacts))) in
    let left : List ConstraintRow = joints_first (left_of e je (drop (e - a) joints)) (left_of f ce (drop (f - b) contacts)) in
    subst (AreRowsBelow n) (sym (append_assoc here rest left))
    (All-append (IsRowBelow n) here (rest ++ left) (both_below n (take (e - a) joints) (take (f - b) contacts) (All-take (IsRowOn joint_slots IsJointRow n) (e - a) joints js) (All-take (IsRowOn contact_slots IsRow n) (f - b) contacts cs))
    (cut_below n e f je ce (drop (e - a) joints) (drop (f - b) contacts) (omega (arith, same)) (All-drop (IsRowOn joint_slots IsJointRow n) (e - a) joints js) (All-drop (IsRowOn contact_slots IsRow n) (f - b) contacts cs)))

pub kept_below : (n : ℕ) (je ce : List ℕ) (joints : List JointRow) (contacts : List ContactRow) → length je ≡ length ce → AreRowsOn joint_slots IsJointRow n joints → AreRowsOn contact_slots IsRow n contacts → AreRowsBelow n (rows_kept je ce joints contacts)
kept_below n je ce joints contacts same js cs = cut_below n 0 0 je ce joints contacts same js cs
