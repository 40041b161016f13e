-- The rows of one colour.
use Rattle.std.proofs.Common.{◌≡◌, ℕ, zero, suc, ◌+◌, ◌-◌, ◌<◌, ◌≤◌, List, [], ◌∷◌, length, get_or, take, drop, arith, refl, sym, ap, ap₂, ◌∙◌}
use Rattle.std.proofs.lemmas.List.{drop-drop}
use Rattle.joint_rows.specs.declared.row.JointRow.{JointRow}
use Rattle.colour_solver_base.specs.declared.row.ContactRow.{ContactRow}
use Rattle.colour_solver.specs.declared.constraint_row.ConstraintRow.{ConstraintRow}
use Rattle.colour_solver.specs.RowVisits.{between}
use Rattle.colour_solver.specs.ConstraintVisits.{contacts_among, joints_among}
use Rattle.colour_solver.specs.ColourRows.{AreEnds, colours_of, cut, each_joints_first, joints_first, last_end, left_of, rows_left}
use Rattle.colour_solver.proofs.ColourRowLaws.{cut_count, ends_taken, last_low}
use Rattle.colour_solver.proofs.KindLaws.{joints_first_contacts, joints_first_joints}
use Rattle.colour_solver.proofs.KeptRowLaws.{as_many_cuts}

-- ---- the rows of one colour

each_at : (joints : List (List JointRow)) (contacts : List (List ContactRow)) (k : ℕ) → length joints ≡ length contacts → get_or (each_joints_first joints contacts) k [] ≡ joints_first (get_or joints k []) (get_or contacts k [])
each_at [] [] k h = refl
each_at [] (y ∷ contacts) k h = absurd (cc h)
each_at (x ∷ joints) [] k h = absurd (cc h)
each_at (x ∷ joints) (y ∷ contacts) zero h = refl
each_at (x ∷ joints) (y ∷ contacts) (suc k) h = each_at joints contacts k (omega (arith, h))

-- from where the one before it ends
cut_at : {R : Type 0} (n : ℕ) (ends : List ℕ) (last : ℕ) (rows : List R) (k : ℕ) → AreEnds n ends last → k < length ends → get_or (cut n ends rows) k [] ≡ take (get_or ends k 0 - last_end n (take k ends)) (drop (last_end n (take k ends) - n) rows)
cut_at n [] last rows k h lt = absurd (omega (arith, lt))
cut_at {R} n (e ∷ ends) last rows zero h lt = let none : 0 ≡ n - n = omega arith in ap (λ (i : ℕ). take (e - n) (drop i rows)) none
cut_at {R} n (e ∷ ends) last rows (suc k) h lt =
    let s = last_end e (take k ends) in
    let low : e ≤ s = last_low e (take k ends) s (ends_taken k e ends last h.1) in
    let way : (e - n) + (s - e) ≡ s - n = omega (arith, h.0, low) in
    cut_at e ends last (drop (e - n) rows) k h.1 (omega (arith, lt))
    ∙ ap (λ (l : List R). take (get_or ends k 0 - s) l) (drop-drop (s - e) (e - n) rows ∙ ap (λ (i : ℕ). drop i rows) way)

pub cut_there : {R : Type 0} (ends : List ℕ) (rows : List R) (k : ℕ) → AreEnds 0 ends (length rows) → k < length ends → get_or (cut 0 ends rows) k [] ≡ between (last_end 0 (take k ends)) (get_or ends k 0) rows
cut_there {R} ends rows k h lt =
    let from : last_end 0 (take k ends) - 0 ≡ last_end 0 (take k ends) = omega arith in
    cut_at 0 ends (length rows) rows k h lt ∙ ap (λ (i : ℕ). take (get_or ends k 0 - last_end 0 (take k ends)) (drop i rows)) from

pub colour_there : (je ce : List ℕ) (joints : List JointRow) (contacts : List ContactRow) (k : ℕ) → length je ≡ length ce → get_or (colours_of je ce joints contacts) k [] ≡ joints_first (get_or (cut 0 je joints) k []) (get_or (cut 0 ce contacts) k [])
colour_there je ce joints contacts k same = each_at (cut 0 je joints) (cut 0 ce contacts) k (as_many_cuts 0 0 je ce joints contacts same)

each_count : (joints : List (List JointRow)) (contacts : List (List ContactRow)) → length joints ≡ length contacts → length (each_joints_first joints contacts) ≡ length joints
each_count [] [] h = refl
each_count [] (y ∷ contacts) h = absurd (cc h)
each_count (x ∷ joints) [] h = absurd (cc h)
each_count (x ∷ joints) (y ∷ contacts) h = ap suc (each_count joints contacts (omega (arith, h)))

pub colours_count : (je ce : List ℕ) (joints : List JointRow) (contacts : List ContactRow) → length je ≡ length ce → length (colours_of je ce joints contacts) ≡ length je
colours_count je ce joints contacts same = each_count (cut 0 je joints) (cut 0 ce contacts) (as_many_cuts 0 0 je ce joints contacts same) ∙ cut_count 0 je joints

-- the joints of a colour, its contacts, and both in order
pub colour_joints : (je ce : List ℕ) (joints found : List JointRow) (contacts : List ContactRow) (k : ℕ) → length je ≡ length ce → found ≡ get_or (cut 0 je joints) k [] → found ≡ joints_among (get_or (colours_of je ce joints contacts) k [])
colour_joints je ce joints found contacts k same is =
    is ∙ sym (ap joints_among (colour_there je ce joints contacts k same) ∙ joints_first_joints (get_or (cut 0 je joints) k []) (get_or (cut 0 ce contacts) k []))

pub colour_contacts : (je ce : List ℕ) (joints : List JointRow) (contacts found : List ContactRow) (k : ℕ) → length je ≡ length ce → found ≡ get_or (cut 0 ce contacts) k [] → found ≡ contacts_among (get_or (colours_of je ce joints contacts) k [])
colour_contacts je ce joints contacts found k same is =
    is ∙ sym (ap contacts_among (colour_there je ce joints contacts k same) ∙ joints_first_contacts (get_or (cut 0 je joints) k []) (get_or (cut 0 ce contacts) k []))

in_order : (joints found : List JointRow) (contacts : List ContactRow) (rows : List ConstraintRow) → found ≡ joints → rows ≡ joints_first joints contacts → joints_first found (contacts_among rows) ≡ rows
in_order joints found contacts rows is are = ap₂ (λ (l : List JointRow) (m : List ContactRow). joints_first l m) is (ap contacts_among are ∙ joints_first_contacts joints contacts) ∙ sym are

pub colour_order : (je ce : List ℕ) (joints found : List JointRow) (contacts : List ContactRow) (k : ℕ) → length je ≡ length ce → found ≡ get_or (cut 0 je joints) k []
    → joints_first found (contacts_among (get_or (colours_of je ce joints contacts) k [])) ≡ get_or (colours_of je ce joints contacts) k []
colour_order je ce joints found contacts k same is =
    in_order (get_or (cut 0 je joints) k []) found (get_or (cut 0 ce contacts) k []) (get_or (colours_of je ce joints contacts) k []) is (colour_there je ce joints contacts k same)

-- the same of the rows that have no colour
pub left_joints : (je ce : List ℕ) (joints found : List JointRow) (contacts : List ContactRow) → found ≡ left_of 0 je joints → found ≡ joints_among (rows_left je ce joints contacts)
left_joints je ce joints found contacts is = is ∙ sym (joints_first_joints (left_of 0 je joints) (left_of 0 ce contacts))

pub left_contacts : (je ce : List ℕ) (joints : List JointRow) (contacts found : List ContactRow) → found ≡ left_of 0 ce contacts → found ≡ contacts_among (rows_left je ce joints contacts)
left_contacts je ce joints contacts found is = is ∙ sym (joints_first_contacts (left_of 0 je joints) (left_of 0 ce contacts))

pub left_order : (je ce : List ℕ) (joints found : List JointRow) (contacts : List ContactRow) → found ≡ left_of 0 je joints → joints_first found (contacts_among (rows_left je ce joints contacts)) ≡ rows_left je ce joints contacts
left_order je ce joints found contacts is = in_order (left_of 0 je joints) found (left_of 0 ce contacts) (rows_left je ce joints contacts) is refl
