-- Trusted: the rows of a step by colour: one list of joints and one of contacts, and where each colour ends in them.
use Rattle.std.specs.Prelude.{ℕ, ◌-◌, ◌≤◌, List, [], ◌∷◌, ◌++◌, take, drop, map}
use Rattle.std.specs.List.{flat_map}
use Rattle.joint_rows.specs.declared.row.JointRow.{JointRow}
use Rattle.colour_solver_base.specs.declared.row.ContactRow.{ContactRow}
use Rattle.colour_solver.specs.declared.constraint_row.ConstraintRow.{ConstraintRow}
use Rattle.colour_solver.specs.declared.constraint_row.ConstraintRow.TheVariants.{Joint, Contact}

-- what contracts see: the rows of each colour, those of the colour that hasn't ended yet, and for how many more rows
-- and colours there is room
pub record ColourRows (R : Type 0) : Type 0 where
  pub colours : List (List R)
  pub left : List R
  pub room : ℕ
  pub more : ℕ

-- the rows in solve order: colour after colour
abbrev pub all_rows : {R : Type 0} → ColourRows R → List R
all_rows r = flat_map (λ rs. rs) r.colours ++ r.left

-- ---- how they are kept

-- the list cut where the colours end; its first row has the number n
abbrev pub cut : {R : Type 0} → ℕ → List ℕ → List R → List (List R)
cut n [] rows = []
cut n (e ∷ ends) rows = take (e - n) rows ∷ cut e ends (drop (e - n) rows)

-- what is left behind the last end
abbrev pub left_of : {R : Type 0} → ℕ → List ℕ → List R → List R
left_of n [] rows = rows
left_of n (e ∷ ends) rows = left_of e ends (drop (e - n) rows)

-- the ends ascend from n, and none is beyond the last
abbrev pub AreEnds : ℕ → List ℕ → ℕ → Type 0
AreEnds n [] last = n ≤ last
AreEnds n (e ∷ ends) last = (n ≤ e) × AreEnds e ends last

-- where the last of the colours ends
abbrev pub last_end : ℕ → List ℕ → ℕ
last_end n [] = n
last_end n (e ∷ ends) = last_end e ends

-- joints, and then contacts
abbrev pub joints_first : List JointRow → List ContactRow → List ConstraintRow
joints_first joints contacts = map Joint joints ++ map Contact contacts

-- the same of each colour
abbrev pub each_joints_first : List (List JointRow) → List (List ContactRow) → List (List ConstraintRow)
each_joints_first [] contacts = []
each_joints_first (js ∷ joints) [] = []
each_joints_first (js ∷ joints) (cs ∷ contacts) = joints_first js cs ∷ each_joints_first joints contacts

-- the rows of the colours that have ended, the joints of each ending at the one list of numbers, the contacts at the
-- other
abbrev pub colours_of : List ℕ → List ℕ → List JointRow → List ContactRow → List (List ConstraintRow)
colours_of joint_ends contact_ends joints contacts = each_joints_first (cut 0 joint_ends joints) (cut 0 contact_ends contacts)

-- those of the colour that hasn't
abbrev pub rows_left : List ℕ → List ℕ → List JointRow → List ContactRow → List ConstraintRow
rows_left joint_ends contact_ends joints contacts = joints_first (left_of 0 joint_ends joints) (left_of 0 contact_ends contacts)

-- all of them, in solve order
abbrev pub rows_kept : List ℕ → List ℕ → List JointRow → List ContactRow → List ConstraintRow
rows_kept joint_ends contact_ends joints contacts = flat_map (λ rs. rs) (colours_of joint_ends contact_ends joints contacts) ++ rows_left joint_ends contact_ends joints contacts
