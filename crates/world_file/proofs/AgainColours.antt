-- The colours that are written of a world are those that it has.
use Rattle.std.proofs.Common.{◌≡◌, ◌≢◌, ℕ, zero, suc, ◌+◌, ◌^◌, ◌<◌, ◌≤◌, ◌==◌, ◌||◌, ◌++◌, Bool, true, false, not, cond, List, [], ◌∷◌, length, map, take, Option, Some, None, is_some, is_none, All, count_by, get_or, inl, inr, refl, sym, ap, ◌∙◌, subst, arith, eq-eqb, take-suc}
use Rattle.std.specs.List.{flat_map, list_all, list_any, position_or_len}
use Rattle.std.proofs.lemmas.Bool.{cases_eq, false≢true}
use Rattle.std.proofs.lemmas.Bool.Decides.{nat_tests}
use Rattle.std.proofs.lemmas.List.Folds.{list_any_none}
use Rattle.std.proofs.lemmas.List.{length-map}
use Rattle.std.proofs.lemmas.List.Elements.{All-head, All-tail}
use Rattle.std.proofs.lemmas.List.Quantifiers.{position-Some}
use Rattle.std.proofs.lemmas.List.Sums.{sum_by-append, sum_by-cons}
use Rattle.std.proofs.lemmas.Option.{none-some}
use Rattle.body_handles.specs.declared.slot_table.SlotEntry.{SlotEntry}
use Rattle.contacts_base.proofs.Members.{Each, IsIn, each_append, each_in, in_append, in_from_contains, in_left, in_right}
use Rattle.plain_world.specs.Constraints.{constraint_number}
use Rattle.plain_world.specs.declared.constraint.Constraint.{Constraint}
use Rattle.plain_world.specs.declared.constraint.Constraint.TheVariants.{Joint, Contact}
use Rattle.contacts_base.specs.Contacts.{AreKeysRising, number_of}
use Rattle.contacts_base.specs.Evaluate.{touches}
use Rattle.contacts_base.specs.declared.contact.ContactEntry.{ContactEntry}
use Rattle.graph_colours.specs.FoundMembers.{colour_of, has_id}
use Rattle.graph_colours.specs.Colours.{IsColouring, all_members, ids_of, list_at}
use Rattle.graph_colours.specs.Members.{AreApart, is_free}
use Rattle.graph_colours.specs.Movers.{shares}
use Rattle.graph_colours.specs.declared.limits.TheConstants.{COLOURS}
use Rattle.graph_colours.specs.declared.member.Member.{Member}
use Rattle.graph_colours.specs.declared.member.Movers.{Movers}
use Rattle.graph_colours.proofs.ListLemmas.{pairs_head, pairs_tail}
use Rattle.graph_colours.proofs.MoverLemmas.{shares_back}
use Rattle.graph_colours.proofs.SearchLemmas.{found_in_map, none_passes}
use Rattle.islands.specs.Labels.{Labels, label_at}
use Rattle.islands.specs.Partition.{AreTogether}
use Rattle.islands.specs.declared.label.Label.{Label}
use Rattle.plain_world.specs.Plain as plain
use Rattle.plain_world.specs.Plain.{has_constraint}
use Rattle.plain_world.specs.declared.body.Body.{Body}
use Rattle.plain_world.specs.declared.joint.BodyJoint.{BodyJoint}
use Rattle.world_file_base.specs.declared.saved.Membership.{Membership}
use Rattle.sleep_wake.specs.Acting.{AreMovers, are_awake, awake_label, is_mover_awake}
use Rattle.sleep_wake.proofs.AwakeLemmas.{all_awake, awake_first}
use Rattle.sleep_wake.proofs.ListLemmas.{absent_from}
use Rattle.solver_sets.specs.Alike.{AreJointSlots}
use Rattle.solver_sets.specs.Ties as sets
use Rattle.solver_sets.specs.Ties.{Bond, JointSlots, bonds_of, contact_bond, contact_movers, joint_bond, joint_bonds, joint_bonds_from, joint_movers, tie_with, touching_keys}
use Rattle.solver_sets.proofs.BondLaws.{bond_number, bonds_rise, in_bonds, joint_below, rises_from_keys}
use Rattle.solver_sets.proofs.ListLaws.{Rises, in_mapped, mapped_in, only_one, pairs_from_rises, same_members}
use Rattle.solver_sets.proofs.TieLaws.{in_ties, tie_is, tie_number}
use Rattle.world_file.specs.Fitting.{share_no_mover, are_joints_colourless, coloured, colours_below, contact_listed, ids_below, is_coloured_well, is_colourless, is_contact_colourless, is_same_truth, joint_ties, tie_if_any, members_among, membership_at, tie_read}
use Rattle.world_file.specs.declared.ties.Tie.{Tie}
use Rattle.world_file.specs.Again.{membership_of, saved_contact, saved_joints}
use Rattle.world_file.proofs.AgainIslands.{said_at, truth_same}
use Rattle.world_file.proofs.AgainParts.{both_hold, either_holds as first_holds, second_holds as later_holds}
use Rattle.world_file.proofs.SavedColours.{awake_by, bit, coloured_in, coloured_rise, ids_are, in_coloured}
use Rattle.world_file.proofs.Tests.{either_true, equal_n}

-- ---- a constraint's colour by the members of the colours

any_id : (c : Constraint) (ms : List (Member Constraint)) → list_any (λ (m : Member Constraint). constraint_number m.id == constraint_number c) ms ≡ has_constraint c (map (λ (m : Member Constraint). m.id) ms)
any_id c [] = refl
any_id c (m ∷ ms) = ap (λ (rest : Bool). (constraint_number m.id == constraint_number c) || rest) (any_id c ms)

id_there : (c : Constraint) (ms : List (Member Constraint)) → has_id constraint_number c ms ≡ has_constraint c (map (λ (m : Member Constraint). m.id) ms)
unfolding has_id
id_there c ms = any_id c ms

colour_by_ids : (c : Constraint) (lists : List (List (Member Constraint))) → colour_of constraint_number c lists ≡ plain.colour_of c (ids_of lists)
unfolding colour_of plain.colour_of
colour_by_ids c lists =
    let ids : List (Member Constraint) → List Constraint = map (λ (m : Member Constraint). m.id) in
    let same : position_or_len (has_constraint c) (map ids lists) ≡ position_or_len (has_id constraint_number c) lists = found_in_map ids (has_constraint c) (has_id constraint_number c) lists (λ ms. sym (id_there c ms)) in
    rw (same, length-map lists ids) refl

-- ---- members of lists

any_true : {X : Type 0} (p : X → Bool) (xs : List X) → list_any p xs ≡ true → (x : X) × IsIn x xs × (p x ≡ true)
any_true p [] h = absurd (false≢true h)
any_true p (x ∷ xs) h = elim (either_true (p x) (list_any p xs) h) [
  | inl e ↦ (x, inl refl, e)
  | inr e ↦ (let o = any_true p xs e in (o.0, inr o.1, o.2))
]

any_in : {X : Type 0} (p : X → Bool) (x : X) (xs : List X) → IsIn x xs → p x ≡ true → list_any p xs ≡ true
any_in p x [] i h = absurd i
any_in p x (y ∷ ys) i h = elim i [
  | inl e ↦ first_holds (p y) (list_any p ys) (ap p (sym e) ∙ h)
  | inr j ↦ later_holds (p y) (list_any p ys) (any_in p x ys j h)
]

in_all_at : (ls : List (List (Member Constraint))) (k : ℕ) (x : Member Constraint) → IsIn x (list_at ls k) → IsIn x (all_members ls)
in_all_at [] k x i = absurd i
in_all_at (l ∷ ls) zero x i = in_left x l (all_members ls) i
in_all_at (l ∷ ls) (suc k) x i = in_right x l (all_members ls) (in_all_at ls k x i)

record IsAt (ls : List (List (Member Constraint))) (x : Member Constraint) : Type 0 where
  place : ℕ
  there : IsIn x (list_at ls place)

at_of_all : (ls : List (List (Member Constraint))) (x : Member Constraint) → IsIn x (all_members ls) → IsAt ls x
at_of_all [] x i = absurd i
at_of_all (l ∷ ls) x i = elim (in_append x l (all_members ls) i) [
  | inl j ↦ record { place = 0; there = j }
  | inr j ↦ (let o = at_of_all ls x j in record { place = suc o.place; there = o.there })
]

at_short : (ls : List (List (Member Constraint))) (k : ℕ) (x : Member Constraint) → IsIn x (list_at ls k) → k < length ls
at_short [] k x i = absurd i
at_short (l ∷ ls) zero x i = omega arith
at_short (l ∷ ls) (suc k) x i = let rest = at_short ls k x i in omega (arith, rest)

abbrev times : ℕ → List (Member Constraint) → ℕ
times n ms = count_by (λ (m : Member Constraint). constraint_number m.id == n) ms

in_counts : (n : ℕ) (ms : List (Member Constraint)) (x : Member Constraint) → IsIn x ms → tie_number x ≡ n → 1 ≤ times n ms
in_counts n [] x i e = absurd i
in_counts n (m ∷ ms) x i e =
    let put = sum_by-cons (λ (v : Member Constraint). cond (constraint_number v.id == n) 1 0) m ms in
    elim i [
      | inl s ↦ (let same : tie_number m ≡ n = ap tie_number (sym s) ∙ e in let one : bit (constraint_number m.id == n) ≡ 1 = grind (arith, nat_tests) in omega (arith, put, one))
      | inr j ↦ (let rest = in_counts n ms x j e in omega (arith, put, rest))
    ]

all_counts : (n : ℕ) (l : List (Member Constraint)) (ls : List (List (Member Constraint))) → times n (all_members (l ∷ ls)) ≡ times n l + times n (all_members ls)
all_counts n l ls = sum_by-append (λ (v : Member Constraint). cond (constraint_number v.id == n) 1 0) l (all_members ls)

-- a number in two lists stands twice
two_lists : (n : ℕ) (ls : List (List (Member Constraint))) (j k : ℕ) (x y : Member Constraint) → j ≢ k → IsIn x (list_at ls j) → IsIn y (list_at ls k) → tie_number x ≡ n → tie_number y ≡ n → 2 ≤ times n (all_members ls)
two_lists n [] j k x y d i h e f = absurd i
two_lists n (l ∷ ls) zero zero x y d i h e f = absurd (d refl)
two_lists n (l ∷ ls) zero (suc k) x y d i h e f =
    let all = all_counts n l ls in
    let a = in_counts n l x i e in
    let b = in_counts n (all_members ls) y (in_all_at ls k y h) f in
    omega (arith, all, a, b)
two_lists n (l ∷ ls) (suc j) zero x y d i h e f =
    let all = all_counts n l ls in
    let a = in_counts n l y h f in
    let b = in_counts n (all_members ls) x (in_all_at ls j x i) e in
    omega (arith, all, a, b)
two_lists n (l ∷ ls) (suc j) (suc k) x y d i h e f =
    let all = all_counts n l ls in
    let rest = two_lists n ls j k x y (λ s. d (ap (λ v. suc v) s)) i h e f in
    omega (arith, all, rest)

-- ---- what is given of ties, of the members of the colours, and of their names

pub record AreGiven (ties : List Tie) (lists : List (List (Member Constraint))) (colours : List (List Constraint)) : Type 0 where
  pub named : (t : Tie) → IsIn t ties → t.colour ≡ plain.colour_of t.member.id colours
  pub ids : ids_of lists ≡ colours
  pub colouring : IsColouring constraint_number lists
  pub rises : Rises tie_number (members_among ties)
  pub there : (m : Member Constraint) → IsIn m (all_members lists) → IsIn m (members_among ties)

colour_in : (ties : List Tie) (lists : List (List (Member Constraint))) (colours : List (List Constraint)) → AreGiven ties lists colours → (t : Tie) → IsIn t ties → t.colour ≡ colour_of constraint_number t.member.id lists
colour_in ties lists colours g t i = g.named t i ∙ ap (λ (ids : List (List Constraint)). plain.colour_of t.member.id ids) (sym g.ids) ∙ sym (colour_by_ids t.member.id lists)

has_there : (id : Constraint) (ms : List (Member Constraint)) → has_id constraint_number id ms ≡ true → (y : Member Constraint) × IsIn y ms × (constraint_number y.id ≡ constraint_number id)
unfolding has_id
has_there id ms h = let o = any_true (λ (m : Member Constraint). constraint_number m.id == constraint_number id) ms h in (o.0, o.1, equal_n (constraint_number o.0.id) (constraint_number id) o.2)

there_has : (id : Constraint) (x : Member Constraint) (ms : List (Member Constraint)) → IsIn x ms → constraint_number x.id ≡ constraint_number id → has_id constraint_number id ms ≡ true
unfolding has_id
there_has id x ms i e = any_in (λ (m : Member Constraint). constraint_number m.id == constraint_number id) x ms i (eq-eqb (constraint_number x.id) (constraint_number id) e)

found_at : (id : Constraint) (lists : List (List (Member Constraint))) (k : ℕ) → colour_of constraint_number id lists ≡ Some k → (k < length lists) × (has_id constraint_number id (list_at lists k) ≡ true)
unfolding colour_of
found_at id lists k e = let o = position-Some (has_id constraint_number id) lists k [] e in (o.0, o.1)

missed_at : (id : Constraint) (lists : List (List (Member Constraint))) (k : ℕ) → colour_of constraint_number id lists ≡ None → k < length lists → has_id constraint_number id (list_at lists k) ≡ false
unfolding colour_of
missed_at id lists k e lt = none_passes (has_id constraint_number id) lists e k [] lt

member_there : (ties : List Tie) (t : Tie) → IsIn t ties → IsIn t.member (members_among ties)
member_there ties t i = mapped_in (λ (x : Tie). x.member) ties t i

-- a tie with a colour is a member of it
pub in_its_colour : (ties : List Tie) (lists : List (List (Member Constraint))) (colours : List (List Constraint)) → AreGiven ties lists colours → (t : Tie) → IsIn t ties → (k : ℕ) → t.colour ≡ Some k → (k < length lists) × IsIn t.member (list_at lists k)
in_its_colour ties lists colours g t i k e =
    let o = found_at t.member.id lists k (sym (colour_in ties lists colours g t i) ∙ e) in
    let p = has_there t.member.id (list_at lists k) o.1 in
    let same : p.0 ≡ t.member = only_one tie_number (members_among ties) p.0 t.member g.rises (g.there p.0 (in_all_at lists k p.0 p.1)) (member_there ties t i) p.2 in
    (o.0, subst (λ (m : Member Constraint). IsIn m (list_at lists k)) same p.1)

by_colour : (ties : List Tie) (lists : List (List (Member Constraint))) (colours : List (List Constraint)) → AreGiven ties lists colours → (t : Tie) → IsIn t ties → (k : ℕ) → IsIn t.member (list_at lists k) → (o : Option ℕ) → t.colour ≡ o → t.colour ≡ Some k
by_colour ties lists colours g t i k h None e =
    let missed = missed_at t.member.id lists k (sym (colour_in ties lists colours g t i) ∙ e) (at_short lists k t.member h) in
    absurd (false≢true (sym missed ∙ there_has t.member.id t.member (list_at lists k) h refl))
by_colour ties lists colours g t i k h (Some j) e = elim (cases_eq j k) [
  | inl same ↦ e ∙ ap (λ (n : ℕ). Some n) same
  | inr apart ↦ (
      let twice = two_lists (tie_number t.member) lists j k t.member t.member apart (in_its_colour ties lists colours g t i j e).1 h refl refl in
      let once = g.colouring.once (tie_number t.member) in
      absurd (omega (arith, twice, once)))
]

-- and a member's tie has that colour
pub colour_is : (ties : List Tie) (lists : List (List (Member Constraint))) (colours : List (List Constraint)) → AreGiven ties lists colours → (t : Tie) → IsIn t ties → (k : ℕ) → IsIn t.member (list_at lists k) → t.colour ≡ Some k
colour_is ties lists colours g t i k h = by_colour ties lists colours g t i k h t.colour refl

-- ---- the lists are those of the ties

coloured_same : (ties : List Tie) (lists : List (List (Member Constraint))) (colours : List (List Constraint)) → AreGiven ties lists colours → (k : ℕ) → k < length lists → coloured ties k ≡ list_at lists k
coloured_same ties lists colours g k lt = same_members constraint_number (coloured ties k) (list_at lists k)
    (pairs_from_rises tie_number (coloured ties k) (coloured_rise ties k g.rises))
    (g.colouring.rising k [] lt)
    (λ m i. let o = in_coloured ties k m i in subst (λ (v : Member Constraint). IsIn v (list_at lists k)) o.2 (in_its_colour ties lists colours g o.0 o.1 k o.3).1)
    (λ m i.
    let o = in_mapped (λ (t : Tie). t.member) ties m (g.there m (in_all_at lists k m i)) in
    let here : IsIn o.of.member (list_at lists k) = subst (λ (v : Member Constraint). IsIn v (list_at lists k)) o.is i in
    subst (λ (v : Member Constraint). IsIn v (coloured ties k)) (sym o.is) (coloured_in ties k o.of o.there (colour_is ties lists colours g o.of o.there k here)))

colours_same : (ties : List Tie) (lists : List (List (Member Constraint))) (colours : List (List Constraint)) → AreGiven ties lists colours → (n : ℕ) → n ≤ length lists → colours_below ties n ≡ take n lists
colours_same ties lists colours g zero h = refl
colours_same ties lists colours g (suc n) h =
    ap (λ (ls : List (List (Member Constraint))). ls ++ coloured ties n ∷ []) (colours_same ties lists colours g n (omega (arith, h)))
    ∙ ap (λ (l : List (Member Constraint)). take n lists ++ l ∷ []) (coloured_same ties lists colours g n h)
    ∙ sym (take-suc lists n [] h)

take_whole : {X : Type 0} (n : ℕ) (xs : List X) → length xs ≡ n → take n xs ≡ xs
take_whole zero [] e = refl
take_whole zero (x ∷ xs) e = absurd (omega arith)
take_whole (suc n) [] e = absurd (omega arith)
take_whole (suc n) (x ∷ xs) e = ap (λ l. x ∷ l) (take_whole n xs (omega arith))

all_same : (ties : List Tie) (lists : List (List (Member Constraint))) (colours : List (List Constraint)) → AreGiven ties lists colours → (n : ℕ) → length lists ≡ n → colours_below ties n ≡ lists
all_same ties lists colours g n e = colours_same ties lists colours g n (omega (arith, e)) ∙ take_whole n lists e

pub colours_again : (ties : List Tie) (lists : List (List (Member Constraint))) (colours : List (List Constraint)) → AreGiven ties lists colours → ids_below ties (COLOURS + 1) ≡ colours
colours_again ties lists colours g = sym (ids_are ties (COLOURS + 1)) ∙ ap (λ (ls : List (List (Member Constraint))). ids_of ls) (all_same ties lists colours g (COLOURS + 1) g.colouring.count) ∙ g.ids

-- ---- no two of one colour share a mover

free_of : (ms : List (Member Constraint)) (movers : Movers) → All (λ (x : Member Constraint). shares movers x.movers ≡ false) ms → is_free ms movers ≡ true
unfolding is_free
free_of ms movers h = ap (λ (b : Bool). not b) (list_any_none (λ (x : Member Constraint). shares x.movers movers) ms (λ k d lt. shares_back (get_or ms k d).movers movers ∙ h k d lt))

apart_of : (ms : List (Member Constraint)) → AreApart ms → share_no_mover ms ≡ true
apart_of [] h = refl
apart_of (m ∷ ms) h =
    both_hold (is_free ms m.movers) (share_no_mover ms) (free_of ms m.movers (pairs_head (λ (x later : Member Constraint). shares x.movers later.movers ≡ false) m ms h))
    (apart_of ms (pairs_tail (λ (x later : Member Constraint). shares x.movers later.movers ≡ false) m ms h))

all_apart : (lists : List (List (Member Constraint))) → All AreApart lists → list_all share_no_mover lists ≡ true
all_apart [] h = refl
all_apart (ms ∷ lists) h = both_hold (share_no_mover ms) (list_all share_no_mover lists) (apart_of ms (All-head AreApart ms lists h)) (all_apart lists (All-tail AreApart ms lists h))

pub apart_again : (ties : List Tie) (lists : List (List (Member Constraint))) (colours : List (List Constraint)) → AreGiven ties lists colours → list_all share_no_mover (colours_below ties COLOURS) ≡ true
apart_again ties lists colours g =
    let count = g.colouring.count in
    ap (λ (ls : List (List (Member Constraint))). list_all share_no_mover ls) (colours_same ties lists colours g COLOURS (omega (arith, count))) ∙ all_apart (take COLOURS lists) g.colouring.apart

-- ---- just those that act have one

-- a world's labels, and who of its ties acts
pub record AreActing (ties : List Tie) (lists : List (List (Member Constraint))) (labels : Labels) : Type 0 where
  pub movers : (m : Member Constraint) → IsIn m (members_among ties) → AreMovers labels m.movers
  pub together : (m : Member Constraint) (b : ℕ) → IsIn m (members_among ties) → m.movers.second ≡ Some b → AreTogether labels m.movers.first b
  pub awake : (m : Member Constraint) → IsIn m (all_members lists) → are_awake labels m.movers ≡ true
  pub acting : (m : Member Constraint) → IsIn m (members_among ties) → are_awake labels m.movers ≡ true → IsIn m (all_members lists)

said_awake : (labels : Labels) (slot : ℕ) (l : Label) → label_at labels slot ≡ Some l → is_mover_awake labels slot ≡ not (membership_at (map membership_of labels) slot).asleep
said_awake labels slot l e = awake_by (label_at labels slot) l e ∙ sym (ap (λ (m : Membership). not m.asleep) (said_at labels slot ∙ ap (λ (o : Option Label). membership_of o) e))

acts_by : (ties : List Tie) (lists : List (List (Member Constraint))) (colours : List (List Constraint)) (labels : Labels) → AreGiven ties lists colours → AreActing ties lists labels → (t : Tie) → IsIn t ties → (o : Option ℕ) → t.colour ≡ o → (b : Bool) → is_mover_awake labels t.member.movers.first ≡ b → is_some o ≡ b
acts_by ties lists colours labels g a t i (Some k) e true f = refl
acts_by ties lists colours labels g a t i (Some k) e false f =
    let o = in_its_colour ties lists colours g t i k e in
    absurd (false≢true (sym f ∙ awake_first labels t.member.movers.first t.member.movers.second (a.awake t.member (in_all_at lists k t.member o.1))))
acts_by ties lists colours labels g a t i None e false f = refl
acts_by ties lists colours labels g a t i None e true f =
    let both : are_awake labels t.member.movers ≡ true = all_awake labels t.member.movers.first t.member.movers.second f (λ b s. let o = a.together t.member b (member_there ties t i) s in ap (λ (v : Option Label). awake_label v) (o.2 ∙ sym o.1) ∙ f) in
    let at = at_of_all lists t.member (a.acting t.member (member_there ties t i) both) in
    absurd (none-some at.place (sym e ∙ colour_is ties lists colours g t i at.place at.there))

pub well_again : (ties : List Tie) (lists : List (List (Member Constraint))) (colours : List (List Constraint)) (labels : Labels) → AreGiven ties lists colours → AreActing ties lists labels → (t : Tie) → IsIn t ties → is_coloured_well (map membership_of labels) t ≡ true
well_again ties lists colours labels g a t i =
    let first = (a.movers t.member (member_there ties t i)).first in
    let same : is_some t.colour ≡ not (membership_at (map membership_of labels) t.member.movers.first).asleep = acts_by ties lists colours labels g a t i t.colour refl (is_mover_awake labels t.member.movers.first) refl ∙ said_awake labels t.member.movers.first first.0 first.1 in
    ap (λ (b : Bool). is_same_truth b (not (membership_at (map membership_of labels) t.member.movers.first).asleep)) same ∙ truth_same (not (membership_at (map membership_of labels) t.member.movers.first).asleep)

-- ---- what isn't a tie has none

pub lone : (ties : List Tie) (lists : List (List (Member Constraint))) (colours : List (List Constraint)) → AreGiven ties lists colours → (id : Constraint) → ((x : Member Constraint) → IsIn x (members_among ties) → constraint_number x.id ≢ constraint_number id) → plain.colour_of id colours ≡ None
lone ties lists colours g id none =
    ap (λ (ids : List (List Constraint)). plain.colour_of id ids) (sym g.ids) ∙ sym (colour_by_ids id lists)
    ∙ absent_from constraint_number id lists (λ x h. none x (g.there x (in_from_contains (all_members lists) x h)))

colourless_by : (o : Option (Member Constraint)) (colour : Option ℕ) → (o ≡ None → colour ≡ None) → is_colourless (tie_read o colour) colour ≡ true
colourless_by None colour h = ap (λ (c : Option ℕ). is_none c) (h refl)
colourless_by (Some m) colour h = refl

pub joints_colourless : (bodies : List (Option Body)) (slot_entries : List SlotEntry) (colours : List (List Constraint)) (slot : ℕ) (ps : List SlotEntry) (js : List (Option BodyJoint))
    → ((b : Bond) → IsIn b (joint_bonds_from slot ps js) → sets.tie_of bodies b ≡ None → plain.colour_of b.id colours ≡ None) → are_joints_colourless bodies slot ps (saved_joints slot_entries colours slot ps js) ≡ true
joints_colourless bodies slot_entries colours slot [] js h = refl
joints_colourless bodies slot_entries colours slot (p ∷ ps) [] h = refl
joints_colourless bodies slot_entries colours slot (p ∷ ps) (None ∷ js) h = joints_colourless bodies slot_entries colours (suc slot) ps js h
joints_colourless bodies slot_entries colours slot (p ∷ ps) (Some j ∷ js) h =
    let id : Constraint = Joint (record { slot = slot; generation = p.generation }) in
    both_hold (is_colourless (tie_read (tie_with id (joint_movers bodies j)) (plain.colour_of id colours)) (plain.colour_of id colours)) (are_joints_colourless bodies (suc slot) ps (saved_joints slot_entries colours (suc slot) ps js))
    (colourless_by (tie_with id (joint_movers bodies j)) (plain.colour_of id colours) (λ e. h (joint_bond (record { slot = slot; generation = p.generation }) j) (inl refl) e))
    (joints_colourless bodies slot_entries colours (suc slot) ps js (λ b i e. h b (inr i) e))

-- the tie of a contact, if it touches and has movers
abbrev pub touching_tie : List (Option Body) → ContactEntry → Option (Member Constraint)
touching_tie bodies e = cond (touches e.contact) (tie_with (Contact e.key) (contact_movers bodies e.key)) None

contact_by : (t : Bool) (o : Option (Member Constraint)) (colour : Option ℕ) → (cond t o None ≡ None → colour ≡ None) → is_colourless (cond t (tie_read o colour) None) colour ≡ true
contact_by true o colour h = colourless_by o colour h
contact_by false o colour h = ap (λ (c : Option ℕ). is_none c) (h refl)

pub contacts_colourless : (bodies : List (Option Body)) (colours : List (List Constraint)) (es : List ContactEntry) → ((e : ContactEntry) → IsIn e es → touching_tie bodies e ≡ None → plain.colour_of (Contact e.key) colours ≡ None) → list_all (is_contact_colourless bodies) (map (saved_contact colours) es) ≡ true
contacts_colourless bodies colours [] h = refl
contacts_colourless bodies colours (e ∷ es) h =
    both_hold (is_contact_colourless bodies (saved_contact colours e)) (list_all (is_contact_colourless bodies) (map (saved_contact colours) es))
    (contact_by (touches e.contact) (tie_with (Contact e.key) (contact_movers bodies e.key)) (plain.colour_of (Contact e.key) colours) (h e (inl refl)))
    (contacts_colourless bodies colours es (λ x i. h x (inr i)))

pub joint_lone : (bodies : List (Option Body)) (s : JointSlots) (contacts : List ContactEntry) → AreJointSlots s → AreKeysRising contacts → (b : Bond) → IsIn b (joint_bonds s) → sets.tie_of bodies b ≡ None → (x : Member Constraint) → IsIn x (sets.ties_of bodies s contacts) → constraint_number x.id ≢ constraint_number b.id
joint_lone bodies s contacts are rising b i none x h e =
    let o = in_ties bodies s contacts x h in
    let t = tie_is bodies o.of x o.gives in
    let same : o.of ≡ b = only_one bond_number (bonds_of s contacts) o.of b (bonds_rise s contacts are rising) o.there (in_left b (joint_bonds s) (map contact_bond (touching_keys contacts)) i) (ap constraint_number (sym t.named) ∙ e) in
    none-some x (sym none ∙ ap (λ (v : Bond). sets.tie_of bodies v) (sym same) ∙ o.gives)

pub contact_lone : (bodies : List (Option Body)) (s : JointSlots) (contacts : List ContactEntry) → AreJointSlots s → AreKeysRising contacts → (c : ContactEntry) → IsIn c contacts → touching_tie bodies c ≡ None → (x : Member Constraint) → IsIn x (sets.ties_of bodies s contacts) → constraint_number x.id ≢ constraint_number (Contact c.key)
contact_lone bodies s contacts are rising c i none x h e =
    let o = in_ties bodies s contacts x h in
    let t = tie_is bodies o.of x o.gives in
    let number : bond_number o.of ≡ 2 ^ 80 + number_of c = ap constraint_number (sym t.named) ∙ e in
    elim (in_bonds s contacts o.of o.there) [
      | inl p ↦ (let low = joint_below s o.of are p in omega (arith, low, number))
      | inr q ↦ (
          let its : bond_number o.of ≡ 2 ^ 80 + number_of q.entry = ap bond_number q.is in
          let equal : number_of q.entry ≡ number_of c = omega (arith, its, number) in
          let same : q.entry ≡ c = only_one number_of contacts q.entry c (rises_from_keys contacts rising) q.there i equal in
          let touching : touches c.contact ≡ true = ap (λ (v : ContactEntry). touches v.contact) (sym same) ∙ q.touching in
          let tie : tie_with (Contact c.key) (contact_movers bodies c.key) ≡ Some x = ap (λ (v : ContactEntry). sets.tie_of bodies (contact_bond v.key)) (sym same) ∙ ap (λ (v : Bond). sets.tie_of bodies v) (sym q.is) ∙ o.gives in
          none-some x (sym none ∙ ap (λ (b : Bool). cond b (tie_with (Contact c.key) (contact_movers bodies c.key)) None) touching ∙ tie))
    ]

-- ---- each tie has the colour of its constraint

abbrev IsNamed : List (List Constraint) → Tie → Type 0
IsNamed colours t = t.colour ≡ plain.colour_of t.member.id colours

one_named : (colours : List (List Constraint)) (id : Constraint) (o : Option Movers) → Each (IsNamed colours) (tie_if_any (tie_read (tie_with id o) (plain.colour_of id colours)))
one_named colours id None = tt
one_named colours id (Some m) = (refl, tt)

joints_named : (bodies : List (Option Body)) (slot_entries : List SlotEntry) (colours : List (List Constraint)) (slot : ℕ) (ps : List SlotEntry) (js : List (Option BodyJoint)) → Each (IsNamed colours) (flat_map tie_if_any (joint_ties bodies slot ps (saved_joints slot_entries colours slot ps js)))
joints_named bodies slot_entries colours slot [] js = tt
joints_named bodies slot_entries colours slot (p ∷ ps) [] = tt
joints_named bodies slot_entries colours slot (p ∷ ps) (None ∷ js) = joints_named bodies slot_entries colours (suc slot) ps js
joints_named bodies slot_entries colours slot (p ∷ ps) (Some j ∷ js) =
    let id : Constraint = Joint (record { slot = slot; generation = p.generation }) in
    each_append (IsNamed colours) (tie_if_any (tie_read (tie_with id (joint_movers bodies j)) (plain.colour_of id colours))) (flat_map tie_if_any (joint_ties bodies (suc slot) ps (saved_joints slot_entries colours (suc slot) ps js)))
    (one_named colours id (joint_movers bodies j)) (joints_named bodies slot_entries colours (suc slot) ps js)

contact_named : (colours : List (List Constraint)) (t : Bool) (id : Constraint) (o : Option Movers) → Each (IsNamed colours) (tie_if_any (cond t (tie_read (tie_with id o) (plain.colour_of id colours)) None))
contact_named colours true id o = one_named colours id o
contact_named colours false id o = tt

contacts_named : (bodies : List (Option Body)) (colours : List (List Constraint)) (es : List ContactEntry) → Each (IsNamed colours) (flat_map (contact_listed bodies) (map (saved_contact colours) es))
contacts_named bodies colours [] = tt
contacts_named bodies colours (e ∷ es) =
    each_append (IsNamed colours) (contact_listed bodies (saved_contact colours e)) (flat_map (contact_listed bodies) (map (saved_contact colours) es))
    (contact_named colours (touches e.contact) (Contact e.key) (contact_movers bodies e.key)) (contacts_named bodies colours es)

pub ties_named : (bodies : List (Option Body)) (slot_entries : List SlotEntry) (colours : List (List Constraint)) (ps : List SlotEntry) (js : List (Option BodyJoint)) (es : List ContactEntry) (t : Tie)
    → IsIn t (flat_map tie_if_any (joint_ties bodies 0 ps (saved_joints slot_entries colours 0 ps js)) ++ flat_map (contact_listed bodies) (map (saved_contact colours) es)) → t.colour ≡ plain.colour_of t.member.id colours
ties_named bodies slot_entries colours ps js es t i =
    each_in (IsNamed colours) t (flat_map tie_if_any (joint_ties bodies 0 ps (saved_joints slot_entries colours 0 ps js)) ++ flat_map (contact_listed bodies) (map (saved_contact colours) es))
    (each_append (IsNamed colours) (flat_map tie_if_any (joint_ties bodies 0 ps (saved_joints slot_entries colours 0 ps js))) (flat_map (contact_listed bodies) (map (saved_contact colours) es)) (joints_named bodies slot_entries colours 0 ps js) (contacts_named bodies colours es)) i
