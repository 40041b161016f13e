-- The islands of the world that is made of what was read.
use Rattle.std.proofs.Common.{◌≡◌, ℕ, zero, suc, ◌+◌, ◌≤◌, Bool, true, false, not, cond, nat_le, List, [], ◌∷◌, map, Option, Some, None, is_some, option_map, Contains, inl, inr, refl, sym, ap, ◌∙◌, subst, arith}
use Rattle.std.proofs.lemmas.Bool.{false≢true}
use Rattle.std.proofs.lemmas.Option.{none-some, same_Some}
use Rattle.islands.specs.Labels.{Labels, is_loose, label_at, own_label, sleeping_name}
use Rattle.islands.specs.Links.{Edges, Joined, Linked}
use Rattle.islands.specs.Partition.{AreIslands, AreTogether, IsPartition}
use Rattle.islands.specs.declared.label.IslandState.{IslandState}
use Rattle.islands.specs.declared.label.IslandState.TheVariants.{Asleep, Loose, Whole}
use Rattle.islands.specs.declared.label.Label.{Label}
use Rattle.islands.proofs.JoinLemmas.{joined_back, joined_both, joined_more}
use Rattle.islands.proofs.LabelLemmas.{one_label}
use Rattle.plain_world.specs.Slots.{body_at}
use Rattle.plain_world.specs.declared.body.Body.{Body}
use Rattle.world_file_base.specs.declared.saved.Membership.{Membership}
use Rattle.sleep_wake.specs.Acting.{AreMovers}
use Rattle.solver_sets.specs.Tied.{AreTied}
use Rattle.plain_world.specs.Bodies.{is_mover_in}
use Rattle.world_file.specs.Fitting.{are_named_well, are_whole, as_one_island, components_of, is_link_kept, is_named, is_named_well, is_same_membership, is_same_name, is_same_truth, is_tie_kept, is_whole_at, label_of, links_among, membership_at, state_of}
use Rattle.world_file.specs.declared.ties.Tie.{Tie}
use Rattle.world_rules.specs.Sound.{AreTold}
use Rattle.world_file.proofs.ComponentLaws.{component_is, is_mover_at, linked_by_all}
use Rattle.world_file.proofs.ReadSlots.{OnBody}
use Rattle.world_file.proofs.Tests.{at_most, both_true, equal_n, not_true}

-- ---- the label of a slot

pub label_is : (ms : List Membership) (slot : ℕ) → label_at (map label_of ms) slot ≡ label_of (membership_at ms slot)
label_is [] slot = refl
label_is (m ∷ ms) zero = refl
label_is (m ∷ ms) (suc slot) = label_is ms slot

abbrev label_with : IslandState → Option ℕ → Option Label
label_with state o = option_map (λ name. record { name = name; state = state }) o

with_some : (state : IslandState) (o : Option ℕ) → is_some (label_with state o) ≡ is_some o
with_some state None = refl
with_some state (Some n) = refl

label_some : (m : Membership) → is_some (label_of m) ≡ is_some m.island
label_some m = with_some (state_of m) m.island

-- ---- bodies and labels

tied_at : (most : ℕ) (o : Option Body) (m : Membership) → OnBody most o m → is_some m.island ≡ is_mover_in o
tied_at most None m h = ap (λ (x : Membership). is_some x.island) h
tied_at most (Some b) m h = h.island

pub tied_is : (most : ℕ) (bodies : List (Option Body)) (ms : List Membership) → ((slot : ℕ) → OnBody most (body_at bodies slot) (membership_at ms slot)) → AreTied bodies (map label_of ms)
tied_is most bodies ms each slot = ap (λ (o : Option Label). is_some o) (label_is ms slot) ∙ label_some (membership_at ms slot) ∙ tied_at most (body_at bodies slot) (membership_at ms slot) (each slot)

name_by : (asleep loose : Bool) (island : Option ℕ) → cond asleep island None ≡ sleeping_name (label_with (cond asleep Asleep (cond loose Loose Whole)) island)
name_by true loose None = refl
name_by false loose None = refl
name_by true loose (Some n) = refl
name_by false true (Some n) = refl
name_by false false (Some n) = refl

told_at : (most : ℕ) (o : Option Body) (m : Membership) (b : Body) → OnBody most o m → o ≡ Some b → b.asleep ≡ sleeping_name (label_of m)
told_at most None m b h e = absurd (none-some b e)
told_at most (Some a) m b h e = ap (λ (x : Body). x.asleep) (sym (same_Some a b e)) ∙ h.asleep ∙ name_by m.asleep m.loose m.island

pub told_is : (most : ℕ) (bodies : List (Option Body)) (ms : List Membership) → ((slot : ℕ) → OnBody most (body_at bodies slot) (membership_at ms slot)) → AreTold bodies (map label_of ms)
told_is most bodies ms each slot b e = told_at most (body_at bodies slot) (membership_at ms slot) b (each slot) e ∙ ap (λ (o : Option Label). sleeping_name o) (sym (label_is ms slot))

-- ---- what naming well tells

pub same_truth : (a b : Bool) → is_same_truth a b ≡ true → a ≡ b
same_truth true b h = sym h
same_truth false b h = sym (not_true b h)

same_name : (a b : Option ℕ) → is_same_name a b ≡ true → a ≡ b
same_name None None h = refl
same_name None (Some b) h = absurd (false≢true h)
same_name (Some a) None h = absurd (false≢true h)
same_name (Some a) (Some b) h = ap (λ (n : ℕ). Some n) (equal_n a b h)

same_fields : (a b : Membership) → a.island ≡ b.island → a.loose ≡ b.loose → a.asleep ≡ b.asleep → a ≡ b
same_fields a b e f g = λ i. record { island = e i; loose = f i; asleep = g i }

same_membership : (a b : Membership) → is_same_membership a b ≡ true → a ≡ b
same_membership a b h =
    let o = both_true (is_same_name a.island b.island) _ h in
    let p = both_true (is_same_truth a.loose b.loose) (is_same_truth a.asleep b.asleep) o.1 in
    same_fields a b (same_name a.island b.island o.0) (same_truth a.loose b.loose p.0) (same_truth a.asleep b.asleep p.1)

-- the lists' own slots
named_from : (ms : List Membership) (slot : ℕ) (rest : List Membership) (k : ℕ) → are_named_well ms slot rest ≡ true → is_named_well ms (slot + k) (membership_at rest k).island (membership_at rest k) ≡ true
named_from ms slot [] k h = refl
named_from ms slot (m ∷ rest) zero h =
    let o = both_true (is_named_well ms slot m.island m) (are_named_well ms (suc slot) rest) h in
    let same : slot ≡ slot + 0 = omega arith in
    subst (λ (n : ℕ). is_named_well ms n m.island m ≡ true) same o.0
named_from ms slot (m ∷ rest) (suc k) h =
    let o = both_true (is_named_well ms slot m.island m) (are_named_well ms (suc slot) rest) h in
    let same : suc slot + k ≡ slot + suc k = omega arith in
    subst (λ (n : ℕ). is_named_well ms n (membership_at rest k).island (membership_at rest k) ≡ true) same (named_from ms (suc slot) rest k o.1)

-- a mover's island is named by a slot that isn't above its own, where the same is said of it
pub record IsNamedAt (ms : List Membership) (slot name : ℕ) : Type 0 where
  pub low : name ≤ slot
  pub same : membership_at ms name ≡ membership_at ms slot

named_by : (ms : List Membership) (slot name : ℕ) (o : Option ℕ) (m : Membership) → is_named_well ms slot o m ≡ true → o ≡ Some name → (name ≤ slot) × (membership_at ms name ≡ m)
named_by ms slot name None m h e = absurd (none-some name e)
named_by ms slot name (Some n) m h e =
    let same : n ≡ name = same_Some n name e in
    let o = both_true (nat_le n slot) (is_same_membership (membership_at ms n) m) h in
    subst (λ (k : ℕ). (k ≤ slot) × (membership_at ms k ≡ m)) same (at_most n slot o.0, same_membership (membership_at ms n) m o.1)

pub named_at : (ms : List Membership) (slot name : ℕ) → are_named_well ms 0 ms ≡ true → (membership_at ms slot).island ≡ Some name → IsNamedAt ms slot name
named_at ms slot name h e =
    let zero_plus : 0 + slot ≡ slot = omega arith in
    let here : is_named_well ms slot (membership_at ms slot).island (membership_at ms slot) ≡ true = subst (λ (n : ℕ). is_named_well ms n (membership_at ms slot).island (membership_at ms slot) ≡ true) zero_plus (named_from ms 0 ms slot h) in
    let o = named_by ms slot name (membership_at ms slot).island (membership_at ms slot) here e in
    record { low = o.0; same = o.1 }

name_with : (state : IslandState) (o : Option ℕ) (l : Label) → label_with state o ≡ Some l → o ≡ Some l.name
name_with state None l e = absurd (none-some l e)
name_with state (Some n) l e = ap (λ (x : Label). Some x.name) (same_Some (record { name = n; state = state }) l e)

state_with : (state : IslandState) (o : Option ℕ) (l : Label) → label_with state o ≡ Some l → l.state ≡ state
state_with state None l e = absurd (none-some l e)
state_with state (Some n) l e = ap (λ (x : Label). x.state) (sym (same_Some (record { name = n; state = state }) l e))

-- ---- a partition

pub record IsLabelAt (ms : List Membership) (slot : ℕ) (l : Label) : Type 0 where
  pub says : label_of (membership_at ms slot) ≡ Some l
  pub island : (membership_at ms slot).island ≡ Some l.name
  pub state : l.state ≡ state_of (membership_at ms slot)

pub label_there : (ms : List Membership) (slot : ℕ) (l : Label) → label_at (map label_of ms) slot ≡ Some l → IsLabelAt ms slot l
label_there ms slot l e =
    let says : label_of (membership_at ms slot) ≡ Some l = sym (label_is ms slot) ∙ e in
    record { says = says; island = name_with (state_of (membership_at ms slot)) (membership_at ms slot).island l says; state = state_with (state_of (membership_at ms slot)) (membership_at ms slot).island l says }

partition_is : (ms : List Membership) → are_named_well ms 0 ms ≡ true → IsPartition (map label_of ms)
partition_is ms h = record {
  low = λ slot l e. (named_at ms slot l.name h (label_there ms slot l e).island).low;
  named = λ slot l e.
      let at = label_there ms slot l e in
      label_is ms l.name ∙ ap (λ (m : Membership). label_of m) (named_at ms slot l.name h at.island).same ∙ at.says;
}

-- ---- linked movers are together

kept_by : (ms : List Membership) (first : ℕ) (o : Option ℕ) (second : ℕ) → is_link_kept ms first o ≡ true → o ≡ Some second → (membership_at ms first).island ≡ (membership_at ms second).island
kept_by ms first None second h e = absurd (none-some second e)
kept_by ms first (Some b) second h e =
    subst (λ (k : ℕ). (membership_at ms first).island ≡ (membership_at ms k).island) (same_Some b second e) (same_name (membership_at ms first).island (membership_at ms b).island h)

-- two slots of one island have one label
one_island : (ms : List Membership) (a b : ℕ) (l : Label) → are_named_well ms 0 ms ≡ true → label_at (map label_of ms) a ≡ Some l → (membership_at ms a).island ≡ (membership_at ms b).island → AreTogether (map label_of ms) a b
one_island ms a b l h e same =
    let at = label_there ms a l e in
    let first = named_at ms a l.name h at.island in
    let second = named_at ms b l.name h (sym same ∙ at.island) in
    (l, e, label_is ms b ∙ ap (λ (m : Membership). label_of m) (sym second.same ∙ first.same) ∙ at.says)

pub tie_together : (ms : List Membership) (t : Tie) (b : ℕ) → are_named_well ms 0 ms ≡ true → is_tie_kept ms t ≡ true → AreMovers (map label_of ms) t.member.movers → t.member.movers.second ≡ Some b → AreTogether (map label_of ms) t.member.movers.first b
tie_together ms t b h kept movers e = one_island ms t.member.movers.first b movers.first.0 h movers.first.1 (kept_by ms t.member.movers.first t.member.movers.second b kept e)

-- ---- an island that isn't loose is one component

whole_from : (components : Labels) (slot : ℕ) (ms : List Membership) (k : ℕ) → are_whole components slot ms ≡ true → is_whole_at (label_at components (slot + k)) (membership_at ms k).island (membership_at ms k) ≡ true
whole_from components slot [] k h = refl
whole_from components slot (m ∷ ms) zero h =
    let o = both_true (is_whole_at (label_at components slot) m.island m) (are_whole components (suc slot) ms) h in
    let same : slot ≡ slot + 0 = omega arith in
    subst (λ (n : ℕ). is_whole_at (label_at components n) m.island m ≡ true) same o.0
whole_from components slot (m ∷ ms) (suc k) h =
    let o = both_true (is_whole_at (label_at components slot) m.island m) (are_whole components (suc slot) ms) h in
    let same : suc slot + k ≡ slot + suc k = omega arith in
    subst (λ (n : ℕ). is_whole_at (label_at components n) (membership_at ms k).island (membership_at ms k) ≡ true) same (whole_from components (suc slot) ms k o.1)

whole_at : (components : Labels) (ms : List Membership) (k : ℕ) → are_whole components 0 ms ≡ true → is_whole_at (label_at components k) (membership_at ms k).island (membership_at ms k) ≡ true
whole_at components ms k h = let same : 0 + k ≡ k = omega arith in subst (λ (n : ℕ). is_whole_at (label_at components n) (membership_at ms k).island (membership_at ms k) ≡ true) same (whole_from components 0 ms k h)

-- where an island isn't loose its component has its name
component_by : (component : Option Label) (o : Option ℕ) (m : Membership) (name : ℕ) (loose asleep : Bool) → m.loose ≡ loose → m.asleep ≡ asleep → is_whole_at component o m ≡ true → o ≡ Some name → is_loose (cond asleep Asleep (cond loose Loose Whole)) ≡ false → is_named component name ≡ true
component_by component None m name loose asleep e f h g state = absurd (none-some name g)
component_by component (Some n) m name true true e f h g state =
    absurd (false≢true (sym (ap (λ (b : Bool). cond b (not m.asleep) (is_named component n)) e ∙ ap (λ (b : Bool). not b) f) ∙ h))
component_by component (Some n) m name true false e f h g state = absurd (false≢true (sym state))
component_by component (Some n) m name false asleep e f h g state =
    ap (λ (k : ℕ). is_named component k) (sym (same_Some n name g)) ∙ sym (ap (λ (b : Bool). cond b (not m.asleep) (is_named component n)) e) ∙ h

named_there : (o : Option Label) (name : ℕ) → is_named o name ≡ true → (l : Label) × (o ≡ Some l) × (l.name ≡ name)
named_there None name h = absurd (false≢true h)
named_there (Some l) name h = (l, refl, equal_n l.name name h)

component_of : (ms : List Membership) (components : Labels) (k : ℕ) (l : Label) → are_whole components 0 ms ≡ true → label_at (map label_of ms) k ≡ Some l → is_loose l.state ≡ false → (c : Label) × (label_at components k ≡ Some c) × (c.name ≡ l.name)
component_of ms components k l h e whole =
    let at = label_there ms k l e in
    let m : Membership = membership_at ms k in
    let state : is_loose (state_of m) ≡ false = ap (λ (x : IslandState). is_loose x) (sym at.state) ∙ whole in
    named_there (label_at components k) l.name (component_by (label_at components k) m.island m l.name m.loose m.asleep refl refl (whole_at components ms k h) at.island state)

-- a mover of it is joined to the slot that it is named by
joined_to_name : (ms : List Membership) (links : Edges) (k : ℕ) (l : Label) → are_whole (components_of ms links) 0 ms ≡ true → label_at (map label_of ms) k ≡ Some l → is_loose l.state ≡ false → Joined (Linked (links_among (as_one_island ms) links)) k l.name
joined_to_name ms links k l h e whole =
    let mover : is_mover_at ms k ≡ true = ap (λ (o : Option ℕ). is_some o) (label_there ms k l e).island in
    let w = component_is ms links k mover in
    let c = component_of ms (components_of ms links) k l h e whole in
    let same : w.name ≡ l.name = ap (λ (x : Label). x.name) (one_label (components_of ms links) k (own_label w.name) c.0 w.label c.1) ∙ c.2 in
    subst (λ (n : ℕ). Joined (Linked (links_among (as_one_island ms) links)) k n) same w.joined

connected_is : (ms : List Membership) (links : Edges) → are_whole (components_of ms links) 0 ms ≡ true
    → (a b : ℕ) (l : Label) → label_at (map label_of ms) a ≡ Some l → label_at (map label_of ms) b ≡ Some l → is_loose l.state ≡ false → Joined (Linked links) a b
connected_is ms links h a b l e f whole =
    let edges : Edges = links_among (as_one_island ms) links in
    let x : Joined (Linked edges) a l.name = joined_to_name ms links a l h e whole in
    let y : Joined (Linked edges) b l.name = joined_to_name ms links b l h f whole in
    joined_more (Linked edges) (Linked links) a b (linked_by_all ms links) (joined_both (Linked edges) a l.name b x (joined_back edges b l.name y))

-- ---- all of it

back_together : (labels : Labels) (a b : ℕ) → AreTogether labels a b → AreTogether labels b a
back_together labels a b h = (h.0, h.2, h.1)

linked_together : (labels : Labels) (links : Edges) → ((a b : ℕ) → Contains links (a, b) → AreTogether labels a b) → (a b : ℕ) → Linked links a b → AreTogether labels a b
linked_together labels links inside a b h = elim h [ inl k ↦ inside a b k | inr k ↦ back_together labels b a (inside b a k) ]

pub islands_are : (ms : List Membership) (links : Edges) → are_named_well ms 0 ms ≡ true → ((a b : ℕ) → Contains links (a, b) → AreTogether (map label_of ms) a b) → are_whole (components_of ms links) 0 ms ≡ true → AreIslands (Linked links) (map label_of ms)
islands_are ms links named inside whole = record {
  partition = partition_is ms named;
  together = linked_together (map label_of ms) links inside;
  connected = connected_is ms links whole;
}
