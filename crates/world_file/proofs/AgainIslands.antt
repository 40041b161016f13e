-- What is written of the islands of a world fits together.
use Rattle.std.proofs.Common.{◌≡◌, ℕ, zero, suc, ◌+◌, ◌≤◌, Bool, true, false, not, cond, nat_le, List, [], ◌∷◌, map, Option, Some, None, is_some, refl, ap, ◌∙◌, subst, arith, eq-eqb, le-leb}
use Rattle.std.proofs.lemmas.Option.{none-some, same_Some}
use Rattle.islands.specs.Labels.{Labels, is_asleep, is_loose, label_at, own_label}
use Rattle.islands.specs.Links.{Edges, Joined, Linked}
use Rattle.islands.specs.Partition.{AreIslands, AreTogether, IsPartition}
use Rattle.islands.specs.declared.label.IslandState.{IslandState}
use Rattle.islands.specs.declared.label.IslandState.TheVariants.{Asleep, Loose, Whole}
use Rattle.islands.specs.declared.label.Label.{Label}
use Rattle.islands.proofs.JoinLemmas.{joined_within}
use Rattle.islands.proofs.LabelLemmas.{one_label}
use Rattle.world_file_base.specs.declared.saved.Membership.{Membership}
use Rattle.world_file.specs.Fitting.{are_named_well, are_whole, as_one_island, components_of, is_link_kept, is_named, is_named_well, is_same_membership, is_same_name, is_same_truth, is_tie_kept, is_whole_at, links_among, membership_at}
use Rattle.world_file.specs.declared.ties.Tie.{Tie}
use Rattle.world_file.specs.Again.{membership_of}
use Rattle.world_file.proofs.AgainParts.{both_hold}
use Rattle.world_file.proofs.ComponentLaws.{component_is, is_mover_at, linked_among, linked_by_all}

pub said_at : (labels : Labels) (k : ℕ) → membership_at (map membership_of labels) k ≡ membership_of (label_at labels k)
said_at [] k = refl
said_at (o ∷ labels) zero = refl
said_at (o ∷ labels) (suc k) = said_at labels k

-- ---- names

pub truth_same : (b : Bool) → is_same_truth b b ≡ true
truth_same true = refl
truth_same false = refl

name_same : (o : Option ℕ) → is_same_name o o ≡ true
name_same None = refl
name_same (Some n) = eq-eqb n n refl

membership_same : (m : Membership) → is_same_membership m m ≡ true
membership_same m = both_hold (is_same_name m.island m.island) _ (name_same m.island) (both_hold (is_same_truth m.loose m.loose) (is_same_truth m.asleep m.asleep) (truth_same m.loose) (truth_same m.asleep))

-- the label's island is named by a slot that isn't above this one, where the same label is
abbrev IsNamedBy : Labels → ℕ → Label → Type 0
IsNamedBy labels slot l = (l.name ≤ slot) × (label_at labels l.name ≡ Some l)

one_named : (labels : Labels) (slot : ℕ) (o : Option Label) → ((l : Label) → o ≡ Some l → IsNamedBy labels slot l) → is_named_well (map membership_of labels) slot (membership_of o).island (membership_of o) ≡ true
one_named labels slot None h = refl
one_named labels slot (Some l) h =
    let o = h l refl in
    let there : membership_at (map membership_of labels) l.name ≡ membership_of (Some l) = said_at labels l.name ∙ ap (λ (x : Option Label). membership_of x) o.1 in
    both_hold (nat_le l.name slot) (is_same_membership (membership_at (map membership_of labels) l.name) (membership_of (Some l))) (le-leb l.name slot o.0)
    (ap (λ (m : Membership). is_same_membership m (membership_of (Some l))) there ∙ membership_same (membership_of (Some l)))

named_by : (labels : Labels) (slot : ℕ) (rest : Labels) → ((k : ℕ) (l : Label) → label_at rest k ≡ Some l → IsNamedBy labels (slot + k) l) → are_named_well (map membership_of labels) slot (map membership_of rest) ≡ true
named_by labels slot [] h = refl
named_by labels slot (o ∷ rest) h =
    let here : slot + 0 ≡ slot = omega arith in
    both_hold (is_named_well (map membership_of labels) slot (membership_of o).island (membership_of o)) (are_named_well (map membership_of labels) (suc slot) (map membership_of rest))
    (one_named labels slot o (λ l e. subst (λ (n : ℕ). IsNamedBy labels n l) here (h 0 l e)))
    (named_by labels (suc slot) rest (λ k l e. let next : slot + suc k ≡ suc slot + k = omega arith in subst (λ (n : ℕ). IsNamedBy labels n l) next (h (suc k) l e)))

pub named_again : (labels : Labels) → IsPartition labels → are_named_well (map membership_of labels) 0 (map membership_of labels) ≡ true
named_again labels p = named_by labels 0 labels (λ k l e. let same : k ≡ 0 + k = omega arith in (subst (λ (n : ℕ). l.name ≤ n) same (p.low k l e), p.named k l e))

-- ---- links

same_island : (labels : Labels) (a b : ℕ) → AreTogether labels a b → is_same_name (membership_at (map membership_of labels) a).island (membership_at (map membership_of labels) b).island ≡ true
same_island labels a b h =
    let first : membership_at (map membership_of labels) a ≡ membership_of (Some h.0) = said_at labels a ∙ ap (λ (x : Option Label). membership_of x) h.1 in
    let second : membership_at (map membership_of labels) b ≡ membership_of (Some h.0) = said_at labels b ∙ ap (λ (x : Option Label). membership_of x) h.2 in
    ap (λ (m : Membership). is_same_name m.island (membership_at (map membership_of labels) b).island) first ∙ ap (λ (m : Membership). is_same_name (Some h.0.name) m.island) second ∙ name_same (Some h.0.name)

link_kept : (labels : Labels) (first : ℕ) (o : Option ℕ) → ((b : ℕ) → o ≡ Some b → AreTogether labels first b) → is_link_kept (map membership_of labels) first o ≡ true
link_kept labels first None h = refl
link_kept labels first (Some b) h = same_island labels first b (h b refl)

pub tie_kept : (labels : Labels) (t : Tie) → ((b : ℕ) → t.member.movers.second ≡ Some b → AreTogether labels t.member.movers.first b) → is_tie_kept (map membership_of labels) t ≡ true
tie_kept labels t h = link_kept labels t.member.movers.first t.member.movers.second h

-- ---- components

-- a component has the name of the island
record HasName (o : Option Label) (name : ℕ) : Type 0 where
  label : Label
  there : o ≡ Some label
  named : label.name ≡ name

named_is : (o : Option Label) (name : ℕ) → HasName o name → is_named o name ≡ true
named_is None name h = absurd (none-some h.label h.there)
named_is (Some l) name h = eq-eqb l.name name (ap (λ (x : Label). x.name) (same_Some l h.label h.there) ∙ h.named)

whole_by : (component : Option Label) (l : Label) (state : IslandState) → l.state ≡ state → (is_loose state ≡ false → HasName component l.name) → is_whole_at component (membership_of (Some l)).island (membership_of (Some l)) ≡ true
whole_by component l Whole e h = ap (λ (s : IslandState). cond (is_loose s) (not (is_asleep s)) (is_named component l.name)) e ∙ named_is component l.name (h refl)
whole_by component l Loose e h = ap (λ (s : IslandState). cond (is_loose s) (not (is_asleep s)) (is_named component l.name)) e
whole_by component l Asleep e h = ap (λ (s : IslandState). cond (is_loose s) (not (is_asleep s)) (is_named component l.name)) e ∙ named_is component l.name (h refl)

one_whole : (component o : Option Label) → ((l : Label) → o ≡ Some l → is_loose l.state ≡ false → HasName component l.name) → is_whole_at component (membership_of o).island (membership_of o) ≡ true
one_whole component None h = refl
one_whole component (Some l) h = whole_by component l l.state refl (λ e. h l refl e)

wholes_by : (components : Labels) (slot : ℕ) (rest : Labels) → ((k : ℕ) (l : Label) → label_at rest k ≡ Some l → is_loose l.state ≡ false → HasName (label_at components (slot + k)) l.name) → are_whole components slot (map membership_of rest) ≡ true
wholes_by components slot [] h = refl
wholes_by components slot (o ∷ rest) h =
    let here : slot + 0 ≡ slot = omega arith in
    both_hold (is_whole_at (label_at components slot) (membership_of o).island (membership_of o)) (are_whole components (suc slot) (map membership_of rest))
    (one_whole (label_at components slot) o (λ l e loose. subst (λ (n : ℕ). HasName (label_at components n) l.name) here (h 0 l e loose)))
    (wholes_by components (suc slot) rest (λ k l e loose. let next : slot + suc k ≡ suc slot + k = omega arith in subst (λ (n : ℕ). HasName (label_at components n) l.name) next (h (suc k) l e loose)))

-- the component of a mover, whose island isn't loose, has the name of the island
has_component : (labels : Labels) (links : Edges) → AreIslands (Linked links) labels → (k : ℕ) (l : Label) → label_at labels k ≡ Some l → is_loose l.state ≡ false → HasName (label_at (components_of (map membership_of labels) links) k) l.name
has_component labels links w k l e loose =
    let ms : List Membership = map membership_of labels in
    let edges : Edges = links_among (as_one_island ms) links in
    let P : ℕ → Type 0 = λ s. label_at labels s ≡ Some l in
    let mover : (s : ℕ) → P s → is_mover_at ms s ≡ true = λ s p. ap (λ (m : Membership). is_some m.island) (said_at labels s ∙ ap (λ (o : Option Label). membership_of o) p) in
    let on : (a b : ℕ) → Linked links a b → P a → P b = λ a b r p. let q = w.together a b r in q.2 ∙ ap (λ (x : Label). Some x) (one_label labels a q.0 l q.1 p) in
    let within : (a b : ℕ) → Linked links a b → P a → Linked edges a b × P b = λ a b r p. let q = on a b r p in (linked_among ms links a b r (mover a p) (mover b q), q) in
    let back : (a b : ℕ) → Linked edges a b → P a → Linked links a b × P b = λ a b r p. let link = linked_by_all ms links a b r in (link, on a b link p) in
    let c = component_is ms links k (mover k e) in
    let to_name : Joined (Linked edges) k l.name = (joined_within (Linked links) (Linked edges) P k l.name within e (w.connected k l.name l e (w.partition.named k l e) loose)).0 in
    let there : P c.name = (joined_within (Linked edges) (Linked links) P k c.name back e c.joined).1 in
    let down : c.name ≤ l.name = c.lowest l.name to_name in
    let up : l.name ≤ c.name = w.partition.low c.name l there in
    record { label = own_label c.name; there = c.label; named = omega (arith, down, up) }

pub whole_again : (labels : Labels) (links : Edges) → AreIslands (Linked links) labels → are_whole (components_of (map membership_of labels) links) 0 (map membership_of labels) ≡ true
whole_again labels links w = wholes_by (components_of (map membership_of labels) links) 0 labels (λ k l e loose. let same : k ≡ 0 + k = omega arith in subst (λ (n : ℕ). HasName (label_at (components_of (map membership_of labels) links) n) l.name) same (has_component labels links w k l e loose))
