-- The components of movers: what their definition says of each, and that merges from link to link make them.
use Rattle.std.proofs.Common.{◌≡◌, ℕ, zero, suc, ◌<◌, ◌≤◌, ◌&&◌, ◌||◌, Bool, true, false, cond, List, [], ◌∷◌, map, length, Option, Some, None, is_some, option_map, Contains, inl, inr, refl, sym, ap, ◌∙◌, subst, arith, eq-eqb}
use Rattle.std.specs.List.{position_or_len, range_with_len}
use Rattle.std.proofs.lemmas.Bool.{and_from, and_parts, cases_lt, false≢true}
use Rattle.std.proofs.lemmas.List.{length-map}
use Rattle.std.proofs.lemmas.List.Sums.{fails_before_first, passes_at_first}
use Rattle.std.proofs.lemmas.Option.{none-some, same_Some}
use Rattle.islands.specs.Labels.{Labels, is_in, label_at, least_reached, lowest_member, merged, merged_by, own_label, relabel, split_by, split_label, union_label}
use Rattle.islands.specs.Links.{Edges, Linked, reaches}
use Rattle.islands.specs.Merging.{alone, merged_all, scattered_from}
use Rattle.islands.specs.Partition.{Inside, IsComponent, IsPartition}
use Rattle.islands.specs.declared.label.Label.{Label}
use Rattle.islands.proofs.LabelLemmas.{in_is, relabel_at, some_short}
use Rattle.islands.proofs.SplitLemmas.{merging_splits, split_is}
use Rattle.sleep_wake.specs.Acting.{links_of}
use Rattle.sleep_wake.proofs.ListLemmas.{filter_in, in_filter}
use Rattle.world_file_base.specs.declared.saved.Membership.{Membership}
use Rattle.world_file.specs.Fitting.{as_one_island, components_of, links_among, members_among, membership_at}
use Rattle.world_file.specs.Laws.{MergingMakesComponents}
use Rattle.world_file.specs.Lone.{alone_at, apart_from}

-- ---- all movers as one island, of any name

abbrev label_in : ℕ → Membership → Option Label
label_in name m = option_map (λ (n : ℕ). own_label name) m.island

abbrev as_one : ℕ → List Membership → Labels
as_one name ms = map (label_in name) ms

abbrev pub is_mover_at : List Membership → ℕ → Bool
is_mover_at ms slot = is_some (membership_at ms slot).island

one_at : (name : ℕ) (ms : List Membership) (s : ℕ) → label_at (as_one name ms) s ≡ label_in name (membership_at ms s)
one_at name [] s = refl
one_at name (m ∷ ms) zero = refl
one_at name (m ∷ ms) (suc s) = one_at name ms s

in_by : (name : ℕ) (o : Option ℕ) → is_in (option_map (λ (n : ℕ). own_label name) o) name ≡ is_some o
in_by name None = refl
in_by name (Some n) = eq-eqb name name refl

in_one : (name : ℕ) (ms : List Membership) (s : ℕ) → is_in (label_at (as_one name ms) s) name ≡ is_mover_at ms s
in_one name ms s = ap (λ (o : Option Label). is_in o name) (one_at name ms s) ∙ in_by name (membership_at ms s).island

some_by : (name : ℕ) (o : Option ℕ) → is_some (option_map (λ (n : ℕ). own_label name) o) ≡ is_some o
some_by name None = refl
some_by name (Some n) = refl

some_one : (name : ℕ) (ms : List Membership) (s : ℕ) → is_some (label_at (as_one name ms) s) ≡ is_mover_at ms s
some_one name ms s = ap (λ (o : Option Label). is_some o) (one_at name ms s) ∙ some_by name (membership_at ms s).island

-- ---- a split of it doesn't depend on its name

abbrev least_mover : List Membership → Edges → ℕ → ℕ
least_mover ms edges slot = position_or_len (λ other. is_mover_at ms other && reaches edges slot other) (range_with_len 0 (length ms))

abbrev component_label : List Membership → Edges → ℕ → Option Label
component_label ms edges slot = option_map (λ (n : ℕ). own_label (least_mover ms edges slot)) (membership_at ms slot).island

least_is : (name : ℕ) (ms : List Membership) (edges : Edges) (s : ℕ) → least_reached (as_one name ms) name edges s ≡ least_mover ms edges s
least_is name ms edges s = λ i. position_or_len (λ other. in_one name ms other i && reaches edges s other) (range_with_len 0 (length-map ms (label_in name) i))

label_by : (name : ℕ) (l : Label) (o : Option ℕ) → cond (is_in (option_map (λ (n : ℕ). own_label name) o) name) (Some l) (option_map (λ (n : ℕ). own_label name) o) ≡ option_map (λ (n : ℕ). l) o
label_by name l None = refl
label_by name l (Some n) = ap (λ (t : Bool). cond t (Some l) (Some (own_label name))) (eq-eqb name name refl)

label_is : (name : ℕ) (ms : List Membership) (edges : Edges) (s : ℕ) → split_label (as_one name ms) name edges s ≡ component_label ms edges s
label_is name ms edges s =
    let least : ℕ = least_reached (as_one name ms) name edges s in
    ap (λ (o : Option Label). cond (is_in o name) (Some (own_label least)) o) (one_at name ms s)
    ∙ label_by name (own_label least) (membership_at ms s).island
    ∙ ap (λ (low : ℕ). option_map (λ (n : ℕ). own_label low) (membership_at ms s).island) (least_is name ms edges s)

split_one : (name : ℕ) (ms : List Membership) (edges : Edges) → split_by (as_one name ms) name edges ≡ map (component_label ms edges) (range_with_len 0 (length ms))
unfolding split_by
split_one name ms edges = λ i. map (λ s. label_is name ms edges s i) (range_with_len 0 (length-map ms (label_in name) i))

split_same : (a b : ℕ) (ms : List Membership) (edges : Edges) → split_by (as_one a ms) a edges ≡ split_by (as_one b ms) b edges
split_same a b ms edges = split_one a ms edges ∙ sym (split_one b ms edges)

-- ---- under its lowest slot it is a partition

abbrev low_of : List Membership → ℕ
low_of ms = lowest_member 0 (as_one 0 ms)

low_below : (ms : List Membership) (s : ℕ) → is_mover_at ms s ≡ true → (low_of ms ≤ s) × (is_mover_at ms (low_of ms) ≡ true)
low_below ms s h =
    let labels : Labels = as_one 0 ms in
    let test : Option Label → Bool = λ o. is_in o 0 in
    let here : test (label_at labels s) ≡ true = in_one 0 ms s ∙ h in
    let l = in_is (label_at labels s) 0 here in
    let short : s < length labels = some_short labels s l.0 l.1 in
    let below : low_of ms ≤ s = elim (cases_lt s (low_of ms)) [
      | inl lt ↦ absurd (false≢true (sym (fails_before_first test labels s None lt) ∙ here))
      | inr le ↦ le
    ] in
    let found : low_of ms < length labels = omega (arith, below, short) in
    (below, sym (in_one 0 ms (low_of ms)) ∙ passes_at_first test labels None found)

mover_by : (name : ℕ) (o : Option ℕ) (l : Label) → option_map (λ (n : ℕ). own_label name) o ≡ Some l → (is_some o ≡ true) × (l ≡ own_label name)
mover_by name None l e = absurd (none-some l e)
mover_by name (Some n) l e = (refl, sym (same_Some (own_label name) l e))

mover_is : (name : ℕ) (ms : List Membership) (s : ℕ) (l : Label) → label_at (as_one name ms) s ≡ Some l → (is_mover_at ms s ≡ true) × (l ≡ own_label name)
mover_is name ms s l e = mover_by name (membership_at ms s).island l (sym (one_at name ms s) ∙ e)

there_by : (name : ℕ) (o : Option ℕ) → is_some o ≡ true → option_map (λ (n : ℕ). own_label name) o ≡ Some (own_label name)
there_by name None h = absurd (false≢true h)
there_by name (Some n) h = refl

one_partition : (ms : List Membership) → IsPartition (as_one (low_of ms) ms)
one_partition ms =
    let lowest : ℕ = low_of ms in
    let name_is : (s : ℕ) (l : Label) → label_at (as_one lowest ms) s ≡ Some l → l.name ≡ lowest = λ s l e. ap (λ (x : Label). x.name) (mover_is lowest ms s l e).1 in
    record {
      low = λ s l e. let o = mover_is lowest ms s l e in let below = (low_below ms s o.0).0 in let name = name_is s l e in omega (arith, name, below);
      named = λ s l e.
          let o = mover_is lowest ms s l e in
          ap (λ (n : ℕ). label_at (as_one lowest ms) n) (name_is s l e)
          ∙ one_at lowest ms lowest
          ∙ there_by lowest (membership_at ms lowest).island (low_below ms s o.0).1
          ∙ ap (λ (x : Label). Some x) (sym o.1);
    }

-- ---- links between movers

abbrev is_among : Labels → ℕ × ℕ → Bool
is_among movers link = is_some (label_at movers link.0) && is_some (label_at movers link.1)

among_is : (ms : List Membership) (links : Edges) (a b : ℕ) → Contains (links_among (as_one_island ms) links) (a, b) → Contains links (a, b) × (is_mover_at ms a ≡ true) × (is_mover_at ms b ≡ true)
among_is ms links a b h =
    let movers : Labels = as_one_island ms in
    let o = filter_in (is_among movers) links (a, b) h in
    let p = and_parts (is_some (label_at movers a)) (is_some (label_at movers b)) o.1 in
    (o.0, sym (some_one 0 ms a) ∙ p.0, sym (some_one 0 ms b) ∙ p.1)

is_among_them : (ms : List Membership) (links : Edges) (a b : ℕ) → Contains links (a, b) → is_mover_at ms a ≡ true → is_mover_at ms b ≡ true → Contains (links_among (as_one_island ms) links) (a, b)
is_among_them ms links a b h first second =
    let movers : Labels = as_one_island ms in
    in_filter (is_among movers) links (a, b) h (and_from (is_some (label_at movers a)) (is_some (label_at movers b)) (some_one 0 ms a ∙ first) (some_one 0 ms b ∙ second))

pub linked_by_all : (ms : List Membership) (links : Edges) (a b : ℕ) → Linked (links_among (as_one_island ms) links) a b → Linked links a b
linked_by_all ms links a b h = elim h [ inl k ↦ inl (among_is ms links a b k).0 | inr k ↦ inr (among_is ms links b a k).0 ]

pub linked_among : (ms : List Membership) (links : Edges) (a b : ℕ) → Linked links a b → is_mover_at ms a ≡ true → is_mover_at ms b ≡ true → Linked (links_among (as_one_island ms) links) a b
linked_among ms links a b h first second = elim h [ inl k ↦ inl (is_among_them ms links a b k first second) | inr k ↦ inr (is_among_them ms links b a k second first) ]

inside_one : (name : ℕ) (ms : List Membership) (links : Edges) → Inside (as_one name ms) name (links_among (as_one_island ms) links)
inside_one name ms links a b h = let o = among_is ms links a b h in (in_one name ms a ∙ o.1, in_one name ms b ∙ o.2)

-- ---- the component of a mover

pub component_is : (ms : List Membership) (links : Edges) (s : ℕ) → is_mover_at ms s ≡ true → IsComponent (links_among (as_one_island ms) links) (components_of ms links) s
component_is ms links s h =
    let edges : Edges = links_among (as_one_island ms) links in
    let low : ℕ = low_of ms in
    let P : Labels → Type 0 = λ labels. IsComponent edges labels s in
    subst P (split_same low 0 ms edges) ((split_is (as_one low ms) low edges (one_partition ms) (inside_one low ms links)).members s (in_one low ms s ∙ h))

-- ---- merges from link to link

alone_is : (name slot : ℕ) (o : Option ℕ) → alone name slot (option_map (λ (n : ℕ). own_label name) o) ≡ alone_at slot o
alone_is name slot o = label_by name (own_label slot) o

scattered_is : (name slot : ℕ) (ms : List Membership) → scattered_from slot name (as_one name ms) ≡ apart_from slot ms
scattered_is name slot [] = refl
scattered_is name slot (m ∷ ms) = λ i. alone_is name slot m.island i ∷ scattered_is name (suc slot) ms i

some_apart : (slot : ℕ) (ms : List Membership) (s : ℕ) → is_some (label_at (apart_from slot ms) s) ≡ is_mover_at ms s
some_apart slot [] s = refl
some_apart slot (m ∷ ms) zero = some_by slot m.island
some_apart slot (m ∷ ms) (suc s) = some_apart (suc slot) ms s

-- a merge changes nothing of who is a mover
some_if : (t : Bool) (l m : Label) → is_some (cond t (Some l) (Some m)) ≡ true
some_if true l m = refl
some_if false l m = refl

some_relabel : (a b : ℕ) (to : Label) (o : Option Label) → is_some (relabel a b to o) ≡ is_some o
some_relabel a b to None = refl
some_relabel a b to (Some l) = some_if (is_in (Some l) a || is_in (Some l) b) to l

some_merged_by : (o p : Option Label) (labels : Labels) (s : ℕ) → is_some (label_at (merged_by o p labels) s) ≡ is_some (label_at labels s)
some_merged_by None p labels s = refl
some_merged_by (Some x) None labels s = refl
some_merged_by (Some x) (Some y) labels s =
    let to : Label = union_label x y in
    ap (λ (o : Option Label). is_some o) (relabel_at x.name y.name to labels s) ∙ some_relabel x.name y.name to (label_at labels s)

some_merged : (labels : Labels) (a b s : ℕ) → is_some (label_at (merged labels a b) s) ≡ is_some (label_at labels s)
unfolding merged
some_merged labels a b s = some_merged_by (label_at labels a) (label_at labels b) labels s

-- what isn't a mover is merged with none
idle_by : (o p : Option Label) (labels : Labels) → (is_some o && is_some p) ≡ false → merged_by o p labels ≡ labels
idle_by None p labels h = refl
idle_by (Some x) None labels h = refl
idle_by (Some x) (Some y) labels h = absurd (false≢true (sym h))

idle : (labels : Labels) (link : ℕ × ℕ) → is_among labels link ≡ false → merged labels link.0 link.1 ≡ labels
unfolding merged
idle labels link h = idle_by (label_at labels link.0) (label_at labels link.1) labels h

abbrev HaveSameMovers : Labels → Labels → Type 0
HaveSameMovers labels movers = (s : ℕ) → is_some (label_at labels s) ≡ is_some (label_at movers s)

same_among : (labels movers : Labels) (link : ℕ × ℕ) → HaveSameMovers labels movers → is_among labels link ≡ is_among movers link
same_among labels movers link same = λ i. same link.0 i && same link.1 i

merge_by : (labels movers : Labels) (link : ℕ × ℕ) (links : Edges) (t : Bool) → is_among movers link ≡ t → HaveSameMovers labels movers
    → merged_all (merged labels link.0 link.1) links ≡ merged_all (merged labels link.0 link.1) (links_among movers links)
    → merged_all (merged labels link.0 link.1) links ≡ merged_all labels (cond t (link ∷ links_among movers links) (links_among movers links))
merge_by labels movers link links true e same rest = rest
merge_by labels movers link links false e same rest = rest ∙ ap (λ (l : Labels). merged_all l (links_among movers links)) (idle labels link (same_among labels movers link same ∙ e))

merged_among : (links : Edges) (labels movers : Labels) → HaveSameMovers labels movers → merged_all labels links ≡ merged_all labels (links_among movers links)
merged_among [] labels movers same = refl
merged_among (e ∷ links) labels movers same =
    merge_by labels movers e links (is_among movers e) refl same (merged_among links (merged labels e.0 e.1) movers (λ s. some_merged labels e.0 e.1 s ∙ same s))

merging_links : (ms : List Membership) (links : Edges) → merged_all (apart_from 0 ms) links ≡ components_of ms links
merging_links ms links =
    let edges : Edges = links_among (as_one_island ms) links in
    let low : ℕ = low_of ms in
    merged_among links (apart_from 0 ms) (as_one_island ms) (λ s. some_apart 0 ms s ∙ sym (some_one 0 ms s))
    ∙ ap (λ (l : Labels). merged_all l edges) (sym (scattered_is low 0 ms))
    ∙ merging_splits (as_one low ms) low edges (one_partition ms) (inside_one low ms links)
    ∙ split_same low 0 ms edges

pub merging_makes_components : MergingMakesComponents
merging_makes_components ms ties = merging_links ms (links_of (members_among ties))
