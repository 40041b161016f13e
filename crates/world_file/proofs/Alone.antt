-- Movers that stand alone, and are joined by ties: labels that are the same slot by slot stay so.
use Rattle.std.proofs.Common.{◌≡◌, ◌≢◌, ℕ, zero, suc, ◌+◌, ◌<◌, ◌≤◌, List, [], ◌∷◌, length, Option, Some, None, refl, sym, ap, ◌∙◌, arith, subst, inl, inr}
use Rattle.std.specs.Prelude.{◌&&◌}
use Rattle.std.specs.List.{cons_option}
use Rattle.std.proofs.lemmas.Bool.{cases_eq, cases_lt}
use Rattle.islands.specs.Labels.{Labels, label_at, merged, merged_by, relabel, union_label}
use Rattle.islands.specs.Merging.{merged_all}
use Rattle.islands.specs.Links.{Edges}
use Rattle.islands.specs.declared.label.Label.{Label}
use Rattle.islands.proofs.LabelLemmas.{added_here, added_other, relabel_at}
use Rattle.sleep_wake.specs.Acting.{link_of, links_of}
use Rattle.world_file_base.specs.SavedSlots.{no_membership}
use Rattle.world_file_base.specs.declared.saved.Membership.{Membership}
use Rattle.world_file.specs.Fitting.{are_whole, is_whole_at, members_among, membership_at}
use Rattle.world_file.specs.Lone.{AreSameLabels, added_if, alone_at, apart_from, joined_by}
use Rattle.world_file.specs.declared.ties.Tie.{Tie}

-- ---- each mover alone

pub apart_at : (n : ℕ) (memberships : List Membership) (s : ℕ) → label_at (apart_from n memberships) s ≡ alone_at (n + s) (membership_at memberships s).island
apart_at n [] zero = refl
apart_at n [] (suc s) = refl
apart_at n (m ∷ ms) zero = let same : n ≡ n + 0 = omega arith in ap (λ k. alone_at k m.island) same
apart_at n (m ∷ ms) (suc s) = let same : suc n + s ≡ n + suc s = omega arith in apart_at (suc n) ms s ∙ ap (λ k. alone_at k (membership_at ms s).island) same

past_memberships : (memberships : List Membership) (s : ℕ) → length memberships ≤ s → membership_at memberships s ≡ no_membership
past_memberships [] zero le = refl
past_memberships [] (suc s) le = refl
past_memberships (m ∷ ms) zero le = absurd (omega arith)
past_memberships (m ∷ ms) (suc s) le = past_memberships ms s (omega arith)

pub all_alone : (labels : Labels) (memberships : List Membership) (n : ℕ) → length memberships ≤ n → ((s : ℕ) → s < n → label_at labels s ≡ alone_at s (membership_at memberships s).island) → ((s : ℕ) → n ≤ s → label_at labels s ≡ None) → AreSameLabels labels (apart_from 0 memberships)
all_alone labels memberships n most done rest s =
    let start : s ≡ 0 + s = omega arith in
    let there : alone_at s (membership_at memberships s).island ≡ label_at (apart_from 0 memberships) s = ap (λ k. alone_at k (membership_at memberships s).island) start ∙ sym (apart_at 0 memberships s) in
    elim (cases_lt s n) [
      | inl low ↦ done s low ∙ there
      | inr high ↦
          let past : membership_at memberships s ≡ no_membership = past_memberships memberships s (omega arith) in
          rest s high ∙ ap (λ (m : Membership). alone_at s m.island) (sym past) ∙ there
    ]

here_added : (o : Option ℕ) (labels : Labels) (slot : ℕ) → label_at labels slot ≡ None → label_at (added_if o slot labels) slot ≡ alone_at slot o
here_added None labels slot none = none
here_added (Some name) labels slot none = added_here labels slot

other_added : (o : Option ℕ) (labels : Labels) (slot s : ℕ) → s ≢ slot → label_at (added_if o slot labels) s ≡ label_at labels s
other_added None labels slot s apart = refl
other_added (Some name) labels slot s apart = added_other labels slot s apart

pub done_more : (o : Option ℕ) (labels new : Labels) (memberships : List Membership) (slot : ℕ) → new ≡ added_if o slot labels → o ≡ (membership_at memberships slot).island
    → ((s : ℕ) → s < slot → label_at labels s ≡ alone_at s (membership_at memberships s).island) → ((s : ℕ) → slot ≤ s → label_at labels s ≡ None)
    → (s : ℕ) → s < slot + 1 → label_at new s ≡ alone_at s (membership_at memberships s).island
done_more o labels new memberships slot is of done rest s below = elim (cases_eq s slot) [
  | inl same ↦
      let at : label_at (added_if o slot labels) slot ≡ alone_at slot (membership_at memberships slot).island = here_added o labels slot (rest slot (omega arith)) ∙ ap (λ x. alone_at slot x) of in
      ap (λ l. label_at l s) is ∙ subst (λ k. label_at (added_if o slot labels) k ≡ alone_at k (membership_at memberships k).island) (sym same) at
  | inr apart ↦ ap (λ l. label_at l s) is ∙ other_added o labels slot s apart ∙ done s (omega (arith, apart))
]

pub rest_more : (o : Option ℕ) (labels new : Labels) (slot : ℕ) → new ≡ added_if o slot labels → ((s : ℕ) → slot ≤ s → label_at labels s ≡ None) → (s : ℕ) → slot + 1 ≤ s → label_at new s ≡ None
rest_more o labels new slot is rest s above = ap (λ l. label_at l s) is ∙ other_added o labels slot s (λ same. omega arith) ∙ rest s (omega arith)

-- ---- joined by ties

same_by : (o p : Option Label) (labels others : Labels) → AreSameLabels labels others → AreSameLabels (merged_by o p labels) (merged_by o p others)
same_by None p labels others same = same
same_by (Some x) None labels others same = same
same_by (Some x) (Some y) labels others same = λ s. relabel_at x.name y.name (union_label x y) labels s ∙ ap (λ o. relabel x.name y.name (union_label x y) o) (same s) ∙ sym (relabel_at x.name y.name (union_label x y) others s)

same_merged : (labels others : Labels) (a b : ℕ) → AreSameLabels labels others → AreSameLabels (merged labels a b) (merged others a b)
unfolding merged
same_merged labels others a b same = rw (same a, same b) (same_by (label_at others a) (label_at others b) labels others same)

same_all : (edges : Edges) (labels others : Labels) → AreSameLabels labels others → AreSameLabels (merged_all labels edges) (merged_all others edges)
same_all [] labels others same = same
same_all (e ∷ edges) labels others same = same_all edges (merged labels e.0 e.1) (merged others e.0 e.1) (same_merged labels others e.0 e.1 same)

pub same_joined : (ties : List Tie) (labels others : Labels) → AreSameLabels labels others → AreSameLabels (joined_by ties labels) (joined_by ties others)
same_joined ties labels others same = same_all (links_of (members_among ties)) labels others same

pub unjoined_first : (labels : Labels) (a b : ℕ) → label_at labels a ≡ None → labels ≡ merged labels a b
unfolding merged
unjoined_first labels a b none = rw none refl

unjoined_by : (o : Option Label) (labels : Labels) → labels ≡ merged_by o None labels
unjoined_by None labels = refl
unjoined_by (Some x) labels = refl

pub unjoined_second : (labels : Labels) (a b : ℕ) → label_at labels b ≡ None → labels ≡ merged labels a b
unfolding merged
unjoined_second labels a b none = rw none (unjoined_by (label_at labels a) labels)

-- ---- whole islands

pub same_whole : (labels others : Labels) (slot : ℕ) (memberships : List Membership) → AreSameLabels labels others → are_whole labels slot memberships ≡ are_whole others slot memberships
same_whole labels others slot [] same = refl
same_whole labels others slot (m ∷ ms) same =
    ap (λ o. is_whole_at o m.island m && are_whole labels (suc slot) ms) (same slot)
    ∙ ap (λ t. is_whole_at (label_at others slot) m.island m && t) (same_whole labels others (suc slot) ms same)
