-- What keeps the sets.
use Rattle.std.proofs.Common.{◌≡◌, ◌≢◌, ℕ, ◌↔◌, Bool, true, false, not, cond, List, [], ◌∷◌, Option, Some, None, inl, inr, refl, sym, ap, ◌∙◌, subst}
use Rattle.std.specs.Prelude.{Contains, fold}
use Rattle.std.proofs.lemmas.Bool.{false≢true, cases_eq}
use Rattle.std.specs.Option.{option_map_or}
use Rattle.graph_colours.specs.declared.member.Movers.{Movers}
use Rattle.graph_colours.specs.declared.member.Member.{Member}
use Rattle.graph_colours.specs.Members.{inserted, without_member}
use Rattle.graph_colours.specs.FoundMembers.{has_id}
use Rattle.graph_colours.proofs.ListLemmas.{rising_inserted, rising_without}
use Rattle.graph_colours.proofs.ColouringLemmas.{released_keeps}
use Rattle.islands.specs.declared.label.IslandState.{IslandState}
use Rattle.islands.specs.declared.label.IslandState.TheVariants.{Whole, Loose, Asleep}
use Rattle.islands.specs.declared.label.Label.{Label}
use Rattle.islands.specs.Links.{Linked, Joined}
use Rattle.islands.specs.Labels.{Labels, label_at, IsIn, is_asleep, is_loose, with_state, rested, woken}
use Rattle.islands.specs.Partition.{AreTogether, AreIslands}
use Rattle.islands.proofs.JoinLemmas.{joined_within, linked_back}
use Rattle.islands.proofs.LabelLemmas.{in_of, one_label}
use Rattle.islands.proofs.KeptLemmas.{same_links, changing_state, loosening, merging}
use Rattle.islands.proofs.SplitLemmas.{IsLabelled}
use Rattle.sleep_wake.specs.Acting.{Acting, AreMovers, IsConsistent, links_of, awake_label, is_mover_awake, are_awake}
use Rattle.sleep_wake.specs.declared.change.Change.{Change}
use Rattle.sleep_wake.specs.declared.change.Change.TheVariants.{Begin, End}
use Rattle.sleep_wake.specs.Changes.{parted, united, ended, begun, after_changes}
use Rattle.sleep_wake.specs.ChangeLists.{AreChanges}
use Rattle.sleep_wake.specs.Waking.{ties_of_mover, has_mover_of, set_woken, woken_at, movers_woken, put_to_rest}
use Rattle.sleep_wake.specs.Laws.{WakingKeeps, ChangingKeeps, RestingKeeps, SleepersAreOneComponent, LinkedStandTogether, EndingKeeps, BeginningKeeps}
use Rattle.sleep_wake.proofs.ListLemmas.{filter_in, in_filter, without_in, in_without, inserted_in, in_inserted, one_of, has_from, absent_from, places_one, places, Places, releases, Releases, released_in, in_released, rising_filter, link_in, in_links, links_more}
use Rattle.sleep_wake.proofs.AwakeLemmas.{and_is, all_awake, awake_first, same_awake, NoneIn, of_island, tie_together, awake_in, awake_out, awake_as, stated_labelled, in_or_out, parted_awake, parted_labelled, united_awake, united_labelled}

pub asleep_whole : (state : IslandState) → is_asleep state ≡ true → is_loose state ≡ false
asleep_whole Whole h = refl
asleep_whole Loose h = absurd (false≢true h)
asleep_whole Asleep h = refl

-- the movers have labels in other labels too
abbrev Labelled : Labels → Labels → Type 0
Labelled old new = (t : ℕ) → IsLabelled old t → IsLabelled new t

movers_on : (old new : Labels) (m : Movers) → Labelled old new → AreMovers old m → AreMovers new m
movers_on old new m f h = record { first = f m.first h.first; second = λ b e. f b (h.second b e) }

-- one whose first mover is asleep doesn't act
not_acting : {C : Type 0} (number : C → ℕ) (s : Acting C) (m : Member C) → is_mover_awake s.labels m.movers.first ≡ false → are_awake s.labels m.movers ≡ true → ⊥
not_acting number s m h k = false≢true (sym h ∙ awake_first s.labels m.movers.first m.movers.second k)

-- ---- a set wakes

waking : {C : Type 0} (number : C → ℕ) (s : Acting C) (name : ℕ) (l : Label) → IsConsistent number s → label_at s.labels name ≡ Some l → l.name ≡ name → is_asleep l.state ≡ true → IsConsistent number (set_woken number name s)
unfolding set_woken woken
waking {C} number s name l w e k a =
    let new : Labels = with_state name Whole s.labels in
    let down : (t : ℕ) → IsIn s.labels name t → is_mover_awake s.labels t ≡ false = λ t h. awake_as s.labels name t l w.islands.partition e k h ∙ ap not a in
    let rest : (x : Member C) → Contains s.ties x → has_mover_of s.labels name x ≡ true → are_awake s.labels x.movers ≡ true → ⊥ = λ x h q r. elim (of_island number s name x w h) [
      | inl p ↦ not_acting number s x (down x.movers.first p.1.one) r
      | inr p ↦ false≢true (sym p.0 ∙ q)
    ] in
    let many : Places number s.lists (ties_of_mover s name) = places number (ties_of_mover s name) s.lists w.colouring (rising_filter number (has_mover_of s.labels name) s.ties w.rising)
    (λ x h. let o = filter_in (has_mover_of s.labels name) s.ties x h in absent_from number x.id s.lists (λ y q r.
    let p = (w.acting y).0 q in
    let same : y ≡ x = one_of number s.ties y x w.rising p.0 o.0 r in
    let P : Member C → Type 0 = λ v. are_awake s.labels v.movers ≡ true in
    rest x o.0 o.1 (subst P same p.1))) in
    record {
      rising = w.rising;
      movers = λ m h. movers_on s.labels new m.movers (λ t q. stated_labelled s.labels name Whole t q) (w.movers m h);
      islands = changing_state (Linked (links_of s.ties)) s.labels name Whole l w.islands e k (asleep_whole l.state a);
      colouring = many.colouring;
      acting = λ x. (
        (λ h. elim ((many.members x).0 h) [
          | inl q ↦ let o = filter_in (has_mover_of s.labels name) s.ties x q in (
            o.0,
            elim (of_island number s name x w o.0) [
              | inl p ↦ all_awake new x.movers.first x.movers.second (awake_in s.labels name Whole x.movers.first p.1.one) (λ b r. awake_in s.labels name Whole b (p.1.two b r))
              | inr p ↦ absurd (false≢true (sym p.0 ∙ o.1))
            ],
          )
          | inr q ↦ let o = (w.acting x).0 q in (
            o.0,
            elim (of_island number s name x w o.0) [
              | inl p ↦ absurd (rest x o.0 p.0 o.1)
              | inr p ↦ same_awake s.labels new x.movers.first x.movers.second (awake_out s.labels name Whole x.movers.first p.1.one) (λ b r. awake_out s.labels name Whole b (p.1.two b r)) ∙ o.1
            ],
          )
        ]),
        (λ h. (many.members x).1 (elim (of_island number s name x w h.0) [
          | inl p ↦ inl (in_filter (has_mover_of s.labels name) s.ties x h.0 p.0)
          | inr p ↦ inr ((w.acting x).1 (h.0, sym (same_awake s.labels new x.movers.first x.movers.second (awake_out s.labels name Whole x.movers.first p.1.one) (λ b r. awake_out s.labels name Whole b (p.1.two b r))) ∙ h.1))
        ])),
      );
    }

-- what a waking leaves
pub record Wakes {C : Type 0} (number : C → ℕ) (slot : ℕ) (s new : Acting C) : Type 0 where
  pub consistent : IsConsistent number new
  pub ties : new.ties ≡ s.ties
  pub labelled : (t : ℕ) → IsLabelled s.labels t → IsLabelled new.labels t
  pub more : (t : ℕ) → is_mover_awake s.labels t ≡ true → is_mover_awake new.labels t ≡ true
  pub awake : IsLabelled s.labels slot → is_mover_awake new.labels slot ≡ true

woken_set : {C : Type 0} (number : C → ℕ) (slot : ℕ) (s : Acting C) (l : Label) → IsConsistent number s → label_at s.labels slot ≡ Some l → is_asleep l.state ≡ true → Wakes number slot s (set_woken number l.name s)
unfolding set_woken woken
woken_set number slot s l w e a =
    let home : label_at s.labels l.name ≡ Some l = w.islands.partition.named slot l e in
    record {
      consistent = waking number s l.name l w home refl a;
      ties = refl;
      labelled = λ t h. stated_labelled s.labels l.name Whole t h;
      more = λ t h. elim (in_or_out s.labels l.name t) [ inl k ↦ awake_in s.labels l.name Whole t k | inr k ↦ awake_out s.labels l.name Whole t k ∙ h ];
      awake = λ h. awake_in s.labels l.name Whole slot (in_of (label_at s.labels slot) l l.name e refl);
    }

wakes_if : {C : Type 0} (number : C → ℕ) (slot : ℕ) (s : Acting C) (l : Label) (t : Bool) → is_asleep l.state ≡ t → IsConsistent number s → label_at s.labels slot ≡ Some l → Wakes number slot s (cond t (set_woken number l.name s) s)
wakes_if number slot s l true a w e = woken_set number slot s l w e a
wakes_if number slot s l false a w e = record { consistent = w; ties = refl; labelled = λ t h. h; more = λ t h. h; awake = λ h. ap awake_label e ∙ ap not a }

wakes_by : {C : Type 0} (number : C → ℕ) (slot : ℕ) (s : Acting C) (o : Option Label) → label_at s.labels slot ≡ o → IsConsistent number s → Wakes number slot s (option_map_or (λ (l : Label). cond (is_asleep l.state) (set_woken number l.name s) s) o s)
wakes_by number slot s None e w = record { consistent = w; ties = refl; labelled = λ t h. h; more = λ t h. h; awake = λ h. absurd (let no : None ≡ Some h.0 = sym e ∙ h.1 in cc) }
wakes_by number slot s (Some l) e w = wakes_if number slot s l (is_asleep l.state) refl w e

pub wakes : {C : Type 0} (number : C → ℕ) (slot : ℕ) (s : Acting C) → IsConsistent number s → Wakes number slot s (woken_at number slot s)
unfolding woken_at
wakes number slot s w = wakes_by number slot s (label_at s.labels slot) refl w

-- the sleepers of a constraint wake
pub record WakesBoth {C : Type 0} (number : C → ℕ) (first : ℕ) (second : Option ℕ) (s new : Acting C) : Type 0 where
  pub consistent : IsConsistent number new
  pub ties : new.ties ≡ s.ties
  pub labelled : (t : ℕ) → IsLabelled s.labels t → IsLabelled new.labels t
  pub one : IsLabelled s.labels first → is_mover_awake new.labels first ≡ true
  pub two : (b : ℕ) → second ≡ Some b → IsLabelled s.labels b → is_mover_awake new.labels b ≡ true

pub wakes_both : {C : Type 0} (number : C → ℕ) (first : ℕ) (o : Option ℕ) (s : Acting C) → IsConsistent number s → WakesBoth number first o s (option_map_or (λ slot. woken_at number slot (woken_at number first s)) o (woken_at number first s))
wakes_both number first None s w = let a = wakes number first s w in record { consistent = a.consistent; ties = a.ties; labelled = a.labelled; one = a.awake; two = λ b e h. absurd (let no : None ≡ Some b = e in cc) }
wakes_both number first (Some c) s w =
    let a = wakes number first s w in
    let d = wakes number c (woken_at number first s) a.consistent in
    record {
      consistent = d.consistent;
      ties = d.ties ∙ a.ties;
      labelled = λ t h. d.labelled t (a.labelled t h);
      one = λ h. d.more first (a.awake h);
      two = λ b e h. let same : c ≡ b = cc in let P : ℕ → Type 0 = λ v. is_mover_awake (woken_at number c (woken_at number first s)).labels v ≡ true in
          let Q : ℕ → Type 0 = λ v. IsLabelled s.labels v in
          subst P same (d.awake (a.labelled c (subst Q (sym same) h)));
    }

-- ---- one ends

ended_islands : {C : Type 0} (number : C → ℕ) (s : Acting C) (m : Member C) (o : Option ℕ) → m.movers.second ≡ o → IsConsistent number s → Contains s.ties m → AreIslands (Linked (links_of (without_member number m.id s.ties))) (parted o m.movers.first s.labels)
ended_islands {C} number s m None e w h =
    let ns : List (Member C) = without_member number m.id s.ties in
    let off : (x : Member C) (b : ℕ) → Contains s.ties x → x.movers.second ≡ Some b → number x.id ≢ number m.id = λ x b k q r.
    let same : x ≡ m = one_of number s.ties x m w.rising k h r in
    let no : None ≡ Some b = sym e ∙ ap (λ (v : Member C). v.movers.second) (sym same) ∙ q in cc in
    same_links (Linked (links_of s.ties)) (Linked (links_of ns)) s.labels
    (λ a b k. elim k [
      | inl q ↦ let o = link_in s.ties a b q in inl (in_links ns o.0 a b (in_without number m.id s.ties o.0 o.1 (off o.0 b o.1 o.3)) o.2 o.3)
      | inr q ↦ let o = link_in s.ties b a q in inr (in_links ns o.0 b a (in_without number m.id s.ties o.0 o.1 (off o.0 a o.1 o.3)) o.2 o.3)
    ])
    (λ a b k. links_more ns s.ties (λ x q. (without_in number m.id s.ties x q).0) a b k)
    w.islands
ended_islands {C} number s m (Some c) e w h =
    let ns : List (Member C) = without_member number m.id s.ties in
    let pair : AreTogether s.labels m.movers.first c = tie_together number s m c w h e in
    loosening (Linked (links_of s.ties)) (Linked (links_of ns)) s.labels m.movers.first w.islands (record {
      kept = λ a b k. links_more ns s.ties (λ x q. (without_in number m.id s.ties x q).0) a b k;
      lost = λ a b k. elim k [
        | inl q ↦ let o = link_in s.ties a b q in elim (cases_eq (number o.0.id) (number m.id)) [
          | inl r ↦ let same : o.0 ≡ m = one_of number s.ties o.0 m w.rising o.1 h r in
              let here : a ≡ m.movers.first = sym o.2 ∙ ap (λ (v : Member C). v.movers.first) same in
              inr (pair.0, pair.1, ap (λ n. label_at s.labels n) here ∙ pair.1)
          | inr r ↦ inl (inl (in_links ns o.0 a b (in_without number m.id s.ties o.0 o.1 r) o.2 o.3))
        ]
        | inr q ↦ let o = link_in s.ties b a q in elim (cases_eq (number o.0.id) (number m.id)) [
          | inl r ↦ let same : o.0 ≡ m = one_of number s.ties o.0 m w.rising o.1 h r in
              let there : m.movers.second ≡ Some a = ap (λ (v : Member C). v.movers.second) (sym same) ∙ o.3 in
              inr (tie_together number s m a w h there)
          | inr r ↦ inl (inr (in_links ns o.0 b a (in_without number m.id s.ties o.0 o.1 r) o.2 o.3))
        ]
      ];
    })

pub ending : {C : Type 0} (number : C → ℕ) (s : Acting C) (m : Member C) → IsConsistent number s → Contains s.ties m → is_mover_awake s.labels m.movers.first ≡ true → IsConsistent number (ended number m s)
unfolding ended
ending {C} number s m w h a =
    let new : Labels = parted m.movers.second m.movers.first s.labels in
    let ns : List (Member C) = without_member number m.id s.ties in
    let same : (t : ℕ) → is_mover_awake new t ≡ is_mover_awake s.labels t = λ t. parted_awake s.labels m.movers.first t m.movers.second w.islands.partition a in
    let acts : (x : Member C) → are_awake new x.movers ≡ are_awake s.labels x.movers = λ x. same_awake s.labels new x.movers.first x.movers.second (same x.movers.first) (λ b e. same b) in
    record {
      rising = rising_without number m.id s.ties w.rising;
      movers = λ x k. movers_on s.labels new x.movers (λ t q. parted_labelled s.labels m.movers.first t m.movers.second q) (w.movers x (without_in number m.id s.ties x k).0);
      islands = ended_islands number s m m.movers.second refl w h;
      colouring = released_keeps number m.id s.lists w.colouring;
      acting = λ x. (
        (λ k. let o = released_in number m.id s.lists x k in let p = (w.acting x).0 o.0 in (in_without number m.id s.ties x p.0 o.1, acts x ∙ p.1)),
        (λ k. let o = without_in number m.id s.ties x k.0 in in_released number m.id s.lists x ((w.acting x).1 (o.0, sym (acts x) ∙ k.1)) o.1),
      );
    }

-- ---- one begins

begun_islands : {C : Type 0} (number : C → ℕ) (s : Acting C) (m : Member C) (o : Option ℕ) → m.movers.second ≡ o → IsConsistent number s → AreMovers s.labels m.movers → AreIslands (Linked (links_of (inserted number m s.ties))) (united o m.movers.first s.labels)
begun_islands {C} number s m None e w h =
    let ns : List (Member C) = inserted number m s.ties in
    let P : Member C → Type 0 = λ v. v.movers.second ≡ None in
    same_links (Linked (links_of s.ties)) (Linked (links_of ns)) s.labels
    (λ a b k. links_more s.ties ns (λ x q. in_inserted number m s.ties x (inr q)) a b k)
    (λ a b k. elim k [
      | inl q ↦ let o = link_in ns a b q in inl (elim (inserted_in number m s.ties o.0 o.1) [
        | inl r ↦ absurd (let no : None ≡ Some b = sym (subst P r e) ∙ o.3 in cc)
        | inr r ↦ in_links s.ties o.0 a b r o.2 o.3
      ])
      | inr q ↦ let o = link_in ns b a q in inr (elim (inserted_in number m s.ties o.0 o.1) [
        | inl r ↦ absurd (let no : None ≡ Some a = sym (subst P r e) ∙ o.3 in cc)
        | inr r ↦ in_links s.ties o.0 b a r o.2 o.3
      ])
    ])
    w.islands
begun_islands {C} number s m (Some c) e w h =
    let ns : List (Member C) = inserted number m s.ties in
    let x = h.first in
    let y = h.second c e in
    let here : Linked (links_of ns) m.movers.first c = inl (in_links ns m m.movers.first c (in_inserted number m s.ties m (inl refl)) refl e) in
    -- the ends of a link that the new one makes
    let ends : (a b : ℕ) (z : Member C) → m ≡ z → z.movers.first ≡ a → z.movers.second ≡ Some b → (a ≡ m.movers.first) × (b ≡ c) = λ a b z q f g.
    let one : Some c ≡ Some b = sym e ∙ ap (λ (v : Member C). v.movers.second) q ∙ g in
    let two : c ≡ b = cc in
    (sym f ∙ ap (λ (v : Member C). v.movers.first) (sym q), sym two) in
    merging (Linked (links_of s.ties)) (Linked (links_of ns)) s.labels m.movers.first c x.0 y.0 w.islands x.1 y.1 (record {
      kept = λ a b k. links_more s.ties ns (λ z q. in_inserted number m s.ties z (inr q)) a b k;
      gained = λ a b k. elim k [
        | inl q ↦ let o = link_in ns a b q in elim (inserted_in number m s.ties o.0 o.1) [
          | inl r ↦ inr (inl (ends a b o.0 r o.2 o.3))
          | inr r ↦ inl (inl (in_links s.ties o.0 a b r o.2 o.3))
        ]
        | inr q ↦ let o = link_in ns b a q in elim (inserted_in number m s.ties o.0 o.1) [
          | inl r ↦ let p = ends b a o.0 r o.2 o.3 in inr (inr (p.1, p.0))
          | inr r ↦ inl (inr (in_links s.ties o.0 b a r o.2 o.3))
        ]
      ];
      there = here;
      back = linked_back (links_of ns) m.movers.first c here;
    })

pub beginning : {C : Type 0} (number : C → ℕ) (s : Acting C) (m : Member C) → IsConsistent number s → has_id number m.id s.ties ≡ false → AreMovers s.labels m.movers → is_mover_awake s.labels m.movers.first ≡ true → ((b : ℕ) → m.movers.second ≡ Some b → is_mover_awake s.labels b ≡ true) → IsConsistent number (begun number m s)
unfolding begun
beginning {C} number s m w fresh h a d =
    let new : Labels = united m.movers.second m.movers.first s.labels in
    let same : (t : ℕ) → is_mover_awake new t ≡ is_mover_awake s.labels t = λ t. united_awake s.labels m.movers.first t m.movers.second w.islands.partition h.first h.second a d in
    let acts : (x : Member C) → are_awake new x.movers ≡ are_awake s.labels x.movers = λ x. same_awake s.labels new x.movers.first x.movers.second (same x.movers.first) (λ b e. same b) in
    let on : (t : ℕ) → IsLabelled s.labels t → IsLabelled new t = λ t q. united_labelled s.labels m.movers.first t m.movers.second q in
    let one = places_one number s.lists m w.colouring (absent_from number m.id s.lists (λ x q. has_from number m.id s.ties x fresh ((w.acting x).0 q).0)) in
    record {
      rising = rising_inserted number m s.ties w.rising fresh;
      movers = λ x k. elim (inserted_in number m s.ties x k) [
        | inl q ↦ let P : Member C → Type 0 = λ v. AreMovers new v.movers in subst P q (movers_on s.labels new m.movers on h)
        | inr q ↦ movers_on s.labels new x.movers on (w.movers x q)
      ];
      islands = begun_islands number s m m.movers.second refl w h;
      colouring = one.colouring;
      acting = λ x. (
        (λ k. elim ((one.members x).0 k) [
          | inl q ↦ let P : Member C → Type 0 = λ v. are_awake new v.movers ≡ true in
              (in_inserted number m s.ties x (inl q), subst P q (acts m ∙ all_awake s.labels m.movers.first m.movers.second a d))
          | inr q ↦ let p = (w.acting x).0 q in (in_inserted number m s.ties x (inr p.0), acts x ∙ p.1)
        ]),
        (λ k. (one.members x).1 (elim (inserted_in number m s.ties x k.0) [
          | inl q ↦ inl q
          | inr q ↦ inr ((w.acting x).1 (q, sym (acts x) ∙ k.1))
        ])),
      );
    }

-- ---- the fold

turning : {C : Type 0} (number : C → ℕ) (old : Labels) (changes : List (Change C)) (s : Acting C) → IsConsistent number s → Labelled old s.labels → AreChanges number old s.ties changes → IsConsistent number (after_changes number changes s)
unfolding ended begun
turning number old [] s w on h = w
turning {C} number old (Begin m ∷ changes) s w on h =
    let a = wakes_both number m.movers.first m.movers.second s w in
    let now : Acting C = movers_woken number m.movers s in
    let P : List (Member C) → Type 0 = λ v. has_id number m.id v ≡ false in
    let Q : List (Member C) → Type 0 = λ v. AreChanges number old (inserted number m v) changes in
    let there : AreMovers s.labels m.movers = movers_on old s.labels m.movers on h.1 in
    let next : IsConsistent number (begun number m now) = beginning number now m a.consistent (subst P (sym a.ties) h.0) (movers_on s.labels now.labels m.movers a.labelled there) (a.one there.first) (λ b e. a.two b e (there.second b e)) in
    turning number old changes (begun number m now) next
    (λ t q. united_labelled now.labels m.movers.first t m.movers.second (a.labelled t (on t q)))
    (subst Q (sym a.ties) h.2)
turning {C} number old (End m ∷ changes) s w on h =
    let a = wakes_both number m.movers.first m.movers.second s w in
    let now : Acting C = movers_woken number m.movers s in
    let P : List (Member C) → Type 0 = λ v. Contains v m in
    let Q : List (Member C) → Type 0 = λ v. AreChanges number old (without_member number m.id v) changes in
    let next : IsConsistent number (ended number m now) = ending number now m a.consistent (subst P (sym a.ties) h.0) (a.one (w.movers m h.0).first) in
    turning number old changes (ended number m now) next
    (λ t q. parted_labelled now.labels m.movers.first t m.movers.second (a.labelled t (on t q)))
    (subst Q (sym a.ties) h.1)

-- ---- an island is put to rest

pub resting : {C : Type 0} (number : C → ℕ) (s : Acting C) (name : ℕ) (l : Label) → IsConsistent number s → label_at s.labels name ≡ Some l → l.name ≡ name → is_loose l.state ≡ false → IsConsistent number (put_to_rest number name s)
unfolding put_to_rest rested
resting {C} number s name l w e k n =
    let new : Labels = with_state name Asleep s.labels in
    let many : Releases number s.lists (ties_of_mover s name) = releases number (ties_of_mover s name) s.lists w.colouring in
    let acts : (x : Member C) → NoneIn s.labels name x.movers.first x.movers.second → are_awake new x.movers ≡ are_awake s.labels x.movers = λ x p.
    same_awake s.labels new x.movers.first x.movers.second (awake_out s.labels name Asleep x.movers.first p.one) (λ b r. awake_out s.labels name Asleep b (p.two b r)) in
    record {
      rising = w.rising;
      movers = λ m h. movers_on s.labels new m.movers (λ t q. stated_labelled s.labels name Asleep t q) (w.movers m h);
      islands = changing_state (Linked (links_of s.ties)) s.labels name Asleep l w.islands e k n;
      colouring = many.colouring;
      acting = λ x. (
        (λ h. let o = (many.members x).0 h in let p = (w.acting x).0 o.0 in elim (of_island number s name x w p.0) [
          | inl q ↦ absurd (o.1 x (in_filter (has_mover_of s.labels name) s.ties x p.0 q.0) refl)
          | inr q ↦ (p.0, acts x q.1 ∙ p.1)
        ]),
        (λ h. (many.members x).1 (elim (of_island number s name x w h.0) [
          | inl q ↦ absurd (false≢true (sym (awake_in s.labels name Asleep x.movers.first q.1.one) ∙ awake_first new x.movers.first x.movers.second h.1))
          | inr q ↦ (
            (w.acting x).1 (h.0, sym (acts x q.1) ∙ h.1),
            λ y r f.
                let o = filter_in (has_mover_of s.labels name) s.ties y r in
                let same : x ≡ y = one_of number s.ties x y w.rising h.0 o.0 f in
                false≢true (sym q.0 ∙ ap (λ (v : Member C). has_mover_of s.labels name v) same ∙ o.1),
          )
        ])),
      );
    }

-- ---- what it means

sleepers : {C : Type 0} (number : C → ℕ) (s : Acting C) (slot : ℕ) (l : Label) → IsConsistent number s → label_at s.labels slot ≡ Some l → is_asleep l.state ≡ true
    → (is_loose l.state ≡ false) × ((other : ℕ) → (label_at s.labels other ≡ Some l) ↔ Joined (Linked (links_of s.ties)) slot other)
sleepers number s slot l w e a =
    let R : ℕ → ℕ → Type 0 = Linked (links_of s.ties) in
    let P : ℕ → Type 0 = λ t. label_at s.labels t ≡ Some l in (
      asleep_whole l.state a,
      λ t. (
        (λ h. w.islands.connected slot t l e h (asleep_whole l.state a)),
        (λ j. (joined_within R R P slot t (λ u v r k. let o = w.islands.together u v r in (r, o.2 ∙ ap (λ x. Some x) (one_label s.labels u o.0 l o.1 k))) e j).1),
      ),
    )

-- ---- the laws

pub waking_keeps : {C : Type 0} (number : C → ℕ) → WakingKeeps number
waking_keeps number s slot w = (wakes number slot s w).consistent

pub changing_keeps : {C : Type 0} (number : C → ℕ) → ChangingKeeps number
changing_keeps number s changes w h = turning number s.labels changes s w (λ t q. q) h

pub resting_keeps : {C : Type 0} (number : C → ℕ) → RestingKeeps number
resting_keeps number s name l w e k n = resting number s name l w e k n

pub sleepers_are : {C : Type 0} (number : C → ℕ) → SleepersAreOneComponent number
sleepers_are number s slot l w e a = sleepers number s slot l w e a

pub linked_stand : {C : Type 0} (number : C → ℕ) → LinkedStandTogether number
linked_stand number s a b w h = let o = w.islands.together a b h in let same : label_at s.labels a ≡ label_at s.labels b = o.1 ∙ sym o.2 in (same, ap awake_label same)

pub ending_keeps : {C : Type 0} (number : C → ℕ) → EndingKeeps number
ending_keeps number s m w h a = ending number s m w h a

-- what is awake has a label
labelled_if : (o : Option Label) → awake_label o ≡ true → (l : Label) × (o ≡ Some l)
labelled_if None h = absurd (false≢true h)
labelled_if (Some l) h = (l, refl)

second_of : (labels : Labels) (o : Option ℕ) (b : ℕ) → option_map_or (is_mover_awake labels) o true ≡ true → o ≡ Some b → is_mover_awake labels b ≡ true
second_of labels None b h e = absurd (let no : None ≡ Some b = e in cc)
second_of labels (Some c) b h e = let same : c ≡ b = cc in let P : ℕ → Type 0 = λ v. is_mover_awake labels v ≡ true in subst P same h

pub beginning_keeps : {C : Type 0} (number : C → ℕ) → BeginningKeeps number
beginning_keeps number s m w fresh a =
    let both = and_is (is_mover_awake s.labels m.movers.first) (option_map_or (is_mover_awake s.labels) m.movers.second true) a in
    let two : (b : ℕ) → m.movers.second ≡ Some b → is_mover_awake s.labels b ≡ true = λ b e. second_of s.labels m.movers.second b both.1 e in
    beginning number s m w fresh (record { first = labelled_if (label_at s.labels m.movers.first) both.0; second = λ b e. labelled_if (label_at s.labels b) (two b e) }) both.0 two
