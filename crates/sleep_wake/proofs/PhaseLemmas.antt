-- What keeps the sets as bodies come and go, and in the sleep phase.
use Rattle.std.proofs.Common.{◌≡◌, ◌≢◌, ℕ, suc, ◌<◌, ◌+◌, ◌⊎◌, Bool, true, false, not, cond, ◌&&◌, ◌||◌, ◌==◌, List, [], ◌∷◌, Option, Some, None, inl, inr, refl, sym, ap, ◌∙◌, subst, arith, length}
use Rattle.graph_colours.proofs.ListLemmas.{pairs_none}
use Rattle.std.specs.Prelude.{Contains, filter, All, IfSome, fold}
use Rattle.std.proofs.lemmas.Bool.{false≢true, cases_lt, eqb-true, eq-eqb, lt-ltb, le-ltb}
use Rattle.std.proofs.lemmas.List.Elements.{All-nil, All-cons}
use Rattle.std.specs.Option.{option_map_or}
use Rattle.fixed_geom.proofs.UnbeatenLemmas.{found_is}
use Rattle.graph_colours.specs.declared.member.Movers.{Movers}
use Rattle.graph_colours.specs.declared.member.Member.{Member}
use Rattle.graph_colours.specs.Movers.{has_mover}
use Rattle.islands.specs.declared.label.IslandState.{IslandState}
use Rattle.islands.specs.declared.label.IslandState.TheVariants.{Whole, Loose, Asleep}
use Rattle.islands.specs.declared.label.Label.{Label}
use Rattle.islands.specs.Links.{Linked}
use Rattle.islands.specs.Labels.{Labels, label_at, is_in, IsIn, is_asleep, is_loose, own_label, added, taken_out, left_behind, relabelled, lowest_member, split_by, rested, with_state}
use Rattle.islands.specs.Partition.{IsPartition, AreIslands, IsSplit}
use Rattle.islands.specs.Laws.{AreLinksOf}
use Rattle.islands.proofs.LabelLemmas.{in_is, in_case, one_label, either_case, either_to, either_one, others_stay, rest_of, rest_stays, added_other}
use Rattle.islands.proofs.KeptLemmas.{same_links, adding, taking_out}
use Rattle.islands.proofs.SplitLemmas.{IsLabelled, splitting_keeps as splits_keep}
use Rattle.sleep_wake.specs.Acting.{Acting, AreMovers, IsConsistent, links_of, awake_label, is_mover_awake, are_awake}
use Rattle.sleep_wake.specs.Waking.{released_all, put_to_rest}
use Rattle.sleep_wake.specs.Bodies.{dropped, mover_gone, mover_made}
use Rattle.sleep_wake.specs.SleepPhase.{split_at, is_island, is_time_to_sleep, least_timer, ready_from, ready, picked_to_split, split_picked, ready_put_to_rest, edges_in}
use Rattle.sleep_wake.specs.Laws.{DroppingKeeps, GoingKeeps, MakingKeeps, SplittingKeeps, SleepPhaseKeeps, EmptyIsConsistent}
use Rattle.sleep_wake.proofs.ListLemmas.{none_in, filter_in, in_filter, one_of, releases, Releases, rising_filter, link_in, in_links, links_more}
use Rattle.sleep_wake.proofs.AwakeLemmas.{same_awake, awake_as}
use Rattle.sleep_wake.proofs.KeptLemmas.{resting}

pub not_is : (t : Bool) → not t ≡ true → t ≡ false
not_is true h = absurd (false≢true h)
not_is false h = refl

pick_case : (t : Bool) → (t ≡ true) ⊎ (t ≡ false)
pick_case true = inl refl
pick_case false = inr refl

-- ---- constraints that go

abbrev Stays : {C : Type 0} → (Member C → Bool) → List (Member C) → List (Member C)
Stays p ms = filter (λ m. not (p m)) ms

stays_in : {C : Type 0} (p : Member C → Bool) (ms : List (Member C)) (x : Member C) → Contains (Stays p ms) x → Contains ms x × (p x ≡ false)
stays_in p ms x h = let o = filter_in (λ m. not (p m)) ms x h in (o.0, not_is (p x) o.1)

in_stays : {C : Type 0} (p : Member C → Bool) (ms : List (Member C)) (x : Member C) → Contains ms x → p x ≡ false → Contains (Stays p ms) x
in_stays p ms x h k = in_filter (λ m. not (p m)) ms x h (ap not k)

-- whatever the labels become, as long as those of the constraints that stay keep who is awake
drops : {C : Type 0} (number : C → ℕ) (s : Acting C) (p : Member C → Bool) (new : Labels) → IsConsistent number s → AreIslands (Linked (links_of (Stays p s.ties))) new
    → ((m : Member C) → Contains s.ties m → p m ≡ false → AreMovers new m.movers × (are_awake new m.movers ≡ are_awake s.labels m.movers))
    → IsConsistent number (record { ties = Stays p s.ties; labels = new; lists = released_all number s.lists (filter p s.ties) })
drops {C} number s p new w islands kept =
    let many : Releases number s.lists (filter p s.ties) = releases number (filter p s.ties) s.lists w.colouring in
    record {
      rising = rising_filter number (λ m. not (p m)) s.ties w.rising;
      movers = λ x h. let o = stays_in p s.ties x h in (kept x o.0 o.1).0;
      islands = islands;
      colouring = many.colouring;
      acting = λ x. (
        (λ h. let o = (many.members x).0 h in let q = (w.acting x).0 o.0 in elim (pick_case (p x)) [
          | inl r ↦ absurd (o.1 x (in_filter p s.ties x q.0 r) refl)
          | inr r ↦ (in_stays p s.ties x q.0 r, (kept x q.0 r).1 ∙ q.1)
        ]),
        (λ h. let o = stays_in p s.ties x h.0 in (many.members x).1 (
          (w.acting x).1 (o.0, sym (kept x o.0 o.1).1 ∙ h.1),
          λ y r f.
              let q = filter_in p s.ties y r in
              let same : x ≡ y = one_of number s.ties x y w.rising o.0 q.0 f in
              false≢true (sym o.1 ∙ ap p same ∙ q.1),
        )),
      );
    }

pub dropping_keeps : {C : Type 0} (number : C → ℕ) → DroppingKeeps number
unfolding dropped
dropping_keeps {C} number s p w single =
    let ns : List (Member C) = Stays p s.ties in
    let off : (x : Member C) (b : ℕ) → Contains s.ties x → x.movers.second ≡ Some b → p x ≡ false = λ x b h e. elim (pick_case (p x)) [
      | inl r ↦ absurd (let no : None ≡ Some b = sym (single x h r) ∙ e in cc)
      | inr r ↦ r
    ] in
    drops number s p s.labels w
    (same_links (Linked (links_of s.ties)) (Linked (links_of ns)) s.labels
    (λ a b k. elim k [
      | inl q ↦ let o = link_in s.ties a b q in inl (in_links ns o.0 a b (in_stays p s.ties o.0 o.1 (off o.0 b o.1 o.3)) o.2 o.3)
      | inr q ↦ let o = link_in s.ties b a q in inr (in_links ns o.0 b a (in_stays p s.ties o.0 o.1 (off o.0 a o.1 o.3)) o.2 o.3)
    ])
    (λ a b k. links_more ns s.ties (λ x q. (stays_in p s.ties x q).0) a b k)
    w.islands)
    (λ m h q. (w.movers m h, refl))

-- ---- a mover goes

or_false : (x y : Bool) → (x || y) ≡ false → (x ≡ false) × (y ≡ false)
or_false true y h = absurd (false≢true (sym h))
or_false false y h = (refl, h)

not_slot : (a slot : ℕ) → (a == slot) ≡ false → a ≢ slot
not_slot a slot h e = false≢true (sym h ∙ eq-eqb a slot e)

-- a constraint without the mover
without_mover : (m : Movers) (slot : ℕ) → has_mover m slot ≡ false → (m.first ≢ slot) × ((b : ℕ) → m.second ≡ Some b → b ≢ slot)
without_mover m slot h = let o = or_false (m.first == slot) (option_map_or (λ other. other == slot) m.second false) h in (not_slot m.first slot o.0, λ b e. not_slot b slot (sym (ap (λ v. option_map_or (λ other. other == slot) v false) e) ∙ o.1))

with_mover_by : (a slot : ℕ) (o : Option ℕ) (t : Bool) → (a == slot) ≡ t → ((a == slot) || option_map_or (λ other. other == slot) o false) ≡ true → (a ≡ slot) ⊎ (o ≡ Some slot)
with_mover_by a slot o true e h = inl (eqb-true a slot e)
with_mover_by a slot None false e h = let k : false ≡ true = rw e at h in absurd (false≢true k)
with_mover_by a slot (Some b) false e h = let k : (b == slot) ≡ true = rw e at h in inr (ap (λ v. Some v) (eqb-true b slot k))

with_mover : (m : Movers) (slot : ℕ) → has_mover m slot ≡ true → (m.first ≡ slot) ⊎ (m.second ≡ Some slot)
with_mover m slot h = with_mover_by m.first slot m.second (m.first == slot) refl h

-- the others of an awake island stay awake, and all keep labels
left_awake : (labels : Labels) (slot t : ℕ) (l : Label) → IsPartition labels → label_at labels slot ≡ Some l → is_asleep l.state ≡ false → t ≢ slot
    → (is_mover_awake (left_behind (lowest_member l.name (rest_of labels slot)) l.name (rest_of labels slot)) t ≡ is_mover_awake labels t)
    × (IsLabelled labels t → IsLabelled (left_behind (lowest_member l.name (rest_of labels slot)) l.name (rest_of labels slot)) t)
left_awake labels slot t l p e a off =
    let rest : Labels = rest_of labels slot in
    let stays : label_at rest t ≡ label_at labels t = rest_stays labels slot t off in
    let to : Label = record { name = lowest_member l.name rest; state = Loose } in
    elim (cases_lt (lowest_member l.name rest) (length rest)) [
      | inl found ↦ rw (lt-ltb (lowest_member l.name rest) (length rest) found) (elim (either_case l.name l.name (label_at rest t)) [
        | inl h ↦
            let here : IsIn labels l.name t = ap (λ o. is_in o l.name) (sym stays) ∙ either_one l.name (label_at rest t) h in
            let was : is_mover_awake labels t ≡ true = awake_as labels l.name t l p (p.named slot l e) refl here ∙ ap not a in
            let now : label_at (relabelled l.name l.name to rest) t ≡ Some to = either_to l.name l.name to rest t h in
            (ap awake_label now ∙ sym was, λ k. (to, now))
        | inr h ↦ let now : label_at (relabelled l.name l.name to rest) t ≡ label_at labels t = others_stay l.name l.name to rest t h ∙ stays in
            (ap awake_label now, λ k. (k.0, now ∙ k.1))
      ])
      | inr gone ↦ rw (le-ltb (lowest_member l.name rest) (length rest) gone) (ap awake_label stays, λ k. (k.0, stays ∙ k.1))
    ]

going_by : {C : Type 0} (number : C → ℕ) (s : Acting C) (slot : ℕ) (o : Option Label) → label_at s.labels slot ≡ o → IsConsistent number s → awake_label o ≡ true → IsConsistent number (mover_gone number slot s)
unfolding mover_gone taken_out
going_by number s slot None e w a = absurd (false≢true a)
going_by {C} number s slot (Some l) e w a =
    let p : Member C → Bool = λ m. has_mover m.movers slot in
    let ns : List (Member C) = Stays p s.ties in
    let up : is_asleep l.state ≡ false = not_is (is_asleep l.state) a in
    let islands : AreIslands (Linked (links_of ns)) (taken_out s.labels slot) = taking_out (Linked (links_of s.ties)) (Linked (links_of ns)) s.labels slot w.islands (record {
      kept = λ x y k. links_more ns s.ties (λ m q. (stays_in p s.ties m q).0) x y k;
      lost = λ x y k.
          let o = w.islands.together x y k in
          elim k [
            | inl q ↦ let m = link_in s.ties x y q in elim (pick_case (p m.0)) [
              | inl r ↦ inr (elim (with_mover m.0.movers slot r) [
                | inl f ↦ (o.0, ap (λ n. label_at s.labels n) (sym f ∙ m.2) ∙ o.1, o.1)
                | inr f ↦ let g : Some slot ≡ Some y = sym f ∙ m.3 in let same : slot ≡ y = cc in (o.0, ap (λ n. label_at s.labels n) same ∙ o.2, o.1)
              ])
              | inr r ↦ inl (inl (in_links ns m.0 x y (in_stays p s.ties m.0 m.1 r) m.2 m.3))
            ]
            | inr q ↦ let m = link_in s.ties y x q in elim (pick_case (p m.0)) [
              | inl r ↦ inr (elim (with_mover m.0.movers slot r) [
                | inl f ↦ (o.0, ap (λ n. label_at s.labels n) (sym f ∙ m.2) ∙ o.2, o.1)
                | inr f ↦ let g : Some slot ≡ Some x = sym f ∙ m.3 in let same : slot ≡ x = cc in (o.0, ap (λ n. label_at s.labels n) same ∙ o.1, o.1)
              ])
              | inr r ↦ inl (inr (in_links ns m.0 y x (in_stays p s.ties m.0 m.1 r) m.2 m.3))
            ]
          ];
    })
    (λ x y k ends. elim k [
      | inl q ↦ let m = link_in ns x y q in let o = without_mover m.0.movers slot (stays_in p s.ties m.0 m.1).1 in
          elim ends [ inl f ↦ o.0 (m.2 ∙ f) | inr f ↦ o.1 y m.3 f ]
      | inr q ↦ let m = link_in ns y x q in let o = without_mover m.0.movers slot (stays_in p s.ties m.0 m.1).1 in
          elim ends [ inl f ↦ o.1 x m.3 f | inr f ↦ o.0 (m.2 ∙ f) ]
    ]) in
    let new : Labels = left_behind (lowest_member l.name (rest_of s.labels slot)) l.name (rest_of s.labels slot) in
    let opened : taken_out s.labels slot ≡ new = rw e refl in
    let P : Labels → Type 0 = λ v. AreIslands (Linked (links_of ns)) v in
    let Q : Labels → Type 0 = λ v. IsConsistent number (record { ties = ns; labels = v; lists = released_all number s.lists (filter p s.ties) }) in
    subst Q (sym opened) (drops number s p new w (subst P opened islands) (λ m h r.
    let o = without_mover m.movers slot r in
    let v = w.movers m h in
    let first = left_awake s.labels slot m.movers.first l w.islands.partition e up o.0 in (
      record { first = first.1 v.first; second = λ b f. (left_awake s.labels slot b l w.islands.partition e up (o.1 b f)).1 (v.second b f) },
      same_awake s.labels new m.movers.first m.movers.second first.0 (λ b f. (left_awake s.labels slot b l w.islands.partition e up (o.1 b f)).0),
    )))

pub going_keeps : {C : Type 0} (number : C → ℕ) → GoingKeeps number
going_keeps number s slot w a = going_by number s slot (label_at s.labels slot) refl w a

-- ---- a mover comes

pub making_keeps : {C : Type 0} (number : C → ℕ) → MakingKeeps number
unfolding mover_made
making_keeps {C} number s slot w fresh =
    let new : Labels = added s.labels slot in
    let off : (t : ℕ) → IsLabelled s.labels t → t ≢ slot = λ t h k. let no : None ≡ Some h.0 = sym fresh ∙ ap (λ n. label_at s.labels n) (sym k) ∙ h.1 in cc in
    let on : (t : ℕ) → IsLabelled s.labels t → label_at new t ≡ label_at s.labels t = λ t h. added_other s.labels slot t (off t h) in
    let acts : (m : Member C) → Contains s.ties m → are_awake new m.movers ≡ are_awake s.labels m.movers = λ m h. let v = w.movers m h in
    same_awake s.labels new m.movers.first m.movers.second (ap awake_label (on m.movers.first v.first)) (λ b f. ap awake_label (on b (v.second b f))) in
    record {
      rising = w.rising;
      movers = λ m h. let v = w.movers m h in record { first = (v.first.0, on m.movers.first v.first ∙ v.first.1); second = λ b f. let u = v.second b f in (u.0, on b u ∙ u.1) };
      islands = adding (Linked (links_of s.ties)) s.labels slot w.islands fresh;
      colouring = w.colouring;
      acting = λ x. ((λ h. let o = (w.acting x).0 h in (o.0, acts x o.0 ∙ o.1)), (λ h. (w.acting x).1 (h.0, sym (acts x h.0) ∙ h.1)));
    }

-- ---- a split

pub edges_are : {C : Type 0} (number : C → ℕ) (s : Acting C) (name : ℕ) → IsConsistent number s → AreLinksOf (links_of s.ties) s.labels name (edges_in s.labels name s.ties)
edges_are number s name w =
    let p : ℕ × ℕ → Bool = λ e. is_in (label_at s.labels e.0) name in
    let on : (a b : ℕ) → Linked (links_of s.ties) a b → IsIn s.labels name a → IsIn s.labels name b = λ a b h k. let o = w.islands.together a b h in ap (λ v. is_in v name) (o.2 ∙ sym o.1) ∙ k in
    record {
      links = λ a b h. elim h [ inl k ↦ inl (filter_in p (links_of s.ties) (a, b) k).0 | inr k ↦ inr (filter_in p (links_of s.ties) (b, a) k).0 ];
      all = λ a b h k. elim h [ inl q ↦ inl (in_filter p (links_of s.ties) (a, b) q k) | inr q ↦ inr (in_filter p (links_of s.ties) (b, a) q (on a b (inr q) k)) ];
      inside = λ a b h. let o = filter_in p (links_of s.ties) (a, b) h in (o.1, on a b (inl o.0) o.1);
    }

pub splitting_keeps : {C : Type 0} (number : C → ℕ) → SplittingKeeps number
unfolding split_at
splitting_keeps {C} number s name l w e k a =
    let new : Labels = split_by s.labels name (edges_in s.labels name s.ties) in
    let both = splits_keep (links_of s.ties) s.labels name (edges_in s.labels name s.ties) w.islands (edges_are number s name w) in
    let parts : IsSplit s.labels name (edges_in s.labels name s.ties) new = both.1 in
    let same : (t : ℕ) → is_mover_awake new t ≡ is_mover_awake s.labels t = λ t. elim (in_case (label_at s.labels t) name) [
      | inl h ↦ ap awake_label (parts.members t h).label ∙ sym (awake_as s.labels name t l w.islands.partition e k h ∙ ap not a)
      | inr h ↦ ap awake_label (parts.others t h)
    ] in
    let on : (t : ℕ) → IsLabelled s.labels t → IsLabelled new t = λ t q. elim (in_case (label_at s.labels t) name) [
      | inl h ↦ (own_label (parts.members t h).name, (parts.members t h).label)
      | inr h ↦ (q.0, parts.others t h ∙ q.1)
    ] in
    let acts : (m : Member C) → are_awake new m.movers ≡ are_awake s.labels m.movers = λ m. same_awake s.labels new m.movers.first m.movers.second (same m.movers.first) (λ b f. same b) in
    record {
      rising = w.rising;
      movers = λ m h. let v = w.movers m h in record { first = on m.movers.first v.first; second = λ b f. on b (v.second b f) };
      islands = both.0;
      colouring = w.colouring;
      acting = λ x. ((λ h. let o = (w.acting x).0 h in (o.0, acts x ∙ o.1)), (λ h. (w.acting x).1 (h.0, sym (acts x) ∙ h.1)));
    }

-- ---- the sleep phase

pub and_is : (x y : Bool) → (x && y) ≡ true → (x ≡ true) × (y ≡ true)
and_is true y h = (refl, h)
and_is false y h = absurd (false≢true h)

-- an island of this name, in the state that is asked for
abbrev pub IsNamedIsland : Bool → Labels → ℕ → Type 0
IsNamedIsland loose labels name = is_island loose name (label_at labels name) ≡ true

abbrev pub AreAll : (ℕ → Type 0) → List ℕ → Type 0
AreAll P [] = Unit {0}
AreAll P (n ∷ ns) = P n × AreAll P ns

pub all_if : (P : ℕ → Type 0) (t : Bool) (n : ℕ) (ns : List ℕ) → (t ≡ true → P n) → AreAll P ns → AreAll P (cond t (n ∷ ns) ns)
all_if P true n ns f h = (f refl, h)
all_if P false n ns f h = h

ready_are : (loose : Bool) (labels : Labels) (timers : List ℕ) (slot : ℕ) (rest : Labels) → ((k : ℕ) → label_at labels (slot + k) ≡ label_at rest k) → AreAll (IsNamedIsland loose labels) (ready_from loose labels timers slot rest)
ready_are loose labels timers slot [] at = tt
ready_are loose labels timers slot (o ∷ rest) at =
    let here : label_at labels slot ≡ o = let same : slot + 0 ≡ slot = omega arith in ap (λ n. label_at labels n) (sym same) ∙ at 0 in
    all_if (IsNamedIsland loose labels) (is_island loose slot o && is_time_to_sleep (least_timer slot labels timers)) slot (ready_from loose labels timers (suc slot) rest)
    (λ h. ap (is_island loose slot) here ∙ (and_is (is_island loose slot o) (is_time_to_sleep (least_timer slot labels timers)) h).0)
    (ready_are loose labels timers (suc slot) rest (λ k. let same : suc slot + k ≡ slot + suc k = omega arith in ap (λ n. label_at labels n) same ∙ at (suc k)))

ready_all : (loose : Bool) (labels : Labels) (timers : List ℕ) → AreAll (IsNamedIsland loose labels) (ready loose labels timers)
ready_all loose labels timers = ready_are loose labels timers 0 labels (λ k. let same : 0 + k ≡ k = omega arith in ap (λ n. label_at labels n) same)

pub record Names (labels : Labels) (name : ℕ) (loose : Bool) : Type 0 where
  pub l : Label
  pub at : label_at labels name ≡ Some l
  pub named : l.name ≡ name
  pub loosely : is_loose l.state ≡ loose
  pub awake : is_asleep l.state ≡ false

loose_awake : (state : IslandState) → is_loose state ≡ true → is_asleep state ≡ false
loose_awake Whole h = refl
loose_awake Loose h = refl
loose_awake Asleep h = absurd (false≢true h)

names_by : (labels : Labels) (name : ℕ) (loose : Bool) (o : Option Label) → label_at labels name ≡ o → is_island loose name o ≡ true → Names labels name loose
names_by labels name true None e h = absurd (false≢true h)
names_by labels name false None e h = absurd (false≢true h)
names_by labels name true (Some l) e h = let o = and_is (l.name == name) (is_loose l.state) h in record { l = l; at = e; named = eqb-true l.name name o.0; loosely = o.1; awake = loose_awake l.state o.1 }
names_by labels name false (Some l) e h = let o = and_is (l.name == name) (not (is_loose l.state) && not (is_asleep l.state)) h in
    let q = and_is (not (is_loose l.state)) (not (is_asleep l.state)) o.1 in
    record { l = l; at = e; named = eqb-true l.name name o.0; loosely = not_is (is_loose l.state) q.0; awake = not_is (is_asleep l.state) q.1 }

pub names : (labels : Labels) (name : ℕ) (loose : Bool) → IsNamedIsland loose labels name → Names labels name loose
names labels name loose h = names_by labels name loose (label_at labels name) refl h

pub as_all : (P : ℕ → Type 0) (ns : List ℕ) → AreAll P ns → All P ns
as_all P [] h = All-nil P
as_all P (n ∷ ns) h = All-cons P n ns h.0 (as_all P ns h.1)

-- one that is picked is a loose island
pub picked_is : (labels : Labels) (timers : List ℕ) (n : ℕ) → picked_to_split labels timers ≡ Some n → is_island true n (label_at labels n) ≡ true
picked_is labels timers n e =
    let P : ℕ → Type 0 = IsNamedIsland true labels in
    let loose : List ℕ = ready true labels timers in
    subst (λ (o : Option ℕ). IfSome o P) e (found_is P _ loose (as_all P loose (ready_all true labels timers)))

pub split_keeps : {C : Type 0} (number : C → ℕ) (s : Acting C) (o : Option ℕ) → IsConsistent number s → ((n : ℕ) → o ≡ Some n → IsNamedIsland true s.labels n) → IsConsistent number (split_picked o s)
split_keeps number s None w f = w
split_keeps number s (Some name) w f = let o = names s.labels name true (f name refl) in splitting_keeps number s name o.l w o.at o.named o.awake

-- an island that may be put to rest, or was
abbrev MayRest : Labels → ℕ → Type 0
MayRest labels name = (l : Label) × (label_at labels name ≡ Some l) × (l.name ≡ name) × (is_loose l.state ≡ false)

may_after : (labels : Labels) (other name : ℕ) → MayRest labels name → MayRest (with_state other Asleep labels) name
may_after labels other name o = elim (either_case other other (label_at labels name)) [
  | inl h ↦ let i = in_is (label_at labels name) other (either_one other (label_at labels name) h) in
      let same : other ≡ name = sym i.2 ∙ ap (λ (v : Label). v.name) (one_label labels name i.0 o.0 i.1 o.1) ∙ o.2 in
      (record { name = other; state = Asleep }, either_to other other (record { name = other; state = Asleep }) labels name h, same, refl)
  | inr h ↦ (o.0, others_stay other other (record { name = other; state = Asleep }) labels name h ∙ o.1, o.2, o.3)
]

pub all_on : (P Q : ℕ → Type 0) (ns : List ℕ) → ((n : ℕ) → P n → Q n) → AreAll P ns → AreAll Q ns
all_on P Q [] f h = tt
all_on P Q (n ∷ ns) f h = (f n h.0, all_on P Q ns f h.1)

rest_keeps : {C : Type 0} (number : C → ℕ) (ns : List ℕ) (s : Acting C) → IsConsistent number s → AreAll (MayRest s.labels) ns → IsConsistent number (fold (λ now name. put_to_rest number name now) s ns)
unfolding put_to_rest rested
rest_keeps number [] s w h = w
rest_keeps number (n ∷ ns) s w h =
    rest_keeps number ns (put_to_rest number n s) (resting number s n h.0.0 w h.0.1 h.0.2 h.0.3)
    (all_on (MayRest s.labels) (MayRest (with_state n Asleep s.labels)) ns (λ m o. may_after s.labels n m o) h.1)

pub ready_consistent : {C : Type 0} (number : C → ℕ) (timers : List ℕ) (s : Acting C) → IsConsistent number s → IsConsistent number (ready_put_to_rest number timers s)
ready_consistent number timers s w =
    rest_keeps number (ready false s.labels timers) s w
    (all_on (IsNamedIsland false s.labels) (MayRest s.labels) (ready false s.labels timers) (λ n h. let o = names s.labels n false h in (o.l, o.at, o.named, o.loosely)) (ready_all false s.labels timers))

pub sleeping_keeps : {C : Type 0} (number : C → ℕ) → SleepPhaseKeeps number
sleeping_keeps {C} number s timers w =
    let now : Acting C = split_picked (picked_to_split s.labels timers) s in
    ready_consistent number timers now (split_keeps number s (picked_to_split s.labels timers) w (λ n e. picked_is s.labels timers n e))

-- ---- nothing at all

pub empty_consistent : {C : Type 0} (number : C → ℕ) → EmptyIsConsistent number
empty_consistent {C} number lists w none = record {
  rising = pairs_none (λ a b. number a.id < number b.id);
  movers = λ m h. absurd (none_in m h);
  islands = record {
    partition = record { low = λ s l e. absurd (let no : None ≡ Some l = e in cc); named = λ s l e. absurd (let no : None ≡ Some l = e in cc) };
    together = λ a b h. absurd (elim h [ inl k ↦ omega (arith, k.1) | inr k ↦ omega (arith, k.1) ]);
    connected = λ a b l e f n. absurd (let no : None ≡ Some l = e in cc);
  };
  colouring = w;
  acting = λ m. (λ h. absurd (let P : List (Member C) → Type 0 = λ v. Contains v m in none_in m (subst P none h)), λ h. absurd (none_in m h.0));
}
