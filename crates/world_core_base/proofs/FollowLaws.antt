-- Items that wake or fall asleep as their bodies have: what the sets have once one has followed, and once all of a list
-- have.
use Rattle.std.proofs.Common.{◌≡◌, ◌⊎◌, ℕ, zero, suc, ◌+◌, ◌<◌, ◌≤◌, Bool, cond, List, [], ◌∷◌, length, map, get_or, slice_set, Option, Some, None, inl, inr, refl, sym, ap, ◌∙◌, subst, arith}
use Rattle.std.specs.Prelude.{◌≢◌, ◌/◌, Contains}
use Rattle.std.proofs.lemmas.Bool.{cases_eq, cases_lt}
use Rattle.std.proofs.lemmas.List.{get_or-map, get_or-set_other, get_or-set_same, length-map, length-set}
use Rattle.graph_colours.proofs.PlaceLemmas.{is_same, not_same}
use Rattle.world_core_base.specs.JointEnds.{halves}
use Rattle.world_core_base.specs.Following.{CanFollow, HaveFollowed, followed, followed_from, placed, woken_unless}
use Rattle.world_core_base.specs.Sleeping.{sleep_at, woken}

-- ---- the names of items

pub sleep_put : (names : List (Option ℕ)) (id : ℕ) (o : Option ℕ) → id < length names → sleep_at (slice_set names id o) id ≡ o
sleep_put names id o lt = get_or-set_same names id o None lt

pub sleep_beside : (names : List (Option ℕ)) (id other : ℕ) (o : Option ℕ) → other ≢ id → sleep_at (slice_set names id o) other ≡ sleep_at names other
sleep_beside names id other o off = get_or-set_other names id other o None off

pub woken_at : (name : ℕ) (names : List (Option ℕ)) (id : ℕ) → sleep_at (map (woken name) names) id ≡ woken name (sleep_at names id)
woken_at name [] id = refl
woken_at name (o ∷ names) zero = refl
woken_at name (o ∷ names) (suc id) = woken_at name names id

-- what wakes slept under the name, and all else stays
pub woken_each : (name : ℕ) (o : Option ℕ) → (woken name o ≡ o) ⊎ ((o ≡ Some name) × (woken name o ≡ None))
woken_each name None = inl refl
woken_each name (Some other) = elim (cases_eq other name) [
  | inl same ↦ inr (ap (λ (n : ℕ). Some n) same, ap (λ (t : Bool). cond t None (Some other)) (is_same other name same))
  | inr apart ↦ inl (ap (λ (t : Bool). cond t None (Some other)) (not_same other name apart))
]

pub woken_own : (name : ℕ) → woken name (Some name) ≡ None
woken_own name = ap (λ (t : Bool). cond t None (Some name)) (is_same name name refl)

-- ---- one item

-- only the one item is done
abbrev pub IsOne : ℕ → ℕ → Type 0
IsOne id other = other ≡ id

none_moved : (now : ℕ → Option ℕ) (id : ℕ) (old : List (Option ℕ)) → sleep_at old id ≡ now id → HaveFollowed now (IsOne id) old old
none_moved now id old e = record {
  each = λ k. inl refl;
  done = λ k same. ap (sleep_at old) same ∙ e ∙ ap now (sym same);
  long = refl;
}

placed_law : (now : ℕ → Option ℕ) (id : ℕ) (old : List (Option ℕ)) (t : Option ℕ) → now id ≡ t → sleep_at old id ≡ None → ((name : ℕ) → t ≡ Some name → id < length old) → HaveFollowed now (IsOne id) old (placed t id old)
placed_law now id old None e up below = none_moved now id old (up ∙ sym e)
placed_law now id old (Some name) e up below =
    let here : sleep_at (slice_set old id (Some name)) id ≡ now id = sleep_put old id (Some name) (below name refl) ∙ sym e in
    let own : (k : ℕ) → k ≡ id → sleep_at (slice_set old id (Some name)) k ≡ now k = λ k same. ap (sleep_at (slice_set old id (Some name))) same ∙ here ∙ ap now (sym same) in
    record {
      each = λ k. elim (cases_eq k id) [
        | inl same ↦ inr (own k same)
        | inr apart ↦ inl (sleep_beside old id k (Some name) apart)
      ];
      done = own;
      long = length-set old id (Some name);
    }

-- where its set wakes: nobody of it sleeps on, so each of them is awake now
wakes_law : (now : ℕ → Option ℕ) (id name items names : ℕ) (old : List (Option ℕ)) → CanFollow (sleep_at old) now items names → sleep_at old id ≡ Some name → now id ≡ None → HaveFollowed now (IsOne id) old (map (woken name) old)
wakes_law now id name items names old can slept up = record {
  each = each;
  done = λ k same. ap (sleep_at (map (woken name) old)) same ∙ woken_at name old id ∙ ap (woken name) slept ∙ woken_own name ∙ sym up ∙ ap now (sym same);
  long = length-map old (woken name);
}
  where
    awake_now : (k : ℕ) → sleep_at old k ≡ Some name → now k ≡ None
    awake_now k e = elim (can.keeps k name e) [
      | inl on ↦ (let own : now id ≡ Some name = can.whole id k name slept on in let both : None ≡ Some name = sym up ∙ own in cc)
      | inr woke ↦ woke
    ]

    each : (k : ℕ) → (sleep_at (map (woken name) old) k ≡ sleep_at old k) ⊎ (sleep_at (map (woken name) old) k ≡ now k)
    each k = elim (woken_each name (sleep_at old k)) [
      | inl same ↦ inl (woken_at name old k ∙ same)
      | inr woke ↦ inr (woken_at name old k ∙ woke.1 ∙ sym (awake_now k woke.0))
    ]

sleeper_law : (now : ℕ → Option ℕ) (id name items names : ℕ) (old : List (Option ℕ)) → CanFollow (sleep_at old) now items names → sleep_at old id ≡ Some name → HaveFollowed now (IsOne id) old (woken_unless name (now id) old)
sleeper_law now id name items names old can slept = elim (can.keeps id name slept) [
  | inl on ↦ subst (λ (t : Option ℕ). HaveFollowed now (IsOne id) old (woken_unless name t old)) (sym on) (none_moved now id old (slept ∙ sym on))
  | inr up ↦ subst (λ (t : Option ℕ). HaveFollowed now (IsOne id) old (woken_unless name t old)) (sym up) (wakes_law now id name items names old can slept up)
]

pub one_followed : (now : ℕ → Option ℕ) (id items names : ℕ) (old new : List (Option ℕ)) → items ≡ length old → CanFollow (sleep_at old) now items names → new ≡ followed (now id) id old → HaveFollowed now (IsOne id) old new
unfolding followed
one_followed now id items names old new long can is = subst (HaveFollowed now (IsOne id) old) (sym is) (by_name (sleep_at old id) refl)
  where
    by_name : (o : Option ℕ) → sleep_at old id ≡ o → HaveFollowed now (IsOne id) old (followed_from o (now id) id old)
    by_name None e = placed_law now id old (now id) refl e (λ name h. let below = can.below id name h in omega (arith, below, long))
    by_name (Some name) e = sleeper_law now id name items names old can e

-- ---- one after the other

pub can_then : (now : ℕ → Option ℕ) (D : ℕ → Type 0) (old mid : List (Option ℕ)) (items names : ℕ) → CanFollow (sleep_at old) now items names → HaveFollowed now D old mid → CanFollow (sleep_at mid) now items names
can_then now D old mid items names can f = record {
  keeps = λ id name e. elim (f.each id) [ inl same ↦ can.keeps id name (sym same ∙ e) | inr done ↦ inl (sym done ∙ e) ];
  whole = λ id other name e h. elim (f.each id) [ inl same ↦ can.whole id other name (sym same ∙ e) h | inr done ↦ sym done ∙ e ];
  named = can.named;
  below = can.below;
}

-- the same with the lengths of the lists as they are then
pub can_now : (now : ℕ → Option ℕ) (D : ℕ → Type 0) (old mid : List (Option ℕ)) (sets : ℕ) (names : ℕ) → CanFollow (sleep_at old) now (length old) names → HaveFollowed now D old mid → sets ≡ names → CanFollow (sleep_at mid) now (length mid) sets
can_now now D old mid sets names can f e = subst (λ (k : ℕ). CanFollow (sleep_at mid) now (length mid) k) (sym e) (subst (λ (k : ℕ). CanFollow (sleep_at mid) now k names) (sym f.long) (can_then now D old mid (length old) names can f))

pub followed_then : (now : ℕ → Option ℕ) (D E F : ℕ → Type 0) (a b c : List (Option ℕ)) → ((id : ℕ) → F id → D id ⊎ E id) → HaveFollowed now D a b → HaveFollowed now E b c → HaveFollowed now F a c
followed_then now D E F a b c either f g = record {
  each = λ id. elim (g.each id) [
    | inl same ↦ elim (f.each id) [ inl before ↦ inl (same ∙ before) | inr done ↦ inr (same ∙ done) ]
    | inr done ↦ inr done
  ];
  done = λ id h. elim (either id h) [
    | inl d ↦ elim (g.each id) [ inl same ↦ same ∙ f.done id d | inr done ↦ done ]
    | inr e ↦ g.done id e
  ];
  long = g.long ∙ f.long;
}

pub followed_as : (now : ℕ → Option ℕ) (D E : ℕ → Type 0) (old new : List (Option ℕ)) → ((id : ℕ) → E id → D id) → HaveFollowed now D old new → HaveFollowed now E old new
followed_as now D E old new narrower f = record { each = f.each; done = λ id e. f.done id (narrower id e); long = f.long }

pub none_contained : (s : ℕ) → Contains [] s → ⊥
none_contained s h = omega (arith, h.1)

-- ---- joints by the ids of ends, of which those before a place are done

pub record IsHalf (ends : List ℕ) (place slot : ℕ) : Type 0 where
  pub at : ℕ
  pub before : at < place
  pub is : get_or ends at 0 / 2 ≡ slot

pub halves_first : (now : ℕ → Option ℕ) (ends : List ℕ) (old : List (Option ℕ)) → HaveFollowed now (IsHalf ends 0) old old
halves_first now ends old = record { each = λ id. inl refl; done = λ id h. absurd (let before = h.before in omega (arith, before)); long = refl }

pub halves_more : (now : ℕ → Option ℕ) (ends : List ℕ) (place id names : ℕ) (old mid new : List (Option ℕ)) → id ≡ get_or ends place 0 / 2 → CanFollow (sleep_at old) now (length old) names → HaveFollowed now (IsHalf ends place) old mid → new ≡ followed (now id) id mid
    → HaveFollowed now (IsHalf ends (place + 1)) old new
halves_more now ends place id names old mid new at can f is =
    let one : HaveFollowed now (IsOne id) mid new = one_followed now id (length old) names mid new (sym f.long) (can_then now (IsHalf ends place) old mid (length old) names can f) is in
    followed_then now (IsHalf ends place) (IsOne id) (IsHalf ends (place + 1)) old mid new (λ k h. elim (cases_lt h.at place) [
      | inl lt ↦ inl (record { at = h.at; before = lt; is = h.is })
      | inr le ↦ (let before = h.before in let same : h.at ≡ place = omega (arith, le, before) in inr (sym h.is ∙ ap (λ (n : ℕ). get_or ends n 0 / 2) same ∙ sym at))
    ]) f one

pub halves_all : (now : ℕ → Option ℕ) (ends : List ℕ) (place : ℕ) (old new : List (Option ℕ)) → length ends ≤ place → HaveFollowed now (IsHalf ends place) old new → HaveFollowed now (Contains (halves ends)) old new
halves_all now ends place old new le f = followed_as now (IsHalf ends place) (Contains (halves ends)) old new (λ slot h.
    let long = length-map ends (λ (id : ℕ). id / 2) in
    let lt = h.1 in
    let there : h.0 < length ends = omega (arith, lt, long) in
    record { at = h.0; before = omega (arith, there, le); is = sym (get_or-map (λ (id : ℕ). id / 2) ends h.0 0 slot there) ∙ h.2 }) f

-- ---- sets that are made: each item below a number is put where it sleeps

pub record IsListing (now : ℕ → Option ℕ) (n : ℕ) (names : List (Option ℕ)) : Type 0 where
  pub done : (id : ℕ) → id < n → sleep_at names id ≡ now id
  pub rest : (id : ℕ) → n ≤ id → sleep_at names id ≡ None

pub listing_first : (now : ℕ → Option ℕ) (names old : List (Option ℕ)) → old ≡ [] → ((id : ℕ) → sleep_at names id ≡ sleep_at old id) → IsListing now 0 names
listing_first now names old none same = record { done = λ id h. absurd (omega (arith, h)); rest = λ id h. same id ∙ ap (λ (l : List (Option ℕ)). sleep_at l id) none }

placed_here : (o : Option ℕ) (id : ℕ) (names : List (Option ℕ)) → id < length names → sleep_at names id ≡ None → sleep_at (placed o id names) id ≡ o
placed_here None id names lt e = e
placed_here (Some s) id names lt e = sleep_put names id (Some s) lt

placed_beside : (o : Option ℕ) (id other : ℕ) (names : List (Option ℕ)) → other ≢ id → sleep_at (placed o id names) other ≡ sleep_at names other
placed_beside None id other names off = refl
placed_beside (Some s) id other names off = sleep_beside names id other (Some s) off

pub listing_more : (now : ℕ → Option ℕ) (n : ℕ) (names new : List (Option ℕ)) → n < length names → IsListing now n names → new ≡ placed (now n) n names → IsListing now (n + 1) new
listing_more now n names new lt h is = subst (IsListing now (n + 1)) (sym is) (record {
  done = λ id below. elim (cases_eq id n) [
    | inl same ↦ ap (sleep_at (placed (now n) n names)) same ∙ placed_here (now n) n names lt (h.rest n (omega arith)) ∙ ap now (sym same)
    | inr apart ↦ placed_beside (now n) n id names apart ∙ h.done id (omega (arith, below, apart))
  ];
  rest = λ id past. placed_beside (now n) n id names (λ e. omega (arith, e, past)) ∙ h.rest id (omega (arith, past));
})

pub listing_all : (now : ℕ → Option ℕ) (n : ℕ) (names : List (Option ℕ)) → ((id : ℕ) → n ≤ id → now id ≡ None) → IsListing now n names → (id : ℕ) → sleep_at names id ≡ now id
listing_all now n names past h id = elim (cases_lt id n) [ inl lt ↦ h.done id lt | inr le ↦ h.rest id le ∙ sym (past id le) ]

pub length_placed : (o : Option ℕ) (id : ℕ) (names : List (Option ℕ)) → length (placed o id names) ≡ length names
length_placed None id names = refl
length_placed (Some s) id names = length-set names id (Some s)
