-- Each id's note says where it stands, also once an id was put in or taken out.
use Rattle.std.proofs.Common.{◌≡◌, ◌≢◌, ◌⊎◌, ℕ, ◌<◌, List, [], ◌∷◌, ◌++◌, length, refl, ap, sym, subst, ◌∙◌, arith, inl, inr, Option, Some, None}
use Rattle.std.specs.Prelude.{slice_get}
use Rattle.std.proofs.lemmas.Bool.{cases_lt, cases_eq}
use Rattle.std.proofs.lemmas.Option.{slice_get_within}
use Rattle.packed_sets.specs.declared.spots.Spot.{Spot}
use Rattle.packed_sets.specs.Packs.{list_at, AreSameBeside, EachOnce}
use Rattle.packed_sets.specs.Notes.{spot_at, IsPacked, IsSwappedOut, IsOut}
use Rattle.packed_sets.proofs.ListLaws.{same_inside, none_not_some, got_front, got_last, more_cases}

pub same_set : (s p t q : ℕ) → Some (spot_at s p) ≡ Some (spot_at t q) → s ≡ t
same_set s p t q e = ap (λ (x : Spot). x.set) (same_inside (spot_at s p) (spot_at t q) e)

pub same_place : (s p t q : ℕ) → Some (spot_at s p) ≡ Some (spot_at t q) → p ≡ q
same_place s p t q e = ap (λ (x : Spot). x.place) (same_inside (spot_at s p) (spot_at t q) e)

-- an id stands at one spot
pub one_spot : (sets : List (List ℕ)) (spots : ℕ → Option Spot) → IsPacked sets spots → EachOnce sets
one_spot sets spots is s t p q x h k =
    let both : Some (spot_at s p) ≡ Some (spot_at t q) = sym (is.known x s p h) ∙ is.known x t q k in
    (same_set s p t q both, same_place s p t q both)

-- ---- an id is put in

-- what is known of the sets and the spots then
pub record HasCome (sets new : List (List ℕ)) (spots now : ℕ → Option Spot) (s x : ℕ) : Type 0 where
  pub list : list_at new s ≡ list_at sets s ++ x ∷ []
  pub others : AreSameBeside sets new s
  pub was : spots x ≡ None
  pub noted : now x ≡ Some (spot_at s (length (list_at sets s)))
  pub stays : (y : ℕ) → y ≢ x → now y ≡ spots y

come_known : (sets new : List (List ℕ)) (spots now : ℕ → Option Spot) (s x : ℕ) → IsPacked sets spots → HasCome sets new spots now s x
    → (y t q : ℕ) → slice_get (list_at new t) q ≡ Some y → now y ≡ Some (spot_at t q)
come_known sets new spots now s x is h y t q k =
    let old : (u : ℕ) → slice_get (list_at sets u) q ≡ Some y → now y ≡ Some (spot_at u q) = λ u there.
    let known : spots y ≡ Some (spot_at u q) = is.known y u q there in
    let other : y ≢ x = λ same. none_not_some (spot_at u q) (sym h.was ∙ subst (λ (z : ℕ). spots z ≡ Some (spot_at u q)) same known) in
    h.stays y other ∙ known in
    elim (cases_eq t s) [
      | inl m ↦
          let here : slice_get (list_at sets s ++ x ∷ []) q ≡ Some y = subst (λ (l : List ℕ). slice_get l q ≡ Some y) h.list (subst (λ (u : ℕ). slice_get (list_at new u) q ≡ Some y) m k) in
          elim (more_cases (list_at sets s) x q y here) [
            | inl a ↦ subst (λ (u : ℕ). now y ≡ Some (spot_at u q)) (sym m) (old s a.1)
            | inr a ↦
                let at : now y ≡ Some (spot_at s (length (list_at sets s))) = subst (λ (z : ℕ). now z ≡ Some (spot_at s (length (list_at sets s)))) (sym a.1) h.noted in
                subst (λ (u : ℕ). now y ≡ Some (spot_at u q)) (sym m) (subst (λ (r : ℕ). now y ≡ Some (spot_at s r)) (sym a.0) at)
          ]
      | inr m ↦ old t (subst (λ (l : List ℕ). slice_get l q ≡ Some y) (h.others t m) k)
    ]

come_there : (sets new : List (List ℕ)) (spots now : ℕ → Option Spot) (s x : ℕ) → IsPacked sets spots → HasCome sets new spots now s x
    → (y t q : ℕ) → now y ≡ Some (spot_at t q) → slice_get (list_at new t) q ≡ Some y
come_there sets new spots now s x is h y t q k = elim (cases_eq y x) [
  | inl m ↦
      let at : now x ≡ Some (spot_at t q) = subst (λ (z : ℕ). now z ≡ Some (spot_at t q)) m k in
      let both : Some (spot_at s (length (list_at sets s))) ≡ Some (spot_at t q) = sym h.noted ∙ at in
      let here : slice_get (list_at new s) (length (list_at sets s)) ≡ Some x = ap (λ (l : List ℕ). slice_get l (length (list_at sets s))) h.list ∙ got_last (list_at sets s) x in
      let there : slice_get (list_at new t) q ≡ Some x =
      subst (λ (u : ℕ). slice_get (list_at new u) q ≡ Some x) (same_set s (length (list_at sets s)) t q both)
      (subst (λ (r : ℕ). slice_get (list_at new s) r ≡ Some x) (same_place s (length (list_at sets s)) t q both) here) in
      subst (λ (z : ℕ). slice_get (list_at new t) q ≡ Some z) (sym m) there
  | inr m ↦
      let was : slice_get (list_at sets t) q ≡ Some y = is.there y t q (sym (h.stays y m) ∙ k) in
      elim (cases_eq t s) [
        | inl n ↦
            let here : slice_get (list_at sets s) q ≡ Some y = subst (λ (u : ℕ). slice_get (list_at sets u) q ≡ Some y) n was in
            let front : slice_get (list_at new s) q ≡ Some y =
            ap (λ (l : List ℕ). slice_get l q) h.list ∙ got_front (list_at sets s) (x ∷ []) q (slice_get_within (list_at sets s) q y here) ∙ here in
            subst (λ (u : ℕ). slice_get (list_at new u) q ≡ Some y) (sym n) front
        | inr n ↦ ap (λ (l : List ℕ). slice_get l q) (h.others t n) ∙ was
      ]
]

pub come_packed : (sets new : List (List ℕ)) (spots now : ℕ → Option Spot) (s x : ℕ) → IsPacked sets spots → HasCome sets new spots now s x → IsPacked new now
come_packed sets new spots now s x is h = record {
  known = come_known sets new spots now s x is h;
  there = come_there sets new spots now s x is h;
}

-- ---- an id is taken out, and the last one moves to its place

-- what is known of the spots then
pub record HasGone (rest : List ℕ) (spots now : ℕ → Option Spot) (at : Spot) (x : ℕ) : Type 0 where
  pub gone : now x ≡ None
  pub moved : (m : ℕ) → slice_get rest at.place ≡ Some m → now m ≡ Some at
  pub stays : (y : ℕ) → y ≢ x → ((m : ℕ) → slice_get rest at.place ≡ Some m → y ≢ m) → now y ≡ spots y

-- the last id stood behind all that are left
pub last_stood : (old rest : List ℕ) (p x m : ℕ) → IsSwappedOut old rest p x → slice_get rest p ≡ Some m → slice_get old (length rest) ≡ Some m
last_stood old rest p x m w k = sym (w.moved (slice_get_within rest p m k)) ∙ k

gone_known : (sets new : List (List ℕ)) (spots now : ℕ → Option Spot) (s p x : ℕ) → IsPacked sets spots → IsOut sets new (spot_at s p) x → HasGone (list_at new s) spots now (spot_at s p) x
    → (y t q : ℕ) → slice_get (list_at new t) q ≡ Some y → now y ≡ Some (spot_at t q)
gone_known sets new spots now s p x is w h y t q k =
    let xs : List ℕ = list_at sets s in
    let rest : List ℕ = list_at new s in
    let stood : slice_get xs p ≡ Some x = w.swapped.there in
    elim (cases_eq t s) [
      | inl n ↦
          let here : slice_get rest q ≡ Some y = subst (λ (u : ℕ). slice_get (list_at new u) q ≡ Some y) n k in
          let less : q < length rest = slice_get_within rest q y here in
          subst (λ (u : ℕ). now y ≡ Some (spot_at u q)) (sym n) (elim (cases_eq q p) [
            | inl a ↦ subst (λ (r : ℕ). now y ≡ Some (spot_at s r)) (sym a) (h.moved y (subst (λ (r : ℕ). slice_get rest r ≡ Some y) a here))
            | inr a ↦
                let was : slice_get xs q ≡ Some y = sym (w.swapped.stays q a less) ∙ here in
                let other : y ≢ x = λ same. a ((one_spot sets spots is s s q p x (subst (λ (z : ℕ). slice_get xs q ≡ Some z) same was) stood).1) in
                let unmoved : (m : ℕ) → slice_get rest p ≡ Some m → y ≢ m = λ m there same.
                let last : q ≡ length rest = (one_spot sets spots is s s q (length rest) m (subst (λ (z : ℕ). slice_get xs q ≡ Some z) same was) (last_stood xs rest p x m w.swapped there)).1 in
                omega (arith, last, less) in
                h.stays y other unmoved ∙ is.known y s q was
          ])
      | inr n ↦
          let was : slice_get (list_at sets t) q ≡ Some y = subst (λ (l : List ℕ). slice_get l q ≡ Some y) (w.others t n) k in
          let other : y ≢ x = λ same. n ((one_spot sets spots is t s q p x (subst (λ (z : ℕ). slice_get (list_at sets t) q ≡ Some z) same was) stood).0) in
          let unmoved : (m : ℕ) → slice_get rest p ≡ Some m → y ≢ m = λ m there same.
          n ((one_spot sets spots is t s q (length rest) m (subst (λ (z : ℕ). slice_get (list_at sets t) q ≡ Some z) same was) (last_stood xs rest p x m w.swapped there)).0) in
          h.stays y other unmoved ∙ is.known y t q was
    ]

-- what stood in the list still does, but for the id that is gone and the last one
still_there : (xs rest : List ℕ) (p q x y : ℕ) → IsSwappedOut xs rest p x → slice_get xs q ≡ Some y → y ≢ x → ((m : ℕ) → slice_get rest p ≡ Some m → y ≢ m) → slice_get rest q ≡ Some y
still_there xs rest p q x y w was other unmoved =
    let off : q ≢ p = λ same.
    let at : slice_get xs p ≡ Some y = subst (λ (r : ℕ). slice_get xs r ≡ Some y) same was in
    other (same_inside y x (sym at ∙ w.there)) in
    let within : q < length xs = slice_get_within xs q y was in
    let before : q ≢ length rest = λ same. elim (cases_lt p (length rest)) [
      | inl lt ↦ unmoved y (w.moved lt ∙ subst (λ (r : ℕ). slice_get xs r ≡ Some y) same was) refl
      | inr ge ↦
          let inside : p < length xs = slice_get_within xs p x w.there in
          off (omega (arith, same, ge, inside, w.short))
    ] in
    w.stays q off (omega (arith, within, before, w.short)) ∙ was

-- the id stands at the place, or it doesn't
place_cases : (rest : List ℕ) (p y : ℕ) → (slice_get rest p ≡ Some y) ⊎ ((m : ℕ) → slice_get rest p ≡ Some m → y ≢ m)
place_cases rest p y = by (slice_get rest p) refl
  where
    by : (o : Option ℕ) → slice_get rest p ≡ o → (slice_get rest p ≡ Some y) ⊎ ((m : ℕ) → slice_get rest p ≡ Some m → y ≢ m)
    by None e = inr (λ m k. absurd (none_not_some m (sym e ∙ k)))
    by (Some m) e = elim (cases_eq y m) [
      | inl same ↦ inl (e ∙ ap (λ z. Some z) (sym same))
      | inr other ↦ inr (λ n k same. other (same ∙ same_inside n m (sym k ∙ e)))
    ]

gone_there : (sets new : List (List ℕ)) (spots now : ℕ → Option Spot) (s p x : ℕ) → IsPacked sets spots → IsOut sets new (spot_at s p) x → HasGone (list_at new s) spots now (spot_at s p) x
    → (y t q : ℕ) → now y ≡ Some (spot_at t q) → slice_get (list_at new t) q ≡ Some y
gone_there sets new spots now s p x is w h y t q k = elim (cases_eq y x) [
  | inl same ↦ absurd (none_not_some (spot_at t q) (sym h.gone ∙ subst (λ (z : ℕ). now z ≡ Some (spot_at t q)) same k))
  | inr other ↦ elim (place_cases (list_at new s) p y) [
    | inl m ↦
        let both : Some (spot_at s p) ≡ Some (spot_at t q) = sym (h.moved y m) ∙ k in
        subst (λ (u : ℕ). slice_get (list_at new u) q ≡ Some y) (same_set s p t q both) (subst (λ (r : ℕ). slice_get (list_at new s) r ≡ Some y) (same_place s p t q both) m)
    | inr unmoved ↦
        let was : slice_get (list_at sets t) q ≡ Some y = is.there y t q (sym (h.stays y other unmoved) ∙ k) in
        elim (cases_eq t s) [
          | inl n ↦
              let here : slice_get (list_at sets s) q ≡ Some y = subst (λ (u : ℕ). slice_get (list_at sets u) q ≡ Some y) n was in
              subst (λ (u : ℕ). slice_get (list_at new u) q ≡ Some y) (sym n) (still_there (list_at sets s) (list_at new s) p q x y w.swapped here other unmoved)
          | inr n ↦ ap (λ (l : List ℕ). slice_get l q) (w.others t n) ∙ was
        ]
  ]
]

pub gone_packed : (sets new : List (List ℕ)) (spots now : ℕ → Option Spot) (s p x : ℕ) → IsPacked sets spots → IsOut sets new (spot_at s p) x → HasGone (list_at new s) spots now (spot_at s p) x
    → IsPacked new now
gone_packed sets new spots now s p x is w h = record {
  known = gone_known sets new spots now s p x is w h;
  there = gone_there sets new spots now s p x is w h;
}

-- ---- the same sets under more numbers

pub packed_same : (sets new : List (List ℕ)) (spots now : ℕ → Option Spot) → ((s : ℕ) → list_at new s ≡ list_at sets s) → ((x : ℕ) → now x ≡ spots x) → IsPacked sets spots → IsPacked new now
packed_same sets new spots now same_sets same_spots is = record {
  known = λ x s p h. same_spots x ∙ is.known x s p (subst (λ (l : List ℕ). slice_get l p ≡ Some x) (same_sets s) h);
  there = λ x s p h. subst (λ (l : List ℕ). slice_get l p ≡ Some x) (sym (same_sets s)) (is.there x s p (sym (same_spots x) ∙ h));
}
