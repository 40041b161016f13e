-- Lemmas on who is joined, for any links.
use Rattle.std.proofs.Common.{◌≡◌, ℕ, List, [], ◌∷◌, ◌⊎◌, inl, inr, refl, sym, ap, subst}
use Rattle.std.specs.Prelude.{Contains}
use Rattle.std.proofs.Common.{arith}
use Rattle.std.proofs.lemmas.List.Elements.{Contains-append_cases, Contains-append_left, Contains-append_right, Contains-push_cases, Contains-push}
use Rattle.islands.specs.Links.{Edges, Linked, Leads, Joined, IsPairOf}

pub linked_back : (edges : Edges) (a b : ℕ) → Linked edges a b → Linked edges b a
linked_back edges a b h = elim h [ inl k ↦ inr k | inr k ↦ inl k ]

pub joined_step : (R : ℕ → ℕ → Type 0) (a c b : ℕ) → R a c → Joined R c b → Joined R a b
joined_step R a c b h j = (c ∷ j.0, (h, j.1))

pub joined_on : (R : ℕ → ℕ → Type 0) (path : List ℕ) (a b c : ℕ) → Leads R a path b → Joined R b c → Joined R a c
joined_on R [] a b c h j = rw h j
joined_on R (d ∷ path) a b c h j = joined_step R a d c h.0 (joined_on R path d b c h.1 j)

pub joined_both : (R : ℕ → ℕ → Type 0) (a b c : ℕ) → Joined R a b → Joined R b c → Joined R a c
joined_both R a b c j k = joined_on R j.0 a b c j.1 k

pub joined_one : (R : ℕ → ℕ → Type 0) (a b : ℕ) → R a b → Joined R a b
joined_one R a b h = joined_step R a b b h ([], refl)

-- a path leads back too, where each link goes both ways
leads_back : (R : ℕ → ℕ → Type 0) → ((s t : ℕ) → R s t → R t s) → (path : List ℕ) (a b : ℕ) → Leads R a path b → Joined R b a
leads_back R back [] a b h = ([], sym h)
leads_back R back (c ∷ path) a b h = joined_both R b c a (leads_back R back path c b h.1) (joined_one R c a (back a c h.0))

pub joined_back : (edges : Edges) (a b : ℕ) → Joined (Linked edges) a b → Joined (Linked edges) b a
joined_back edges a b j = leads_back (Linked edges) (linked_back edges) j.0 a b j.1

leads_more : (R S : ℕ → ℕ → Type 0) (path : List ℕ) (a b : ℕ) → ((s t : ℕ) → R s t → S s t) → Leads R a path b → Leads S a path b
leads_more R S [] a b f h = h
leads_more R S (d ∷ path) a b f h = (f a d h.0, leads_more R S path d b f h.1)

pub joined_more : (R S : ℕ → ℕ → Type 0) (a b : ℕ) → ((s t : ℕ) → R s t → S s t) → Joined R a b → Joined S a b
joined_more R S a b f j = (j.0, leads_more R S j.0 a b f j.1)

-- what holds of a and is handed on by each link holds of b, and the links on the way are links of S
leads_within : (R S : ℕ → ℕ → Type 0) (P : ℕ → Type 0) (path : List ℕ) (a b : ℕ) → ((s t : ℕ) → R s t → P s → S s t × P t) → P a → Leads R a path b → Leads S a path b × P b
leads_within R S P [] a b f p h = (h, rw (sym h) p)
leads_within R S P (d ∷ path) a b f p h =
    let one = f a d h.0 p in
    let rest = leads_within R S P path d b f one.1 h.1 in
    ((one.0, rest.0), rest.1)

pub joined_within : (R S : ℕ → ℕ → Type 0) (P : ℕ → Type 0) (a b : ℕ) → ((s t : ℕ) → R s t → P s → S s t × P t) → P a → Joined R a b → Joined S a b × P b
joined_within R S P a b f p j = let r = leads_within R S P j.0 a b f p j.1 in ((j.0, r.0), r.1)

none_contained : {X : Type 0} (x : X) → Contains [] x → ⊥
none_contained x h = omega (arith, h.1)

pub contains_cases : {X : Type 0} (x : X) (xs : List X) (y : X) → Contains (x ∷ xs) y → (x ≡ y) ⊎ Contains xs y
contains_cases x xs y h = elim (Contains-append_cases (x ∷ []) xs y h) [
  | inl k ↦ elim (Contains-push_cases [] x y k) [ inl m ↦ absurd (none_contained y m) | inr m ↦ inl m ]
  | inr k ↦ inr k
]

pub contains_head : {X : Type 0} (x : X) (xs : List X) → Contains (x ∷ xs) x
contains_head x xs = Contains-append_left (x ∷ []) xs x (Contains-push [] x)

pub contains_tail : {X : Type 0} (x : X) (xs : List X) (y : X) → Contains xs y → Contains (x ∷ xs) y
contains_tail x xs y h = Contains-append_right (x ∷ []) xs y h

-- ---- one link more

pub pair_of : (e : ℕ × ℕ) (edges : Edges) (s t : ℕ) → Linked (e ∷ edges) s t → IsPairOf e.0 e.1 s t ⊎ Linked edges s t
pair_of e edges s t h = elim h [
  | inl k ↦ elim (contains_cases e edges (s, t) k) [
    | inl m ↦ inl (inl (ap (λ (p : ℕ × ℕ). p.0) (sym m), ap (λ (p : ℕ × ℕ). p.1) (sym m)))
    | inr m ↦ inr (inl m)
  ]
  | inr k ↦ elim (contains_cases e edges (t, s) k) [
    | inl m ↦ inl (inr (ap (λ (p : ℕ × ℕ). p.1) (sym m), ap (λ (p : ℕ × ℕ). p.0) (sym m)))
    | inr m ↦ inr (inr m)
  ]
]

pub pair_linked : (e : ℕ × ℕ) (edges : Edges) (s t : ℕ) → IsPairOf e.0 e.1 s t → Linked (e ∷ edges) s t
pair_linked e edges s t h =
    let P : ℕ × ℕ → Type 0 = λ p. Contains (e ∷ edges) p in
    elim h [
      | inl k ↦ let same : e ≡ (s, t) = rw (k.0, k.1) refl in inl (subst P same (contains_head e edges))
      | inr k ↦ let same : e ≡ (t, s) = rw (k.0, k.1) refl in inr (subst P same (contains_head e edges))
    ]

pub linked_tail : (e : ℕ × ℕ) (edges : Edges) (s t : ℕ) → Linked edges s t → Linked (e ∷ edges) s t
linked_tail e edges s t h = elim h [ inl k ↦ inl (contains_tail e edges (s, t) k) | inr k ↦ inr (contains_tail e edges (t, s) k) ]
