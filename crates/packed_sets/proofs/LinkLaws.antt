-- Threads of linked sets, once an id is put at the front of one or is taken out of one.
use Rattle.std.proofs.Common.{◌≡◌, ◌≢◌, ◌==◌, ℕ, zero, suc, ◌+◌, ◌-◌, ◌<◌, ◌≤◌, Bool, true, false, cond, nat_lt, List, [], ◌∷◌, ◌++◌, length, map, replicate, slice_set, refl, ap, sym, subst, ◌∙◌, arith, inl, inr, Some, None, lt-ltb, le-ltb}
use Rattle.std.specs.Prelude.{slice_get, slice_index_or}
use Rattle.std.specs.List.{Contains}
use Rattle.std.specs.List.Sorted.{IsPermutation}
use Rattle.std.proofs.lemmas.Bool.{cases_eq, cases_lt}
use Rattle.std.proofs.lemmas.List.{get_or-set_same, get_or-set_other, get_or_past, get_or-map, length-append, length-map, length-replicate, length-set}
use Rattle.std.proofs.lemmas.List.Elements.{Contains-append_left, Contains-append_right, Contains-append_cases}
use Rattle.std.proofs.lemmas.List.Sorted.{IsPermutation-refl, IsPermutation-middle}
use Rattle.std.proofs.lemmas.Option.{slice_get-get_or}
use Rattle.packed_sets.specs.declared.linked_sets.Link.{Link}
use Rattle.packed_sets.specs.declared.items.TheConstants.{MAX_ITEMS, NO_ITEM}
use Rattle.packed_sets.specs.Packs.{list_at, IsAbsent, IsPut, IsTaken}
use Rattle.packed_sets.specs.Once.{AreOnce}
use Rattle.packed_sets.specs.Linked.{head_at}
use Rattle.packed_sets.specs.Linked.{link_at, before_at, behind_at, with_before, with_behind, with_head, ids_from, sets_of, IsChain, IsLinked, AreLinked}
use Rattle.packed_sets.proofs.ListLaws.{none_not_some, same_inside, member_at}
use Rattle.packed_sets.proofs.ItemLaws.{head_in, tail_in, none_in, in_cases, left_out, split_at, IsLeftOut, IsSplitAt}
use Rattle.packed_sets.proofs.RoomLaws.{no_more}
use Rattle.packed_sets.proofs.RoomLaws.{padded}

-- ---- lists without repeats

once_at : (xs : List ℕ) (j k x : ℕ) → AreOnce xs → slice_get xs j ≡ Some x → slice_get xs k ≡ Some x → j ≡ k
once_at [] j k x once e f = absurd (none_not_some x e)
once_at (y ∷ ys) zero zero x once e f = refl
once_at (y ∷ ys) zero (suc k) x once e f = absurd (once.0 (subst (λ (z : ℕ). Contains ys z) (sym (same_inside y x e)) (member_at ys k x f)))
once_at (y ∷ ys) (suc j) zero x once e f = absurd (once.0 (subst (λ (z : ℕ). Contains ys z) (sym (same_inside y x f)) (member_at ys j x e)))
once_at (y ∷ ys) (suc j) (suc k) x once e f = ap suc (once_at ys j k x once.1 e f)

-- numbers below a bound, each once, are no more than the bound
pub once_short : (xs : List ℕ) (n : ℕ) → AreOnce xs → ((x : ℕ) → Contains xs x → x < n) → length xs ≤ n
once_short xs n once below =
    let at : (k : ℕ) → k < length xs → slice_get xs k ≡ Some (slice_index_or xs k 0) = λ k lt. slice_get-get_or xs k 0 lt in
    no_more n (length xs) (λ k. slice_index_or xs k 0)
    (λ k lt. below (slice_index_or xs k 0) (member_at xs k (slice_index_or xs k 0) (at k lt)))
    (λ j k lt less same. once_at xs j k (slice_index_or xs j 0) once (at j lt) (at k less ∙ ap (λ (y : ℕ). Some y) (sym same)))

-- what is in the one part isn't in the other
once_apart : (xs ys : List ℕ) (x : ℕ) → AreOnce (xs ++ ys) → Contains xs x → Contains ys x → ⊥
once_apart [] ys x once h k = none_in x h
once_apart (y ∷ xs) ys x once h k = elim (in_cases y xs x h) [
  | inl same ↦ once.0 (Contains-append_right xs ys y (subst (λ (z : ℕ). Contains ys z) same k))
  | inr there ↦ once_apart xs ys x once.1 there k
]

-- ---- one link changed

before_stays : (links : List Link) (id behind x : ℕ) → before_at (with_behind links id behind) x ≡ before_at links x
before_stays [] id behind x = refl
before_stays (l ∷ links) zero behind zero = refl
before_stays (l ∷ links) zero behind (suc x) = refl
before_stays (l ∷ links) (suc id) behind zero = refl
before_stays (l ∷ links) (suc id) behind (suc x) = before_stays links id behind x

behind_stays : (links : List Link) (id before x : ℕ) → behind_at (with_before links id before) x ≡ behind_at links x
behind_stays [] id before x = refl
behind_stays (l ∷ links) zero before zero = refl
behind_stays (l ∷ links) zero before (suc x) = refl
behind_stays (l ∷ links) (suc id) before zero = refl
behind_stays (l ∷ links) (suc id) before (suc x) = behind_stays links id before x

link_now : (links : List Link) (id : ℕ) (l : Link) → id < length links → link_at (slice_set links id l) id ≡ l
link_now links id l lt = get_or-set_same links id l _ lt

link_still : (links : List Link) (id x : ℕ) (l : Link) → x ≢ id → link_at (slice_set links id l) x ≡ link_at links x
link_still links id x l off = get_or-set_other links id x l _ off

-- ---- a chain through links that are the same

chain_stays : (links more : List Link) (before at : ℕ) (ids : List ℕ) → ((x : ℕ) → Contains ids x → before_at more x ≡ before_at links x) → ((x : ℕ) → Contains ids x → behind_at more x ≡ behind_at links x) → IsChain links before at ids → IsChain more before at ids
chain_stays links more before at [] same also is = is
chain_stays links more before at (x ∷ ids) same also is =
    let rest : IsChain more x (behind_at links x) ids = chain_stays links more x (behind_at links x) ids (λ y h. same y (tail_in x ids y h)) (λ y h. also y (tail_in x ids y h)) is.1.1 in
    (is.0, (same x (head_in x ids) ∙ is.1.0, subst (λ (n : ℕ). IsChain more x n ids) (sym (also x (head_in x ids))) rest))

-- ---- what a thread tells

-- the first id of what follows, if there is one
pub next_is : (links : List Link) (before at : ℕ) (ids : List ℕ) → length links ≤ MAX_ITEMS → IsChain links before at ids → ((x : ℕ) → Contains ids x → x < length links) → cond (nat_lt at (length links)) (Some at) None ≡ slice_get ids 0
next_is links before at [] few is below = ap (λ (b : Bool). cond b (Some at) None) (le-ltb at (length links) (omega (arith, few, is)))
next_is links before at (x ∷ ids) few is below =
    let lt : x < length links = below x (head_in x ids) in
    ap (λ (b : Bool). cond b (Some at) None) (lt-ltb at (length links) (omega (arith, lt, is.0))) ∙ ap (λ (y : ℕ). Some y) is.0

-- the thread that is read is the chain
pub ids_are : (links : List Link) (n before at : ℕ) (ids : List ℕ) → length links ≤ MAX_ITEMS → length ids ≤ n → IsChain links before at ids → ((x : ℕ) → Contains ids x → x < length links) → ids_from n links at ≡ ids
ids_are links zero before at [] few short is below = refl
ids_are links zero before at (x ∷ ids) few short is below = absurd (omega (arith, short))
ids_are links (suc n) before at [] few short is below =
    ap (λ (b : Bool). cond b (at ∷ ids_from n links (behind_at links at)) []) (le-ltb at (length links) (omega (arith, few, is)))
ids_are links (suc n) before at (x ∷ ids) few short is below =
    let lt : x < length links = below x (head_in x ids) in
    let rest : ids_from n links (behind_at links x) ≡ ids = ids_are links n x (behind_at links x) ids few (omega (arith, short)) is.1.1 (λ y h. below y (tail_in x ids y h)) in
    ap (λ (b : Bool). cond b (at ∷ ids_from n links (behind_at links at)) []) (lt-ltb at (length links) (omega (arith, lt, is.0)))
    ∙ ap (λ (k : ℕ). k ∷ ids_from n links (behind_at links k)) is.0 ∙ ap (λ (l : List ℕ). x ∷ l) rest

-- what follows an id in its thread
chain_behind : (links : List Link) (before at id : ℕ) (front back : List ℕ) → IsChain links before at (front ++ id ∷ back) → IsChain links id (behind_at links id) back
chain_behind links before at id [] back is = is.1.1
chain_behind links before at id (f ∷ front) back is = chain_behind links f (behind_at links f) id front back is.1.1

-- ---- sets

-- and the next one, in a set that is split at it
pub behind_told : (links : List Link) (heads : List ℕ) (set id : ℕ) (front back : List ℕ) → AreLinked links heads → list_at (sets_of links heads) set ≡ front ++ id ∷ back
    → cond (nat_lt (behind_at links id) (length links)) (Some (behind_at links id)) None ≡ slice_get back 0
behind_told links heads set id front back is e =
    let whole : IsLinked links (head_at heads set) (front ++ id ∷ back) = subst (λ (l : List ℕ). IsLinked links (head_at heads set) l) e (is.linked set) in
    next_is links id (behind_at links id) back is.few (chain_behind links NO_ITEM (head_at heads set) id front back whole.chain) (λ x h. whole.below x (Contains-append_right front (id ∷ back) x (tail_in id back x h)))

-- a set beyond the heads has no ids
head_past : (heads : List ℕ) (set : ℕ) → length heads ≤ set → head_at heads set ≡ NO_ITEM
head_past heads set le = get_or_past heads set NO_ITEM le

set_past : (links : List Link) (heads : List ℕ) (set : ℕ) → length heads ≤ set → list_at (sets_of links heads) set ≡ []
set_past links heads set le =
    let long : length (sets_of links heads) ≡ length heads = length-map heads (ids_from (length links) links) in
    get_or_past (sets_of links heads) set [] (omega (arith, long, le))

-- a set with an id is one of the heads
pub set_there : (links : List Link) (heads : List ℕ) (set id : ℕ) → Contains (list_at (sets_of links heads) set) id → set < length heads
set_there links heads set id h = elim (cases_lt set (length heads)) [
  | inl lt ↦ lt
  | inr le ↦ absurd (none_in id (subst (λ (l : List ℕ). Contains l id) (set_past links heads set le) h))
]

-- a chain that begins with no id has none
no_chain : (links : List Link) (before at : ℕ) (ids : List ℕ) → length links ≤ MAX_ITEMS → ((x : ℕ) → Contains ids x → x < length links) → at ≡ NO_ITEM → IsChain links before at ids → ids ≡ []
no_chain links before at [] few below none is = refl
no_chain links before at (x ∷ ids) few below none is = let lt : x < length links = below x (head_in x ids) in absurd (omega (arith, lt, few, none, is.0))

-- the ids of a set, from what is known of them
set_is : (links : List Link) (heads : List ℕ) (set : ℕ) (ids : List ℕ) → length links ≤ MAX_ITEMS → IsLinked links (head_at heads set) ids → list_at (sets_of links heads) set ≡ ids
set_is links heads set ids few is = elim (cases_lt set (length heads)) [
  | inl lt ↦ get_or-map (ids_from (length links) links) heads set NO_ITEM [] lt ∙ ids_are links (length links) NO_ITEM (head_at heads set) ids few (once_short ids (length links) is.once is.below) is.chain is.below
  | inr le ↦ set_past links heads set le ∙ sym (no_chain links NO_ITEM (head_at heads set) ids few is.below (head_past heads set le) is.chain)
]

-- sets that are said by number, and none of which has an id of another
pub record AreSets (links : List Link) (heads : List ℕ) (ids : ℕ → List ℕ) : Type 0 where
  pub few : length links ≤ MAX_ITEMS
  pub linked : (set : ℕ) → IsLinked links (head_at heads set) (ids set)
  pub apart : (s t id : ℕ) → Contains (ids s) id → Contains (ids t) id → s ≡ t

pub sets_are : (links : List Link) (heads : List ℕ) (ids : ℕ → List ℕ) (set : ℕ) → AreSets links heads ids → list_at (sets_of links heads) set ≡ ids set
sets_are links heads ids set is = set_is links heads set (ids set) is.few (is.linked set)

pub sets_linked : (links : List Link) (heads : List ℕ) (ids : ℕ → List ℕ) → AreSets links heads ids → AreLinked links heads
sets_linked links heads ids is = record {
  few = is.few;
  linked = λ set. subst (λ (l : List ℕ). IsLinked links (head_at heads set) l) (sym (sets_are links heads ids set is)) (is.linked set);
  apart = λ s t id h k. is.apart s t id (subst (λ (l : List ℕ). Contains l id) (sets_are links heads ids s is) h) (subst (λ (l : List ℕ). Contains l id) (sets_are links heads ids t is) k);
}

-- one set has other ids
abbrev with_ids : ℕ → List ℕ → (ℕ → List ℕ) → ℕ → List ℕ
with_ids set own ids s = cond (s == set) own (ids s)

ids_own : (set : ℕ) (own : List ℕ) (ids : ℕ → List ℕ) (s : ℕ) → s ≡ set → with_ids set own ids s ≡ own
ids_own set own ids s e = grind (arith, e)

ids_other : (set : ℕ) (own : List ℕ) (ids : ℕ → List ℕ) (s : ℕ) → s ≢ set → with_ids set own ids s ≡ ids s
ids_other set own ids s off = grind (arith, off)

with_apart : (set : ℕ) (own : List ℕ) (ids : ℕ → List ℕ) → ((s t x : ℕ) → Contains (ids s) x → Contains (ids t) x → s ≡ t) → ((t x : ℕ) → Contains own x → Contains (ids t) x → t ≡ set) → (s t x : ℕ) → Contains (with_ids set own ids s) x → Contains (with_ids set own ids t) x → s ≡ t
with_apart set own ids apart alone s t x h k =
    let in_own : (r : ℕ) → r ≡ set → Contains (with_ids set own ids r) x → Contains own x = λ r e m. subst (λ (l : List ℕ). Contains l x) (ids_own set own ids r e) m in
    let in_other : (r : ℕ) → r ≢ set → Contains (with_ids set own ids r) x → Contains (ids r) x = λ r off m. subst (λ (l : List ℕ). Contains l x) (ids_other set own ids r off) m in
    elim (cases_eq s set) [
      | inl e ↦ elim (cases_eq t set) [
        | inl f ↦ e ∙ sym f
        | inr off ↦ e ∙ sym (alone t x (in_own s e h) (in_other t off k))
      ]
      | inr away ↦ elim (cases_eq t set) [
        | inl f ↦ alone s x (in_own t f k) (in_other s away h) ∙ sym f
        | inr off ↦ apart s t x (in_other s away h) (in_other t off k)
      ]
    ]

-- ---- no sets, and room for more

pub none_linked : AreLinked [] []
none_linked = sets_linked [] [] (λ s. []) (record {
  few = omega arith;
  linked = λ s. record { chain = refl; once = tt; below = λ id h. absurd (none_in id h) };
  apart = λ s t id h k. absurd (none_in id h);
})

pub record IsGrown (links more : List Link) (heads others : List ℕ) : Type 0 where
  pub linked : AreLinked more others
  pub same : (set : ℕ) → list_at (sets_of more others) set ≡ list_at (sets_of links heads) set

-- links and heads are longer, and read the same
pub grown : (links more : List Link) (heads others : List ℕ) → AreLinked links heads → length more ≤ MAX_ITEMS → length links ≤ length more → ((x : ℕ) → link_at more x ≡ link_at links x) → ((s : ℕ) → head_at others s ≡ head_at heads s) → IsGrown links more heads others
grown links more heads others is few long same also =
    let sets : AreSets more others (λ s. list_at (sets_of links heads) s) = record {
      few = few;
      linked = λ s. record {
        chain = subst (λ (h : ℕ). IsChain more NO_ITEM h (list_at (sets_of links heads) s)) (sym (also s))
            (chain_stays links more NO_ITEM (head_at heads s) (list_at (sets_of links heads) s) (λ x h. ap (λ (l : Link). l.before) (same x)) (λ x h. ap (λ (l : Link). l.behind) (same x)) (is.linked s).chain);
        once = (is.linked s).once;
        below = λ id h. let lt : id < length links = (is.linked s).below id h in omega (arith, lt, long);
      };
      apart = is.apart;
    } in
    record {
      linked = sets_linked more others (λ s. list_at (sets_of links heads) s) sets;
      same = λ s. sets_are more others (λ t. list_at (sets_of links heads) t) s sets;
    }

pub grown_by : (links more : List Link) (heads others : List ℕ) (ids sets : ℕ) → AreLinked links heads → ids ≤ MAX_ITEMS → more ≡ links ++ replicate (ids - length links) (record { before = NO_ITEM; behind = NO_ITEM }) → others ≡ heads ++ replicate (sets - length heads) NO_ITEM → IsGrown links more heads others
grown_by links more heads others ids sets is few e f =
    let none : Link = record { before = NO_ITEM; behind = NO_ITEM } in
    let added : length (replicate (ids - length links) none) ≡ ids - length links = length-replicate (ids - length links) none in
    let long : length more ≡ length links + length (replicate (ids - length links) none) = ap (λ (l : List Link). length l) e ∙ length-append links (replicate (ids - length links) none) in
    grown links more heads others is (omega (arith, long, added, few, is.few)) (omega (arith, long))
    (λ x. ap (λ (l : List Link). link_at l x) e ∙ padded links (ids - length links) x none)
    (λ s. ap (λ (l : List ℕ). head_at l s) f ∙ padded heads (sets - length heads) s NO_ITEM)

-- ---- an id is put before the others of a set

put_chain : (links more : List Link) (id first : ℕ) (ids : List ℕ) → AreOnce ids → link_at more id ≡ record { before = NO_ITEM; behind = first } → ((x : ℕ) → Contains ids x → x ≢ first → link_at more x ≡ link_at links x)
    → ((x : ℕ) → Contains ids x → x ≡ first → link_at more x ≡ record { before = id; behind = behind_at links x }) → IsChain links NO_ITEM first ids → IsChain more NO_ITEM id (id ∷ ids)
put_chain links more id first [] once own others next is = (refl, (ap (λ (l : Link). l.before) own, ap (λ (l : Link). l.behind) own ∙ is))
put_chain links more id first (y ∷ ys) once own others next is =
    let here : link_at more y ≡ record { before = id; behind = behind_at links y } = next y (head_in y ys) (sym is.0) in
    let off : (x : ℕ) → Contains ys x → x ≢ first = λ x h e. once.0 (subst (λ (z : ℕ). Contains ys z) (e ∙ is.0) h) in
    let rest : IsChain more y (behind_at links y) ys = chain_stays links more y (behind_at links y) ys
    (λ x h. ap (λ (l : Link). l.before) (others x (tail_in y ys x h) (off x h))) (λ x h. ap (λ (l : Link). l.behind) (others x (tail_in y ys x h) (off x h))) is.1.1 in (
      refl,
      (
        ap (λ (l : Link). l.before) own,
        (
          ap (λ (l : Link). l.behind) own ∙ is.0,
          (
            ap (λ (l : Link). l.before) here,
            subst (λ (n : ℕ). IsChain more y n ys) (sym (ap (λ (l : Link). l.behind) here)) rest,
          ),
        ),
      ),
    )

-- the links once the id is before the first of the set
abbrev pub links_put : List Link → List ℕ → ℕ → ℕ → List Link
links_put links heads set id = with_before (slice_set links id (record { before = NO_ITEM; behind = head_at heads set })) (head_at heads set) id

pub record IsLinkedIn (links more : List Link) (heads others : List ℕ) (set id : ℕ) : Type 0 where
  pub linked : AreLinked more others
  pub put : IsPut (sets_of links heads) (sets_of more others) set id

-- the first id of a set, if it has one, is in it
first_in : (links : List Link) (before at : ℕ) (ids : List ℕ) → at < length links → length links ≤ MAX_ITEMS → IsChain links before at ids → Contains ids at
first_in links before at [] lt few is = absurd (omega (arith, lt, few, is))
first_in links before at (x ∷ ids) lt few is = subst (λ (k : ℕ). Contains (x ∷ ids) k) (sym is.0) (head_in x ids)

pub put_linked : (links : List Link) (heads : List ℕ) (set id : ℕ) → AreLinked links heads → set < length heads → id < length links → IsAbsent (sets_of links heads) id
    → IsLinkedIn links (links_put links heads set id) heads (slice_set heads set id) set id
put_linked links heads set id is there lt absent =
    let sets : ℕ → List ℕ = λ s. list_at (sets_of links heads) s in
    let first : ℕ = head_at heads set in
    let mid : List Link = slice_set links id (record { before = NO_ITEM; behind = first }) in
    let more : List Link = with_before mid first id in
    let others : List ℕ = slice_set heads set id in
    let now : ℕ → List ℕ = with_ids set (id ∷ sets set) sets in
    let mid_long : length mid ≡ length links = length-set links id (record { before = NO_ITEM; behind = first }) in
    let long : length more ≡ length links = length-set mid first (record { before = id; behind = behind_at mid first }) ∙ mid_long in
    let fresh : (s x : ℕ) → Contains (sets s) x → x ≢ id = λ s x h e. absent s (subst (λ (k : ℕ). Contains (sets s) k) e h) in
    let off_first : id ≢ first = λ e. absent set (first_in links NO_ITEM id (sets set) lt is.few (subst (λ (k : ℕ). IsChain links NO_ITEM k (sets set)) (sym e) (is.linked set).chain)) in
    let own : link_at more id ≡ record { before = NO_ITEM; behind = first } = link_still mid first id (record { before = id; behind = behind_at mid first }) off_first ∙ link_now links id (record { before = NO_ITEM; behind = first }) lt in
    let still : (s x : ℕ) → Contains (sets s) x → x ≢ first → link_at more x ≡ link_at links x = λ s x h off.
    link_still mid first x (record { before = id; behind = behind_at mid first }) off ∙ link_still links id x (record { before = NO_ITEM; behind = first }) (fresh s x h) in
    let next : (x : ℕ) → Contains (sets set) x → x ≡ first → link_at more x ≡ record { before = id; behind = behind_at links x } = λ x h e.
    let below : x < length links = (is.linked set).below x h in
    let behind : behind_at mid first ≡ behind_at links x = ap (λ (k : ℕ). behind_at mid k) (sym e) ∙ ap (λ (l : Link). l.behind) (link_still links id x (record { before = NO_ITEM; behind = first }) (fresh set x h)) in
    ap (λ (k : ℕ). link_at more k) e ∙ link_now mid first (record { before = id; behind = behind_at mid first }) (omega (arith, below, mid_long, e)) ∙ ap (λ (k : ℕ). record { before = id; behind = k }) behind in
    let are : AreSets more others now = record {
      few = omega (arith, long, is.few);
      linked = λ s. elim (cases_eq s set) [
        | inl e ↦
            let chain : IsChain more NO_ITEM id (id ∷ sets set) = put_chain links more id first (sets set) (is.linked set).once own (λ x h off. still set x h off) next (is.linked set).chain in
            let linked : IsLinked more id (id ∷ sets set) = record {
              chain = chain;
              once = (absent set, (is.linked set).once);
              below = λ x h. elim (in_cases id (sets set) x h) [
                | inl same ↦ omega (arith, same, lt, long)
                | inr k ↦ let below : x < length links = (is.linked set).below x k in omega (arith, below, long)
              ];
            } in
            subst (λ (l : List ℕ). IsLinked more (head_at others s) l) (sym (ids_own set (id ∷ sets set) sets s e))
            (subst (λ (h : ℕ). IsLinked more h (id ∷ sets set)) (sym (ap (λ (k : ℕ). head_at others k) e ∙ get_or-set_same heads set id NO_ITEM there)) linked)
        | inr off ↦
            let away : (x : ℕ) → Contains (sets s) x → x ≢ first = λ x h e.
            off (is.apart s set x h (subst (λ (k : ℕ). Contains (sets set) k) (sym e) (first_in links NO_ITEM first (sets set) (let below : x < length links = (is.linked s).below x h in omega (arith, below, e)) is.few (is.linked set).chain))) in
            let linked : IsLinked more (head_at heads s) (sets s) = record {
              chain = chain_stays links more NO_ITEM (head_at heads s) (sets s) (λ x h. ap (λ (l : Link). l.before) (still s x h (away x h))) (λ x h. ap (λ (l : Link). l.behind) (still s x h (away x h))) (is.linked s).chain;
              once = (is.linked s).once;
              below = λ x h. let below : x < length links = (is.linked s).below x h in omega (arith, below, long);
            } in
            subst (λ (l : List ℕ). IsLinked more (head_at others s) l) (sym (ids_other set (id ∷ sets set) sets s off))
            (subst (λ (h : ℕ). IsLinked more h (sets s)) (sym (get_or-set_other heads set s id NO_ITEM off)) linked)
      ];
      apart = with_apart set (id ∷ sets set) sets is.apart (λ t x h k. elim (in_cases id (sets set) x h) [
        | inl e ↦ absurd (absent t (subst (λ (y : ℕ). Contains (sets t) y) e k))
        | inr there ↦ is.apart t set x k there
      ]);
    } in
    record {
      linked = sets_linked more others now are;
      put = record {
        more = subst (λ (l : List ℕ). IsPermutation l (id ∷ sets set)) (sym (sets_are more others now set are ∙ ids_own set (id ∷ sets set) sets set refl)) (IsPermutation-refl (id ∷ sets set));
        others = λ s off. sets_are more others now s are ∙ ids_other set (id ∷ sets set) sets s off;
      };
    }

-- ---- an id is taken out of its set

-- where one id was before another and one behind it, they are beside one another
record IsCut (links more : List Link) (p n : ℕ) : Type 0 where
  before_off : (x : ℕ) → x ≢ n → before_at more x ≡ before_at links x
  before_on : n < length links → before_at more n ≡ p
  behind_off : (x : ℕ) → x ≢ p → behind_at more x ≡ behind_at links x
  behind_on : p < length links → behind_at more p ≡ n

abbrev pub links_cut : List Link → ℕ → ℕ → List Link
links_cut links p n = with_before (with_behind links p n) n p

links_are_cut : (links : List Link) (p n : ℕ) → IsCut links (links_cut links p n) p n
links_are_cut links p n =
    let mid : List Link = with_behind links p n in
    let l : Link = record { before = before_at links p; behind = n } in
    let m : Link = record { before = p; behind = behind_at mid n } in
    let long : length mid ≡ length links = length-set links p l in
    record {
      before_off = λ x off. ap (λ (k : Link). k.before) (link_still mid n x m off) ∙ before_stays links p n x;
      before_on = λ lt. ap (λ (k : Link). k.before) (link_now mid n m (omega (arith, lt, long)));
      behind_off = λ x off. behind_stays mid n p x ∙ ap (λ (k : Link). k.behind) (link_still links p x l off);
      behind_on = λ lt. behind_stays mid n p p ∙ ap (λ (k : Link). k.behind) (link_now links p l lt);
    }

-- the last of the ids before one, and with which one the rest begins
abbrev last_of : ℕ → List ℕ → ℕ
last_of before [] = before
last_of before (x ∷ xs) = last_of x xs

abbrev start_of : List ℕ → ℕ → ℕ → ℕ
start_of [] at next = next
start_of (x ∷ xs) at next = at

last_in : (x : ℕ) (xs : List ℕ) → Contains (x ∷ xs) (last_of x xs)
last_in x [] = head_in x []
last_in x (y ∷ ys) = tail_in x (y ∷ ys) (last_of y ys) (last_in y ys)

-- what is behind the id that goes follows on what was before it
back_chain : (links more : List Link) (p n id : ℕ) (back : List ℕ) → IsCut links more p n → AreOnce back → ((x : ℕ) → Contains back x → x < length links) → ((x : ℕ) → Contains back x → x ≢ p) → IsChain links id n back → IsChain more p n back
back_chain links more p n id [] cut once below off is = is
back_chain links more p n id (y ∷ ys) cut once below off is =
    let here : y < length links = below y (head_in y ys) in
    let away : (x : ℕ) → Contains ys x → x ≢ n = λ x h e. once.0 (subst (λ (z : ℕ). Contains ys z) (e ∙ is.0) h) in
    let before : before_at more y ≡ p = ap (λ (k : ℕ). before_at more k) (sym is.0) ∙ cut.before_on (omega (arith, here, is.0)) in
    let behind : behind_at more y ≡ behind_at links y = cut.behind_off y (off y (head_in y ys)) in
    let rest : IsChain more y (behind_at links y) ys = chain_stays links more y (behind_at links y) ys (λ x h. cut.before_off x (away x h)) (λ x h. cut.behind_off x (off x (tail_in y ys x h))) is.1.1 in
    (is.0, (before, subst (λ (k : ℕ). IsChain more y k ys) (sym behind) rest))

-- the ids of a set without the one that goes
cut_chain : (links more : List Link) (p n id before at : ℕ) (front back : List ℕ) → IsCut links more p n → n ≡ behind_at links id → p ≡ last_of before front → AreOnce (front ++ id ∷ back) → ((x : ℕ) → Contains (front ++ id ∷ back) x → x < length links)
    → ((x : ℕ) → Contains back x → x ≢ p) → ((x : ℕ) → Contains front x → x ≢ n) → IsChain links before at (front ++ id ∷ back) → IsChain more before (start_of front at n) (front ++ back)
cut_chain links more p n id before at [] back cut next last once below off away is =
    let rest : IsChain links id n back = subst (λ (k : ℕ). IsChain links id k back) (sym next) is.1.1 in
    subst (λ (k : ℕ). IsChain more k n back) last (back_chain links more p n id back cut once.1 (λ x h. below x (tail_in id back x h)) off rest)
cut_chain links more p n id before at (f ∷ front) back cut next last once below off away is =
    let tail : List ℕ = front ++ id ∷ back in
    let rest : IsChain more f (start_of front (behind_at links f) n) (front ++ back) = cut_chain links more p n id f (behind_at links f) front back cut next last once.1 (λ x h. below x (tail_in f tail x h)) off (λ x h. away x (tail_in f front x h)) is.1.1 in
    let step : behind_at more f ≡ start_of front (behind_at links f) n = by front last once.0 in
    (is.0, (cut.before_off f (away f (head_in f front)) ∙ is.1.0, subst (λ (k : ℕ). IsChain more f k (front ++ back)) (sym step) rest))
  where
    by : (gs : List ℕ) → p ≡ last_of f gs → (Contains (gs ++ id ∷ back) f → ⊥) → behind_at more f ≡ start_of gs (behind_at links f) n
    by [] e absent =
        let here : f < length links = below f (head_in f (front ++ id ∷ back)) in
        ap (λ (k : ℕ). behind_at more k) (sym e) ∙ cut.behind_on (omega (arith, here, e))
    by (g ∷ gs) e absent = cut.behind_off f (λ same. absent (Contains-append_left (g ∷ gs) (id ∷ back) f (subst (λ (k : ℕ). Contains (g ∷ gs) k) (sym (same ∙ e)) (last_in g gs))))

-- which id is before one in a thread
before_is : (links : List Link) (before at id : ℕ) (front back : List ℕ) → IsChain links before at (front ++ id ∷ back) → before_at links id ≡ last_of before front
before_is links before at id [] back is = is.1.0
before_is links before at id (f ∷ front) back is = before_is links f (behind_at links f) id front back is.1.1

-- what an id has beside it, in a thread that is split there
record IsBeside (links : List Link) (id : ℕ) (front back : List ℕ) : Type 0 where
  last : before_at links id ≡ last_of NO_ITEM front
  rest : IsChain links id (behind_at links id) back
  behind_off : (x : ℕ) → Contains back x → x ≢ before_at links id
  before_off : (x : ℕ) → Contains front x → x ≢ behind_at links id

beside_is : (links : List Link) (at id : ℕ) (front back : List ℕ) → length links ≤ MAX_ITEMS → IsLinked links at (front ++ id ∷ back) → IsBeside links id front back
beside_is links at id front back few is =
    let last : before_at links id ≡ last_of NO_ITEM front = before_is links NO_ITEM at id front back is.chain in
    let rest : IsChain links id (behind_at links id) back = chain_behind links NO_ITEM at id front back is.chain in
    record {
      last = last;
      rest = rest;
      behind_off = λ x h e. none_before front last (λ y k. once_apart front (id ∷ back) y is.once k) (λ y k. is.below y (Contains-append_right front (id ∷ back) y (tail_in id back y k))) x h e;
      before_off = λ x h e. none_behind back rest (λ y k m. once_apart front (id ∷ back) y is.once k (tail_in id back y m)) (λ y k. is.below y (Contains-append_left front (id ∷ back) y k)) x h e;
    }
  where
    none_before : (gs : List ℕ) → before_at links id ≡ last_of NO_ITEM gs → ((y : ℕ) → Contains gs y → Contains (id ∷ back) y → ⊥) → ((y : ℕ) → Contains back y → y < length links) → (x : ℕ) → Contains back x → x ≡ before_at links id → ⊥
    none_before [] last apart below x h e = let lt : x < length links = below x h in omega (arith, lt, few, e, last)
    none_before (g ∷ gs) last apart below x h e = apart x (subst (λ (k : ℕ). Contains (g ∷ gs) k) (sym (e ∙ last)) (last_in g gs)) (tail_in id back x h)

    none_behind : (gs : List ℕ) → IsChain links id (behind_at links id) gs → ((y : ℕ) → Contains front y → Contains gs y → ⊥) → ((y : ℕ) → Contains front y → y < length links) → (x : ℕ) → Contains front x → x ≡ behind_at links id → ⊥
    none_behind [] rest apart below x h e = let lt : x < length links = below x h in omega (arith, lt, few, e, rest)
    none_behind (g ∷ gs) rest apart below x h e = apart x h (subst (λ (k : ℕ). Contains (g ∷ gs) k) (sym (e ∙ rest.0)) (head_in g gs))

-- the heads then
head_same : (heads : List ℕ) (set p n : ℕ) → p ≢ NO_ITEM → with_head heads set p n ≡ heads
head_same heads set p n off = grind (arith, off)

head_gone : (heads : List ℕ) (set p n : ℕ) → p ≡ NO_ITEM → with_head heads set p n ≡ slice_set heads set n
head_gone heads set p n none = grind (arith, none)

pub heads_long : (heads : List ℕ) (set p n : ℕ) → length (with_head heads set p n) ≡ length heads
heads_long heads set p n = elim (cases_eq p NO_ITEM) [
  | inl none ↦ ap (λ (l : List ℕ). length l) (head_gone heads set p n none) ∙ length-set heads set n
  | inr off ↦ ap (λ (l : List ℕ). length l) (head_same heads set p n off)
]

head_other : (heads : List ℕ) (set p n s : ℕ) → s ≢ set → head_at (with_head heads set p n) s ≡ head_at heads s
head_other heads set p n s off = elim (cases_eq p NO_ITEM) [
  | inl none ↦ ap (λ (l : List ℕ). head_at l s) (head_gone heads set p n none) ∙ get_or-set_other heads set s n NO_ITEM off
  | inr some ↦ ap (λ (l : List ℕ). head_at l s) (head_same heads set p n some)
]

head_own : (heads : List ℕ) (set p n bound : ℕ) (front : List ℕ) → set < length heads → bound ≤ MAX_ITEMS → ((x : ℕ) → Contains front x → x < bound) → p ≡ last_of NO_ITEM front → head_at (with_head heads set p n) set ≡ start_of front (head_at heads set) n
head_own heads set p n bound [] there few below last = ap (λ (l : List ℕ). head_at l set) (head_gone heads set p n last) ∙ get_or-set_same heads set n NO_ITEM there
head_own heads set p n bound (f ∷ front) there few below last =
    let lt : last_of f front < bound = below (last_of f front) (last_in f front) in
    ap (λ (l : List ℕ). head_at l set) (head_same heads set p n (λ e. omega (arith, lt, few, last, e)))

pub record IsLinkedOut (links more : List Link) (heads others : List ℕ) (set id : ℕ) : Type 0 where
  pub linked : AreLinked more others
  pub taken : IsTaken (sets_of links heads) (sets_of more others) set id
  pub gone : IsAbsent (sets_of more others) id

pub take_linked : (links : List Link) (heads : List ℕ) (set id : ℕ) → AreLinked links heads → Contains (list_at (sets_of links heads) set) id
    → IsLinkedOut links (links_cut links (before_at links id) (behind_at links id)) heads (with_head heads set (before_at links id) (behind_at links id)) set id
take_linked links heads set id is here =
    let sets : ℕ → List ℕ = λ s. list_at (sets_of links heads) s in
    let p : ℕ = before_at links id in
    let n : ℕ = behind_at links id in
    let more : List Link = links_cut links p n in
    let others : List ℕ = with_head heads set p n in
    let there : set < length heads = set_there links heads set id here in
    let split : IsSplitAt id (sets set) = split_at id (sets set) here in
    let front : List ℕ = split.front in
    let back : List ℕ = split.back in
    let whole : IsLinked links (head_at heads set) (front ++ id ∷ back) = subst (λ (l : List ℕ). IsLinked links (head_at heads set) l) split.is (is.linked set) in
    let beside : IsBeside links id front back = beside_is links (head_at heads set) id front back is.few whole in
    let cut : IsCut links more p n = links_are_cut links p n in
    let out : IsLeftOut id (front ++ back) = left_out id front back whole.once in
    let now : ℕ → List ℕ = with_ids set (front ++ back) sets in
    let long : length more ≡ length links = length-set (with_behind links p n) n (record { before = p; behind = behind_at (with_behind links p n) n }) ∙ length-set links p (record { before = before_at links p; behind = n }) in
    let inside : (x : ℕ) → Contains (front ++ back) x → Contains (front ++ id ∷ back) x = λ x h. elim (Contains-append_cases front back x h) [
      | inl f ↦ Contains-append_left front (id ∷ back) x f
      | inr b ↦ Contains-append_right front (id ∷ back) x (tail_in id back x b)
    ] in
    let own : (x : ℕ) → Contains (front ++ id ∷ back) x → Contains (sets set) x = λ x h. subst (λ (l : List ℕ). Contains l x) (sym split.is) h in
    let are : AreSets more others now = record {
      few = omega (arith, long, is.few);
      linked = λ s. elim (cases_eq s set) [
        | inl e ↦
            let chain : IsChain more NO_ITEM (start_of front (head_at heads set) n) (front ++ back) = cut_chain links more p n id NO_ITEM (head_at heads set) front back cut refl beside.last whole.once whole.below beside.behind_off beside.before_off whole.chain in
            let head : head_at others set ≡ start_of front (head_at heads set) n = head_own heads set p n (length links) front there is.few (λ x h. whole.below x (Contains-append_left front (id ∷ back) x h)) beside.last in
            let linked : IsLinked more (start_of front (head_at heads set) n) (front ++ back) = record {
              chain = chain;
              once = out.once;
              below = λ x h. let lt : x < length links = whole.below x (inside x h) in omega (arith, lt, long);
            } in
            subst (λ (l : List ℕ). IsLinked more (head_at others s) l) (sym (ids_own set (front ++ back) sets s e))
            (subst (λ (h : ℕ). IsLinked more h (front ++ back)) (sym (ap (λ (k : ℕ). head_at others k) e ∙ head)) linked)
        | inr off ↦
            let away : (x : ℕ) → Contains (sets s) x → Contains (front ++ id ∷ back) x → ⊥ = λ x h k. off (is.apart s set x h (own x k)) in
            let far : (x : ℕ) → Contains (sets s) x → x ≢ p = λ x h e. no_last front beside.last x ((is.linked s).below x h) (λ k. away x h (Contains-append_left front (id ∷ back) x k)) e in
            let wide : (x : ℕ) → Contains (sets s) x → x ≢ n = λ x h e. no_first back beside.rest x ((is.linked s).below x h) (λ k. away x h (Contains-append_right front (id ∷ back) x (tail_in id back x k))) e in
            let linked : IsLinked more (head_at heads s) (sets s) = record {
              chain = chain_stays links more NO_ITEM (head_at heads s) (sets s) (λ x h. cut.before_off x (wide x h)) (λ x h. cut.behind_off x (far x h)) (is.linked s).chain;
              once = (is.linked s).once;
              below = λ x h. let lt : x < length links = (is.linked s).below x h in omega (arith, lt, long);
            } in
            subst (λ (l : List ℕ). IsLinked more (head_at others s) l) (sym (ids_other set (front ++ back) sets s off))
            (subst (λ (h : ℕ). IsLinked more h (sets s)) (sym (head_other heads set p n s off)) linked)
      ];
      apart = with_apart set (front ++ back) sets is.apart (λ t x h k. is.apart t set x k (own x (inside x h)));
    } in
    record {
      linked = sets_linked more others now are;
      taken = record {
        less = subst (λ (l : List ℕ). IsPermutation l (id ∷ list_at (sets_of more others) set)) (sym split.is)
            (subst (λ (l : List ℕ). IsPermutation (front ++ id ∷ back) (id ∷ l)) (sym (sets_are more others now set are ∙ ids_own set (front ++ back) sets set refl)) (IsPermutation-middle front id back));
        others = λ s off. sets_are more others now s are ∙ ids_other set (front ++ back) sets s off;
      };
      gone = λ s h. elim (cases_eq s set) [
        | inl e ↦ out.absent (subst (λ (l : List ℕ). Contains l id) (sets_are more others now s are ∙ ids_own set (front ++ back) sets s e) h)
        | inr off ↦ off (is.apart s set id (subst (λ (l : List ℕ). Contains l id) (sets_are more others now s are ∙ ids_other set (front ++ back) sets s off) h) here)
      ];
    }
  where
    no_last : (gs : List ℕ) → before_at links id ≡ last_of NO_ITEM gs → (x : ℕ) → x < length links → (Contains gs x → ⊥) → x ≡ before_at links id → ⊥
    no_last [] last x lt absent e = omega (arith, lt, is.few, e, last)
    no_last (g ∷ gs) last x lt absent e = absent (subst (λ (k : ℕ). Contains (g ∷ gs) k) (sym (e ∙ last)) (last_in g gs))

    no_first : (gs : List ℕ) → IsChain links id (behind_at links id) gs → (x : ℕ) → x < length links → (Contains gs x → ⊥) → x ≡ behind_at links id → ⊥
    no_first [] rest x lt absent e = omega (arith, lt, is.few, e, rest)
    no_first (g ∷ gs) rest x lt absent e = absent (subst (λ (k : ℕ). Contains (g ∷ gs) k) (sym (e ∙ rest.0)) (head_in g gs))
