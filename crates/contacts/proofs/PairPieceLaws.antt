-- The contacts of near pairs in pieces are those of all pairs.
use Rattle.std.proofs.Common.{◌≡◌, ℕ, zero, suc, ◌+◌, ◌-◌, ◌<◌, ◌≤◌, List, [], ◌∷◌, ◌++◌, length, map, take, drop, get_or, refl, sym, ap, ap₂, ◌∙◌, subst, arith}
use Rattle.std.proofs.lemmas.List.{get_or-drop, get_or-take, length-drop, map-append}
use Rattle.std.proofs.lemmas.List.Elements.{filter_map-append}
use Rattle.contacts_base.specs.declared.near.Proxy.{Proxy}
use Rattle.contacts_base.specs.declared.key.ContactKey.{ContactKey}
use Rattle.contacts_base.specs.declared.contact.ContactEntry.{ContactEntry}
use Rattle.contacts_base.specs.ContactLists.{AreContacts}
use Rattle.contacts_base.specs.Proxies.{IsProxyList}
use Rattle.contacts.specs.declared.changes.Present.{Present}
use Rattle.contacts.specs.Pairs.{IsPair, ArePairs}
use Rattle.contacts.specs.ByCodes.{contacts_of, entry_at}
use Rattle.contacts_base.specs.Changes.{key_if_touching, keys_touching_only_in}
use Rattle.contacts_base.specs.ChangedKeys.{key_unless_in, keys_not_in}
use Rattle.contacts.specs.PieceRanges.{PieceRange, items_in, items_of}
use Rattle.contacts.specs.PairValues.{Evaluated, NearLists}
use Rattle.contacts.specs.PairPieces.{IsRoomFor, both, evaluated, evaluated_in, evaluated_of, joined, shown}
use Rattle.contacts.proofs.ChangeLemmas.{contacts_rise}
use Rattle.contacts.proofs.SurfaceLemmas.{surfaces_of}

-- ---- room

pub still_room : (n a b : ℕ) → b ≡ a → n ≤ a → n ≤ b
still_room n a b same room = omega arith

pub one_longer : (a b i : ℕ) → b ≡ a + 1 → a ≡ i → b ≡ i + 1
one_longer a b i more is = omega arith

pub not_longer : (a b i : ℕ) → b ≤ a + 1 → a ≤ i → b ≤ i + 1
not_longer a b i more le = omega arith

-- ---- pairs that follow one another

taken_within : (n k : ℕ) (xs : List ℕ) → k < length (take n xs) → k < length xs
taken_within zero k xs a = omega (arith, a)
taken_within (suc n) k [] a = a
taken_within (suc n) zero (x ∷ xs) a = omega arith
taken_within (suc n) (suc k) (x ∷ xs) a = let b : k < length xs = taken_within n k xs (omega (arith, a)) in omega (arith, b)

below_taken : (n k : ℕ) (xs : List ℕ) → k < length (take n xs) → k < n
below_taken zero k xs a = a
below_taken (suc n) k [] a = omega (arith, a)
below_taken (suc n) zero (x ∷ xs) a = omega arith
below_taken (suc n) (suc k) (x ∷ xs) a = let b : k < n = below_taken n k xs (omega (arith, a)) in omega (arith, b)

-- the place in the whole list
inside : (n m k : ℕ) (xs : List ℕ) → k < length (take n (drop m xs)) → m + k < length xs
inside n m k xs a =
    let b : k < length (drop m xs) = taken_within n k (drop m xs) a in
    let c : length (drop m xs) ≡ length xs - m = length-drop m xs in
    omega (arith, b, c)

code_in : (n m k : ℕ) (xs : List ℕ) (d : ℕ) → k < length (take n (drop m xs)) → get_or (take n (drop m xs)) k d ≡ get_or xs (m + k) d
code_in n m k xs d a = get_or-take n (drop m xs) k d (below_taken n k (drop m xs) a) ∙ get_or-drop m xs k d

more_by_one : (m k : ℕ) → m + (k + 1) ≡ m + k + 1
more_by_one m k = omega arith

below : (a b x y : ℕ) → a ≡ x → b ≡ y → x < y → a < b
below a b x y p q h = omega arith

pub pairs_within : (ps : List Proxy) (codes : List ℕ) (n m : ℕ) → ArePairs ps codes → ArePairs ps (take n (drop m codes))
pairs_within ps codes n m pairs = record {
  each = λ k d lt. subst (IsPair ps) (sym (code_in n m k codes d lt)) (pairs.each (m + k) d (inside n m k codes lt));
  rising = λ k lt.
      let before : k < length (take n (drop m codes)) = omega (arith, lt) in
      let later : m + k + 1 < length codes = subst (λ (i : ℕ). i < length codes) (more_by_one m k) (inside n m (k + 1) codes lt) in
      let here : get_or (take n (drop m codes)) k 0 ≡ get_or codes (m + k) 0 = code_in n m k codes 0 before in
      let next : get_or (take n (drop m codes)) (k + 1) 0 ≡ get_or codes (m + k + 1) 0 = code_in n m (k + 1) codes 0 lt ∙ ap (λ (i : ℕ). get_or codes i 0) (more_by_one m k) in
      below _ _ _ _ here next (pairs.rising (m + k) later);
}

taken_few : (n : ℕ) (xs : List ℕ) → length (take n xs) ≤ n
taken_few zero xs = omega arith
taken_few (suc n) [] = omega arith
taken_few (suc n) (x ∷ xs) = let le : length (take n xs) ≤ n = taken_few n xs in omega (arith, le)

through : (a b c : ℕ) → a ≤ b → b ≤ c → a ≤ c
through a b c h g = omega arith

pub room_for_fewer : (n : ℕ) (xs : List ℕ) (p : Present) → IsRoomFor n p → IsRoomFor (length (take n xs)) p
room_for_fewer n xs p h = record {
  no_now = h.no_now;
  no_made = h.no_made;
  no_begin = h.no_begin;
  now = through _ _ _ (taken_few n xs) h.now;
  made = through _ _ _ (taken_few n xs) h.made;
  begin = through _ _ _ (taken_few n xs) h.begin;
}

-- ---- all as one

abbrev as_evaluated : List ContactEntry → List ContactKey → List ContactKey → Evaluated
as_evaluated now made begin = record { now = now; made = made; begin = begin }

same : (a b : Evaluated) → a.now ≡ b.now → a.made ≡ b.made → a.begin ≡ b.begin → a ≡ b
same a b n m g = ap₂ (λ (x : List ContactEntry) (y : List ContactKey). as_evaluated x y a.begin) n m ∙ ap (λ (z : List ContactKey). as_evaluated b.now b.made z) g

pub shown_is : (p : Present) (old : List ContactEntry) (ps : List Proxy) (codes : List ℕ) → p.now.items ≡ contacts_of old ps codes → p.made.items ≡ keys_not_in old p.now.items → p.begin.items ≡ keys_touching_only_in old p.now.items → shown p ≡ evaluated_of old ps codes
shown_is p old ps codes n m g = same (shown p) (evaluated_of old ps codes) n (m ∙ ap (keys_not_in old) n) (g ∙ ap (keys_touching_only_in old) n)

pub shown_now : (p : Present) (old : List ContactEntry) (ps : List Proxy) (codes : List ℕ) → shown p ≡ evaluated_of old ps codes → p.now.items ≡ contacts_of old ps codes
shown_now p old ps codes h = ap (λ (e : Evaluated). e.now) h

pub shown_made : (p : Present) (old : List ContactEntry) (ps : List Proxy) (codes : List ℕ) → shown p ≡ evaluated_of old ps codes → p.made.items ≡ keys_not_in old p.now.items
shown_made p old ps codes h = ap (λ (e : Evaluated). e.made) h ∙ ap (keys_not_in old) (sym (shown_now p old ps codes h))

pub shown_begin : (p : Present) (old : List ContactEntry) (ps : List Proxy) (codes : List ℕ) → shown p ≡ evaluated_of old ps codes → p.begin.items ≡ keys_touching_only_in old p.now.items
shown_begin p old ps codes h = ap (λ (e : Evaluated). e.begin) h ∙ ap (keys_touching_only_in old) (sym (shown_now p old ps codes h))

pub are_contacts : (p : Present) (old : List ContactEntry) (ps : List Proxy) (codes : List ℕ) → AreContacts old → IsProxyList ps → ArePairs ps codes → shown p ≡ evaluated_of old ps codes → AreContacts p.now.items
are_contacts p old ps codes contacts list pairs h = subst AreContacts (sym (shown_now p old ps codes h)) (record { rising = contacts_rise old ps codes list pairs; surfaces = surfaces_of old ps codes contacts.surfaces list pairs })

pub evaluated-append : (old : List ContactEntry) (ps : List Proxy) (a b : List ℕ) → evaluated_of old ps (a ++ b) ≡ both (evaluated_of old ps a) (evaluated_of old ps b)
evaluated-append old ps a b =
    let now : contacts_of old ps (a ++ b) ≡ contacts_of old ps a ++ contacts_of old ps b = map-append (entry_at old ps) a b in
    same (evaluated_of old ps (a ++ b)) (both (evaluated_of old ps a) (evaluated_of old ps b)) now
    (ap (keys_not_in old) now ∙ filter_map-append (key_unless_in old) (contacts_of old ps a) (contacts_of old ps b))
    (ap (keys_touching_only_in old) now ∙ filter_map-append (key_if_touching old) (contacts_of old ps a) (contacts_of old ps b))

pub pairs_joined : (l : NearLists) (pieces : List PieceRange) → joined (map (evaluated l) pieces) ≡ evaluated_in l (items_of (λ (r : PieceRange). r) l.near pieces)
pairs_joined l [] = refl
pairs_joined l (r ∷ pieces) =
    ap (both (evaluated l r)) (pairs_joined l pieces)
    ∙ sym (evaluated-append l.contacts.long l.proxies (items_in l.near r) (items_of (λ (q : PieceRange). q) l.near pieces))
