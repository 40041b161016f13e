-- A look over contacts in pieces finds what one over all places finds.
use Rattle.std.proofs.Common.{◌≡◌, ℕ, zero, suc, ◌+◌, ◌<◌, ◌≤◌, List, [], ◌∷◌, ◌++◌, length, map, take, get_or, Bool, true, false, cond, Option, Some, None, refl, sym, ap, ap₂, ◌∙◌, subst, arith, add-one}
use Rattle.std.specs.Prelude.{All}
use Rattle.std.specs.List.{cons_option, filter_map, flat_map}
use Rattle.std.specs.Option.{option_to_list}
use Rattle.std.proofs.lemmas.List.{flat_map_more, take_more}
use Rattle.std.proofs.lemmas.Grind.{flat_map-append}
use Rattle.std.proofs.lemmas.List.Elements.{filter_map-append}
use Rattle.contacts_base.specs.declared.near.Proxy.{Proxy}
use Rattle.contacts_base.specs.declared.key.ContactKey.{ContactKey}
use Rattle.contacts_base.specs.declared.contact.ContactEntry.{ContactEntry}
use Rattle.contacts_base.specs.declared.split.Renewal.{Renewal}
use Rattle.contacts_base.specs.Keys.{id_number}
use Rattle.contacts_base.specs.Split.{Split, counting, counting_at}
use Rattle.contacts_base.specs.declared.body_pair.BodyPair.{BodyPair}
use Rattle.contacts.specs.declared.fates.Fate.TheVariants.{Stays, Goes, Renewed}
use Rattle.contacts.specs.Known.{IsPairKey, again, again_of, found, stays}
use Rattle.contacts.specs.Fates.{after_fate, moved_by, noted, one_stirs_of, outcome}
use Rattle.contacts.specs.Looked.{IsFate, IsLookedOver, begun_of, ended_of, ending}
use Rattle.contacts.specs.Stirring.{AreQuiet, AreStirring}
use Rattle.contacts.specs.declared.survey.Looked.{Looked}
use Rattle.contacts.specs.PieceRanges.{PieceRange, items_in, items_of}
use Rattle.contacts.specs.SurveyValues.{Looks}
use Rattle.contacts.specs.SurveyPieces.{IsLookRoomFor, both_looks, fate_at, fate_if, fate_of, joined_looks, looks_of}
use Rattle.contacts.proofs.FateLemmas.{still_again}
use Rattle.contacts.proofs.SurveyLaws.{IsFound, IsWalking, all_found, found_step, nothing_found, walk_ends, walk_goes, walk_starts}

-- ---- one contact

same_contact : (e : ContactEntry) (o r : Option Proxy) → record e { contact = (again_of e o r).contact } ≡ again_of e o r
same_contact e None r = refl
same_contact e (Some p) None = refl
same_contact e (Some p) (Some q) = refl

fate_by : (t u : Bool) (e f : ContactEntry) → record e { contact = f.contact } ≡ f → (u ≡ false → f ≡ e) → after_fate e (cond t (cond u (Renewed f.contact) Stays) Goes) ≡ cond t (Some f) None
fate_by true true e f same still = ap (λ (x : ContactEntry). Some x) same
fate_by true false e f same still = ap (λ (x : ContactEntry). Some x) (sym (still refl))
fate_by false u e f same still = refl

pub fate_is_outcome : (moved : ℕ → Bool) (pairs : List BodyPair) (ps : List Proxy) (e : ContactEntry) → after_fate e (fate_of moved pairs ps e) ≡ outcome moved pairs ps e
fate_is_outcome moved pairs ps e = fate_by (stays moved pairs ps e) (one_stirs_of ps e.key) e (again ps e) (same_contact e (found ps (id_number e.key.first)) (found ps (id_number e.key.second))) (still_again ps e)

is_fate : (moved : ℕ → Bool) (pairs : List BodyPair) (ps : List Proxy) (o : Option ContactEntry) → IsFate moved pairs ps o (fate_if moved pairs ps o)
is_fate moved pairs ps None = refl
is_fate moved pairs ps (Some e) = fate_is_outcome moved pairs ps e

-- the code's answer, by its cases
pub renewed_fate : (moved : ℕ → Bool) (pairs : List BodyPair) (ps : List Proxy) (e : ContactEntry) (t u : Bool) → stays moved pairs ps e ≡ t → one_stirs_of ps e.key ≡ u → fate_of moved pairs ps e ≡ cond t (cond u (Renewed (again ps e).contact) Stays) Goes
renewed_fate moved pairs ps e t u a b = rw (a, b) refl

-- ---- room

fewer : (n : ℕ) (xs : List ℕ) → length (take n xs) ≤ n
fewer zero xs = omega arith
fewer (suc n) [] = omega arith
fewer (suc n) (x ∷ xs) = let le : length (take n xs) ≤ n = fewer n xs in omega (arith, le)

within : (a b c : ℕ) → a ≤ b → b ≤ c → a ≤ c
within a b c h g = omega arith

pub room_for_fewer : (n : ℕ) (xs : List ℕ) (l : Looked) → IsLookRoomFor n l → IsLookRoomFor (length (take n xs)) l
room_for_fewer n xs l h = record {
  no_notes = h.no_notes;
  no_ends = h.no_ends;
  no_begin = h.no_begin;
  no_end = h.no_end;
  notes = within _ _ _ (fewer n xs) h.notes;
  ends = within _ _ _ (fewer n xs) h.ends;
  begin = within _ _ _ (fewer n xs) h.begin;
  end = within _ _ _ (fewer n xs) h.end;
}

-- ---- all as one

abbrev as_looks : List Renewal → List ℕ → List ContactKey → List ContactKey → Looks
as_looks notes ends begin end = record { notes = notes; ends = ends; begin = begin; end = end }

same : (a b : Looks) → a.notes ≡ b.notes → a.ends ≡ b.ends → a.begin ≡ b.begin → a.end ≡ b.end → a ≡ b
same a b n m g h = ap₂ (λ (x : List Renewal) (y : List ℕ). as_looks x y a.begin a.end) n m ∙ ap₂ (λ (x y : List ContactKey). as_looks b.notes b.ends x y) g h

pub looks-append : (moved : ℕ → Bool) (pairs : List BodyPair) (ps : List Proxy) (s : Split) (a b : List ℕ) → looks_of moved pairs ps s (a ++ b) ≡ both_looks (looks_of moved pairs ps s a) (looks_of moved pairs ps s b)
looks-append moved pairs ps s a b = same (looks_of moved pairs ps s (a ++ b)) (both_looks (looks_of moved pairs ps s a) (looks_of moved pairs ps s b))
    (flat_map-append (λ (k : ℕ). noted k (fate_at moved pairs ps s k)) a b)
    (flat_map-append (λ (k : ℕ). ending k (fate_at moved pairs ps s k)) a b)
    (filter_map-append (λ (k : ℕ). begun_of (counting_at s k) (fate_at moved pairs ps s k)) a b)
    (filter_map-append (λ (k : ℕ). ended_of (counting_at s k) (fate_at moved pairs ps s k)) a b)

pub looks_joined : (moved : ℕ → Bool) (pairs : List BodyPair) (ps : List Proxy) (s : Split) (places : List ℕ) (pieces : List PieceRange) → joined_looks (map (λ (r : PieceRange). looks_of moved pairs ps s (items_in places r)) pieces) ≡ looks_of moved pairs ps s (items_of (λ (r : PieceRange). r) places pieces)
looks_joined moved pairs ps s places [] = refl
looks_joined moved pairs ps s places (r ∷ pieces) =
    ap (both_looks (looks_of moved pairs ps s (items_in places r))) (looks_joined moved pairs ps s places pieces)
    ∙ sym (looks-append moved pairs ps s (items_in places r) (items_of (λ (q : PieceRange). q) places pieces))

-- ---- what one over all places finds

picked : (f : ℕ → Option ContactKey) (places : List ℕ) (k d : ℕ) → k < length places → filter_map f (take (k + 1) places) ≡ filter_map f (take k places) ++ option_to_list (f (get_or places k d))
picked f places k d lt = ap (filter_map f) (take_more places k d lt) ∙ filter_map-append f (take k places) (get_or places k d ∷ []) ∙ ap (λ (l : List ContactKey). filter_map f (take k places) ++ l) (one (f (get_or places k d)))
  where
    one : (o : Option ContactKey) → cons_option o [] ≡ option_to_list o
    one None = refl
    one (Some c) = refl

mapped : (A : Type 0) (f : ℕ → List A) (places : List ℕ) (k d : ℕ) → k < length places → flat_map f (take (k + 1) places) ≡ flat_map f (take k places) ++ f (get_or places k d)
mapped A f places k d lt = ap (flat_map f) (take_more places k d lt) ∙ sym (flat_map_more f [] (take k places) (get_or places k d))

pub list_step : (A : Type 0) (f : ℕ → List A) (places : List ℕ) (k d place : ℕ) (xs now more : List A) → k < length places → place ≡ get_or places k d → xs ≡ f place → now ≡ flat_map f (take k places) → more ≡ now ++ xs → more ≡ flat_map f (take (k + 1) places)
list_step A f places k d place xs now more lt at is was added =
    added ∙ ap (λ (l : List A). l ++ xs) was ∙ ap (λ (l : List A). flat_map f (take k places) ++ l) (is ∙ ap f at) ∙ sym (mapped A f places k d lt)

pub option_step : (f : ℕ → Option ContactKey) (places : List ℕ) (k d place : ℕ) (o : Option ContactKey) (now more : List ContactKey) → k < length places → place ≡ get_or places k d → o ≡ f place → now ≡ filter_map f (take k places) → more ≡ now ++ option_to_list o → more ≡ filter_map f (take (k + 1) places)
option_step f places k d place o now more lt at is was added =
    added ∙ ap (λ (l : List ContactKey). l ++ option_to_list o) was ∙ ap (λ (x : Option ContactKey). filter_map f (take k places) ++ option_to_list x) (is ∙ ap f at) ∙ sym (picked f places k d lt)

-- what is known when the first k places are looked at
abbrev Knows : List Bool → List Bool → List BodyPair → List Proxy → Split → List ℕ → ℕ → Looks → Type 0
Knows flags marks pairs ps s places k l = IsWalking flags s places k (IsFound (moved_by marks) pairs ps s l.notes l.ends l.begin l.end)

one_more : (flags marks : List Bool) (pairs : List BodyPair) (ps : List Proxy) (s : Split) (places : List ℕ) (k : ℕ) → length s.over ≡ length s.long → AreQuiet flags marks ps → All (λ e. IsPairKey e.key) (counting s.over s.long) → k < length places
    → Knows flags marks pairs ps s places k (looks_of (moved_by marks) pairs ps s (take k places)) → Knows flags marks pairs ps s places (k + 1) (looks_of (moved_by marks) pairs ps s (take (k + 1) places))
one_more flags marks pairs ps s places k long quiet keys lt known =
    let moved : ℕ → Bool = moved_by marks in
    let place : ℕ = get_or places k 0 in
    let was : Looks = looks_of moved pairs ps s (take k places) in
    let now : Looks = looks_of moved pairs ps s (take (k + 1) places) in
    walk_goes flags marks pairs ps s was.notes now.notes was.ends now.ends was.begin was.end now.begin now.end places k place 0 long quiet keys lt refl known
    (λ within f. found_step moved pairs ps s place (fate_at moved pairs ps s place) was.notes now.notes was.ends now.ends was.begin now.begin was.end now.end long within (is_fate moved pairs ps (counting_at s place))
    (mapped Renewal (λ (i : ℕ). noted i (fate_at moved pairs ps s i)) places k 0 lt)
    (mapped ℕ (λ (i : ℕ). ending i (fate_at moved pairs ps s i)) places k 0 lt)
    (picked (λ (i : ℕ). begun_of (counting_at s i) (fate_at moved pairs ps s i)) places k 0 lt)
    (picked (λ (i : ℕ). ended_of (counting_at s i) (fate_at moved pairs ps s i)) places k 0 lt)
    f)

all_known : (flags marks : List Bool) (pairs : List BodyPair) (ps : List Proxy) (s : Split) (places : List ℕ) (k : ℕ) → length s.over ≡ length s.long → AreQuiet flags marks ps → All (λ e. IsPairKey e.key) (counting s.over s.long) → AreStirring flags s places → k ≤ length places → Knows flags marks pairs ps s places k (looks_of (moved_by marks) pairs ps s (take k places))
all_known flags marks pairs ps s places zero long quiet keys are le =
    walk_starts flags s places places (IsFound (moved_by marks) pairs ps s [] [] [] []) refl are (nothing_found (moved_by marks) pairs ps s [] [] [] [] refl refl refl refl)
all_known flags marks pairs ps s places (suc k) long quiet keys are le =
    let before : Knows flags marks pairs ps s places k (looks_of (moved_by marks) pairs ps s (take k places)) = all_known flags marks pairs ps s places k long quiet keys are (omega (arith, le)) in
    subst (λ (i : ℕ). Knows flags marks pairs ps s places i (looks_of (moved_by marks) pairs ps s (take i places))) (add-one k) (one_more flags marks pairs ps s places k long quiet keys (omega (arith, le)) before)

pub looks_are_all : (flags marks : List Bool) (pairs : List BodyPair) (ps : List Proxy) (s : Split) (places : List ℕ) (l : Looks) → length s.over ≡ length s.long → AreQuiet flags marks ps → All (λ e. IsPairKey e.key) (counting s.over s.long) → AreStirring flags s places → l ≡ looks_of (moved_by marks) pairs ps s places → IsLookedOver (moved_by marks) pairs ps s l.notes l.ends l.begin l.end
looks_are_all flags marks pairs ps s places l long quiet keys are is =
    let all : Looks = looks_of (moved_by marks) pairs ps s (take (length places) places) in
    let known : Knows flags marks pairs ps s places (length places) all = all_known flags marks pairs ps s places (length places) long quiet keys are (omega arith) in
    let whole : all ≡ l = ap (looks_of (moved_by marks) pairs ps s) (take_whole places) ∙ sym is in
    subst (λ (x : Looks). IsLookedOver (moved_by marks) pairs ps s x.notes x.ends x.begin x.end) whole
    (all_found (moved_by marks) pairs ps s all.notes all.ends all.begin all.end long
    (walk_ends flags marks pairs ps s all.notes all.ends all.begin all.end places (length places) long quiet keys (omega arith) known))
  where
    take_whole : (xs : List ℕ) → take (length xs) xs ≡ xs
    take_whole [] = refl
    take_whole (x ∷ xs) = ap (λ (l : List ℕ). x ∷ l) (take_whole xs)
