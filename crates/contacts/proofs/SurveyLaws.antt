-- A collide passes over those contacts of the long list alone of which a body may stir, and finds what it would find of
-- all that count.
use Rattle.std.proofs.Common.{◌≡◌, ℕ, zero, suc, ◌+◌, ◌<◌, ◌≤◌, List, [], ◌∷◌, ◌++◌, length, map, take, drop, get_or, Bool, true, false, true≢false, cond, ◌&&◌, Option, Some, None, inl, inr, refl, sym, ap, ◌∙◌, subst, arith, add-one}
use Rattle.std.specs.Prelude.{All, filter, option_map, slice_get, slice_set}
use Rattle.std.specs.List.{cons_option}
use Rattle.std.specs.Option.{option_to_list}
use Rattle.std.proofs.lemmas.List.{append_assoc, length-append, map-append, take_more}
use Rattle.std.proofs.lemmas.List.Elements.{filter_map-append}
use Rattle.std.proofs.lemmas.Option.{slice_get-get_or}
use Rattle.contacts_base.specs.declared.near.Proxy.{Proxy}
use Rattle.contacts_base.specs.declared.key.ContactKey.{ContactKey}
use Rattle.contacts_base.specs.declared.contact.Contact.{Contact}
use Rattle.contacts_base.specs.declared.contact.ContactEntry.{ContactEntry}
use Rattle.contacts_base.specs.declared.split.Renewal.{Renewal}
use Rattle.contacts_base.specs.ContactLists.{contact_set}
use Rattle.contacts_base.specs.Split.{Split, counting, counting_at, is_over, over_at, places_from, renewed, unless_over}
use Rattle.contacts_base.proofs.MergeLaws.{drop_next}
use Rattle.contacts_base.specs.declared.body_pair.BodyPair.{BodyPair}
use Rattle.contacts.specs.declared.fates.Fate.{Fate}
use Rattle.contacts.specs.declared.fates.Fate.TheVariants.{Stays, Goes, Renewed}
use Rattle.contacts_base.specs.Changes.{key_if_new}
use Rattle.contacts.specs.Known.{IsPairKey, again, stays, staying}
use Rattle.contacts.specs.Looked.{IsLookedOver, IsFate, begun_of, ended_of, ending, keys_at}
use Rattle.contacts.specs.Stirring.{AreQuiet, AreStirring, one_flagged, passed_by}
use Rattle.contacts.specs.Fates.{begun_keys, ended_keys, gone_keys, key_if_begun, key_if_gone, moved_by, noted, outcome, after_fate}
use Rattle.contacts.proofs.ChangeLemmas.{picked_more}
use Rattle.contacts.proofs.KnownLemmas.{each_from_all}
use Rattle.contacts_base.proofs.Members.{IsIn, each_in}
use Rattle.contacts.proofs.StirringLaws.{none_new, passed_more, quiet_outcome}
use Rattle.contacts.proofs.FateLemmas.{put_fate, renewed-append, set_later}

-- ---- the places of a list that pass a test, one after the other

-- nothing happens at a place whose contact doesn't pass
abbrev pub PassesBy : List ContactEntry → (ContactEntry → Bool) → (ℕ → Type 0) → Type 0
PassesBy old test I = (k : ℕ) (e d : ContactEntry) → k < length old → e ≡ get_or old k d → test e ≡ false → I k → I (suc k)

-- what begins a list at a place
record IsHead (old : List ContactEntry) (p : ℕ) (e : ContactEntry) (es : List ContactEntry) : Type 0 where
  pub within : p < length old
  pub is : e ≡ get_or old p e
  pub rest : es ≡ drop (suc p) old

first_is : (e x : ContactEntry) (es old : List ContactEntry) → e ∷ es ≡ x ∷ old → e ≡ x
first_is e x es old h = cc

others_are : (e x : ContactEntry) (es old : List ContactEntry) → e ∷ es ≡ x ∷ old → es ≡ old
others_are e x es old h = cc

head_at : (old : List ContactEntry) (p : ℕ) (e : ContactEntry) (es : List ContactEntry) → e ∷ es ≡ drop p old → IsHead old p e es
head_at [] zero e es h = cc
head_at [] (suc p) e es h = cc
head_at (x ∷ old) zero e es h = record { within = omega arith; is = first_is e x es old h; rest = others_are e x es old h }
head_at (x ∷ old) (suc p) e es h = let r : IsHead old p e es = head_at old p e es h in record { within = let lt : p < length old = r.within in omega arith; is = r.is; rest = r.rest }

-- the next place, and what is known there
pub record IsNext (old : List ContactEntry) (test : ContactEntry → Bool) (I : ℕ → Type 0) (k : ℕ) (ks : List ℕ) : Type 0 where
  pub within : k < length old
  pub rest : ks ≡ places_from test (suc k) (drop (suc k) old)
  pub before : I k

first_place_is : (p k : ℕ) (ks ls : List ℕ) → p ∷ ls ≡ k ∷ ks → p ≡ k
first_place_is p k ks ls h = cc

other_places_are : (p k : ℕ) (ks ls : List ℕ) → p ∷ ls ≡ k ∷ ks → ls ≡ ks
other_places_are p k ks ls h = cc

next_by : (old : List ContactEntry) (test : ContactEntry → Bool) (I : ℕ → Type 0) (t : Bool) (e : ContactEntry) (es : List ContactEntry) (p k : ℕ) (ks : List ℕ) → test e ≡ t → IsHead old p e es → PassesBy old test I
    → ((es ≡ drop (suc p) old) → places_from test (suc p) es ≡ k ∷ ks → I (suc p) → IsNext old test I k ks)
    → cond t (p ∷ places_from test (suc p) es) (places_from test (suc p) es) ≡ k ∷ ks → I p → IsNext old test I k ks
next_by old test I true e es p k ks t head quiet further h f =
    let here : p ≡ k = first_place_is p k ks (places_from test (suc p) es) h in
    let later : ks ≡ places_from test (suc p) (drop (suc p) old) = sym (other_places_are p k ks (places_from test (suc p) es) h) ∙ ap (λ (l : List ContactEntry). places_from test (suc p) l) head.rest in
    subst (λ (n : ℕ). IsNext old test I n ks) here (record { within = head.within; rest = later; before = f })
next_by old test I false e es p k ks t head quiet further h f = further head.rest h (quiet p e e head.within head.is t f)

next_place : (old : List ContactEntry) (test : ContactEntry → Bool) (I : ℕ → Type 0) (es : List ContactEntry) (p k : ℕ) (ks : List ℕ) → PassesBy old test I → es ≡ drop p old → places_from test p es ≡ k ∷ ks → I p → IsNext old test I k ks
next_place old test I [] p k ks quiet d h f = cc
next_place old test I (e ∷ es) p k ks quiet d h f = next_by old test I (test e) e es p k ks refl (head_at old p e es d) quiet (λ a b g. next_place old test I es (suc p) k ks quiet a b g) h f

-- all have been passed
pub record IsThrough (old : List ContactEntry) (I : ℕ → Type 0) : Type 0 where
  pub place : ℕ
  pub ends : [] ≡ drop place old
  pub known : I place

last_by : (old : List ContactEntry) (test : ContactEntry → Bool) (I : ℕ → Type 0) (t : Bool) (e : ContactEntry) (es : List ContactEntry) (p : ℕ) → test e ≡ t → IsHead old p e es → PassesBy old test I
    → ((es ≡ drop (suc p) old) → places_from test (suc p) es ≡ [] → I (suc p) → IsThrough old I)
    → cond t (p ∷ places_from test (suc p) es) (places_from test (suc p) es) ≡ [] → I p → IsThrough old I
last_by old test I true e es p t head quiet further h f = cc
last_by old test I false e es p t head quiet further h f = further head.rest h (quiet p e e head.within head.is t f)

last_place : (old : List ContactEntry) (test : ContactEntry → Bool) (I : ℕ → Type 0) (es : List ContactEntry) (p : ℕ) → PassesBy old test I → es ≡ drop p old → places_from test p es ≡ [] → I p → IsThrough old I
last_place old test I [] p quiet d h f = record { place = p; ends = d; known = f }
last_place old test I (e ∷ es) p quiet d h f = last_by old test I (test e) e es p refl (head_at old p e es d) quiet (λ a b g. last_place old test I es (suc p) quiet a b g) h f

-- what the loop over the places keeps when it has passed so many of them
pub record IsPassing (old : List ContactEntry) (test : ContactEntry → Bool) (places : List ℕ) (index : ℕ) (I : ℕ → Type 0) : Type 0 where
  pub rest : drop index places ≡ places_from test (passed_by 0 (take index places)) (drop (passed_by 0 (take index places)) old)
  pub before : I (passed_by 0 (take index places))

pub none_passed : (old : List ContactEntry) (test : ContactEntry → Bool) (places : List ℕ) (I : ℕ → Type 0) → places ≡ places_from test 0 old → I 0 → IsPassing old test places 0 I
none_passed old test places I is f = record { rest = is; before = f }

next_passed : (old : List ContactEntry) (test : ContactEntry → Bool) (places : List ℕ) (index k d : ℕ) (I : ℕ → Type 0) → PassesBy old test I → index < length places → k ≡ get_or places index d → IsPassing old test places index I → IsNext old test I k (drop (suc index) places)
next_passed old test places index k d I quiet lt is p =
    next_place old test I (drop (passed_by 0 (take index places)) old) (passed_by 0 (take index places)) k (drop (suc index) places) quiet refl (sym p.rest ∙ drop_next places index d lt ∙ ap (λ (n : ℕ). n ∷ drop (suc index) places) (sym is)) p.before

pub passing_step : (old : List ContactEntry) (test : ContactEntry → Bool) (places : List ℕ) (index k d : ℕ) (I J : ℕ → Type 0) → PassesBy old test I → index < length places → k ≡ get_or places index d → IsPassing old test places index I → (k < length old → I k → J (suc k)) → IsPassing old test places (index + 1) J
passing_step old test places index k d I J quiet lt at p fate =
    let next : IsNext old test I k (drop (suc index) places) = next_passed old test places index k d I quiet lt at p in
    let passed : passed_by 0 (take (suc index) places) ≡ suc k = ap (passed_by 0) (rw add-one at (take_more places index d lt) ∙ ap (λ (m : ℕ). take index places ++ m ∷ []) (sym at)) ∙ passed_more 0 (take index places) k in
    rw add-one (record {
      rest = next.rest ∙ ap (λ (m : ℕ). places_from test m (drop m old)) (sym passed);
      before = subst (λ (m : ℕ). J m) (sym passed) (fate next.within next.before);
    })

nothing_left : {X : Type 0} (xs : List X) (index : ℕ) → length xs ≤ index → drop index xs ≡ []
nothing_left [] zero h = refl
nothing_left [] (suc index) h = refl
nothing_left (x ∷ xs) zero h = absurd (omega arith)
nothing_left (x ∷ xs) (suc index) h = nothing_left xs index (omega arith)

pub all_passed : (old : List ContactEntry) (test : ContactEntry → Bool) (places : List ℕ) (index : ℕ) (I : ℕ → Type 0) → PassesBy old test I → length places ≤ index → IsPassing old test places index I → IsThrough old I
all_passed old test places index I quiet h p = last_place old test I (drop (passed_by 0 (take index places)) old) (passed_by 0 (take index places)) quiet refl (sym p.rest ∙ nothing_left places index h) p.before

-- ---- what was found of the contacts before a place

pub record IsFound (moved : ℕ → Bool) (pairs : List BodyPair) (ps : List Proxy) (s : Split) (notes : List Renewal) (ends : List ℕ) (begin end : List ContactKey) (p : ℕ) : Type 0 where
  -- what they become, which of them are over then, and those of them that counted
  pub done : List ContactEntry
  pub flags : List Bool
  pub met : List ContactEntry
  pub length_done : length done ≡ p
  pub length_flags : length flags ≡ p
  pub notes_are : renewed notes s.long ≡ done ++ drop p s.long
  pub ends_are : over_at ends s.over ≡ flags ++ drop p s.over
  pub met_are : (met ++ counting (drop p s.over) (drop p s.long)) ≡ counting s.over s.long
  pub now_are : counting flags done ≡ map (again ps) (staying moved pairs ps met)
  pub begin_are : begin ≡ begun_keys moved pairs ps met
  pub end_are : end ≡ ended_keys moved pairs ps met
  pub gone_are : keys_at s.long ends ≡ gone_keys moved pairs ps met

pub nothing_found : (moved : ℕ → Bool) (pairs : List BodyPair) (ps : List Proxy) (s : Split) (notes : List Renewal) (ends : List ℕ) (begin end : List ContactKey) → notes ≡ [] → ends ≡ [] → begin ≡ [] → end ≡ [] → IsFound moved pairs ps s notes ends begin end 0
nothing_found moved pairs ps s notes ends begin end a b c d = record {
  done = [];
  flags = [];
  met = [];
  length_done = refl;
  length_flags = refl;
  notes_are = ap (λ (l : List Renewal). renewed l s.long) a;
  ends_are = ap (λ (l : List ℕ). over_at l s.over) b;
  met_are = refl;
  now_are = refl;
  begin_are = c;
  end_are = d;
  gone_are = ap (keys_at s.long) b;
}

-- ---- what a fate writes

set_behind : (pre rest : List ContactEntry) (e : ContactEntry) (c : Contact) → contact_set (length pre) c (pre ++ e ∷ rest) (slice_get (pre ++ e ∷ rest) (length pre)) ≡ pre ++ record e { contact = c } ∷ rest
set_behind [] rest e c = refl
set_behind (x ∷ pre) rest e c = set_later (length pre) c x (pre ++ e ∷ rest) (slice_get (pre ++ e ∷ rest) (length pre)) ∙ ap (λ (l : List ContactEntry). x ∷ l) (set_behind pre rest e c)

noted_behind : (pre rest : List ContactEntry) (e : ContactEntry) (fate : Fate) → renewed (noted (length pre) fate) (pre ++ e ∷ rest) ≡ pre ++ put_fate e fate ∷ rest
noted_behind pre rest e Stays = refl
noted_behind pre rest e Goes = refl
noted_behind pre rest e (Renewed c) = set_behind pre rest e c

-- the contact is over after its fate
abbrev is_gone : Fate → Bool
is_gone Stays = false
is_gone Goes = true
is_gone (Renewed c) = false

flag_behind : (pre rest : List Bool) (o : Bool) → slice_set (pre ++ o ∷ rest) (length pre) true ≡ pre ++ true ∷ rest
flag_behind [] rest o = refl
flag_behind (x ∷ pre) rest o = ap (λ (l : List Bool). x ∷ l) (flag_behind pre rest o)

ended_behind : (pre rest : List Bool) (fate : Fate) → over_at (ending (length pre) fate) (pre ++ false ∷ rest) ≡ pre ++ is_gone fate ∷ rest
ended_behind pre rest Stays = refl
ended_behind pre rest Goes = flag_behind pre rest false
ended_behind pre rest (Renewed c) = refl

over_at-append : (ks ls : List ℕ) (over : List Bool) → over_at (ks ++ ls) over ≡ over_at ls (over_at ks over)
over_at-append [] ls over = refl
over_at-append (k ∷ ks) ls over = over_at-append ks ls (slice_set over k true)

one_more : {X : Type 0} (xs : List X) (x : X) (rest : List X) → xs ++ x ∷ rest ≡ (xs ++ x ∷ []) ++ rest
one_more xs x rest = sym (append_assoc xs (x ∷ []) rest)

nothing_after : {X : Type 0} (xs : List X) → xs ++ [] ≡ xs
nothing_after [] = refl
nothing_after (x ∷ xs) = ap (λ l. x ∷ l) (nothing_after xs)

length_more : {X : Type 0} (xs : List X) (x : X) (p : ℕ) → length xs ≡ p → length (xs ++ x ∷ []) ≡ suc p
length_more xs x p h = length-append xs (x ∷ []) ∙ omega (arith, h)

choice_before : (t : Bool) (e : ContactEntry) (xs ys : List ContactEntry) → cond t (xs ++ ys) (e ∷ xs ++ ys) ≡ cond t xs (e ∷ xs) ++ ys
choice_before true e xs ys = refl
choice_before false e xs ys = refl

counting-append : (flags : List Bool) (es : List ContactEntry) (t : Bool) (e : ContactEntry) → length flags ≡ length es → counting (flags ++ t ∷ []) (es ++ e ∷ []) ≡ counting flags es ++ cond t [] (e ∷ [])
counting-append [] [] t e h = refl
counting-append [] (x ∷ es) t e h = absurd (omega (arith, h))
counting-append (o ∷ flags) [] t e h = absurd (omega (arith, h))
counting-append (o ∷ flags) (x ∷ es) t e h =
    ap (λ (l : List ContactEntry). cond o l (x ∷ l)) (counting-append flags es t e (omega (arith, h))) ∙ choice_before o x (counting flags es) (cond t [] (e ∷ []))

same_some : (e f : ContactEntry) → Some e ≡ Some f → e ≡ f
same_some e f h = cc

-- what is left of it
left_by : (t : Bool) (fate : Fate) (a e : ContactEntry) → after_fate e fate ≡ cond t (Some a) None → cond (is_gone fate) [] (put_fate e fate ∷ []) ≡ cond t (a ∷ []) []
left_by true Stays a e h = ap (λ (x : ContactEntry). x ∷ []) (same_some e a h)
left_by false Stays a e h = cc
left_by true Goes a e h = cc
left_by false Goes a e h = refl
left_by true (Renewed c) a e h = ap (λ (x : ContactEntry). x ∷ []) (same_some (record e { contact = c }) a h)
left_by false (Renewed c) a e h = cc

choice_map : (f : ContactEntry → ContactEntry) (t : Bool) (e : ContactEntry) → map f (cond t (e ∷ []) []) ≡ cond t (f e ∷ []) []
choice_map f true e = refl
choice_map f false e = refl

filter_more : (test : ContactEntry → Bool) (es : List ContactEntry) (e : ContactEntry) → filter test (es ++ e ∷ []) ≡ filter test es ++ cond (test e) (e ∷ []) []
filter_more test [] e = refl
filter_more test (x ∷ es) e = ap (λ (l : List ContactEntry). cond (test x) (x ∷ l) l) (filter_more test es e) ∙ passed_before (test x) x (filter test es) (cond (test e) (e ∷ []) [])
  where
    passed_before : (t : Bool) (e : ContactEntry) (xs ys : List ContactEntry) → cond t (e ∷ xs ++ ys) (xs ++ ys) ≡ cond t (e ∷ xs) xs ++ ys
    passed_before true e xs ys = refl
    passed_before false e xs ys = refl

staying_more : (moved : ℕ → Bool) (pairs : List BodyPair) (ps : List Proxy) (es : List ContactEntry) (e : ContactEntry) → map (again ps) (staying moved pairs ps (es ++ e ∷ [])) ≡ map (again ps) (staying moved pairs ps es) ++ cond (stays moved pairs ps e) (again ps e ∷ []) []
staying_more moved pairs ps es e =
    ap (map (again ps)) (filter_more (stays moved pairs ps) es e)
    ∙ map-append (again ps) (staying moved pairs ps es) (cond (stays moved pairs ps e) (e ∷ []) [])
    ∙ ap (λ (l : List ContactEntry). map (again ps) (staying moved pairs ps es) ++ l) (choice_map (again ps) (stays moved pairs ps e) e)

-- ---- one more has had its fate

-- what stands at the place
record IsAt (s : Split) (p : ℕ) (e : ContactEntry) (o : Bool) : Type 0 where
  pub long : drop p s.long ≡ e ∷ drop (suc p) s.long
  pub over : drop p s.over ≡ o ∷ drop (suc p) s.over

is_at : (s : Split) (p : ℕ) (e d : ContactEntry) (o : Bool) → length s.over ≡ length s.long → p < length s.long → e ≡ get_or s.long p d → is_over s.over p ≡ o → IsAt s p e o
is_at s p e d o flags lt is so = record {
  long = drop_next s.long p d lt ∙ ap (λ (x : ContactEntry). x ∷ drop (suc p) s.long) (sym is);
  over = drop_next s.over p false (omega (arith, flags, lt)) ∙ ap (λ (b : Bool). b ∷ drop (suc p) s.over) so;
}

got_first : (es : List ContactEntry) (p : ℕ) (e : ContactEntry) (rest : List ContactEntry) → drop p es ≡ e ∷ rest → slice_get es p ≡ Some e
got_first [] zero e rest h = cc
got_first [] (suc p) e rest h = cc
got_first (x ∷ es) zero e rest h = ap (λ (y : ContactEntry). Some y) (first_is x e es rest h)
got_first (x ∷ es) (suc p) e rest h = got_first es p e rest h

ending_key : (es : List ContactEntry) (p : ℕ) (e : ContactEntry) (fate : Fate) → slice_get es p ≡ Some e → keys_at es (ending p fate) ≡ option_to_list (key_if_gone e (after_fate e fate))
ending_key es p e Stays h = refl
ending_key es p e Goes h = ap (λ (o : Option ContactEntry). cons_option (option_map (λ (x : ContactEntry). x.key) o) []) h
ending_key es p e (Renewed c) h = refl

-- the key of one more that goes
gone_more : (s : Split) (p : ℕ) (e : ContactEntry) (fate : Fate) (ends later : List ℕ) → IsAt s p e false → later ≡ ends ++ ending p fate → keys_at s.long later ≡ keys_at s.long ends ++ option_to_list (key_if_gone e (after_fate e fate))
gone_more s p e fate ends later at added =
    ap (keys_at s.long) added
    ∙ filter_map-append (λ place. option_map (λ (x : ContactEntry). x.key) (slice_get s.long place)) ends (ending p fate)
    ∙ ap (λ (l : List ContactKey). keys_at s.long ends ++ l) (ending_key s.long p e fate (got_first s.long p e (drop (suc p) s.long) at.long))

noted_more : (s : Split) (p : ℕ) (e : ContactEntry) (o : Bool) (fate : Fate) (notes later : List Renewal) (done : List ContactEntry) → IsAt s p e o → length done ≡ p → renewed notes s.long ≡ done ++ drop p s.long → later ≡ notes ++ noted p fate
    → renewed later s.long ≡ (done ++ put_fate e fate ∷ []) ++ drop (suc p) s.long
noted_more s p e o fate notes later done at len so added =
    ap (λ (l : List Renewal). renewed l s.long) added
    ∙ renewed-append notes (noted p fate) s.long
    ∙ ap (renewed (noted p fate)) (so ∙ ap (λ (l : List ContactEntry). done ++ l) at.long)
    ∙ ap (λ (n : ℕ). renewed (noted n fate) (done ++ e ∷ drop (suc p) s.long)) (sym len)
    ∙ noted_behind done (drop (suc p) s.long) e fate
    ∙ one_more done (put_fate e fate) (drop (suc p) s.long)

ended_more : (s : Split) (p : ℕ) (e : ContactEntry) (fate : Fate) (ends later : List ℕ) (flags : List Bool) → IsAt s p e false → length flags ≡ p → over_at ends s.over ≡ flags ++ drop p s.over → later ≡ ends ++ ending p fate
    → over_at later s.over ≡ (flags ++ is_gone fate ∷ []) ++ drop (suc p) s.over
ended_more s p e fate ends later flags at len so added =
    ap (λ (l : List ℕ). over_at l s.over) added
    ∙ over_at-append ends (ending p fate) s.over
    ∙ ap (over_at (ending p fate)) (so ∙ ap (λ (l : List Bool). flags ++ l) at.over)
    ∙ ap (λ (n : ℕ). over_at (ending n fate) (flags ++ false ∷ drop (suc p) s.over)) (sym len)
    ∙ ended_behind flags (drop (suc p) s.over) fate
    ∙ one_more flags (is_gone fate) (drop (suc p) s.over)

picked_none : (ks more : List ContactKey) → more ≡ ks ++ option_to_list None → more ≡ ks
picked_none ks more h = h ∙ nothing_after ks

counting_is : (s : Split) (p : ℕ) (e : ContactEntry) (o : Bool) → IsAt s p e o → counting (drop p s.over) (drop p s.long) ≡ cond o (counting (drop (suc p) s.over) (drop (suc p) s.long)) (e ∷ counting (drop (suc p) s.over) (drop (suc p) s.long))
counting_is s p e o at = ap (λ (l : List Bool). counting l (drop p s.long)) at.over ∙ ap (counting (o ∷ drop (suc p) s.over)) at.long

step_by : (moved : ℕ → Bool) (pairs : List BodyPair) (ps : List Proxy) (s : Split) (p : ℕ) (e : ContactEntry) (o : Bool) (fate : Fate) (notes later : List Renewal) (ends goes : List ℕ) (begin begins end ended : List ContactKey) → IsAt s p e o → IsFate moved pairs ps (unless_over o (Some e)) fate
    → later ≡ notes ++ noted p fate → goes ≡ ends ++ ending p fate → begins ≡ begin ++ option_to_list (begun_of (unless_over o (Some e)) fate) → ended ≡ end ++ option_to_list (ended_of (unless_over o (Some e)) fate)
    → IsFound moved pairs ps s notes ends begin end p → IsFound moved pairs ps s later goes begins ended (suc p)
step_by moved pairs ps s p e true fate notes later ends goes begin begins end ended at is n g b x f = record {
  done = f.done ++ put_fate e fate ∷ [];
  flags = f.flags ++ true ∷ [];
  met = f.met;
  length_done = length_more f.done (put_fate e fate) p f.length_done;
  length_flags = length_more f.flags true p f.length_flags;
  notes_are = noted_more s p e true fate notes later f.done at f.length_done f.notes_are n;
  ends_are =
      ap (λ (l : List ℕ). over_at l s.over) (g ∙ ap (λ (t : Fate). ends ++ ending p t) is ∙ nothing_after ends) ∙ f.ends_are ∙ ap (λ (l : List Bool). f.flags ++ l) at.over ∙ one_more f.flags true (drop (suc p) s.over);
  met_are = ap (λ (l : List ContactEntry). f.met ++ l) (sym (counting_is s p e true at)) ∙ f.met_are;
  now_are = counting-append f.flags f.done true (put_fate e fate) (f.length_flags ∙ sym f.length_done) ∙ nothing_after (counting f.flags f.done) ∙ f.now_are;
  begin_are = picked_none begin begins b ∙ f.begin_are;
  end_are = picked_none end ended x ∙ f.end_are;
  gone_are = ap (keys_at s.long) (g ∙ ap (λ (t : Fate). ends ++ ending p t) is ∙ nothing_after ends) ∙ f.gone_are;
}
step_by moved pairs ps s p e false fate notes later ends goes begin begins end ended at is n g b x f = record {
  done = f.done ++ put_fate e fate ∷ [];
  flags = f.flags ++ is_gone fate ∷ [];
  met = f.met ++ e ∷ [];
  length_done = length_more f.done (put_fate e fate) p f.length_done;
  length_flags = length_more f.flags (is_gone fate) p f.length_flags;
  notes_are = noted_more s p e false fate notes later f.done at f.length_done f.notes_are n;
  ends_are = ended_more s p e fate ends goes f.flags at f.length_flags f.ends_are g;
  met_are = append_assoc f.met (e ∷ []) (counting (drop (suc p) s.over) (drop (suc p) s.long)) ∙ ap (λ (l : List ContactEntry). f.met ++ l) (sym (counting_is s p e false at)) ∙ f.met_are;
  now_are =
      counting-append f.flags f.done (is_gone fate) (put_fate e fate) (f.length_flags ∙ sym f.length_done)
      ∙ ap (λ (l : List ContactEntry). l ++ cond (is_gone fate) [] (put_fate e fate ∷ [])) f.now_are
      ∙ ap (λ (l : List ContactEntry). map (again ps) (staying moved pairs ps f.met) ++ l) (left_by (stays moved pairs ps e) fate (again ps e) e is)
      ∙ sym (staying_more moved pairs ps f.met e);
  begin_are = b ∙ ap (λ (l : List ContactKey). l ++ option_to_list (key_if_begun e (after_fate e fate))) f.begin_are ∙ sym (picked_more (λ (y : ContactEntry). key_if_begun y (outcome moved pairs ps y)) f.met e (key_if_begun e (after_fate e fate)) (ap (key_if_begun e) (sym is)));
  end_are = x ∙ ap (λ (l : List ContactKey). l ++ option_to_list (key_if_new (after_fate e fate) e)) f.end_are ∙ sym (picked_more (λ (y : ContactEntry). key_if_new (outcome moved pairs ps y) y) f.met e (key_if_new (after_fate e fate) e) (ap (λ (z : Option ContactEntry). key_if_new z e) (sym is)));
  gone_are =
      gone_more s p e fate ends goes at g
      ∙ ap (λ (l : List ContactKey). l ++ option_to_list (key_if_gone e (after_fate e fate))) f.gone_are
      ∙ sym (picked_more (λ (y : ContactEntry). key_if_gone y (outcome moved pairs ps y)) f.met e (key_if_gone e (after_fate e fate)) (ap (key_if_gone e) (sym is)));
}

-- which contact stands at a place
record IsThere (es : List ContactEntry) (k : ℕ) : Type 0 where
  pub entry : ContactEntry
  pub is : entry ≡ get_or es k entry

there_is : (es : List ContactEntry) (k : ℕ) → k < length es → IsThere es k
there_is [] k lt = absurd (omega (arith, lt))
there_is (e ∷ es) zero lt = record { entry = e; is = refl }
there_is (e ∷ es) (suc k) lt = let r : IsThere es k = there_is es k (omega (arith, lt)) in record { entry = r.entry; is = r.is }

-- as the code has it
pub found_step : (moved : ℕ → Bool) (pairs : List BodyPair) (ps : List Proxy) (s : Split) (p : ℕ) (fate : Fate) (notes later : List Renewal) (ends goes : List ℕ) (begin begins end ended : List ContactKey) → length s.over ≡ length s.long → p < length s.long → IsFate moved pairs ps (counting_at s p) fate
    → later ≡ notes ++ noted p fate → goes ≡ ends ++ ending p fate → begins ≡ begin ++ option_to_list (begun_of (counting_at s p) fate) → ended ≡ end ++ option_to_list (ended_of (counting_at s p) fate)
    → IsFound moved pairs ps s notes ends begin end p → IsFound moved pairs ps s later goes begins ended (suc p)
found_step moved pairs ps s p fate notes later ends goes begin begins end ended flags lt is n g b x f =
    let r : IsThere s.long p = there_is s.long p lt in
    let there : counting_at s p ≡ unless_over (is_over s.over p) (Some r.entry) = ap (unless_over (is_over s.over p)) (slice_get-get_or s.long p r.entry lt ∙ ap (λ (y : ContactEntry). Some y) (sym r.is)) in
    step_by moved pairs ps s p r.entry (is_over s.over p) fate notes later ends goes begin begins end ended (is_at s p r.entry r.entry (is_over s.over p) flags lt r.is refl) (subst (λ (o : Option ContactEntry). IsFate moved pairs ps o fate) there is) n g
    (b ∙ ap (λ (o : Option ContactEntry). begin ++ option_to_list (begun_of o fate)) there) (x ∙ ap (λ (o : Option ContactEntry). end ++ option_to_list (ended_of o fate)) there) f

-- ---- one of which no body may stir

counted_by : (o : Bool) (e : ContactEntry) (es : List ContactEntry) → o ≡ false → IsIn e (cond o es (e ∷ es))
counted_by true e es h = cc
counted_by false e es h = inl refl

counted_later : (o : Bool) (e x : ContactEntry) (es : List ContactEntry) → IsIn e es → IsIn e (cond o es (x ∷ es))
counted_later true e x es i = i
counted_later false e x es i = inr i

counted_at : (over : List Bool) (es : List ContactEntry) (k : ℕ) (d : ContactEntry) → k < length es → is_over over k ≡ false → IsIn (get_or es k d) (counting over es)
counted_at over [] k d lt h = absurd (omega (arith, lt))
counted_at [] (e ∷ es) zero d lt h = inl refl
counted_at [] (e ∷ es) (suc k) d lt h = inr (counted_at [] es k d (omega (arith, lt)) refl)
counted_at (o ∷ over) (e ∷ es) zero d lt h = counted_by o e (counting over es) h
counted_at (o ∷ over) (e ∷ es) (suc k) d lt h = counted_later o (get_or es k d) e (counting over es) (counted_at over es k d (omega (arith, lt)) h)

-- what a contact that counts becomes where neither of its bodies is flagged
quiet_fate : (flags marks : List Bool) (pairs : List BodyPair) (ps : List Proxy) (o : Bool) (e : ContactEntry) → AreQuiet flags marks ps → (o ≡ false → IsPairKey e.key) → (o ≡ false → one_flagged flags e ≡ false) → IsFate (moved_by marks) pairs ps (unless_over o (Some e)) Stays
quiet_fate flags marks pairs ps true e quiet key t = refl
quiet_fate flags marks pairs ps false e quiet key t = let both = quiet e (key refl) (t refl) in sym (quiet_outcome (moved_by marks) pairs ps e both.0 both.1)

quiet_begins : (o : Bool) (e : ContactEntry) (ks : List ContactKey) → ks ≡ ks ++ option_to_list (begun_of (unless_over o (Some e)) Stays)
quiet_begins true e ks = sym (nothing_after ks)
quiet_begins false e ks = sym (nothing_after ks) ∙ ap (λ (x : Option ContactKey). ks ++ option_to_list x) (none_new e)

quiet_ends : (o : Bool) (e : ContactEntry) (ks : List ContactKey) → ks ≡ ks ++ option_to_list (ended_of (unless_over o (Some e)) Stays)
quiet_ends true e ks = sym (nothing_after ks)
quiet_ends false e ks = sym (nothing_after ks) ∙ ap (λ (x : Option ContactKey). ks ++ option_to_list x) (none_new e)

-- a test that isn't passed, of a contact that the second part of it lets in
not_both : (a b : Bool) → (a && b) ≡ false → b ≡ true → a ≡ false
not_both true b h on = absurd (true≢false (sym on ∙ h))
not_both false b h on = refl

pub quiet_passes : (flags marks : List Bool) (pairs : List BodyPair) (ps : List Proxy) (s : Split) (lets_in : ContactKey → Bool) (notes : List Renewal) (ends : List ℕ) (begin end : List ContactKey) → length s.over ≡ length s.long → AreQuiet flags marks ps → All (λ e. IsPairKey e.key) (counting s.over s.long)
    → ((place : ℕ) (e : ContactEntry) → counting_at s place ≡ Some e → lets_in e.key ≡ true) → PassesBy s.long (λ e. one_flagged flags e && lets_in e.key) (IsFound (moved_by marks) pairs ps s notes ends begin end)
quiet_passes flags marks pairs ps s lets_in notes ends begin end same quiet keys counts = λ k e d lt is t f.
    let key : is_over s.over k ≡ false → IsPairKey e.key = λ h. subst (λ (x : ContactEntry). IsPairKey x.key) (sym is) (each_in (λ (x : ContactEntry). IsPairKey x.key) (get_or s.long k d) (counting s.over s.long) (each_from_all (counting s.over s.long) keys) (counted_at s.over s.long k d lt h)) in
    step_by (moved_by marks) pairs ps s k e (is_over s.over k) Stays notes notes ends ends begin begin end end (is_at s k e d (is_over s.over k) same lt is refl) (quiet_fate flags marks pairs ps (is_over s.over k) e quiet key (λ off. not_both (one_flagged flags e) (lets_in e.key) t (counts k e (ap (λ (b : Bool). unless_over b (slice_get s.long k)) off ∙ slice_get-get_or s.long k d lt ∙ ap (λ (x : ContactEntry). Some x) (sym is))))) (sym (nothing_after notes)) (sym (nothing_after ends)) (quiet_begins (is_over s.over k) e begin) (quiet_ends (is_over s.over k) e end) f

-- ---- all of them

ends_by : (over : List Bool) (long : List ContactEntry) (p : ℕ) → length over ≡ length long → [] ≡ drop p long → drop p over ≡ []
ends_by over long p same h = nothing_left over p (let le : length long ≤ p = all_dropped long p h in omega (arith, le, same))
  where
    all_dropped : (es : List ContactEntry) (p : ℕ) → [] ≡ drop p es → length es ≤ p
    all_dropped [] p h = omega arith
    all_dropped (e ∷ es) zero h = cc
    all_dropped (e ∷ es) (suc p) h = let le : length es ≤ p = all_dropped es p h in omega (arith, le)

pub all_found : (moved : ℕ → Bool) (pairs : List BodyPair) (ps : List Proxy) (s : Split) (notes : List Renewal) (ends : List ℕ) (begin end : List ContactKey) → length s.over ≡ length s.long → IsThrough s.long (IsFound moved pairs ps s notes ends begin end) → IsLookedOver moved pairs ps s notes ends begin end
all_found moved pairs ps s notes ends begin end same t =
    let f : IsFound moved pairs ps s notes ends begin end t.place = t.known in
    let none : drop t.place s.over ≡ [] = ends_by s.over s.long t.place same t.ends in
    let flags : over_at ends s.over ≡ f.flags = f.ends_are ∙ ap (λ (l : List Bool). f.flags ++ l) none ∙ nothing_after f.flags in
    let now : renewed notes s.long ≡ f.done = f.notes_are ∙ ap (λ (l : List ContactEntry). f.done ++ l) (sym t.ends) ∙ nothing_after f.done in
    let met : f.met ≡ counting s.over s.long = sym (nothing_after f.met) ∙ ap (λ (l : List ContactEntry). f.met ++ l) (ap (counting (drop t.place s.over)) t.ends) ∙ f.met_are in
    record {
      now_is = ap (λ (l : List Bool). counting l (renewed notes s.long)) flags ∙ ap (counting f.flags) now ∙ f.now_are ∙ ap (λ (l : List ContactEntry). map (again ps) (staying moved pairs ps l)) met;
      begin_is = f.begin_are ∙ ap (begun_keys moved pairs ps) met;
      end_is = f.end_are ∙ ap (ended_keys moved pairs ps) met;
      gone_is = f.gone_are ∙ ap (gone_keys moved pairs ps) met;
    }

-- ---- the places that are kept

-- what the loop over the places keeps: they are those of the contacts whose key a test lets in, which is that of each
-- that counts
pub record IsWalking (flags : List Bool) (s : Split) (places : List ℕ) (index : ℕ) (I : ℕ → Type 0) : Type 0 where
  pub lets_in : ContactKey → Bool
  pub counts : (place : ℕ) (e : ContactEntry) → counting_at s place ≡ Some e → lets_in e.key ≡ true
  pub passing : IsPassing s.long (λ e. one_flagged flags e && lets_in e.key) places index I

pub walk_starts : (flags : List Bool) (s : Split) (kept places : List ℕ) (I : ℕ → Type 0) → places ≡ kept → AreStirring flags s kept → I 0 → IsWalking flags s places 0 I
walk_starts flags s kept places I same are f = record {
  lets_in = are.lets_in;
  counts = are.counts;
  passing = none_passed s.long (λ e. one_flagged flags e && are.lets_in e.key) places I (same ∙ are.is) f;
}

pub walk_goes : (flags marks : List Bool) (pairs : List BodyPair) (ps : List Proxy) (s : Split) (notes more : List Renewal) (ends gone : List ℕ) (begin end begun ended : List ContactKey) (places : List ℕ) (index k d : ℕ) → length s.over ≡ length s.long → AreQuiet flags marks ps → All (λ e. IsPairKey e.key) (counting s.over s.long)
    → index < length places → k ≡ get_or places index d → IsWalking flags s places index (IsFound (moved_by marks) pairs ps s notes ends begin end)
    → (k < length s.long → IsFound (moved_by marks) pairs ps s notes ends begin end k → IsFound (moved_by marks) pairs ps s more gone begun ended (suc k)) → IsWalking flags s places (index + 1) (IsFound (moved_by marks) pairs ps s more gone begun ended)
walk_goes flags marks pairs ps s notes more ends gone begin end begun ended places index k d same quiet keys lt at walk fate = record {
  lets_in = walk.lets_in;
  counts = walk.counts;
  passing = passing_step s.long (λ e. one_flagged flags e && walk.lets_in e.key) places index k d (IsFound (moved_by marks) pairs ps s notes ends begin end) (IsFound (moved_by marks) pairs ps s more gone begun ended)
      (quiet_passes flags marks pairs ps s walk.lets_in notes ends begin end same quiet keys walk.counts) lt at walk.passing fate;
}

pub walk_ends : (flags marks : List Bool) (pairs : List BodyPair) (ps : List Proxy) (s : Split) (notes : List Renewal) (ends : List ℕ) (begin end : List ContactKey) (places : List ℕ) (index : ℕ) → length s.over ≡ length s.long → AreQuiet flags marks ps → All (λ e. IsPairKey e.key) (counting s.over s.long)
    → length places ≤ index → IsWalking flags s places index (IsFound (moved_by marks) pairs ps s notes ends begin end) → IsThrough s.long (IsFound (moved_by marks) pairs ps s notes ends begin end)
walk_ends flags marks pairs ps s notes ends begin end places index same quiet keys le walk =
    all_passed s.long (λ e. one_flagged flags e && walk.lets_in e.key) places index (IsFound (moved_by marks) pairs ps s notes ends begin end)
    (quiet_passes flags marks pairs ps s walk.lets_in notes ends begin end same quiet keys walk.counts) le walk.passing
