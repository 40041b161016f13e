-- What becomes of the contacts that there are, one by one and all together.
use Rattle.std.proofs.Common.{◌≡◌, ℕ, suc, ◌+◌, ◌<◌, ◌||◌, List, [], ◌∷◌, ◌++◌, length, take, get_or, Bool, false, Option, Some, None, refl, sym, ap, ◌∙◌, subst}
use Rattle.std.specs.Prelude.{slice_get}
use Rattle.std.specs.List.{filter_map}
use Rattle.std.specs.Option.{option_to_list}
use Rattle.std.proofs.lemmas.List.{take_more}
use Rattle.contacts_base.specs.declared.near.Proxy.{Proxy}
use Rattle.contacts_base.specs.declared.key.ContactKey.{ContactKey}
use Rattle.contacts_base.specs.declared.contact.Contact.{Contact}
use Rattle.contacts_base.specs.declared.contact.ContactEntry.{ContactEntry}
use Rattle.contacts_base.specs.ContactLists.{contact_set}
use Rattle.contacts_base.specs.Keys.{id_number}
use Rattle.contacts_base.specs.Proxies.{IsProxy, IsProxyList}
use Rattle.contacts_base.specs.declared.body_pair.BodyPair.{BodyPair}
use Rattle.contacts.specs.declared.fates.Fate.{Fate}
use Rattle.contacts.specs.declared.fates.Fate.TheVariants.{Stays, Goes, Renewed}
use Rattle.contacts_base.specs.declared.split.Renewal.{Renewal}
use Rattle.contacts.specs.Known.{found, again_of, again}
use Rattle.contacts_base.specs.Changes.{key_if_new}
use Rattle.contacts.specs.Fates.{stirs_in, one_stirs_of, after_fate, outcome, key_if_begun, key_if_gone, begun_keys, ended_keys, gone_keys}
use Rattle.contacts_base.specs.Split.{renewed}
use Rattle.contacts.proofs.ChangeLemmas.{picked_more}
use Rattle.contacts.proofs.KnownLemmas.{IsPlace, place_of}

-- ---- one contact

pub found_is_proxy : (ps : List Proxy) (n : ℕ) (p : Proxy) → IsProxyList ps → found ps n ≡ Some p → IsProxy p
found_is_proxy ps n p list h = let r : IsPlace ps n p = place_of ps n p h in subst IsProxy r.is (list.each r.i _ r.within)

still_of : (e : ContactEntry) (o r : Option Proxy) → (stirs_in o || stirs_in r) ≡ false → again_of e o r ≡ e
still_of e None r h = refl
still_of e (Some p) None h = refl
still_of e (Some p) (Some q) h = rw h refl

-- a contact of bodies that don't stir is as it was
pub still_again : (ps : List Proxy) (e : ContactEntry) → one_stirs_of ps e.key ≡ false → again ps e ≡ e
still_again ps e h = still_of e (found ps (id_number e.key.first)) (found ps (id_number e.key.second)) h

-- ---- what is noted of it

-- what a note makes of the contact
abbrev pub put_fate : ContactEntry → Fate → ContactEntry
put_fate e Stays = e
put_fate e Goes = e
put_fate e (Renewed c) = record e { contact = c }

pub renewed-append : (rs qs : List Renewal) (es : List ContactEntry) → renewed (rs ++ qs) es ≡ renewed qs (renewed rs es)
renewed-append [] qs es = refl
renewed-append (r ∷ rs) qs es = renewed-append rs qs (contact_set r.place r.contact es (slice_get es r.place))

pub set_later : (k : ℕ) (c : Contact) (x : ContactEntry) (es : List ContactEntry) (o : Option ContactEntry) → contact_set (suc k) c (x ∷ es) o ≡ x ∷ contact_set k c es o
set_later k c x es None = refl
set_later k c x es (Some e) = refl

-- the keys that are picked of one more contact
pub keys_step : (pick : ContactEntry → Option ContactKey) (old : List ContactEntry) (k : ℕ) (e d : ContactEntry) (o : Option ContactKey) (keys more : List ContactKey) → k < length old → e ≡ get_or old k d → o ≡ pick e → keys ≡ filter_map pick (take k old) → more ≡ keys ++ option_to_list o → more ≡ filter_map pick (take (k + 1) old)
keys_step pick old k e d o keys more lt is so was added =
    added ∙ ap (λ (l : List ContactKey). l ++ option_to_list o) was ∙ sym (picked_more pick (take k old) e o (sym so)) ∙ ap (λ (x : ContactEntry). filter_map pick (take k old ++ x ∷ [])) is ∙ ap (filter_map pick) (sym (take_more old k d lt))

pub begun_step : (moved : ℕ → Bool) (pairs : List BodyPair) (ps : List Proxy) (old : List ContactEntry) (k : ℕ) (e d : ContactEntry) (fate : Fate) (o : Option ContactKey) (keys more : List ContactKey) → k < length old → e ≡ get_or old k d → after_fate e fate ≡ outcome moved pairs ps e → o ≡ key_if_begun e (after_fate e fate) → keys ≡ begun_keys moved pairs ps (take k old) → more ≡ keys ++ option_to_list o → more ≡ begun_keys moved pairs ps (take (k + 1) old)
begun_step moved pairs ps old k e d fate o keys more lt is fates so was added =
    keys_step (λ (f : ContactEntry). key_if_begun f (outcome moved pairs ps f)) old k e d o keys more lt is (so ∙ ap (λ (x : Option ContactEntry). key_if_begun e x) fates) was added

pub ended_step : (moved : ℕ → Bool) (pairs : List BodyPair) (ps : List Proxy) (old : List ContactEntry) (k : ℕ) (e d : ContactEntry) (fate : Fate) (o : Option ContactKey) (keys more : List ContactKey) → k < length old → e ≡ get_or old k d → after_fate e fate ≡ outcome moved pairs ps e → o ≡ key_if_new (after_fate e fate) e → keys ≡ ended_keys moved pairs ps (take k old) → more ≡ keys ++ option_to_list o → more ≡ ended_keys moved pairs ps (take (k + 1) old)
ended_step moved pairs ps old k e d fate o keys more lt is fates so was added =
    keys_step (λ (f : ContactEntry). key_if_new (outcome moved pairs ps f) f) old k e d o keys more lt is (so ∙ ap (λ (x : Option ContactEntry). key_if_new x e) fates) was added

pub gone_step : (moved : ℕ → Bool) (pairs : List BodyPair) (ps : List Proxy) (old : List ContactEntry) (k : ℕ) (e d : ContactEntry) (fate : Fate) (o : Option ContactKey) (keys more : List ContactKey) → k < length old → e ≡ get_or old k d → after_fate e fate ≡ outcome moved pairs ps e → o ≡ key_if_gone e (after_fate e fate) → keys ≡ gone_keys moved pairs ps (take k old) → more ≡ keys ++ option_to_list o → more ≡ gone_keys moved pairs ps (take (k + 1) old)
gone_step moved pairs ps old k e d fate o keys more lt is fates so was added =
    keys_step (λ (f : ContactEntry). key_if_gone f (outcome moved pairs ps f)) old k e d o keys more lt is (so ∙ ap (λ (x : Option ContactEntry). key_if_gone e x) fates) was added
