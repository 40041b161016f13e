-- The contacts of which a body may stir, by their places in the list.
use Rattle.std.specs.Prelude.{◌≡◌, ℕ, suc, Bool, true, false, ◌||◌, ◌&&◌, List, [], ◌∷◌, length, map, slice_index_or, Some}
use Rattle.contacts_base.specs.declared.near.Proxy.{Proxy}
use Rattle.contacts_base.specs.declared.contact.ContactEntry.{ContactEntry}
use Rattle.contacts_base.specs.declared.key.ContactKey.{ContactKey}
use Rattle.contacts_base.specs.Split.{Split, counting_at, is_over, places_from}
use Rattle.contacts.specs.declared.stirring.Stirring.{Stirring}
use Rattle.contacts.specs.Known.{IsPairKey, either_moved}
use Rattle.contacts.specs.Fates.{moved_by, one_stirs_of}
use Rattle.packed_sets.specs.Marks.{IsMarks}

-- the body in the slot may stir, as those in slots beyond the flags may
abbrev pub is_flagged : List Bool → ℕ → Bool
is_flagged flags slot = slice_index_or flags slot true

-- one of the contact's two bodies may
abbrev pub one_flagged : List Bool → ContactEntry → Bool
one_flagged flags e = is_flagged flags e.key.first.slot || is_flagged flags e.key.second.slot

-- the places of those contacts of a list of which a body may stir and whose key a test lets in
abbrev pub stirring_places : List Bool → (ContactKey → Bool) → List ContactEntry → List ℕ
stirring_places flags lets_in es = places_from (λ e. one_flagged flags e && lets_in e.key) 0 es

-- the places of the contacts of the long list of which a body may stir: of each that counts, and maybe of some that are
-- over
pub record AreStirring (flags : List Bool) (c : Split) (places : List ℕ) : Type 0 where
  pub lets_in : ContactKey → Bool
  pub is : places ≡ stirring_places flags lets_in c.long
  pub counts : (place : ℕ) (e : ContactEntry) → counting_at c place ≡ Some e → lets_in e.key ≡ true

-- where neither body is flagged, none has moved, and none stirs
abbrev pub AreQuiet : List Bool → List Bool → List Proxy → Type 0
AreQuiet flags marks ps = (e : ContactEntry) → IsPairKey e.key → one_flagged flags e ≡ false → (either_moved (moved_by marks) e.key ≡ false) × (one_stirs_of ps e.key ≡ false)

-- these are the slots that are flagged, each once
abbrev pub AreFlagsListed : List Bool → List ℕ → Type 0
AreFlagsListed flags slots = IsMarks flags slots (length flags)

-- the flagged slots are listed, and the places, if they hold, are those of these contacts
pub record AreHeld (s : Stirring) (c : Split) : Type 0 where
  pub flagged : AreFlagsListed s.flags.items s.flagged.items
  pub places : s.holds ≡ true → AreStirring s.flags.items c s.places.items

-- the same keys stand in the long list, and what is over is so still
pub record HaveKeys (c d : Split) : Type 0 where
  pub keys : map (λ (e : ContactEntry). e.key) d.long ≡ map (λ (e : ContactEntry). e.key) c.long
  pub over : (place : ℕ) → is_over c.over place ≡ true → is_over d.over place ≡ true

-- the place after the last of these, or n
abbrev pub passed_by : ℕ → List ℕ → ℕ
passed_by n [] = n
passed_by n (k ∷ ks) = passed_by (suc k) ks
