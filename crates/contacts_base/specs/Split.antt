-- The contacts as a long list, which stands while contacts come and go, and a short one of those that have come since
-- it was made.
use Rattle.std.specs.Prelude.{ℕ, suc, Bool, true, false, cond, List, [], ◌∷◌, Option, Some, None, slice_get, slice_index_or, slice_set}
use Rattle.contacts_base.specs.declared.contact.ContactEntry.{ContactEntry}
use Rattle.contacts_base.specs.declared.split.Renewal.{Renewal}
use Rattle.contacts_base.specs.Contacts.{number_of}
use Rattle.contacts_base.specs.ContactLists.{contact_set}
use Rattle.contacts_base.specs.Merge.{merged}

-- what contracts see of the two lists: the long one, by place in it which contacts are over, and those of the short one
-- that aren't
pub record Split : Type 0 where
  pub long : List ContactEntry
  pub over : List Bool
  pub short : List ContactEntry

-- the contact at the place is over
abbrev pub is_over : List Bool → ℕ → Bool
is_over over place = slice_index_or over place false

-- those of a list that count: by place those whose flag isn't set
abbrev pub counting : List Bool → List ContactEntry → List ContactEntry
counting over [] = []
counting [] (e ∷ es) = e ∷ counting [] es
counting (o ∷ over) (e ∷ es) = cond o (counting over es) (e ∷ counting over es)

-- the contacts
abbrev pub contacts_in : Split → List ContactEntry
contacts_in s = merged number_of (counting s.over s.long) s.short

-- the contact at a place, unless it is over
abbrev pub unless_over : Bool → Option ContactEntry → Option ContactEntry
unless_over true e = None
unless_over false e = e

-- the contact at a place of the long list, if it counts
abbrev pub counting_at : Split → ℕ → Option ContactEntry
counting_at s place = unless_over (is_over s.over place) (slice_get s.long place)

-- ---- whose contacts they are

-- the places of those contacts of a list that pass a test, where the first of the list stands at the place n
abbrev pub places_from : (ContactEntry → Bool) → ℕ → List ContactEntry → List ℕ
places_from test n [] = []
places_from test n (e ∷ es) = cond (test e) (n ∷ places_from test (suc n) es) (places_from test (suc n) es)

-- ---- what becomes of them

-- the contacts with what was noted of them
abbrev pub renewed : List Renewal → List ContactEntry → List ContactEntry
renewed [] es = es
renewed (r ∷ rs) es = renewed rs (contact_set r.place r.contact es (slice_get es r.place))

-- the contacts at these places are over
abbrev pub over_at : List ℕ → List Bool → List Bool
over_at [] over = over
over_at (place ∷ places) over = over_at places (slice_set over place true)

-- the list, or the one that was there
abbrev pub or_kept : Option (List ContactEntry) → List ContactEntry → List ContactEntry
or_kept None es = es
or_kept (Some more) es = more

-- what was noted of the long list is carried out: contacts at some places have new points, those at others are over,
-- and the short list is another, if one is given
abbrev pub carried : List Renewal → List ℕ → Option (List ContactEntry) → Split → Split
carried notes ends short s = record { long = renewed notes s.long; over = over_at ends s.over; short = or_kept short s.short }
