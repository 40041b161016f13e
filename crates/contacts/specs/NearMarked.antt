-- Inner forms of the code; no public contract rests on them. The contacts of fresh pairs, found by asking what is near
-- each shape of a marked slot.
use Rattle.std.specs.Prelude.{◌≡◌, ℕ, zero, suc, ◌+◌, ◌*◌, ◌/◌, ◌%◌, ◌^◌, ◌<◌, Bool, cond, nat_lt, List, [], ◌∷◌, ◌++◌, Option, Some, None}
use Rattle.std.specs.List.{Contains}
use Rattle.std.specs.Option.{option_to_list}
use Rattle.shapes.specs.declared.limits.TheConstants.{MAX_SHAPES}
use Rattle.contacts_base.specs.declared.near.Proxy.{Proxy}
use Rattle.contacts_base.specs.declared.contact.ContactEntry.{ContactEntry}
use Rattle.contacts_base.specs.Keys.{key_number}
use Rattle.contacts_base.specs.Near.{is_near}
use Rattle.contacts_base.specs.Proxies.{number_of}
use Rattle.contacts_base.specs.declared.body_pair.BodyPair.{BodyPair}
use Rattle.contacts_base.specs.Changes.{entry_with, key_of}
use Rattle.contacts.specs.Known.{either_moved, found, has_key, may_touch}

-- ---- the numbers of near pairs' keys

-- the number of two shapes' key, the lesser first, if they are near
abbrev pub number_if : Proxy → Proxy → Option ℕ
number_if p q = cond (is_near p q) (Some (key_number (key_of p q))) None

-- in either order
abbrev pub near_number : Proxy → Proxy → Option ℕ
near_number p q = cond (nat_lt (number_of p) (number_of q)) (number_if p q) (number_if q p)

-- with a shape that may not be there
abbrev pub number_with : Proxy → Option Proxy → Option ℕ
number_with p None = None
number_with p (Some q) = near_number p q

abbrev pub number_of_both : Option Proxy → Option Proxy → Option ℕ
number_of_both None r = None
number_of_both (Some p) r = number_with p r

-- the numbers of a shape with the first n of a slot
abbrev pub numbers_up : List Proxy → Proxy → ℕ → ℕ → List ℕ
numbers_up ps p slot zero = []
numbers_up ps p slot (suc n) = numbers_up ps p slot n ++ option_to_list (number_with p (found ps (slot * 256 + n)))

-- with the shapes of these slots
abbrev pub numbers_with : List Proxy → Proxy → List ℕ → List ℕ
numbers_with ps p [] = []
numbers_with ps p (slot ∷ slots) = numbers_up ps p slot MAX_SHAPES ++ numbers_with ps p slots

-- the list has the numbers of the pairs that the shape with the number i makes
abbrev pub HasNumbers : List Proxy → ℕ → List ℕ → Type 0
HasNumbers ps i numbers = (m n : ℕ) → number_of_both (found ps i) (found ps m) ≡ Some n → Contains numbers n

-- those of each shape of the slot
abbrev pub HasNumbersIn : List Proxy → ℕ → List ℕ → Type 0
HasNumbersIn ps slot numbers = (index : ℕ) → index < MAX_SHAPES → HasNumbers ps (slot * 256 + index) numbers

-- what is in a list is in the longer one
abbrev pub IsExtended : List ℕ → List ℕ → Type 0
IsExtended numbers more = (n : ℕ) → Contains numbers n → Contains more n

-- ---- their contacts

-- the contact of two shapes, if the first is the lesser, they may touch, one has moved, and they have none yet
abbrev pub fresh_of : (ℕ → Bool) → List BodyPair → List ContactEntry → Proxy → Proxy → Option ContactEntry
fresh_of moved pairs old p q = cond (nat_lt (number_of p) (number_of q)) (cond (may_touch pairs p q) (cond (either_moved moved (key_of p q)) (cond (has_key old (key_of p q)) None (Some (entry_with None p q))) None) None) None

-- of shapes that may not be there
abbrev pub fresh_of_both : (ℕ → Bool) → List BodyPair → List ContactEntry → Option Proxy → Option Proxy → Option ContactEntry
fresh_of_both moved pairs old None r = None
fresh_of_both moved pairs old (Some p) None = None
fresh_of_both moved pairs old (Some p) (Some q) = fresh_of moved pairs old p q

-- of the shapes of a key's number
abbrev pub fresh_by : (ℕ → Bool) → List BodyPair → List Proxy → List ContactEntry → ℕ → Option ContactEntry
fresh_by moved pairs ps old n = cond (nat_lt n (2 ^ 80)) (fresh_of_both moved pairs old (found ps (n / 2 ^ 40)) (found ps (n % 2 ^ 40))) None
