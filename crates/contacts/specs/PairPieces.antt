-- The contacts of near pairs in pieces: what a piece answers, and the answers of all as one.
use Rattle.std.specs.Prelude.{◌≡◌, ◌≤◌, ℕ, List, [], ◌++◌, vec_capacity}
use Rattle.std.specs.List.{flat_map}
use Rattle.contacts_base.specs.declared.near.Proxy.{Proxy}
use Rattle.contacts_base.specs.declared.contact.ContactEntry.{ContactEntry}
use Rattle.contacts.specs.ByCodes.{contacts_of}
use Rattle.contacts_base.specs.Changes.{keys_touching_only_in}
use Rattle.contacts_base.specs.ChangedKeys.{keys_not_in}
use Rattle.contacts.specs.declared.changes.Present.{Present}
use Rattle.contacts.specs.PieceRanges.{PieceRange, items_in}
use Rattle.contacts.specs.PairValues.{Evaluated, NearLists}

-- the contacts of these pairs, and what is new in them
abbrev pub evaluated_of : List ContactEntry → List Proxy → List ℕ → Evaluated
evaluated_of old ps codes = record { now = contacts_of old ps codes; made = keys_not_in old (contacts_of old ps codes); begin = keys_touching_only_in old (contacts_of old ps codes) }

-- those of some pairs of the lists
abbrev pub evaluated_in : NearLists → List ℕ → Evaluated
evaluated_in l codes = evaluated_of l.contacts.long l.proxies codes

-- those of a piece
abbrev pub evaluated : NearLists → PieceRange → Evaluated
evaluated l r = evaluated_in l (items_in l.near r)

-- what is seen of lists
abbrev pub shown : Present → Evaluated
shown p = record { now = p.now.items; made = p.made.items; begin = p.begin.items }

abbrev pub both : Evaluated → Evaluated → Evaluated
both a b = record { now = a.now ++ b.now; made = a.made ++ b.made; begin = a.begin ++ b.begin }

-- the answers of pieces, one behind the other
abbrev pub joined : List Evaluated → Evaluated
joined es = record { now = flat_map (λ (e : Evaluated). e.now) es; made = flat_map (λ (e : Evaluated). e.made) es; begin = flat_map (λ (e : Evaluated). e.begin) es }

-- nothing is in the lists, and there is room for the contacts of so many pairs
pub record IsRoomFor (count : ℕ) (p : Present) : Type 0 where
  pub no_now : p.now.items ≡ []
  pub no_made : p.made.items ≡ []
  pub no_begin : p.begin.items ≡ []
  pub now : count ≤ vec_capacity p.now
  pub made : count ≤ vec_capacity p.made
  pub begin : count ≤ vec_capacity p.begin
