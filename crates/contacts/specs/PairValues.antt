-- What contracts see of near pairs that are evaluated in pieces.
use Rattle.std.specs.Prelude.{ℕ, List}
use Rattle.contacts_base.specs.declared.near.Proxy.{Proxy}
use Rattle.contacts_base.specs.declared.key.ContactKey.{ContactKey}
use Rattle.contacts_base.specs.declared.contact.ContactEntry.{ContactEntry}
use Rattle.contacts_base.specs.Split.{Split}

-- the contacts of near pairs, and the keys of those that were made and that began to touch
pub record Evaluated : Type 0 where
  pub now : List ContactEntry
  pub made : List ContactKey
  pub begin : List ContactKey

-- all that is read: the contacts until now, the shapes, and the codes of the pairs
pub record NearLists : Type 0 where
  pub contacts : Split
  pub proxies : List Proxy
  pub near : List ℕ
