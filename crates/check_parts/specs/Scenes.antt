-- Shapes that are read by their names in a test, and the slots of their bodies.
use Rattle.std.specs.Prelude.{ℕ, ◌<◌, Bool, List, All}
use Rattle.std.specs.List.{Contains}
use Rattle.contacts_base.specs.declared.near.Proxy.{Proxy}
use Rattle.contacts_base.specs.declared.contact.ContactEntry.{ContactEntry}
use Rattle.contacts_base.specs.Proxies.{IsProxyList}
use Rattle.contacts.specs.Known.{IsPairKey}

pub record Shown : Type 0 where
  pub shapes : List Proxy
  pub slots : List ℕ
  pub marks : List Bool

-- the slots are those of all shapes
pub record IsShown (shapes : List Proxy) (slots : List ℕ) : Type 0 where
  pub list : IsProxyList shapes
  pub listed : All (λ p. Contains slots p.id.slot) shapes

-- a slot that is listed, and is below 64
abbrev pub IsListed : List ℕ → Proxy → Type 0
IsListed slots p = Contains slots p.id.slot × (p.id.slot < 64)

-- each contact is of two shapes, the lesser first
abbrev pub ArePairs : List ContactEntry → Type 0
ArePairs es = All (λ e. IsPairKey e.key) es
