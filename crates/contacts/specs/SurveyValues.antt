-- What contracts see of a look over contacts in pieces.
use Rattle.std.specs.Prelude.{ℕ, List}
use Rattle.contacts_base.specs.declared.key.ContactKey.{ContactKey}
use Rattle.contacts_base.specs.declared.split.Renewal.{Renewal}

-- what becomes of the contacts at some places: the points of those that are evaluated anew, the places of those that go,
-- and the keys of those that begin to touch and that end
pub record Looks : Type 0 where
  pub notes : List Renewal
  pub ends : List ℕ
  pub begin : List ContactKey
  pub end : List ContactKey
