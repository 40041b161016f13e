-- Trusted: What lies on a desk beside its world.
use Rattle.std.specs.Prelude.{◌≡◌, false, [], string_bytes}
use Rattle.world_desk.specs.declared.desk.Desk.{Desk}

-- nothing was saved, nothing was found, hit or listed, and no events are kept
pub record IsClear (desk : Desk) : Type 0 where
  pub saved : string_bytes desk.saved ≡ []
  pub contacts : desk.contacts.items ≡ []
  pub found : desk.found.items ≡ []
  pub hits : desk.hits.items ≡ []
  pub log : desk.log.items ≡ []
  pub pending : desk.pending ≡ false
  pub keeps : desk.keeps ≡ false
