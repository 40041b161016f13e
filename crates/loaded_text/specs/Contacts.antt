-- Contacts at the front of a text.
use Rattle.std.specs.Prelude.{◌≡◌, ℕ, ◌≤◌, ◌++◌, List}
use Rattle.serde_json.specs.Data.{Data, depth}
use Rattle.serde_json.specs.Events.{items_len}
use Rattle.serde_json.specs.View.{items_of}
use Rattle.world_file_base.specs.Asks.{no_asks}
use Rattle.world_file_base.specs.SavedContacts.{contacts_in, no_points, with_points}
use Rattle.world_file_base.specs.AskedContacts.{contacts_asks, points_asks}
use Rattle.world_file_base.specs.Written.{list_data}
use Rattle.world_file_base.specs.declared.saved.SavedContact.{SavedContact}
use Rattle.world_file_base.specs.declared.version.Version.TheVariants.{Second}
use Rattle.loaded_text.specs.Stands.{Stands}
use Rattle.loaded_text.specs.declared.points.Points.{Points}

pub record PointsHold (lead : List ℕ) (points : Points) (text rest : List ℕ) : Type 0 where
  pub items : List Data
  pub stands : Stands lead (list_data items) text rest
  pub shallow : depth (list_data items) ≤ 3
  pub contact : with_points (items_of items) no_points ≡ points.contact
  pub count : items_len (items_of items) ≡ points.count
  pub asks : points_asks (items_of items) no_asks ≡ no_asks

-- what a list of contacts adds to those that were read before
pub record ContactsHold (lead : List ℕ) (old new : List SavedContact) (text rest : List ℕ) : Type 0 where
  pub items : List Data
  pub stands : Stands lead (list_data items) text rest
  pub shallow : depth (list_data items) ≤ 5
  pub contacts : new ≡ old ++ contacts_in Second (items_of items)
  pub asks : contacts_asks Second (items_of items) no_asks ≡ no_asks
