-- Shapes at the front of a text.
use Rattle.std.specs.Prelude.{◌≡◌, ℕ, ◌≤◌, ◌<◌, ◌^◌, ◌++◌, ◌∷◌, List, [], codes, true}
use Rattle.fixed_geom.specs.Boxes.{IsBoxWithin}
use Rattle.loaded_text.specs.Leads.{IsSigned}
use Rattle.serde_json.specs.Data.{Data, depth}
use Rattle.serde_json.specs.View.{items_of}
use Rattle.world_file_base.specs.Asks.{no_asks}
use Rattle.shapes.specs.Shapes.{is_between}
use Rattle.world_file_base.specs.Reading.{greatest_group, least_group}
use Rattle.world_file_base.specs.SavedShapes.{defs_in, fats_in}
use Rattle.world_file_base.specs.AskedShapes.{shapes_asks}
use Rattle.world_file_base.specs.Written.{Member, corners_of, integer, list_data, natural}
use Rattle.loaded_text.specs.Stands.{Stands}
use Rattle.loaded_text.specs.declared.forms.Surround.{Surround}
use Rattle.loaded_text.specs.declared.saved_shapes.LoadedShapes.{LoadedShapes}

abbrev pub surround_members : Surround → List Member
surround_members s = (codes "fat", corners_of s.fat) ∷ (codes "friction", integer s.friction) ∷ (codes "group", integer s.group) ∷ (codes "mask", natural s.mask) ∷ []

pub record IsSurround (s : Surround) : Type 0 where
  pub fat : IsBoxWithin (2 ^ 37) s.fat
  pub friction : IsSigned s.friction
  pub group : is_between least_group greatest_group s.group ≡ true
  pub mask : s.mask < 2 ^ 64

abbrev pub no_shapes : LoadedShapes
no_shapes = record { shapes = []; fats = [] }

-- what a list of shapes, each with its fat box, adds to those that were read before
pub record ShapesHold (lead : List ℕ) (old new : LoadedShapes) (text rest : List ℕ) : Type 0 where
  pub items : List Data
  pub stands : Stands lead (list_data items) text rest
  pub shallow : depth (list_data items) ≤ 4
  pub shapes : new.shapes ≡ old.shapes ++ defs_in (items_of items)
  pub fats : new.fats ≡ old.fats ++ fats_in (items_of items)
  pub asks : shapes_asks (items_of items) no_asks ≡ no_asks
