-- A world is saved by each text that says what its text says.
use Rattle.std.proofs.Common.{ℕ, List, sym, ◌∙◌}
use Rattle.world_file.specs.declared.saved_world.Saved.{Saved}
use Rattle.loaded_text.specs.Canonical.{IsCanonical}
use Rattle.loaded_text.specs.Worlds.{IsSavedText}

pub saved_alike : (text out : List ℕ) (s : Saved) → IsCanonical text out → IsSavedText out s → IsSavedText text s
saved_alike text out s same h = record {
  value = h.value;
  text_is = same.text_is ∙ sym same.out_is ∙ h.text_is;
  few = h.few;
  few_joints = h.few_joints;
  parts = h.parts;
  asks = h.asks;
}
