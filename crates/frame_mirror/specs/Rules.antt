-- The rule of the list of published frames, and what the step that adds one tells.
use Rattle.std.specs.Prelude.{ℕ, ◌≡◌, ◌==◌, true, List, [], ◌∷◌, ◌++◌, length, MatchBool}
use Rattle.logbook.specs.Pages.{Cell, Step, Book, Named}
use Rattle.logbook.specs.Pages as pages
use Rattle.world_core.specs.Frames.{View}
use Rattle.frame_mirror.specs.Lists.{AreInOrder}

-- A book has two words. The first is the length of the list, the second stays 0. Call numbers never go down.
pub record IsKept (cells : List Cell) (log : List View) : Type 0 where
  pub words : cells ≡ (length log, true) ∷ (0, true) ∷ []
  pub order : AreInOrder log

-- the word that is the list's length
abbrev pub length_word : Book → Named
length_word b = record { tracked = true; key = 0; book = b }

-- the frame was added to all that had been seen, unless the list was longer
abbrev pub Adds : Step View → pages.View View ℕ → ℕ → pages.View View ℕ → Type 0
Adds s v found w = MatchBool (found == s.old) (w.0 ≡ v.0 ++ s.ask ∷ []) (Unit {0})
