-- Trusted: Lists of published frames.
use Rattle.std.specs.Prelude.{◌≡◌, ◌≤◌, ◌-◌, List, [], ◌∷◌, length, slice_get, Some}
use Rattle.world_core.specs.Frames.{View}

-- the frame is the list's last one
abbrev pub EndsWith : List View → View → Type 0
EndsWith frames frame = slice_get frames (length frames - 1) ≡ Some frame

-- no call number is lower than the one before it
abbrev pub AreInOrder : List View → Type 0
AreInOrder [] = Unit {0}
AreInOrder (f ∷ []) = Unit {0}
AreInOrder (f ∷ g ∷ fs) = (f.calls ≤ g.calls) × AreInOrder (g ∷ fs)
