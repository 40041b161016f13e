-- The pieces of a list, one behind the other, are the list.
use Rattle.std.proofs.Common.{◌≡◌, ℕ, ◌/◌, List, [], ◌∷◌, ◌++◌, map, take, drop, length, sym, ◌∙◌, ap, arith, length-drop}
use Rattle.std.specs.List.{flat_map}
use Rattle.std.proofs.lemmas.List.{append-nil, append_assoc, map-append, take-append-drop}
use Rattle.std.proofs.lemmas.List.Concat.{flat_map-append}

-- one more piece is done, and the rest is shorter by it
pub one_more : {H X Y : Type 0} (answers : H → List Y) (f : X → Y) (hs : List H) (h : H) (rest items : List X) (n : ℕ)
    → flat_map answers hs ++ map f rest ≡ map f items → answers h ≡ map f (take n rest)
    → flat_map answers (hs ++ h ∷ []) ++ map f (drop n rest) ≡ map f items
one_more answers f hs h rest items n whole here =
    let cut : map f (take n rest) ++ map f (drop n rest) ≡ map f rest = sym (map-append f (take n rest) (drop n rest)) ∙ ap (map f) (take-append-drop n rest) in
    rw (flat_map-append answers hs (h ∷ []), append-nil (answers h), append_assoc (flat_map answers hs) (answers h) (map f (drop n rest)), here, cut) whole

-- the last piece is all that is left
pub none_left : {X : Type 0} (rest : List X) (left : ℕ) → left ≡ 1 → length (drop (length rest / left) rest) ≡ 0
none_left rest left one = rw one (omega (arith, length-drop (length rest / 1) rest))
