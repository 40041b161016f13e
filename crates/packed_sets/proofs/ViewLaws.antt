-- Lists of vectors as contracts see them, and what is the same of each number.
use Rattle.std.proofs.Common.{◌≡◌, ℕ, zero, suc, ◌+◌, ◌-◌, ◌<◌, ◌≤◌, List, [], ◌∷◌, ◌++◌, length, get_or, slice_set, map, take, refl, ap, sym, subst, ◌∙◌, arith, Vec, Global, vec_capacity}
use Rattle.std.specs.List.{swap_remove}
use Rattle.std.proofs.lemmas.List.{length-set, length-map, map-set, map-append, take-map, get_or-map, get_or-set_same, get_or-set_other}
use Rattle.std.proofs.Math.Seq.{map-set_same}
use Rattle.packed_sets.specs.declared.spots.Spot.{Spot}
use Rattle.packed_sets.specs.Packs.{list_at, capacity_at, HaveAtLeast}
use Rattle.packed_sets.specs.Notes.{IsSwappedOut, IsOut}

pub list_seen : {X : Type 0} (ls : List (Vec X Global)) (s : ℕ) (v : Vec X Global) → s < length ls → v ≡ get_or ls s v → list_at (map (λ (w : Vec X Global). w.items) ls) s ≡ v.items
list_seen {X} ls s v lt e = get_or-map (λ (w : Vec X Global). w.items) ls s v [] lt ∙ ap (λ (w : Vec X Global). w.items) (sym e)

pub room_seen : {X : Type 0} (ls : List (Vec X Global)) (s : ℕ) (v : Vec X Global) → s < length ls → v ≡ get_or ls s v → capacity_at (map (λ (w : Vec X Global). vec_capacity w) ls) s ≡ vec_capacity v
room_seen {X} ls s v lt e = get_or-map (λ (w : Vec X Global). vec_capacity w) ls s v 0 lt ∙ ap (λ (w : Vec X Global). vec_capacity w) (sym e)

pub within_seen : {X : Type 0} (ls : List (Vec X Global)) (s : ℕ) → s < length (map (λ (w : Vec X Global). w.items) ls) → s < length ls
within_seen {X} ls s lt = omega (arith, lt, length-map ls (λ (w : Vec X Global). w.items))

pub seen_count : {X : Type 0} (ls : List (Vec X Global)) → length (map (λ (w : Vec X Global). w.items) ls) ≡ length ls
seen_count {X} ls = length-map ls (λ (w : Vec X Global). w.items)

-- ---- room

pub room_set : (cs : List ℕ) (s c : ℕ) → capacity_at cs s ≤ c → HaveAtLeast cs (slice_set cs s c)
room_set [] s c h t = omega arith
room_set (d ∷ cs) zero c h zero = h
room_set (d ∷ cs) zero c h (suc t) = omega arith
room_set (d ∷ cs) (suc s) c h zero = omega arith
room_set (d ∷ cs) (suc s) c h (suc t) = room_set cs s c h t

pub room_kept : {X : Type 0} (ls : List (Vec X Global)) (s : ℕ) (v w : Vec X Global) → s < length ls → v ≡ get_or ls s v → vec_capacity v ≤ vec_capacity w
    → HaveAtLeast (map (λ (u : Vec X Global). vec_capacity u) ls) (map (λ (u : Vec X Global). vec_capacity u) (slice_set ls s w))
room_kept {X} ls s v w lt e le =
    let seen : capacity_at (map (λ (u : Vec X Global). vec_capacity u) ls) s ≡ vec_capacity v = room_seen ls s v lt e in
    subst (λ (cs : List ℕ). HaveAtLeast (map (λ (u : Vec X Global). vec_capacity u) ls) cs) (sym (map-set (λ (u : Vec X Global). vec_capacity u) ls s w))
    (room_set (map (λ (u : Vec X Global). vec_capacity u) ls) s (vec_capacity w) (omega (arith, seen, le)))

-- ---- one id swapped out of a vector

pub seen_out : {X : Type 0} (ls : List (Vec X Global)) (at : Spot) (x : X) (v w : Vec X Global) → at.set < length ls → v ≡ get_or ls at.set v → IsSwappedOut v.items w.items at.place x
    → IsOut (map (λ (u : Vec X Global). u.items) ls) (map (λ (u : Vec X Global). u.items) (slice_set ls at.set w)) at x
seen_out {X} ls at x v w lt is out =
    let f : Vec X Global → List X = λ (u : Vec X Global). u.items in
    let was : list_at (map f ls) at.set ≡ v.items = list_seen ls at.set v lt is in
    let same : map f (slice_set ls at.set w) ≡ slice_set (map f ls) at.set w.items = map-set f ls at.set w in
    let long : length (map f ls) ≡ length ls = length-map ls f in
    let now : list_at (slice_set (map f ls) at.set w.items) at.set ≡ w.items = get_or-set_same (map f ls) at.set w.items [] (omega (arith, lt, long)) in
    subst (λ (l : List (List X)). IsOut (map f ls) l at x) (sym same) (record {
      long = length-set (map f ls) at.set w.items;
      swapped = subst (λ (l : List X). IsSwappedOut l (list_at (slice_set (map f ls) at.set w.items) at.set) at.place x) (sym was) (subst (λ (l : List X). IsSwappedOut v.items l at.place x) (sym now) out);
      others = λ t d. get_or-set_other (map f ls) at.set t w.items [] d;
    })

-- ---- one id put into a vector

pub put_seen : {X : Type 0} (ls : List (Vec X Global)) (s : ℕ) (x : X) (v w : Vec X Global) → s < length ls → v ≡ get_or ls s v → w.items ≡ v.items ++ x ∷ []
    → map (λ (u : Vec X Global). u.items) (slice_set ls s w) ≡ slice_set (map (λ (u : Vec X Global). u.items) ls) s (list_at (map (λ (u : Vec X Global). u.items) ls) s ++ x ∷ [])
put_seen {X} ls s x v w lt is e =
    let f : Vec X Global → List X = λ (u : Vec X Global). u.items in
    map-set f ls s w ∙ ap (λ (l : List X). slice_set (map f ls) s l) (e ∙ ap (λ (l : List X). l ++ x ∷ []) (sym (list_seen ls s v lt is)))

-- ---- room made in a vector

pub same_seen : {X : Type 0} (ls : List (Vec X Global)) (s : ℕ) (v w : Vec X Global) → v ≡ get_or ls s v → w.items ≡ v.items
    → map (λ (u : Vec X Global). u.items) (slice_set ls s w) ≡ map (λ (u : Vec X Global). u.items) ls
same_seen {X} ls s v w is e =
    let f : Vec X Global → List X = λ (u : Vec X Global). u.items in
    map-set_same f ls s w v (e ∙ ap f is)

pub room_there : {X : Type 0} (ls : List (Vec X Global)) (s n : ℕ) (v w : Vec X Global) → s < length ls → v ≡ get_or ls s v → w.items ≡ v.items → length w.items + n ≤ vec_capacity w
    → length (list_at (map (λ (u : Vec X Global). u.items) (slice_set ls s w)) s) + n ≤ capacity_at (map (λ (u : Vec X Global). vec_capacity u) (slice_set ls s w)) s
room_there {X} ls s n v w lt is e le =
    let long : length (slice_set ls s w) ≡ length ls = length-set ls s w in
    let now : get_or (slice_set ls s w) s w ≡ w = get_or-set_same ls s w w lt in
    let items : list_at (map (λ (u : Vec X Global). u.items) (slice_set ls s w)) s ≡ w.items = list_seen (slice_set ls s w) s w (omega (arith, lt, long)) (sym now) in
    let room : capacity_at (map (λ (u : Vec X Global). vec_capacity u) (slice_set ls s w)) s ≡ vec_capacity w = room_seen (slice_set ls s w) s w (omega (arith, lt, long)) (sym now) in
    let lengths : length (list_at (map (λ (u : Vec X Global). u.items) (slice_set ls s w)) s) ≡ length w.items = ap (λ (l : List X). length l) items in
    omega (arith, le, room, lengths)

-- ---- lists more and less

pub lists_more : {X : Type 0} (ls : List (Vec X Global)) (v : Vec X Global) → v.items ≡ [] → map (λ (u : Vec X Global). u.items) (ls ++ v ∷ []) ≡ map (λ (u : Vec X Global). u.items) ls ++ [] ∷ []
lists_more {X} ls v none =
    let f : Vec X Global → List X = λ (u : Vec X Global). u.items in
    map-append f ls (v ∷ []) ∙ ap (λ (l : List X). map f ls ++ l ∷ []) none

room_more : (cs : List ℕ) (c : ℕ) → HaveAtLeast cs (cs ++ c ∷ [])
room_more [] c s = omega arith
room_more (d ∷ cs) c zero = omega arith
room_more (d ∷ cs) c (suc s) = room_more cs c s

pub rooms_more : {X : Type 0} (ls : List (Vec X Global)) (v : Vec X Global) → HaveAtLeast (map (λ (u : Vec X Global). vec_capacity u) ls) (map (λ (u : Vec X Global). vec_capacity u) (ls ++ v ∷ []))
rooms_more {X} ls v =
    let f : Vec X Global → ℕ = λ (u : Vec X Global). vec_capacity u in
    subst (λ (cs : List ℕ). HaveAtLeast (map f ls) cs) (sym (map-append f ls (v ∷ []))) (room_more (map f ls) (f v))

-- a list with no ids behind the others is as good as none
pub list_more : {X : Type 0} (sets : List (List X)) (s : ℕ) → list_at (sets ++ [] ∷ []) s ≡ list_at sets s
list_more [] zero = refl
list_more [] (suc s) = refl
list_more (l ∷ sets) zero = refl
list_more (l ∷ sets) (suc s) = list_more sets s

-- an item swapped out of a list, and its image out of those of the items
pub swap_map : {X Y : Type 0} (f : X → Y) (xs : List X) (p : ℕ) (v : X) (d : Y) → p < length xs → map f (swap_remove xs p v) ≡ swap_remove (map f xs) p d
swap_map {X} {Y} f xs p v d lt =
    let n : ℕ = length xs - 1 in
    let last : f (get_or xs n v) ≡ get_or (map f xs) n d = sym (get_or-map f xs n v d (omega (arith, lt))) in
    let count : length (map f xs) - 1 ≡ n = ap (λ (k : ℕ). k - 1) (length-map xs f) in
    sym (take-map f n (slice_set xs p (get_or xs n v))) ∙ ap (λ (l : List Y). take n l) (map-set f xs p (get_or xs n v) ∙ ap (λ (y : Y). slice_set (map f xs) p y) last) ∙ ap (λ (k : ℕ). take k (slice_set (map f xs) p (get_or (map f xs) k d))) (sym count)

pub rooms_through : (xs ys zs : List ℕ) → HaveAtLeast xs ys → HaveAtLeast ys zs → HaveAtLeast xs zs
rooms_through xs ys zs first second s =
    let p : capacity_at xs s ≤ capacity_at ys s = first s in
    let q : capacity_at ys s ≤ capacity_at zs s = second s in
    omega (arith, p, q)
