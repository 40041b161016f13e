-- One list of many changes.
use Rattle.std.proofs.Common.{◌≡◌, ℕ, zero, suc, ◌+◌, ◌<◌, ◌≤◌, ◌++◌, List, [], ◌∷◌, length, get_or, take, map, slice_set, subst, refl, sym, ap, ◌∙◌, arith}
use Rattle.std.specs.List.{All}
use Rattle.std.proofs.lemmas.List.{length-append, length-map, map-append, map-set, set-get_or, take_more, get_or-map}
use Rattle.std.proofs.lemmas.List.Elements.{All-set, All-nil, All-cons, All-append}
use Rattle.graph_colours.specs.declared.limits.TheConstants.{COLOURS}
use Rattle.graph_colours.specs.declared.member.Member.{Member}
use Rattle.graph_colours.specs.Edits.{Pended}
use Rattle.graph_colours.specs.Graph.{lists_of, HaveRoom, AreAtRest}
use Rattle.graph_colours.specs.Colours.{list_at, all_members, IsColouring}
use Rattle.graph_colours.proofs.EditLemmas.{take_whole}

-- there is a list for each colour, and one for the overflow
pub lists_count : {C : Type 0} (number : C → ℕ) (ks : List (Pended C)) → IsColouring number (lists_of ks) → length ks ≡ COLOURS + 1
lists_count {C} number ks keeps = let f : Pended C → List (Member C) = λ l. l.items in sym (length-map ks f) ∙ keeps.count

pub same_count : {C : Type 0} (now old : List (Pended C)) → lists_of now ≡ lists_of old → length now ≡ length old
same_count {C} now old same = let f : Pended C → List (Member C) = λ l. l.items in sym (length-map now f) ∙ ap (λ (ls : List (List (Member C))). length ls) same ∙ length-map old f

-- an image that stays
pub map_kept : {X Y : Type 0} (f : X → Y) (xs : List X) (i : ℕ) (y d : X) → f y ≡ f (get_or xs i d) → map f (slice_set xs i y) ≡ map f xs
map_kept f [] i y d h = refl
map_kept f (x ∷ xs) zero y d h = ap (λ z. z ∷ map f xs) h
map_kept f (x ∷ xs) (suc i) y d h = ap (λ ys. f x ∷ ys) (map_kept f xs i y d h)

-- the members of the list at a place
pub items_at : {C : Type 0} (ks : List (Pended C)) (i : ℕ) (x : Pended C) → i < length ks → x ≡ get_or ks i x → x.items ≡ list_at (lists_of ks) i
items_at {C} ks i x lt is = let f : Pended C → List (Member C) = λ l. l.items in ap f is ∙ sym (get_or-map f ks i x [] lt)

pub items_set : {C : Type 0} (ks : List (Pended C)) (i : ℕ) (y : Pended C) (ms : List (Member C)) → y.items ≡ ms → lists_of (slice_set ks i y) ≡ slice_set (lists_of ks) i ms
items_set {C} ks i y ms is = let f : Pended C → List (Member C) = λ l. l.items in map-set f ks i y ∙ ap (λ (l : List (Member C)). slice_set (map f ks) i l) is

pub rooms_set : {C : Type 0} (room : ℕ) (ks : List (Pended C)) (i : ℕ) (x y : Pended C) → i < length ks → x ≡ get_or ks i x → x.capacity ≤ y.capacity → HaveRoom room ks → HaveRoom room (slice_set ks i y)
rooms_set {C} room ks i x y lt is more each =
    let P : Pended C → Type 0 = λ l. room ≤ l.capacity in
    let here : room ≤ x.capacity = subst P (sym is) (each i x lt) in
    All-set P ks i y (omega (arith, here, more)) each

-- a list has no more members than all have together
pub list_fewer : {C : Type 0} (lists : List (List (Member C))) (i : ℕ) → length (list_at lists i) ≤ length (all_members lists)
list_fewer [] i = omega arith
list_fewer (l ∷ ls) zero = let both : length (all_members (l ∷ ls)) ≡ length l + length (all_members ls) = length-append l (all_members ls) in omega (arith, both)
list_fewer (l ∷ ls) (suc i) =
    let both : length (all_members (l ∷ ls)) ≡ length l + length (all_members ls) = length-append l (all_members ls) in
    let r : length (list_at ls i) ≤ length (all_members ls) = list_fewer ls i in
    omega (arith, both, r)

-- so it has room for one more, where each has room for more than all
pub one_fits : {C : Type 0} (room count : ℕ) (ks : List (Pended C)) (i : ℕ) (x : Pended C) → i < length ks → x ≡ get_or ks i x → HaveRoom room ks → length (all_members (lists_of ks)) ≤ count → count < room → length x.items < x.capacity
one_fits {C} room count ks i x lt is each few more =
    let P : Pended C → Type 0 = λ l. room ≤ l.capacity in
    let here : room ≤ x.capacity = subst P (sym is) (each i x lt) in
    let same : length x.items ≡ length (list_at (lists_of ks) i) = ap (λ (l : List (Member C)). length l) (items_at ks i x lt is) in
    let less : length (list_at (lists_of ks) i) ≤ length (all_members (lists_of ks)) = list_fewer (lists_of ks) i in
    omega (arith, here, same, less, few, more)

-- no edit of a list is put off where none was, or where one was flushed
pub rest_set : {C : Type 0} (ks : List (Pended C)) (i : ℕ) (y : Pended C) → y.pending ≡ 0 → AreAtRest ks → AreAtRest (slice_set ks i y)
rest_set {C} ks i y none each = All-set (λ (l : Pended C). l.pending ≡ 0) ks i y none each

pub rest_at : {C : Type 0} (ks : List (Pended C)) (i : ℕ) (x : Pended C) → i < length ks → x ≡ get_or ks i x → AreAtRest ks → x.pending ≡ 0
rest_at {C} ks i x lt is each = let P : Pended C → Type 0 = λ l. l.pending ≡ 0 in subst P (sym is) (each i x lt)

pub rest_more : {C : Type 0} (ks now : List (Pended C)) (k : Pended C) → now ≡ ks ++ k ∷ [] → k.pending ≡ 0 → AreAtRest ks → AreAtRest now
rest_more {C} ks now k is none each =
    let P : Pended C → Type 0 = λ l. l.pending ≡ 0 in
    let Q : List (Pended C) → Type 0 = λ l. All P l in
    subst Q (sym is) (All-append P ks (k ∷ []) each (All-cons P k [] none (All-nil P)))

-- one list more
pub lists_more : {C : Type 0} (ks now : List (Pended C)) (k : Pended C) (lists : List (List (Member C))) (i : ℕ) → i < length lists → now ≡ ks ++ k ∷ [] → k.items ≡ list_at lists i → lists_of ks ≡ take i lists → lists_of now ≡ take (i + 1) lists
lists_more {C} ks now k lists i lt pushed is was =
    let f : Pended C → List (Member C) = λ l. l.items in
    ap (λ (l : List (Pended C)). map f l) pushed ∙ map-append f ks (k ∷ []) ∙ ap (λ (ls : List (List (Member C))). ls ++ k.items ∷ []) was ∙ ap (λ (ms : List (Member C)). take i lists ++ ms ∷ []) is ∙ sym (take_more lists i [] lt)

-- all lists are done
pub lists_all : {C : Type 0} (ks : List (Pended C)) (lists : List (List (Member C))) (i : ℕ) → length lists ≤ i → lists_of ks ≡ take i lists → lists_of ks ≡ lists
lists_all ks lists i le is = is ∙ take_whole lists i le

-- a list that is set to what it is
pub nothing_set : {C : Type 0} (lists : List (List (Member C))) (i : ℕ) (ms : List (Member C)) → ms ≡ list_at lists i → lists ≡ slice_set lists i ms
nothing_set {C} lists i ms is = sym (ap (λ (l : List (Member C)). slice_set lists i l) is ∙ set-get_or lists i [])
