-- Items on a stack, and the answers that are owed for them.
use Rattle.std.proofs.Common.{◌≡◌, List, [], ◌∷◌, ◌++◌, map, reverse, All, sym, ◌∙◌, subst}
use Rattle.std.proofs.lemmas.List.{append_assoc, reverse-append, reverse-reverse}
use Rattle.std.proofs.lemmas.List.Elements.{All-cons, All-head, All-tail, All-take, All-push}
use Rattle.crew.specs.Answers.{owed}

-- the last item goes onto the stack
pub one_stacked : {X : Type 0} (items stack whole : List X) (x : X) → (items ++ x ∷ []) ++ reverse stack ≡ whole → items ++ reverse (stack ++ x ∷ []) ≡ whole
one_stacked items stack whole x e = rw (reverse-append stack (x ∷ [])) (sym (append_assoc items (x ∷ []) (reverse stack)) ∙ e)

-- the item on top is worked
pub one_worked : {W X Y : Type 0} (answer : W → X → Y) (w : W) (stack : List X) (x : X) (outs : List Y)
    → owed answer w (stack ++ x ∷ []) outs ≡ owed answer w stack (outs ++ answer w x ∷ [])
one_worked answer w stack x outs = rw (reverse-append stack (x ∷ [])) (sym (append_assoc outs (answer w x ∷ []) (map (answer w) (reverse stack))))

-- ---- what holds of each item

pub all_left : {X : Type 0} (P : X → Type 0) (xs ys : List X) → All P (xs ++ ys) → All P xs
all_left P [] ys a = All-take P 0 ys a
all_left P (x ∷ xs) ys a = All-cons P x xs (All-head P x (xs ++ ys) a) (all_left P xs ys (All-tail P x (xs ++ ys) a))

pub all_right : {X : Type 0} (P : X → Type 0) (xs ys : List X) → All P (xs ++ ys) → All P ys
all_right P [] ys a = a
all_right P (x ∷ xs) ys a = all_right P xs ys (All-tail P x (xs ++ ys) a)

pub all_reversed : {X : Type 0} (P : X → Type 0) (xs : List X) → All P xs → All P (reverse xs)
all_reversed P [] a = a
all_reversed P (x ∷ xs) a = subst (All P) (sym (reverse-append (x ∷ []) xs)) (All-push P (reverse xs) x (all_reversed P xs (All-tail P x xs a)) (All-head P x xs a))

-- of those that went onto the stack
pub all_stacked : {X : Type 0} (P : X → Type 0) (items stack whole : List X) → items ++ reverse stack ≡ whole → All P whole → All P stack
all_stacked P items stack whole e a = subst (All P) (reverse-reverse stack) (all_reversed P (reverse stack) (all_right P items (reverse stack) (subst (All P) (sym e) a)))

-- of those that were left
pub all_unstacked : {X : Type 0} (P : X → Type 0) (items stack whole : List X) → items ++ reverse stack ≡ whole → All P whole → All P items
all_unstacked P items stack whole e a = all_left P items (reverse stack) (subst (All P) (sym e) a)
