-- Where an order is strict and its negation is transitive, the first that none beats is the best of those seen one
-- after another.
use Rattle.std.proofs.Common.{◌≡◌, Bool, true, false, cond, not, ◌||◌, List, [], ◌∷◌, All, Option, Some, None, IfSome, inl, inr, refl, sym, ◌∙◌, ap}
use Rattle.std.specs.List.{find, list_any}
use Rattle.std.proofs.lemmas.Bool.{cases_Bool, false≢true}
use Rattle.std.proofs.lemmas.List.Elements.{All-cons, All-head, All-tail}
use Rattle.fixed_geom.specs.Options.{unbeaten}

-- the best of one and of a list; of two that don't beat each other it is the earlier
abbrev pub best_of : {X : Type 0} → (X → X → Bool) → X → List X → X
best_of beats best [] = best
best_of beats best (x ∷ xs) = best_of beats (cond (beats x best) x best) xs

-- among those for which P holds, no two beat each other, and "doesn't beat" is transitive
pub record IsStrict {X : Type 0} (P : X → Type 0) (beats : X → X → Bool) : Type 0 where
  pub one_way : (x y : X) → P x → P y → beats x y ≡ true → beats y x ≡ false
  pub through : (x y z : X) → P x → P y → P z → beats x y ≡ false → beats y z ≡ false → beats x z ≡ false

-- ---- what is found

-- what holds of all of a list holds of the one that is found
pub found_is : {X : Type 0} (P : X → Type 0) (test : X → Bool) (xs : List X) → All P xs → IfSome (find test xs) P
found_is P test [] h = tt
found_is P test (x ∷ xs) h = by (test x) (found_is P test xs (All-tail P x xs h))
  where
    by : (t : Bool) → IfSome (find test xs) P → IfSome (cond t (Some x) (find test xs)) P
    by true rest = All-head P x xs h
    by false rest = rest

same_found : {X : Type 0} (P : X → Type 0) (f g : X → Bool) (xs : List X) → ((x : X) → P x → f x ≡ g x) → All P xs → find f xs ≡ find g xs
same_found P f g [] same h = refl
same_found P f g (x ∷ xs) same h =
    ap (λ t. cond t (Some x) (find f xs)) (same x (All-head P x xs h)) ∙ ap (cond (g x) (Some x)) (same_found P f g xs same (All-tail P x xs h))

any_too : {X : Type 0} (P : X → Type 0) (f g : X → Bool) (xs : List X) → ((x : X) → P x → f x ≡ true → g x ≡ true) → All P xs → list_any f xs ≡ true → list_any g xs ≡ true
any_too P f g [] more h any = any
any_too P f g (x ∷ xs) more h any = by (f x) (g x) (more x (All-head P x xs h)) (any_too P f g xs more (All-tail P x xs h)) any
  where
    by : (t u : Bool) → (t ≡ true → u ≡ true) → (list_any f xs ≡ true → list_any g xs ≡ true) → (t || list_any f xs) ≡ true → (u || list_any g xs) ≡ true
    by t true one rest here = refl
    by true false one rest here = absurd (false≢true (one refl))
    by false false one rest here = rest here

-- ---- the second of a list against the first

turned : (t u : Bool) → (u ≡ false → t ≡ false) → t ≡ true → u ≡ true
turned t true h k = refl
turned t false h k = sym (h refl) ∙ k

-- where one of two tests passes only if the other does, it adds nothing
adds_nothing : (t u any : Bool) → (t ≡ true → u ≡ true) → not (t || (u || any)) ≡ not (u || any)
adds_nothing true u any h = rw (h refl) refl
adds_nothing false u any h = refl

second_adds_nothing : (t u any : Bool) → (u ≡ true → t ≡ true) → not (t || (u || any)) ≡ not (t || any)
second_adds_nothing true u any h = refl
second_adds_nothing false true any h = absurd (false≢true (h refl))
second_adds_nothing false false any h = refl

passed_over : {X : Type 0} (x : X) (rest : Option X) (t u any : Bool) → u ≡ true → cond (not (t || (u || any))) (Some x) rest ≡ rest
passed_over x rest true u any h = refl
passed_over x rest false u any h = rw h refl

second_passed_over : {X : Type 0} (b c : X) (rest : Option X) (t u : Bool) → (t ≡ true → u ≡ true) → cond (not t) (Some b) (cond (not u) (Some c) rest) ≡ cond (not t) (Some b) rest
second_passed_over b c rest true u h = rw (h refl) refl
second_passed_over b c rest false u h = refl

second_wins : {X : Type 0} (P : X → Type 0) (beats : X → X → Bool) (b c : X) (cs : List X) → IsStrict P beats → P b → All P (c ∷ cs) → beats c b ≡ true → unbeaten beats (b ∷ c ∷ cs) ≡ unbeaten beats (c ∷ cs)
second_wins P beats b c cs w hb h k =
    let hc : P c = All-head P c cs h in
    passed_over b (find (λ x. not (list_any (λ y. beats y x) (b ∷ c ∷ cs))) (c ∷ cs)) (beats b b) (beats c b) (list_any (λ y. beats y b) cs) k
    ∙ same_found P (λ x. not (list_any (λ y. beats y x) (b ∷ c ∷ cs))) (λ x. not (list_any (λ y. beats y x) (c ∷ cs))) (c ∷ cs)
    (λ x hx. adds_nothing (beats b x) (beats c x) (list_any (λ y. beats y x) cs) (turned (beats b x) (beats c x) (λ no. w.through b c x hb hc hx (w.one_way c b hc hb k) no))) h

first_stays : {X : Type 0} (P : X → Type 0) (beats : X → X → Bool) (b c : X) (cs : List X) → IsStrict P beats → P b → All P (c ∷ cs) → beats c b ≡ false → unbeaten beats (b ∷ c ∷ cs) ≡ unbeaten beats (b ∷ cs)
first_stays P beats b c cs w hb h k =
    let hc : P c = All-head P c cs h in
    let hcs : All P cs = All-tail P c cs h in
    same_found P (λ x. not (list_any (λ y. beats y x) (b ∷ c ∷ cs))) (λ x. not (list_any (λ y. beats y x) (b ∷ cs))) (b ∷ c ∷ cs)
    (λ x hx. second_adds_nothing (beats b x) (beats c x) (list_any (λ y. beats y x) cs) (turned (beats c x) (beats b x) (λ no. w.through c b x hc hb hx k no))) (All-cons P b (c ∷ cs) hb h)
    ∙ second_passed_over b c (find (λ x. not (list_any (λ y. beats y x) (b ∷ cs))) cs) (list_any (λ y. beats y b) (b ∷ cs)) (list_any (λ y. beats y c) (b ∷ cs))
    (any_too P (λ y. beats y b) (λ y. beats y c) (b ∷ cs) (λ y hy. turned (beats y b) (beats y c) (λ no. w.through y c b hy hc hb no k)) (All-cons P b cs hb hcs))

-- ---- the lemma

alone : {X : Type 0} (b : X) (t : Bool) → (t ≡ true → t ≡ false) → cond (not (t || false)) (Some b) None ≡ Some b
alone b true h = absurd (false≢true (sym (h refl)))
alone b false h = refl

pub unbeaten_is_best : {X : Type 0} (P : X → Type 0) (beats : X → X → Bool) (b : X) (xs : List X) → IsStrict P beats → P b → All P xs → unbeaten beats (b ∷ xs) ≡ Some (best_of beats b xs)
unbeaten_is_best P beats b [] w hb h = alone b (beats b b) (w.one_way b b hb hb)
unbeaten_is_best P beats b (c ∷ cs) w hb h = elim (cases_Bool (beats c b)) [
  | inl k ↦ second_wins P beats b c cs w hb h k ∙ unbeaten_is_best P beats c cs w (All-head P c cs h) (All-tail P c cs h) ∙ ap (λ t. Some (best_of beats (cond t c b) cs)) (sym k)
  | inr k ↦ first_stays P beats b c cs w hb h k ∙ unbeaten_is_best P beats b cs w hb (All-tail P c cs h) ∙ ap (λ t. Some (best_of beats (cond t c b) cs)) (sym k)
]
