-- The first of hits.
use Rattle.std.proofs.Common.{◌≡◌, ℕ, Bool, true, false, cond, List, [], ◌∷◌, ◌++◌, Option, None, Some, refl, ap, sym, ◌∙◌, arith}
use Rattle.std.proofs.lemmas.Bool.{false≢true}
use Rattle.std.proofs.lemmas.Bool.Decides.{nat_tests}
use Rattle.shapes.specs.declared.beam.Beam.{Beam}
use Rattle.shape_rays.specs.declared.hits.Hit.{Hit}
use Rattle.shape_rays.specs.declared.hits.PosedShape.{PosedShape}
use Rattle.shape_rays.specs.Hits.{is_before, nearer, hit_on, first_hit}
use Rattle.shape_rays.specs.Laws.{AreInAnyOrder}

abbrev hit_by : ℕ → ℕ → ℕ → Hit
hit_by f s i = record { fraction = f; shape = record { slot = s; index = i } }

same_hit : (a b : Hit) → a.fraction ≡ b.fraction → a.shape.slot ≡ b.shape.slot → a.shape.index ≡ b.shape.index → a ≡ b
same_hit a b e f g = ap (λ (n : ℕ). hit_by n a.shape.slot a.shape.index) e ∙ ap (λ (n : ℕ). hit_by b.fraction n a.shape.index) f ∙ ap (λ (n : ℕ). hit_by b.fraction b.shape.slot n) g

one_first : (a b : Hit) → is_before a b ≡ true → is_before b a ≡ false
one_first a b h = grind (arith, nat_tests)

same_fraction : (a b : Hit) → is_before a b ≡ false → is_before b a ≡ false → a.fraction ≡ b.fraction
same_fraction a b h k = grind (arith, nat_tests)

same_slot : (a b : Hit) → is_before a b ≡ false → is_before b a ≡ false → a.shape.slot ≡ b.shape.slot
same_slot a b h k = grind (arith, nat_tests)

same_index : (a b : Hit) → is_before a b ≡ false → is_before b a ≡ false → a.shape.index ≡ b.shape.index
same_index a b h k = grind (arith, nat_tests)

none_first : (a b : Hit) → is_before a b ≡ false → is_before b a ≡ false → a ≡ b
none_first a b h k = same_hit a b (same_fraction a b h k) (same_slot a b h k) (same_index a b h k)

before_both : (a b c : Hit) → is_before b a ≡ true → is_before c b ≡ true → is_before c a ≡ true
before_both a b c h k = grind (arith, nat_tests)

after_both : (a b c : Hit) → is_before b a ≡ false → is_before c b ≡ false → is_before c a ≡ false
after_both a b c h k = grind (arith, nat_tests)

-- ---- the nearer of two

commute_by : (a b : Hit) (t u : Bool) → is_before b a ≡ t → is_before a b ≡ u → cond t (Some b) (Some a) ≡ cond u (Some a) (Some b)
commute_by a b true true h k = absurd (false≢true (sym (one_first b a h) ∙ k))
commute_by a b true false h k = refl
commute_by a b false true h k = refl
commute_by a b false false h k = ap Some (none_first a b k h)

pub commute : (a b : Option Hit) → nearer a b ≡ nearer b a
commute None None = refl
commute None (Some b) = refl
commute (Some a) None = refl
commute (Some a) (Some b) = commute_by a b (is_before b a) (is_before a b) refl refl

same_by : (a : Hit) (t : Bool) → cond t (Some a) (Some a) ≡ Some a
same_by a true = refl
same_by a false = refl

pub same : (a : Option Hit) → nearer a a ≡ a
same None = refl
same (Some a) = same_by a (is_before a a)

pub none_last : (a : Option Hit) → nearer a None ≡ a
none_last None = refl
none_last (Some a) = refl

later_by : (a b c : Hit) (t u v : Bool) → (t ≡ true → u ≡ true → v ≡ true) → (t ≡ false → u ≡ false → v ≡ false) → (t ≡ is_before b a) → (u ≡ is_before c b) → (v ≡ is_before c a) →
    nearer (cond t (Some b) (Some a)) (Some c) ≡ nearer (Some a) (cond u (Some c) (Some b))
later_by a b c true true v f g h k l = ap (λ (o : Bool). cond o (Some c) (Some b)) (sym k) ∙ sym (ap (λ (o : Bool). cond o (Some c) (Some a)) (sym l ∙ f refl refl))
later_by a b c true false v f g h k l = ap (λ (o : Bool). cond o (Some c) (Some b)) (sym k) ∙ sym (ap (λ (o : Bool). cond o (Some b) (Some a)) (sym h))
later_by a b c false true v f g h k l = refl
later_by a b c false false v f g h k l = ap (λ (o : Bool). cond o (Some c) (Some a)) (sym l ∙ g refl refl) ∙ sym (ap (λ (o : Bool). cond o (Some b) (Some a)) (sym h))

associate_some : (a b c : Hit) → nearer (nearer (Some a) (Some b)) (Some c) ≡ nearer (Some a) (nearer (Some b) (Some c))
associate_some a b c =
    later_by a b c (is_before b a) (is_before c b) (is_before c a) (λ e f. before_both a b c e f) (λ e f. after_both a b c e f) refl refl refl

pub associate : (a b c : Option Hit) → nearer (nearer a b) c ≡ nearer a (nearer b c)
associate None b c = refl
associate (Some a) None c = refl
associate (Some a) (Some b) None = none_last (nearer (Some a) (Some b))
associate (Some a) (Some b) (Some c) = associate_some a b c

pub in_any_order : AreInAnyOrder
in_any_order = record { commute = commute; associate = associate; none = none_last; same = same }

-- ---- lists of shapes

pub first_of_parts : (r : Beam) (ps qs : List PosedShape) → first_hit r (ps ++ qs) ≡ nearer (first_hit r ps) (first_hit r qs)
first_of_parts r [] qs = refl
first_of_parts r (p ∷ ps) qs = ap (λ (o : Option Hit). nearer (hit_on r p) o) (first_of_parts r ps qs) ∙ sym (associate (hit_on r p) (first_hit r ps) (first_hit r qs))
