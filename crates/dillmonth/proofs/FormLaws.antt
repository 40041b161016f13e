-- Shapes that are said one after another.
use Rattle.std.proofs.Common.{◌≡◌, ℕ, ◌+◌, ◌<◌, List, [], ◌∷◌, ◌++◌, ◌∙◌, Option, Some, None, add-one, ap, append_assoc, drop, drop-cons, get_or, length, refl, sym}
use Rattle.shapes.specs.declared.shape.ShapeDef.{ShapeDef}
use Rattle.dillmonth.specs.Forms.{both_said, shape_said, shapes_said}
use Rattle.dillmonth.specs.declared.forms.CShape.{CShape}

-- the shapes that are said after those that were made
abbrev pub said_after : List ShapeDef → Option (List ShapeDef) → Option (List ShapeDef)
said_after made None = None
said_after made (Some rest) = Some (made ++ rest)

-- one shape more
one_more : (made : List ShapeDef) (d : ShapeDef) (o : Option (List ShapeDef)) → said_after made (both_said (Some d) o) ≡ said_after (made ++ d ∷ []) o
one_more made d None = refl
one_more made d (Some rest) = ap (λ l. Some l) (sym (append_assoc made (d ∷ []) rest))

rest_from : (ss : List CShape) (k : ℕ) (s : CShape) → k < length ss → s ≡ get_or ss k s → drop k ss ≡ s ∷ drop (k + 1) ss
rest_from ss k s low is = drop-cons ss k s low ∙ rw (add-one, ← is) refl

pub said_more : (all : Option (List ShapeDef)) (ss : List CShape) (k : ℕ) (s : CShape) (d : ShapeDef) (made now : List ShapeDef)
    → k < length ss → s ≡ get_or ss k s → shape_said s ≡ Some d → now ≡ made ++ d ∷ []
    → said_after made (shapes_said (drop k ss)) ≡ all → said_after now (shapes_said (drop (k + 1) ss)) ≡ all
said_more all ss k s d made now low is said new known =
    let rest = shapes_said (drop (k + 1) ss) in
    ap (λ l. said_after l rest) new ∙ sym (one_more made d rest)
    ∙ ap (λ o. said_after made (both_said o rest)) (sym said)
    ∙ ap (λ l. said_after made (shapes_said l)) (sym (rest_from ss k s low is)) ∙ known

-- a form that is none
pub said_none : (all : Option (List ShapeDef)) (ss : List CShape) (k : ℕ) (s : CShape) (made : List ShapeDef)
    → k < length ss → s ≡ get_or ss k s → shape_said s ≡ None → said_after made (shapes_said (drop k ss)) ≡ all → all ≡ None
said_none all ss k s made low is said known =
    sym known ∙ ap (λ l. said_after made (shapes_said l)) (rest_from ss k s low is) ∙ ap (λ o. said_after made (both_said o (shapes_said (drop (k + 1) ss)))) said
