-- What tests tell, and what is within its limits whatever a value says.
use Rattle.std.proofs.Common.{◌≡◌, ℕ, ◌+◌, ◌-◌, ◌*◌, ◌^◌, ◌<◌, ◌≤◌, ◌==◌, ◌&&◌, ◌||◌, ◌⊎◌, Bool, true, false, not, cond, nat_le, nat_lt, List, [], ◌∷◌, Option, Some, None, is_some, is_none, option_and_then, unwrap_or, ℤ, pos, negsuc, neg_ℤ, ◌≤ℤ◌, unsigned_abs, int_le, int_eq, inl, inr, refl, sym, ap, ◌∙◌, arith}
use Rattle.std.specs.List.{list_all}
use Rattle.std.proofs.lemmas.Bool.{false≢true}
use Rattle.std.proofs.lemmas.Bool.Decides.{nat_tests, Decides-int_eq}
use Rattle.std.proofs.lemmas.Int.{ints}
use Rattle.std.proofs.lemmas.Nat.{mul-le}
use Rattle.fixed_geom.specs.Boxes.{Contains, contains, covers}
use Rattle.fixed_geom.specs.Facings.{IsFacing, is_facing}
use Rattle.fixed_geom.specs.Vectors.{IsWithin, is_within, zero_vector}
use Rattle.fixed_geom.specs.declared.boxes.Box2.{Box2}
use Rattle.fixed_geom.specs.declared.facings.Rot.{Rot}
use Rattle.fixed_geom.specs.declared.vectors.Vec2.{Vec2}
use Rattle.fixed_geom.proofs.FacingLemmas.{is_facing-square}
use Rattle.contacts_base.proofs.Members.{IsIn}
use Rattle.serde_json.specs.Data.{Data}
use Rattle.world_file_base.specs.Reading.{natural_of, signed_in, unsigned_in, vector_in, vector_within, whole_in}
use Rattle.shapes.specs.Shapes.{is_between}
use Rattle.world_file_base.specs.Texts.{decimal_in, number_of_text, sized}
use Rattle.world_file_base.specs.Reading.{text_in}

-- ---- truths

pub both_true : (x y : Bool) → (x && y) ≡ true → (x ≡ true) × (y ≡ true)
both_true true y h = (refl, h)
both_true false y h = absurd (false≢true h)

pub either_true : (x y : Bool) → (x || y) ≡ true → (x ≡ true) ⊎ (y ≡ true)
either_true true y h = inl refl
either_true false y h = inr h

pub not_true : (x : Bool) → not x ≡ true → x ≡ false
not_true true h = absurd (false≢true h)
not_true false h = refl

pub some_item : {X : Type 0} (o : Option X) → is_some o ≡ true → (x : X) × (o ≡ Some x)
some_item None h = absurd (false≢true h)
some_item (Some x) h = (x, refl)

pub all_pass : {X : Type 0} (p : X → Bool) (xs : List X) → list_all p xs ≡ true → (x : X) → IsIn x xs → p x ≡ true
all_pass p [] h x i = absurd i
all_pass p (y ∷ ys) h x i =
    let o = both_true (p y) (list_all p ys) h in
    elim i [ inl e ↦ ap p e ∙ o.0 | inr j ↦ all_pass p ys o.1 x j ]

-- ---- numbers

pub equal_z : (a b : ℤ) → int_eq a b ≡ true → a ≡ b
equal_z a b h = (Decides-int_eq a b).0 h

pub equal_n : (a b : ℕ) → (a == b) ≡ true → a ≡ b
equal_n a b h = grind (arith, nat_tests)

pub at_most : (a b : ℕ) → nat_le a b ≡ true → a ≤ b
at_most a b h = grind (arith, nat_tests)

pub below : (a b : ℕ) → nat_lt a b ≡ true → a < b
below a b h = grind (arith, nat_tests)

pub at_most_z : (a b : ℤ) → int_le a b ≡ true → a ≤ℤ b
at_most_z a b h = grind (arith, ints)

-- from the least to the most
pub record IsFrom (low high z : ℤ) : Type 0 where
  pub least : low ≤ℤ z
  pub most : z ≤ℤ high

pub between_is : (low high z : ℤ) → is_between low high z ≡ true → IsFrom low high z
between_is low high z h = let o = both_true (int_le low z) (int_le z high) h in record { least = at_most_z low z o.0; most = at_most_z z high o.1 }

same_z : (z : ℤ) → z ≤ℤ z
same_z z = omega (arith, ints)

pub between_or : (low high z : ℤ) (t : Bool) → is_between low high z ≡ t → low ≤ℤ high → IsFrom low high (cond t z low)
between_or low high z true e h = between_is low high z e
between_or low high z false e h = record { least = same_z low; most = h }

-- ---- vectors, boxes and facings

pub within : (n : ℕ) (v : Vec2) → is_within n v ≡ true → IsWithin n v
within n v h = let o = both_true (nat_le (unsigned_abs v.x) n) (nat_le (unsigned_abs v.y) n) h in record { x = at_most (unsigned_abs v.x) n o.0; y = at_most (unsigned_abs v.y) n o.1 }

pub within_or : (n : ℕ) (v : Vec2) (t : Bool) → is_within n v ≡ t → IsWithin n (cond t v zero_vector)
within_or n v true e = within n v e
within_or n v false e = record { x = omega arith; y = omega arith }

covers_is : (lo hi low high : ℤ) → covers lo hi low high ≡ true → (lo ≤ℤ low) × (high ≤ℤ hi)
unfolding covers
covers_is lo hi low high h = let o = both_true (int_le lo low) (int_le high hi) h in (at_most_z lo low o.0, at_most_z high hi o.1)

pub contains_is : (outer inner : Box2) → contains outer inner ≡ true → Contains outer inner
contains_is outer inner h =
    let o = both_true (covers outer.lo.x outer.hi.x inner.lo.x inner.hi.x) (covers outer.lo.y outer.hi.y inner.lo.y inner.hi.y) h in
    let across = covers_is outer.lo.x outer.hi.x inner.lo.x inner.hi.x o.0 in
    let along = covers_is outer.lo.y outer.hi.y inner.lo.y inner.hi.y o.1 in
    record { left = across.0; right = across.1; down = along.0; up = along.1 }

record IsSquare (c s : ℕ) : Type 0 where
  long : (2 ^ 30 - 2) * (2 ^ 30 - 2) ≤ c * c + s * s
  short : c * c + s * s < (2 ^ 30 + 3) * (2 ^ 30 + 3)

square_is : (c s : ℕ) → (nat_le ((2 ^ 30 - 2) * (2 ^ 30 - 2)) (c * c + s * s) && nat_lt (c * c + s * s) ((2 ^ 30 + 3) * (2 ^ 30 + 3))) ≡ true → IsSquare c s
square_is c s h =
    let o = both_true (nat_le ((2 ^ 30 - 2) * (2 ^ 30 - 2)) (c * c + s * s)) (nat_lt (c * c + s * s) ((2 ^ 30 + 3) * (2 ^ 30 + 3))) h in
    record { long = at_most ((2 ^ 30 - 2) * (2 ^ 30 - 2)) (c * c + s * s) o.0; short = below (c * c + s * s) ((2 ^ 30 + 3) * (2 ^ 30 + 3)) o.1 }

root_small : (c s : ℕ) → c * c + s < (2 ^ 30 + 3) * (2 ^ 30 + 3) → c ≤ 2 ^ 30 + 2
root_small c s h = by (nat_le c (2 ^ 30 + 2)) refl
  where
    by : (t : Bool) → nat_le c (2 ^ 30 + 2) ≡ t → c ≤ 2 ^ 30 + 2
    by true e = at_most c (2 ^ 30 + 2) e
    by false e =
        let far : 2 ^ 30 + 3 ≤ c = grind (arith, nat_tests) in
        let squares : (2 ^ 30 + 3) * (2 ^ 30 + 3) ≤ c * c = mul-le (2 ^ 30 + 3) (2 ^ 30 + 3) c c far far in
        absurd (omega arith)

facing_of : (q : Rot) → IsSquare (unsigned_abs q.c) (unsigned_abs q.s) → IsFacing q
facing_of q h =
    let short = h.short in
    record {
      c = root_small (unsigned_abs q.c) (unsigned_abs q.s * unsigned_abs q.s) short;
      s = root_small (unsigned_abs q.s) (unsigned_abs q.c * unsigned_abs q.c) (omega (arith, short));
      long = h.long;
      short = short;
    }

pub facing : (q : Rot) → is_facing q ≡ true → IsFacing q
facing q h = facing_of q (square_is (unsigned_abs q.c) (unsigned_abs q.s) (sym (is_facing-square q) ∙ h))

-- ---- what is within its limits whatever it was read of

pub signed_from : (low high : ℤ) (v : Option Data) → low ≤ℤ high → IsFrom low high (signed_in low high v)
signed_from low high v h = between_or low high (whole_in v) (is_between low high (whole_in v)) refl h

pub size_from : (n : ℕ) (z : ℤ) → IsFrom (neg_ℤ (pos n)) (pos n) z → unsigned_abs z ≤ n
size_from n z h = let least = h.least in let most = h.most in omega (arith, ints, least, most)

natural_small : (high : ℕ) (z : ℤ) → unwrap_or (natural_of high z) 0 ≤ high
natural_small high (pos n) = by (nat_le n high) refl
  where
    by : (t : Bool) → nat_le n high ≡ t → unwrap_or (cond t (Some n) None) 0 ≤ high
    by true e = at_most n high e
    by false e = omega arith
natural_small high (negsuc n) = omega arith

pub unsigned_small : (high : ℕ) (v : Option Data) → unsigned_in high v ≤ high
unsigned_small high v = natural_small high (whole_in v)

sized_small : (most : ℕ) (z : ℤ) (t : Bool) → nat_le (unsigned_abs z) most ≡ t → unsigned_abs (unwrap_or (cond t (Some z) None) (pos 0)) ≤ most
sized_small most z true e = at_most (unsigned_abs z) most e
sized_small most z false e = omega arith

number_small : (most : ℕ) (o : Option ℤ) → unsigned_abs (unwrap_or (option_and_then (sized most) o) (pos 0)) ≤ most
number_small most None = omega arith
number_small most (Some z) = sized_small most z (nat_le (unsigned_abs z) most) refl

pub decimal_small : (most : ℕ) (v : Option Data) → unsigned_abs (decimal_in most v) ≤ most
decimal_small most v = number_small most (number_of_text (text_in v))

pub vector_small : (most : ℕ) (v : Option Data) → IsWithin most (vector_within most v)
vector_small most v = within_or most (vector_in v) (is_within most (vector_in v)) refl
