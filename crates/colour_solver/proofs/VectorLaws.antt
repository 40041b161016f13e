-- Sums of vectors.
use Rattle.std.proofs.Common.{◌≡◌, ap, arith}
use Rattle.std.proofs.lemmas.Int.{ints}
use Rattle.fixed_geom.specs.Vectors.{minus, plus, zero_vector}
use Rattle.fixed_geom.specs.declared.vectors.Vec2.{Vec2}

-- vectors with the same components are the same
pub same_vector : (a b : Vec2) → a.x ≡ b.x → a.y ≡ b.y → a ≡ b
same_vector a b x y = λ i. record { x = x i; y = y i }

pub same_x : {a b : Vec2} → a ≡ b → a.x ≡ b.x
same_x e = ap (λ (v : Vec2). v.x) e

pub same_y : {a b : Vec2} → a ≡ b → a.y ≡ b.y
same_y e = ap (λ (v : Vec2). v.y) e

pub plus_zero : (a : Vec2) → plus a zero_vector ≡ a
plus_zero a = same_vector _ a (omega (arith, ints)) (omega (arith, ints))

pub zero_plus : (a : Vec2) → plus zero_vector a ≡ a
zero_plus a = same_vector _ a (omega (arith, ints)) (omega (arith, ints))

pub plus_assoc : (a b c : Vec2) → plus a (plus b c) ≡ plus (plus a b) c
plus_assoc a b c = same_vector _ _ (omega (arith, ints)) (omega (arith, ints))

pub minus_same : (a : Vec2) → minus a a ≡ zero_vector
minus_same a = same_vector _ zero_vector (omega (arith, ints)) (omega (arith, ints))
