-- Sums of what two changes have added: how large they may be, and what one body more makes of them.
use Rattle.std.proofs.Common.{◌≡◌, ℕ, ◌+◌, ◌*◌, ◌^◌, ◌≤◌, ℤ, ◌+ℤ◌, pos, unsigned_abs, arith}
use Rattle.std.proofs.lemmas.Int.{ints}
use Rattle.std.proofs.lemmas.Nat.{mul-le}
use Rattle.fixed_geom.specs.Vectors.{IsWithin, minus, plus, zero_vector}
use Rattle.fixed_geom.specs.declared.vectors.Vec2.{Vec2}
use Rattle.momenta.specs.Gains.{IsGain}
use Rattle.momenta.specs.declared.gain.Gain.{Gain}
use Rattle.colour_solver.specs.declared.passes.Sums.{Sums}
use Rattle.colour_solver.specs.Sums.{AreSumsOf, first_sum, second_sum}
use Rattle.colour_solver.proofs.VectorLaws.{same_vector}

abbrev pub no_gain : Gain
no_gain = record { x = pos 0; y = pos 0 }

abbrev pub no_sums : Sums
no_sums = record { little = record { first = zero_vector; second = zero_vector }; more = record { first = no_gain; second = no_gain } }

pub none_so_far : AreSumsOf 0 no_sums
none_so_far = record {
  little_first = record { x = omega arith; y = omega arith };
  little_second = record { x = omega arith; y = omega arith };
  more_first = record { x = omega arith; y = omega arith };
  more_second = record { x = omega arith; y = omega arith };
  first = record { x = omega arith; y = omega arith };
  second = record { x = omega arith; y = omega arith };
}

wider : (k n b a : ℕ) → k ≤ n → a ≤ k * b → a ≤ n * b
wider k n b a h l = let more : k * b ≤ n * b = mul-le k b n b h (omega arith) in omega (arith, more, l)

wider_vector : (k n b : ℕ) (v : Vec2) → k ≤ n → IsWithin (k * b) v → IsWithin (n * b) v
wider_vector k n b v h w = record { x = wider k n b (unsigned_abs v.x) h w.x; y = wider k n b (unsigned_abs v.y) h w.y }

wider_gain : (k n b : ℕ) (g : Gain) → k ≤ n → IsGain (k * b) g → IsGain (n * b) g
wider_gain k n b g h w = record { x = wider k n b (unsigned_abs g.x) h w.x; y = wider k n b (unsigned_abs g.y) h w.y }

pub within_all : (k n : ℕ) (s : Sums) → k ≤ n → AreSumsOf k s → AreSumsOf n s
within_all k n s h w = record {
  little_first = wider_vector k n (2 ^ 36) s.little.first h w.little_first;
  little_second = wider_vector k n (2 ^ 36) s.little.second h w.little_second;
  more_first = wider_gain k n (2 ^ 62) s.more.first h w.more_first;
  more_second = wider_gain k n (2 ^ 62) s.more.second h w.more_second;
  first = wider_vector k n (2 ^ 62) (first_sum s) h w.first;
  second = wider_vector k n (2 ^ 62) (second_sum s) h w.second;
}

-- ---- one body more

-- what is left of a size where a number is added
added_within : (k : ℕ) (a c : ℤ) → unsigned_abs a ≤ k * 2 ^ 36 → unsigned_abs c ≤ 2 ^ 36 → unsigned_abs (a +ℤ c) ≤ (k + 1) * 2 ^ 36
added_within k a c h l = omega (arith, ints)

sum_within : (k : ℕ) (a b c : ℤ) → unsigned_abs (a +ℤ b) ≤ k * 2 ^ 62 → unsigned_abs c ≤ 2 ^ 36 → unsigned_abs (a +ℤ (b +ℤ c)) ≤ (k + 1) * 2 ^ 62
sum_within k a b c h l = omega (arith, ints)

wide_within : (k : ℕ) (a c : ℤ) → unsigned_abs a ≤ k * 2 ^ 62 → unsigned_abs c ≤ 2 ^ 62 → unsigned_abs (a +ℤ c) ≤ (k + 1) * 2 ^ 62
wide_within k a c h l = omega (arith, ints)

wide_sum_within : (k : ℕ) (a b c : ℤ) → unsigned_abs (a +ℤ b) ≤ k * 2 ^ 62 → unsigned_abs c ≤ 2 ^ 62 → unsigned_abs ((a +ℤ c) +ℤ b) ≤ (k + 1) * 2 ^ 62
wide_sum_within k a b c h l = omega (arith, ints)

more_than : (k b a : ℕ) → a ≤ k * b → a ≤ (k + 1) * b
more_than k b a h = wider k (k + 1) b a (omega arith) h

-- what was little
pub little_more : (k : ℕ) (s : Sums) (first second : Vec2) → AreSumsOf k s → IsWithin (2 ^ 36) first → IsWithin (2 ^ 36) second
    → AreSumsOf (k + 1) (record { little = record { first = plus s.little.first first; second = plus s.little.second second }; more = s.more })
little_more k s first second w f g = record {
  little_first = record { x = added_within k s.little.first.x first.x w.little_first.x f.x; y = added_within k s.little.first.y first.y w.little_first.y f.y };
  little_second = record { x = added_within k s.little.second.x second.x w.little_second.x g.x; y = added_within k s.little.second.y second.y w.little_second.y g.y };
  more_first = record { x = more_than k (2 ^ 62) (unsigned_abs s.more.first.x) w.more_first.x; y = more_than k (2 ^ 62) (unsigned_abs s.more.first.y) w.more_first.y };
  more_second = record { x = more_than k (2 ^ 62) (unsigned_abs s.more.second.x) w.more_second.x; y = more_than k (2 ^ 62) (unsigned_abs s.more.second.y) w.more_second.y };
  first = record { x = sum_within k s.more.first.x s.little.first.x first.x w.first.x f.x; y = sum_within k s.more.first.y s.little.first.y first.y w.first.y f.y };
  second = record { x = sum_within k s.more.second.x s.little.second.x second.x w.second.x g.x; y = sum_within k s.more.second.y s.little.second.y second.y w.second.y g.y };
}

-- what was more
pub wide_more : (k : ℕ) (s : Sums) (first second a b : Gain) → AreSumsOf k s → IsGain (2 ^ 62) first → IsGain (2 ^ 62) second
    → a.x ≡ s.more.first.x +ℤ first.x → a.y ≡ s.more.first.y +ℤ first.y → b.x ≡ s.more.second.x +ℤ second.x → b.y ≡ s.more.second.y +ℤ second.y
    → AreSumsOf (k + 1) (record { little = s.little; more = record { first = a; second = b } })
wide_more k s first second a b w f g ax ay bx by_ = record {
  little_first = record { x = more_than k (2 ^ 36) (unsigned_abs s.little.first.x) w.little_first.x; y = more_than k (2 ^ 36) (unsigned_abs s.little.first.y) w.little_first.y };
  little_second = record { x = more_than k (2 ^ 36) (unsigned_abs s.little.second.x) w.little_second.x; y = more_than k (2 ^ 36) (unsigned_abs s.little.second.y) w.little_second.y };
  more_first = record { x = rw ax (wide_within k s.more.first.x first.x w.more_first.x f.x); y = rw ay (wide_within k s.more.first.y first.y w.more_first.y f.y) };
  more_second = record { x = rw bx (wide_within k s.more.second.x second.x w.more_second.x g.x); y = rw by_ (wide_within k s.more.second.y second.y w.more_second.y g.y) };
  first = record { x = rw ax (wide_sum_within k s.more.first.x s.little.first.x first.x w.first.x f.x); y = rw ay (wide_sum_within k s.more.first.y s.little.first.y first.y w.first.y f.y) };
  second = record { x = rw bx (wide_sum_within k s.more.second.x s.little.second.x second.x w.second.x g.x); y = rw by_ (wide_sum_within k s.more.second.y s.little.second.y second.y w.second.y g.y) };
}

-- ---- a sum and one more

pub sum_more : (a b c : Vec2) → plus (plus a c) b ≡ plus (plus a b) c
sum_more a b c = same_vector _ _ (omega (arith, ints)) (omega (arith, ints))

-- ---- for what there is room

pub little_room : (v : Vec2) → IsWithin (65536 * 2 ^ 36) v → IsWithin (2 ^ 61) v
little_room v h = record { x = omega (arith, h.x); y = omega (arith, h.y) }

pub wide_room : (g : Gain) → IsGain (65536 * 2 ^ 62) g → IsGain (2 ^ 100) g
wide_room g h = record { x = omega (arith, h.x); y = omega (arith, h.y) }

pub gain_room : (g : Gain) → IsGain (2 ^ 62) g → IsGain (2 ^ 100) g
gain_room g h = record { x = omega (arith, h.x); y = omega (arith, h.y) }

pub near_room : (v : Vec2) → IsWithin (2 ^ 36) v → IsWithin (2 ^ 61) v
near_room v h = record { x = omega (arith, h.x); y = omega (arith, h.y) }

-- ---- no momentum added

pub no_change : (p : Vec2) → IsWithin (2 ^ 36) (minus p p)
no_change p = record { x = omega (arith, ints); y = omega (arith, ints) }
