-- Inner forms of the code; no public contract rests on them. A sweep along x, strip by strip, over a list of shapes.
use Rattle.std.specs.Prelude.{ℕ, zero, suc, ◌+◌, ◌-◌, ◌*◌, ◌/◌, ◌%◌, ◌^◌, ◌<◌, ◌==◌, Bool, false, cond, nat_lt, ℤ, pos, ◌+ℤ◌, ◌-ℤ◌, neg_ℤ, int_lt, unsigned_abs, List, [], ◌∷◌, ◌++◌, length, map, slice_index_or, Option, Some, None}
use Rattle.std.specs.Int.{int_min, int_max}
use Rattle.std.specs.Option.{option_to_list}
use Rattle.fixed_geom.specs.declared.boxes.Box2.{Box2}
use Rattle.contacts_base.specs.declared.near.Proxy.{Proxy}
use Rattle.contacts_base.specs.Near.{is_near}
use Rattle.contacts_base.specs.NearCodes.{pair_code}
use Rattle.contacts.specs.declared.strips.TheConstants.{HALF, PLACES, SPOTS, STEP}
use Rattle.contacts.specs.Pairs.{no_box, proxy_at}

-- the fat boxes of the shapes
abbrev pub boxes_of : List Proxy → List Box2
boxes_of ps = map (λ (p : Proxy). p.fat) ps

-- the code of the pair of the shapes at two places, if they are near
unfoldable pub pair_at : List Proxy → ℕ → ℕ → Option ℕ
pair_at ps i j = cond (is_near (proxy_at ps i) (proxy_at ps j)) (Some (pair_code i j)) None

-- the same of two places in either order
unfoldable pub near_pair : List Proxy → ℕ → ℕ → Option ℕ
near_pair ps i j = cond (nat_lt i j) (pair_at ps i j) (pair_at ps j i)

-- ---- the plane in strips along x

-- a coordinate as a number below twice `HALF`; beyond `HALF` in size it is as if it were there
unfoldable pub column : ℤ → ℕ
column x = unsigned_abs (int_min (int_max x (neg_ℤ HALF)) (HALF -ℤ pos 1) +ℤ HALF)

-- the strip of a height, where a strip is 2^bits high
abbrev pub strip_of : ℕ → ℤ → ℕ
strip_of bits y = column y / 2 ^ bits

-- ---- starts: a shape in a strip as one number, of which the strip decides first, then where the box
-- begins along x, in steps, and last the shape's place

-- the least number in a strip from x on
abbrev pub spot : ℕ → ℤ → ℕ
spot strip x = strip * SPOTS + column x / STEP * PLACES

-- the box b, at place i, in a strip
abbrev pub start_in : ℕ → Box2 → ℕ → ℕ
start_in i b strip = spot strip b.lo.x + i

abbrev pub strip_at : ℕ → ℕ
strip_at s = s / SPOTS

abbrev pub place_at : ℕ → ℕ
place_at s = s % PLACES

-- how many further strips the box reaches up to
abbrev pub reach : ℕ → Box2 → ℕ
reach bits b = strip_of bits b.hi.y - strip_of bits b.lo.y

-- the box in the strip where it begins
abbrev pub first_start : ℕ → ℕ → Box2 → ℕ
first_start bits i b = start_in i b (strip_of bits b.lo.y)

-- the box in n further strips
abbrev pub starts_up : ℕ → ℕ → Box2 → ℕ → List ℕ
starts_up bits i b zero = []
starts_up bits i b (suc n) = starts_up bits i b n ++ start_in i b (strip_of bits b.lo.y + suc n) ∷ []

-- each box in the strip where it begins, the first box at place i
abbrev pub firsts_from : ℕ → ℕ → List Box2 → List ℕ
firsts_from bits i [] = []
firsts_from bits i (b ∷ bs) = first_start bits i b ∷ firsts_from bits (suc i) bs

-- each box in each further strip that it reaches
abbrev pub furthers_from : ℕ → ℕ → List Box2 → List ℕ
furthers_from bits i [] = []
furthers_from bits i (b ∷ bs) = starts_up bits i b (reach bits b) ++ furthers_from bits (suc i) bs

-- each box in each strip that it reaches
abbrev pub starts_of : ℕ → List Box2 → List ℕ
starts_of bits bs = firsts_from bits 0 bs ++ furthers_from bits 0 bs

-- ---- the sweep

abbrev pub IsPlaceIn : List Proxy → ℕ → Type 0
IsPlaceIn ps s = place_at s < length ps

abbrev pub box_at : List Box2 → ℕ → Box2
box_at bs s = slice_index_or bs (place_at s) no_box

-- the greatest number in the strip of a start that is no further right than its box ends
abbrev pub end_of : List Box2 → ℕ → ℕ
end_of bs s = spot (strip_at s) (box_at bs s).hi.x + (PLACES - 1)

-- two boxes overlap along y, and this is the lowest strip that both reach
unfoldable pub may_meet : ℕ → ℕ → Box2 → Box2 → Bool
may_meet bits strip b c = cond (int_lt b.hi.y c.lo.y) false (cond (int_lt c.hi.y b.lo.y) false (strip_of bits (int_max b.lo.y c.lo.y) == strip))

-- the pair of the shapes of two starts, if they are near, in the lowest strip that both are in
unfoldable pub pair_of : ℕ → List Proxy → ℕ → ℕ → Option ℕ
pair_of bits ps s t = cond (may_meet bits (strip_at s) (box_at (boxes_of ps) s) (box_at (boxes_of ps) t)) (near_pair ps (place_at s) (place_at t)) None

-- the pairs of the start s with the others, until one begins further than s ends
abbrev pub met : ℕ → List Proxy → ℕ → List ℕ → List ℕ
met bits ps s [] = []
met bits ps s (t ∷ ts) = cond (nat_lt (end_of (boxes_of ps) s) t) [] (option_to_list (pair_of bits ps s t) ++ met bits ps s ts)

-- the start is of a dynamic body's shape
abbrev pub is_dynamic_at : List Proxy → ℕ → Bool
is_dynamic_at ps s = (proxy_at ps (place_at s)).dynamic

-- the starts of dynamic bodies' shapes
abbrev pub dynamics_of : List Proxy → List ℕ → List ℕ
dynamics_of ps [] = []
dynamics_of ps (s ∷ ss) = cond (is_dynamic_at ps s) (s ∷ dynamics_of ps ss) (dynamics_of ps ss)

-- the pairs that each start makes with the later ones, of which one is of a dynamic body's shape
abbrev pub swept : ℕ → List Proxy → List ℕ → List ℕ
swept bits ps [] = []
swept bits ps (s ∷ ss) = met bits ps s (cond (is_dynamic_at ps s) ss (dynamics_of ps ss)) ++ swept bits ps ss
