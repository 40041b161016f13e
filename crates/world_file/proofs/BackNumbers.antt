-- Values that are written of numbers, vectors, truths and texts are read again as these, and nothing that is asked of
-- them is broken.
use Rattle.std.proofs.Common.{◌≡◌, ℕ, zero, suc, ◌+◌, ◌-◌, ◌*◌, ◌/◌, ◌%◌, ◌^◌, ◌<◌, ◌≤◌, ◌==◌, ◌&&◌, ◌++◌, ◌⊎◌, Bool, true, false, not, cond, nat_le, nat_lt, List, [], ◌∷◌, length, drop, slice_index, Option, Some, None, is_some, option_and_then, unwrap_or, bytes_eq, ℤ, pos, negsuc, neg_ℤ, ◌≤ℤ◌, unsigned_abs, int_le, inl, inr, refl, ap, ◌∙◌, arith, le-leb, lt-ltb, length-append}
use Rattle.std.specs.Fmt.{decimal, signed_decimal}
use Rattle.std.specs.List.{list_all}
use Rattle.std.specs.Str.Parse.{digits_value, signed_digits_value, starts_with_minus, without_leading_plus}
use Rattle.std.proofs.lemmas.Bool.{false≢true}
use Rattle.std.proofs.lemmas.Bool.Decides.{nat_tests}
use Rattle.std.proofs.lemmas.Fmt.{decimal_by_steps_wide, decimal_is_IsNumeral_wide}
use Rattle.std.proofs.lemmas.Int.{ints}
use Rattle.std.proofs.lemmas.List.Folds.{list_all-append}
use Rattle.serde_json.specs.Data.{Data}
use Rattle.body_handles.specs.declared.handle.Handle.{Handle}
use Rattle.fixed_geom.specs.Boxes.{IsBoxWithin}
use Rattle.fixed_geom.specs.Facings.{IsFacing, is_facing}
use Rattle.fixed_geom.specs.Vectors.{IsWithin, is_within, zero_vector}
use Rattle.fixed_geom.specs.declared.boxes.Box2.{Box2}
use Rattle.fixed_geom.specs.declared.facings.Rot.{Rot}
use Rattle.fixed_geom.specs.declared.vectors.Vec2.{Vec2}
use Rattle.fixed_geom.proofs.FacingLemmas.{is_facing-square}
use Rattle.body_handles.specs.IdTexts.{id_text}
use Rattle.world_file_base.specs.Asks.{Ask, asked}
use Rattle.world_file_base.specs.Reading.{corners_in, greatest, island_in, least, natural_of, number_in, signed_in, unsigned_in, vector_in, vector_within, whole_in, whole_of}
use Rattle.world_file_base.specs.AskedValues.{ends_asks, island_asks, number_asks, signed_asks, unsigned_asks, vector_asks, vector_within_asks, whole_asks, decimal_asks, handle_asks}
use Rattle.shapes.specs.Shapes.{is_between}
use Rattle.world_file_base.specs.Texts.{decimal_in, handle_in, handle_of_text, is_decimal, is_digit, is_natural, number_of_text, sized}
use Rattle.world_file_base.specs.Written.{corners_of, decimal_of, id_of, integer, natural, vector_of}
use Rattle.world_file_base.specs.declared.clause.Clause.{Clause}
use Rattle.world_file_base.specs.declared.clause.Clause.TheVariants.{Form, Limits}
use Rattle.world_file_base.specs.declared.reader.Reader.{Reader}
use Rattle.world_file_base.proofs.Ids.{written_is_read}
use Rattle.world_file.proofs.AgainParts.{both_hold}

-- a value is read as x, and nothing is broken
pub record IsBack {X : Type 0} (read : Option Data → X) (ask : Option Data → Ask) (d : Data) (x : X) : Type 0 where
  pub value : read (Some d) ≡ x
  pub asks : (r : Reader) → ask (Some d) r ≡ r

pub asked_true : (b : Bool) (c : Clause) (r : Reader) → b ≡ true → asked b c r ≡ r
asked_true true c r e = refl
asked_true false c r e = cc

pub cond_true : {X : Type 0} (t : Bool) (x y : X) → t ≡ true → cond t x y ≡ x
cond_true true x y e = refl
cond_true false x y e = absurd (false≢true e)

-- ---- whole numbers

whole_back : (z : ℤ) → whole_of (Some (integer z)) ≡ Some z
whole_back (pos n) = refl
whole_back (negsuc n) = refl

whole_is : (z : ℤ) → whole_in (Some (integer z)) ≡ z
whole_is (pos n) = refl
whole_is (negsuc n) = refl

whole_asked : (z : ℤ) (r : Reader) → whole_asks (Some (integer z)) r ≡ r
whole_asked (pos n) r = refl
whole_asked (negsuc n) r = refl

pub between_true : (low high z : ℤ) → low ≤ℤ z → z ≤ℤ high → is_between low high z ≡ true
between_true low high z h k = both_hold (int_le low z) (int_le z high) (int_true low z h) (int_true z high k)
  where
    int_true : (a b : ℤ) → a ≤ℤ b → int_le a b ≡ true
    int_true a b h = grind (arith, ints)

pub signed_back : (low high z : ℤ) → is_between low high z ≡ true → IsBack (signed_in low high) (signed_asks low high) (integer z) z
signed_back low high z h = record {
  value = ap (λ (v : ℤ). cond (is_between low high v) v low) (whole_is z) ∙ cond_true (is_between low high z) z low h;
  asks = λ r. asked_true (is_between low high (whole_in (Some (integer z)))) Limits (whole_asks (Some (integer z)) r) (ap (λ (v : ℤ). is_between low high v) (whole_is z) ∙ h) ∙ whole_asked z r;
}

-- 64 bits hold it with a sign, and its size too
abbrev pub IsHeld : ℤ → Type 0
IsHeld z = unsigned_abs z < 2 ^ 63

pub number_back : (z : ℤ) → IsHeld z → IsBack number_in number_asks (integer z) z
number_back z h = signed_back least greatest z (between_true least greatest z (omega (arith, ints, h)) (omega (arith, ints, h)))

pub unsigned_back : (high n : ℕ) → n ≤ high → IsBack (unsigned_in high) (unsigned_asks high) (natural n) n
unsigned_back high n h = record {
  value = ap (λ (t : Bool). unwrap_or (cond t (Some n) None) 0) (le-leb n high h);
  asks = λ r. asked_true (is_some (natural_of high (pos n))) Limits r (ap (λ (t : Bool). is_some (cond t (Some n) None)) (le-leb n high h));
}

pub island_back : (n : ℕ) → n ≤ 2 ^ 32 - 1 → IsBack island_in island_asks (natural n) (Some n)
island_back n h = let o = unsigned_back (2 ^ 32 - 1) n h in record { value = ap (λ (k : ℕ). Some k) o.value; asks = o.asks }

-- ---- vectors

vector_is : (v w : Vec2) → v.x ≡ w.x → v.y ≡ w.y → v ≡ w
vector_is v w e f = λ i. record { x = e i; y = f i }

abbrev pub AreHeld : Vec2 → Type 0
AreHeld v = IsHeld v.x × IsHeld v.y

pub vector_back : (v : Vec2) → AreHeld v → IsBack vector_in vector_asks (vector_of v) v
vector_back v h =
    let x = number_back v.x h.0 in
    let y = number_back v.y h.1 in
    record {
      value = vector_is (vector_in (Some (vector_of v))) v x.value y.value;
      asks = λ r. y.asks (number_asks (Some (integer v.x)) r) ∙ x.asks r;
    }

pub within_held : (n : ℕ) (v : Vec2) → n ≤ 2 ^ 62 → IsWithin n v → AreHeld v
within_held n v le h = let x = h.x in let y = h.y in (omega (arith, le, x), omega (arith, le, y))

within_true : (n : ℕ) (v : Vec2) → IsWithin n v → is_within n v ≡ true
within_true n v h = both_hold (nat_le (unsigned_abs v.x) n) (nat_le (unsigned_abs v.y) n) (le-leb (unsigned_abs v.x) n h.x) (le-leb (unsigned_abs v.y) n h.y)

pub within_back : (most : ℕ) (v : Vec2) → most ≤ 2 ^ 62 → IsWithin most v → IsBack (vector_within most) (vector_within_asks most) (vector_of v) v
within_back most v le h =
    let o = vector_back v (within_held most v le h) in
    record {
      value = ap (λ (u : Vec2). cond (is_within most u) u zero_vector) o.value ∙ cond_true (is_within most v) v zero_vector (within_true most v h);
      asks = λ r. asked_true (is_within most (vector_in (Some (vector_of v)))) Limits (vector_asks (Some (vector_of v)) r) (ap (λ (u : Vec2). is_within most u) o.value ∙ within_true most v h) ∙ o.asks r;
    }

box_is : (b c : Box2) → b.lo ≡ c.lo → b.hi ≡ c.hi → b ≡ c
box_is b c e f = λ i. record { lo = e i; hi = f i }

pub corners_back : (most : ℕ) (b : Box2) → most ≤ 2 ^ 62 → IsBoxWithin most b → IsBack (corners_in most) (ends_asks most) (corners_of b) b
corners_back most b le h =
    let lo = within_back most b.lo le h.lo in
    let hi = within_back most b.hi le h.hi in
    record {
      value = box_is (corners_in most (Some (corners_of b))) b lo.value hi.value;
      asks = λ r. hi.asks (vector_within_asks most (Some (vector_of b.lo)) r) ∙ lo.asks r;
    }

facing_by : (c s : ℕ) → (2 ^ 30 - 2) * (2 ^ 30 - 2) ≤ c * c + s * s → c * c + s * s < (2 ^ 30 + 3) * (2 ^ 30 + 3) → (nat_le ((2 ^ 30 - 2) * (2 ^ 30 - 2)) (c * c + s * s) && nat_lt (c * c + s * s) ((2 ^ 30 + 3) * (2 ^ 30 + 3))) ≡ true
facing_by c s long short = both_hold (nat_le ((2 ^ 30 - 2) * (2 ^ 30 - 2)) (c * c + s * s)) (nat_lt (c * c + s * s) ((2 ^ 30 + 3) * (2 ^ 30 + 3))) (le-leb ((2 ^ 30 - 2) * (2 ^ 30 - 2)) (c * c + s * s) long) (lt-ltb (c * c + s * s) ((2 ^ 30 + 3) * (2 ^ 30 + 3)) short)

pub facing_true : (q : Rot) → IsFacing q → is_facing q ≡ true
facing_true q h = is_facing-square q ∙ facing_by (unsigned_abs q.c) (unsigned_abs q.s) h.long h.short

-- ---- ids

pub handle_back : (h : Handle) → h.slot < 2 ^ 32 → h.generation < 2 ^ 32 → IsBack handle_in handle_asks (id_of h) h
handle_back h slot generation =
    let o = written_is_read (id_text h) h slot generation refl in
    record {
      value = ap (λ (v : Option Handle). unwrap_or v (record { slot = 0; generation = 0 })) o;
      asks = λ r. asked_true (is_some (handle_of_text (id_text h))) Form r (ap (λ (v : Option Handle). is_some v) o);
    }

-- ---- numbers as texts

-- the digits of a number: the first is no zero before others
record IsDigits (n : ℕ) (ds : List ℕ) : Type 0 where
  digits : list_all is_digit ds ≡ true
  some : 0 < length ds
  first : 0 < n → 48 < slice_index ds 0
  low : 48 ≤ slice_index ds 0
  one : n < 10 → length ds ≡ 1

digit_is : (n : ℕ) → n < 10 → is_digit (48 + n) ≡ true
digit_is n h = both_hold (nat_le 48 (48 + n)) (nat_le (48 + n) 57) (le-leb 48 (48 + n) (omega arith)) (le-leb (48 + n) 57 (omega (arith, h)))

one_digit : (n : ℕ) → n < 10 → IsDigits n ((48 + n) ∷ [])
one_digit n h = record { digits = both_hold (is_digit (48 + n)) true (digit_is n h) refl; some = omega arith; first = λ lt. omega (arith, lt); low = omega arith; one = λ lt. refl }

same_first : (ds es : List ℕ) → 0 < length ds → slice_index (ds ++ es) 0 ≡ slice_index ds 0
same_first [] es h = absurd (omega arith)
same_first (d ∷ ds) es h = refl

more_digits : (n : ℕ) (ds : List ℕ) → 10 ≤ n → IsDigits (n / 10) ds → IsDigits n (ds ++ ((48 + n % 10) ∷ []))
more_digits n ds h is =
    let few : n % 10 < 10 = omega arith in
    let some : 1 ≤ n / 10 = omega (arith, h) in
    let same = same_first ds ((48 + n % 10) ∷ []) is.some in
    let high : 48 < slice_index ds 0 = is.first some in
    let long : length (ds ++ ((48 + n % 10) ∷ [])) ≡ length ds + 1 = length-append ds ((48 + n % 10) ∷ []) in
    record {
      digits = list_all-append is_digit ds ((48 + n % 10) ∷ []) ∙ both_hold (list_all is_digit ds) (list_all is_digit ((48 + n % 10) ∷ [])) is.digits (both_hold (is_digit (48 + n % 10)) true (digit_is (n % 10) few) refl);
      some = omega (arith, long);
      first = λ lt. omega (arith, same, high);
      low = omega (arith, same, high);
      one = λ lt. absurd (omega (arith, h, lt));
    }

digits_are : (n : ℕ) → n < 10 ^ 64 → IsDigits n (decimal n)
digits_are n h = decimal_by_steps_wide IsDigits one_digit more_digits n h

no_zero : (n : ℕ) (ds : List ℕ) → IsDigits n ds → n < 10 ⊎ (0 < n) → not (slice_index ds 0 == 48 && nat_lt 1 (length ds)) ≡ true
no_zero n ds is (inl few) = let one = is.one few in zero_alone (slice_index ds 0 == 48) (length ds) one
  where
    zero_alone : (b : Bool) (k : ℕ) → k ≡ 1 → not (b && nat_lt 1 k) ≡ true
    zero_alone true k e = grind (arith, nat_tests)
    zero_alone false k e = refl
no_zero n ds is (inr some) =
    let high : 48 < slice_index ds 0 = is.first some in
    let other : (slice_index ds 0 == 48) ≡ false = grind (arith, nat_tests) in
    ap (λ (b : Bool). not (b && nat_lt 1 (length ds))) other

natural_true : (n : ℕ) (ds : List ℕ) → IsDigits n ds → is_natural ds ≡ true
natural_true n ds is =
    both_hold (nat_lt 0 (length ds)) _ (lt-ltb 0 (length ds) is.some)
    (both_hold (list_all is_digit ds) (not (slice_index ds 0 == 48 && nat_lt 1 (length ds))) is.digits (no_zero n ds is (few_or n)))
  where
    few_or : (k : ℕ) → (k < 10) ⊎ (0 < k)
    few_or zero = inl (omega arith)
    few_or (suc k) = inr (omega arith)

no_minus : (n : ℕ) (ds : List ℕ) → IsDigits n ds → starts_with_minus ds ≡ false
no_minus n ds is = let low = is.low in grind (arith, nat_tests)

no_plus : (n : ℕ) (ds : List ℕ) → IsDigits n ds → without_leading_plus ds ≡ ds
no_plus n ds is =
    let low = is.low in
    let other : (slice_index ds 0 == 43) ≡ false = grind (arith, nat_tests) in
    ap (λ (b : Bool). drop (cond b 1 0) ds) other

value_back : (n : ℕ) → n < 10 ^ 64 → digits_value 10 (decimal n) ≡ n
value_back n h = (decimal_is_IsNumeral_wide n h).1

-- a text without a minus
plain_text : (ds : List ℕ) (n : ℕ) (minus : Bool) → starts_with_minus ds ≡ minus → minus ≡ false → IsDigits n ds → (is_decimal ds ≡ true) × (signed_digits_value 10 ds ≡ pos (digits_value 10 ds))
plain_text ds n minus e f is =
    let none : starts_with_minus ds ≡ false = e ∙ f in (
      ap (λ (b : Bool). is_natural (cond b (drop 1 ds) ds) && not (b && bytes_eq (cond b (drop 1 ds) ds) (48 ∷ []))) none ∙ both_hold (is_natural ds) true (natural_true n ds is) refl,
      ap (λ (b : Bool). cond b (neg_ℤ (pos (digits_value 10 (cond b (drop 1 ds) (without_leading_plus ds))))) (pos (digits_value 10 (cond b (drop 1 ds) (without_leading_plus ds))))) none ∙ ap (λ (l : List ℕ). pos (digits_value 10 l)) (no_plus n ds is),
    )

first_apart : (a : ℕ) (ds : List ℕ) → 48 < a → bytes_eq (a ∷ ds) (48 ∷ []) ≡ false
first_apart a ds h = let other : (a == 48) ≡ false = grind (arith, nat_tests) in ap (λ (b : Bool). b && bytes_eq ds []) other

not_zero : (ds : List ℕ) → 48 < slice_index ds 0 → bytes_eq ds (48 ∷ []) ≡ false
not_zero [] h = absurd (omega arith)
not_zero (a ∷ ds) h = first_apart a ds h

minus_text : (ds : List ℕ) (n : ℕ) → 0 < n → IsDigits n ds → is_decimal (45 ∷ ds) ≡ true
minus_text ds n some is = both_hold (is_natural ds) (not (bytes_eq ds (48 ∷ []))) (natural_true n ds is) (ap (λ (b : Bool). not b) (not_zero ds (is.first some)))

decimal_text : (z : ℤ) → unsigned_abs z < 10 ^ 64 → (is_decimal (signed_decimal z) ≡ true) × (signed_digits_value 10 (signed_decimal z) ≡ z)
decimal_text (pos n) h =
    let is = digits_are n h in
    let o = plain_text (decimal n) n (starts_with_minus (decimal n)) refl (no_minus n (decimal n) is) is in
    (o.0, o.1 ∙ ap (λ (k : ℕ). pos k) (value_back n h))
decimal_text (negsuc n) h = (minus_text (decimal (suc n)) (suc n) (omega arith) (digits_are (suc n) h), ap (λ (k : ℕ). neg_ℤ (pos k)) (value_back (suc n) h))

number_text : (z : ℤ) → unsigned_abs z < 10 ^ 64 → number_of_text (signed_decimal z) ≡ Some z
unfolding number_of_text
number_text z h =
    let o = decimal_text z h in
    cond_true (is_decimal (signed_decimal z)) (Some (signed_digits_value 10 (signed_decimal z))) None o.0 ∙ ap (λ (v : ℤ). Some v) o.1

sized_true : (most : ℕ) (z : ℤ) → unsigned_abs z ≤ most → sized most z ≡ Some z
sized_true most z h = cond_true (nat_le (unsigned_abs z) most) (Some z) None (le-leb (unsigned_abs z) most h)

pub decimal_back : (most : ℕ) (z : ℤ) → most < 10 ^ 64 → unsigned_abs z ≤ most → IsBack (decimal_in most) (decimal_asks most) (decimal_of z) z
decimal_back most z few h =
    let text = number_text z (omega (arith, few, h)) in
    let all : option_and_then (sized most) (number_of_text (signed_decimal z)) ≡ Some z = ap (λ (o : Option ℤ). option_and_then (sized most) o) text ∙ sized_true most z h in
    record {
      value = ap (λ (o : Option ℤ). unwrap_or o (pos 0)) all;
      asks = λ r.
          asked_true (is_some (option_and_then (sized most) (number_of_text (signed_decimal z)))) Limits (asked (is_some (number_of_text (signed_decimal z))) Form r) (ap (λ (o : Option ℤ). is_some o) all)
          ∙ asked_true (is_some (number_of_text (signed_decimal z))) Form r (ap (λ (o : Option ℤ). is_some o) text);
    }
