-- Lists of frames with one frame more.
use Rattle.std.proofs.Common.{◌≡◌, ℕ, zero, suc, ◌+◌, ◌-◌, ◌≤◌, List, [], ◌∷◌, ◌++◌, length, refl, ap, arith, length-append, slice_get, Some}
use Rattle.world_core.specs.Frames.{View}
use Rattle.frame_mirror.specs.Lists.{AreInOrder, EndsWith}

found_last : {A : Type 0} (xs : List A) (x : A) (n : ℕ) → length xs ≡ n → slice_get (xs ++ x ∷ []) n ≡ Some x
found_last [] x zero long = refl
found_last [] x (suc n) long = absurd (omega arith)
found_last (y ∷ xs) x zero long = absurd (omega arith)
found_last (y ∷ xs) x (suc n) long = found_last xs x n (omega arith)

-- it is one longer, and ends with that frame
pub grown : (xs ys : List View) (f : View) (n : ℕ) → ys ≡ xs ++ f ∷ [] → length xs ≡ n → (length ys ≡ n + 1) × EndsWith ys f
grown xs ys f n is long =
    let longer : length ys ≡ n + 1 = omega (arith, ap length is, length-append xs (f ∷ [])) in
    let last : length ys - 1 ≡ n = omega arith in
    (longer, rw (last, is) (found_last xs f n long))

same_frame : (f g : View) → Some f ≡ Some g → f ≡ g
same_frame f g e = cc e

-- it is in order, if the frame's call number isn't lower than that of the last one
pub order_grown : (xs : List View) (last f : View) → AreInOrder xs → EndsWith xs last → last.calls ≤ f.calls → AreInOrder (xs ++ f ∷ [])
order_grown [] last f order ends le = tt
order_grown (g ∷ []) last f order ends le =
    let at : slice_get (g ∷ []) 0 ≡ Some last = ends in
    (rw (same_frame g last at) le, tt)
order_grown (g ∷ h ∷ xs) last f order ends le =
    let here : length (g ∷ h ∷ xs) - 1 ≡ suc (length xs) = omega arith in
    let there : length (h ∷ xs) - 1 ≡ length xs = omega arith in
    let at : slice_get (g ∷ h ∷ xs) (suc (length xs)) ≡ Some last = rw (← here) ends in
    (order.0, order_grown (h ∷ xs) last f order.1 (rw there at) le)
