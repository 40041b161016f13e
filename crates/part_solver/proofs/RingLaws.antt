-- Rings that are made one after another: those of each part so far.
use Rattle.std.proofs.Common.{◌≡◌, ℕ, zero, suc, ◌+◌, ◌<◌, ◌≤◌, List, [], ◌∷◌, ◌++◌, get_or, length, set, inl, inr, arith, rules, refl, subst, sym, ap, ◌∙◌}
use Rattle.std.proofs.lemmas.Bool.{cases_lt}
use Rattle.std.proofs.lemmas.List.{get_or_append_left, get_or-set_other, get_or-set_same, length-append, length-set}
use Rattle.part_runs.specs.Runs.{Step}
use Rattle.part_solver.specs.declared.mail.Item.{Item}
use Rattle.part_solver.specs.Mail.{IsPosted, Posts}
use Rattle.part_solver.specs.Parts.{AreAllRings, AreIns, AreMade, AreOuts, AreRings, IsJoined, IsMade, no_posts, posts_at}

-- ---- one ring more

at_end : {X : Type 0} (xs : List X) (x d : X) → get_or (xs ++ x ∷ []) (length xs) d ≡ x
at_end [] x d = refl
at_end (y ∷ xs) x d = at_end xs x d

-- what holds of each of the first n holds of one more
each_more : {X : Type 0} (P : ℕ → X → Type 0) (n : ℕ) (xs : List X) (x d : X) → length xs ≡ n → ((k : ℕ) → k < n → P k (get_or xs k d)) → P n x → (k : ℕ) → k < n + 1 → P k (get_or (xs ++ x ∷ []) k d)
each_more P n xs x d many known here k lt = elim (cases_lt k n) [
  | inl low ↦ subst (P k) (sym (get_or_append_left xs (x ∷ []) d k (let in_list : k < length xs = omega (arith, low, many) in in_list))) (known k low)
  | inr high ↦
      let last : k ≡ n = omega (arith, high, lt) in
      subst (λ (m : ℕ). P m (get_or (xs ++ x ∷ []) m d)) (sym last) (subst (P n) (sym (ap (λ (m : ℕ). get_or (xs ++ x ∷ []) m d) (sym many) ∙ at_end xs x d)) here)
]

pub outs_more : (t : Step) (u n : ℕ) (outs : List (List Item)) (s : List Item) → AreOuts t u n outs → IsPosted t u n [] s → AreOuts t u (n + 1) (outs ++ s ∷ [])
outs_more t u n outs s are here = record {
  count = length-append outs (s ∷ []) ∙ ap (λ (m : ℕ). m + 1) are.count;
  each = each_more (λ (v : ℕ) (l : List Item). IsPosted t u v [] l) n outs s [] are.count are.each here;
}

pub ins_more : (t : Step) (v n : ℕ) (ins : List (List Item)) (r : List Item) → AreIns t v n ins → IsPosted t n v [] r → AreIns t v (n + 1) (ins ++ r ∷ [])
ins_more t v n ins r are here = record {
  count = length-append ins (r ∷ []) ∙ ap (λ (m : ℕ). m + 1) are.count;
  each = each_more (λ (u : ℕ) (l : List Item). IsPosted t u v [] l) n ins r [] are.count are.each here;
}

-- ---- one ring of all

-- what is there hangs on no default
pub at_any : {X : Type 0} (xs : List X) (i : ℕ) (x d : X) → i < length xs → get_or xs i x ≡ get_or xs i d
at_any [] i x d lt = absurd (omega (arith, lt))
at_any (y ∷ xs) zero x d lt = refl
at_any (y ∷ xs) (suc i) x d lt = at_any xs i x d (omega (arith, lt))

-- a list of which one item has the same f has the same f everywhere
same_at : {X Y : Type 0} (f : X → Y) (xs : List X) (i k : ℕ) (x d : X) → f x ≡ f (get_or xs i d) → f (get_or (set xs i x) k d) ≡ f (get_or xs k d)
same_at f [] i k x d h = refl
same_at f (y ∷ xs) zero zero x d h = h
same_at f (y ∷ xs) zero (suc k) x d h = refl
same_at f (y ∷ xs) (suc i) zero x d h = refl
same_at f (y ∷ xs) (suc i) (suc k) x d h = same_at f xs i k x d h

-- p is the part u with one ring more, and q then the part v
pub joined : (t : Step) (u v : ℕ) (old : List Posts) (p q : Posts) (s r : List Item) → u < length old → v < length old →
    p.outs ≡ (posts_at old u).outs ++ s ∷ [] → p.ins ≡ (posts_at old u).ins → q.outs ≡ (posts_at (set old u p) v).outs → q.ins ≡ (posts_at (set old u p) v).ins ++ r ∷ [] →
    IsPosted t u v [] s → IsPosted t u v [] r → IsJoined t u v old (set (set old u p) v q)
joined t u v old p q s r from to p_outs p_ins q_outs q_ins sent received =
    let mid : List Posts = set old u p in
    let new : List Posts = set mid v q in
    let there : v < length mid = subst (λ (n : ℕ). v < n) (sym (length-set old u p)) to in
    let outs_same : (k : ℕ) → (posts_at new k).outs ≡ (posts_at mid k).outs = λ k. same_at (λ (x : Posts). x.outs) mid v k q no_posts q_outs in
    let ins_same : (k : ℕ) → (posts_at mid k).ins ≡ (posts_at old k).ins = λ k. same_at (λ (x : Posts). x.ins) old u k p no_posts p_ins in
    let out_is : (posts_at new u).outs ≡ (posts_at old u).outs ++ s ∷ [] = outs_same u ∙ ap (λ (x : Posts). x.outs) (get_or-set_same old u p no_posts from) ∙ p_outs in
    let in_is : (posts_at new v).ins ≡ (posts_at old v).ins ++ r ∷ [] = ap (λ (x : Posts). x.ins) (get_or-set_same mid v q no_posts there) ∙ q_ins ∙ ap (λ (l : List (List Item)). l ++ r ∷ []) (ins_same v) in
    record {
      out = λ are. subst (AreOuts t u (v + 1)) (sym out_is) (outs_more t u v (posts_at old u).outs s are sent);
      into = λ are. subst (AreIns t v (u + 1)) (sym in_is) (ins_more t v u (posts_at old v).ins r are received);
      outs = λ k other. outs_same k ∙ ap (λ (x : Posts). x.outs) (get_or-set_other old u k p no_posts other);
      ins = λ k other. ap (λ (x : Posts). x.ins) (get_or-set_other mid v k q no_posts other) ∙ ins_same k;
    }

-- ---- all rings so far

-- one ring more is made
pub made_more : (t : Step) (u v : ℕ) (old new : List Posts) → v < length old → length new ≡ length old → AreMade t u v old → IsJoined t u v old new → AreMade t u (v + 1) new
made_more t u v old new lt long made more k below =
    let known : IsMade t u v (length old) k (posts_at old k) = made k (subst (λ (n : ℕ). k < n) long below) in
    record {
      outs_before = λ before. subst (λ (n : ℕ). AreOuts t k n (posts_at new k).outs) (sym long) (subst (AreOuts t k (length old)) (sym (more.outs k (λ e. omega (arith, before, e)))) (known.outs_before before));
      outs_here = λ e. here k e known;
      outs_behind = λ behind. subst (AreOuts t k 0) (sym (more.outs k (λ e. omega (arith, behind, e)))) (known.outs_behind behind);
      ins_before = λ low. elim (cases_lt k v) [
        | inl before ↦ subst (AreIns t k (u + 1)) (sym (more.ins k (λ e. omega (arith, before, e)))) (known.ins_before before)
        | inr behind ↦ now k (let e : k ≡ v = omega (arith, low, behind) in e) known
      ];
      ins_behind = λ behind. subst (AreIns t k u) (sym (more.ins k (λ e. omega (arith, behind, e)))) (known.ins_behind (let le : v ≤ k = omega (arith, behind) in le));
    }
  where
    here : (k : ℕ) → k ≡ u → IsMade t u v (length old) k (posts_at old k) → AreOuts t k (v + 1) (posts_at new k).outs
    here k e known = subst (λ (m : ℕ). AreOuts t m (v + 1) (posts_at new m).outs) (sym e) (more.out (subst (λ (m : ℕ). AreOuts t m v (posts_at old m).outs) e (known.outs_here e)))

    now : (k : ℕ) → k ≡ v → IsMade t u v (length old) k (posts_at old k) → AreIns t k (u + 1) (posts_at new k).ins
    now k e known = subst (λ (m : ℕ). AreIns t m (u + 1) (posts_at new m).ins) (sym e) (more.into (subst (λ (m : ℕ). AreIns t m u (posts_at old m).ins) e (known.ins_behind (let le : v ≤ k = omega (arith, e) in le))))

-- those from the part u are all made
pub made_next : (t : Step) (u n : ℕ) (ps : List Posts) → n ≡ length ps → AreMade t u n ps → AreMade t (u + 1) 0 ps
made_next t u n ps long made k below =
    let known = made k below in
    let inside : k < n = omega (arith, long, below) in
    record {
      outs_before = λ low. elim (cases_lt k u) [
        | inl before ↦ known.outs_before before
        | inr behind ↦ let e : k ≡ u = omega (arith, low, behind) in subst (λ (m : ℕ). AreOuts t k m (posts_at ps k).outs) long (known.outs_here e)
      ];
      outs_here = λ e. known.outs_behind (let lt : u < k = omega (arith, e) in lt);
      outs_behind = λ behind. known.outs_behind (let lt : u < k = omega (arith, behind) in lt);
      ins_before = λ none. absurd (omega (arith, none));
      ins_behind = λ le. known.ins_before inside;
    }

-- none is
pub none_made : (t : Step) (ps : List Posts) → ((k : ℕ) → posts_at ps k ≡ no_posts) → AreMade t 0 0 ps
none_made t ps bare k below =
    let outs : AreOuts t k 0 (posts_at ps k).outs = subst (λ (p : Posts). AreOuts t k 0 p.outs) (sym (bare k)) (record { count = refl; each = λ v lt. absurd (omega (arith, lt)) }) in
    let ins : AreIns t k 0 (posts_at ps k).ins = subst (λ (p : Posts). AreIns t k 0 p.ins) (sym (bare k)) (record { count = refl; each = λ u lt. absurd (omega (arith, lt)) }) in
    record { outs_before = λ lt. absurd (omega (arith, lt)); outs_here = λ e. outs; outs_behind = λ lt. outs; ins_before = λ lt. absurd (omega (arith, lt)); ins_behind = λ le. ins }

-- all are
pub all_made : (t : Step) (n : ℕ) (ps : List Posts) → length ps ≡ n → AreMade t n 0 ps → AreAllRings t n ps
all_made t n ps long made = record {
  count = long;
  each = λ k lt. ring k (let below : k < length ps = omega (arith, long, lt) in below) lt;
}
  where
    ring : (k : ℕ) → k < length ps → k < n → AreRings t n k (posts_at ps k)
    ring k below lt =
        let known = made k below in
        record { outs = subst (λ (m : ℕ). AreOuts t k m (posts_at ps k).outs) long (known.outs_before lt); ins = known.ins_behind (omega arith) }

-- ---- ports with no rings

pub bare_more : (ps : List Posts) (p : Posts) → ((k : ℕ) → posts_at ps k ≡ no_posts) → p.outs ≡ [] → p.ins ≡ [] → (k : ℕ) → posts_at (ps ++ p ∷ []) k ≡ no_posts
bare_more [] p bare outs ins zero = search rules
bare_more [] p bare outs ins (suc k) = refl
bare_more (x ∷ ps) p bare outs ins zero = bare zero
bare_more (x ∷ ps) p bare outs ins (suc k) = bare_more ps p (λ i. bare (suc i)) outs ins k
