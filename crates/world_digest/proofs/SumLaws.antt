-- Words that are taken one list after another.
use Rattle.std.proofs.Common.{◌≡◌, ℕ, ◌+◌, ◌<◌, List, [], ◌∷◌, ◌++◌, ◌∙◌, add-one, ap, drop, drop-cons, flat_map, length, refl, slice_index_or, sym}
use Rattle.sha2.specs.Sha256.{sha256}
use Rattle.world_digest.specs.Sums.{absorbed, absorbed_all, list_words}
use Rattle.world_digest.specs.declared.sums.Sums.{Sums}

pub absorbed_both : (s : Sums) (xs ys : List ℕ) → absorbed_all s (xs ++ ys) ≡ absorbed_all (absorbed_all s xs) ys
absorbed_both s [] ys = refl
absorbed_both s (x ∷ xs) ys = absorbed_both (absorbed s x) xs ys

-- first one list is taken, and then the other
pub fed_both : (a b c : Sums) (xs ys : List ℕ) → b ≡ absorbed_all a xs → c ≡ absorbed_all b ys → c ≡ absorbed_all a (xs ++ ys)
fed_both a b c xs ys first then_ = then_ ∙ ap (λ s. absorbed_all s ys) first ∙ sym (absorbed_both a xs ys)

-- and so on
pub fed_three : (s a b c : Sums) (ws xs ys : List ℕ) → a ≡ absorbed_all s ws → b ≡ absorbed_all a xs → c ≡ absorbed_all b ys → c ≡ absorbed_all s (ws ++ xs ++ ys)
fed_three s a b c ws xs ys h i j = fed_both s b c (ws ++ xs) ys (fed_both s a b ws xs h i) j

pub fed_four : (s a b c d : Sums) (ws xs ys zs : List ℕ) → a ≡ absorbed_all s ws → b ≡ absorbed_all a xs → c ≡ absorbed_all b ys → d ≡ absorbed_all c zs → d ≡ absorbed_all s (ws ++ xs ++ ys ++ zs)
fed_four s a b c d ws xs ys zs h i j k = fed_both s c d (ws ++ xs ++ ys) zs (fed_three s a b c ws xs ys h i j) k

pub fed_six : (s a b c d e f : Sums) (us vs ws xs ys zs : List ℕ) → a ≡ absorbed_all s us → b ≡ absorbed_all a vs → c ≡ absorbed_all b ws → d ≡ absorbed_all c xs → e ≡ absorbed_all d ys → f ≡ absorbed_all e zs
    → f ≡ absorbed_all s (us ++ vs ++ ws ++ xs ++ ys ++ zs)
fed_six s a b c d e f us vs ws xs ys zs h i j k l m = fed_three s d e f (us ++ vs ++ ws ++ xs) ys zs (fed_four s a b c d us vs ws xs h i j k) l m

-- a list is taken that is another by an equation
pub fed_list : {T : Type 0} (words : T → List ℕ) (xs ys : List T) (s t : Sums) → xs ≡ ys → t ≡ absorbed_all s (list_words words xs) → t ≡ absorbed_all s (list_words words ys)
fed_list words xs ys s t same fed = fed ∙ ap (λ zs. absorbed_all s (list_words words zs)) same

rest_at : {T : Type 0} (xs : List T) (k : ℕ) (x : T) → k < length xs → x ≡ slice_index_or xs k x → drop k xs ≡ x ∷ drop (k + 1) xs
rest_at xs k x low is = drop-cons xs k x low ∙ rw (add-one, ← is) refl

-- the first item of what is left of a list is taken
pub fed_head : {T : Type 0} (words : T → List ℕ) (x : T) (xs ys : List T) (all s t : Sums) → xs ≡ x ∷ ys → t ≡ absorbed_all s (words x)
    → absorbed_all s (flat_map words xs) ≡ all → absorbed_all t (flat_map words ys) ≡ all
fed_head words x xs ys all s t is fed known =
    ap (λ u. absorbed_all u (flat_map words ys)) fed
    ∙ sym (absorbed_both s (words x) (flat_map words ys))
    ∙ ap (λ l. absorbed_all s (flat_map words l)) (sym is)
    ∙ known

-- one item more of a list is taken
pub fed_more : {T : Type 0} (words : T → List ℕ) (xs : List T) (k : ℕ) (x : T) (all s t : Sums)
    → k < length xs → x ≡ slice_index_or xs k x → t ≡ absorbed_all s (words x)
    → absorbed_all s (flat_map words (drop k xs)) ≡ all
    → absorbed_all t (flat_map words (drop (k + 1) xs)) ≡ all
fed_more words xs k x all s t low is fed known = fed_head words x (drop k xs) (drop (k + 1) xs) all s t (rest_at xs k x low is) fed known

-- the same, where the item is had by another default
pub fed_slot : {T : Type 0} (words : T → List ℕ) (xs : List T) (k : ℕ) (x d : T) (all s t : Sums)
    → k < length xs → x ≡ slice_index_or xs k d → t ≡ absorbed_all s (words x)
    → absorbed_all s (flat_map words (drop k xs)) ≡ all
    → absorbed_all t (flat_map words (drop (k + 1) xs)) ≡ all
fed_slot words xs k x d all s t low is fed known =
    fed_head words x (drop k xs) (drop (k + 1) xs) all s t (drop-cons xs k d low ∙ rw (add-one, ← is) refl) fed known

-- one list is taken behind another
pub fed_append : {T : Type 0} (words : T → List ℕ) (s : Sums) (xs ys : List T) → absorbed_all s (flat_map words (xs ++ ys)) ≡ absorbed_all (absorbed_all s (flat_map words xs)) (flat_map words ys)
fed_append words s [] ys = refl
fed_append words s (x ∷ xs) ys =
    absorbed_both s (words x) (flat_map words (xs ++ ys))
    ∙ fed_append words (absorbed_all s (words x)) xs ys
    ∙ ap (λ u. absorbed_all u (flat_map words ys)) (sym (absorbed_both s (words x) (flat_map words xs)))

-- the digest of four pieces
pub of_pieces : (a b c d p q r s : List ℕ) → a ≡ p → b ≡ q → c ≡ r → d ≡ s → sha256 ([] ++ a ++ b ++ c ++ d) ≡ sha256 (p ++ q ++ r ++ s)
of_pieces a b c d p q r s first second third fourth = λ i. sha256 (first i ++ second i ++ third i ++ fourth i)
