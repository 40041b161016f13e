-- Contacts that are told one after another, from the two lists in which they are kept.
use Rattle.std.proofs.Common.{◌≡◌, ℕ, zero, suc, ◌+◌, ◌<◌, ◌≤◌, Bool, true, false, cond, List, [], ◌∷◌, ◌++◌, Option, Some, None, length, get_or, drop, flat_map, nat_lt, add-one, arith, refl, sym, ap, ap₂, ◌∙◌}
use Rattle.std.specs.Prelude.{slice_get}
use Rattle.std.specs.Option.{is_some}
use Rattle.std.proofs.lemmas.List.{drop_all}
use Rattle.std.proofs.lemmas.Option.{get_or_from_slice_get}
use Rattle.contacts_base.specs.declared.contact.ContactEntry.{ContactEntry}
use Rattle.contacts_base.specs.Contacts.{AreKeysRising, number_of}
use Rattle.contacts_base.specs.Merge.{below_of, beyond_of, merged, put_in}
use Rattle.contacts_base.specs.ShortLists.{Short, counted_from, counted_in}
use Rattle.contacts_base.specs.Split.{Split, contacts_in, counting, counting_at, is_over, unless_over}
use Rattle.contacts_base.proofs.JoinedLaws.{joined_next, joined_passed, one_passed}
use Rattle.contacts_base.proofs.MergeLaws.{drop_next}
use Rattle.world_digest.specs.Sums.{absorbed, absorbed_all, list_words}
use Rattle.world_digest.specs.declared.sums.Sums.{Sums}
use Rattle.world_digest.proofs.SumLaws.{absorbed_both, fed_append, fed_head}

-- ---- whether the contact at a place of the long list counts

there : (es : List ContactEntry) (i : ℕ) → i < length es → is_some (slice_get es i) ≡ true
there [] i lt = absurd (omega (arith, lt))
there (x ∷ es) zero lt = refl
there (x ∷ es) (suc i) lt = there es i (omega (arith, lt))

pub counts_by : (s : Split) (i : ℕ) → is_some (counting_at s i) ≡ true → is_over s.over i ≡ false
counts_by s i h = by_flag (is_over s.over i) (slice_get s.long i) h
  where
    by_flag : (t : Bool) (o : Option ContactEntry) → is_some (unless_over t o) ≡ true → t ≡ false
    by_flag true o h = cc
    by_flag false o h = refl

pub over_by : (s : Split) (i : ℕ) → i < length s.long → is_some (counting_at s i) ≡ false → is_over s.over i ≡ true
over_by s i lt h = by_flag (is_over s.over i) (slice_get s.long i) (there s.long i lt) h
  where
    by_flag : (t : Bool) (o : Option ContactEntry) → is_some o ≡ true → is_some (unless_over t o) ≡ false → t ≡ true
    by_flag true o some h = refl
    by_flag false None some h = cc
    by_flag false (Some e) some h = cc

-- ---- one place further

counts_next : (over : List Bool) (es : List ContactEntry) (i : ℕ) (e d : ContactEntry) → length over ≡ length es → i < length es → is_over over i ≡ false → e ≡ get_or es i d → counting (drop i over) (drop i es) ≡ e ∷ counting (drop (i + 1) over) (drop (i + 1) es)
counts_next over es i e d flags within off is =
    let marks : drop i over ≡ false ∷ drop (suc i) over = drop_next over i false (omega (arith, flags, within)) ∙ ap (λ (b : Bool). b ∷ drop (suc i) over) off in
    let items : drop i es ≡ e ∷ drop (suc i) es = drop_next es i d within ∙ ap (λ (x : ContactEntry). x ∷ drop (suc i) es) (sym is) in
    rw add-one (ap (λ (l : List Bool). counting l (drop i es)) marks ∙ ap (λ (l : List ContactEntry). counting (false ∷ drop (suc i) over) l) items)

none_left : (over : List Bool) (es : List ContactEntry) (i : ℕ) → length es ≤ i → counting (drop i over) (drop i es) ≡ []
none_left over es i past = ap (λ (l : List ContactEntry). counting (drop i over) l) (drop_all i es past)

-- the same of the short list, whose items are those of a slice
pub short_next : (s : Short) (xs : List ContactEntry) (i : ℕ) (e d : ContactEntry) → xs ≡ s.entries → length s.over ≡ length xs → i < length xs → is_over s.over i ≡ false → e ≡ get_or xs i d → counted_from i s ≡ e ∷ counted_from (i + 1) s
short_next s xs i e d same flags within off is =
    let size : length xs ≡ length s.entries = ap (λ (l : List ContactEntry). length l) same in
    counts_next s.over s.entries i e d (flags ∙ size) (omega (arith, within, size)) off (is ∙ ap (λ (l : List ContactEntry). get_or l i d) same)

pub short_passed : (s : Short) (xs : List ContactEntry) (i : ℕ) → xs ≡ s.entries → length s.over ≡ length xs → i < length xs → is_over s.over i ≡ true → counted_from (i + 1) s ≡ counted_from i s
short_passed s xs i same flags within on =
    let size : length xs ≡ length s.entries = ap (λ (l : List ContactEntry). length l) same in
    one_passed s.over s.entries i (flags ∙ size) (omega (arith, within, size)) on

pub short_end : (s : Short) (xs : List ContactEntry) (i : ℕ) → xs ≡ s.entries → length xs ≤ i → counted_from i s ≡ []
short_end s xs i same past = none_left s.over s.entries i (let size : length xs ≡ length s.entries = ap (λ (l : List ContactEntry). length l) same in omega (arith, past, size))

-- ---- how many count

pub count_passed : (over : List Bool) (es : List ContactEntry) (n i all : ℕ) → length over ≡ length es → i < length es → is_over over i ≡ true → n + length (counting (drop i over) (drop i es)) ≡ all → n + length (counting (drop (i + 1) over) (drop (i + 1) es)) ≡ all
count_passed over es n i all flags within on known = ap (λ (l : List ContactEntry). n + length l) (one_passed over es i flags within on) ∙ known

pub count_more : (over : List Bool) (es : List ContactEntry) (n i all : ℕ) → length over ≡ length es → i < length es → is_over over i ≡ false → n + length (counting (drop i over) (drop i es)) ≡ all → (n + 1) + length (counting (drop (i + 1) over) (drop (i + 1) es)) ≡ all
count_more over es n i all flags within off known = by_item over es n i all (slice_get es i) refl (there es i within) flags within off known
  where
    by_item : (over : List Bool) (es : List ContactEntry) (n i all : ℕ) (o : Option ContactEntry) → slice_get es i ≡ o → is_some o ≡ true → length over ≡ length es → i < length es → is_over over i ≡ false → n + length (counting (drop i over) (drop i es)) ≡ all
        → (n + 1) + length (counting (drop (i + 1) over) (drop (i + 1) es)) ≡ all
    by_item over es n i all None h some flags within off known = cc
    by_item over es n i all (Some e) h some flags within off known =
        let step : length (counting (drop i over) (drop i es)) ≡ suc (length (counting (drop (i + 1) over) (drop (i + 1) es))) = ap (λ (l : List ContactEntry). length l) (counts_next over es i e e flags within off (sym (get_or_from_slice_get es i e e h))) in
        omega (arith, known, step)

pub count_end : (over : List Bool) (es : List ContactEntry) (n i all : ℕ) → length es ≤ i → n + length (counting (drop i over) (drop i es)) ≡ all → n ≡ all
count_end over es n i all past known =
    let none : length (counting (drop i over) (drop i es)) ≡ 0 = ap (λ (l : List ContactEntry). length l) (none_left over es i past) in
    omega (arith, known, none)

length_put : (number : ContactEntry → ℕ) (e : ContactEntry) (l : List ContactEntry) → length (put_in number e l) ≡ suc (length l)
length_put number e [] = refl
length_put number e (x ∷ l) = by_order number e x l (nat_lt (number x) (number e)) (length_put number e l)
  where
    by_order : (number : ContactEntry → ℕ) (e x : ContactEntry) (l : List ContactEntry) (t : Bool) → length (put_in number e l) ≡ suc (length l) → length (cond t (x ∷ put_in number e l) (e ∷ x ∷ l)) ≡ suc (length (x ∷ l))
    by_order number e x l true rest = ap suc rest
    by_order number e x l false rest = refl

length_merged : (number : ContactEntry → ℕ) (es rs : List ContactEntry) → length (merged number es rs) ≡ length es + length rs
length_merged number [] rs = omega arith
length_merged number (e ∷ es) rs =
    let put = length_put number e (merged number es rs) in
    let rest = length_merged number es rs in
    omega (arith, put, rest)

-- how many there are, and then the words of each
pub told_all : (words : ContactEntry → List ℕ) (s : Split) (n m : ℕ) (old mid new : Sums) → n ≡ length (counting s.over s.long) → m ≡ length s.short → mid ≡ absorbed old (n + m) → new ≡ absorbed_all mid (flat_map words (contacts_in s))
    → new ≡ absorbed_all old (list_words words (contacts_in s))
told_all words s n m old mid new long short first fed =
    let size : n + m ≡ length (contacts_in s) = ap₂ (λ (a b : ℕ). a + b) long short ∙ sym (length_merged number_of (counting s.over s.long) s.short) in
    fed ∙ ap (λ u. absorbed_all u (flat_map words (contacts_in s))) (first ∙ ap (absorbed old) size)

-- ---- those of the short list that come before a contact

pub below_ends : (words : ContactEntry → List ℕ) (e x : ContactEntry) (l r : List ContactEntry) (all a : Sums) → l ≡ x ∷ r → nat_lt (number_of x) (number_of e) ≡ false → absorbed_all a (flat_map words (below_of number_of e l)) ≡ all → a ≡ all
below_ends words e x l r all a is off known =
    sym (ap (λ (k : List ContactEntry). absorbed_all a (flat_map words (below_of number_of e k))) is ∙ ap (λ (t : Bool). absorbed_all a (flat_map words (cond t (x ∷ below_of number_of e r) []))) off) ∙ known

pub beyond_ends : (e x : ContactEntry) (l r m : List ContactEntry) → l ≡ x ∷ r → nat_lt (number_of x) (number_of e) ≡ false → beyond_of number_of e l ≡ m → l ≡ m
beyond_ends e x l r m is off known =
    is ∙ sym (ap (λ (k : List ContactEntry). beyond_of number_of e k) is ∙ ap (λ (t : Bool). cond t (beyond_of number_of e r) (x ∷ r)) off) ∙ known

pub below_more : (words : ContactEntry → List ℕ) (e x : ContactEntry) (l r : List ContactEntry) (all a b : Sums) → l ≡ x ∷ r → nat_lt (number_of x) (number_of e) ≡ true → b ≡ absorbed_all a (words x) → absorbed_all a (flat_map words (below_of number_of e l)) ≡ all
    → absorbed_all b (flat_map words (below_of number_of e r)) ≡ all
below_more words e x l r all a b is on fed known =
    fed_head words x (below_of number_of e l) (below_of number_of e r) all a b
    (ap (λ (k : List ContactEntry). below_of number_of e k) is ∙ ap (λ (t : Bool). cond t (x ∷ below_of number_of e r) []) on) fed known

pub beyond_more : (e x : ContactEntry) (l r m : List ContactEntry) → l ≡ x ∷ r → nat_lt (number_of x) (number_of e) ≡ true → beyond_of number_of e l ≡ m → beyond_of number_of e r ≡ m
beyond_more e x l r m is on known =
    sym (ap (λ (k : List ContactEntry). beyond_of number_of e k) is ∙ ap (λ (t : Bool). cond t (beyond_of number_of e r) (x ∷ r)) on) ∙ known

pub below_none : (words : ContactEntry → List ℕ) (e : ContactEntry) (l : List ContactEntry) (all a : Sums) → l ≡ [] → absorbed_all a (flat_map words (below_of number_of e l)) ≡ all → a ≡ all
below_none words e l all a none known = sym (ap (λ (k : List ContactEntry). absorbed_all a (flat_map words (below_of number_of e k))) none) ∙ known

pub beyond_none : (e : ContactEntry) (l r m : List ContactEntry) → l ≡ [] → r ≡ [] → beyond_of number_of e l ≡ m → r ≡ m
beyond_none e l r m none also known = also ∙ sym (ap (λ (k : List ContactEntry). beyond_of number_of e k) none) ∙ known

pub fed_none : (words : ContactEntry → List ℕ) (l : List ContactEntry) (all a : Sums) → l ≡ [] → absorbed_all a (flat_map words l) ≡ all → a ≡ all
fed_none words l all a none known = sym (ap (λ (k : List ContactEntry). absorbed_all a (flat_map words k)) none) ∙ known

-- ---- both lists

pub told_next : (words : ContactEntry → List ℕ) (over : List Bool) (long : List ContactEntry) (s : Short) (a b c : Sums) (i place next : ℕ) (e d : ContactEntry) → length over ≡ length long → i < length long → is_over over i ≡ false → e ≡ get_or long i d
    → AreKeysRising long → AreKeysRising (counted_in s) → length s.over ≡ length s.entries
    → b ≡ absorbed_all a (flat_map words (below_of number_of e (counted_from place s))) → counted_from next s ≡ beyond_of number_of e (counted_from place s) → c ≡ absorbed_all b (words e)
    → absorbed_all c (flat_map words (merged number_of (counting (drop (i + 1) over) (drop (i + 1) long)) (counted_from next s))) ≡ absorbed_all a (flat_map words (merged number_of (counting (drop i over) (drop i long)) (counted_from place s)))
told_next words over long s a b c i place next e d flags within off is rises also marks below left fed =
    let first : List ContactEntry = merged number_of (counting (drop i over) (drop i long)) (counted_from place s) in
    let rest : List ContactEntry = merged number_of (counting (drop (i + 1) over) (drop (i + 1) long)) (counted_from next s) in
    let before : List ContactEntry = below_of number_of e (counted_from place s) in
    let both : ((before ++ e ∷ []) ++ rest) ≡ first = joined_next over long s [] before (before ++ e ∷ []) first i place next e d flags within off is rises also marks refl refl left refl in
    let one : c ≡ absorbed_all a (flat_map words (before ++ e ∷ [])) =
    fed ∙ ap (λ u. absorbed_all u (words e)) below ∙ sym (absorbed_both (absorbed_all a (flat_map words before)) (words e) []) ∙ sym (fed_append words a before (e ∷ [])) in
    ap (λ u. absorbed_all u (flat_map words rest)) one ∙ sym (fed_append words a (before ++ e ∷ []) rest) ∙ ap (λ (l : List ContactEntry). absorbed_all a (flat_map words l)) both

pub told_passed : (words : ContactEntry → List ℕ) (over : List Bool) (long rest : List ContactEntry) (a : Sums) (i : ℕ) → length over ≡ length long → i < length long → is_over over i ≡ true
    → absorbed_all a (flat_map words (merged number_of (counting (drop (i + 1) over) (drop (i + 1) long)) rest)) ≡ absorbed_all a (flat_map words (merged number_of (counting (drop i over) (drop i long)) rest))
told_passed words over long rest a i flags within on =
    ap (λ (l : List ContactEntry). absorbed_all a (flat_map words l)) (joined_passed over long rest [] (merged number_of (counting (drop i over) (drop i long)) rest) i flags within on refl)

pub told_end : (words : ContactEntry → List ℕ) (over : List Bool) (long rest : List ContactEntry) (all a b : Sums) (i : ℕ) → length long ≤ i → absorbed_all a (flat_map words (merged number_of (counting (drop i over) (drop i long)) rest)) ≡ all → b ≡ absorbed_all a (flat_map words rest) → b ≡ all
told_end words over long rest all a b i past known fed =
    fed ∙ sym (ap (λ (l : List ContactEntry). absorbed_all a (flat_map words (merged number_of l rest))) (none_left over long i past)) ∙ known

pub told_first : (words : ContactEntry → List ℕ) (s : Split) (short : Short) (a : Sums) → counted_in short ≡ s.short → absorbed_all a (flat_map words (merged number_of (counting s.over s.long) (counted_from 0 short))) ≡ absorbed_all a (flat_map words (contacts_in s))
told_first words s short a same = ap (λ (l : List ContactEntry). absorbed_all a (flat_map words (merged number_of (counting s.over s.long) l))) same
