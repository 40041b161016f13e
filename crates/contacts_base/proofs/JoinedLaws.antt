-- The contacts of a list that count, one place after another, and both lists as one.
use Rattle.std.proofs.Common.{◌≡◌, ℕ, suc, ◌+◌, ◌<◌, Bool, true, false, List, [], ◌∷◌, ◌++◌, length, get_or, drop, add-one, arith, refl, sym, ap, ◌∙◌, subst}
use Rattle.contacts_base.specs.declared.contact.ContactEntry.{ContactEntry}
use Rattle.contacts_base.specs.Contacts.{AreKeysRising, number_of}
use Rattle.contacts_base.specs.Merge.{AreAscending, below_of, beyond_of, merged}
use Rattle.contacts_base.specs.ShortLists.{Short, counted_from, counted_in}
use Rattle.contacts_base.specs.Split.{counting, is_over}
use Rattle.contacts_base.proofs.CountingLaws.{counting_ascends}
use Rattle.contacts_base.proofs.LookupLemmas.{keys_later}
use Rattle.contacts_base.proofs.MergeLaws.{ascends_drop, drop_next, merged_more}
use Rattle.contacts_base.proofs.RankLaws.{rank, rank_drop}

-- ---- one contact of the long list further

flag_next : (over : List Bool) (i : ℕ) (t : Bool) → i < length over → is_over over i ≡ t → drop i over ≡ t ∷ drop (suc i) over
flag_next over i t lt is = drop_next over i false lt ∙ ap (λ (b : Bool). b ∷ drop (suc i) over) is

join_passes : (over : List Bool) (es : List ContactEntry) (i : ℕ) → i < length over → i < length es → is_over over i ≡ true → counting (drop i over) (drop i es) ≡ counting (drop (suc i) over) (drop (suc i) es)
join_passes over [] i lt within is = absurd (omega (arith, within))
join_passes over (x ∷ es) i lt within is = ap (λ (flags : List Bool). counting flags (drop i (x ∷ es))) (flag_next over i true lt is) ∙ ap (λ (l : List ContactEntry). counting (true ∷ drop (suc i) over) l) (drop_next (x ∷ es) i x within)

join_has : (over : List Bool) (es : List ContactEntry) (i : ℕ) (e d : ContactEntry) → i < length over → i < length es → is_over over i ≡ false → e ≡ get_or es i d → counting (drop i over) (drop i es) ≡ e ∷ counting (drop (suc i) over) (drop (suc i) es)
join_has over es i e d lt within is there =
    ap (λ (flags : List Bool). counting flags (drop i es)) (flag_next over i false lt is) ∙ ap (λ (l : List ContactEntry). counting (false ∷ drop (suc i) over) l) (drop_next es i d within) ∙ ap (λ (x : ContactEntry). x ∷ counting (drop (suc i) over) (drop (suc i) es)) (sym there)

pub joined_more : (over : List Bool) (long short all made more whole : List ContactEntry) (i place next : ℕ) (e d : ContactEntry) → length over ≡ length long → i < length long → is_over over i ≡ false → e ≡ get_or long i d → AreKeysRising long → AreKeysRising short
    → (all ++ merged number_of (counting (drop i over) (drop i long)) (drop place short)) ≡ whole → made ≡ all ++ below_of number_of e (drop place short) → drop next short ≡ beyond_of number_of e (drop place short) → more ≡ made ++ e ∷ []
    → (more ++ merged number_of (counting (drop (i + 1) over) (drop (i + 1) long)) (drop next short)) ≡ whole
joined_more over long short all made more whole i place next e d flags within off there rises also known pushed left added =
    let rest : List ContactEntry = counting (drop (suc i) over) (drop (suc i) long) in
    let head : counting (drop i over) (drop i long) ≡ e ∷ rest = join_has over long i e d (omega (arith, flags, within)) within off there in
    let first : AreAscending number_of (e ∷ rest) = subst (AreAscending number_of) head (counting_ascends (drop i over) (drop i long) (ascends_drop number_of long i (keys_later long rises))) in
    rw add-one (merged_more number_of (e ∷ rest) short all made more whole 0 place next e e (omega arith) refl first (keys_later short also) (ap (λ (l : List ContactEntry). all ++ merged number_of l (drop place short)) (sym head) ∙ known) pushed left added)

pub joined_passed : (over : List Bool) (long rest all whole : List ContactEntry) (i : ℕ) → length over ≡ length long → i < length long → is_over over i ≡ true → (all ++ merged number_of (counting (drop i over) (drop i long)) rest) ≡ whole
    → (all ++ merged number_of (counting (drop (i + 1) over) (drop (i + 1) long)) rest) ≡ whole
joined_passed over long rest all whole i flags within on known =
    rw add-one (ap (λ (l : List ContactEntry). all ++ merged number_of l rest) (sym (join_passes over long i (omega (arith, flags, within)) within on)) ∙ known)

-- where the short list has contacts that are over too
pub joined_next : (over : List Bool) (long : List ContactEntry) (s : Short) (all made more whole : List ContactEntry) (i place next : ℕ) (e d : ContactEntry) → length over ≡ length long → i < length long → is_over over i ≡ false → e ≡ get_or long i d → AreKeysRising long → AreKeysRising (counted_in s) → length s.over ≡ length s.entries
    → (all ++ merged number_of (counting (drop i over) (drop i long)) (counted_from place s)) ≡ whole → made ≡ all ++ below_of number_of e (counted_from place s) → counted_from next s ≡ beyond_of number_of e (counted_from place s) → more ≡ made ++ e ∷ []
    → (more ++ merged number_of (counting (drop (i + 1) over) (drop (i + 1) long)) (counted_from next s)) ≡ whole
joined_next over long s all made more whole i place next e d flags within off there rises also marks known pushed left added =
    let from : drop (rank place s.over s.entries) (counted_in s) ≡ counted_from place s = rank_drop place s.over s.entries marks in
    let to : drop (rank next s.over s.entries) (counted_in s) ≡ counted_from next s = rank_drop next s.over s.entries marks in
    subst (λ (l : List ContactEntry). (more ++ merged number_of (counting (drop (i + 1) over) (drop (i + 1) long)) l) ≡ whole) to
    (joined_more over long (counted_in s) all made more whole i (rank place s.over s.entries) (rank next s.over s.entries) e d flags within off there rises also
    (ap (λ (l : List ContactEntry). all ++ merged number_of (counting (drop i over) (drop i long)) l) from ∙ known) (pushed ∙ ap (λ (l : List ContactEntry). all ++ below_of number_of e l) (sym from)) (to ∙ left ∙ ap (beyond_of number_of e) (sym from)) added)

-- ---- one that is over is passed by

pub one_passed : (over : List Bool) (es : List ContactEntry) (i : ℕ) → length over ≡ length es → i < length es → is_over over i ≡ true → counting (drop (i + 1) over) (drop (i + 1) es) ≡ counting (drop i over) (drop i es)
one_passed over es i flags within on = rw add-one (sym (join_passes over es i (omega (arith, flags, within)) within on))
