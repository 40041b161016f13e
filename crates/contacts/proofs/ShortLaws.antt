-- The short list, one place after another: where a contact of it stands among those that count.
use Rattle.std.proofs.Common.{◌≡◌, ℕ, ◌+◌, ◌<◌, ◌≤◌, true, false, List, length, get_or, take, arith, sym, ap, ◌∙◌, subst}
use Rattle.std.specs.List.{All}
use Rattle.std.proofs.lemmas.List.{take_all}
use Rattle.std.proofs.lemmas.List.Elements.{All-more}
use Rattle.contacts_base.specs.declared.contact.ContactEntry.{ContactEntry}
use Rattle.contacts_base.specs.ShortLists.{Short, counted_in}
use Rattle.contacts_base.specs.Split.{is_over}
use Rattle.contacts_base.proofs.RankLaws.{rank, rank_at, rank_end, rank_next, rank_passes, rank_within}

-- which of those that count the contact at a place would be
abbrev pub rank_in : ℕ → Short → ℕ
rank_in place s = rank place s.over s.entries

-- a contact that counts
pub record StandsAt (s : Short) (place : ℕ) (e : ContactEntry) : Type 0 where
  pub within : rank_in place s < length (counted_in s)
  pub is : e ≡ get_or (counted_in s) (rank_in place s) e
  pub next : rank_in (place + 1) s ≡ rank_in place s + 1

pub stands_at : (s : Short) (es : List ContactEntry) (place : ℕ) (e : ContactEntry) → es ≡ s.entries → length s.over ≡ length es → place < length es → is_over s.over place ≡ false → e ≡ get_or es place e → StandsAt s place e
stands_at s es place e same flags lt off at =
    let marks : length s.over ≡ length s.entries = flags ∙ ap (λ (l : List ContactEntry). length l) same in
    let within : place < length s.entries = subst (λ (l : List ContactEntry). place < length l) same lt in
    record {
      within = rank_within place s.over s.entries marks within off;
      is = at ∙ ap (λ (l : List ContactEntry). get_or l place e) same ∙ sym (rank_at place s.over s.entries e marks within off);
      next = rank_next place s.over s.entries marks within off;
    }

-- one that is over
pub passed_at : (s : Short) (es : List ContactEntry) (place : ℕ) → es ≡ s.entries → length s.over ≡ length es → is_over s.over place ≡ true → rank_in (place + 1) s ≡ rank_in place s
passed_at s es place same flags on = rank_passes place s.over s.entries (flags ∙ ap (λ (l : List ContactEntry). length l) same) on

-- behind the last
pub ends_at : (s : Short) (es : List ContactEntry) (place : ℕ) → es ≡ s.entries → length s.over ≡ length es → length es ≤ place → length (counted_in s) ≤ rank_in place s
ends_at s es place same flags past =
    let end : length (counted_in s) ≡ rank_in place s = rank_end place s.over s.entries (flags ∙ ap (λ (l : List ContactEntry). length l) same) (subst (λ (l : List ContactEntry). length l ≤ place) same past) in
    omega (arith, end)

-- ---- what holds of those before a place

pub holds_next : (P : ContactEntry → Type 0) (s : Short) (place : ℕ) (e : ContactEntry) → StandsAt s place e → P e → All P (take (rank_in place s) (counted_in s)) → All P (take (rank_in (place + 1) s) (counted_in s))
holds_next P s place e at one all = subst (λ (n : ℕ). All P (take n (counted_in s))) (sym at.next) (All-more P (counted_in s) (rank_in place s) e at.within all (subst P at.is one))

pub holds_passed : (P : ContactEntry → Type 0) (s : Short) (es : List ContactEntry) (place : ℕ) → es ≡ s.entries → length s.over ≡ length es → is_over s.over place ≡ true → All P (take (rank_in place s) (counted_in s)) → All P (take (rank_in (place + 1) s) (counted_in s))
holds_passed P s es place same flags on all = subst (λ (n : ℕ). All P (take n (counted_in s))) (sym (passed_at s es place same flags on)) all

pub holds_of_all : (P : ContactEntry → Type 0) (s : Short) (es : List ContactEntry) (place : ℕ) → es ≡ s.entries → length s.over ≡ length es → length es ≤ place → All P (take (rank_in place s) (counted_in s)) → All P (counted_in s)
holds_of_all P s es place same flags past all = subst (λ (l : List ContactEntry). All P l) (take_all (rank_in place s) (counted_in s) (ends_at s es place same flags past)) all
