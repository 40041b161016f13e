-- Pairs whose bodies are kept from colliding.
use Rattle.std.proofs.Common.{ℕ, ◌<◌, Bool, true, false, cond, List, [], ◌∷◌}
use Rattle.std.specs.Prelude.{filter}
use Rattle.std.proofs.lemmas.List.Elements.{All-filter}
use Rattle.contacts_base.specs.declared.near.Proxy.{Proxy}
use Rattle.contacts_base.specs.NearCodes.{near_codes}
use Rattle.contacts_base.specs.Proxies.{IsProxyList}
use Rattle.contacts_base.specs.declared.body_pair.BodyPair.{BodyPair}
use Rattle.contacts.specs.ByCodes.{allowed_codes, is_allowed}
use Rattle.contacts.specs.Pairs.{IsPair, ArePairs}
use Rattle.contacts_base.proofs.Members.{Each}
use Rattle.contacts.proofs.PairLemmas.{near_are_pairs}
use Rattle.contacts_base.proofs.Rising.{IsRising, increasing_from_rising, rising_from_increasing, rising_passed}

each_passed : (t : ℕ → Bool) (x : ℕ) (xs : List ℕ) → Each (λ y. x < y) xs → Each (λ y. x < y) (filter t xs)
each_passed t x [] h = tt
each_passed t x (y ∷ ys) h = each_if (t y) x y (filter t ys) h.0 (each_passed t x ys h.1)
  where
    each_if : (b : Bool) (x y : ℕ) (ys : List ℕ) → x < y → Each (λ z. x < z) ys → Each (λ z. x < z) (cond b (y ∷ ys) ys)
    each_if true x y ys lt rest = (lt, rest)
    each_if false x y ys lt rest = rest

rising_filter : (t : ℕ → Bool) (xs : List ℕ) → IsRising xs → IsRising (filter t xs)
rising_filter t [] r = tt
rising_filter t (x ∷ xs) r = rising_passed x (t x) (filter t xs) (each_passed t x xs r.0) (rising_filter t xs r.1)

-- what is left of pairs is pairs
pub filtered_are_pairs : (t : ℕ → Bool) (ps : List Proxy) (codes : List ℕ) → ArePairs ps codes → ArePairs ps (filter t codes)
filtered_are_pairs t ps codes h = record {
  each = All-filter t (IsPair ps) codes h.each;
  rising = increasing_from_rising (filter t codes) (rising_filter t codes (rising_from_increasing codes h.rising));
}

pub allowed_are_pairs : (forbidden : List BodyPair) (ps : List Proxy) → IsProxyList ps → ArePairs ps (allowed_codes forbidden ps)
allowed_are_pairs forbidden ps h = filtered_are_pairs (is_allowed forbidden ps) ps (near_codes ps) (near_are_pairs ps h)
