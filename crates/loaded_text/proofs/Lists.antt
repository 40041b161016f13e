-- Items that are read one after another.
use Rattle.std.proofs.Common.{◌≡◌, ℕ, suc, ◌+◌, ◌≤◌, ◌==◌, ◌++◌, ◌∷◌, [], max, not, List, length, refl, sym, ap, ◌∙◌, arith, append_assoc, length-append}
use Rattle.serde_json.specs.Data.{Data, depth, items_depth}
use Rattle.serde_json.specs.Events.{items_len}
use Rattle.serde_json.specs.View.{items_of}
use Rattle.serde_json.specs.Written.{comma_if}
use Rattle.world_file_base.specs.Asks.{Ask}
use Rattle.world_file_base.specs.Written.{list_data}
use Rattle.world_file_base.specs.declared.reader.Reader.{Reader}
use Rattle.loaded_text.specs.Stands.{ItemsStand, Stands}
use Rattle.loaded_text.proofs.Joined.{item_more, list_stands, no_item}

-- so many items, none deeper than this
pub record ItemsSoFar (deep n : ℕ) (ds : List Data) (text rest : List ℕ) : Type 0 where
  pub count : length ds ≡ n
  pub stand : ItemsStand ds text rest
  pub shallow : items_depth (items_of ds) ≤ deep

pub none_so_far : (deep : ℕ) (a : List ℕ) → ItemsSoFar deep 0 [] a a
none_so_far deep a = record { count = refl; stand = no_item a; shallow = omega arith }

max_low : (m n k : ℕ) → m ≤ k → n ≤ k → max m n ≤ k
max_low m n k p q = omega (arith, p, q)

max_parts : (m n k : ℕ) → max m n ≤ k → (m ≤ k) × (n ≤ k)
max_parts m n k h = (omega (arith, h), omega (arith, h))

depth_more : (deep : ℕ) (ds : List Data) (d : Data) → items_depth (items_of ds) ≤ deep → depth d ≤ deep → items_depth (items_of (ds ++ (d ∷ []))) ≤ deep
depth_more deep [] d p q = max_low (depth d) 0 deep q (omega arith)
depth_more deep (e ∷ ds) d p q =
    let parts = max_parts (depth e) (items_depth (items_of ds)) deep p in
    max_low (depth e) (items_depth (items_of (ds ++ (d ∷ [])))) deep parts.0 (depth_more deep ds d parts.1 q)

pub one_more : (deep n : ℕ) (ds : List Data) (d : Data) (a b c e : List ℕ) → ItemsSoFar deep n ds a b → b ≡ comma_if (not (n == 0)) ++ c → Stands [] d c e → depth d ≤ deep → ItemsSoFar deep (n + 1) (ds ++ (d ∷ [])) a e
one_more deep n ds d a b c e before comma h shallow = record {
  count = length-append ds (d ∷ []) ∙ ap (λ k. k + 1) before.count;
  stand = item_more ds d n a b c e before.stand before.count comma h;
  shallow = depth_more deep ds d before.shallow shallow;
}

pub list_ends : (lead : List ℕ) (deep n : ℕ) (ds : List Data) (a b c d e : List ℕ) → a ≡ lead ++ b → b ≡ 91 ∷ c → ItemsSoFar deep n ds c d → d ≡ 93 ∷ e → Stands lead (list_data ds) a e
list_ends lead deep n ds a b c d e before begun items close = list_stands lead ds a b c d e before begun items.stand close

pub list_shallow : (deep n : ℕ) (ds : List Data) (a b : List ℕ) → ItemsSoFar deep n ds a b → depth (list_data ds) ≤ suc deep
list_shallow deep n ds a b items = let low = items.shallow in omega (arith, low)

pub items_count : (ds : List Data) → items_len (items_of ds) ≡ length ds
items_count [] = refl
items_count (d ∷ ds) = ap (λ n. suc n) (items_count ds)

-- what was added, and one more
pub added_more : {X : Type 0} (old now next more more_next : List X) (x : X) → now ≡ old ++ more → next ≡ now ++ (x ∷ []) → more_next ≡ more ++ (x ∷ []) → next ≡ old ++ more_next
added_more old now next more more_next x before is new = is ∙ ap (λ l. l ++ (x ∷ [])) before ∙ append_assoc old more (x ∷ []) ∙ ap (λ l. old ++ l) (sym new)

-- one question after those before
pub asked_more : (before next all : Ask) (r : Reader) → before r ≡ r → next r ≡ r → all r ≡ next (before r) → all r ≡ r
asked_more before next all r first second is = is ∙ ap next first ∙ second
