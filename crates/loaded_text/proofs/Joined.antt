-- Members and items that stand one after another.
use Rattle.std.proofs.Common.{◌≡◌, ℕ, ◌==◌, ◌&&◌, ◌++◌, ◌∷◌, [], Bool, true, false, not, List, length, refl, sym, ap, ◌∙◌, arith, append_assoc, append-nil}
use Rattle.std.proofs.lemmas.Bool.{and_from, and_parts, ne_eqb}
use Rattle.json.specs.Print.{quoted}
use Rattle.saved_text.specs.Tokens.{are_whole, have_whole, in_order}
use Rattle.saved_text.specs.Whole.{are_items_whole, are_members_whole, is_whole}
use Rattle.serde_json.specs.Data.{Data, object, string}
use Rattle.serde_json.specs.View.{items_of}
use Rattle.serde_json.specs.Written.{comma_if, compact_text, items_text, members_text}
use Rattle.world_file_base.specs.Written.{Member, list_data, pair_data}
use Rattle.loaded_text.specs.Stands.{ItemsStand, MembersStand, Stands, joined_items, joined_members, key_text}

-- ---- members

pub no_member : (later : Bool) (a : List ℕ) → MembersStand later [] a a
no_member later a = record { text_is = refl; whole = refl }

pub member_then : (later : Bool) (lead k : List ℕ) (d : Data) (ms : List Member) (a b c : List ℕ) → lead ≡ key_text later k → Stands lead d a b → MembersStand true ms b c → MembersStand later ((k, d) ∷ ms) a c
member_then later lead k d ms a b c is h more = record {
  text_is =
      h.text_is ∙ ap (λ l. l ++ (compact_text d ++ b)) is
      ∙ ap (λ l. key_text later k ++ (compact_text d ++ l)) more.text_is
      ∙ ap (λ l. key_text later k ++ l) (sym (append_assoc (compact_text d) (joined_members true ms) c))
      ∙ sym (append_assoc (key_text later k) (compact_text d ++ joined_members true ms) c);
  whole = and_from (is_whole d) (have_whole ms) h.whole more.whole;
}

joined_both : (ms ns : List Member) → joined_members true (ms ++ ns) ≡ joined_members true ms ++ joined_members true ns
joined_both [] ns = refl
joined_both (m ∷ ms) ns =
    ap (λ l. key_text true m.0 ++ (compact_text m.1 ++ l)) (joined_both ms ns)
    ∙ ap (λ l. key_text true m.0 ++ l) (sym (append_assoc (compact_text m.1) (joined_members true ms) (joined_members true ns)))
    ∙ sym (append_assoc (key_text true m.0) (compact_text m.1 ++ joined_members true ms) (joined_members true ns))

joined_after : (later : Bool) (m : Member) (ms ns : List Member) → joined_members later (m ∷ (ms ++ ns)) ≡ joined_members later (m ∷ ms) ++ joined_members true ns
joined_after later m ms ns =
    ap (λ l. key_text later m.0 ++ (compact_text m.1 ++ l)) (joined_both ms ns)
    ∙ ap (λ l. key_text later m.0 ++ l) (sym (append_assoc (compact_text m.1) (joined_members true ms) (joined_members true ns)))
    ∙ sym (append_assoc (key_text later m.0) (compact_text m.1 ++ joined_members true ms) (joined_members true ns))

whole_both : (ms ns : List Member) → have_whole ms ≡ true → have_whole ns ≡ true → have_whole (ms ++ ns) ≡ true
whole_both [] ns p q = q
whole_both (m ∷ ms) ns p q =
    let parts = and_parts (is_whole m.1) (have_whole ms) p in
    and_from (is_whole m.1) (have_whole (ms ++ ns)) parts.0 (whole_both ms ns parts.1 q)

pub members_then : (later : Bool) (m : Member) (ms ns : List Member) (a b c : List ℕ) → MembersStand later (m ∷ ms) a b → MembersStand true ns b c → MembersStand later (m ∷ (ms ++ ns)) a c
members_then later m ms ns a b c first second = record {
  text_is =
      first.text_is ∙ ap (λ l. joined_members later (m ∷ ms) ++ l) second.text_is
      ∙ sym (append_assoc (joined_members later (m ∷ ms)) (joined_members true ns) c)
      ∙ ap (λ l. l ++ c) (sym (joined_after later m ms ns));
  whole = whole_both (m ∷ ms) ns first.whole second.whole;
}

members_end : (later : Bool) (ms : List Member) → members_text later (in_order ms) ≡ joined_members later ms ++ (125 ∷ [])
members_end later [] = refl
members_end later (m ∷ ms) =
    ap (λ l. comma_if later ++ (quoted m.0 ++ 58 ∷ (compact_text m.1 ++ l))) (members_end true ms)
    ∙ ap (λ l. comma_if later ++ (quoted m.0 ++ 58 ∷ l)) (sym (append_assoc (compact_text m.1) (joined_members true ms) (125 ∷ [])))
    ∙ key_first later m.0 ((compact_text m.1 ++ joined_members true ms) ++ (125 ∷ []))
    ∙ sym (append_assoc (key_text later m.0) (compact_text m.1 ++ joined_members true ms) (125 ∷ []))
  where
    key_first : (later : Bool) (k rest : List ℕ) → comma_if later ++ (quoted k ++ 58 ∷ rest) ≡ key_text later k ++ rest
    key_first later k rest =
        ap (λ l. comma_if later ++ l) (sym (append_assoc (quoted k) (58 ∷ []) rest))
        ∙ sym (append_assoc (comma_if later) (quoted k ++ 58 ∷ []) rest)

-- an object, whose keys ascend
pub object_stands : (lead : List ℕ) (ms : List Member) (a b c d e : List ℕ) → a ≡ lead ++ b → b ≡ 123 ∷ c → MembersStand false ms c d → d ≡ 125 ∷ e → are_members_whole (in_order ms) ≡ have_whole ms → Stands lead (object (in_order ms)) a e
object_stands lead ms a b c d e before begun members close ascends = record {
  text_is =
      before ∙ ap (λ l. lead ++ l)
      (begun ∙ ap (λ l. 123 ∷ l) (members.text_is ∙ ap (λ l. joined_members false ms ++ l) close ∙ sym (append_assoc (joined_members false ms) (125 ∷ []) e) ∙ ap (λ l. l ++ e) (sym (members_end false ms))));
  whole = ascends ∙ members.whole;
}

-- ---- items

joined_one_more : (ds : List Data) (d : Data) → joined_items true (ds ++ (d ∷ [])) ≡ joined_items true ds ++ (comma_if true ++ compact_text d)
joined_one_more [] d = ap (λ l. comma_if true ++ l) (append-nil (compact_text d))
joined_one_more (e ∷ ds) d =
    ap (λ l. comma_if true ++ (compact_text e ++ l)) (joined_one_more ds d)
    ∙ ap (λ l. comma_if true ++ l) (sym (append_assoc (compact_text e) (joined_items true ds) (comma_if true ++ compact_text d)))
    ∙ sym (append_assoc (comma_if true) (compact_text e ++ joined_items true ds) (comma_if true ++ compact_text d))

-- the first item has no comma before it
joined_next : (ds : List Data) (d : Data) → joined_items false (ds ++ (d ∷ [])) ≡ joined_items false ds ++ (comma_if (not (length ds == 0)) ++ compact_text d)
joined_next [] d = append-nil (compact_text d)
joined_next (e ∷ ds) d =
    let later : (length (e ∷ ds) == 0) ≡ false = ne_eqb (length (e ∷ ds)) 0 (λ e. omega (arith, e)) in
    ap (λ l. compact_text e ++ l) (joined_one_more ds d)
    ∙ sym (append_assoc (compact_text e) (joined_items true ds) (comma_if true ++ compact_text d))
    ∙ ap (λ (b : Bool). joined_items false (e ∷ ds) ++ (comma_if (not b) ++ compact_text d)) (sym later)

all_whole : (ds : List Data) (d : Data) → are_whole ds ≡ true → is_whole d ≡ true → are_whole (ds ++ (d ∷ [])) ≡ true
all_whole [] d p q = and_from (is_whole d) true q refl
all_whole (e ∷ ds) d p q =
    let parts = and_parts (is_whole e) (are_whole ds) p in
    and_from (is_whole e) (are_whole (ds ++ (d ∷ []))) parts.0 (all_whole ds d parts.1 q)

pub no_item : (a : List ℕ) → ItemsStand [] a a
no_item a = record { text_is = refl; whole = refl }

pub item_more : (ds : List Data) (d : Data) (n : ℕ) (a b c e : List ℕ) → ItemsStand ds a b → length ds ≡ n → b ≡ comma_if (not (n == 0)) ++ c → Stands [] d c e → ItemsStand (ds ++ (d ∷ [])) a e
item_more ds d n a b c e before count comma h =
    let lead = comma_if (not (length ds == 0)) in
    let next : b ≡ lead ++ c = comma ∙ ap (λ k. comma_if (not (k == 0)) ++ c) (sym count) in
    record {
      text_is =
          before.text_is ∙ ap (λ l. joined_items false ds ++ l) (next ∙ ap (λ l. lead ++ l) h.text_is ∙ sym (append_assoc lead (compact_text d) e))
          ∙ sym (append_assoc (joined_items false ds) (lead ++ compact_text d) e)
          ∙ ap (λ l. l ++ e) (sym (joined_next ds d));
      whole = all_whole ds d before.whole h.whole;
    }

items_end : (later : Bool) (ds : List Data) → items_text later (items_of ds) ≡ joined_items later ds ++ (93 ∷ [])
items_end later [] = refl
items_end later (d ∷ ds) =
    ap (λ l. comma_if later ++ (compact_text d ++ l)) (items_end true ds)
    ∙ ap (λ l. comma_if later ++ l) (sym (append_assoc (compact_text d) (joined_items true ds) (93 ∷ [])))
    ∙ sym (append_assoc (comma_if later) (compact_text d ++ joined_items true ds) (93 ∷ []))

items_whole : (ds : List Data) → are_items_whole (items_of ds) ≡ are_whole ds
items_whole [] = refl
items_whole (d ∷ ds) = ap (λ t. is_whole d && t) (items_whole ds)

pub list_stands : (lead : List ℕ) (ds : List Data) (a b c d e : List ℕ) → a ≡ lead ++ b → b ≡ 91 ∷ c → ItemsStand ds c d → d ≡ 93 ∷ e → Stands lead (list_data ds) a e
list_stands lead ds a b c d e before begun items close = record {
  text_is =
      before ∙ ap (λ l. lead ++ l)
      (begun ∙ ap (λ l. 91 ∷ l) (items.text_is ∙ ap (λ l. joined_items false ds ++ l) close ∙ sym (append_assoc (joined_items false ds) (93 ∷ []) e) ∙ ap (λ l. l ++ e) (sym (items_end false ds))));
  whole = items_whole ds ∙ items.whole;
}

-- a list of two
pub pair_stands : (lead : List ℕ) (p q : Data) (a b c d e : List ℕ) → a ≡ lead ++ b → Stands (91 ∷ []) p b c → Stands (44 ∷ []) q c d → d ≡ 93 ∷ e → Stands lead (pair_data p q) a e
pair_stands lead p q a b c d e before first second close =
    let one : ItemsStand (p ∷ []) (compact_text p ++ c) c = record { text_is = ap (λ l. l ++ c) (sym (append-nil (compact_text p))); whole = and_from (is_whole p) true first.whole refl } in
    let two = item_more (p ∷ []) q 1 (compact_text p ++ c) c (compact_text q ++ d) d one refl second.text_is (record { text_is = refl; whole = second.whole }) in
    list_stands lead (p ∷ q ∷ []) a b (compact_text p ++ c) d e before first.text_is two close

-- a text that stands as it is printed
pub literal_stands : (lead t a b c : List ℕ) → a ≡ lead ++ b → b ≡ quoted t ++ c → Stands lead (string t) a c
literal_stands lead t a b c before is = record { text_is = before ∙ ap (λ l. lead ++ l) is; whole = refl }
