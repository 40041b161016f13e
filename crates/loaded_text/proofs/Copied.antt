-- Values that are printed as they are read.
use Rattle.std.proofs.Common.{◌≡◌, ℕ, ◌+◌, ◌≤◌, ◌++◌, ◌∷◌, [], Bool, true, false, max, List, length, Option, Some, option_and_then, option_map, refl, sym, ap, subst, ◌∙◌, arith, append_assoc, append-nil, length-append}
use Rattle.std.proofs.lemmas.Bool.{and_from}
use Rattle.json.specs.Json as json
use Rattle.json.specs.Lex.{Lexeme, Place, after_comma, after_value, begins_colon, between, colon, comma, fresh, lex, may_begin, punctuate, token, tokens}
use Rattle.json.specs.Token.{Token, begin_array, begin_object, end_array, end_object}
use Rattle.json.specs.Tree as tree
use Rattle.json.proofs.Printed.Trees.{value-json_tokens}
use Rattle.serde_json.specs.Data.{Data, Members, array, depth, item, items_depth, members_depth, no_members, object, put}
use Rattle.serde_json.specs.Read.{max_depth, of_items, of_json, of_members, read}
use Rattle.serde_json.specs.View.{items_of}
use Rattle.serde_json.specs.Written.{compact_text, items_text, members_text}
use Rattle.saved_text.specs.Whole.{are_items_whole, are_members_whole, is_whole}
use Rattle.loaded_text.specs.Canonical.{Held, IsCanonical, IsCopied, IsKey, IsLeaf, IsMember, IsSorted, ItemsSoFar, MembersSoFar, Named, Told, each_named, each_said, each_value, member_text, named_text, put_all}
use Rattle.loaded_text.specs.declared.pieces.Piece.{Piece}
use Rattle.loaded_text.proofs.Keys.{none_held, object_ends, put_shallow}
use Rattle.loaded_text.proofs.Lexemes.{allowed, key_placed, none_left, operator_first}
use Rattle.loaded_text.proofs.Printed.{read_printed}

-- ---- one value

abbrev deeper : (deep : ℕ) → Told 0 → Told deep
deeper deep t = record { said = t.said; value = t.value; reads = t.reads; said_shallow = omega (arith, t.said_shallow); shallow = omega (arith, t.shallow); whole = t.whole }

pub leaf_copied : (deep : ℕ) (old new before after : List ℕ) → IsLeaf old new → ((part : List ℕ) → old ≡ part ++ new → after ≡ before ++ part) → IsCopied deep (lex between old) (lex between new) before after
leaf_copied deep old new before after leaf copied = record { told = deeper deep leaf.told; tokens = leaf.tokens; printed = copied (compact_text leaf.told.value) leaf.text_is }

-- the same value behind spaces
pub copied_from : (deep : ℕ) (start old new : List Lexeme) (before after : List ℕ) → start ≡ old → IsCopied deep old new before after → IsCopied deep start new before after
copied_from deep start old new before after is h = subst (λ (l : List Lexeme). IsCopied deep l new before after) (sym is) h

no_colon : (t : Lexeme) (mid ls : List Lexeme) → mid ≡ t ∷ ls → begins_colon (t ∷ []) ≡ false → begins_colon mid ≡ false
no_colon (token t) mid ls is h = ap begins_colon is
no_colon comma mid ls is h = ap begins_colon is
no_colon colon mid ls is h = absurd cc

comma_passed : (ls : List Lexeme) → punctuate after_value (comma ∷ ls) ≡ punctuate after_comma ls
unfolding punctuate
comma_passed ls = refl

array_closed : (p : Place) (ls : List Lexeme) → punctuate after_value (token end_array ∷ ls) ≡ end_array ∷ punctuate after_value ls
unfolding punctuate
array_closed p ls = refl

object_closed : (p : Place) (ls : List Lexeme) → punctuate after_value (token end_object ∷ ls) ≡ end_object ∷ punctuate after_value ls
unfolding punctuate
object_closed p ls = refl

array_none : (ls : List Lexeme) → punctuate fresh (token end_array ∷ ls) ≡ end_array ∷ punctuate after_value ls
unfolding punctuate
array_none ls = refl

object_none : (ls : List Lexeme) → punctuate fresh (token end_object ∷ ls) ≡ end_object ∷ punctuate after_value ls
unfolding punctuate
object_none ls = refl

array_opened : (p : Place) (ls : List Lexeme) → may_begin p ≡ true → punctuate p (token begin_array ∷ ls) ≡ begin_array ∷ punctuate fresh ls
unfolding punctuate
array_opened p ls may = allowed (may_begin p) begin_array (λ n. punctuate n ls) fresh may

object_opened : (p : Place) (ls : List Lexeme) → may_begin p ≡ true → punctuate p (token begin_object ∷ ls) ≡ begin_object ∷ punctuate fresh ls
unfolding punctuate
object_opened p ls may = allowed (may_begin p) begin_object (λ n. punctuate n ls) fresh may

-- ---- the items of a list

abbrev said_items : {deep : ℕ} → List (Told deep) → json.Items
said_items [] = json.no_items
said_items (t ∷ ts) = json.item t.said (said_items ts)

abbrev values : {deep : ℕ} → List (Told deep) → List Data
values [] = []
values (t ∷ ts) = t.value ∷ values ts

max_low : (m n k : ℕ) → m ≤ k → n ≤ k → max m n ≤ k
max_low m n k p q = omega (arith, p, q)

option_then : {A B : Type 0} (f : A → Option B) (o : Option A) (a : A) → o ≡ Some a → option_and_then f o ≡ f a
option_then f o a is = rw is refl

module _ {deep : ℕ} where
  items_read : (ts : List (Told deep)) → of_items (said_items ts) ≡ Some (items_of (values ts))
  items_read [] = refl
  items_read (t ∷ ts) = option_then (λ d. option_map (item d) (of_items (said_items ts))) (of_json t.said) t.value t.reads ∙ ap (option_map (item t.value)) (items_read ts)

  items_said_shallow : (ts : List (Told deep)) → tree.items_depth (said_items ts) ≤ deep
  items_said_shallow [] = omega arith
  items_said_shallow (t ∷ ts) = max_low (tree.depth t.said) (tree.items_depth (said_items ts)) deep t.said_shallow (items_said_shallow ts)

  items_shallow : (ts : List (Told deep)) → items_depth (items_of (values ts)) ≤ deep
  items_shallow [] = omega arith
  items_shallow (t ∷ ts) = max_low (depth t.value) (items_depth (items_of (values ts))) deep t.shallow (items_shallow ts)

  items_whole : (ts : List (Told deep)) → are_items_whole (items_of (values ts)) ≡ true
  items_whole [] = refl
  items_whole (t ∷ ts) = and_from (is_whole t.value) (are_items_whole (items_of (values ts))) t.whole (items_whole ts)

  each_said_more : (ts : List (Told deep)) (t : Told deep) → each_said (ts ++ t ∷ []) ≡ each_said ts ++ tree.json_tokens t.said
  each_said_more [] t = append-nil (tree.json_tokens t.said)
  each_said_more (u ∷ ts) t = ap (λ l. tree.json_tokens u.said ++ l) (each_said_more ts t) ∙ sym (append_assoc (tree.json_tokens u.said) (each_said ts) (tree.json_tokens t.said))

  each_value_more : (ts : List (Told deep)) (t : Told deep) → each_value (ts ++ t ∷ []) ≡ each_value ts ++ (compact_text t.value ++ 44 ∷ [])
  each_value_more [] t = refl
  each_value_more (u ∷ ts) t = ap (λ l. compact_text u.value ++ 44 ∷ l) (each_value_more ts t) ∙ sym (append_assoc (compact_text u.value) (44 ∷ each_value ts) (compact_text t.value ++ 44 ∷ []))

  said_closed : (ts : List (Told deep)) (r : List Token) → each_said ts ++ end_array ∷ r ≡ tree.items_tokens (said_items ts) ++ r
  said_closed [] r = refl
  said_closed (t ∷ ts) r =
      append_assoc (tree.json_tokens t.said) (each_said ts) (end_array ∷ r) ∙ ap (λ l. tree.json_tokens t.said ++ l) (said_closed ts r)
      ∙ sym (append_assoc (tree.json_tokens t.said) (tree.items_tokens (said_items ts)) r)

  -- the last comma becomes the bracket
  values_closed : (ts : List (Told deep)) (t : Told deep) → items_text false (items_of (values (ts ++ t ∷ []))) ≡ each_value ts ++ (compact_text t.value ++ 93 ∷ [])
  values_closed [] t = refl
  values_closed (u ∷ []) t = sym (append_assoc (compact_text u.value) (44 ∷ []) (compact_text t.value ++ 93 ∷ []))
  values_closed (u ∷ v ∷ ts) t =
      ap (λ l. compact_text u.value ++ 44 ∷ l) (values_closed (v ∷ ts) t)
      ∙ sym (append_assoc (compact_text u.value) (44 ∷ each_value (v ∷ ts)) (compact_text t.value ++ 93 ∷ []))

  abbrev array_told : (ts : List (Told deep)) (depth_is : ℕ) → deep + 1 ≡ depth_is → Told depth_is
  array_told ts k is = record {
    said = json.array (said_items ts);
    value = array (items_of (values ts));
    reads = ap (option_map array) (items_read ts);
    said_shallow = omega (arith, is, items_said_shallow ts);
    shallow = omega (arith, is, items_shallow ts);
    whole = items_whole ts;
  }

pub no_items_yet : (deep : ℕ) (start : List Lexeme) (front : List ℕ) → ItemsSoFar deep start start front front
no_items_yet deep start front = record { items = []; place = fresh; begins = refl; tokens = refl; printed = sym (append-nil front) }

pub item_then : (deep : ℕ) (start now mid : List Lexeme) (next front out one two : List ℕ) → ItemsSoFar deep start now front out → IsCopied deep now mid out one → two ≡ one ++ 44 ∷ [] → mid ≡ lex between (44 ∷ next) → ItemsSoFar deep start (lex between next) front two
item_then deep start now mid next front out one two so_far copied pushed marked =
    let t = copied.told in
    let mark : mid ≡ comma ∷ lex between next = marked ∙ operator_first 44 next refl in
    record {
      items = so_far.items ++ t ∷ [];
      place = after_comma;
      begins = refl;
      tokens =
          so_far.tokens ∙ ap (λ l. each_said so_far.items ++ l) (copied.tokens so_far.place so_far.begins (no_colon comma mid _ mark refl))
          ∙ ap (λ l. each_said so_far.items ++ (tree.json_tokens t.said ++ l)) (ap (punctuate after_value) mark ∙ comma_passed (lex between next))
          ∙ sym (append_assoc (each_said so_far.items) (tree.json_tokens t.said) (punctuate after_comma (lex between next)))
          ∙ ap (λ l. l ++ punctuate after_comma (lex between next)) (sym (each_said_more so_far.items t));
      printed =
          pushed ∙ ap (λ l. l ++ 44 ∷ []) (copied.printed ∙ ap (λ l. l ++ compact_text t.value) so_far.printed)
          ∙ append_assoc (front ++ each_value so_far.items) (compact_text t.value) (44 ∷ []) ∙ append_assoc front (each_value so_far.items) (compact_text t.value ++ 44 ∷ [])
          ∙ ap (λ l. front ++ l) (sym (each_value_more so_far.items t));
    }

pub items_end : (deep above : ℕ) (start now mid : List Lexeme) (next before front out one two three : List ℕ) → deep + 1 ≡ above → front ≡ before ++ 91 ∷ [] → ItemsSoFar deep start now front out → IsCopied deep now mid out one → two ≡ one ++ 44 ∷ []
    → mid ≡ lex between (93 ∷ next) → ((l : List ℕ) (byte : ℕ) → two ≡ l ++ byte ∷ [] → three ≡ l ++ 93 ∷ []) → IsCopied above (token begin_array ∷ start) (lex between next) before three
items_end deep above start now mid next before front out one two three deeper opened so_far copied pushed marked closes =
    let t = copied.told in
    let ts = so_far.items ++ t ∷ [] in
    let mark : mid ≡ token end_array ∷ lex between next = marked ∙ operator_first 93 next refl in
    let after = punctuate after_value (lex between next) in
    record {
      told = array_told ts above deeper;
      tokens = λ p may none.
          array_opened p start may
          ∙ ap (λ l. begin_array ∷ l)
          (so_far.tokens ∙ ap (λ l. each_said so_far.items ++ l) (copied.tokens so_far.place so_far.begins (no_colon (token end_array) mid _ mark refl))
          ∙ ap (λ l. each_said so_far.items ++ (tree.json_tokens t.said ++ l)) (ap (punctuate after_value) mark ∙ array_closed fresh (lex between next))
          ∙ sym (append_assoc (each_said so_far.items) (tree.json_tokens t.said) (end_array ∷ after))
          ∙ ap (λ l. l ++ end_array ∷ after) (sym (each_said_more so_far.items t)) ∙ said_closed ts after);
      printed =
          closes one 44 pushed ∙ ap (λ l. l ++ 93 ∷ []) (copied.printed ∙ ap (λ l. l ++ compact_text t.value) so_far.printed)
          ∙ append_assoc (front ++ each_value so_far.items) (compact_text t.value) (93 ∷ []) ∙ append_assoc front (each_value so_far.items) (compact_text t.value ++ 93 ∷ [])
          ∙ ap (λ l. front ++ l) (sym (values_closed so_far.items t)) ∙ ap (λ l. l ++ items_text false (items_of (values ts))) opened
          ∙ append_assoc before (91 ∷ []) (items_text false (items_of (values ts)));
    }

pub no_item_ends : (deep above : ℕ) (start : List Lexeme) (next before front out : List ℕ) → deep + 1 ≡ above → front ≡ before ++ 91 ∷ [] → out ≡ front ++ 93 ∷ [] → start ≡ lex between (93 ∷ next) → IsCopied above (token begin_array ∷ start) (lex between next) before out
no_item_ends deep above start next before front out deeper opened closed marked = record {
  told = array_told {deep = deep} [] above deeper;
  tokens = λ p may none. array_opened p start may ∙ ap (λ l. begin_array ∷ l) (ap (punctuate fresh) (marked ∙ operator_first 93 next refl) ∙ array_none (lex between next));
  printed = closed ∙ ap (λ l. l ++ 93 ∷ []) opened ∙ append_assoc before (91 ∷ []) (93 ∷ []);
}

-- ---- the members of an object

abbrev said_members : {deep : ℕ} → List (Named deep) → json.Members
said_members [] = json.no_members
said_members (m ∷ ms) = json.member m.key m.told.said (said_members ms)

module _ {deep : ℕ} where
  members_read : (ms : List (Named deep)) (found : Members) → of_members (said_members ms) found ≡ Some (put_all ms found)
  members_read [] found = refl
  members_read (m ∷ ms) found = option_then (λ d. of_members (said_members ms) (put m.key d found)) (of_json m.told.said) m.told.value m.told.reads ∙ members_read ms (put m.key m.told.value found)

  members_said_shallow : (ms : List (Named deep)) → tree.members_depth (said_members ms) ≤ deep
  members_said_shallow [] = omega arith
  members_said_shallow (m ∷ ms) = max_low (tree.depth m.told.said) (tree.members_depth (said_members ms)) deep m.told.said_shallow (members_said_shallow ms)

  members_shallow : (ms : List (Named deep)) (found : Members) → members_depth found ≤ deep → members_depth (put_all ms found) ≤ deep
  members_shallow [] found low = low
  members_shallow (m ∷ ms) found low = members_shallow ms (put m.key m.told.value found) (put_shallow m.key m.told.value found deep m.told.shallow low)

  put_all_more : (ms : List (Named deep)) (m : Named deep) (found : Members) → put_all (ms ++ m ∷ []) found ≡ put m.key m.told.value (put_all ms found)
  put_all_more [] m found = refl
  put_all_more (n ∷ ms) m found = put_all_more ms m (put n.key n.told.value found)

  each_named_more : (ms : List (Named deep)) (m : Named deep) → each_named (ms ++ m ∷ []) ≡ each_named ms ++ Token.key m.key ∷ tree.json_tokens m.told.said
  each_named_more [] m = ap (λ l. Token.key m.key ∷ l) (append-nil (tree.json_tokens m.told.said))
  each_named_more (n ∷ ms) m =
      ap (λ l. Token.key n.key ∷ (tree.json_tokens n.told.said ++ l)) (each_named_more ms m)
      ∙ ap (λ l. Token.key n.key ∷ l) (sym (append_assoc (tree.json_tokens n.told.said) (each_named ms) (Token.key m.key ∷ tree.json_tokens m.told.said)))

  named_closed : (ms : List (Named deep)) (r : List Token) → each_named ms ++ end_object ∷ r ≡ tree.members_tokens (said_members ms) ++ r
  named_closed [] r = refl
  named_closed (m ∷ ms) r =
      ap (λ l. Token.key m.key ∷ l)
      (append_assoc (tree.json_tokens m.told.said) (each_named ms) (end_object ∷ r) ∙ ap (λ l. tree.json_tokens m.told.said ++ l) (named_closed ms r)
      ∙ sym (append_assoc (tree.json_tokens m.told.said) (tree.members_tokens (said_members ms)) r))

  abbrev object_told : (ms : List (Named deep)) (above : ℕ) → deep + 1 ≡ above → are_members_whole (put_all ms no_members) ≡ true → Told above
  object_told ms above is whole = record {
    said = json.object (said_members ms);
    value = object (put_all ms no_members);
    reads = ap (option_map object) (members_read ms no_members);
    said_shallow = omega (arith, is, members_said_shallow ms);
    shallow = omega (arith, is, members_shallow ms no_members (omega arith));
    whole = whole;
  }

pub member_copied : (deep : ℕ) (key old mid : List ℕ) (new : List Lexeme) (before one two three : List ℕ) → IsKey key old mid before one → IsCopied deep (lex between mid) new one two → three ≡ two ++ 44 ∷ [] → IsMember deep key (lex between old) new before three
member_copied deep key old mid new before one two three named copied pushed = record {
  told = copied.told;
  tokens = λ p may none.
      ap (punctuate p) named.lexemes ∙ key_placed p key (lex between mid) may ∙ ap (λ l. Token.key key ∷ l) (copied.tokens fresh refl none);
  printed =
      pushed ∙ ap (λ l. l ++ 44 ∷ []) (copied.printed ∙ ap (λ l. l ++ compact_text copied.told.value) named.printed)
      ∙ append_assoc (before ++ named_text key) (compact_text copied.told.value) (44 ∷ []) ∙ append_assoc before (named_text key) (compact_text copied.told.value ++ 44 ∷ []);
}

pub no_members_yet : (deep : ℕ) (start : List Lexeme) (front : List ℕ) (pieces : List Piece) → pieces ≡ [] → MembersSoFar deep start start front false pieces front
no_members_yet deep start front pieces none = record {
  members = [];
  place = fresh;
  begins = refl;
  tokens = refl;
  held = subst (λ (ps : List Piece). Held front no_members false ps front) (sym none) (none_held front);
}

-- what was settled of a member
abbrev pub Settles : List ℕ → ℕ → ℕ → Bool → Bool → List Piece → List Piece → Type 0
Settles key start size mixed now_mixed pieces new_pieces =
    (front before after : List ℕ) (found : Members) (d : Data) → Held front found mixed pieces before → is_whole d ≡ true → after ≡ before ++ member_text (key, d) → length before ≡ start → size ≡ length (member_text (key, d))
    → Held front (put key d found) now_mixed new_pieces after

size_of : (before part out : List ℕ) (start size : ℕ) → out ≡ before ++ part → length before ≡ start → start + size ≡ length out → size ≡ length part
size_of before part out start size is starts sum = let all = ap length is ∙ length-append before part in omega (arith, sum, all, starts)

-- a member whose bytes are counted
pub record Counted (start size : ℕ) (before after : List ℕ) : Type 0 where
  pub begins : length before ≡ start
  pub sum : start + size ≡ length after

module _ (deep : ℕ) (start now mid : List Lexeme) (key front out one : List ℕ) (begin size : ℕ) (mixed now_mixed : Bool) (pieces new_pieces : List Piece) (so_far : MembersSoFar deep start now front mixed pieces out) (m : IsMember deep key now mid out one)
    (count : Counted begin size out one) (settles : Settles key begin size mixed now_mixed pieces new_pieces) where
  abbrev named : Named deep
  named = record { key = key; told = m.told }

  abbrev found : Members
  found = put_all so_far.members no_members

  held_more : Held front (put key m.told.value found) now_mixed new_pieces one
  held_more = settles front out one found m.told.value so_far.held m.told.whole m.printed count.begins (size_of out (member_text (key, m.told.value)) one begin size m.printed count.begins count.sum)

  pub member_then : (next : List ℕ) → mid ≡ lex between (44 ∷ next) → MembersSoFar deep start (lex between next) front now_mixed new_pieces one
  member_then next marked =
      let mark : mid ≡ comma ∷ lex between next = marked ∙ operator_first 44 next refl in
      record {
        members = so_far.members ++ named ∷ [];
        place = after_comma;
        begins = refl;
        tokens =
            so_far.tokens ∙ ap (λ l. each_named so_far.members ++ l) (m.tokens so_far.place so_far.begins (no_colon comma mid _ mark refl))
            ∙ ap (λ l. each_named so_far.members ++ Token.key key ∷ (tree.json_tokens m.told.said ++ l)) (ap (punctuate after_value) mark ∙ comma_passed (lex between next))
            ∙ sym (append_assoc (each_named so_far.members) (Token.key key ∷ tree.json_tokens m.told.said) (punctuate after_comma (lex between next)))
            ∙ ap (λ l. l ++ punctuate after_comma (lex between next)) (sym (each_named_more so_far.members named));
        held = subst (λ (ms : Members). Held front ms now_mixed new_pieces one) (sym (put_all_more so_far.members named no_members)) held_more;
      }

  pub members_end : (above : ℕ) (next before two three : List ℕ) → deep + 1 ≡ above → front ≡ before ++ 123 ∷ []
      → ((l : List ℕ) (found : Members) → length l ≡ length front → Held l found now_mixed new_pieces one → IsSorted l found two) → mid ≡ lex between (125 ∷ next)
      → ((l : List ℕ) (byte : ℕ) → two ≡ l ++ byte ∷ [] → three ≡ l ++ 125 ∷ []) → IsCopied above (token begin_object ∷ start) (lex between next) before three
  members_end above next before two three deeper opened sorts marked closes =
      let all = so_far.members ++ named ∷ [] in
      let same = put_all_more so_far.members named no_members in
      let mark : mid ≡ token end_object ∷ lex between next = marked ∙ operator_first 125 next refl in
      let after = punctuate after_value (lex between next) in
      let held = held_more in
      let ends = object_ends front key m.told.value found two (sorts front (put key m.told.value found) refl held) in
      record {
        told = object_told all above deeper (ap are_members_whole (same ∙ held.is) ∙ held.whole);
        tokens = λ p may none.
            object_opened p start may
            ∙ ap (λ l. begin_object ∷ l)
            (so_far.tokens ∙ ap (λ l. each_named so_far.members ++ l) (m.tokens so_far.place so_far.begins (no_colon (token end_object) mid _ mark refl))
            ∙ ap (λ l. each_named so_far.members ++ Token.key key ∷ (tree.json_tokens m.told.said ++ l)) (ap (punctuate after_value) mark ∙ object_closed fresh (lex between next))
            ∙ sym (append_assoc (each_named so_far.members) (Token.key key ∷ tree.json_tokens m.told.said) (end_object ∷ after))
            ∙ ap (λ l. l ++ end_object ∷ after) (sym (each_named_more so_far.members named)) ∙ named_closed all after);
        printed =
            closes ends.body 44 ends.with_comma ∙ ends.with_brace ∙ ap (λ ms. front ++ members_text false ms) (sym same) ∙ ap (λ l. l ++ members_text false (put_all all no_members)) opened
            ∙ append_assoc before (123 ∷ []) (members_text false (put_all all no_members));
      }

pub no_member_ends : (deep above : ℕ) (start : List Lexeme) (next before front out : List ℕ) → deep + 1 ≡ above → front ≡ before ++ 123 ∷ [] → out ≡ front ++ 125 ∷ [] → start ≡ lex between (125 ∷ next) → IsCopied above (token begin_object ∷ start) (lex between next) before out
no_member_ends deep above start next before front out deeper opened closed marked = record {
  told = object_told {deep = deep} [] above deeper refl;
  tokens = λ p may none. object_opened p start may ∙ ap (λ l. begin_object ∷ l) (ap (punctuate fresh) (marked ∙ operator_first 125 next refl) ∙ object_none (lex between next));
  printed = closed ∙ ap (λ l. l ++ 125 ∷ []) opened ∙ append_assoc before (123 ∷ []) (125 ∷ []);
}

-- ---- the whole text

said_read : (t : Told 8) (text : List ℕ) → tokens text ≡ tree.json_tokens t.said → read text ≡ Some t.value
said_read t text is =
    let low = t.said_shallow in
    let deep : tree.depth t.said ≤ max_depth = omega (arith, low) in
    ap (λ p. option_and_then of_json (option_and_then (λ p. json.if_last p.0 p.1) p)) (ap (json.value max_depth) (is ∙ sym (append-nil (tree.json_tokens t.said))) ∙ value-json_tokens t.said max_depth [] deep)
    ∙ t.reads

ended : punctuate after_value [] ≡ []
unfolding punctuate
ended = refl

pub canonical_is : (text rest out : List ℕ) (now : List Lexeme) → lex between rest ≡ now → rest ≡ [] → IsCopied 8 (lex between text) now [] out → IsCanonical text out
canonical_is text rest out now passed none copied =
    let t = copied.told in
    let nothing : now ≡ [] = sym passed ∙ ap (lex between) none ∙ none_left in
    let low = t.shallow in
    record {
      value = t.value;
      text_is = said_read t text (copied.tokens fresh refl (ap begins_colon nothing) ∙ ap (λ l. tree.json_tokens t.said ++ l) (ap (punctuate after_value) nothing ∙ ended) ∙ append-nil (tree.json_tokens t.said));
      out_is = read_printed t.value out t.whole (omega (arith, low)) copied.printed;
    }
