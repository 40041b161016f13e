use Rattle.std.proofs.Common.{◌≡◌, ◌+◌, ◌∷◌, ap, List, refl, subst, sym, ◌∙◌, arith}
use Rattle.json.specs.Lex.{between, lex, token}
use Rattle.json.specs.Token.{begin_array, begin_object}
use Rattle.loaded_text.specs.Canonical.{Held}
use Rattle.loaded_text.specs.declared.pieces.Piece.{Piece}
use Rattle.loaded_text.proofs.Copied.{Counted, copied_from, item_then, items_end, member_copied, member_then, members_end, no_item_ends, no_items_yet, no_member_ends, no_members_yet}
use Rattle.loaded_text.proofs.Lexemes.{operator_first}
use Rattle.loaded_text.proofs.Parts.{if_some}
use Rattle.loaded_text.proofs.canonical.+copy_value.Goals as goal

-- ---- items

pub copy_items-returns-then-mark : goal.copy_items-returns-then-mark
copy_items-returns-then-mark t c =
    let depth : c.in_ok-inner.inner + 1 ≡ c.args.depth = grind (arith, c.in_ok-inner.ensures) in
    if_some c.put_byte-then-mark.result
    (λ u closed. no_item_ends c.in_ok-inner.inner c.args.depth (lex between c.args.text.now.rest.now) c.mark.new.self.rest.now c.args.out.now.items c.put_byte.new.out.items c.put_byte-then-mark.new.out.items depth c.in_ok-put_byte.ensures closed (c.mark.ensures.taken c.if-mark.true))
    c.put_byte-then-mark.ensures

pub copy_items-loop-init : goal.copy_items-loop-init
copy_items-loop-init t c = no_items_yet c.in_ok-inner.inner (lex between c.mark.new.self.rest.now) c.put_byte.new.out.items

pub copy_items-returns-then-mark-2 : goal.copy_items-returns-then-mark-2
copy_items-returns-then-mark-2 t c =
    let depth : c.in_ok-inner.inner + 1 ≡ c.args.depth = grind (arith, c.in_ok-inner.ensures) in
    let start = lex between c.mark.new.self.rest.now in
    if_some c.close.result
    (λ u closes. copied_from c.args.depth (token begin_array ∷ lex between c.args.text.now.rest.now) (token begin_array ∷ start) (lex between c.mark-then-not-mark.new.self.rest.now) c.args.out.now.items c.close.new.out.items
    (ap (λ l. token begin_array ∷ l) (sym (c.mark.ensures.kept c.if-mark.false)))
    (items_end c.in_ok-inner.inner c.args.depth start (lex between c.loop.text.rest.now) (lex between c.copy_value.new.text.rest.now) c.mark-then-not-mark.new.self.rest.now c.args.out.now.items c.put_byte.new.out.items c.loop.out.items
    c.copy_value.new.out.items c.put_byte-in-loop.new.out.items c.close.new.out.items depth c.in_ok-put_byte.ensures c.loop.invariant c.in_ok-copy_value.ensures c.in_ok-put_byte-2.ensures (sym (c.mark-in-loop.ensures.kept c.if-not-mark.true) ∙ c.mark-then-not-mark.ensures.taken c.if-mark-2.true) closes))
    c.close.ensures

pub copy_items-loop-preserved : goal.copy_items-loop-preserved
copy_items-loop-preserved t c =
    item_then c.in_ok-inner.inner (lex between c.mark.new.self.rest.now) (lex between c.loop.text.rest.now) (lex between c.copy_value.new.text.rest.now) c.mark-in-loop.new.self.rest.now c.put_byte.new.out.items c.loop.out.items c.copy_value.new.out.items
    c.put_byte-in-loop.new.out.items c.loop.invariant c.in_ok-copy_value.ensures c.in_ok-put_byte-2.ensures (c.mark-in-loop.ensures.taken c.if-not-mark.false)

-- ---- members

pub copy_member-returns : goal.copy_member-returns
copy_member-returns t c =
    member_copied c.args.depth c.in_ok-key.key.now c.args.text.now.rest.now c.copy_key.new.text.rest.now (lex between c.copy_value.new.text.rest.now) c.args.out.now.items c.copy_key.new.out.items c.copy_value.new.out.items c.put_byte.new.out.items
    c.in_ok-key.ensures c.in_ok-copy_value.ensures c.in_ok-put_byte.ensures

pub copy_members-returns-then-mark : goal.copy_members-returns-then-mark
copy_members-returns-then-mark t c =
    let depth : c.in_ok-inner.inner + 1 ≡ c.args.depth = grind (arith, c.in_ok-inner.ensures) in
    if_some c.put_byte-then-mark.result
    (λ u closed. no_member_ends c.in_ok-inner.inner c.args.depth (lex between c.args.text.now.rest.now) c.mark.new.self.rest.now c.args.out.now.items c.put_byte.new.out.items c.put_byte-then-mark.new.out.items depth c.in_ok-put_byte.ensures closed (c.mark.ensures.taken c.if-mark.true))
    c.put_byte-then-mark.ensures

pub copy_members-loop-init : goal.copy_members-loop-init
copy_members-loop-init t c = no_members_yet c.in_ok-inner.inner (lex between c.mark.new.self.rest.now) c.put_byte.new.out.items c.in_ok-pieces.pieces.items c.in_ok-pieces.ensures

pub copy_members-returns-then-mark-2 : goal.copy_members-returns-then-mark-2
copy_members-returns-then-mark-2 t c =
    let depth : c.in_ok-inner.inner + 1 ≡ c.args.depth = grind (arith, c.in_ok-inner.ensures) in
    let start = lex between c.mark.new.self.rest.now in
    let count : Counted c.count_bytes-start.result c.in_ok-size.size c.loop.out.items c.copy_member.new.out.items = record { begins = sym c.count_bytes-start.ensures; sum = c.in_ok-size.ensures } in
    let pieces = c.settle.new.pieces.items in
    if_some c.close.result
    (λ u closes. copied_from c.args.depth (token begin_object ∷ lex between c.args.text.now.rest.now) (token begin_object ∷ start) (lex between c.mark-then-not-mark.new.self.rest.now) c.args.out.now.items c.close.new.out.items
    (ap (λ l. token begin_object ∷ l) (sym (c.mark.ensures.kept c.if-mark.false)))
    (members_end c.in_ok-inner.inner start (lex between c.loop.text.rest.now) (lex between c.copy_member.new.text.rest.now) c.in_ok-key.key.now c.put_byte.new.out.items c.loop.out.items c.copy_member.new.out.items c.count_bytes-start.result c.in_ok-size.size
    c.loop.mixed c.in_ok-mixed.mixed c.loop.pieces.items pieces c.loop.invariant c.in_ok-key.ensures count c.in_ok-mixed.ensures c.args.depth c.mark-then-not-mark.new.self.rest.now c.args.out.now.items c.put_in_order.new.out.items c.close.new.out.items depth
    c.in_ok-put_byte.ensures
    (λ l found same held. c.in_ok-put_in_order.ensures l found (same ∙ sym c.count_bytes-front.ensures) (subst (λ (ps : List Piece). Held l found c.in_ok-mixed.mixed ps c.copy_member.new.out.items) (sym c.as_slice.ensures.value) held))
    (sym (c.mark-in-loop.ensures.kept c.if-not-mark.true) ∙ c.mark-then-not-mark.ensures.taken c.if-mark-2.true) closes))
    c.close.ensures

pub copy_members-loop-preserved : goal.copy_members-loop-preserved
copy_members-loop-preserved t c =
    let count : Counted c.count_bytes-start.result c.in_ok-size.size c.loop.out.items c.copy_member.new.out.items = record { begins = sym c.count_bytes-start.ensures; sum = c.in_ok-size.ensures } in
    member_then c.in_ok-inner.inner (lex between c.mark.new.self.rest.now) (lex between c.loop.text.rest.now) (lex between c.copy_member.new.text.rest.now) c.in_ok-key.key.now c.put_byte.new.out.items c.loop.out.items c.copy_member.new.out.items
    c.count_bytes-start.result c.in_ok-size.size c.loop.mixed c.in_ok-mixed.mixed c.loop.pieces.items c.settle.new.pieces.items c.loop.invariant c.in_ok-key.ensures count c.in_ok-mixed.ensures c.mark-in-loop.new.self.rest.now
    (c.mark-in-loop.ensures.taken c.if-not-mark.false)

-- ---- values

pub copy_value-returns-then-mark : goal.copy_value-returns-then-mark
copy_value-returns-then-mark t c =
    if_some c.copy_items.result
    (λ u copied. copied_from c.args.depth (lex between c.args.text.now.rest.now) (token begin_array ∷ lex between c.mark.new.self.rest.now) (lex between c.copy_items.new.text.rest.now) c.args.out.now.items c.copy_items.new.out.items
    (c.mark.ensures.taken c.if-mark.true ∙ operator_first 91 c.mark.new.self.rest.now refl) copied)
    c.copy_items.ensures

pub copy_value-returns-then-mark-2 : goal.copy_value-returns-then-mark-2
copy_value-returns-then-mark-2 t c =
    if_some c.copy_members.result
    (λ u copied. copied_from c.args.depth (lex between c.args.text.now.rest.now) (token begin_object ∷ lex between c.mark-2.new.self.rest.now) (lex between c.copy_members.new.text.rest.now) c.args.out.now.items c.copy_members.new.out.items
    (sym (c.mark.ensures.kept c.if-mark.false) ∙ c.mark-2.ensures.taken c.if-mark-2.true ∙ operator_first 123 c.mark-2.new.self.rest.now refl) copied)
    c.copy_members.ensures
