use Rattle.std.proofs.Common.{◌≡◌, ℕ, List, slice_set, sym, subst}
use Rattle.packed_sets.specs.declared.linked_sets.Link.{Link}
use Rattle.packed_sets.specs.declared.items.TheConstants.{NO_ITEM}
use Rattle.packed_sets.specs.Packs.{IsPut}
use Rattle.packed_sets.specs.Linked.{head_at}
use Rattle.packed_sets.specs.Linked.{with_before, sets_of, AreLinked}
use Rattle.packed_sets.proofs.RoomLaws.{read_at}
use Rattle.packed_sets.proofs.LinkLaws.{IsLinkedIn, put_linked}
use Rattle.packed_sets.proofs.linked_sets.link_first.Goals as goal

-- the id is in, by the head that was read
linked_in : (links more : List Link) (heads : List ℕ) (set id first : ℕ) → first ≡ head_at heads set → more ≡ with_before (slice_set links id (record { before = NO_ITEM; behind = first })) first id
    → IsLinkedIn links (with_before (slice_set links id (record { before = NO_ITEM; behind = head_at heads set })) (head_at heads set) id) heads (slice_set heads set id) set id → IsLinkedIn links more heads (slice_set heads set id) set id
linked_in links more heads set id first at e is =
    subst (λ (l : List Link). IsLinkedIn links l heads (slice_set heads set id) set id) (sym e)
    (subst (λ (h : ℕ). IsLinkedIn links (with_before (slice_set links id (record { before = NO_ITEM; behind = h })) h id) heads (slice_set heads set id) set id) (sym at) is)

pub returns-clause-linked : goal.returns-clause-linked
returns-clause-linked c =
    let links = c.args.links.now.items in
    let heads = c.args.heads.now.items in
    let first = c.index-first.result.now in
    let at : first ≡ head_at heads c.args.set = read_at heads c.args.set first NO_ITEM c.requires.set c.index-first.ensures in
    (linked_in links c.set_before.new.links.items heads c.args.set c.args.id first at c.set_before.ensures (put_linked links heads c.args.set c.args.id c.requires.linked c.requires.set c.requires.id c.requires.absent)).linked

pub returns-clause-put : goal.returns-clause-put
returns-clause-put c =
    let links = c.args.links.now.items in
    let heads = c.args.heads.now.items in
    let first = c.index-first.result.now in
    let at : first ≡ head_at heads c.args.set = read_at heads c.args.set first NO_ITEM c.requires.set c.index-first.ensures in
    (linked_in links c.set_before.new.links.items heads c.args.set c.args.id first at c.set_before.ensures (put_linked links heads c.args.set c.args.id c.requires.linked c.requires.set c.requires.id c.requires.absent)).put
