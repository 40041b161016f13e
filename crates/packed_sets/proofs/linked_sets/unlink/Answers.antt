use Rattle.std.proofs.Common.{◌≡◌, ◌<◌, ℕ, List, length, get_or, ap, sym, subst, ◌∙◌, arith}
use Rattle.packed_sets.specs.declared.linked_sets.Link.{Link}
use Rattle.packed_sets.specs.declared.items.TheConstants.{NO_ITEM}
use Rattle.packed_sets.specs.Linked.{before_at, behind_at, link_at, with_before, with_behind, with_head, sets_of, AreLinked}
use Rattle.packed_sets.proofs.RoomLaws.{any_default}
use Rattle.packed_sets.proofs.LinkLaws.{IsLinkedOut, links_cut, heads_long, set_there, take_linked}
use Rattle.packed_sets.proofs.linked_sets.unlink.Goals as goal

-- the id is out, by the link that was read
linked_out : (links mid more : List Link) (heads others : List ℕ) (set id : ℕ) (l : Link) → AreLinked links heads → id < length links → l ≡ get_or links id l → others ≡ with_head heads set l.before l.behind → mid ≡ with_behind links l.before l.behind → more ≡ with_before mid l.behind l.before
    → IsLinkedOut links (links_cut links (before_at links id) (behind_at links id)) heads (with_head heads set (before_at links id) (behind_at links id)) set id → IsLinkedOut links more heads others set id
linked_out links mid more heads others set id l linked lt read f g h is =
    let at : link_at links id ≡ l = sym (read ∙ any_default links id l (record { before = NO_ITEM; behind = NO_ITEM }) lt) in
    let now : IsLinkedOut links (links_cut links l.before l.behind) heads (with_head heads set l.before l.behind) set id = subst (λ (k : Link). IsLinkedOut links (links_cut links k.before k.behind) heads (with_head heads set k.before k.behind) set id) at is in
    let cut : more ≡ links_cut links l.before l.behind = h ∙ ap (λ (m : List Link). with_before m l.behind l.before) g in
    subst (λ (m : List Link). IsLinkedOut links m heads others set id) (sym cut) (subst (λ (o : List ℕ). IsLinkedOut links (links_cut links l.before l.behind) heads o set id) (sym f) now)

pub returns-clause-linked : goal.returns-clause-linked
returns-clause-linked c =
    let links = c.args.links.now.items in
    let heads = c.args.heads.now.items in
    let lt : c.args.id < length links = (c.requires.linked.linked c.args.set).below c.args.id c.requires.there in
    (linked_out links c.set_behind.new.links.items c.set_before.new.links.items heads c.set_head.new.heads.items c.args.set c.args.id c.index-beside.result.now c.requires.linked lt c.index-beside.ensures c.set_head.ensures c.set_behind.ensures c.set_before.ensures
    (take_linked links heads c.args.set c.args.id c.requires.linked c.requires.there)).linked

pub returns-clause-taken : goal.returns-clause-taken
returns-clause-taken c =
    let links = c.args.links.now.items in
    let heads = c.args.heads.now.items in
    let lt : c.args.id < length links = (c.requires.linked.linked c.args.set).below c.args.id c.requires.there in
    (linked_out links c.set_behind.new.links.items c.set_before.new.links.items heads c.set_head.new.heads.items c.args.set c.args.id c.index-beside.result.now c.requires.linked lt c.index-beside.ensures c.set_head.ensures c.set_behind.ensures c.set_before.ensures
    (take_linked links heads c.args.set c.args.id c.requires.linked c.requires.there)).taken

pub returns-clause-gone : goal.returns-clause-gone
returns-clause-gone c =
    let links = c.args.links.now.items in
    let heads = c.args.heads.now.items in
    let lt : c.args.id < length links = (c.requires.linked.linked c.args.set).below c.args.id c.requires.there in
    (linked_out links c.set_behind.new.links.items c.set_before.new.links.items heads c.set_head.new.heads.items c.args.set c.args.id c.index-beside.result.now c.requires.linked lt c.index-beside.ensures c.set_head.ensures c.set_behind.ensures c.set_before.ensures
    (take_linked links heads c.args.set c.args.id c.requires.linked c.requires.there)).gone

pub returns-clause-sets : goal.returns-clause-sets
returns-clause-sets c = ap (λ (l : List ℕ). length l) c.set_head.ensures ∙ heads_long c.args.heads.now.items c.args.set _ _

pub set_head-requires : goal.set_head-requires
set_head-requires c = set_there c.args.links.now.items c.args.heads.now.items c.args.set c.args.id c.requires.there

pub index-beside-requires : goal.index-beside-requires
index-beside-requires c =
    let lt : c.args.id < length c.args.links.now.items = (c.requires.linked.linked c.args.set).below c.args.id c.requires.there in
    omega (arith, lt, c.args.links.now.ok.0)
