use Rattle.std.proofs.Common.{◌≡◌, ◌<◌, ℕ, length, get_or, arith}
use Rattle.std.proofs.lemmas.List.Elements.{Contains-get_or}
use Rattle.islands.specs.Standing.{node_at}
use Rattle.islands.proofs.StandingLemmas.{node_short}
use Rattle.islands.proofs.AloneLemmas.{scatter_more}
use Rattle.islands.proofs.split.scatter.Goals as goal

pub index_mut-requires : goal.index_mut-requires
index_mut-requires c =
    let m : ℕ = get_or c.args.members.now c.loop-member.member-index 0 in
    let short : m < length c.args.notes.now.items = c.requires.within m (Contains-get_or c.args.members.now c.loop-member.member-index 0 c.loop-member-test.true) in
    let below = node_short c.args.node_entries.now m c.requires.inverse (omega (arith, short, c.requires.node_entries)) in
    let node : c.node_of-node.result ≡ node_at c.args.node_entries.now m = c.node_of-node.ensures in
    let z = c.loop-member.invariant.scattered.size in
    omega (arith, below, node, z, c.requires.node_entries, c.loop-member.notes.ok.0)

pub index_mut-requires-in-loop-member : goal.index_mut-requires-in-loop-member
index_mut-requires-in-loop-member c =
    let m : ℕ = get_or c.args.members.now c.loop-member.member-index 0 in
    let short : m < length c.args.notes.now.items = c.requires.within m (Contains-get_or c.args.members.now c.loop-member.member-index 0 c.loop-member-test.true) in
    let below = node_short c.args.node_entries.now m c.requires.inverse (omega (arith, short, c.requires.node_entries)) in
    let node : c.node_of-node.result ≡ node_at c.args.node_entries.now m = c.node_of-node.ensures in
    let z = c.loop-member.invariant.scattered.heads_size in
    omega (arith, below, node, z, c.requires.node_entries, c.requires.sizes, c.loop-member.heads.ok.0)

pub loop-member-preserved : goal.loop-member-preserved
loop-member-preserved c =
    let short : get_or c.args.members.now c.loop-member.member-index 0 < length c.args.notes.now.items = c.requires.within (get_or c.args.members.now c.loop-member.member-index 0) (Contains-get_or c.args.members.now c.loop-member.member-index 0 c.loop-member-test.true) in
    record {
      scattered = rw (c.own_note.ensures, c.own_head.ensures, c.node_of-node.ensures) (scatter_more c.args.node_entries.now c.args.notes.now.items c.args.heads.now.items c.args.members.now c.loop-member.member-index c.loop-member.notes.items c.loop-member.heads.items c.loop-member-test.true short c.requires.node_entries c.requires.sizes c.requires.inverse c.loop-member.invariant.scattered);
      capacity = c.loop-member.invariant.capacity;
      heads_capacity = c.loop-member.invariant.heads_capacity;
    }
