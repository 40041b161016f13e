use Rattle.std.proofs.Common.{◌≡◌, ◌+◌, ◌∷◌, suc, get_or, drop, sym, ap, ◌∙◌, arith}
use Rattle.std.proofs.Math.Seq.{drop-cons}
use Rattle.std.proofs.lemmas.List.Elements.{Contains-get_or}
use Rattle.islands.specs.Merging.{merged_all}
use Rattle.islands.specs.Packed.{by_slot, labels_by}
use Rattle.islands.proofs.GroupLemmas.{still_there}
use Rattle.islands.proofs.merge.merge_all.Goals as goal

pub merge_movers-requires-clause-first : goal.merge_movers-requires-clause-first
merge_movers-requires-clause-first c = c.loop-edge.invariant.there (get_or c.args.edges.now c.loop-edge.edge-index (0, 0)).0 (c.requires.ends (get_or c.args.edges.now c.loop-edge.edge-index (0, 0)).0 (get_or c.args.edges.now c.loop-edge.edge-index (0, 0)).1 (Contains-get_or c.args.edges.now c.loop-edge.edge-index (0, 0) c.loop-edge-test.true)).0

pub merge_movers-requires-clause-second : goal.merge_movers-requires-clause-second
merge_movers-requires-clause-second c = c.loop-edge.invariant.there (get_or c.args.edges.now c.loop-edge.edge-index (0, 0)).1 (c.requires.ends (get_or c.args.edges.now c.loop-edge.edge-index (0, 0)).0 (get_or c.args.edges.now c.loop-edge.edge-index (0, 0)).1 (Contains-get_or c.args.edges.now c.loop-edge.edge-index (0, 0) c.loop-edge-test.true)).1

pub loop-edge-preserved : goal.loop-edge-preserved
loop-edge-preserved c =
    let one : suc c.loop-edge.edge-index ≡ c.loop-edge.edge-index + 1 = omega arith in
    let rest : drop c.loop-edge.edge-index c.args.edges.now ≡ get_or c.args.edges.now c.loop-edge.edge-index (0, 0) ∷ drop (c.loop-edge.edge-index + 1) c.args.edges.now =
    drop-cons c.args.edges.now c.loop-edge.edge-index (0, 0) c.loop-edge-test.true ∙ ap (λ n. get_or c.args.edges.now c.loop-edge.edge-index (0, 0) ∷ drop n c.args.edges.now) one in
    record {
      standing = c.merge_movers.ensures.standing;
      labels = ap (λ l. merged_all l (drop (c.loop-edge.edge-index + 1) c.args.edges.now)) c.merge_movers.ensures.labels
          ∙ ap (merged_all (labels_by c.args.node_entries.now c.loop-edge.notes.items c.loop-edge.heads.items)) (sym rest) ∙ c.loop-edge.invariant.labels;
      size = c.merge_movers.ensures.size ∙ c.loop-edge.invariant.size;
      there = λ s h. still_there (by_slot c.args.node_entries.now c.loop-edge.notes.items) c.loop-edge.heads.items (by_slot c.args.node_entries.now c.merge_movers.new.notes.items) c.merge_movers.new.heads.items (get_or c.args.edges.now c.loop-edge.edge-index (0, 0)).0 (get_or c.args.edges.now c.loop-edge.edge-index (0, 0)).1 s c.merge_movers.ensures.labels (c.loop-edge.invariant.there s h);
      capacity = omega (arith, c.merge_movers.ensures.capacity, c.loop-edge.invariant.capacity);
      heads_capacity = omega (arith, c.merge_movers.ensures.heads_capacity, c.loop-edge.invariant.heads_capacity);
    }
