use Rattle.std.proofs.Common.{refl}
use Rattle.islands.specs.Packed.{name_of}
use Rattle.islands.proofs.PlacedLemmas.{labelled_placed, relabelled_by}
use Rattle.islands.proofs.threads.set_state.Goals as goal

pub returns-clause-standing : goal.returns-clause-standing
returns-clause-standing c = λ node_entries w.
    rw (c.set_label.ensures.heads, c.name_of-name.ensures, c.deref.ensures.value) (labelled_placed node_entries c.args.notes.now c.args.heads.now.items c.args.part (record { name = name_of c.args.heads.now.items c.args.part; state = c.args.state }) w c.requires.part refl)

pub returns-clause-labels : goal.returns-clause-labels
returns-clause-labels c = λ node_entries w.
    rw (c.set_label.ensures.heads, c.name_of-name.ensures, c.deref.ensures.value) (relabelled_by node_entries c.args.notes.now c.args.heads.now.items c.args.part (record { name = name_of c.args.heads.now.items c.args.part; state = c.args.state }) w c.requires.part)
