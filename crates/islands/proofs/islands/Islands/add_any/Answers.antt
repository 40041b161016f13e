use Rattle.islands.proofs.islands.Islands.add_any.Goals as goal

pub add_under-requires-clause-partition : goal.add_under-requires-clause-partition
add_under-requires-clause-partition c = (c.requires.next c.in-Some.label c.in-Some.is).partition

pub add_under-requires-clause-fresh : goal.add_under-requires-clause-fresh
add_under-requires-clause-fresh c = (c.requires.next c.in-Some.label c.in-Some.is).fresh

pub add_under-requires-clause-there : goal.add_under-requires-clause-there
add_under-requires-clause-there c = (c.requires.next c.in-Some.label c.in-Some.is).there
