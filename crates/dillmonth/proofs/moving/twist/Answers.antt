use Rattle.dillmonth.proofs.moving.twist.Goals as goal

pub returns : goal.returns
returns c = (c.begin_twist-first.new.desk, c.begin_twist-first.result, c.begin_twist-first.ensures, c.end_twist.ensures)
