use Rattle.colour_solver_base.proofs.warm_start_64.warm_row_64.Goals as goal

pub warm_second_64-requires-clause-leaves_room : goal.warm_second_64-requires-clause-leaves_room
warm_second_64-requires-clause-leaves_room c = c.in-Some-warm_point_64.ensures.leaves_room 0 c.in-Some.ensures.leaves_room

pub returns-in-None-warm_point_64-clause-room : goal.returns-in-None-warm_point_64-clause-room
returns-in-None-warm_point_64-clause-room c = λ room. c.in-None-warm_point_64.ensures.room room.first

pub returns-in-Some-warm_point_64-clause-room : goal.returns-in-Some-warm_point_64-clause-room
returns-in-Some-warm_point_64-clause-room c = λ room. c.warm_second_64.ensures.room room.second
