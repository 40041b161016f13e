use Rattle.check_shared.proofs.mirrors.showing.try_second.Given as goal

-- the roster that was just made, and the second world
abbrev pub ghosts-share_second-M-Named : goal.ghosts-share_second-M-Named
ghosts-share_second-M-Named g a = record { table = a.roster.table; seats = a.roster.seats }

abbrev pub ghosts-share_second-M-Opened : goal.ghosts-share_second-M-Opened
ghosts-share_second-M-Opened g a = record { opening = a.world }
