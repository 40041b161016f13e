use Rattle.check_shared.proofs.sharing.open_to.Given as goal

-- the roster that was just made, the world, and a mirror of the same name
abbrev pub ghosts-share-N-Named : goal.ghosts-share-N-Named
ghosts-share-N-Named g a = record { table = a.roster.table; seats = a.roster.seats }

abbrev pub ghosts-share-N-Opened : goal.ghosts-share-N-Opened
ghosts-share-N-Opened g a = record { opening = a.world }

abbrev pub ghosts-share-N-Mirrored : goal.ghosts-share-N-Mirrored
ghosts-share-N-Mirrored g a = record { book = a.mirror }
