use Rattle.wbt_table.proofs.seat.Throttle.split.Given as goal

abbrev pub ghosts-split_place : goal.ghosts-split_place
ghosts-split_place a = record { cpu = a.cpu }
