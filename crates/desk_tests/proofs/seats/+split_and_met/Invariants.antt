use Rattle.desk_tests.proofs.seats.+split_and_met.Given as goal

-- the number of seats that are still to be split off
abbrev pub decreases-split_and_met : goal.decreases-split_and_met
decreases-split_and_met g l = l.others
