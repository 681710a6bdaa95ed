use Rattle.core_cost.proofs.counts.+counts_around.Given as goal

abbrev pub decreases-counts_around : goal.decreases-counts_around
decreases-counts_around l = l.n
