use Rattle.std.proofs.Common.{◌+◌}
use Rattle.core_cost.proofs.network.+around.Given as goal

abbrev pub decreases-around : goal.decreases-around
decreases-around l = l.n + l.m
