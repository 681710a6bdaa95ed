use Rattle.core_occurrences.proofs.Listed.{IsLinking}
use Rattle.core_occurrences.proofs.linking.link_all.Given as goal

abbrev pub invariant-loop-var : goal.invariant-loop-var
invariant-loop-var l = IsLinking l.initial.nodes l.initial.rings l.nodes l.rings l.heads l.id l.vars l.var-index
