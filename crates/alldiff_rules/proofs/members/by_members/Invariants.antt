use Rattle.alldiff_rules.specs.Instances.{IsOneOf}
use Rattle.alldiff_rules.specs.Walks.{member_equations}
use Rattle.alldiff_rules.proofs.FindsLaws.{NoneBelow}
use Rattle.alldiff_rules.proofs.members.by_members.Given as goal

-- no member so far gives an equation that is looked for
abbrev pub invariant-loop-place : goal.invariant-loop-place
invariant-loop-place l = NoneBelow l.sought (λ k a b. IsOneOf a b (member_equations l.tables l.ints l.conditions k)) l.place
