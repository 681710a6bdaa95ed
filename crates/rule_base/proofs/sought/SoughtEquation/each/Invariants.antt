use Rattle.std.proofs.Common.{◌≡◌, drop}
use Rattle.rule_base.specs.Pairs.{first_sought}
use Rattle.rule_base.specs.Stated.{all_equal}
use Rattle.rule_base.proofs.sought.SoughtEquation.each.Given as goal

-- what is found among those that are left is found among all
abbrev pub invariant-loop-atom : goal.invariant-loop-atom
invariant-loop-atom l =
    first_sought l.self (all_equal (drop l.atom-index l.atoms) l.b) ≡ first_sought l.self (all_equal l.atoms l.b)
