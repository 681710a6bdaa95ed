use Rattle.rule_base.specs.declared.sought.SoughtEquation.TheVariants.{Apart}
use Rattle.alldiff_rules.specs.Twins.{IsShownTwin}
use Rattle.alldiff_rules.proofs.FindsLaws.{NoneBelow}
use Rattle.alldiff_rules.proofs.twins.apart_twins.Given as goal

-- none of the members so far states an equation of two different atoms with those shown
abbrev pub invariant-loop-place : goal.invariant-loop-place
invariant-loop-place l = NoneBelow Apart (IsShownTwin l.ints l.conditions l.choices) l.place
