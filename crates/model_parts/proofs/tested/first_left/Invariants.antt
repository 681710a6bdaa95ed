use Rattle.std.proofs.Common.{◌≡◌, drop}
use Rattle.model_meaning.specs.Solutions.{first_broken}
use Rattle.model_parts.specs.Only.{all_but}
use Rattle.model_parts.proofs.tested.first_left.Given as goal

-- the first broken statement is among those that are left
abbrev pub invariant-loop-place : goal.invariant-loop-place
invariant-loop-place l =
    first_broken l.a.values (all_but l.number (drop l.place l.model.stmts)) ≡ first_broken l.a.values (all_but l.number l.model.stmts)
