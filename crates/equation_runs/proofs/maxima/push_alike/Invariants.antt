use Rattle.std.proofs.Common.{◌≡◌, ◌++◌, map, ℤ}
use Rattle.std.specs.Prelude.{filter, int_lt}
use Rattle.order_ints.specs.declared.atom.Atom.{Atom}
use Rattle.core_forms.specs.declared.equation.Rule.TheVariants.{Form}
use Rattle.arith_rules.specs.Links.{alike_where}
use Rattle.arith_rules.proofs.Beside.{linked_pair}
use Rattle.equation_runs.specs.RunRows.{equation_of}
use Rattle.equation_runs.proofs.maxima.push_alike.Given as goal

-- those so far and those of what is left of the walk are all
abbrev pub invariant-loop-value : goal.invariant-loop-value
invariant-loop-value l = record {
  run : l.run.items ++ map (equation_of Form) (map (linked_pair (λ v. v) l.b) (filter (λ (level : ℤ × Atom). int_lt l.least level.0) l.value-iterator)) ≡ l.initial.run.items ++ map (equation_of Form) (alike_where (int_lt l.least) l.a l.b);
  same : l.walk.int.now ≡ l.b;
}
