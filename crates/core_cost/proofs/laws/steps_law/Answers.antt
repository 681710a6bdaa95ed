use Rattle.core_cost.proofs.Monotone.{ladder-mono, leq-mono, eq-mono, lex-mono, max-mono, all_diff-mono, prod-mono, div_mod-mono}
use Rattle.core_cost.proofs.laws.steps_law.Goals as goal

pub returns : goal.returns
returns c = record {
  ladder = ladder-mono;
  leq = leq-mono;
  equal = eq-mono;
  lex = lex-mono;
  max = max-mono;
  all_diff = all_diff-mono;
  prod = prod-mono;
  div_mod = div_mod-mono;
}
