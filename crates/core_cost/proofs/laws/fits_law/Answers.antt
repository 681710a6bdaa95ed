use Rattle.core_cost.proofs.Bounds.{parity-fits, amo-fits, ladder-fits, leq-fits, eq-fits, lex-fits, max-fits, all_diff-fits, prod-fits, div_mod-fits, table-fits, sum3-fits, count-fits}
use Rattle.core_cost.proofs.SumBounds.{sum-fits}
use Rattle.core_cost.proofs.laws.fits_law.Goals as goal

pub returns : goal.returns
returns c = record {
  parity = parity-fits;
  amo = amo-fits;
  ladder = ladder-fits;
  leq = leq-fits;
  equal = eq-fits;
  lex = lex-fits;
  max = max-fits;
  all_diff = all_diff-fits;
  prod = prod-fits;
  div_mod = div_mod-fits;
  table = table-fits;
  sum3 = sum3-fits;
  count = count-fits;
  sum = sum-fits;
}
