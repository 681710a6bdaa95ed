use Rattle.core_forms.proofs.SumValues.{sums-some, sums-ascend, sums-small, sums-among, sums-between, sums-few, fresh-span, fresh-within, fresh-base, fresh-abs}
use Rattle.core_forms.proofs.cost_laws.sums_law.Goals as goal

pub returns : goal.returns
returns c = record {
  some = sums-some;
  ascending = sums-ascend;
  small = sums-small;
  among = sums-among;
  between = sums-between;
  steps = sums-few;
  span = fresh-span;
  within = fresh-within;
  base = fresh-base;
  abs = fresh-abs;
}
