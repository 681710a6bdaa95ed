use Rattle.std.proofs.Common.{sym, ◌∙◌, ap, ◌+◌, refl}
use Rattle.core_cost.specs.Network.{half_up, half_down}
use Rattle.core_cost.specs.Counts.{cost_of_half, cost_of_count}
use Rattle.core_cost.specs.Sums.{cost_of_sum}
use Rattle.core_cost.proofs.CountLaws.{count_of_few, count_of_halves}
use Rattle.core_cost.proofs.ShapeLaws.{sum3-units}
use Rattle.core_cost.proofs.SumLaws.{sum_of_more}
use Rattle.core_cost.proofs.laws.parts_law.Goals as goal

pub returns : goal.returns
unfolding cost_of_sum
returns c = record {
  few = λ k d h. count_of_few k d h ∙ sym (sum3-units k 0 d);
  halves = λ k d h. count_of_halves k d h
      ∙ ap (λ x. cost_of_half (half_up k) (cost_of_count (half_up k) (half_up k)) + cost_of_half (half_down k) (cost_of_count (half_down k) (half_down k)) + x)
      (sym (sum3-units (half_up k) (half_down k) d));
  none = refl;
  one = λ a. refl;
  two = λ a b. refl;
  three = λ a b d. refl;
  more = sum_of_more;
}
