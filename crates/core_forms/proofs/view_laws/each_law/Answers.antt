use Rattle.std.specs.Prelude.{IsTrue}
use Rattle.order_ints.specs.Place.{AtomBelow}
use Rattle.core_forms.proofs.EachLaws.{each_weaker, each_below, below_each}
use Rattle.core_forms.proofs.Places.{each_trimmed}
use Rattle.core_forms.proofs.view_laws.each_law.Goals as goal

pub returns : goal.returns
returns c = record {
  trimmed = λ test view core at_true at_false h. each_trimmed (λ a. IsTrue (test a)) at_true at_false view core h;
  weaker = λ test weaker core follows h. each_weaker (λ a. IsTrue (test a)) (λ a. IsTrue (weaker a)) follows core h;
  below = λ n core. (each_below n (AtomBelow n) (λ a h. h) core, below_each n core);
}
