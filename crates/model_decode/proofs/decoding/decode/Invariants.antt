use Rattle.std.proofs.Common.{◌≡◌, ◌++◌, drop}
use Rattle.order_ints.specs.Truth.{valuation_of}
use Rattle.order_ints.specs.Numbers.{numbers_of}
use Rattle.state_compile.specs.StandsFor.{read_by}
use Rattle.model_decode.specs.Short.{AreShort}
use Rattle.model_decode.proofs.decoding.decode.Given as goal

-- those so far and what is left make all
abbrev pub invariant-loop-value : goal.invariant-loop-value
invariant-loop-value l = record {
  numbers : l.values.items ++ numbers_of (read_by l.view (valuation_of l.sigma)) (drop l.value-index l.value-items) ≡ numbers_of (read_by l.view (valuation_of l.sigma)) l.map.entries;
  short : AreShort (drop l.value-index l.value-items);
}
