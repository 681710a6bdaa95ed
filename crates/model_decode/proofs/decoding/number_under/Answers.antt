use Rattle.order_ints.specs.Truth.{valuation_of}
use Rattle.state_compile.specs.StandsFor.{read_by}
use Rattle.model_decode.proofs.Ranges.{fits-narrow, same-narrow}
use Rattle.model_decode.proofs.decoding.number_under.Goals as goal

pub overflow_cast-result : goal.overflow_cast-result
overflow_cast-result c =
    let σ = read_by c.args.reading.view.now (valuation_of c.args.reading.values.now) in
    fits-narrow σ c.args.value.now c.in-Int.integer c.value.result c.in-Int.is c.requires c.value.ensures.value c.value.ensures.range

pub returns-in-Int : goal.returns-in-Int
returns-in-Int c =
    let σ = read_by c.args.reading.view.now (valuation_of c.args.reading.values.now) in
    same-narrow σ c.args.value.now c.in-Int.integer c.value.result c.in-Int.is c.requires c.value.ensures.value c.value.ensures.range
