use Rattle.std.proofs.Common.{refl}
use Rattle.order_ints.specs.declared.order_int.MapValue.TheVariants as values
use Rattle.order_ints.specs.Truth.{valuation_of}
use Rattle.state_compile.specs.StandsFor.{read_by}
use Rattle.model_decode.proofs.Ranges.{fits-narrow, same-narrow}
use Rattle.decode_minimize.proofs.objective.value_under.Goals as goal

pub overflow_cast-result : goal.overflow_cast-result
overflow_cast-result c =
    let σ = read_by c.args.view.now (valuation_of c.args.values.now) in
    fits-narrow σ (values.Int c.args.integer.now) c.args.integer.now c.value.result refl (c.requires.least, c.requires.greatest) c.value.ensures.value c.value.ensures.range

pub returns : goal.returns
returns c =
    let σ = read_by c.args.view.now (valuation_of c.args.values.now) in
    same-narrow σ (values.Int c.args.integer.now) c.args.integer.now c.value.result refl (c.requires.least, c.requires.greatest) c.value.ensures.value c.value.ensures.range
