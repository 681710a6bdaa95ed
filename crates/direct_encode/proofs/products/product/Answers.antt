use Rattle.std.proofs.Common.{◌≡◌, refl}
use Rattle.order_ints.specs.Walk.{value_at}
use Rattle.order_ints.proofs.Wide.{small_bits}
use Rattle.direct_encode.specs.Tables.{product_at}
use Rattle.direct_encode.proofs.TableLaws.{has_value_at}
use Rattle.direct_encode.proofs.products.product.Goals as goal

pub times-requires : goal.times-requires
times-requires c =
    let a = c.args.a.now.int.now in
    let b = c.args.b.now.int.now in
    rw (small_bits c.value.result c.value.ensures.range, small_bits c.value-2.result c.value-2.ensures.range, c.value.ensures.value, c.value-2.ensures.value)
    (c.requires.small (value_at a c.args.i) (value_at b c.args.j) (has_value_at a c.args.i c.requires.i) (has_value_at b c.args.j c.requires.j))

pub returns-clause-value : goal.returns-clause-value
returns-clause-value c =
    let a = c.args.a.now.int.now in
    let b = c.args.b.now.int.now in
    let small = c.requires.small (value_at a c.args.i) (value_at b c.args.j) (has_value_at a c.args.i c.requires.i) (has_value_at b c.args.j c.requires.j) in
    let is : c.times.result ≡ product_at a b c.args.i c.args.j =
    (rw (small_bits c.value.result c.value.ensures.range, small_bits c.value-2.result c.value-2.ensures.range, c.value.ensures.value, c.value-2.ensures.value) at c.times.ensures) in
    rw (is, small_bits (product_at a b c.args.i c.args.j) small) refl

pub returns-clause-range : goal.returns-clause-range
returns-clause-range c =
    let a = c.args.a.now.int.now in
    let b = c.args.b.now.int.now in
    let small = c.requires.small (value_at a c.args.i) (value_at b c.args.j) (has_value_at a c.args.i c.requires.i) (has_value_at b c.args.j c.requires.j) in
    let is : c.times.result ≡ product_at a b c.args.i c.args.j =
    (rw (small_bits c.value.result c.value.ensures.range, small_bits c.value-2.result c.value-2.ensures.range, c.value.ensures.value, c.value-2.ensures.value) at c.times.ensures) in
    rw (is, small_bits (product_at a b c.args.i c.args.j) small) small
