use Rattle.std.proofs.Common.{◌≡◌, ◌+◌, ◌∙◌, refl}
use Rattle.order_ints.specs.declared.atom.Atom.TheVariants.{True}
use Rattle.order_ints.specs.Walk.{value_at}
use Rattle.order_ints.proofs.Wide.{small_bits}
use Rattle.order_ints.proofs.Walks.{stands_small, value_at-raised, value_at-small}
use Rattle.order_ints.proofs.order_int.walk.Walk.upper.Goals as goal

pub raised-requires-clause-from : goal.raised-requires-clause-from
raised-requires-clause-from c =
    let s = c.args.self.now in
    let small = stands_small s.int.now s.place s.value s.stands in
    rw (small_bits s.value small) small

pub raised-requires-clause-to : goal.raised-requires-clause-to
raised-requires-clause-to c =
    let s = c.args.self.now in
    let small = stands_small s.int.now s.place s.value s.stands in
    rw (small_bits s.value small, c.as_slice.ensures, value_at-raised s.int.now s.place s.value (True, 0) s.stands c.requires) (value_at-small s.int.now (s.place + 1) s.stands.0)

pub returns-clause-value : goal.returns-clause-value
returns-clause-value c =
    let s = c.args.self.now in
    let small = stands_small s.int.now s.place s.value s.stands in
    let is : c.raised.result ≡ value_at s.int.now (s.place + 1) =
    (rw (small_bits s.value small, c.as_slice.ensures) at c.raised.ensures) ∙ value_at-raised s.int.now s.place s.value (True, 0) s.stands c.requires in
    let low = value_at-small s.int.now (s.place + 1) s.stands.0 in
    rw (is, small_bits (value_at s.int.now (s.place + 1)) low) refl

pub returns-clause-range : goal.returns-clause-range
returns-clause-range c =
    let s = c.args.self.now in
    let small = stands_small s.int.now s.place s.value s.stands in
    let is : c.raised.result ≡ value_at s.int.now (s.place + 1) =
    (rw (small_bits s.value small, c.as_slice.ensures) at c.raised.ensures) ∙ value_at-raised s.int.now s.place s.value (True, 0) s.stands c.requires in
    let low = value_at-small s.int.now (s.place + 1) s.stands.0 in
    rw (is, small_bits (value_at s.int.now (s.place + 1)) low) low
