-- The integers along which walks go.
use Rattle.std.specs.Prelude.{List, map}
use Rattle.order_ints.specs.declared.order_int.OrdInt.{OrdInt}
use Rattle.order_ints.specs.declared.order_int.walk.Walk.{Walk}

abbrev pub walked : List Walk → List OrdInt
walked walks = map (λ w. w.int.now) walks
