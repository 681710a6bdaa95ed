use Rattle.std.proofs.Common.{◌+◌, List, sym, subst}
use Rattle.order_ints.specs.declared.order_int.MapValue.{MapValue}
use Rattle.order_ints.specs.OrderRange.{IsBounded}
use Rattle.answer_document.specs.BoundAtoms.{integer_named}
use Rattle.objective_bound.proofs.Objectives.{values-bounded}
use Rattle.bound_mode.proofs.making.bounded.Goals as goal

pub better_than-better-requires : goal.better_than-better-requires
better_than-better-requires c = λ place.
    subst (λ (es : List MapValue). IsBounded (integer_named es place)) (sym c.as_slice.ensures)
    (values-bounded (c.args.compiled.cnf.vars + 1) c.args.compiled.decls c.args.compiled.map.entries c.requires.values place)
