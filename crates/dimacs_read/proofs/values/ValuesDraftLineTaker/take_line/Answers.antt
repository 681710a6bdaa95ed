use Rattle.std.proofs.Common.{sym, subst}
use Rattle.dimacs_read.specs.Values.{Told, NextValues}
use Rattle.dimacs_read.proofs.values.ValuesDraftLineTaker.take_line.Goals as goal

pub returns-in-None : goal.returns-in-None
returns-in-None c = (
  λ u next. (let P : Told → Type 0 = λ s. NextValues c.args.cnf.now s c.args.line.now u in c.in-None.ensures u (subst P (sym c.self.view_is) next)),
  tt,
)
