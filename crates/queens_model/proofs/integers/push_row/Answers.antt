use Rattle.queens_model.proofs.Pushed.{three_pushed}
use Rattle.queens_model.proofs.integers.push_row.Goals as goal

pub returns : goal.returns
returns c =
    three_pushed c.args.decls.now.items c.push.new.self.items c.push-2.new.self.items c.push-3.new.self.items c.in_ok-column.column c.in_ok-sum.sum c.in_ok-difference.difference _ _ _
    c.in_ok-push.ensures.items c.in_ok-push-2.ensures.items c.in_ok-push-3.ensures.items c.in_ok-column.ensures c.in_ok-sum.ensures c.in_ok-difference.ensures
