use Rattle.std.proofs.Common.{List, ◌++◌, ◌∷◌, [], ap, ◌∙◌}
use Rattle.order_ints.specs.declared.literal.Lit.{Lit}
use Rattle.drup_check.proofs.TwoTiers.{aside-stands}
use Rattle.drup_check.proofs.tiers.Tiers.set_aside.Goals as goal

pub returns-in_ok-push-clause-stands : goal.returns-in_ok-push-clause-stands
returns-in_ok-push-clause-stands c =
    aside-stands c.args.self.now (record { db = c.delete.new.self; gone = c.push.new.self; index = c.args.self.now.index }) c.args.c (c.may_leave.ensures.0 c.if-may_leave.true).0 c.vars-vars.ensures.db
    c.delete.ensures.clause (c.in_ok-push.ensures.items ∙ ap (λ (ls : List Lit). c.args.self.now.gone.items ++ ls ∷ []) c.in_ok-lits.ensures)
