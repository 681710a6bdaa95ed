use Rattle.std.proofs.Common.{rules, ◌≡◌, Some, sym, ◌∙◌}
use Rattle.std.proofs.lemmas.Bool.{false≢true}
use Rattle.model_lower.proofs.NextItem.{taken-first}
use Rattle.model_lower.proofs.statements_left.next_statement.Goals as goal
use Rattle.model_lower.proofs.statements_left.next_statement.Goals.{in-Some, in-None}

pub returns-then-first-clause-next : goal.returns-then-first-clause-next
returns-then-first-clause-next c =
    elim c.match-last.branch [
      | in-Some w ↦
          let s = w.in-Some.stmt.now in
          let last : c.pop.result ≡ Some s = search (rules, c.pop.ensures.value, c.last.ensures.value, c.deref.ensures.value, w.in-Some.is) in
          taken-first c.args.left.now.items c.pop.new.self.items c.pop.result s c.pop.ensures.items last _ c.args.decls.now
          (w.stands_first-first.ensures.first (sym w.first-is ∙ c.if-first.true))
      | in-None w ↦ absurd (false≢true (sym w.first-is ∙ c.if-first.true))
    ]
