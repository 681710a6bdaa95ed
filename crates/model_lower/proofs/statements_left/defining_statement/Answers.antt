use Rattle.std.proofs.Common.{rules, ◌≡◌, Some, None, length, refl, sym, subst, ◌∙◌}
use Rattle.std.specs.Prelude.{◌-◌, slice_get}
use Rattle.std.proofs.lemmas.Bool.{false≢true}
use Rattle.model_lower.specs.Walk.{IsApart}
use Rattle.model_lower.proofs.NextItem.{taken-defining, last-first, no-last}
use Rattle.model_lower.proofs.statements_left.defining_statement.Goals as goal
use Rattle.model_lower.proofs.statements_left.defining_statement.Goals.{in-Some, in-None}

pub returns-then-first-clause-next : goal.returns-then-first-clause-next
returns-then-first-clause-next c =
    elim c.match-last.branch [
      | in-Some w ↦
          let s = w.in-Some.stmt.now in
          let last : c.pop.result ≡ Some s = search (rules, c.pop.ensures.value, c.last.ensures.value, c.deref.ensures.value, w.in-Some.is) in
          taken-defining c.args.left.now.items c.pop.new.self.items c.pop.result s c.pop.ensures.items last _ c.args.decl.now
          (w.declares-first.ensures.defines (sym w.first-is ∙ c.if-first.true)) (w.declares-first.ensures.behind (sym w.first-is ∙ c.if-first.true))
      | in-None w ↦ absurd (false≢true (sym w.first-is ∙ c.if-first.true))
    ]

pub returns-else-first-clause-next : goal.returns-else-first-clause-next
returns-else-first-clause-next c =
    let d = c.args.decl.now in
    let left = c.args.left.now.items in
    elim c.match-last.branch [
      | in-Some w ↦
          let s = w.in-Some.stmt.now in
          let last : slice_get left (length left - 1) ≡ Some s = search (rules, c.last.ensures.value, c.deref.ensures.value, w.in-Some.is) in
          let p = last-first left s last in
          (refl, subst (IsApart d) (sym p.1) (w.declares-first.ensures.apart (sym w.first-is ∙ c.if-first.false) p.0))
      | in-None w ↦
          let last : slice_get left (length left - 1) ≡ None = search (rules, c.last.ensures.value, c.deref.ensures.value, w.in-None.is) in
          (refl, subst (IsApart d) (sym (no-last left last)) (refl, refl))
    ]
