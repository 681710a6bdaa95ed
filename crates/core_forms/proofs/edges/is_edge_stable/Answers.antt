use Rattle.std.proofs.Common.{sym, subst, ◌∙◌}
use Rattle.core_forms.specs.declared.form.Core.{Core}
use Rattle.core_forms.specs.Edges.{IsStableInside}
use Rattle.core_forms.specs.Stable.{IsStableCore}
use Rattle.core_forms.proofs.EdgeLaws.{edge-sum, edge-none}
use Rattle.core_forms.proofs.Stability.{words_core}
use Rattle.core_forms.proofs.edges.is_edge_stable.Goals as goal

pub returns-in-Some : goal.returns-in-Some
returns-in-Some c = λ yes.
    let view = c.args.view.now in
    let e = rw c.as_slice.ensures at c.in-Some.ensures in
    subst (λ (core : Core). IsStableInside view core → IsStableCore view core) (sym c.in-Sum.is)
    (edge-sum view c.in-Sum.ints c.in-Sum.field-1 c.in-Some.last.now e (c.is_stable_int.ensures yes))

pub returns-in-None : goal.returns-in-None
returns-in-None c = λ yes h.
    subst (IsStableCore c.args.view.now) (sym c.in-Sum.is)
    (edge-none c.args.view.now c.in-Sum.ints c.in-Sum.field-1 (sym c.as_slice.ensures ∙ c.in-None.ensures))

pub returns-in-Lex : goal.returns-in-Lex
returns-in-Lex c = λ yes.
    let view = c.args.view.now in
    subst (λ (core : Core). IsStableInside view core → IsStableCore view core) (sym c.in-Lex.is)
    (words_core view c.in-Lex.truth c.in-Lex.field-1 c.in-Lex.field-2 c.in-Lex.field-3 (sym c.resolve.ensures ∙ c.eq.ensures.equal.0 yes))
