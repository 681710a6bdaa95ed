use Rattle.std.proofs.Common.{ℕ, ◌+◌, ◌<◌, Contains, sym, ap, subst, ◌∙◌}
use Rattle.std.specs.Prelude.{nat_eq}
use Rattle.core_forms.specs.declared.form.Core.{Core}
use Rattle.core_forms.specs.Edges.{InsideBelow}
use Rattle.core_forms.specs.Variables.{core_vars}
use Rattle.core_forms.proofs.EdgeVars.{no-edge-below, far, sum-far, words-far}
use Rattle.core_forms.proofs.form.Core.has_at_edge.Goals as goal

pub returns-in-Some : goal.returns-in-Some
returns-in-Some c = λ none n.
    let var = c.args.var in
    let e = rw c.as_slice.ensures at c.in-Some.ensures in
    subst (λ (core : Core). InsideBelow (n + 1) core → n < var → Contains (core_vars core) var → ⊥) (sym c.in-Sum.is)
    (λ below lt there. sum-far c.in-Sum.ints c.in-Some.last.now c.in-Sum.field-1 n var e (sym c.has_var.ensures ∙ none) below lt there)

pub returns-in-Lex : goal.returns-in-Lex
returns-in-Lex c = λ none n.
    let var = c.args.var in
    subst (λ (core : Core). InsideBelow (n + 1) core → n < var → Contains (core_vars core) var → ⊥) (sym c.in-Lex.is)
    (λ below lt there. words-far c.in-Lex.truth c.in-Lex.field-1 c.in-Lex.field-2 c.in-Lex.field-3 n var (ap (λ (x : ℕ). nat_eq x var) (sym c.var_of.ensures) ∙ none) below lt there)

pub returns-in_default : goal.returns-in_default
returns-in_default c = λ none n below lt there.
    far n c.args.var c.args.self.now (no-edge-below c.args.self.now c.in_default.not-Sum c.in_default.not-Lex (n + 1) below) lt there
