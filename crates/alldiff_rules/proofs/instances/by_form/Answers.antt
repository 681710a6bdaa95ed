use Rattle.std.proofs.Common.{List, sym, subst, subst₂, ◌∙◌}
use Rattle.std.specs.Prelude.{IfOk}
use Rattle.order_ints.specs.declared.atom.Atom.{Atom}
use Rattle.order_ints.specs.declared.order_int.OrdInt.{OrdInt}
use Rattle.core_forms.specs.declared.form.Core.{Core}
use Rattle.rule_base.specs.Pairs.{first_sought}
use Rattle.alldiff_rules.specs.Rows.{IsRow, lex_equations}
use Rattle.alldiff_rules.specs.Instances.{IsStated}
use Rattle.alldiff_rules.specs.Finds.{Finds}
use Rattle.alldiff_rules.proofs.FindsLaws.{list-finds}
use Rattle.alldiff_rules.proofs.instances.by_form.Goals as goal

pub returns-in-AllDiff : goal.returns-in-AllDiff
returns-in-AllDiff c =
    subst (λ (core : Core). IfOk c.by_difference.result (Finds c.args.sought (IsStated core))) (sym c.in-AllDiff.is)
    (subst₂ (λ (xs : List OrdInt) (cs : List Atom). IfOk c.by_difference.result (Finds c.args.sought (IsRow xs cs))) c.as_slice.ensures (c.as_slice-in-AllDiff.ensures ∙ c.get.ensures) c.by_difference.ensures)

pub returns-in-Lex : goal.returns-in-Lex
returns-in-Lex c =
    let front = c.as_slice-in-Lex.ensures ∙ c.get-in-Lex.ensures in
    let back = c.as_slice-in-Lex-2.ensures ∙ c.get-in-Lex-2.ensures in
    subst (λ (core : Core). Finds c.args.sought (IsStated core) c.by_lex.result) (sym c.in-Lex.is)
    (list-finds c.args.sought (lex_equations c.in-Lex.r c.in-Lex.strict c.in-Lex.front c.in-Lex.back) c.by_lex.result
    (c.by_lex.ensures ∙ (λ i. first_sought c.args.sought (lex_equations c.in-Lex.r c.in-Lex.strict (front i) (back i)))))
