use Rattle.std.proofs.Common.{◌≡◌, true, not, take, sym, ◌∙◌}
use Rattle.std.specs.Prelude.{None, Some, IsTrue}
use Rattle.std.proofs.lemmas.Result.{IfOk-weaker}
use Rattle.order_ints.specs.declared.atom.Atom.{Atom}
use Rattle.core_forms.specs.declared.form.Core.TheVariants.{Lex}
use Rattle.table_rules.specs.Pairs.{pairs_over, IsIn}
use Rattle.table_rules.specs.Instances.{found_at}
use Rattle.table_rules.specs.Words.{is_told, AreEqualWhereTold}
use Rattle.table_rules.proofs.WordLaws.{none-found}
use Rattle.table_rules.proofs.words.words_tell_nothing.Goals as goal

pub returns : goal.returns
returns c =
    let front = c.args.front.now in
    let back = c.args.back.now in
    let vars = c.args.vars.now in
    let told = c.is_told_somewhere.ensures c.if-not-is_told_somewhere.false in
    let first : is_told told.0 c.args.truth None (take 16 front) (take 16 back) ≡ true =
    sym (λ i. is_told told.0 c.args.truth None (c.first_of.ensures.first i) (c.first_of-2.ensures.first i)) ∙ told.1 in
    let short_front = sym c.is_short.ensures ∙ c.if-not-is_short.false in
    let short_back = sym c.is_short-else-not-is_short.ensures ∙ c.if-not-is_short-2.false in
    IfOk-weaker c.is_none_left.result
    (λ none. IsTrue none → (p : Atom × Atom) → IsIn p (pairs_over vars) → AreEqualWhereTold c.args.truth None (take 16 front) (take 16 back) p → AreEqualWhereTold c.args.truth (Some (not c.args.strict)) front back p → ⊥)
    (λ none. IsTrue none → found_at (Lex c.args.truth c.args.strict front back) ≡ None)
    (λ none h is. none-found c.args.truth c.args.strict 16 front back vars short_front short_back c.requires.names told.0 first (h is))
    c.is_none_left.ensures
