use Rattle.std.proofs.Common.{List, ℕ, subst}
use Rattle.core_forms.specs.Variables.{AreAmong}
use Rattle.table_rules.specs.Words.{word_vars}
use Rattle.table_rules.proofs.WordLaws.{listed}
use Rattle.table_rules.proofs.words.long_words_tell_nothing.Goals as goal

pub words_tell_nothing-requires-clause-names : goal.words_tell_nothing-requires-clause-names
words_tell_nothing-requires-clause-names c =
    subst (λ (names : List ℕ). AreAmong names c.as_slice.result.now) (λ i. word_vars c.args.truth (c.first_of.ensures.first i) (c.first_of-2.ensures.first i))
    (listed (word_vars c.args.truth c.first_of.result.now c.first_of-2.result.now) _ _ _ c.few_names.ensures c.in-Some.is c.as_slice.ensures.list)
