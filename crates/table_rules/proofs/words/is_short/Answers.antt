use Rattle.std.proofs.Common.{sym, ◌∙◌}
use Rattle.table_rules.proofs.OneValue.{one-short}
use Rattle.table_rules.proofs.words.is_short.Goals as goal

pub returns-then-has_letters : goal.returns-then-has_letters
returns-then-has_letters c = c.if-has_letters.true ∙ sym (one-short c.args.word.now (c.has_letters.ensures c.if-has_letters.true))
