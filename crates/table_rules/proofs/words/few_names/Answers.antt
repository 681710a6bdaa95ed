use Rattle.table_rules.proofs.WordLaws.{few-among}
use Rattle.table_rules.proofs.words.few_names.Goals as goal

pub returns : goal.returns
returns c = few-among c.args.truth c.args.front.now c.args.back.now _ c.few_of_words.ensures
