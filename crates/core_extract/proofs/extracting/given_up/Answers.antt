use Rattle.core_extract.specs.Parts.{whole_of}
use Rattle.core_extract.proofs.Conflicts.{spent-from}
use Rattle.core_extract.proofs.extracting.given_up.Goals as goal

pub returns : goal.returns
returns g c =
    spent-from g.F.Oracle.told (whole_of c.args.model) c.args.asker.now.options (record { document = c.spent_document.result; decls = c.into_decls.result; questions = c.get.result }) c.args.spent c.requires.budget c.spent_document.ensures c.requires.spent c.into_decls.ensures
