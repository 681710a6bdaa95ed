use Rattle.core_extract.proofs.Conflicts.{conflict-of}
use Rattle.core_extract.proofs.extracting.conflict_of.Goals as goal

pub returns : goal.returns
returns g c =
    conflict-of g.F.Oracle.told c.args.asker.now.options c.args.progress (record { document = c.conflict_document.result; decls = c.into_decls.result; questions = c.get.result })
    c.in_ok-numbers.numbers.items c.requires.progress c.requires.count c.in_ok-numbers.ensures c.conflict_document.ensures.small c.conflict_document.ensures.document c.into_decls.ensures
