use Rattle.decompose.proofs.FormLaws.{parts_ok}
use Rattle.decompose.proofs.forms.parts_from.Goals as goal

pub returns-clause-parts : goal.returns-clause-parts
returns-clause-parts c =
    parts_ok c.form_parts.result c.args.core c.args.next_var c.requires.form c.requires.first c.requires.well_formed c.requires.below c.form_parts.ensures
