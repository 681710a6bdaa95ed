use Rattle.network_encode.proofs.NetworkLaws.{parts-stand, stand-made_so, parts-made_so}
use Rattle.network_encode.proofs.split.parts.Goals as goal

pub returns-clause-stand : goal.returns-clause-stand
returns-clause-stand c =
    stand-made_so c.args.core.now c.args.next_var c.form_parts.result (parts-stand c.args.core.now c.args.next_var c.requires.form c.requires.well_formed c.requires.least c.requires.below c.requires.room)
    c.form_parts.ensures

pub returns-clause-parts : goal.returns-clause-parts
returns-clause-parts c =
    parts-made_so c.args.core.now c.args.next_var c.form_parts.result (parts-stand c.args.core.now c.args.next_var c.requires.form c.requires.well_formed c.requires.least c.requires.below c.requires.room)
    c.form_parts.ensures
