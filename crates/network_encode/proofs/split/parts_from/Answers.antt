use Rattle.std.proofs.Common.{◌≡◌, IfOk, subst}
use Rattle.core_forms.specs.declared.form.Core.{Core}
use Rattle.network_encode.specs.NetworkParts.{parts_of}
use Rattle.network_encode.proofs.NetworkLaws.{parts-stand, stand-made_so, parts-made_so}
use Rattle.network_encode.proofs.TakenLaws.{taken-core}
use Rattle.network_encode.proofs.split.parts_from.Goals as goal

pub returns-clause-shape : goal.returns-clause-shape
returns-clause-shape c =
    subst (λ (core : Core). IfOk c.taken_parts.result (λ p. p ≡ parts_of c.args.next_var core)) (taken-core c.take_apart.result c.args.core c.take_apart.ensures) c.taken_parts.ensures

pub returns-clause-stand : goal.returns-clause-stand
returns-clause-stand c =
    stand-made_so c.args.core c.args.next_var c.taken_parts.result (parts-stand c.args.core c.args.next_var c.requires.form c.requires.well_formed c.requires.least c.requires.below c.requires.room)
    (returns-clause-shape c)

pub returns-clause-parts : goal.returns-clause-parts
returns-clause-parts c =
    parts-made_so c.args.core c.args.next_var c.taken_parts.result (parts-stand c.args.core c.args.next_var c.requires.form c.requires.well_formed c.requires.least c.requires.below c.requires.room)
    (returns-clause-shape c)
