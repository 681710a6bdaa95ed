use Rattle.drup_check.proofs.TwoTiers.{kept-stands}
use Rattle.drup_check.proofs.tiers.Tiers.keep.Goals as goal

pub take_in-requires-clause-bottom : goal.take_in-requires-clause-bottom
take_in-requires-clause-bottom c = c.requires.stands.1.bottom

pub take_in-requires-clause-complete : goal.take_in-requires-clause-complete
take_in-requires-clause-complete c = c.requires.stands.1.complete

pub returns-clause-stands : goal.returns-clause-stands
returns-clause-stands c =
    kept-stands c.args.self.now c.take_in.new.self c.args.lits.now c.in_ok-refuted.ensures.gone c.in_ok-refuted.ensures.vars c.in_ok-refuted.refuted c.in_ok-refuted.ensures.taken
