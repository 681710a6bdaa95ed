use Rattle.std.proofs.Common.{ap, refl}
use Rattle.literal_trail.specs.Trail.{Trail}
use Rattle.drup_check.proofs.TwoTiers.{tried-stands}
use Rattle.drup_check.proofs.Started.{all-held}
use Rattle.drup_check.proofs.tiers.Tiers.shows.Goals as goal

pub is_shown-requires-clause-bottom : goal.is_shown-requires-clause-bottom
is_shown-requires-clause-bottom c = c.requires.stands.1.bottom

pub is_shown-requires-clause-complete : goal.is_shown-requires-clause-complete
is_shown-requires-clause-complete c = c.requires.stands.1.complete

pub returns-clause-stands : goal.returns-clause-stands
returns-clause-stands c = tried-stands c.args.self.now _ c.is_shown.ensures.clauses c.is_shown.ensures.trail c.is_shown.ensures.complete refl

pub returns-clause-shown : goal.returns-clause-shown
returns-clause-shown c = λ cs st. c.is_shown.ensures.sound cs st.listed

pub returns-clause-all : goal.returns-clause-all
returns-clause-all c = λ cs st none. c.is_shown.ensures.shown cs (all-held c.args.self.now cs none st)

pub returns-clause-vars : goal.returns-clause-vars
returns-clause-vars c = ap (λ (t : Trail). t.vars) c.is_shown.ensures.trail
