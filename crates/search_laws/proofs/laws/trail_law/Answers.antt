use Rattle.search_laws.proofs.TrailLaws.{never_rises, falls_when_turned, stays_below}
use Rattle.search_laws.proofs.laws.trail_law.Goals as goal

pub returns-clause-rises : goal.returns-clause-rises
returns-clause-rises c = never_rises

pub returns-clause-falls : goal.returns-clause-falls
returns-clause-falls c = falls_when_turned

pub returns-clause-below : goal.returns-clause-below
returns-clause-below c = stays_below
