use Rattle.std.proofs.Common.{◌∙◌, ap, sym, subst}
use Rattle.core_occurrences.specs.Lists.{IsOccurrences}
use Rattle.core_occurrences.specs.Bodies.{named}
use Rattle.core_occurrences.proofs.Named.{named-none}
use Rattle.core_occurrences.proofs.by_id.Occurrences.with.Goals as goal

pub returns-clause-lists : goal.returns-clause-lists
returns-clause-lists c = ap (named c.push-2.new.self.items) c.in_ok-held.ensures.lists ∙ named-none c.push-2.new.self.items c.args.vars

pub returns-clause-occurrences : goal.returns-clause-occurrences
returns-clause-occurrences c =
    subst IsOccurrences (sym (ap (named c.push-2.new.self.items) c.in_ok-held.ensures.lists ∙ named-none c.push-2.new.self.items c.args.vars))
    (subst IsOccurrences c.in_ok-held.ensures.lists c.in_ok-held.ensures.occurrences)
