use Rattle.std.proofs.Common.{ap, ◌∙◌}
use Rattle.literal_trail.specs.Trail.{Trail, value_in, up_to}
use Rattle.lrat_check.proofs.Trails.{free-entry, chosen-values, chosen-bottom}
use Rattle.lrat_check.proofs.follow.make_true.Goals as goal

pub choose-requires-clause-free : goal.choose-requires-clause-free
choose-requires-clause-free c = free-entry c.args.trail.now.entries c.args.l.var c.requires.free

pub returns-clause-values : goal.returns-clause-values
returns-clause-values c =
    ap (λ (t : Trail). value_in t.entries) c.choose.ensures.trail ∙ chosen-values c.args.trail.now c.args.l (free-entry c.args.trail.now.entries c.args.l.var c.requires.free)

pub returns-clause-bottom : goal.returns-clause-bottom
returns-clause-bottom c = ap (λ (t : Trail). up_to 0 t.entries) c.choose.ensures.trail ∙ chosen-bottom c.args.trail.now c.args.l c.requires.bottom
