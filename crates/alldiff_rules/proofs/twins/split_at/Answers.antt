use Rattle.alldiff_rules.proofs.twins.split_at.Goals as goal

pub returns-in-None-clause-value : goal.returns-in-None-clause-value
returns-in-None-clause-value c v d h = c.in-None.ensures.value v d (h.0, (c.args.atom, h.1))
