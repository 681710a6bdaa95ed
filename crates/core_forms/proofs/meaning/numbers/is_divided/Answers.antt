use Rattle.core_forms.proofs.Bounds.{small_division}
use Rattle.core_forms.proofs.meaning.numbers.is_divided.Goals as goal

pub divides-requires-clause-whole : goal.divides-requires-clause-whole
divides-requires-clause-whole g c =
    small_division (g.T.TruthValues.valuation c.args.sigma) c.args.b.now c.args.q.now c.args.r.now _ _ _ c.requires.small c.requires.ordered_b c.requires.ordered_q c.requires.ordered_r c.value-b.ensures.value c.value-q.ensures.value c.value-r.ensures.value c.value-b.ensures.range c.value-q.ensures.range c.value-r.ensures.range
