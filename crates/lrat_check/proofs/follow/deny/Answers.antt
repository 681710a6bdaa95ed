use Rattle.std.proofs.Common.{◌+◌, List, drop, ap, sym, ◌∙◌}
use Rattle.std.proofs.lemmas.List.{at_drop_more}
use Rattle.order_ints.specs.declared.literal.Lit.{Lit}
use Rattle.literal_trail.specs.Trail.{Trail, value_in, up_to}
use Rattle.lrat_check.specs.Hints.{deny}
use Rattle.lrat_check.proofs.Trails.{deny-more, chosen-bottom}
use Rattle.lrat_check.proofs.follow.deny.Goals as goal

pub loop-i-preserved : goal.loop-i-preserved
loop-i-preserved c =
    let t = c.loop-i.trail in
    record {
      left =
          c.loop-i.invariant.left
          ∙ at_drop_more (λ (ls : List Lit). deny t.vars (value_in t.entries) ls) c.args.lits.now c.loop-i.i _ c.loop-i-test.true
          ∙ deny-more t c.choose.new.self _ c.negated.result (drop (c.loop-i.i + 1) c.args.lits.now) (sym c.is_open.ensures ∙ c.if-not-is_open.false) c.negated.ensures.var c.negated.ensures.sign c.choose.ensures.trail;
      vars = ap (λ (u : Trail). u.vars) c.choose.ensures.trail ∙ c.loop-i.invariant.vars;
      bottom = ap (λ (u : Trail). up_to 0 u.entries) c.choose.ensures.trail ∙ chosen-bottom t c.negated.result c.loop-i.invariant.bottom;
    }
