use Rattle.std.proofs.Common.{ap, ◌∙◌}
use Rattle.std.specs.Prelude.{option_map, int_lt}
use Rattle.rule_base.specs.Pairs.{first_sought}
use Rattle.arith_rules.specs.Links.{alike_where, turned}
use Rattle.arith_rules.proofs.Turned.{turned-found, alike_back-is}
use Rattle.arith_rules.proofs.maxima.alike_back.Goals as goal

pub returns : goal.returns
returns c =
    let test = int_lt c.args.least.now in
    c.turned.ensures ∙ ap (option_map turned) c.alike_above-found.ensures ∙ turned-found c.args.sought (alike_where test c.args.a.now c.args.b.now)
    ∙ ap (first_sought c.args.sought) (alike_back-is test c.args.a.now c.args.b.now)
