use Rattle.std.proofs.Common.{ap, ◌∙◌}
use Rattle.std.specs.Prelude.{option_map}
use Rattle.rule_base.specs.Pairs.{first_sought}
use Rattle.arith_rules.specs.Links.{linked, turned}
use Rattle.arith_rules.specs.CodeLinks.{link_of}
use Rattle.arith_rules.proofs.Turned.{turned-found, linked_back-is}
use Rattle.arith_rules.proofs.links.linked_back.Goals as goal

pub returns : goal.returns
returns c =
    let link = link_of c.args.link.now in
    c.turned.ensures ∙ ap (option_map turned) c.linked-found.ensures ∙ turned-found c.args.sought (linked link c.args.a.now c.args.b.now)
    ∙ ap (first_sought c.args.sought) (linked_back-is link c.args.a.now c.args.b.now)
