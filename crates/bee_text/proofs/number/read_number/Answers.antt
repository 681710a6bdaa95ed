use Rattle.std.proofs.Common.{ap, ◌∙◌, arith}
use Rattle.bee_text.specs.Digits.{leads_well, digits_after}
use Rattle.bee_text.proofs.NumberLemmas.{read_leads, digits_after-decimal, decimal_leads_well}
use Rattle.bee_text.proofs.number.read_number.Goals as goal

pub returns-then-leads_well-clause-read : goal.returns-then-leads_well-clause-read
returns-then-leads_well-clause-read c =
    read_leads c.args.most c.args.bytes.now c.read_digits.result (omega (arith, c.ranges.most)) (cc) c.read_digits.ensures

pub returns-then-leads_well-clause-complete : goal.returns-then-leads_well-clause-complete
returns-then-leads_well-clause-complete c = λ n fits is.
    c.read_digits.ensures ∙ (ap (digits_after c.args.most 0) is ∙ digits_after-decimal c.args.most n (omega (arith, c.ranges.most)) fits)

pub returns-else-leads_well-clause-complete : goal.returns-else-leads_well-clause-complete
returns-else-leads_well-clause-complete c = λ n fits is.
    let leads = decimal_leads_well n (omega (arith, c.ranges.most)) in
    let same = ap leads_well is in
    absurd (cc)
