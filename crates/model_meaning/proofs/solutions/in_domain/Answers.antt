use Rattle.std.proofs.Common.{to_z, of_z, w64, ℤ, List, ap, sym, ◌∙◌}
use Rattle.std.specs.List.{list_any}
use Rattle.std.specs.Ordering.{int_eq}
use Rattle.std.proofs.lemmas.Int.{to_z-of_z}
use Rattle.model_meaning.specs.Integers.{is_member}
use Rattle.model_meaning.specs.Domains.{domain}
use Rattle.model_meaning.proofs.DomainLaws.{is_member-listed}
use Rattle.model_meaning.proofs.solutions.in_domain.Goals as goal

pub returns-in-Listed : goal.returns-in-Listed
returns-in-Listed c =
    c.contains.ensures
    ∙ (ap (λ (v : ℤ). list_any (λ w. int_eq w v) c.in-Listed.values) (to_z-of_z w64 c.args.value c.ranges.value)
    ∙ (is_member-listed c.in-Listed.values c.args.value
    ∙ ap (λ k. is_member c.args.value (domain k)) (sym c.in-Listed.is)))
