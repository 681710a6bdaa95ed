use Rattle.std.proofs.Common.{List, ℤ, ℕ, sym, subst, ◌∙◌}
use Rattle.std.specs.Prelude.{IfOk}
use Rattle.order_ints.specs.OrderMade.{AreSmall}
use Rattle.alldiff_rules.specs.Tally.{listed_values, IsTally}
use Rattle.alldiff_rules.proofs.TallyLaws.{small-placed}
use Rattle.alldiff_rules.proofs.tally.Tally.of.Goals as goal

pub tally_of-requires : goal.tally_of-requires
tally_of-requires c =
    subst (λ (es : List (ℤ × ℕ)). AreSmall (listed_values es)) (sym (c.as_slice.ensures.value ∙ c.in_ok-entries.ensures)) (small-placed c.args.ints.now c.requires)

pub returns : goal.returns
returns c =
    subst (λ (es : List (ℤ × ℕ)). IfOk c.tally_of.result (IsTally es)) (c.as_slice.ensures.value ∙ c.in_ok-entries.ensures) c.tally_of.ensures
