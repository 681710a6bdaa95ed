use Rattle.core_forms.proofs.Limits.{value-within, small-products, small-divisions}
use Rattle.core_forms.proofs.laws.limit_law.Goals as goal

pub returns : goal.returns
returns c = record { value = value-within; products = small-products; divisions = small-divisions }
