use Rattle.order_ints.specs.View.{resolve}
use Rattle.core_forms.proofs.ShapeLaws.{IsShape-of, trimmed-within}
use Rattle.core_forms.proofs.cost_laws.shape_law.Goals as goal

pub returns : goal.returns
returns c = record { shape = IsShape-of; trimmed = λ view a. trimmed-within (resolve view) a }
