use Rattle.model_parts.proofs.Typed.{only-typed, only-limits}
use Rattle.model_parts.proofs.Holding.{only-solutions, fewer-hold, others-hold}
use Rattle.model_parts.proofs.Weights.{only-weight}
use Rattle.model_parts.proofs.Weaving.{part-only, marked-only}
use Rattle.model_parts.proofs.laws.part_law.Goals as goal

pub returns : goal.returns
returns c = record {
  typed = only-typed;
  limits = only-limits;
  solutions = only-solutions;
  fewer = fewer-hold;
  others = others-hold;
  weight = only-weight;
  part = part-only;
  marked = marked-only;
}
