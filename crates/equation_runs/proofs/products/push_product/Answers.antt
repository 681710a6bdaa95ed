use Rattle.arith_rules.proofs.ProductFound.{multiples-small, turned-small}
use Rattle.equation_runs.proofs.products.push_product.Goals as goal

pub push_scaled_by-requires-clause-multiples : goal.push_scaled_by-requires-clause-multiples
push_scaled_by-requires-clause-multiples c = multiples-small c.args.a.now c.args.b.now c.requires.products

pub push_scaled_by-requires-2-clause-multiples : goal.push_scaled_by-requires-2-clause-multiples
push_scaled_by-requires-2-clause-multiples c = multiples-small c.args.b.now c.args.a.now (turned-small c.args.a.now c.args.b.now c.requires.products)
