-- The solutions of a model are the assignments that are decoded from what it is lowered to, which is no larger than the model's
-- weight.
use Rattle.std.proofs.Common.{List, [], subst, arith}
use Rattle.model_meaning.specs.declared.model.Decl.{Decl}
use Rattle.model_meaning.specs.declared.model.Stmt.{Stmt}
use Rattle.model_meaning.specs.declared.model.Model.{Model}
use Rattle.model_meaning.specs.WellTyped.{WellTyped}
use Rattle.model_meaning.specs.Limits.{InLimits}
use Rattle.model_items.specs.Items.{items_of}
use Rattle.model_lower.specs.Lowering.{nothing_lowered, lowered_of}
use Rattle.model_lower.specs.Weighed.{ModelWeightLaws}
use Rattle.model_lower.specs.ItemLaws.{LoweringLaws}
use Rattle.model_lower.proofs.Standing.{Stands, ItemsFit, items-stand, nothing-stands, decls_in}
use Rattle.model_lower.proofs.ItemOrder.{decls_in-items_of, stmts_in-items_of}
use Rattle.model_lower.proofs.ItemFits.{model-fits}
use Rattle.model_lower.proofs.Weights.{model-size, model-count}

items-fit : (model : Model) → WellTyped model → InLimits model → ItemsFit [] (items_of model.decls model.stmts)
items-fit model typed limits = model-fits model.decls model.stmts typed.decls limits.0 typed.stmts limits.1 typed.shares

pub weight_law : ModelWeightLaws
weight_law model typed limits =
    let size = model-size model.decls model.stmts (items-fit model typed limits) (decls_in-items_of model.decls model.stmts) in
    record { size = size; cores = model-count model.decls model.stmts size }

pub lowering_law : LoweringLaws
lowering_law model typed limits light =
    let items = items_of model.decls model.stmts in
    let st = items-stand nothing_lowered [] [] items nothing-stands (items-fit model typed limits) in
    let all : Stands (lowered_of model) model.decls model.stmts =
    subst (λ (ds : List Decl). Stands (lowered_of model) ds model.stmts) (decls_in-items_of model.decls model.stmts)
    (subst (λ (ss : List Stmt). Stands (lowered_of model) (decls_in items) ss) (stmts_in-items_of model.decls model.stmts) st) in
    let size = (weight_law model typed limits).size in
    record {
      solutions = λ a. (λ s. (all.solutions a).0 (s.in_domains, s.holds), λ c. let r = (all.solutions a).1 c in record { in_domains = r.0; holds = r.1 });
      fits = record {
        size = omega (arith, size, light);
        entries = all.encodes.entries;
        below = all.encodes.below;
        well_formed = all.encodes.well_formed;
      };
      ordered = all.encodes.ordered;
    }
