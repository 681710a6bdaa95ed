-- What is kept on a walk along the items of a model.
use Rattle.std.proofs.Common.{arith, ◌≡◌, ◌<◌, ◌^◌, List, [], ◌∷◌, take, ap, ap₂, subst, sym, ◌∙◌}
use Rattle.model_meaning.specs.declared.model.Decl.{Decl}
use Rattle.model_meaning.specs.declared.model.Stmt.{Stmt}
use Rattle.model_meaning.specs.declared.model.Model.{Model}
use Rattle.model_items.specs.Items.{ModelItem, items_of, items_of_model}
use Rattle.model_items.specs.ItemLimits.{ItemsInLimit}
use Rattle.model_weight.specs.Weight.{weight_of_items, weight_of}
use Rattle.weigh_mode.specs.declared.heaviest.WeighedItem.{WeighedItem}
use Rattle.weigh_mode.specs.Heaviest.{weighed_item, weighed_items, heaviest_items}
use Rattle.weigh_mode.specs.Kept.{put_behind}
use Rattle.weigh_mode.proofs.Sorting.{keep_all, ten_heaviest}

-- before the walk
module _ (model : Model) (ds : List Decl) (ss : List Stmt) (left : List ModelItem) (d : ds ≡ model.decls)
    (s : ss ≡ model.stmts) (is : left ≡ items_of ds ss) where
  all_left : left ≡ items_of_model model
  all_left = is ∙ ap₂ items_of d s

  pub all_fit : weight_of model < 2 ^ 128 → weight_of_items ds left < 2 ^ 128
  all_fit small = let same : weight_of_items ds left ≡ weight_of model = ap₂ weight_of_items d all_left in omega (arith, same, small)

  pub none_kept : (kept : List WeighedItem) → kept ≡ [] → keep_all kept (weighed_items ds left) ≡ heaviest_items model
  none_kept kept e =
      ap₂ keep_all e (ap₂ weighed_items d all_left) ∙ ten_heaviest (weighed_items model.decls (items_of_model model))

-- an item more
module _ (ds : List Decl) (i : ModelItem) (rest left : List ModelItem) (e : left ≡ i ∷ rest) where
  pub next_fits : weight_of_items ds left < 2 ^ 128 → weight_of_items ds rest < 2 ^ 128
  next_fits small = let same = ap (weight_of_items ds) e in omega (arith, same, small)

  pub next_limits : ItemsInLimit left → ItemsInLimit rest
  next_limits h = let k : ItemsInLimit (i ∷ rest) = subst (λ l. ItemsInLimit l) e h in k.1

  pub next_kept : (w : WeighedItem) (kept new all : List WeighedItem) → w ≡ weighed_item ds i
      → new ≡ take 10 (put_behind w kept) → keep_all kept (weighed_items ds left) ≡ all
      → keep_all new (weighed_items ds rest) ≡ all
  next_kept w kept new all f g h =
      ap (λ l. keep_all l (weighed_items ds rest)) (g ∙ ap (λ x. take 10 (put_behind x kept)) f)
      ∙ ap (λ l. keep_all kept (weighed_items ds l)) (sym e) ∙ h

-- behind the walk
pub all_kept : (ds : List Decl) (left : List ModelItem) (kept all : List WeighedItem) → left ≡ []
    → keep_all kept (weighed_items ds left) ≡ all → kept ≡ all
all_kept ds left kept all e h = sym (ap (λ l. keep_all kept (weighed_items ds l)) e) ∙ h
