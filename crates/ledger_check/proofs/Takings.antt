-- What comes of a line, by what it says.
use Rattle.std.proofs.Common.{◌≡◌, ℕ, List, Option, None, Some, Result, Ok, Err, refl, sym, ap, ◌∙◌, subst, inl, inr}
use Rattle.model_meaning.specs.declared.model.Model.{Model}
use Rattle.ledger_check.specs.declared.part.Part.{Part}
use Rattle.ledger_check.specs.declared.fault.Why.{Why}
use Rattle.ledger_check.specs.declared.fault.Why.TheVariants.{Shape}
use Rattle.ledger_check.specs.Items.{Item, Standing, item_line, MayStandIn}
use Rattle.ledger_check.specs.Tests.{taken, taken_in}
use Rattle.ledger_check.specs.Reading.{IsNext}
use Rattle.ledger_check.specs.Taken.{Took, Takes}

err-ok : {X E : Type 0} (x : X) (e : E) → ◌≡◌ {A = Result X E} (Err e) (Ok x) → ⊥
err-ok x e h = cc

ok-same : {X E : Type 0} (x y : X) → ◌≡◌ {A = Result X E} (Ok x) (Ok y) → x ≡ y
ok-same x y e = cc

module _ (model : Model) (s : Standing) (line : List ℕ) (t : Standing) (p : Part) (here : s.part ≡ p) where
  -- the line says nothing that may be said here
  pub nothing-said : ((item : Item) → MayStandIn model s p item → line ≡ item_line model s item → ⊥) → Takes model s line t (Some Shape)
  nothing-said none = record {
    misfit = λ u next. none next.item (subst (λ x. MayStandIn model s x next.item) here next.says.0) next.says.1;
    because = inl (record { nothing = λ item says. none item (subst (λ x. MayStandIn model s x item) here says.0) says.1; shape = refl });
  }

  module _ (item : Item) (may : MayStandIn model s p item) (is : line ≡ item_line model s item)
      (alone : (other : Item) → MayStandIn model s p other → line ≡ item_line model s other → other ≡ item) where
    -- each next line says the same
    same-taken : (u : Standing) → (next : IsNext model s line u) → taken_in model s p item ≡ Ok u
    same-taken u next =
        ap (taken_in model s p) (sym (alone next.item (subst (λ x. MayStandIn model s x next.item) here next.says.0) next.says.1))
        ∙ ap (λ x. taken_in model s x next.item) (sym here) ∙ next.taken

    -- it says one thing alone
    pub said : (o : Option Why) → Took (taken_in model s p item) t o → Takes model s line t o
    said None took = record {
      next = record {
        item = item;
        says = (subst (λ x. MayStandIn model s x item) (sym here) may, is);
        taken = ap (λ x. taken_in model s x item) here ∙ took;
      };
      alone = λ u next. ok-same u t (sym (same-taken u next) ∙ took);
    }
    said (Some w) took = record {
      misfit = λ u next. err-ok u w (sym took ∙ same-taken u next);
      because = inr (record {
        item = item;
        says = (subst (λ x. MayStandIn model s x item) (sym here) may, is);
        taken = ap (λ x. taken_in model s x item) here ∙ took;
      });
    }
