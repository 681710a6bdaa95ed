-- How it is shown that cores stand for a property.
use Rattle.std.proofs.Common.{◌≡◌, ◌↔◌, ℕ, ◌+◌, ◌≤◌, Bool, List, [], ◌∷◌, ◌++◌, IsTrue, refl, sym, ◌∙◌, arith}
use Rattle.order_ints.specs.Truth.{Valuation, Agree}
use Rattle.order_ints.specs.Represents.{DependsBelow}
use Rattle.core_forms.specs.declared.form.Core.{Core}
use Rattle.core_forms.specs.Meaning.{core_truth}
use Rattle.core_forms.specs.Place.{CoreBelow}
use Rattle.core_forms.specs.WellFormed.{IsWellFormed}
use Rattle.core_forms.specs.Cores.{cores_truth, MeetsAll, CoresBelow, AreWellFormed}
use Rattle.core_forms.proofs.CoreLists.{MeetsAll-append, MeetsAll-agree, CoresBelow-append, CoresBelow-more, AreWellFormed-append}
use Rattle.statement_lower.specs.Lowers.{Lowers}
use Rattle.statement_lower.proofs.BooleanLines.{and-true}

-- without a fresh variable: the cores are as true as a test
pub lowers-here : (vars : ℕ) (C : Valuation → Type 0) (cores : List Core) (test : Valuation → Bool)
    → CoresBelow (vars + 1) cores → AreWellFormed cores
    → ((σ : Valuation) → C σ → cores_truth σ cores ≡ test σ)
    → Lowers vars vars C cores (λ σ. IsTrue (test σ))
lowers-here vars C cores test below well_formed e = record {
  more = omega arith;
  below = below;
  well_formed = well_formed;
  implies = λ σ c h. sym (e σ c) ∙ h;
  extends = λ σ c h. (σ, (λ v lt. refl), e σ c ∙ h);
}

-- one core
pub lowers-one : (vars : ℕ) (C : Valuation → Type 0) (core : Core) (test : Valuation → Bool)
    → CoreBelow (vars + 1) core → IsWellFormed core
    → ((σ : Valuation) → C σ → core_truth σ core ≡ test σ)
    → Lowers vars vars C (core ∷ []) (λ σ. IsTrue (test σ))
lowers-one vars C core test below well_formed e =
    lowers-here vars C (core ∷ []) test (below, tt) (well_formed, tt) (λ σ c. and-true (core_truth σ core) ∙ e σ c)

-- a property in other words, where C holds
pub lowers-same : (vars m : ℕ) (C : Valuation → Type 0) (cores : List Core) (P Q : Valuation → Type 0)
    → ((σ : Valuation) → C σ → P σ ↔ Q σ) → Lowers vars m C cores P → Lowers vars m C cores Q
lowers-same vars m C cores P Q same l = record {
  more = l.more;
  below = l.below;
  well_formed = l.well_formed;
  implies = λ σ c h. (same σ c).0 (l.implies σ c h);
  extends = λ σ c q. l.extends σ c ((same σ c).1 q);
}

-- Fresh variables.

-- Cores over m variables, of which those beyond `vars` are fresh, can always be met by a change at these, where C holds;
-- where they are met D holds.
pub record Extends (vars m : ℕ) (C D : Valuation → Type 0) (cores : List Core) : Type 0 where
  pub more : vars ≤ m
  pub below : CoresBelow (m + 1) cores
  pub well_formed : AreWellFormed cores
  pub gives : (σ : Valuation) → C σ → MeetsAll σ cores → D σ
  pub extends : (σ : Valuation) → C σ → (τ : Valuation) × Agree (vars + 1) σ τ × MeetsAll τ cores

pub agree-less : (n m : ℕ) (σ τ : Valuation) → n ≤ m → Agree m σ τ → Agree n σ τ
agree-less n m σ τ le same v lt = same v (omega (arith, lt, le))

agree-both : (n : ℕ) (σ τ υ : Valuation) → Agree n σ τ → Agree n τ υ → Agree n σ υ
agree-both n σ τ υ h k v lt = h v lt ∙ k v lt

module _ (vars k m : ℕ) (C D : Valuation → Type 0) (cs ds : List Core) (first : Extends vars k C D cs) (keeps : DependsBelow (vars + 1) C) where
  below-all : CoresBelow (m + 1) ds → k ≤ m → CoresBelow (m + 1) (cs ++ ds)
  below-all h le = CoresBelow-append (m + 1) cs ds (CoresBelow-more (k + 1) (m + 1) cs (omega (arith, le)) first.below) h

  -- what the first cores give holds where they are met, also after a change behind them
  module _ (σ : Valuation) (c : C σ) (next : (τ : Valuation) → Agree (vars + 1) σ τ → D τ → (υ : Valuation) × Agree (k + 1) τ υ × MeetsAll υ ds) where
    changed : (υ : Valuation) × Agree (vars + 1) σ υ × MeetsAll υ (cs ++ ds)
    changed =
        let t = first.extends σ c in
        let u = next t.0 t.1 (first.gives t.0 (keeps σ t.0 t.1 c) t.2) in (
          u.0,
          agree-both (vars + 1) σ t.0 u.0 t.1 (agree-less (vars + 1) (k + 1) t.0 u.0 (omega (arith, first.more)) u.1),
          (MeetsAll-append u.0 cs ds).1 (MeetsAll-agree (k + 1) t.0 u.0 cs u.1 first.below t.2, u.2),
        )

  -- one after the other
  pub extends-then : (E : Valuation → Type 0) → Extends k m D E ds → Extends vars m C E (cs ++ ds)
  extends-then E second = record {
    more = omega (arith, first.more, second.more);
    below = below-all second.below second.more;
    well_formed = AreWellFormed-append cs ds first.well_formed second.well_formed;
    gives = λ σ c h. let r = (MeetsAll-append σ cs ds).0 h in second.gives σ (first.gives σ c r.0) r.1;
    extends = λ σ c. changed σ c (λ τ same d. second.extends τ d);
  }

  -- cores that stand for a property of the fresh variables, which says what another says of those before
  pub lowers-behind : (P Q : Valuation → Type 0) → DependsBelow (vars + 1) P → ((σ : Valuation) → D σ → P σ ↔ Q σ) → Lowers k m D ds Q → Lowers vars m C (cs ++ ds) P
  lowers-behind P Q depends says second = record {
    more = omega (arith, first.more, second.more);
    below = below-all second.below second.more;
    well_formed = AreWellFormed-append cs ds first.well_formed second.well_formed;
    implies = λ σ c h.
        let r = (MeetsAll-append σ cs ds).0 h in
        let d = first.gives σ c r.0 in
        (says σ d).1 (second.implies σ d r.1);
    extends = λ σ c p. changed σ c (λ τ same d. second.extends τ d ((says τ d).0 (depends σ τ same p)));
  }
