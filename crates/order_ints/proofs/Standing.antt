-- The laws of constraints that stand for a property.
use Rattle.std.proofs.Common.{ℕ, ◌≤◌, Bool, true, false, ◌&&◌, List, ◌++◌, refl, sym, ◌∙◌, ◌↔◌, arith}
use Rattle.std.specs.Prelude.{IsTrue}
use Rattle.std.proofs.lemmas.Bool.{false≢true}
use Rattle.order_ints.specs.Truth.{Valuation, Agree}
use Rattle.order_ints.specs.Represents.{DependsBelow, Represents}

-- valuations that agree below m agree below each smaller bound
pub Agree-fewer : (n m : ℕ) (σ τ : Valuation) → n ≤ m → Agree m σ τ → Agree n σ τ
Agree-fewer n m σ τ le same = λ v below. same v (omega arith)

pub Agree-trans : (n : ℕ) (σ τ ρ : Valuation) → Agree n σ τ → Agree n τ ρ → Agree n σ ρ
Agree-trans n σ τ ρ first next = λ v below. first v below ∙ next v below

pub Agree-sym : (n : ℕ) (σ τ : Valuation) → Agree n σ τ → Agree n τ σ
Agree-sym n σ τ same = λ v below. sym (same v below)

-- what depends on the variables below n depends on those below each greater bound
pub DependsBelow-more : (n m : ℕ) (P : Valuation → Type 0) → n ≤ m → DependsBelow n P → DependsBelow m P
DependsBelow-more n m P le depends = λ σ τ same holds. depends σ τ (Agree-fewer n m σ τ le same) holds

-- more variables may be there
pub Represents-more : (n m k : ℕ) (Meets P : Valuation → Type 0) → m ≤ k → Represents n m Meets P → Represents n k Meets P
Represents-more n m k Meets P le r = record {
  fewer = omega (arith, r.fewer);
  constrains = DependsBelow-more m k Meets le r.constrains;
  depends = r.depends;
  implies = r.implies;
  extends = r.extends;
}

-- and fewer may be kept, down to a bound on which the property alone depends
pub Represents-fewer : (k n m : ℕ) (Meets P : Valuation → Type 0) → k ≤ n → DependsBelow k P → Represents n m Meets P → Represents k m Meets P
Represents-fewer k n m Meets P le depends r = record {
  fewer = omega (arith, r.fewer);
  constrains = r.constrains;
  depends = depends;
  implies = r.implies;
  extends = λ σ holds. let e = r.extends σ holds in (e.0, Agree-fewer k n σ e.0 le e.1, e.2);
}

-- constraints that are met by the same valuations stand for the same
pub Represents-met : (n m : ℕ) (Meets Same P : Valuation → Type 0) → ((σ : Valuation) → Meets σ ↔ Same σ) → Represents n m Meets P → Represents n m Same P
Represents-met n m Meets Same P same r = record {
  fewer = r.fewer;
  constrains = λ σ τ agree met. (same τ).0 (r.constrains σ τ agree ((same σ).1 met));
  depends = r.depends;
  implies = λ σ met. r.implies σ ((same σ).1 met);
  extends = λ σ holds. let e = r.extends σ holds in (e.0, e.1, (same e.0).0 e.2);
}

-- and so they do for a property that the same valuations have
pub Represents-same : (n m : ℕ) (Meets P Same : Valuation → Type 0) → ((σ : Valuation) → P σ ↔ Same σ) → Represents n m Meets P → Represents n m Meets Same
Represents-same n m Meets P Same same r = record {
  fewer = r.fewer;
  constrains = r.constrains;
  depends = λ σ τ agree holds. (same τ).0 (r.depends σ τ agree ((same σ).1 holds));
  implies = λ σ met. (same σ).0 (r.implies σ met);
  extends = λ σ holds. r.extends σ ((same σ).1 holds);
}

-- a property stands for itself
pub Represents-itself : (n : ℕ) (P : Valuation → Type 0) → DependsBelow n P → Represents n n P P
Represents-itself n P depends = record {
  fewer = omega arith;
  constrains = depends;
  depends = depends;
  implies = λ σ holds. holds;
  extends = λ σ holds. (σ, (λ v below. refl), holds);
}

-- what stands for constraints stands for what these stand for
pub Represents-through : (n m k : ℕ) (Further Meets P : Valuation → Type 0) → Represents n m Meets P → Represents m k Further Meets → Represents n k Further P
Represents-through n m k Further Meets P r s = record {
  fewer = omega (arith, r.fewer, s.fewer);
  constrains = s.constrains;
  depends = r.depends;
  implies = λ σ met. r.implies σ (s.implies σ met);
  extends = λ σ holds.
      let e = r.extends σ holds in
      let f = s.extends e.0 e.2 in
      (f.0, Agree-trans n σ e.0 f.0 e.1 (Agree-fewer n m e.0 f.0 r.fewer f.1), f.2);
}

-- constraints that stand for a property, and further ones, over fresh variables, for another: together they stand for both
pub Represents-both : (n m k : ℕ) (Meets Also P Q : Valuation → Type 0) → Represents n m Meets P → Represents m k Also Q → DependsBelow n Q → Represents n k (λ σ. Meets σ × Also σ) (λ σ. P σ × Q σ)
Represents-both n m k Meets Also P Q r s depends = record {
  fewer = omega (arith, r.fewer, s.fewer);
  constrains = λ σ τ same both. (r.constrains σ τ (Agree-fewer m k σ τ s.fewer same) both.0, s.constrains σ τ same both.1);
  depends = λ σ τ same both. (r.depends σ τ same both.0, depends σ τ same both.1);
  implies = λ σ both. (r.implies σ both.0, s.implies σ both.1);
  extends = λ σ both.
      let e = r.extends σ both.0 in
      let f = s.extends e.0 (depends σ e.0 e.1 both.1) in
      (f.0, Agree-trans n σ e.0 f.0 e.1 (Agree-fewer n m e.0 f.0 r.fewer f.1), (r.constrains e.0 f.0 f.1 e.2, f.2));
}

-- both facts are those of one test
both-test : (b c : Bool) → (IsTrue b × IsTrue c) ↔ IsTrue (b && c)
both-test true c = ((λ h. h.1), (λ h. (refl, h)))
both-test false c = ((λ h. h.0), (λ h. (h, absurd (false≢true h))))

-- the same of tests, of which both are one test again
pub Represents-both_tests : (n m k : ℕ) (meets also holds too : Valuation → Bool) → Represents n m (λ σ. IsTrue (meets σ)) (λ σ. IsTrue (holds σ)) → Represents m k (λ σ. IsTrue (also σ)) (λ σ. IsTrue (too σ)) → DependsBelow n (λ σ. IsTrue (too σ)) → Represents n k (λ σ. IsTrue (meets σ && also σ)) (λ σ. IsTrue (holds σ && too σ))
Represents-both_tests n m k meets also holds too r s depends =
    let both = Represents-both n m k (λ σ. IsTrue (meets σ)) (λ σ. IsTrue (also σ)) (λ σ. IsTrue (holds σ)) (λ σ. IsTrue (too σ)) r s depends in
    Represents-same n k (λ σ. IsTrue (meets σ && also σ)) (λ σ. IsTrue (holds σ) × IsTrue (too σ)) (λ σ. IsTrue (holds σ && too σ)) (λ σ. both-test (holds σ) (too σ))
    (Represents-met n k (λ σ. IsTrue (meets σ) × IsTrue (also σ)) (λ σ. IsTrue (meets σ && also σ)) (λ σ. IsTrue (holds σ) × IsTrue (too σ)) (λ σ. both-test (meets σ) (also σ)) both)

-- the same along appended lists of constraints, where a valuation meets appended lists exactly where it meets both
pub Represents-append : {C : Type 0} (meets : Valuation → List C → Type 0) (splits : (σ : Valuation) (cs ds : List C) → meets σ (cs ++ ds) ↔ (meets σ cs × meets σ ds)) (n m k : ℕ) (cs ds : List C) (P Q : Valuation → Type 0) → Represents n m (λ σ. meets σ cs) P → Represents m k (λ σ. meets σ ds) Q → DependsBelow n Q → Represents n k (λ σ. meets σ (cs ++ ds)) (λ σ. P σ × Q σ)
Represents-append meets splits n m k cs ds P Q r s depends =
    Represents-met n k (λ σ. meets σ cs × meets σ ds) (λ σ. meets σ (cs ++ ds)) (λ σ. P σ × Q σ) (λ σ. ((splits σ cs ds).1, (splits σ cs ds).0))
    (Represents-both n m k (λ σ. meets σ cs) (λ σ. meets σ ds) P Q r s depends)
