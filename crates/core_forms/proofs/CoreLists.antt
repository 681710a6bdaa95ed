-- Lists of cores, one behind another, and what they depend on.
use Rattle.std.proofs.Common.{◌≡◌, ◌↔◌, ℕ, ◌+◌, ◌≤◌, Bool, true, false, ◌&&◌, List, [], ◌∷◌, ◌++◌, refl, sym, ap, ◌∙◌, arith}
use Rattle.std.specs.Prelude.{IsTrue}
use Rattle.order_ints.specs.Truth.{Valuation, Agree}
use Rattle.order_ints.specs.Represents.{DependsBelow}
use Rattle.core_forms.specs.declared.form.Core.{Core}
use Rattle.core_forms.specs.Meaning.{core_truth, Meets}
use Rattle.core_forms.specs.Cores.{cores_truth, MeetsAll, CoresBelow, AreWellFormed, costs_of}
use Rattle.core_forms.proofs.Mapped.{core_truth-agree}
use Rattle.core_forms.proofs.Places.{CoreBelow-more}

both : (b c : Bool) → IsTrue (b && c) ↔ (IsTrue b × IsTrue c)
both true c = (λ h. (refl, h), λ h. h.1)
both false c = (λ h. absurd (cc), λ h. h.0)

-- ---- all cores are met

-- the first core and the others are
pub MeetsAll-first : (σ : Valuation) (core : Core) (cores : List Core) → MeetsAll σ (core ∷ cores) ↔ (Meets σ core × MeetsAll σ cores)
MeetsAll-first σ core cores = both (core_truth σ core) (cores_truth σ cores)

pub MeetsAll-one : (σ : Valuation) (core : Core) → MeetsAll σ (core ∷ []) ↔ Meets σ core
MeetsAll-one σ core = let r = MeetsAll-first σ core [] in (λ h. (r.0 h).0, λ h. r.1 (h, refl))

pub cores_truth-append : (σ : Valuation) (cs ds : List Core) → cores_truth σ (cs ++ ds) ≡ (cores_truth σ cs && cores_truth σ ds)
cores_truth-append σ [] ds = refl
cores_truth-append σ (c ∷ cs) ds =
    ap (λ b. core_truth σ c && b) (cores_truth-append σ cs ds) ∙ regroup (core_truth σ c) (cores_truth σ cs) (cores_truth σ ds)
  where
    regroup : (a b c : Bool) → (a && (b && c)) ≡ ((a && b) && c)
    regroup true b c = refl
    regroup false b c = refl

pub MeetsAll-append : (σ : Valuation) (cs ds : List Core) → MeetsAll σ (cs ++ ds) ↔ (MeetsAll σ cs × MeetsAll σ ds)
MeetsAll-append σ cs ds =
    let r = both (cores_truth σ cs) (cores_truth σ ds) in
    let e = cores_truth-append σ cs ds in
    (λ h. r.0 (sym e ∙ h), λ h. e ∙ r.1 h)

-- whether all are met depends on the variables below n alone
pub cores_truth-agree : (n : ℕ) (σ τ : Valuation) (cs : List Core) → CoresBelow n cs → Agree n σ τ → cores_truth σ cs ≡ cores_truth τ cs
cores_truth-agree n σ τ [] below agree = refl
cores_truth-agree n σ τ (c ∷ cs) below agree =
    let e = core_truth-agree n σ τ c below.0 agree in let r = cores_truth-agree n σ τ cs below.1 agree in cc

pub MeetsAll-agree : (n : ℕ) (σ τ : Valuation) (cs : List Core) → Agree n σ τ → CoresBelow n cs → MeetsAll σ cs → MeetsAll τ cs
MeetsAll-agree n σ τ cs agree below h = sym (cores_truth-agree n σ τ cs below agree) ∙ h

pub MeetsAll-depends : (n : ℕ) (cs : List Core) → CoresBelow n cs → DependsBelow n (λ σ. MeetsAll σ cs)
MeetsAll-depends n cs below = λ σ τ agree h. MeetsAll-agree n σ τ cs agree below h

-- ---- variables, limits and costs

module _ (n : ℕ) where
  pub CoresBelow-append : (cs ds : List Core) → CoresBelow n cs → CoresBelow n ds → CoresBelow n (cs ++ ds)
  CoresBelow-append [] ds h k = k
  CoresBelow-append (c ∷ cs) ds h k = (h.0, CoresBelow-append cs ds h.1 k)

  pub CoresBelow-left : (cs ds : List Core) → CoresBelow n (cs ++ ds) → CoresBelow n cs
  CoresBelow-left [] ds h = tt
  CoresBelow-left (c ∷ cs) ds h = (h.0, CoresBelow-left cs ds h.1)

  pub CoresBelow-right : (cs ds : List Core) → CoresBelow n (cs ++ ds) → CoresBelow n ds
  CoresBelow-right [] ds h = h
  CoresBelow-right (c ∷ cs) ds h = CoresBelow-right cs ds h.1

pub CoresBelow-more : (n m : ℕ) (cs : List Core) → n ≤ m → CoresBelow n cs → CoresBelow m cs
CoresBelow-more n m [] up h = tt
CoresBelow-more n m (c ∷ cs) up h = (CoreBelow-more n m c up h.0, CoresBelow-more n m cs up h.1)

pub AreWellFormed-append : (cs ds : List Core) → AreWellFormed cs → AreWellFormed ds → AreWellFormed (cs ++ ds)
AreWellFormed-append [] ds h k = k
AreWellFormed-append (c ∷ cs) ds h k = (h.0, AreWellFormed-append cs ds h.1 k)

pub AreWellFormed-left : (cs ds : List Core) → AreWellFormed (cs ++ ds) → AreWellFormed cs
AreWellFormed-left [] ds h = tt
AreWellFormed-left (c ∷ cs) ds h = (h.0, AreWellFormed-left cs ds h.1)

pub AreWellFormed-right : (cs ds : List Core) → AreWellFormed (cs ++ ds) → AreWellFormed ds
AreWellFormed-right [] ds h = h
AreWellFormed-right (c ∷ cs) ds h = AreWellFormed-right cs ds h.1

pub costs_of-append : (cs ds : List Core) → costs_of (cs ++ ds) ≡ costs_of cs + costs_of ds
costs_of-append [] ds = omega arith
costs_of-append (c ∷ cs) ds = omega (arith, costs_of-append cs ds)
