-- Derivations by resolved literals.
use Rattle.std.proofs.Common.{◌≡◌, ◌≢◌, ◌⊎◌, ◌==◌, ℕ, false, List, [], ◌∷◌, reverse, refl, ap, ◌∙◌, inl, inr}
use Rattle.std.specs.List.{Contains}
use Rattle.std.proofs.lemmas.List.{reverse-append}
use Rattle.std.proofs.lemmas.Bool.{cases_Bool, eqb-true}
use Rattle.order_ints.specs.declared.literal.Lit.{Lit}
use Rattle.order_ints.specs.Truth.{not_lit}
use Rattle.proof_check.specs.Named.{Named}
use Rattle.proof_check.specs.Values.{has_var}
use Rattle.conflict_analysis.specs.Learned.{Step, Derives, step_lits, hints_of}
use Rattle.conflict_analysis.specs.Resolving.{backward}
use Rattle.conflict_analysis.proofs.Members.{contains-here, contains-there}

-- more may be known
pub derives-more : (K L : Lit → Type 0) → ((l : Lit) → K l → L l) → (steps : List Step) (conflict : List Lit) → Derives K steps conflict → Derives L steps conflict
derives-more K L h [] conflict d = λ l c. h l (d l c)
derives-more K L h (s ∷ steps) conflict d = (
  record { has = d.0.has; others = λ l c. elim (d.0.others l c) [ inl e ↦ inl e | inr k ↦ inr (h l k) ] },
  derives-more (λ l. K l ⊎ (l ≡ not_lit s.lit)) (λ l. L l ⊎ (l ≡ not_lit s.lit)) (λ l k. elim k [ inl a ↦ inl (h l a) | inr b ↦ inr b ]) steps conflict d.1,
)

var-cases : (v w : ℕ) → v ≢ w → (v == w) ≡ false
var-cases v w n = elim (cases_Bool (v == w)) [ inl p ↦ absurd (n (eqb-true v w p)) | inr p ↦ p ]

-- a variable that no step has
pub no-step-var : (v : ℕ) (steps : List Step) → ((s : Step) → Contains steps s → v ≢ s.lit.var) → has_var v (step_lits steps) ≡ false
no-step-var v [] h = refl
no-step-var v (s ∷ steps) h =
    let n : (v == s.lit.var) ≡ false = var-cases v s.lit.var (h s (contains-here s steps)) in
    rw n (no-step-var v steps (λ t c. h t (contains-there s t steps c)))

pub no-lit-var : (v : ℕ) (ls : List Lit) → ((l : Lit) → Contains ls l → v ≢ l.var) → has_var v ls ≡ false
no-lit-var v [] h = refl
no-lit-var v (l ∷ ls) h =
    let n : (v == l.var) ≡ false = var-cases v l.var (h l (contains-here l ls)) in
    rw n (no-lit-var v ls (λ m c. h m (contains-there l m ls c)))

-- hints are found from the end
pub hints-backward : (steps : List Step) (conflict : Named) → reverse (backward steps conflict) ≡ hints_of steps conflict
hints-backward [] conflict = refl
hints-backward (s ∷ steps) conflict = reverse-append (backward steps conflict) (s.reason.id ∷ []) ∙ ap (λ ids. s.reason.id ∷ ids) (hints-backward steps conflict)
