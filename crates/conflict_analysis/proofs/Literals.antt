-- Literals: when two are the same, and what a negation is.
use Rattle.std.proofs.Common.{◌≡◌, ◌≢◌, ◌⊎◌, Bool, true, false, not, refl, sym, ap, ◌∙◌, inl, inr}
use Rattle.std.proofs.lemmas.Bool.{cases_eq}
use Rattle.order_ints.specs.declared.literal.Lit.{Lit}
use Rattle.order_ints.specs.Truth.{not_lit}

pub lit-same : (l m : Lit) → l.var ≡ m.var → l.positive ≡ m.positive → l ≡ m
lit-same l m p q = λ i. record { var = p i; positive = q i }

signs : (a b : Bool) → (a ≡ b) ⊎ (a ≡ not b)
signs true true = inl refl
signs true false = inr refl
signs false true = inr refl
signs false false = inl refl

not-same : (a b : Bool) → a ≡ not b → a ≡ b → ⊥
not-same a true e f = cc
not-same a false e f = cc

-- literals of one variable are the same or each other's negation
pub lit-or-not : (l m : Lit) → l.var ≡ m.var → (l ≡ m) ⊎ (l ≡ not_lit m)
lit-or-not l m e = elim (signs l.positive m.positive) [ inl s ↦ inl (lit-same l m e s) | inr s ↦ inr (lit-same l (not_lit m) e s) ]

pub not-lit-differs : (l m : Lit) → l ≡ not_lit m → l ≡ m → ⊥
not-lit-differs l m e f = not-same l.positive m.positive (ap (λ (x : Lit). x.positive) e) (ap (λ (x : Lit). x.positive) f)

pub lit-cases : (l m : Lit) → (l ≡ m) ⊎ (l ≢ m)
lit-cases l m = elim (cases_eq l.var m.var) [
  | inl e ↦ elim (lit-or-not l m e) [ inl s ↦ inl s | inr s ↦ inr (not-lit-differs l m s) ]
  | inr n ↦ inr (λ e. n (ap (λ (x : Lit). x.var) e))
]

not-not : (b : Bool) → not (not b) ≡ b
not-not true = refl
not-not false = refl

pub not-not-lit : (l : Lit) → not_lit (not_lit l) ≡ l
not-not-lit l = lit-same (not_lit (not_lit l)) l refl (not-not l.positive)

pub not-lit-flip : (l m : Lit) → l ≡ not_lit m → m ≡ not_lit l
not-lit-flip l m e = sym (ap not_lit e ∙ not-not-lit m)
