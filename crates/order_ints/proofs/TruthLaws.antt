-- Truth of literals, atoms and clauses: negation, what it depends on, appended lists, and views.
use Rattle.std.proofs.Common.{◌≡◌, ℕ, ◌-◌, ◌<◌, ◌≤◌, Bool, true, false, not, ◌||◌, ◌&&◌, cond, List, [], ◌∷◌, ◌++◌, ◌⊎◌, inl, inr, length, refl, sym, ap, ◌∙◌, arith}
use Rattle.std.proofs.lemmas.Bool.{cases_lt}
use Rattle.std.proofs.lemmas.List.{get_or_past}
use Rattle.order_ints.specs.declared.literal.Lit.{Lit}
use Rattle.order_ints.specs.declared.atom.Atom.{Atom}
use Rattle.order_ints.specs.declared.atom.Atom.TheVariants.{True, False, Of}
use Rattle.order_ints.specs.Truth.{Valuation, Agree, lit_truth, atom_truth, not_atom}
use Rattle.order_ints.specs.Satisfies.{clause_truth, clauses_truth}
use Rattle.order_ints.specs.AtomClauses.{atom_clause_truth, atom_clauses_truth}
use Rattle.order_ints.specs.Place.{LitBelow, AtomBelow, ClauseBelow, ClausesBelow, AtomsBelow, AtomClausesBelow}
use Rattle.order_ints.specs.View.{label_of, resolve, MeetsView}
-- a negation has the negated truth
pub use Rattle.order_ints.proofs.Truths.{lit_truth-not_lit, atom_truth-not_atom}
use Rattle.order_ints.proofs.Truths.{lit_truth-agree, atom_truth-agree}

-- truth depends on the variables below n alone, where all that occur are below n
module _ (n : ℕ) (σ τ : Valuation) (agree : Agree n σ τ) where
  pub lit_agrees : (l : Lit) → LitBelow n l → lit_truth σ l ≡ lit_truth τ l
  lit_agrees l h = lit_truth-agree n σ τ l agree h

  pub atom_agrees : (a : Atom) → AtomBelow n a → atom_truth σ a ≡ atom_truth τ a
  atom_agrees a h = atom_truth-agree n σ τ a agree h

  pub clause_agrees : (c : List Lit) → ClauseBelow n c → clause_truth σ c ≡ clause_truth τ c
  clause_agrees [] h = refl
  clause_agrees (l ∷ ls) h = ap (λ b. b || clause_truth σ ls) (lit_agrees l h.0) ∙ ap (λ b. lit_truth τ l || b) (clause_agrees ls h.1)

  pub clauses_agree : (cs : List (List Lit)) → ClausesBelow n cs → clauses_truth σ cs ≡ clauses_truth τ cs
  clauses_agree [] h = refl
  clauses_agree (c ∷ cs) h = ap (λ b. b && clauses_truth σ cs) (clause_agrees c h.0) ∙ ap (λ b. clause_truth τ c && b) (clauses_agree cs h.1)

  pub atom_clause_agrees : (c : List Atom) → AtomsBelow n c → atom_clause_truth σ c ≡ atom_clause_truth τ c
  atom_clause_agrees [] h = refl
  atom_clause_agrees (a ∷ atoms) h = ap (λ b. b || atom_clause_truth σ atoms) (atom_agrees a h.0) ∙ ap (λ b. atom_truth τ a || b) (atom_clause_agrees atoms h.1)

  pub atom_clauses_agree : (cs : List (List Atom)) → AtomClausesBelow n cs → atom_clauses_truth σ cs ≡ atom_clauses_truth τ cs
  atom_clauses_agree [] h = refl
  atom_clauses_agree (c ∷ cs) h = ap (λ b. b && atom_clauses_truth σ cs) (atom_clause_agrees c h.0) ∙ ap (λ b. atom_clause_truth τ c && b) (atom_clauses_agree cs h.1)

or_assoc : (x y z : Bool) → (x || (y || z)) ≡ ((x || y) || z)
or_assoc true y z = refl
or_assoc false y z = refl

and_assoc : (x y z : Bool) → (x && (y && z)) ≡ ((x && y) && z)
and_assoc true y z = refl
and_assoc false y z = refl

-- appended lists: one is true, or all are
pub clause_truth-append : (σ : Valuation) (ls ms : List Lit) → clause_truth σ (ls ++ ms) ≡ (clause_truth σ ls || clause_truth σ ms)
clause_truth-append σ [] ms = refl
clause_truth-append σ (l ∷ ls) ms = ap (λ b. lit_truth σ l || b) (clause_truth-append σ ls ms) ∙ or_assoc (lit_truth σ l) (clause_truth σ ls) (clause_truth σ ms)

pub clauses_truth-append : (σ : Valuation) (cs ds : List (List Lit)) → clauses_truth σ (cs ++ ds) ≡ (clauses_truth σ cs && clauses_truth σ ds)
clauses_truth-append σ [] ds = refl
clauses_truth-append σ (c ∷ cs) ds = ap (λ b. clause_truth σ c && b) (clauses_truth-append σ cs ds) ∙ and_assoc (clause_truth σ c) (clauses_truth σ cs) (clauses_truth σ ds)

pub atom_clause_truth-append : (σ : Valuation) (xs ys : List Atom) → atom_clause_truth σ (xs ++ ys) ≡ (atom_clause_truth σ xs || atom_clause_truth σ ys)
atom_clause_truth-append σ [] ys = refl
atom_clause_truth-append σ (a ∷ xs) ys = ap (λ b. atom_truth σ a || b) (atom_clause_truth-append σ xs ys) ∙ or_assoc (atom_truth σ a) (atom_clause_truth σ xs) (atom_clause_truth σ ys)

pub atom_clauses_truth-append : (σ : Valuation) (cs ds : List (List Atom)) → atom_clauses_truth σ (cs ++ ds) ≡ (atom_clauses_truth σ cs && atom_clauses_truth σ ds)
atom_clauses_truth-append σ [] ds = refl
atom_clauses_truth-append σ (c ∷ cs) ds = ap (λ b. atom_clause_truth σ c && b) (atom_clauses_truth-append σ cs ds) ∙ and_assoc (atom_clause_truth σ c) (atom_clauses_truth σ cs) (atom_clauses_truth σ ds)

-- a variable from 1 on is as true as its label
pub atom_truth-label_of : (σ : Valuation) (view : List Atom) → MeetsView σ view → (v : ℕ) → 1 ≤ v → atom_truth σ (label_of view v) ≡ σ v
atom_truth-label_of σ view meets v h = by (cases_lt (length view) v)
  where
    by : ((length view < v) ⊎ (v ≤ length view)) → atom_truth σ (label_of view v) ≡ σ v
    by (inl past) = ap (atom_truth σ) (get_or_past view (v - 1) (Of (record { var = v; positive = true })) (omega (arith, past, h)))
    by (inr within) = sym (meets v h within)

-- where a valuation meets a view, an atom is as true as the view has it
pub atom_truth-resolve : (σ : Valuation) (view : List Atom) (n : ℕ) → MeetsView σ view → (a : Atom) → AtomBelow n a → atom_truth σ (resolve view a) ≡ atom_truth σ a
atom_truth-resolve σ view n meets True h = refl
atom_truth-resolve σ view n meets False h = refl
atom_truth-resolve σ view n meets (Of l) h = by l.positive
  where
    label : Atom
    label = label_of view l.var

    by : (p : Bool) → atom_truth σ (cond p (label_of view l.var) (not_atom (label_of view l.var))) ≡ cond p (σ l.var) (not (σ l.var))
    by true = atom_truth-label_of σ view meets l.var h.0
    by false = atom_truth-not_atom σ (label_of view l.var) ∙ ap not (atom_truth-label_of σ view meets l.var h.0)

-- each valuation meets the empty view
pub MeetsView-nil : (σ : Valuation) → MeetsView σ []
MeetsView-nil σ v low high = absurd (omega (arith, low, high))

-- the empty view leaves each atom as it is
pub resolve-nil : (a : Atom) → resolve [] a ≡ a
resolve-nil True = refl
resolve-nil False = refl
resolve-nil (Of l) = by l.positive
  where
    by : (p : Bool) → cond p (Of (record { var = l.var; positive = true })) (Of (record { var = l.var; positive = false })) ≡ Of (record { var = l.var; positive = p })
    by true = refl
    by false = refl
