-- Fresh atoms for each two members, and whether all members differ.
use Rattle.std.proofs.Common.{◌≡◌, ℕ, ◌+◌, ◌≤◌, Bool, true, false, ◌&&◌, List, [], ◌∷◌, ◌++◌, map, IsTrue, refl, sym, ap, ◌∙◌, arith}
use Rattle.std.specs.Ordering.{int_eq}
use Rattle.std.proofs.lemmas.Bool.{and_parts}
use Rattle.order_ints.specs.declared.atom.Atom.{Atom}
use Rattle.order_ints.specs.declared.order_int.OrdInt.{OrdInt}
use Rattle.order_ints.specs.Truth.{Valuation, Agree, atom_truth, not_atom}
use Rattle.order_ints.specs.Place.{AtomBelow, AtomsBelow}
use Rattle.order_ints.specs.OrderValue.{value_of, in_order, IsOrdered}
use Rattle.order_ints.specs.Represents.{DependsBelow}
use Rattle.order_ints.proofs.Truths.{atom_truth-agree}
use Rattle.order_ints.proofs.Gains.{AtomBelow-more, value_of-agree}
use Rattle.core_forms.specs.declared.form.Core.{Core}
use Rattle.core_forms.specs.declared.form.Core.TheVariants as core
use Rattle.core_forms.specs.Truths as forms
use Rattle.core_forms.specs.Values.{values, all_ordered}
use Rattle.model_meaning.specs.Lists.{differs_from, all_differ}
use Rattle.model_meaning.specs.Holds.{same}
use Rattle.statement_lower.specs.Fresh.{fresh_atom}
use Rattle.statement_lower.specs.Pairs.{each_vars, each_atoms, each_equal, pairs_vars, pairs_atoms, pairs_equal, difference_made}
use Rattle.statement_lower.specs.Lowers.{Lowers}
use Rattle.statement_lower.proofs.EntryLaws.{SmallInteger, AreSmallIntegers, small-more}
use Rattle.statement_lower.proofs.BooleanLines.{beq-same}
use Rattle.statement_lower.proofs.FreshAtoms.{AtomsBelow-more, AtomsBelow-negated, Names, Names-depends, extends-atom}
use Rattle.statement_lower.proofs.LowersLaws.{Extends, extends-then, lowers-behind, lowers-one}

-- no core, and what is known says something in other words
extends-nothing : (vars : ℕ) (C D : Valuation → Type 0) → ((σ : Valuation) → C σ → D σ) → Extends vars vars C D []
extends-nothing vars C D says = record {
  more = omega arith;
  below = tt;
  well_formed = tt;
  gives = λ σ c h. says σ c;
  extends = λ σ c. (σ, (λ v lt. refl), refl);
}

extends-same : (vars m : ℕ) (C D E : Valuation → Type 0) (cores : List Core) → ((σ : Valuation) → D σ → E σ) → Extends vars m C D cores → Extends vars m C E cores
extends-same vars m C D E cores says l = record {
  more = l.more;
  below = l.below;
  well_formed = l.well_formed;
  gives = λ σ c h. says σ (l.gives σ c h);
  extends = l.extends;
}

-- Variables.

pub each-more : (vars : ℕ) (ints : List OrdInt) → vars ≤ each_vars vars ints
each-more vars [] = omega arith
each-more vars (b ∷ ints) = let le = each-more (vars + 1) ints in omega (arith, le)

each-below : (vars : ℕ) (ints : List OrdInt) → AtomsBelow (each_vars vars ints + 1) (each_atoms vars ints)
each-below vars [] = tt
each-below vars (b ∷ ints) = let le = each-more (vars + 1) ints in ((omega arith, omega (arith, le)), each-below (vars + 1) ints)

pub pairs-more : (vars : ℕ) (ints : List OrdInt) → vars ≤ pairs_vars vars ints
pairs-more vars [] = omega arith
pairs-more vars (a ∷ ints) = let x = each-more vars ints in let y = pairs-more (each_vars vars ints) ints in omega (arith, x, y)

AtomsBelow-append : (n : ℕ) (xs ys : List Atom) → AtomsBelow n xs → AtomsBelow n ys → AtomsBelow n (xs ++ ys)
AtomsBelow-append n [] ys h k = k
AtomsBelow-append n (x ∷ xs) ys h k = (h.0, AtomsBelow-append n xs ys h.1 k)

pairs-below : (vars : ℕ) (ints : List OrdInt) → AtomsBelow (pairs_vars vars ints + 1) (pairs_atoms vars ints)
pairs-below vars [] = tt
pairs-below vars (a ∷ ints) =
    let le = pairs-more (each_vars vars ints) ints in
    AtomsBelow-append (pairs_vars (each_vars vars ints) ints + 1) (each_atoms vars ints) (pairs_atoms (each_vars vars ints) ints)
    (AtomsBelow-more (each_vars vars ints + 1) (pairs_vars (each_vars vars ints) ints + 1) (each_atoms vars ints) (omega (arith, le)) (each-below vars ints))
    (pairs-below (each_vars vars ints) ints)

small-each_more : (n m : ℕ) (ints : List OrdInt) → n ≤ m → AreSmallIntegers n ints → AreSmallIntegers m ints
small-each_more n m [] le h = tt
small-each_more n m (a ∷ ints) le h = (small-more n m a le h.0, small-each_more n m ints le h.1)

values-agree : (n : ℕ) (σ τ : Valuation) (ints : List OrdInt) → Agree n σ τ → AreSmallIntegers n ints → values σ ints ≡ values τ ints
values-agree n σ τ [] agree h = refl
values-agree n σ τ (a ∷ ints) agree h = rw (value_of-agree n σ τ a agree h.0.below, values-agree n σ τ ints agree h.1) refl

all_true-agree : (n : ℕ) (σ τ : Valuation) (atoms : List Atom) → Agree n σ τ → AtomsBelow n atoms → forms.all_true σ atoms ≡ forms.all_true τ atoms
all_true-agree n σ τ [] agree h = refl
all_true-agree n σ τ (a ∷ atoms) agree h = rw (atom_truth-agree n σ τ a agree h.0, all_true-agree n σ τ atoms agree h.1) refl

-- One member beside each later one.

-- none of the atoms is true exactly where the member differs from each later one
abbrev Differs : ℕ → OrdInt → List OrdInt → (Valuation → Type 0) → Valuation → Type 0
Differs vars a ints C σ = C σ × (forms.all_true σ (map not_atom (each_atoms vars ints)) ≡ differs_from (value_of σ a) (values σ ints))

Differs-depends : (vars : ℕ) (a : OrdInt) (ints : List OrdInt) (C : Valuation → Type 0) → DependsBelow (vars + 1) C → SmallInteger (vars + 1) a → AreSmallIntegers (vars + 1) ints
    → DependsBelow (each_vars vars ints + 1) (Differs vars a ints C)
Differs-depends vars a ints C keeps small smalls σ τ agree d =
    let le = each-more vars ints in
    let less : Agree (vars + 1) σ τ = λ v lt. agree v (omega (arith, lt, le)) in (
      keeps σ τ less d.0,
      sym (all_true-agree (each_vars vars ints + 1) σ τ (map not_atom (each_atoms vars ints)) agree (AtomsBelow-negated (each_vars vars ints + 1) (each_atoms vars ints) (each-below vars ints)))
          ∙ (d.1 ∙ rw (value_of-agree (vars + 1) σ τ a less small.below, values-agree (vars + 1) σ τ ints less smalls) refl),
    )

both-ordered : (o p t : Bool) → o ≡ true → p ≡ true → ((o && p) && t) ≡ t
both-ordered o p t e f = rw (e, f) refl

each-extends : (vars : ℕ) (C : Valuation → Type 0) (a : OrdInt) (ints : List OrdInt) → DependsBelow (vars + 1) C → SmallInteger (vars + 1) a → AreSmallIntegers (vars + 1) ints
    → ((σ : Valuation) → C σ → IsOrdered σ a × (all_ordered σ ints ≡ true))
    → Extends vars (each_vars vars ints) C (Differs vars a ints C) (each_equal vars a ints)
each-extends vars C a [] keeps small smalls order = extends-nothing vars C (Differs vars a [] C) (λ σ c. (c, refl))
each-extends vars C a (b ∷ ints) keeps small smalls order =
    let test : Valuation → Bool = λ σ. int_eq (value_of σ a) (value_of σ b) in
    let D : Valuation → Type 0 = Names vars C test in
    let depends : (σ τ : Valuation) → Agree (vars + 1) σ τ → test σ ≡ test τ =
    λ σ τ agree. rw (value_of-agree (vars + 1) σ τ a agree small.below, value_of-agree (vars + 1) σ τ b agree smalls.0.below) refl in
    let first : Extends vars (vars + 1) C D (core.EqR (fresh_atom vars) a b ∷ []) =
    extends-atom vars C (core.EqR (fresh_atom vars) a b) test
    (((omega arith, omega arith), tt), ((small-more (vars + 1) (vars + 1 + 1) a (omega arith) small).below, ((small-more (vars + 1) (vars + 1 + 1) b (omega arith) smalls.0).below, tt)))
    (small.sound, smalls.0.sound)
    (λ σ c.
    let o = order σ c in
    let p = and_parts (in_order σ b.steps) (all_ordered σ ints) o.1 in
    both-ordered (in_order σ a.steps) (in_order σ b.steps) _ o.0 p.0)
    depends keeps in
    let rest : Extends (vars + 1) (each_vars (vars + 1) ints) D (Differs (vars + 1) a ints D) (each_equal (vars + 1) a ints) =
    each-extends (vars + 1) D a ints (Names-depends vars C test depends keeps) (small-more (vars + 1) (vars + 1 + 1) a (omega arith) small)
    (small-each_more (vars + 1) (vars + 1 + 1) ints (omega arith) smalls.1)
    (λ σ d. let o = order σ d.0 in (o.0, (and_parts (in_order σ b.steps) (all_ordered σ ints) o.1).1)) in
    extends-same vars (each_vars (vars + 1) ints) C (Differs (vars + 1) a ints D) (Differs vars a (b ∷ ints) C) (each_equal vars a (b ∷ ints))
    (λ σ d. (d.0.0, rw (d.0.1, d.1) refl))
    (extends-then vars (vars + 1) (each_vars (vars + 1) ints) C D (core.EqR (fresh_atom vars) a b ∷ []) (each_equal (vars + 1) a ints) first keeps (Differs (vars + 1) a ints D) rest)

-- Each two members.

all_true-append : (σ : Valuation) (xs ys : List Atom) → forms.all_true σ (map not_atom (xs ++ ys)) ≡ (forms.all_true σ (map not_atom xs) && forms.all_true σ (map not_atom ys))
all_true-append σ [] ys = refl
all_true-append σ (x ∷ xs) ys = ap (λ t. atom_truth σ (not_atom x) && t) (all_true-append σ xs ys) ∙ regroup (atom_truth σ (not_atom x)) _ _
  where
    regroup : (a b c : Bool) → (a && (b && c)) ≡ ((a && b) && c)
    regroup true b c = refl
    regroup false b c = refl

abbrev AllDiffer : ℕ → List OrdInt → (Valuation → Type 0) → Valuation → Type 0
AllDiffer vars ints C σ = C σ × (forms.all_true σ (map not_atom (pairs_atoms vars ints)) ≡ all_differ (values σ ints))

pairs-extends : (vars : ℕ) (C : Valuation → Type 0) (ints : List OrdInt) → DependsBelow (vars + 1) C → AreSmallIntegers (vars + 1) ints
    → ((σ : Valuation) → C σ → all_ordered σ ints ≡ true)
    → Extends vars (pairs_vars vars ints) C (AllDiffer vars ints C) (pairs_equal vars ints)
pairs-extends vars C [] keeps smalls order = extends-nothing vars C (AllDiffer vars [] C) (λ σ c. (c, refl))
pairs-extends vars C (a ∷ ints) keeps smalls order =
    let k : ℕ = each_vars vars ints in
    let le = each-more vars ints in
    let D : Valuation → Type 0 = Differs vars a ints C in
    let first : Extends vars k C D (each_equal vars a ints) =
    each-extends vars C a ints keeps smalls.0 smalls.1 (λ σ c. let p = and_parts (in_order σ a.steps) (all_ordered σ ints) (order σ c) in (p.0, p.1)) in
    let rest : Extends k (pairs_vars k ints) D (AllDiffer k ints D) (pairs_equal k ints) =
    pairs-extends k D ints (Differs-depends vars a ints C keeps smalls.0 smalls.1) (small-each_more (vars + 1) (k + 1) ints (omega (arith, le)) smalls.1)
    (λ σ d. (and_parts (in_order σ a.steps) (all_ordered σ ints) (order σ d.0)).1) in
    extends-same vars (pairs_vars k ints) C (AllDiffer k ints D) (AllDiffer vars (a ∷ ints) C) (pairs_equal vars (a ∷ ints))
    (λ σ d. (d.0.0, all_true-append σ (each_atoms vars ints) (pairs_atoms k ints) ∙ rw (d.0.1, d.1) refl))
    (extends-then vars k (pairs_vars k ints) C D (each_equal vars a ints) (pairs_equal k ints) first keeps (AllDiffer k ints D) rest)

-- an atom is the truth of all members being different
pub difference-lowers : (vars : ℕ) (C : Valuation → Type 0) (ints : List OrdInt) (z : Atom) → DependsBelow (vars + 1) C → AreSmallIntegers (vars + 1) ints → AtomBelow (vars + 1) z
    → ((σ : Valuation) → C σ → all_ordered σ ints ≡ true)
    → Lowers vars (difference_made vars ints z).vars C (difference_made vars ints z).cores (λ σ. IsTrue (same (atom_truth σ z) (all_differ (values σ ints))))
difference-lowers vars C ints z keeps smalls at order =
    let k : ℕ = pairs_vars vars ints in
    let le = pairs-more vars ints in
    let members : List Atom = map not_atom (pairs_atoms vars ints) in
    lowers-behind vars k k C (AllDiffer vars ints C) (pairs_equal vars ints) (core.Conj z members ∷ [])
    (pairs-extends vars C ints keeps smalls order) keeps
    (λ σ. IsTrue (same (atom_truth σ z) (all_differ (values σ ints)))) (λ σ. IsTrue (same (atom_truth σ z) (forms.all_true σ members)))
    (λ σ τ agree h.
    let e : same (atom_truth σ z) (all_differ (values σ ints)) ≡ same (atom_truth τ z) (all_differ (values τ ints)) =
    rw (atom_truth-agree (vars + 1) σ τ z agree at, values-agree (vars + 1) σ τ ints agree smalls) refl in
    sym e ∙ h)
    (λ σ d.
    let e : same (atom_truth σ z) (forms.all_true σ members) ≡ same (atom_truth σ z) (all_differ (values σ ints)) = ap (same (atom_truth σ z)) d.1 in
    (λ h. e ∙ h, λ h. sym e ∙ h))
    (lowers-one k (AllDiffer vars ints C) (core.Conj z members) (λ σ. same (atom_truth σ z) (forms.all_true σ members))
    ((AtomBelow-more (vars + 1) (k + 1) z (omega (arith, le)) at, AtomsBelow-negated (k + 1) (pairs_atoms vars ints) (pairs-below vars ints)), tt) tt
    (λ σ d. beq-same (atom_truth σ z) (forms.all_true σ members)))
