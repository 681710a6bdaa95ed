-- A valuation read by a view.
use Rattle.std.proofs.Common.{◌≡◌, ℕ, ◌+◌, Bool, true, false, not, ◌||◌, ◌&&◌, List, [], ◌∷◌, map, length, filter_map, refl, sym, ap, ◌∙◌}
use Rattle.std.specs.List.{cons_option}
use Rattle.std.specs.Option.{option_and_then}
use Rattle.std.specs.Prelude.{IsTrue, if◌then◌else◌}
use Rattle.order_ints.specs.declared.atom.Atom.{Atom}
use Rattle.order_ints.specs.declared.atom.Atom.TheVariants.{True, False, Of}
use Rattle.order_ints.specs.AtomClauses.{atom_clause_truth, atom_clauses_truth}
use Rattle.order_ints.specs.Label.{IsLabelled}
use Rattle.order_ints.specs.OrderedClauses.{with_atom, resolved_lits, by_variable, unless_opposites, ordered_clause, ordered_clauses, distinct}
use Rattle.order_ints.specs.Place.{AtomsBelow, AtomClausesBelow}
use Rattle.order_ints.specs.Satisfies.{clauses_truth, Satisfies}
use Rattle.order_ints.specs.Truth.{Valuation, atom_truth, not_atom}
use Rattle.order_ints.specs.View.{label_of, resolve, MeetsView}
use Rattle.order_ints.proofs.Labels.{resolve-label, labels_below}
use Rattle.order_ints.proofs.OrderedLaws.{clauses_truth-ordered_clauses}
use Rattle.order_ints.proofs.PlaceLaws.{AtomBelow-resolve}
use Rattle.order_ints.proofs.TruthLaws.{atom_truth-not_atom, resolve-nil, MeetsView-nil}
use Rattle.step_kernel.specs.CnfOf.{cnf_of}
use Rattle.step_kernel.specs.Kernel.{Kernel, IsKernel}
use Rattle.step_kernel.specs.Models.{IsModel}
use Rattle.state_compile.specs.StandsFor.{CnfStandsFor, read_by}

-- an atom, so read, is as true as what it resolves to
pub read-atom : (view : List Atom) (σ : Valuation) (a : Atom) → atom_truth (read_by view σ) a ≡ atom_truth σ (resolve view a)
read-atom view σ True = refl
read-atom view σ False = refl
read-atom view σ (Of l) = by l.positive (label_of view l.var)
  where
    by : (p : Bool) (label : Atom) → (if p then atom_truth σ label else not (atom_truth σ label)) ≡ atom_truth σ (if p then label else not_atom label)
    by true label = refl
    by false label = sym (atom_truth-not_atom σ label)

-- where labels label themselves, it meets the view
pub read-meets : (view : List Atom) (σ : Valuation) → IsLabelled view → MeetsView (read_by view σ) view
read-meets view σ labelled v low high =
    ap (atom_truth σ) (sym (resolve-label view (label_of view v) (labelled v low high))) ∙ sym (read-atom view σ (label_of view v))

-- ---- clauses put in order by a view are the resolved ones put in order

resolved-lits : (view atoms : List Atom) → resolved_lits view atoms ≡ resolved_lits [] (map (resolve view) atoms)
resolved-lits view [] = refl
resolved-lits view (a ∷ atoms) =
    ap (λ b. with_atom b (resolved_lits view atoms)) (sym (resolve-nil (resolve view a)))
    ∙ ap (with_atom (resolve [] (resolve view a))) (resolved-lits view atoms)

resolved-clauses : (view : List Atom) (cs : List (List Atom)) → filter_map (ordered_clause view) cs ≡ filter_map (ordered_clause []) (map (map (resolve view)) cs)
resolved-clauses view [] = refl
resolved-clauses view (c ∷ cs) =
    ap (λ o. cons_option (option_and_then (λ ls. unless_opposites (by_variable ls)) o) (filter_map (ordered_clause view) cs)) (resolved-lits view c)
    ∙ ap (cons_option (ordered_clause [] (map (resolve view) c))) (resolved-clauses view cs)

module _ (view : List Atom) (σ : Valuation) (n : ℕ) (labels : AtomsBelow n view) where
  atoms-below : (c : List Atom) → AtomsBelow n c → AtomsBelow n (map (resolve view) c)
  atoms-below [] h = tt
  atoms-below (a ∷ c) h = (AtomBelow-resolve n view labels a h.0, atoms-below c h.1)

  clauses-below : (cs : List (List Atom)) → AtomClausesBelow n cs → AtomClausesBelow n (map (map (resolve view)) cs)
  clauses-below [] h = tt
  clauses-below (c ∷ cs) h = (atoms-below c h.0, clauses-below cs h.1)

  read-clause : (c : List Atom) → atom_clause_truth σ (map (resolve view) c) ≡ atom_clause_truth (read_by view σ) c
  read-clause [] = refl
  read-clause (a ∷ c) =
      ap (λ b. b || atom_clause_truth σ (map (resolve view) c)) (sym (read-atom view σ a))
      ∙ ap (λ b. atom_truth (read_by view σ) a || b) (read-clause c)

  read-clauses : (cs : List (List Atom)) → atom_clauses_truth σ (map (map (resolve view)) cs) ≡ atom_clauses_truth (read_by view σ) cs
  read-clauses [] = refl
  read-clauses (c ∷ cs) =
      ap (λ b. b && atom_clauses_truth σ (map (map (resolve view)) cs)) (read-clause c)
      ∙ ap (λ b. atom_clause_truth (read_by view σ) c && b) (read-clauses cs)

  read-ordered : (cs : List (List Atom)) → AtomClausesBelow n cs → clauses_truth σ (ordered_clauses view cs) ≡ atom_clauses_truth (read_by view σ) cs
  read-ordered cs below =
      ap (λ ds. clauses_truth σ (distinct ds)) (resolved-clauses view cs)
      ∙ clauses_truth-ordered_clauses σ [] n (MeetsView-nil σ) (map (map (resolve view)) cs) (clauses-below cs below)
      ∙ read-clauses cs

-- what satisfies the CNF of a state, so read, satisfies it too
pub read-satisfies : (k : Kernel) (σ : Valuation) → IsKernel k → Satisfies σ (cnf_of k) → Satisfies (read_by k.view σ) (cnf_of k)
read-satisfies k σ is = by k.bottom
  where
    same : clauses_truth σ (ordered_clauses k.view k.clauses) ≡ clauses_truth (read_by k.view σ) (ordered_clauses k.view k.clauses)
    same =
        read-ordered k.view σ (length k.view + 1) (labels_below k.view is.labelled) k.clauses is.clauses
        ∙ sym (clauses_truth-ordered_clauses (read_by k.view σ) k.view (length k.view + 1) (read-meets k.view σ is.labelled) k.clauses is.clauses)

    by : (b : Bool) → IsTrue (clauses_truth σ (if b then [] ∷ [] else ordered_clauses k.view k.clauses)) → IsTrue (clauses_truth (read_by k.view σ) (if b then [] ∷ [] else ordered_clauses k.view k.clauses))
    by true h = h
    by false h = sym same ∙ h

pub read-model : (start last : Kernel) (σ : Valuation) → IsKernel last → CnfStandsFor start last → Satisfies σ (cnf_of last) → IsModel start (read_by last.view σ)
read-model start last σ is stands h =
    stands.back (read_by last.view σ) (read-meets last.view σ is.labelled) (read-satisfies last σ is h)
