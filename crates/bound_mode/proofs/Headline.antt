-- The assignments that the written text stands for are exactly the solutions of the model that was read whose objective is better than the number.
use Rattle.std.proofs.Common.{arith, ◌≡◌, ℕ, ◌+◌, ◌≤◌, true, List, [], ◌∷◌, ℤ, length, map, sym, ap, subst, ◌∙◌}
use Rattle.std.specs.Prelude.{◌↔◌}
use Rattle.order_ints.specs.declared.atom.Atom.{Atom}
use Rattle.order_ints.specs.Numbers.{numbers_of}
use Rattle.order_ints.specs.Place.{AtomBelow}
use Rattle.order_ints.specs.Satisfies.{Satisfies}
use Rattle.order_ints.specs.Truth.{Valuation, atom_truth}
use Rattle.bumblebee_reader.specs.Names.{AreDeclared}
use Rattle.model_meaning.specs.declared.model.Decl.{Decl}
use Rattle.model_meaning.specs.declared.model.Goal.{Goal}
use Rattle.model_meaning.specs.declared.model.Model.{Model}
use Rattle.model_meaning.specs.Solutions.{IsSolution, objective, is_better}
use Rattle.model_meaning.specs.WellTyped.{WellTyped}
use Rattle.model_meaning.specs.Limits.{InLimits}
use Rattle.name_map.specs.Fits.{ValuesFit}
use Rattle.name_map.specs.Values.{values_of}
use Rattle.bee_compile.specs.declared.compiled.Compiled.{Compiled}
use Rattle.bee_compile.specs.Compiled.{IsInstance, IsCompiledWell}
use Rattle.bee_compile.specs.Fits.{CompiledFits}
use Rattle.bee_compile.proofs.Compilation.{compilation}
use Rattle.dimacs_out.specs.CompiledText.{IsWritable}
use Rattle.dimacs_out.specs.TextSolutions.{StandsFor}
use Rattle.dimacs_out.proofs.TextTells.{stands_for_exactly}
use Rattle.compile_mode.specs.Compiled.{written_of}
use Rattle.compile_mode.proofs.MapLines.{same_values, same_names, entries_below}
use Rattle.model_texts.specs.ModelTexts.{longest_text}
use Rattle.model_texts.proofs.ModelShapes.{typed, limited, names}
use Rattle.objective_bound.specs.Bounds.{better_than}
use Rattle.objective_bound.proofs.Betters.{better-truth}
use Rattle.objective_bound.proofs.Clauses.{atom-range, atom-true, atom-parts}
use Rattle.objective_bound.proofs.Objectives.{values-below, better-below}
use Rattle.bound_mode.specs.Bounded.{bounded_by, Bounds, IsHeadline}
use Rattle.bound_mode.proofs.Ordered.{compiled-ordered}

-- with the clause, what a model is compiled to stays within the limits
pub bounded-fits : (goal : Goal) (m : ℤ) (c : Compiled) → CompiledFits c → CompiledFits (bounded_by goal m c)
bounded-fits goal m c fits =
    let below : AtomBelow (c.cnf.vars + 1) (better_than goal c.map.entries m) = better-below (c.cnf.vars + 1) goal c.map.entries m (values-below (c.cnf.vars + 1) c.decls c.map.entries fits.values) in
    record { vars = fits.vars; clauses = atom-range c.cnf (better_than goal c.map.entries m) fits.clauses below; values = fits.values; ledger = fits.ledger }

module _ (m : ℤ) (text written : List ℕ) (short : length text ≤ longest_text) (b : Bounds m text written) where
  abbrev model : Model
  model = b.boundable.model

  abbrev made : Compiled
  made = b.is.compiled

  abbrev whole : Compiled
  whole = bounded_by model.goal m made

  abbrev better : Atom
  better = better_than model.goal made.map.entries m

  is-typed : WellTyped model
  is-typed = typed text model b.boundable.says

  is-limited : InLimits model
  is-limited = limited text model short b.boundable.says

  well : IsCompiledWell model made
  well = compilation IsInstance model made is-typed is-limited b.boundable.light b.is.cores b.is.is

  writable : IsWritable (written_of whole)
  writable =
      let same = subst (λ ds. AreDeclared ds) (sym (same_names _ made.decls made.map.entries well.fits.values)) in
      record {
        names = same (subst (λ ds. AreDeclared (map (λ (d : Decl). d.name) ds)) (sym b.is.is.decls) (names text model b.boundable.says));
        values = entries_below _ made.decls made.map.entries well.fits.values;
        ledger = well.fits.ledger;
        clauses = (bounded-fits model.goal m made well.fits).clauses;
        vars = omega (arith, well.fits.vars);
        count = b.is.count;
      }

  -- under a valuation that satisfies the clauses the atom says that the solution is better
  truth : (σ : Valuation) → Satisfies σ made.cnf → atom_truth σ better ≡ is_better model.goal (objective model.goal (numbers_of σ made.map.entries)) (m ∷ [])
  truth σ h =
      better-truth σ (made.cnf.vars + 1) model.decls made.map.entries model.goal m
      (subst (λ (ds : List Decl). ValuesFit (made.cnf.vars + 1) ds made.map.entries) b.is.is.decls well.fits.values)
      (compiled-ordered model made is-typed is-limited b.boundable.light b.is.is σ h) is-typed.goal b.boundable.seeks

  abbrev IsBetter : List ℤ → Type 0
  IsBetter a = is_better model.goal (objective model.goal a) (m ∷ []) ≡ true

  given-better : (a : List ℤ) → (σ : Valuation) × Satisfies σ whole.cnf × (a ≡ numbers_of σ made.map.entries) → IsSolution model a × IsBetter a
  given-better a g =
      let parts = atom-parts g.0 made.cnf better g.1 in
      ((well.solutions a).1 (g.0, parts.0, g.2), subst IsBetter (sym g.2) (sym (truth g.0 parts.0) ∙ parts.1))

  better-given : (a : List ℤ) → IsSolution model a → IsBetter a → (σ : Valuation) × Satisfies σ whole.cnf × (a ≡ numbers_of σ made.map.entries)
  better-given a s is =
      let g = (well.solutions a).0 s in
      (g.0, atom-true g.0 made.cnf better g.1 (truth g.0 g.1 ∙ subst IsBetter g.2 is), g.2)

  stands : (a : List ℤ) → StandsFor written a ↔ (IsSolution model a × IsBetter a)
  stands a =
      let same : (σ : Valuation) → numbers_of σ (values_of (written_of whole).entries) ≡ numbers_of σ made.map.entries =
      λ σ. ap (numbers_of σ) (same_values _ made.decls made.map.entries well.fits.values) in
      let s = stands_for_exactly (written_of whole) a writable in
      subst (λ (t : List ℕ). StandsFor t a ↔ (IsSolution model a × IsBetter a)) (sym b.is.writes) (
        λ x. let g = s.0 x in given-better a (g.0, g.1, g.2 ∙ same g.0),
        λ y. let g = better-given a y.0 y.1 in s.1 (g.0, g.1, g.2 ∙ sym (same g.0)),
      )

  pub headline : IsHeadline m text written
  headline = record { within = short; bounds = b; solutions = stands }
