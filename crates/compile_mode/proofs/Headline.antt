-- The assignments that a compiled text stands for are exactly the solutions of the model that was read.
use Rattle.std.proofs.Common.{arith, ◌≡◌, ℕ, ◌≤◌, List, ℤ, length, map, sym, ap, subst, ◌∙◌}
use Rattle.std.specs.Prelude.{◌↔◌}
use Rattle.order_ints.specs.Truth.{Valuation}
use Rattle.order_ints.specs.Numbers.{numbers_of}
use Rattle.bumblebee_reader.specs.Names.{AreDeclared}
use Rattle.model_meaning.specs.declared.model.Decl.{Decl}
use Rattle.model_meaning.specs.Solutions.{IsSolution}
use Rattle.name_map.specs.Values.{values_of}
use Rattle.bee_compile.specs.declared.compiled.Compiled.{Compiled}
use Rattle.bee_compile.specs.Compiled.{IsInstance, IsCompiledWell}
use Rattle.bee_compile.proofs.Compilation.{compilation}
use Rattle.dimacs_out.specs.CompiledText.{IsWritable}
use Rattle.dimacs_out.specs.TextSolutions.{StandsFor}
use Rattle.dimacs_out.proofs.TextTells.{stands_for_exactly}
use Rattle.compile_mode.specs.Compiled.{written_of, Compiles}
use Rattle.model_texts.specs.ModelTexts.{longest_text}
use Rattle.compile_mode.specs.Compiled.{IsHeadline}
use Rattle.compile_mode.proofs.MapLines.{same_values, same_names, entries_below}
use Rattle.model_texts.proofs.ModelShapes.{typed, limited, names}

module _ (text written : List ℕ) (short : length text ≤ longest_text) (c : Compiles text written) where
  abbrev pub made : Compiled
  made = c.is.compiled

  pub well : IsCompiledWell c.model made
  well = compilation IsInstance c.model made (typed text c.model c.says) (limited text c.model short c.says) c.light c.is.cores c.is.is

  -- what the model is compiled to can be written
  pub writable : IsWritable (written_of made)
  writable =
      let same = subst (λ ds. AreDeclared ds) (sym (same_names _ made.decls made.map.entries well.fits.values)) in
      record {
        names = same (subst (λ ds. AreDeclared (map (λ (d : Decl). d.name) ds)) (sym c.is.is.decls) (names text c.model c.says));
        values = entries_below _ made.decls made.map.entries well.fits.values;
        ledger = well.fits.ledger;
        clauses = well.fits.clauses;
        vars = omega (arith, well.fits.vars);
        count = c.is.count;
      }

  stands : (a : List ℤ) → StandsFor written a ↔ IsSolution c.model a
  stands a =
      let same : (σ : Valuation) → numbers_of σ (values_of (written_of made).entries) ≡ numbers_of σ made.map.entries =
      λ σ. ap (numbers_of σ) (same_values _ made.decls made.map.entries well.fits.values) in
      let s = stands_for_exactly (written_of made) a writable in
      subst (λ (t : List ℕ). StandsFor t a ↔ IsSolution c.model a) (sym c.is.writes) (
        λ x. let g = s.0 x in (well.solutions a).1 (g.0, g.1, g.2 ∙ same g.0),
        λ y. let g = (well.solutions a).0 y in s.1 (g.0, g.1, g.2 ∙ sym (same g.0)),
      )

  pub headline : IsHeadline text written
  headline = record { within = short; compiled = c; solutions = stands }
