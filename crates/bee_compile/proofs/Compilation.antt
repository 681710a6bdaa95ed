-- The compilation keeps the solutions.
use Rattle.std.proofs.Common.{◌≡◌, ℕ, ◌+◌, ◌*◌, ◌≤◌, ◌<◌, ◌^◌, true, List, length, Ok, refl, sym, ap, subst, ◌∙◌, ℤ, arith}
use Rattle.std.specs.Prelude.{◌↔◌}
use Rattle.order_ints.specs.declared.atom.Atom.{Atom}
use Rattle.order_ints.specs.Truth.{Valuation}
use Rattle.order_ints.specs.Satisfies.{Satisfies}
use Rattle.order_ints.specs.Numbers.{numbers_of}
use Rattle.order_ints.specs.Place.{InRange}
use Rattle.order_ints.proofs.Labels.{labels_below, length-own_labels}
use Rattle.core_forms.specs.declared.equation.Equation.{Equation}
use Rattle.core_forms.specs.declared.form.Core.{Core}
use Rattle.model_meaning.specs.declared.model.Decl.{Decl}
use Rattle.model_meaning.specs.declared.model.Model.{Model}
use Rattle.model_meaning.specs.WellTyped.{WellTyped}
use Rattle.model_meaning.specs.Limits.{InLimits}
use Rattle.statement_lower.proofs.EntryLaws.{numbers_of-agree}
use Rattle.model_weight.specs.Weight.{weight_of}
use Rattle.model_lower.specs.declared.state.Lowered.{Lowered}
use Rattle.model_lower.specs.Lowering.{lowered_of}
use Rattle.model_lower.specs.Decoded.{IsDecoded}
use Rattle.model_lower.specs.Weighed.{most_weight}
use Rattle.model_lower.specs.Fits.{Fits}
use Rattle.model_lower.proofs.LoweringLaw.{lowering_law}
use Rattle.step_kernel.specs.Kernel.{Kernel, IsKernel, started}
use Rattle.step_kernel.specs.CnfOf.{cnf_of}
use Rattle.step_kernel.proofs.Started.{started-kernel, started-models}
use Rattle.step_kernel.proofs.CnfLaws.{in_range-of}
use Rattle.asking_bound.specs.Made.{all_made}
use Rattle.asking_bound.specs.Questions.{most_questions, occurrences_of, binary_digits}
use Rattle.state_compile.specs.Compilation.{IsCompilation}
use Rattle.state_compile.specs.StandsFor.{CnfStandsFor, read_by}
use Rattle.state_compile.proofs.Answered.{compilation-kept, compilation-models}
use Rattle.state_compile.proofs.Reading.{read-model}
use Rattle.bee_compile.specs.declared.compiled.Compiled.{Compiled}
use Rattle.name_map.specs.Trimmed.{trimmed_values}
use Rattle.bee_compile.specs.Fits.{CompiledFits}
use Rattle.bee_compile.specs.Compiled.{start_of, questions_of, IsGiven, IsCompiledWell, CompilationLaw}
use Rattle.bee_compile.proofs.Numbers.{numbers-read, numbers-met}
use Rattle.bee_compile.proofs.Fitting.{values-fit}
use Rattle.bee_compile.proofs.Ledgers.{ledger-below}

module _ (l : Lowered) (decls : List Decl) (fits : Fits l decls) where
  start-kernel : IsKernel (start_of l)
  start-kernel = started-kernel l.vars l.cores fits.well_formed fits.below fits.size

  start-vars : length (start_of l).view ≡ l.vars
  start-vars = length-own_labels 1 l.vars

  module _ (last : Kernel) (is : IsKernel last) (stands : CnfStandsFor (start_of l) last) where
    abbrev reads : Valuation → List ℤ
    reads σ = numbers_of σ (trimmed_values last.view l.map.entries)

    -- what a satisfying valuation gives is decoded from a valuation that meets all cores
    given-decoded : (σ : Valuation) → Satisfies σ (cnf_of last) → IsDecoded l (reads σ)
    given-decoded σ h =
        let τ : Valuation = read_by last.view σ in
        (τ, (started-models l.vars l.cores τ).0 (read-model (start_of l) last σ is stands h), numbers-read last.view σ l.map.entries)

    -- and the other way about
    decoded-given : (a : List ℤ) → IsDecoded l a → (σ : Valuation) × Satisfies σ (cnf_of last) × (a ≡ reads σ)
    decoded-given a d =
        let t = stands.forth d.0 ((started-models l.vars l.cores d.0).1 d.1) in
        let same = subst (λ n. numbers_of d.0 l.map.entries ≡ numbers_of t.0 l.map.entries) start-vars
        (numbers_of-agree (l.vars + 1) d.0 t.0 decls l.map.entries (λ v below. t.1 v (omega (arith, below, start-vars))) fits.entries) in
        (t.0, t.3, d.2 ∙ same ∙ sym (numbers-met last.view t.0 t.2 (l.vars + 1) decls l.map.entries fits.entries))

module _ (told : Core → Equation → Type 0) where
  given : (c : Compiled) (last : Kernel) (l : Lowered) (decls : List Decl) → Fits l decls → IsCompilation told (start_of l) c.ledger last
      → c.cnf ≡ cnf_of last → c.map.entries ≡ trimmed_values last.view l.map.entries → (a : List ℤ) → IsDecoded l a ↔ IsGiven c a
  given c last l decls fits compilation cnf map a =
      let start = start-kernel l decls fits in
      let is = (compilation-kept told (start_of l) last c.ledger start compilation).kernel in
      let stands = compilation-models told (start_of l) last c.ledger start compilation in (
        λ d.
            let g = decoded-given l decls fits last is stands a d in
            (g.0, subst (λ f. Satisfies g.0 f) (sym cnf) g.1, g.2 ∙ ap (numbers_of g.0) (sym map)),
        λ g. subst (IsDecoded l) (sym (g.2 ∙ ap (numbers_of g.0) map)) (given-decoded l decls fits last is stands g.0 (subst (λ f. Satisfies g.0 f) cnf g.1)),
      )

  fitting : (c : Compiled) (last : Kernel) (l : Lowered) (decls : List Decl) → Fits l decls → IsCompilation told (start_of l) c.ledger last → length last.cores < 2 ^ 64
      → c.cnf ≡ cnf_of last → c.decls ≡ decls → c.map.entries ≡ trimmed_values last.view l.map.entries → CompiledFits c
  fitting c last l decls fits compilation few cnf names map =
      let start = start-kernel l decls fits in
      let kept = compilation-kept told (start_of l) last c.ledger start compilation in
      let vars : c.cnf.vars ≡ length last.view = ap (λ f. f.vars) cnf in
      let labels = labels_below last.view kept.kernel.labelled in
      let values = values-fit last.view (l.vars + 1) (length last.view + 1) (omega (arith, kept.longer, start-vars l decls fits)) labels decls l.map.entries fits.entries in
      record {
        vars = omega (arith, vars, kept.kernel.small);
        clauses = subst InRange (sym cnf) (in_range-of {E = ⊥} last (Ok (cnf_of last)) kept.kernel refl);
        values = rw (vars, names, map) values;
        ledger = rw vars (ledger-below told (start_of l) last c.ledger start compilation.lines few);
      }

  pub compilation : CompilationLaw told
  compilation model c typed limits light few is =
      let law = lowering_law model typed limits light in
      let l : Lowered = lowered_of model in
      record {
        solutions = λ a.
            let g = given c is.last l model.decls law.fits is.compilation is.cnf is.map a in
            (λ s. g.0 ((law.solutions a).0 s), λ h. (law.solutions a).1 (g.1 h));
        fits = fitting c is.last l model.decls law.fits is.compilation (omega (arith, is.cores, few)) is.cnf is.decls is.map;
      }

  -- what the parts of a compilation give, one after another
  pub compiled-well : (model : Model) (l : Lowered) (cores : List Core) (state last : Kernel) (view : List Atom) (c : Compiled) → WellTyped model → InLimits model
      → weight_of model ≤ most_weight → l ≡ lowered_of model → cores ≡ l.cores → state ≡ started l.vars cores → IsCompilation told state c.ledger last
      → c.cores ≡ length last.cores → c.cores < 2 ^ 64 → c.cnf ≡ cnf_of last → c.decls ≡ model.decls → view ≡ last.view → c.map.entries ≡ trimmed_values view l.map.entries
      → IsCompiledWell model c
  compiled-well model l cores state last view c typed limits light shape same start made ids few cnf decls seen map =
      let first : state ≡ start_of (lowered_of model) = start ∙ ap (started l.vars) same ∙ ap (λ (k : Lowered). start_of k) shape in
      compilation model c typed limits light few (record {
        last = last;
        compilation = subst (λ (k : Kernel). IsCompilation told k c.ledger last) first made;
        cores = ids;
        cnf = cnf;
        decls = decls;
        map = map ∙ ap (λ v. trimmed_values v l.map.entries) seen ∙ ap (λ (k : Lowered). trimmed_values last.view k.map.entries) shape;
      })

-- what the compilation of its state says of a model's queries
pub asked-of : (model : Model) (l : Lowered) (cores : List Core) (state last : Kernel) (c : Compiled) (counter now : ℕ) → l ≡ lowered_of model → cores ≡ l.cores → state ≡ started l.vars cores
    → c.cnf ≡ cnf_of last → now ≤ counter + 3 * most_questions state c.ledger last → now ≤ counter + 3 * questions_of model c
asked-of model l cores state last c counter now shape same start cnf h =
    let first : state ≡ start_of (lowered_of model) = start ∙ ap (started l.vars) same ∙ ap (λ (k : Lowered). start_of k) shape in
    let vars : length last.view ≡ c.cnf.vars = sym (ap (λ f. f.vars) cnf) in
    let g = subst (λ (k : Kernel). now ≤ counter + 3 * most_questions k c.ledger last) first h in
    let made = all_made (start_of (lowered_of model)) c.ledger in
    subst (λ n. now ≤ counter + 3 * (length made + occurrences_of made * binary_digits n)) vars g
