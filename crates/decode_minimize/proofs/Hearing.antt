-- What is found may be told.
use Rattle.std.proofs.Common.{◌≡◌, ◌≤◌, Bool, List, ◌++◌, refl, sym, subst, ℤ}
use Rattle.order_ints.specs.declared.atom.Atom.{Atom}
use Rattle.order_ints.specs.declared.cnf.Cnf.{Cnf}
use Rattle.order_ints.specs.declared.order_int.MapValue.{MapValue}
use Rattle.order_ints.specs.Numbers.{numbers_of}
use Rattle.order_ints.specs.Truth.{valuation_of}
use Rattle.core_forms.specs.declared.equation.Equation.{Equation}
use Rattle.core_forms.specs.declared.form.Core.{Core}
use Rattle.ledger_text.specs.declared.line.Line.{Line}
use Rattle.model_meaning.specs.declared.model.Decl.{Decl}
use Rattle.model_meaning.specs.declared.model.Goal.{Goal}
use Rattle.model_meaning.specs.declared.model.Model.{Model}
use Rattle.model_meaning.specs.Limits.{InLimits}
use Rattle.model_meaning.specs.WellTyped.{WellTyped}
use Rattle.model_decode.specs.Short.{AreShort}
use Rattle.model_weight.specs.Weight.{weight_of}
use Rattle.model_lower.specs.declared.state.Lowered.{Lowered}
use Rattle.model_lower.specs.Lowering.{lowered_of}
use Rattle.model_lower.specs.Weighed.{most_weight}
use Rattle.model_lower.proofs.LoweringLaw.{lowering_law}
use Rattle.step_kernel.specs.Kernel.{Kernel, IsKernel, started}
use Rattle.step_kernel.specs.CnfOf.{cnf_of}
use Rattle.step_kernel.proofs.Started.{started-kernel, started-models}
use Rattle.state_compile.specs.Compilation.{IsCompilation}
use Rattle.state_compile.specs.StandsFor.{read_by}
use Rattle.state_compile.proofs.Answered.{compilation-kept, compilation-models}
use Rattle.state_compile.proofs.Reading.{read-model}
use Rattle.answer_document.specs.Valid.{atom_clauses}
use Rattle.decode_minimize.specs.declared.solved.Names.{Names}
use Rattle.decode_minimize.specs.Rounds.{AreSatisfying}
use Rattle.decode_minimize.specs.Heard.{AreHeard, AreDecodedHeard, IsHeard}
use Rattle.decode_minimize.specs.Answering.{IsReady}
use Rattle.decode_minimize.proofs.Sound.{with-atom-parts}

module _ (heard : List Decl → Goal → List ℤ → Type 0) where
  -- the truth values that a round found, as the code hands them on
  pub told-values : (cnf : Cnf) (names : Names) → IsHeard heard cnf names → (values handed : List Bool) → AreSatisfying cnf values → handed ≡ values
      → heard names.decls.now names.goal (numbers_of (read_by names.view.now (valuation_of handed)) names.map.now.entries)
  told-values cnf names is values handed satisfying same = is.told handed (subst (AreSatisfying cnf) (sym same) satisfying)

  -- what satisfies one clause more satisfies these
  pub fixed-heard : (cnf : Cnf) (a : Atom) (names : Names) → IsHeard heard cnf names → IsHeard heard (record { vars = cnf.vars; clauses = cnf.clauses ++ atom_clauses a }) names
  fixed-heard cnf a names is = record {
    short = is.short;
    told = λ values h. is.told values (record { count = h.count; satisfies = (with-atom-parts (valuation_of values) cnf.clauses a h.satisfies).0 });
  }

  -- what a model that is lowered decodes is one of its solutions
  pub decoded-heard : (model : Model) (l : Lowered) → WellTyped model → InLimits model → weight_of model ≤ most_weight → l ≡ lowered_of model → AreHeard heard model → AreDecodedHeard heard model.decls model.goal l
  decoded-heard model l typed limits light shape all =
      let law = lowering_law model typed limits light in
      let here : AreDecodedHeard heard model.decls model.goal (lowered_of model) = λ σ meets. all _ ((law.solutions _).1 (σ, meets, refl)) in
      subst (AreDecodedHeard heard model.decls model.goal) (sym shape) here

  -- and what satisfies the clauses at the end of a compilation is read as a valuation that meets its cores
  pub compiled-heard : (told : Core → Equation → Type 0) (l : Lowered) (first last : Kernel) (ledger : List Line) (names : Names) → IsReady l → first ≡ started l.vars l.cores → IsCompilation told first ledger last
      → names.map.now.entries ≡ l.map.entries → names.view.now ≡ last.view → AreDecodedHeard heard names.decls.now names.goal l → IsHeard heard (cnf_of last) names
  compiled-heard told l first last ledger names ready start compilation map view all =
      let is : IsKernel (started l.vars l.cores) = started-kernel l.vars l.cores ready.formed ready.below ready.small in
      let from : IsCompilation told (started l.vars l.cores) ledger last = subst (λ (k : Kernel). IsCompilation told k ledger last) start compilation in
      let kept = compilation-kept told (started l.vars l.cores) last ledger is from in
      let stands = compilation-models told (started l.vars l.cores) last ledger is from in
      record {
        short = subst AreShort (sym map) ready.short;
        told = λ values h.
            let σ = valuation_of values in
            let here : heard names.decls.now names.goal (numbers_of (read_by last.view σ) l.map.entries) =
            all (read_by last.view σ) ((started-models l.vars l.cores (read_by last.view σ)).0 (read-model (started l.vars l.cores) last σ kept.kernel stands h.satisfies)) in
            subst (λ (v : List Atom). heard names.decls.now names.goal (numbers_of (read_by v σ) names.map.now.entries)) (sym view)
            (subst (λ (es : List MapValue). heard names.decls.now names.goal (numbers_of (read_by last.view σ) es)) (sym map) here);
      }
