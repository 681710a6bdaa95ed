-- What names have under an answer, read by the last view, are the solutions.
use Rattle.std.proofs.Common.{◌≡◌, ◌+◌, List, ℤ, refl, sym, ◌∙◌, arith}
use Rattle.order_ints.specs.Truth.{Valuation}
use Rattle.order_ints.specs.Satisfies.{Satisfies}
use Rattle.order_ints.specs.Numbers.{numbers_of}
use Rattle.order_ints.proofs.Labels.{length-own_labels}
use Rattle.core_forms.specs.declared.equation.Equation.{Equation}
use Rattle.core_forms.specs.declared.form.Core.{Core}
use Rattle.model_meaning.specs.declared.model.Decl.{Decl}
use Rattle.statement_lower.proofs.EntryLaws.{numbers_of-agree}
use Rattle.model_lower.specs.declared.state.Lowered.{Lowered}
use Rattle.model_lower.specs.Lowering.{lowered_of}
use Rattle.model_lower.specs.Decoded.{IsDecoded}
use Rattle.model_lower.specs.Fits.{Fits}
use Rattle.model_lower.proofs.LoweringLaw.{lowering_law}
use Rattle.step_kernel.specs.Kernel.{Kernel, IsKernel}
use Rattle.step_kernel.specs.CnfOf.{cnf_of}
use Rattle.step_kernel.proofs.Started.{started-kernel, started-models}
use Rattle.state_compile.specs.StandsFor.{CnfStandsFor, read_by}
use Rattle.state_compile.proofs.Answered.{compilation-kept, compilation-models}
use Rattle.state_compile.proofs.Reading.{read-model}
use Rattle.bee_compile.specs.Compiled.{start_of}
use Rattle.bee_compile.proofs.Numbers.{numbers-read, numbers-met}
use Rattle.model_decode.specs.Decoding.{DecodingLaw}
use Rattle.model_decode.proofs.Ranges.{entries-short}

module _ (l : Lowered) (decls : List Decl) (fits : Fits l decls) (last : Kernel) (is : IsKernel last) (stands : CnfStandsFor (start_of l) last) where
  abbrev reads : Valuation → List ℤ
  reads σ = numbers_of (read_by last.view σ) l.map.entries

  -- what a satisfying valuation gives, so read, is decoded
  reads-decoded : (σ : Valuation) → Satisfies σ (cnf_of last) → IsDecoded l (reads σ)
  reads-decoded σ h =
      let τ : Valuation = read_by last.view σ in
      (τ, (started-models l.vars l.cores τ).0 (read-model (start_of l) last σ is stands h), refl)

  -- and the other way about: a valuation that meets all cores can be changed so that it satisfies the CNF and meets the store
  decoded-reads : (a : List ℤ) → IsDecoded l a → (σ : Valuation) × Satisfies σ (cnf_of last) × (a ≡ reads σ)
  decoded-reads a d =
      let t = stands.forth d.0 ((started-models l.vars l.cores d.0).1 d.1) in
      let same = numbers_of-agree (l.vars + 1) d.0 t.0 decls l.map.entries (λ v below. t.1 v (omega (arith, below, length-own_labels 1 l.vars))) fits.entries in
      let met = numbers-met last.view t.0 t.2 (l.vars + 1) decls l.map.entries fits.entries in
      (t.0, t.3, d.2 ∙ same ∙ sym met ∙ numbers-read last.view t.0 l.map.entries)

pub decoding : (told : Core → Equation → Type 0) → DecodingLaw told
decoding told model ledger last typed limits light compilation =
    let law = lowering_law model typed limits light in
    let l : Lowered = lowered_of model in
    let fits : Fits l model.decls = law.fits in
    let start : IsKernel (start_of l) = started-kernel l.vars l.cores fits.well_formed fits.below fits.size in
    let is = (compilation-kept told (start_of l) last ledger start compilation).kernel in
    let stands = compilation-models told (start_of l) last ledger start compilation in
    record {
      short = entries-short (l.vars + 1) model.decls l.map.entries fits.entries;
      solution = λ σ h. (law.solutions _).1 (reads-decoded l model.decls fits last is stands σ h);
      each = λ a s. decoded-reads l model.decls fits last is stands a ((law.solutions a).0 s);
    }
