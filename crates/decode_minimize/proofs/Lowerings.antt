-- From a model that is lowered to what is to be solved, and back to the model's answer.
use Rattle.std.proofs.Common.{◌≡◌, ℕ, ◌+◌, ◌*◌, ◌≤◌, ◌<◌, ◌^◌, Bool, true, false, List, [], ◌∷◌, length, None, refl, sym, ap, ◌∙◌, subst, arith}
use Rattle.std.specs.Prelude.{if◌then◌else◌}
use Rattle.order_ints.specs.declared.cnf.Cnf.{Cnf}
use Rattle.order_ints.specs.declared.order_int.MapValue.{MapValue}
use Rattle.order_ints.specs.OrderedClauses.{ordered_clauses, ClausesAscend}
use Rattle.order_ints.proofs.Labels.{labels_below, length-own_labels}
use Rattle.order_ints.proofs.OrderedLaws.{ClausesAscend-ordered_clauses}
use Rattle.core_forms.specs.declared.equation.Equation.{Equation}
use Rattle.core_forms.specs.declared.form.Core.{Core}
use Rattle.ledger_text.specs.declared.line.Line.{Line}
use Rattle.model_meaning.specs.declared.model.Goal.{Goal}
use Rattle.model_meaning.specs.declared.model.Goal.TheVariants.{Satisfy, Minimize, Maximize}
use Rattle.model_meaning.specs.declared.model.Model.{Model}
use Rattle.model_meaning.specs.Limits.{InLimits}
use Rattle.model_meaning.specs.WellTyped.{WellTyped}
use Rattle.model_weight.specs.Weight.{weight_of}
use Rattle.model_lower.specs.declared.state.Lowered.{Lowered}
use Rattle.model_lower.specs.Lowering.{lowered_of}
use Rattle.model_lower.specs.Weighed.{most_weight}
use Rattle.model_lower.proofs.LoweringLaw.{lowering_law}
use Rattle.step_kernel.specs.Kernel.{Kernel, IsKernel, started}
use Rattle.step_kernel.specs.CnfOf.{cnf_of}
use Rattle.step_kernel.proofs.Started.{started-kernel, started-models}
use Rattle.step_kernel.proofs.CnfLaws.{cnf-in_range}
use Rattle.asking_bound.specs.Questions.{most_questions}
use Rattle.state_compile.specs.Compilation.{IsCompilation}
use Rattle.state_compile.specs.StandsFor.{read_by}
use Rattle.state_compile.proofs.Answered.{compilation-kept, compilation-models}
use Rattle.state_compile.proofs.Reading.{read-model}
use Rattle.model_decode.proofs.Ranges.{entries-short}
use Rattle.proof_check.specs.Known.{known}
use Rattle.proof_check.specs.Lrat.{proof_of}
use Rattle.learning_solver.specs.Log.{additions}
use Rattle.answer_document.specs.declared.document.Document.{Document}
use Rattle.answer_document.specs.declared.verdict.Verdict.TheVariants.{Unsatisfiable}
use Rattle.answer_document.specs.BoundAtoms.{integer_named}
use Rattle.answer_document.specs.Valid.{start_of}
use Rattle.decode_minimize.specs.declared.objective.Direction.TheVariants.{Least, Greatest}
use Rattle.search_options.specs.declared.options.SearchOptions.{SearchOptions}
use Rattle.decode_minimize.specs.declared.solved.Names.{Names}
use Rattle.decode_minimize.specs.declared.solved.Solved.{Solved}
use Rattle.decode_minimize.specs.Solved.{problem_of, IsProblem, IsDerivation, IsRefuted, IsSolvedFor, second_named, second_added}
use Rattle.learning_solver.specs.Outcome.{most_learned}
use Rattle.decode_minimize.specs.Answers.{IsBudget, most_rounds, IsAnswer}
use Rattle.decode_minimize.specs.Answering.{problem_at, IsReady, IsAnswerOf}
use Rattle.decode_minimize.proofs.Entries.{entries-objectives, objective-up}
use Rattle.decode_minimize.proofs.Makings.{any-refuted, best-refuted}
use Rattle.decode_minimize.proofs.Answered.{document_of, Parts, readable-ledger, solutions, any-most, any-parts, best-most, best-parts}

-- a model that is lowered is ready
pub lowered-ready : (model : Model) (l : Lowered) → WellTyped model → InLimits model → weight_of model ≤ most_weight → l ≡ lowered_of model → IsReady l
lowered-ready model l typed limits light shape =
    let law = lowering_law model typed limits light in
    let m = lowered_of model in
    let here : IsReady m = record {
      formed = law.fits.well_formed;
      below = law.fits.below;
      small = law.fits.size;
      objectives = entries-objectives (m.vars + 1) model.decls m.map.entries law.fits.entries;
      short = entries-short (m.vars + 1) model.decls m.map.entries law.fits.entries;
      ordered = law.ordered;
    } in
    subst IsReady (sym shape) here

cnf-ascends : (k : Kernel) → ClausesAscend (cnf_of k).clauses
cnf-ascends k = by k.bottom
  where
    by : (b : Bool) → ClausesAscend (if b then [] ∷ [] else ordered_clauses k.view k.clauses)
    by true = (tt, tt)
    by false = ClausesAscend-ordered_clauses k.view k.clauses

-- and the end of its compilation is to be solved
pub problem-ready : (told : Core → Equation → Type 0) (l : Lowered) (first last : Kernel) (ledger : List Line) → IsReady l → first ≡ started l.vars l.cores → IsCompilation told first ledger last
    → IsProblem (problem_at l.map.entries last)
problem-ready told l first last ledger ready start compilation =
    let is : IsKernel (started l.vars l.cores) = started-kernel l.vars l.cores ready.formed ready.below ready.small in
    let from : IsCompilation told (started l.vars l.cores) ledger last = subst (λ (k : Kernel). IsCompilation told k ledger last) start compilation in
    let kept = compilation-kept told (started l.vars l.cores) last ledger is from in
    let stands = compilation-models told (started l.vars l.cores) last ledger is from in
    let vars : length (started l.vars l.cores).view ≡ l.vars = length-own_labels 1 l.vars in
    record {
      solvable = record { vars = omega (arith, kept.kernel.small); in_range = cnf-in_range last kept.kernel; ascend = cnf-ascends last };
      vars = refl;
      labels = labels_below last.view kept.kernel.labelled;
      objectives = λ place. objective-up (l.vars + 1) (length last.view + 1) (integer_named l.map.entries place) (omega (arith, kept.longer, vars)) (ready.objectives place);
      short = ready.short;
      ordered = λ σ h. ready.ordered (read_by last.view σ) ((started-models l.vars l.cores (read_by last.view σ)).0 (read-model (started l.vars l.cores) last σ kept.kernel stands h));
    }

-- what is to be solved, as the names and the clauses have it
pub same-problem : (names : Names) (cnf : Cnf) (entries : List MapValue) (k : Kernel) → names.map.now.entries ≡ entries → names.view.now ≡ k.view → cnf ≡ cnf_of k → problem_of names cnf ≡ problem_at entries k
same-problem names cnf entries k map view shape = cc

-- at bottom the empty clause stands in the CNF, and nothing is to be derived
refuted-at : (options : SearchOptions) (k : Kernel) → k.bottom ≡ true → IsRefuted (cnf_of k) options []
refuted-at options k bottom = record {
  derivation = record { accepted = refl; fresh = tt; readable = tt };
  within = omega arith;
  most = omega arith;
  shown = subst (λ (b : Bool). known (proof_of (record { vars = length k.view; clauses = if b then [] ∷ [] else ordered_clauses k.view k.clauses })) [] ≡ true) (sym bottom) refl;
}

pub bottom-solved : (entries : List MapValue) (k : Kernel) (options : SearchOptions) (goal : Goal) (s : Solved) → k.bottom ≡ true → s ≡ record { verdict = Unsatisfiable; assignment = None; proof = []; second = None }
    → IsSolvedFor (problem_at entries k) options goal s
bottom-solved entries k options Satisfy s bottom is = any-refuted (problem_at entries k) options s [] is (refuted-at options k bottom)
bottom-solved entries k options (Minimize place second) s bottom is =
    best-refuted (problem_at entries k) options s [] Least (integer_named entries place) (second_named entries second) is (refuted-at options k bottom)
bottom-solved entries k options (Maximize place second) s bottom is =
    best-refuted (problem_at entries k) options s [] Greatest (integer_named entries place) (second_named entries second) is (refuted-at options k bottom)

-- What is solved answers each model that is lowered to this.
module _ (told : Core → Equation → Type 0) (options : SearchOptions) (budget : IsBudget options.budget) (last : Kernel) (ledger : List Line)
    (few : length last.cores < 2 ^ 64) (s : Solved) (counter now : ℕ) where
  module _ (model : Model) (typed : WellTyped model) (limits : InLimits model) (light : weight_of model ≤ most_weight) (compilation : IsCompilation told (start_of model) ledger last)
      (asked : now ≤ counter + 3 * most_questions (start_of model) ledger last) where
    from-parts : IsDerivation (cnf_of last) s.proof → additions s.proof + second_added s.second ≤ options.budget
        → additions s.proof + second_added s.second ≤ most_learned options.restart (cnf_of last).vars * most_rounds model.decls model.goal → Parts model last options ledger s s.verdict
        → IsAnswer told model options (document_of s ledger) counter now
    from-parts derivation within most parts = record {
      last = last;
      compilation = compilation;
      solutions = solutions told model typed limits light options budget last ledger compilation;
      valid = record {
        document = document_of s ledger;
        spelled = refl;
        readable = record {
          verdict = parts.numbers;
          assignment = parts.assignment;
          ledger = readable-ledger told model typed limits light options budget last ledger compilation few;
          proof = derivation.readable;
          second = parts.readable;
        };
        verdict = refl;
        assignment = refl;
        fits = parts.fits;
        answer = parts.answer;
        certificate = parts.certificate;
      };
      own = refl;
      count = parts.count;
      fresh = derivation.fresh;
      second = parts.fresh;
      within = within;
      most = most;
      spent = parts.spent;
      enough = parts.enough;
      unshown = parts.unshown;
      paid = parts.paid;
      asked = asked;
    }

    by-goal : (goal : Goal) → model.goal ≡ goal → IsSolvedFor (problem_at (lowered_of model).map.entries last) options goal s → IsAnswer told model options (document_of s ledger) counter now
    by-goal Satisfy is h =
        from-parts h.derivation h.within (any-most told model typed limits light options budget last ledger compilation s h.derivation is h.most) (any-parts told model typed limits light options budget last ledger compilation s h.derivation is s.verdict h.says)
    by-goal (Minimize place other) is h =
        from-parts h.derivation h.within (best-most told model typed limits light options budget last ledger compilation s h.derivation Least place other is h.most)
        (best-parts told model typed limits light options budget last ledger compilation s h.derivation Least place other is s.verdict h.says)
    by-goal (Maximize place other) is h =
        from-parts h.derivation h.within (best-most told model typed limits light options budget last ledger compilation s h.derivation Greatest place other is h.most)
        (best-parts told model typed limits light options budget last ledger compilation s h.derivation Greatest place other is s.verdict h.says)

  pub answers-all : (l : Lowered) (goal : Goal) (first : Kernel) (d : Document) → first ≡ started l.vars l.cores → IsCompilation told first ledger last → IsSolvedFor (problem_at l.map.entries last) options goal s
      → d ≡ document_of s ledger → now ≤ counter + 3 * most_questions first ledger last → IsAnswerOf told l goal options d counter now
  answers-all l goal first d start compilation solved is asked model typed limits light shape same =
      let from : first ≡ start_of model = start ∙ ap (λ (m : Lowered). started m.vars m.cores) shape in
      let here = by-goal model typed limits light
      (subst (λ (k : Kernel). IsCompilation told k ledger last) from compilation)
      (subst (λ (k : Kernel). now ≤ counter + 3 * most_questions k ledger last) from asked)
      goal (sym same) (subst (λ (m : Lowered). IsSolvedFor (problem_at m.map.entries last) options goal s) shape solved) in
      subst (λ (e : Document). IsAnswer told model options e counter now) (sym is) here
