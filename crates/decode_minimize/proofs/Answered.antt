-- What is solved for a model that is lowered answers the model.
use Rattle.std.proofs.Common.{◌≡◌, ◌↔◌, ℕ, ◌+◌, ◌*◌, ◌≤◌, ◌<◌, ◌^◌, Bool, List, [], ◌∷◌, ◌++◌, length, Option, Some, None, Ok, sym, ap, ◌∙◌, subst, ⊎_elim, ℤ, arith}
use Rattle.std.proofs.Math.Nat.{mul-le-mul_left}
use Rattle.std.specs.Prelude.{IfSome, FitsSigned, slice_get}
use Rattle.std.specs.Int.{w64}
use Rattle.order_ints.specs.declared.atom.Atom.{Atom}
use Rattle.order_ints.specs.declared.cnf.Cnf.{Cnf}
use Rattle.order_ints.specs.declared.order_int.OrdInt.{OrdInt}
use Rattle.order_ints.specs.declared.order_int.MapValue.{MapValue}
use Rattle.order_ints.specs.Satisfies.{Satisfies}
use Rattle.order_ints.specs.Truth.{Valuation, valuation_of}
use Rattle.order_ints.specs.View.{resolve}
use Rattle.core_forms.specs.declared.equation.Equation.{Equation}
use Rattle.core_forms.specs.declared.form.Core.{Core}
use Rattle.ledger_text.specs.declared.line.Line.{Line}
use Rattle.model_meaning.specs.declared.model.Assignment.{Assignment}
use Rattle.model_meaning.specs.declared.model.Goal.{Goal}
use Rattle.model_meaning.specs.declared.model.Goal.TheVariants.{Satisfy}
use Rattle.model_meaning.specs.declared.model.Model.{Model}
use Rattle.model_meaning.specs.declared.what.IntTerm.TheVariants.{Of}
use Rattle.model_meaning.specs.Limits.{InLimits}
use Rattle.model_meaning.specs.Solutions.{IsSolution, objective, second_value}
use Rattle.model_meaning.specs.Terms.{value_at}
use Rattle.model_meaning.specs.WellTyped.{ObjectiveFits, SecondFits, GoalFits, WellTyped}
use Rattle.model_weight.specs.Weight.{weight_of}
use Rattle.statement_lower.proofs.EntryLaws.{integer_of-value, length-numbers_of}
use Rattle.model_lower.specs.Lowering.{lowered_of}
use Rattle.model_lower.specs.ItemLaws.{LoweringLaw}
use Rattle.model_lower.specs.Weighed.{most_weight}
use Rattle.model_lower.proofs.LoweringLaw.{lowering_law}
use Rattle.step_kernel.specs.Kernel.{Kernel, IsKernel}
use Rattle.step_kernel.specs.CnfOf.{cnf_of}
use Rattle.step_kernel.specs.Steps.{replay}
use Rattle.step_kernel.proofs.Started.{started-kernel}
use Rattle.asking_bound.proofs.Asked.{leads-replay}
use Rattle.state_compile.specs.Compilation.{IsCompilation}
use Rattle.state_compile.specs.StandsFor.{read_by}
use Rattle.state_compile.proofs.InOrder.{order-leads}
use Rattle.state_compile.proofs.Answered.{compilation-kept}
use Rattle.bee_compile.proofs.Ledgers.{ledger-below}
use Rattle.model_decode.specs.Decoding.{numbers_at, DecodesSolutions}
use Rattle.model_decode.proofs.Solutions.{decoding}
use Rattle.model_decode.proofs.Ranges.{value-fits}
use Rattle.proof_check.specs.declared.line.ProofLine.{ProofLine}
use Rattle.std.specs.Option.{option_map}
use Rattle.proof_check.specs.Lrat.{proof_of, take_lines}
use Rattle.learning_solver.specs.Log.{additions, proof_behind, IsFreshLog}
use Rattle.learning_solver.specs.Outcome.{most_learned}
use Rattle.answer_document.specs.declared.verdict.Bounds.{Bounds}
use Rattle.answer_document.specs.declared.verdict.Verdict.{Verdict}
use Rattle.answer_document.specs.declared.verdict.Verdict.TheVariants.{Satisfiable, Unsatisfiable, Optimum, Unknown}
use Rattle.answer_document.specs.declared.document.Document.{Document}
use Rattle.answer_document.specs.BoundAtoms.{integer_named, first_bound, second_bound, fixed}
use Rattle.answer_document.specs.Verdicts.{numbers_with, BoundsFit, VerdictFits}
use Rattle.answer_document.specs.Claims.{IsSolutionAt}
use Rattle.answer_document.specs.Valid.{start_of, IsShown, first_shown, second_shown, second_cnf, atom_clauses, IsDerived, IsSecond, AreShown, AreAdded, AreAddedAlone, IsCertified, AnswerHolds, AreReadableSteps, AreReadableLines, IsReadableSecond, FitNumbers, FitAssignment, stated, numbers_given}
use Rattle.decode_minimize.specs.declared.objective.Direction.{Direction}
use Rattle.search_options.specs.declared.options.SearchOptions.{SearchOptions}
use Rattle.decode_minimize.specs.declared.solved.Solved.{Solved}
use Rattle.decode_minimize.specs.Objectives.{bound_of, IsObjective}
use Rattle.decode_minimize.specs.Solved.{Problem, IsDerivation, IsReadFrom, HasBounds, HasSecond, IsOptimal, IsFirstShown, IsSpentFirst, IsSpentSecond, IsSolvedAny, IsSolvedBest, fixed_cnf, second_named, second_added, value_under, values_count, values_in}
use Rattle.decode_minimize.specs.Answers.{IsBudget, values_at, second_values, most_rounds, IsDecided, IsSpent, IsFreshSecond, IsOpenBehind, IsOpen, IsPaidFor, IsPaidBehind, IsPaidTowards, IsPaid}
use Rattle.decode_minimize.specs.Answering.{problem_at}
use Rattle.decode_minimize.proofs.Entries.{entries-objectives, count-at, numbers-fit}
use Rattle.decode_minimize.proofs.Rounding.{some-value}
use Rattle.decode_minimize.proofs.AnswerParts.{goal_of, paid-towards, first-bound-is, second-bound-is, fixed-is, objective-is, bounds-fit, goal-fits, rounds-is, number-from, readable-steps, added-behind, given-length, none-length, given-fits, none-fits, fit-second, have-second, fewer-than-most}

abbrev pub document_of : Solved → List Line → Document
document_of s ledger = record { verdict = s.verdict; assignment = s.assignment; ledger = ledger; proof = s.proof; second = s.second }

-- what an answer with a verdict is made of
pub record Parts (model : Model) (last : Kernel) (options : SearchOptions) (ledger : List Line) (s : Solved) (v : Verdict) : Type 0 where
  pub fits : VerdictFits model.goal v
  pub answer : AnswerHolds model v (numbers_given s.assignment)
  pub certificate : IsCertified model (document_of s ledger) v
  pub numbers : FitNumbers (stated v)
  pub assignment : FitAssignment s.assignment
  pub count : IfSome s.assignment (λ (a : Assignment). length model.decls ≡ length a.values)
  pub fresh : IsFreshSecond model last (stated v) s.second
  pub spent : IsSpent options.budget (additions s.proof + second_added s.second) v
  pub enough : most_learned options.restart (cnf_of last).vars * most_rounds model.decls model.goal ≤ options.budget → IsDecided v
  pub unshown : IsOpen model last (document_of s ledger) v
  pub paid : IsPaid (lowered_of model).map.entries options.budget (most_learned options.restart (cnf_of last).vars) model.goal s.second v
  pub readable : IsReadableSecond s.second

module _ (told : Core → Equation → Type 0) (model : Model) (typed : WellTyped model) (limits : InLimits model) (light : weight_of model ≤ most_weight)
    (options : SearchOptions) (budget : IsBudget options.budget) (last : Kernel) (ledger : List Line) (compilation : IsCompilation told (start_of model) ledger last) where
  abbrev entries : List MapValue
  entries = (lowered_of model).map.entries

  abbrev problem : Problem
  problem = problem_at entries last

  law : LoweringLaw model
  law = lowering_law model typed limits light

  pub start-kernel : IsKernel (start_of model)
  start-kernel = started-kernel (lowered_of model).vars (lowered_of model).cores law.fits.well_formed law.fits.below law.fits.size

  pub decodes : DecodesSolutions model last
  decodes = decoding told model ledger last typed limits light compilation

  pub leads : replay (start_of model) ledger ≡ Ok last
  leads = leads-replay told (start_of model) last ledger (order-leads told (start_of model) last ledger compilation.lines)

  pub readable-ledger : length last.cores < 2 ^ 64 → AreReadableSteps ledger
  readable-ledger few =
      let kept = compilation-kept told (start_of model) last ledger start-kernel compilation in
      readable-steps (length last.view + 1) ledger (omega (arith, kept.kernel.small)) (ledger-below told (start_of model) last ledger start-kernel compilation.lines few)

  pub solutions : (a : List ℤ) → IsSolution model a ↔ ((σ : Valuation) × Satisfies σ (cnf_of last) × (a ≡ numbers_at model last σ))
  solutions a = (λ h. decodes.each a h, λ g. subst (IsSolution model) (sym g.2) (decodes.solution g.0 g.1))

  module _ (s : Solved) (derivation : IsDerivation (cnf_of last) s.proof) where
    abbrev derived : IsDerived model (document_of s ledger)
    derived = record { last = last; leads = leads; proof = proof_behind (cnf_of last) s.proof; accepted = derivation.accepted }

    -- of a solution that is given
    module _ (values : List Bool) (read : IsReadFrom problem s values) where
      abbrev numbers : List ℤ
      numbers = numbers_at model last (valuation_of values)

      solution : IsSolution model numbers
      solution = decodes.solution (valuation_of values) read.satisfying.satisfies

      answered : (v : Verdict) → AnswerHolds model v (Some numbers) → AnswerHolds model v (numbers_given s.assignment)
      answered v h = subst (AnswerHolds model v) (sym read.numbers) h

      fit : FitAssignment s.assignment
      fit = given-fits s.assignment numbers read.numbers (numbers-fit (read_by last.view (valuation_of values)) entries decodes.short)

      counted : IfSome s.assignment (λ (a : Assignment). length model.decls ≡ length a.values)
      counted = given-length s.assignment numbers (length model.decls) read.numbers (length-numbers_of (read_by last.view (valuation_of values)) ((lowered_of model).vars + 1) model.decls entries law.fits.entries)

      value-there : (place : ℕ) → ObjectiveFits model.decls place → value_at numbers place ≡ value_under problem values (integer_named entries place)
      value-there place o =
          let number = number-from (slice_get model.decls place) o in
          sym (integer_of-value ((lowered_of model).vars + 1) number.0 model.decls entries law.fits.entries (read_by last.view (valuation_of values)) (Of place) number.1)

      value-short : (place : ℕ) → FitsSigned w64 (value_under problem values (integer_named entries place))
      value-short place =
          let o : IsObjective ((lowered_of model).vars + 1) (integer_named entries place) = entries-objectives ((lowered_of model).vars + 1) model.decls entries law.fits.entries place in
          value-fits (read_by last.view (valuation_of values)) (integer_named entries place) o.least o.greatest

    none-answered : (v : Verdict) → numbers_given s.assignment ≡ None → AnswerHolds model v None → AnswerHolds model v (numbers_given s.assignment)
    none-answered v e h = subst (AnswerHolds model v) (sym e) h

    alone-fresh : (bounds : Option Bounds) → s.second ≡ None → IsFreshSecond model last bounds s.second
    alone-fresh bounds e = subst (IsFreshSecond model last bounds) (sym e) tt

    alone-readable : s.second ≡ None → IsReadableSecond s.second
    alone-readable e = subst IsReadableSecond (sym e) tt

    both-readable : (lines : List ProofLine) → s.second ≡ Some lines → AreReadableLines lines → IsReadableSecond s.second
    both-readable lines e h = subst IsReadableSecond (sym e) h

    in-budget : (n : ℕ) → n ≡ options.budget → (1 ≤ n) × (n < 2 ^ 63)
    in-budget n e = (omega (arith, e, budget), omega (arith, e, budget))

    alone-added : (n : ℕ) → n ≡ options.budget → additions s.proof ≡ options.budget → length (proof_behind (cnf_of last) s.proof).added ≡ n
    alone-added n e f = added-behind (cnf_of last) s.proof ∙ f ∙ sym e

    alone-spent : (n : ℕ) → n ≡ options.budget → additions s.proof ≡ options.budget → s.second ≡ None → (n ≡ options.budget) × (additions s.proof + second_added s.second ≡ options.budget)
    alone-spent n e f g = (e, omega (arith, f, ap second_added g))

    -- one round where any solution serves
    pub any-most : model.goal ≡ Satisfy → additions s.proof + second_added s.second ≤ 1 * most_learned options.restart (cnf_of last).vars
        → additions s.proof + second_added s.second ≤ most_learned options.restart (cnf_of last).vars * most_rounds model.decls model.goal
    any-most is h =
        subst (λ (g : Goal). additions s.proof + second_added s.second ≤ most_learned options.restart (cnf_of last).vars * most_rounds model.decls g) (sym is) (omega (arith, h))

    -- where any solution serves
    pub any-parts : model.goal ≡ Satisfy → (v : Verdict) → IsSolvedAny problem options s v → Parts model last options ledger s v
    any-parts is Satisfiable h = record {
      fits = is;
      answer = answered h.0 h.1 Satisfiable (solution h.0 h.1);
      certificate = tt;
      numbers = tt;
      assignment = fit h.0 h.1;
      count = counted h.0 h.1;
      fresh = alone-fresh None h.2;
      readable = alone-readable h.2;
      spent = tt;
      enough = λ m. tt;
      unshown = tt;
      paid = tt;
    }
    any-parts is Unsatisfiable h = record {
      fits = tt;
      answer = none-answered Unsatisfiable h.0.0 tt;
      certificate = (derived, h.1, h.0.1);
      numbers = tt;
      assignment = none-fits s.assignment h.0.0;
      count = none-length s.assignment (length model.decls) h.0.0;
      fresh = alone-fresh None h.0.1;
      readable = alone-readable h.0.1;
      spent = tt;
      enough = λ m. tt;
      unshown = tt;
      paid = tt;
    }
    any-parts is (Optimum b) h = absurd h
    any-parts is (Unknown n None) h = record {
      fits = ((in-budget n h.1).0, (in-budget n h.1).1, tt);
      answer = none-answered (Unknown n None) h.0.0 tt;
      certificate = (derived, subst (AreAddedAlone (proof_behind (cnf_of last) s.proof) n) (sym h.0.1) (alone-added n h.1 h.2.spent));
      numbers = tt;
      assignment = none-fits s.assignment h.0.0;
      count = none-length s.assignment (length model.decls) h.0.0;
      fresh = alone-fresh None h.0.1;
      readable = alone-readable h.0.1;
      spent = alone-spent n h.1 h.2.spent h.0.1;
      enough = λ m. one-round h.2.spent h.2.early (subst (λ (g : Goal). most_learned options.restart (cnf_of last).vars * most_rounds model.decls g ≤ options.budget) is m);
      unshown = h.2.unshown;
      paid = tt;
    }
      where
        one-round : additions s.proof ≡ options.budget → additions s.proof < most_learned options.restart (cnf_of last).vars → most_learned options.restart (cnf_of last).vars * 1 ≤ options.budget → ⊥
        one-round spent early m = omega (arith, spent, early, m)
    any-parts is (Unknown n (Some b)) h = absurd h

    -- where a best one is sought
    module _ (d : Direction) (place : ℕ) (second : Option ℕ) (is : model.goal ≡ goal_of d place second) where
      abbrev first_integer : OrdInt
      first_integer = integer_named entries place

      sought-fits : ObjectiveFits model.decls place × SecondFits model.decls second
      sought-fits = goal-fits d place second model.decls (subst (GoalFits model.decls) is typed.goal)

      first-is : (m : ℤ) → first_shown model last m ≡ resolve last.view (bound_of d first_integer m)
      first-is m = ap (λ (g : Goal). resolve last.view (first_bound g entries m)) is ∙ ap (resolve last.view) (first-bound-is d place second entries m)

      second-cnf-is : (m : ℤ) → second_cnf model last m ≡ fixed_cnf problem d first_integer m
      second-cnf-is m =
          ap (λ (g : Goal). record { vars = (cnf_of last).vars; clauses = (cnf_of last).clauses ++ atom_clauses (resolve last.view (fixed g entries m)) }) is
          ∙ ap (λ (a : Atom). record { vars = (cnf_of last).vars; clauses = (cnf_of last).clauses ++ atom_clauses (resolve last.view a) }) (fixed-is d place second entries m)

      first-derived : (b : Bounds) → IsFirstShown problem d first_integer s b → IsShown (proof_behind (cnf_of last) s.proof) (first_shown model last b.first)
      first-derived b h = subst (IsShown (proof_behind (cnf_of last) s.proof)) (sym (first-is b.first)) h

      abbrev second-derived : (b : Bounds) (lines : List ProofLine) → HasSecond problem d first_integer s b lines → IsSecond model last (proof_behind (cnf_of last) s.proof) b lines
      second-derived b lines h = record {
        bound = first-derived b h.first;
        proof = proof_behind (fixed_cnf problem d first_integer b.first) lines;
        accepted = subst (λ (f : Cnf). take_lines (proof_of f) lines ≡ Ok (proof_behind (fixed_cnf problem d first_integer b.first) lines)) (sym (second-cnf-is b.first)) h.derivation.accepted;
      }

      second-fresh : (b : Bounds) (lines : List ProofLine) → HasSecond problem d first_integer s b lines → IsFreshSecond model last (Some b) s.second
      second-fresh b lines h =
          subst (IsFreshSecond model last (Some b)) (sym h.is) (subst (λ (f : Cnf). IsFreshLog f lines) (sym (second-cnf-is b.first)) h.derivation.fresh)

      -- the bounds of a solution that is given
      module _ (values : List Bool) (read : IsReadFrom problem s values) (b : Bounds) (bounds : HasBounds problem values first_integer (second_named entries second) b) where
        second-values : (o : Option ℕ) → SecondFits model.decls o → b.second ≡ option_map (value_under problem values) (second_named entries o)
            → value_at (numbers values read) place ∷ second_value o (numbers values read) ≡ numbers_with b.first b.second
        second-values None fits e =
            ap (λ (z : ℤ). z ∷ []) (value-there values read place sought-fits.0 ∙ sym bounds.first) ∙ ap (numbers_with b.first) (sym e)
        second-values (Some other) fits e =
            ap (λ (z : ℤ). z ∷ value_at (numbers values read) other ∷ []) (value-there values read place sought-fits.0 ∙ sym bounds.first)
            ∙ ap (λ (z : ℤ). b.first ∷ z ∷ []) (value-there values read other fits) ∙ ap (numbers_with b.first) (sym e)

        solution-at : IsSolutionAt model (numbers values read) b
        solution-at = record {
          solution = solution values read;
          objective = ap (λ (g : Goal). objective g (numbers values read)) is ∙ objective-is d place second (numbers values read) ∙ second-values second sought-fits.1 bounds.second;
        }

        bounds-in : BoundsFit model.goal b
        bounds-in = subst (λ (g : Goal). BoundsFit g b) (sym is) (bounds-fit d place second b (have-second b.second second (value_under problem values) (integer_named entries) bounds.second))

        numbers-in : FitNumbers (Some b)
        numbers-in = (
          subst (FitsSigned w64) (sym bounds.first) (value-short values read place),
          fit-second b.second second (value_under problem values) (integer_named entries) bounds.second (λ p. value-short values read p),
        )

        -- each objective is shown to have no better value
        shown-by : (o : Option ℕ) → model.goal ≡ goal_of d place o → b.second ≡ option_map (value_under problem values) (second_named entries o) → IsOptimal problem d first_integer (second_named entries o) s b
            → AreShown model last (proof_behind (cnf_of last) s.proof) b b.second s.second × IsFreshSecond model last (Some b) s.second × IsReadableSecond s.second
        shown-by None goal e h = (
          subst (λ (x : Option ℤ). AreShown model last (proof_behind (cnf_of last) s.proof) b x s.second) (sym e)
              (subst (λ (y : Option (List ProofLine)). AreShown model last (proof_behind (cnf_of last) s.proof) b None y) (sym h.0) (first-derived b h.1)),
          alone-fresh (Some b) h.0,
          alone-readable h.0,
        )
        shown-by (Some other) goal e h =
            let n = value_under problem values (integer_named entries other) in
            let lines = h.0 in
            let one = second-derived b lines h.1 in
            let shown : IsShown one.proof (resolve last.view (bound_of d (integer_named entries other) n)) = h.2 n e in
            let here : second_shown model last n ≡ resolve last.view (bound_of d (integer_named entries other) n) =
            ap (λ (g : Goal). resolve last.view (second_bound g entries n)) goal ∙ ap (resolve last.view) (second-bound-is d place other entries n) in (
              subst (λ (x : Option ℤ). AreShown model last (proof_behind (cnf_of last) s.proof) b x s.second) (sym e)
                  (subst (λ (y : Option (List ProofLine)). AreShown model last (proof_behind (cnf_of last) s.proof) b (Some n) y) (sym h.1.is)
                  (one, subst (IsShown one.proof) (sym here) shown)),
              second-fresh b lines h.1,
              both-readable lines h.1.is h.1.derivation.readable,
            )

        -- the budget is spent on the first objective
        first-added : (n : ℕ) → n ≡ options.budget → (o : Option ℕ) → b.second ≡ option_map (value_under problem values) (second_named entries o) → IsSpentFirst problem options d first_integer s b
            → AreAdded model last (proof_behind (cnf_of last) s.proof) n b b.second s.second
        first-added n same None e h =
            subst (λ (x : Option ℤ). AreAdded model last (proof_behind (cnf_of last) s.proof) n b x s.second) (sym e)
            (subst (λ (y : Option (List ProofLine)). AreAdded model last (proof_behind (cnf_of last) s.proof) n b None y) (sym h.alone) (alone-added n same h.spent))
        first-added n same (Some other) e h =
            subst (λ (x : Option ℤ). AreAdded model last (proof_behind (cnf_of last) s.proof) n b x s.second) (sym e)
            (subst (λ (y : Option (List ProofLine)). AreAdded model last (proof_behind (cnf_of last) s.proof) n b (Some (value_under problem values (integer_named entries other))) y) (sym h.alone) (alone-added n same h.spent))

        -- or on both
        both-added : (n : ℕ) → n ≡ options.budget → (o : Option ℕ) → b.second ≡ option_map (value_under problem values) (second_named entries o)
            → IsSpentSecond problem options d first_integer (second_named entries o) s b → AreAdded model last (proof_behind (cnf_of last) s.proof) n b b.second s.second
        both-added n same None e h = absurd (none h.is)
          where
            none : None ≡ Some h.other → ⊥
            none e = cc
        both-added n same (Some other) e h =
            let one = second-derived b h.lines h.has in
            let more : length one.proof.added ≡ additions h.lines = added-behind (fixed_cnf problem d first_integer b.first) h.lines in
            let both : length (proof_behind (cnf_of last) s.proof).added + length one.proof.added ≡ n = omega (arith, added-behind (cnf_of last) s.proof, more, h.spent, same) in
            subst (λ (x : Option ℤ). AreAdded model last (proof_behind (cnf_of last) s.proof) n b x s.second) (sym e)
            (subst (λ (y : Option (List ProofLine)). AreAdded model last (proof_behind (cnf_of last) s.proof) n b (Some (value_under problem values (integer_named entries other))) y) (sym h.has.is) (one, both))

        -- what was derived does not show that it is best
        first-open : IsSpentFirst problem options d first_integer s b → IsOpenBehind model last s.proof b s.second b.second
        first-open h =
            subst (λ (y : Option (List ProofLine)). IsOpenBehind model last s.proof b y b.second) (sym h.alone)
            (λ shown. h.unshown (subst (IsShown (proof_behind (cnf_of last) s.proof)) (first-is b.first) shown))

        second-open : (o : Option ℕ) → model.goal ≡ goal_of d place o → IsSpentSecond problem options d first_integer (second_named entries o) s b → IsOpenBehind model last s.proof b s.second b.second
        second-open None goal h = absurd (none h.is)
          where
            none : None ≡ Some h.other → ⊥
            none e = cc
        second-open (Some other) goal h =
            let m = h.number in
            let same : integer_named entries other ≡ h.other = some h.is in
            let here : second_shown model last m ≡ resolve last.view (bound_of d (integer_named entries other) m) =
            ap (λ (g : Goal). resolve last.view (second_bound g entries m)) goal ∙ ap (resolve last.view) (second-bound-is d place other entries m) in
            subst (λ (y : Option (List ProofLine)). IsOpenBehind model last s.proof b y b.second) (sym h.has.is)
            (subst (λ (x : Option ℤ). IsOpenBehind model last s.proof b (Some h.lines) x) (sym h.number_is)
            (λ shown. h.unshown
            (subst (λ (a : OrdInt). IsShown (proof_behind (fixed_cnf problem d first_integer b.first) h.lines) (resolve last.view (bound_of d a m))) same
            (subst (IsShown (proof_behind (fixed_cnf problem d first_integer b.first) h.lines)) here
            (subst (λ (f : Cnf). IsShown (proof_behind f h.lines) (second_shown model last m)) (second-cnf-is b.first) shown)))))
          where
            some : Some (integer_named entries other) ≡ Some h.other → integer_named entries other ≡ h.other
            some e = cc

      -- the budget was spent on searches that left out values
      abbrev search_most : ℕ
      search_most = most_learned options.restart (cnf_of last).vars

      first-paid : (b : Bounds) → IsSpentFirst problem options d first_integer s b → IsPaidTowards entries options.budget search_most b s.second model.goal
      first-paid b h =
          subst (IsPaidTowards entries options.budget search_most b s.second) (sym is)
          (paid-towards d place second entries options.budget search_most b s.second
          (subst (λ (y : Option (List ProofLine)). IsPaidBehind entries options.budget search_most d place second b y) (sym h.alone) h.paid))

      second-paid : (b : Bounds) (o : Option ℕ) → model.goal ≡ goal_of d place o → IsSpentSecond problem options d first_integer (second_named entries o) s b
          → IsPaidTowards entries options.budget search_most b s.second model.goal
      second-paid b None goal h = absurd (none h.is)
        where
          none : None ≡ Some h.other → ⊥
          none e = cc
      second-paid b (Some other) goal h =
          subst (IsPaidTowards entries options.budget search_most b s.second) (sym goal)
          (paid-towards d place (Some other) entries options.budget search_most b s.second
          (subst (λ (y : Option (List ProofLine)). IsPaidBehind entries options.budget search_most d place (Some other) b y) (sym h.has.is) paid))
        where
          same : integer_named entries other ≡ h.other
          same = some h.is
            where
              some : Some (integer_named entries other) ≡ Some h.other → integer_named entries other ≡ h.other
              some e = cc

          paid : (n : ℤ) → b.second ≡ Some n → IsPaidFor options.budget search_most (values_count first_integer + values_count (integer_named entries other)) d (integer_named entries other) n
          paid n e =
              let number : h.number ≡ n = equal (sym h.number_is ∙ e) in
              subst (λ (a : OrdInt). IsPaidFor options.budget search_most (values_count first_integer + values_count a) d a n) (sym same)
              (subst (λ (z : ℤ). IsPaidFor options.budget search_most (values_count first_integer + values_count h.other) d h.other z) number h.paid)
            where
              equal : Some h.number ≡ Some n → h.number ≡ n
              equal e = cc

      -- a budget that suffices isn't spent
      most-is : most_learned options.restart (cnf_of last).vars * most_rounds model.decls model.goal ≤ options.budget
          → most_learned options.restart (cnf_of last).vars * (values_at model.decls place + second_values model.decls second) ≤ options.budget
      most-is m =
          subst (λ (k : ℕ). most_learned options.restart (cnf_of last).vars * k ≤ options.budget) (rounds-is d place second model.decls)
          (subst (λ (g : Goal). most_learned options.restart (cnf_of last).vars * most_rounds model.decls g ≤ options.budget) is m)

      first-count : values_count first_integer ≤ values_at model.decls place
      first-count = count-at ((lowered_of model).vars + 1) 1 model.decls entries typed.decls law.fits.entries place sought-fits.0

      second-count : (o : Option ℕ) → SecondFits model.decls o → values_in (second_named entries o) ≤ second_values model.decls o
      second-count None fits = omega arith
      second-count (Some other) fits = count-at ((lowered_of model).vars + 1) 1 model.decls entries typed.decls law.fits.entries other fits

      -- and else one for each value
      pub best-most : additions s.proof + second_added s.second ≤ (values_count first_integer + values_in (second_named entries second)) * most_learned options.restart (cnf_of last).vars
          → additions s.proof + second_added s.second ≤ most_learned options.restart (cnf_of last).vars * most_rounds model.decls model.goal
      best-most h =
          let m = most_learned options.restart (cnf_of last).vars in
          let more : m * (values_count first_integer + values_in (second_named entries second)) ≤ m * (values_at model.decls place + second_values model.decls second) =
          mul-le-mul_left m (omega (arith, first-count, second-count second sought-fits.1)) in
          subst (λ (g : Goal). additions s.proof + second_added s.second ≤ m * most_rounds model.decls g) (sym is)
          (subst (λ (k : ℕ). additions s.proof + second_added s.second ≤ m * k) (sym (rounds-is d place second model.decls)) (omega (arith, h, more)))

      no-round : additions s.proof ≡ options.budget → additions s.proof < most_learned options.restart (cnf_of last).vars
          → most_learned options.restart (cnf_of last).vars * most_rounds model.decls model.goal ≤ options.budget → ⊥
      no-round spent early m =
          fewer-than-most options.budget 1 (values_at model.decls place + second_values model.decls second) (most_learned options.restart (cnf_of last).vars)
          (omega (arith, spent, early)) (omega (arith, first-count, some-value first_integer)) (most-is m)

      no-first : (b : Bounds) → IsSpentFirst problem options d first_integer s b → most_learned options.restart (cnf_of last).vars * most_rounds model.decls model.goal ≤ options.budget → ⊥
      no-first b h m =
          fewer-than-most options.budget (values_count first_integer) (values_at model.decls place + second_values model.decls second) (most_learned options.restart (cnf_of last).vars)
          h.early (omega (arith, first-count)) (most-is m)

      no-second : (b : Bounds) (o : Option ℕ) → SecondFits model.decls o → IsSpentSecond problem options d first_integer (second_named entries o) s b
          → most_learned options.restart (cnf_of last).vars * (values_at model.decls place + second_values model.decls o) ≤ options.budget → ⊥
      no-second b None fits h m = none h.is
        where
          none : None ≡ Some h.other → ⊥
          none e = cc
      no-second b (Some other) fits h m =
          let same : integer_named entries other ≡ h.other = some h.is in
          let more : values_count h.other ≤ values_at model.decls other = subst (λ (a : OrdInt). values_count a ≤ values_at model.decls other) same
          (count-at ((lowered_of model).vars + 1) 1 model.decls entries typed.decls law.fits.entries other fits) in
          fewer-than-most options.budget (values_count first_integer + values_count h.other) (values_at model.decls place + values_at model.decls other) (most_learned options.restart (cnf_of last).vars)
          h.early (omega (arith, first-count, more)) m
        where
          some : Some (integer_named entries other) ≡ Some h.other → integer_named entries other ≡ h.other
          some e = cc

      pub best-parts : (v : Verdict) → IsSolvedBest problem options d first_integer (second_named entries second) s v → Parts model last options ledger s v
      best-parts Satisfiable h = absurd h
      best-parts Unsatisfiable h = record {
        fits = tt;
        answer = none-answered Unsatisfiable h.0.0 tt;
        certificate = (derived, h.1, h.0.1);
        numbers = tt;
        assignment = none-fits s.assignment h.0.0;
        count = none-length s.assignment (length model.decls) h.0.0;
        fresh = alone-fresh None h.0.1;
        readable = alone-readable h.0.1;
        spent = tt;
        enough = λ m. tt;
        unshown = tt;
        paid = tt;
      }
      best-parts (Optimum b) h = record {
        fits = bounds-in h.0 h.1 b h.2;
        answer = answered h.0 h.1 (Optimum b) (solution-at h.0 h.1 b h.2);
        certificate = (derived, (shown-by h.0 h.1 b h.2 second is h.2.second h.3).0);
        numbers = numbers-in h.0 h.1 b h.2;
        assignment = fit h.0 h.1;
        count = counted h.0 h.1;
        fresh = (shown-by h.0 h.1 b h.2 second is h.2.second h.3).1;
        readable = (shown-by h.0 h.1 b h.2 second is h.2.second h.3).2;
        spent = tt;
        enough = λ m. tt;
        unshown = tt;
        paid = tt;
      }
      best-parts (Unknown n None) h = record {
        fits = ((in-budget n h.1).0, (in-budget n h.1).1, tt);
        answer = none-answered (Unknown n None) h.0.0 tt;
        certificate = (derived, subst (AreAddedAlone (proof_behind (cnf_of last) s.proof) n) (sym h.0.1) (alone-added n h.1 h.2.spent));
        numbers = tt;
        assignment = none-fits s.assignment h.0.0;
        count = none-length s.assignment (length model.decls) h.0.0;
        fresh = alone-fresh None h.0.1;
        readable = alone-readable h.0.1;
        spent = alone-spent n h.1 h.2.spent h.0.1;
        enough = λ m. no-round h.2.spent h.2.early m;
        unshown = h.2.unshown;
        paid = tt;
      }
      best-parts (Unknown n (Some b)) h = record {
        fits = ((in-budget n h.3).0, (in-budget n h.3).1, bounds-in h.0 h.1 b h.2);
        answer = answered h.0 h.1 (Unknown n (Some b)) (solution-at h.0 h.1 b h.2);
        certificate = (
          derived,
          ⊎_elim
              (λ (f : IsSpentFirst problem options d first_integer s b). first-added h.0 h.1 b h.2 n h.3 second h.2.second f)
              (λ (f : IsSpentSecond problem options d first_integer (second_named entries second) s b). both-added h.0 h.1 b h.2 n h.3 second h.2.second f)
              h.4,
        );
        numbers = numbers-in h.0 h.1 b h.2;
        assignment = fit h.0 h.1;
        count = counted h.0 h.1;
        fresh = ⊎_elim
            (λ (f : IsSpentFirst problem options d first_integer s b). alone-fresh (Some b) f.alone)
            (λ (f : IsSpentSecond problem options d first_integer (second_named entries second) s b). second-fresh b f.lines f.has)
            h.4;
        readable = ⊎_elim
            (λ (f : IsSpentFirst problem options d first_integer s b). alone-readable f.alone)
            (λ (f : IsSpentSecond problem options d first_integer (second_named entries second) s b). both-readable f.lines f.has.is f.has.derivation.readable)
            h.4;
        spent = ⊎_elim
            (λ (f : IsSpentFirst problem options d first_integer s b). alone-spent n h.3 f.spent f.alone)
            (λ (f : IsSpentSecond problem options d first_integer (second_named entries second) s b). both-spent f)
            h.4;
        enough = λ m. ⊎_elim
            (λ (f : IsSpentFirst problem options d first_integer s b). no-first b f m)
            (λ (f : IsSpentSecond problem options d first_integer (second_named entries second) s b). no-second b second sought-fits.1 f (most-is m))
            h.4;
        unshown = ⊎_elim
            (λ (f : IsSpentFirst problem options d first_integer s b). first-open h.0 h.1 b h.2 f)
            (λ (f : IsSpentSecond problem options d first_integer (second_named entries second) s b). second-open h.0 h.1 b h.2 second is f)
            h.4;
        paid = ⊎_elim
            (λ (f : IsSpentFirst problem options d first_integer s b). first-paid b f)
            (λ (f : IsSpentSecond problem options d first_integer (second_named entries second) s b). second-paid b second is f)
            h.4;
      }
        where
          both-spent : IsSpentSecond problem options d first_integer (second_named entries second) s b → (n ≡ options.budget) × (additions s.proof + second_added s.second ≡ options.budget)
          both-spent f = (h.3, omega (arith, f.spent, ap second_added f.has.is))
