-- What is made of rounds is solved.
use Rattle.std.proofs.Common.{◌≡◌, ℕ, ◌+◌, ◌-◌, ◌*◌, ◌≤◌, ◌<◌, Bool, true, List, ◌++◌, length, Option, Some, None, refl, sym, ap, ◌∙◌, subst, inl, inr, ℤ, FitsSigned, w64, to_z, of_z, arith}
use Rattle.std.proofs.Math.Nat.{mul-le-mul_left}
use Rattle.std.proofs.lemmas.Int.{to_z-of_z}
use Rattle.order_ints.specs.declared.atom.Atom.{Atom}
use Rattle.order_ints.specs.declared.cnf.Cnf.{Cnf}
use Rattle.order_ints.specs.declared.order_int.OrdInt.{OrdInt}
use Rattle.order_ints.specs.OrderValue.{value_of, IsOrdered}
use Rattle.order_ints.specs.Place.{AtomBelow}
use Rattle.order_ints.specs.Truth.{Valuation, valuation_of, atom_truth}
use Rattle.order_ints.specs.View.{resolve}
use Rattle.order_ints.proofs.PlaceLaws.{AtomBelow-not_atom, AtomBelow-resolve}
use Rattle.order_ints.proofs.Reaching.{AtomBelow-at_of}
use Rattle.order_ints.specs.OrderLevels.{at_of}
use Rattle.order_ints.specs.OrderRange.{IntBelow}
use Rattle.std.specs.Prelude.{pos, ◌+ℤ◌}
use Rattle.state_compile.specs.StandsFor.{read_by}
use Rattle.state_compile.proofs.Reading.{read-atom}
use Rattle.model_decode.proofs.Ranges.{value-fits}
use Rattle.proof_check.specs.declared.line.ProofLine.{ProofLine}
use Rattle.learning_solver.specs.Log.{additions, proof_behind}
use Rattle.learning_solver.specs.Outcome.{most_learned}
use Rattle.answer_document.specs.declared.verdict.Bounds.{Bounds}
use Rattle.answer_document.specs.declared.verdict.Verdict.{Verdict}
use Rattle.answer_document.specs.declared.verdict.Verdict.TheVariants.{Satisfiable, Unsatisfiable, Optimum, Unknown}
use Rattle.answer_document.specs.Valid.{IsShown, atom_clauses}
use Rattle.decode_minimize.specs.declared.objective.Direction.{Direction}
use Rattle.decode_minimize.specs.declared.objective.Direction.TheVariants.{Least, Greatest}
use Rattle.search_options.specs.declared.options.SearchOptions.{SearchOptions}
use Rattle.decode_minimize.specs.declared.asking.Ended.{Ended}
use Rattle.decode_minimize.specs.declared.asking.Ended.TheVariants.{Shown, Spent}
use Rattle.decode_minimize.specs.declared.improving.Sought.{Sought}
use Rattle.decode_minimize.specs.declared.solved.Names.{Names}
use Rattle.decode_minimize.specs.declared.solved.Progress.{Progress}
use Rattle.decode_minimize.specs.declared.solved.Solved.{Solved}
use Rattle.decode_minimize.specs.Objectives.{better_left, bound_of, no_worse_of}
use Rattle.decode_minimize.specs.Rounds.{AreSatisfying}
use Rattle.decode_minimize.specs.Solved.{Problem, problem_of, IsSolvable, IsSeekable, IsDerivation, IsProgress, IsRefuted, IsGivenUp, IsReadFrom, HasBounds, IsFirstShown, HasSecond, IsSolvedAny, IsSolvedBest, IsAnySolved, IsBestSolved, IsMadeOf, fixed_cnf, second_added, values_count, values_in, verdict_on}
use Rattle.decode_minimize.proofs.Ready.{solvable-with}
use Rattle.decode_minimize.proofs.Rounding.{some-value}
use Rattle.decode_minimize.proofs.Sound.{shown-true, with-atom-true, with-atom-parts, exact-value, own-no-worse}

abbrev refuted_solved : List ProofLine → Solved
refuted_solved proof = record { verdict = Unsatisfiable; assignment = None; proof = proof; second = None }

abbrev given_up_solved : List ProofLine → SearchOptions → Solved
given_up_solved proof options = record { verdict = Unknown options.budget None; assignment = None; proof = proof; second = None }

module _ (p : Problem) (options : SearchOptions) (s : Solved) (proof : List ProofLine) where
  -- one search is no more than one for each value
  one-of-many : (a : OrdInt) (second : Option OrdInt) (x : ℕ) → x ≤ most_learned options.restart p.cnf.vars → x + 0 ≤ (values_count a + values_in second) * most_learned options.restart p.cnf.vars
  one-of-many a second x most =
      let m = most_learned options.restart p.cnf.vars in
      let more : m * 1 ≤ m * (values_count a + values_in second) = mul-le-mul_left m (omega (arith, some-value a)) in
      omega (arith, most, more)

  pub any-refuted : s ≡ refuted_solved proof → IsRefuted p.cnf options proof → IsAnySolved p options s
  any-refuted is r =
      subst (IsAnySolved p options) (sym is) (record { derivation = r.derivation; within = omega (arith, r.within); most = omega (arith, r.most); says = ((refl, refl), r.shown) })

  pub any-given_up : s ≡ given_up_solved proof options → IsGivenUp p.cnf options proof → IsAnySolved p options s
  any-given_up is g =
      subst (IsAnySolved p options) (sym is) (record { derivation = g.derivation; within = omega (arith, g.spent); most = omega (arith, g.early); says = ((refl, refl), refl, g) })

  pub best-refuted : (d : Direction) (a : OrdInt) (second : Option OrdInt) → s ≡ refuted_solved proof → IsRefuted p.cnf options proof → IsBestSolved p options d a second s
  best-refuted d a second is r =
      subst (IsBestSolved p options d a second) (sym is)
      (record { derivation = r.derivation; within = omega (arith, r.within); most = one-of-many a second (additions proof) r.most; says = ((refl, refl), r.shown) })

  pub best-given_up : (d : Direction) (a : OrdInt) (second : Option OrdInt) → s ≡ given_up_solved proof options → IsGivenUp p.cnf options proof → IsBestSolved p options d a second s
  best-given_up d a second is g =
      subst (IsBestSolved p options d a second) (sym is)
      (record { derivation = g.derivation; within = omega (arith, g.spent); most = one-of-many a second (additions proof) (omega (arith, g.early)); says = ((refl, refl), refl, g) })

-- of what is made of a derivation, or of two
made-derivation : (names : Names) (values : List Bool) (v : Verdict) (proof : List ProofLine) (second : Option (List ProofLine)) (s : Solved) (cnf : Cnf) → IsMadeOf names values v proof second s → IsDerivation cnf proof → IsDerivation cnf s.proof
made-derivation names values v proof second s cnf made d = subst (IsDerivation cnf) (sym made.proof) d

made-within : (names : Names) (values : List Bool) (v : Verdict) (proof : List ProofLine) (second : Option (List ProofLine)) (s : Solved) (n : ℕ) → IsMadeOf names values v proof second s
    → additions proof + second_added second ≤ n → additions s.proof + second_added s.second ≤ n
made-within names values v proof second s n made h =
    let one : additions s.proof ≡ additions proof = ap additions made.proof in
    let two : second_added s.second ≡ second_added second = ap second_added made.second in
    omega (arith, one, two, h)

made-read : (names : Names) (cnf : Cnf) (values : List Bool) (v : Verdict) (proof : List ProofLine) (second : Option (List ProofLine)) (s : Solved) → IsMadeOf names values v proof second s
    → AreSatisfying cnf values → IsReadFrom (problem_of names cnf) s values
made-read names cnf values v proof second s made satisfying = record { satisfying = satisfying; numbers = made.numbers }

pub any-solution : (names : Names) (cnf : Cnf) (options : SearchOptions) (values : List Bool) (proof : List ProofLine) (s : Solved) → IsMadeOf names values Satisfiable proof None s → AreSatisfying cnf values
    → IsDerivation cnf proof → additions proof ≤ options.budget → additions proof ≤ most_learned options.restart cnf.vars → IsAnySolved (problem_of names cnf) options s
any-solution names cnf options values proof s made satisfying derivation within most = record {
  derivation = made-derivation names values Satisfiable proof None s cnf made derivation;
  within = made-within names values Satisfiable proof None s options.budget made (omega (arith, within));
  most = made-within names values Satisfiable proof None s (1 * most_learned options.restart cnf.vars) made (omega (arith, most));
  says = subst (IsSolvedAny (problem_of names cnf) options s) (sym made.verdict) (values, made-read names cnf values Satisfiable proof None s made satisfying, made.second);
}

-- what is read by one view is read by the same one
module _ (names : Names) (cnf : Cnf) (sought : Sought) (options : SearchOptions) (view : sought.view.now ≡ names.view.now) (r : Progress) (progress : IsProgress cnf sought options r) where
  abbrev solving : Problem
  solving = problem_of names cnf

  own-number : r.best.number ≡ value_of (read_by names.view.now (valuation_of r.best.values)) sought.integer.now
  own-number = progress.number ∙ ap (λ (v : List Atom). value_of (read_by v (valuation_of r.best.values)) sought.integer.now) view

  own-shown : r.ended ≡ Shown → IsShown (proof_behind cnf r.proof.lines) (resolve names.view.now (bound_of sought.direction sought.integer.now r.best.number))
  own-shown e = subst (λ (v : List Atom). IsShown (proof_behind cnf r.proof.lines) (resolve v (bound_of sought.direction sought.integer.now r.best.number))) view (progress.shown e)

  made-shown : (v : Verdict) (second : Option (List ProofLine)) (s : Solved) (b : Bounds) → IsMadeOf names r.best.values v r.proof.lines second s → b.first ≡ r.best.number → r.ended ≡ Shown
      → IsFirstShown solving sought.direction sought.integer.now s b
  made-shown v second s b made number e =
      subst (λ (l : List ProofLine). IsShown (proof_behind cnf l) (resolve names.view.now (bound_of sought.direction sought.integer.now b.first))) (sym made.proof)
      (subst (λ (z : ℤ). IsShown (proof_behind cnf r.proof.lines) (resolve names.view.now (bound_of sought.direction sought.integer.now z))) (sym number) (own-shown e))

  made-open : (v : Verdict) (second : Option (List ProofLine)) (s : Solved) (b : Bounds) → IsMadeOf names r.best.values v r.proof.lines second s → b.first ≡ r.best.number → r.ended ≡ Spent
      → IsFirstShown solving sought.direction sought.integer.now s b → ⊥
  made-open v second s b made number e shown =
      progress.unshown e
      (subst (λ (w : List Atom). IsShown (proof_behind cnf r.proof.lines) (resolve w (bound_of sought.direction sought.integer.now r.best.number))) (sym view)
      (subst (λ (z : ℤ). IsShown (proof_behind cnf r.proof.lines) (resolve names.view.now (bound_of sought.direction sought.integer.now z))) number
      (subst (λ (l : List ProofLine). IsShown (proof_behind cnf l) (resolve names.view.now (bound_of sought.direction sought.integer.now b.first))) made.proof shown)))

  -- one objective
  abbrev one_bounds : Bounds
  one_bounds = record { first = r.best.number; second = None }

  one-by : (ended : Ended) (s : Solved) → r.ended ≡ ended → IsMadeOf names r.best.values (verdict_on ended one_bounds options) r.proof.lines None s → IsBestSolved solving options sought.direction sought.integer.now None s
  one-by Shown s e made =
      let v = Optimum one_bounds in record {
        derivation = made-derivation names r.best.values v r.proof.lines None s cnf made progress.derivation;
        within = made-within names r.best.values v r.proof.lines None s options.budget made (omega (arith, progress.within));
        most = made-within names r.best.values v r.proof.lines None s ((values_count sought.integer.now + 0) * most_learned options.restart cnf.vars) made (omega (arith, progress.most));
        says = subst (IsSolvedBest solving options sought.direction sought.integer.now None s) (sym made.verdict)
            (r.best.values, made-read names cnf r.best.values v r.proof.lines None s made progress.values, record { first = own-number; second = refl }, (made.second, made-shown v None s one_bounds made refl e));
      }
  one-by Spent s e made =
      let v = Unknown options.budget (Some one_bounds) in
      let spent = progress.spent e in
      let count : additions s.proof ≡ additions r.proof.lines = ap additions made.proof in
      record {
        derivation = made-derivation names r.best.values v r.proof.lines None s cnf made progress.derivation;
        within = made-within names r.best.values v r.proof.lines None s options.budget made (omega (arith, progress.within));
        most = made-within names r.best.values v r.proof.lines None s ((values_count sought.integer.now + 0) * most_learned options.restart cnf.vars) made (omega (arith, progress.most));
        says = subst (IsSolvedBest solving options sought.direction sought.integer.now None s) (sym made.verdict) (
          r.best.values,
          made-read names cnf r.best.values v r.proof.lines None s made progress.values,
          record { first = own-number; second = refl },
          refl,
          inl (record {
            alone = made.second;
            spent = count ∙ spent.0;
            early = omega (arith, spent);
            paid = omega (arith, spent.0, progress.paid e);
            unshown = made-open v None s one_bounds made refl e;
          }),
        );
      }

  pub one-solved : (s : Solved) → IsMadeOf names r.best.values (verdict_on r.ended one_bounds options) r.proof.lines None s → IsBestSolved solving options sought.direction sought.integer.now None s
  one-solved s made = one-by r.ended s refl made

  -- two, where the budget was spent on the first one
  pub first-solved : (other : OrdInt) (behind : List Atom) (s : Solved) → behind ≡ names.view.now → r.ended ≡ Spent
      → IsMadeOf names r.best.values (Unknown options.budget (Some (record { first = r.best.number; second = Some (value_of (read_by behind (valuation_of r.best.values)) other) }))) r.proof.lines None s
      → IsBestSolved solving options sought.direction sought.integer.now (Some other) s
  first-solved other behind s same e made =
      let b : Bounds = record { first = r.best.number; second = Some (value_of (read_by behind (valuation_of r.best.values)) other) } in
      let v = Unknown options.budget (Some b) in
      let spent = progress.spent e in
      let count : additions s.proof ≡ additions r.proof.lines = ap additions made.proof in
      record {
        derivation = made-derivation names r.best.values v r.proof.lines None s cnf made progress.derivation;
        within = made-within names r.best.values v r.proof.lines None s options.budget made (omega (arith, progress.within));
        most = made-within names r.best.values v r.proof.lines None s ((values_count sought.integer.now + values_count other) * most_learned options.restart cnf.vars) made (omega (arith, progress.most));
        says = subst (IsSolvedBest solving options sought.direction sought.integer.now (Some other) s) (sym made.verdict) (
          r.best.values,
          made-read names cnf r.best.values v r.proof.lines None s made progress.values,
          record { first = own-number; second = ap (λ (w : List Atom). Some (value_of (read_by w (valuation_of r.best.values)) other)) same },
          refl,
          inl (record {
            alone = made.second;
            spent = count ∙ spent.0;
            early = omega (arith, spent);
            paid = omega (arith, spent.0, progress.paid e);
            unshown = made-open v None s b made refl e;
          }),
        );
      }

no-worse-below : (n : ℕ) (d : Direction) (a : OrdInt) (m : ℤ) → IntBelow n a → AtomBelow n (no_worse_of d a m)
no-worse-below n Least a m h = AtomBelow-not_atom n (at_of a (m +ℤ pos 1)) (AtomBelow-at_of n a (m +ℤ pos 1) h)
no-worse-below n Greatest a m h = AtomBelow-at_of n a m h

-- the clauses with that of a fixed objective
module _ (cnf : Cnf) (sought : Sought) (options : SearchOptions) (r : Progress) (seekable : IsSeekable cnf sought) (progress : IsProgress cnf sought options r) where
  abbrev fixed_atom : Atom
  fixed_atom = resolve sought.view.now (no_worse_of sought.direction sought.integer.now r.best.number)

  abbrev fixed : Cnf
  fixed = record { vars = cnf.vars; clauses = cnf.clauses ++ atom_clauses fixed_atom }

  pub found-fits : FitsSigned w64 r.best.number
  found-fits = subst (FitsSigned w64) (sym progress.number) (value-fits (read_by sought.view.now (valuation_of r.best.values)) sought.integer.now seekable.objective.least seekable.objective.greatest)

  pub fixed-is : (made : Cnf) (worse resolved : Atom) → made ≡ record { vars = cnf.vars; clauses = cnf.clauses ++ atom_clauses resolved } → resolved ≡ resolve sought.view.now worse
      → worse ≡ no_worse_of sought.direction sought.integer.now (to_z w64 (of_z w64 r.best.number)) → made ≡ fixed
  fixed-is made worse resolved e f g =
      e ∙ ap (λ (a : Atom). record { vars = cnf.vars; clauses = cnf.clauses ++ atom_clauses a })
      (f ∙ ap (resolve sought.view.now) (g ∙ ap (no_worse_of sought.direction sought.integer.now) (to_z-of_z w64 r.best.number found-fits)))

  pub fixed-solvable : IsSolvable cnf → IsSolvable fixed
  fixed-solvable is =
      let n = length sought.view.now + 1 in
      let here = AtomBelow-resolve n sought.view.now seekable.labels (no_worse_of sought.direction sought.integer.now r.best.number)
      (no-worse-below n sought.direction sought.integer.now r.best.number seekable.objective.below) in
      solvable-with cnf fixed_atom is (subst (λ (v : ℕ). AtomBelow (v + 1) fixed_atom) (sym seekable.vars) here)

  pub fixed-satisfying : AreSatisfying fixed r.best.values
  fixed-satisfying =
      let σ = valuation_of r.best.values in
      let ordered : IsOrdered (read_by sought.view.now σ) sought.integer.now = seekable.ordered σ progress.values.satisfies in
      let own : atom_truth (read_by sought.view.now σ) (no_worse_of sought.direction sought.integer.now r.best.number) ≡ true =
      subst (λ (z : ℤ). atom_truth (read_by sought.view.now σ) (no_worse_of sought.direction sought.integer.now z) ≡ true) (sym progress.number) (own-no-worse sought.direction (read_by sought.view.now σ) sought.integer.now ordered) in
      record {
        count = progress.values.count;
        satisfies = with-atom-true σ cnf.clauses fixed_atom progress.values.satisfies
            (sym (read-atom sought.view.now σ (no_worse_of sought.direction sought.integer.now r.best.number)) ∙ own);
      }

  pub fixed-seekable : (behind : Sought) → IsSeekable cnf behind → IsSeekable fixed behind
  fixed-seekable behind is = record {
    vars = is.vars;
    labels = is.labels;
    objective = is.objective;
    ordered = λ σ h. is.ordered σ (with-atom-parts σ cnf.clauses fixed_atom h).0;
  }

  -- truth values that satisfy them give the first objective its number
  module _ (shown : r.ended ≡ Shown) (values : List Bool) (satisfying : AreSatisfying fixed values) where
    pub front-satisfying : AreSatisfying cnf values
    front-satisfying = record { count = satisfying.count; satisfies = (with-atom-parts (valuation_of values) cnf.clauses fixed_atom satisfying.satisfies).0 }

    pub same-first : r.best.number ≡ value_of (read_by sought.view.now (valuation_of values)) sought.integer.now
    same-first =
        let σ = valuation_of values in
        let τ : Valuation = read_by sought.view.now σ in
        let bound = bound_of sought.direction sought.integer.now r.best.number in
        let no_worse = no_worse_of sought.direction sought.integer.now r.best.number in
        let better : atom_truth σ (resolve sought.view.now bound) ≡ true =
        shown-true cnf r.proof.lines (proof_behind cnf r.proof.lines) progress.derivation.accepted σ front-satisfying.satisfies (resolve sought.view.now bound) (progress.shown shown) in
        let worse : atom_truth σ (resolve sought.view.now no_worse) ≡ true = (with-atom-parts σ cnf.clauses fixed_atom satisfying.satisfies).1 in
        exact-value τ sought.integer.now r.best.number (seekable.ordered σ front-satisfying.satisfies) sought.direction
        (read-atom sought.view.now σ bound ∙ better) (read-atom sought.view.now σ no_worse ∙ worse)

-- searches for both objectives
both-searches : (a b m x y n : ℕ) → x ≤ a * m → y ≡ n - x → x ≤ n → y < b * m → n < (a + b) * m
both-searches a b m x y n first rest within second = omega (arith, first, rest, within, second)

both-paid : (a b i m x y n : ℕ) → x ≤ a * m → y ≡ n - x → x ≤ n → y + i * m < (b + 1) * m → n + i * m < (a + b + 1) * m
both-paid a b i m x y n first rest within second = omega (arith, first, rest, within, second)

-- two objectives, where the first one is fixed
module _ (names : Names) (cnf : Cnf) (sought behind : Sought) (options left : SearchOptions) (r last : Progress) (view : sought.view.now ≡ names.view.now) (view_behind : behind.view.now ≡ names.view.now)
    (direction : behind.direction ≡ sought.direction) (seekable : IsSeekable cnf sought) (progress : IsProgress cnf sought options r) (shown : r.ended ≡ Shown)
    (budget : left.budget ≡ options.budget - additions r.proof.lines) (restart : left.restart ≡ options.restart) where
  abbrev both_fixed : Cnf
  both_fixed = record { vars = cnf.vars; clauses = cnf.clauses ++ atom_clauses (resolve sought.view.now (no_worse_of sought.direction sought.integer.now r.best.number)) }

  abbrev both_bounds : Bounds
  both_bounds = record { first = r.best.number; second = Some last.best.number }

  abbrev both_problem : Problem
  both_problem = problem_of names cnf

  module _ (second : IsProgress both_fixed behind left last) (s : Solved) where
    same-fixed : fixed_cnf both_problem sought.direction sought.integer.now r.best.number ≡ both_fixed
    same-fixed = ap (λ (v : List Atom). record { vars = cnf.vars; clauses = cnf.clauses ++ atom_clauses (resolve v (no_worse_of sought.direction sought.integer.now r.best.number)) }) (sym view)

    has-bounds : HasBounds both_problem last.best.values sought.integer.now (Some behind.integer.now) both_bounds
    has-bounds = record {
      first = same-first cnf sought options r seekable progress shown last.best.values second.values
          ∙ ap (λ (v : List Atom). value_of (read_by v (valuation_of last.best.values)) sought.integer.now) view;
      second = ap (λ (z : ℤ). Some z) (second.number ∙ ap (λ (v : List Atom). value_of (read_by v (valuation_of last.best.values)) behind.integer.now) view_behind);
    }

    module _ (v : Verdict) (made : IsMadeOf names last.best.values v r.proof.lines (Some last.proof.lines) s) where
      has-read : IsReadFrom both_problem s last.best.values
      has-read = record { satisfying = front-satisfying cnf sought options r seekable progress shown last.best.values second.values; numbers = made.numbers }

      has-second : HasSecond both_problem sought.direction sought.integer.now s both_bounds last.proof.lines
      has-second = record {
        is = made.second;
        first = subst (λ (l : List ProofLine). IsShown (proof_behind cnf l) (resolve names.view.now (bound_of sought.direction sought.integer.now r.best.number))) (sym made.proof)
            (subst (λ (w : List Atom). IsShown (proof_behind cnf r.proof.lines) (resolve w (bound_of sought.direction sought.integer.now r.best.number))) view (progress.shown shown));
        derivation = subst (λ (f : Cnf). IsDerivation f last.proof.lines) (sym same-fixed) second.derivation;
      }

      both-within : additions s.proof + second_added s.second ≤ options.budget
      both-within = made-within names last.best.values v r.proof.lines (Some last.proof.lines) s options.budget made (fits (additions r.proof.lines) (additions last.proof.lines) options.budget left.budget progress.within budget second.within)
        where
          fits : (x y n m : ℕ) → x ≤ n → m ≡ n - x → y ≤ m → x + y ≤ n
          fits x y n m h e k = omega (arith, h, e, k)

      both-most : additions s.proof + second_added s.second ≤ (values_count sought.integer.now + values_count behind.integer.now) * most_learned options.restart cnf.vars
      both-most =
          let most : most_learned left.restart cnf.vars ≡ most_learned options.restart cnf.vars = ap (λ (b : Bool). most_learned b cnf.vars) restart in
          let later = subst (λ (m : ℕ). additions last.proof.lines ≤ values_count behind.integer.now * m) most second.most in
          made-within names last.best.values v r.proof.lines (Some last.proof.lines) s ((values_count sought.integer.now + values_count behind.integer.now) * most_learned options.restart cnf.vars) made
          (omega (arith, progress.most, later))

    both-by : (ended : Ended) → last.ended ≡ ended → IsMadeOf names last.best.values (verdict_on ended both_bounds options) r.proof.lines (Some last.proof.lines) s
        → IsBestSolved both_problem options sought.direction sought.integer.now (Some behind.integer.now) s
    both-by Shown e made =
        let v = Optimum both_bounds in record {
          derivation = made-derivation names last.best.values v r.proof.lines (Some last.proof.lines) s cnf made progress.derivation;
          within = both-within v made;
          most = both-most v made;
          says = subst (IsSolvedBest both_problem options sought.direction sought.integer.now (Some behind.integer.now) s) (sym made.verdict)
              (last.best.values, has-read v made, has-bounds, (last.proof.lines, has-second v made, λ n is. best-second n is));
        }
      where
        best-second : (n : ℤ) → Some last.best.number ≡ Some n → IsShown (proof_behind (fixed_cnf both_problem sought.direction sought.integer.now r.best.number) last.proof.lines) (resolve names.view.now (bound_of sought.direction behind.integer.now n))
        best-second n is =
            let same : last.best.number ≡ n = cc in
            let P : ℤ → Type 0 = λ z. IsShown (proof_behind (fixed_cnf both_problem sought.direction sought.integer.now r.best.number) last.proof.lines) (resolve names.view.now (bound_of sought.direction behind.integer.now z)) in
            let here = second.shown e in
            let one = subst (λ (d : Direction). IsShown (proof_behind both_fixed last.proof.lines) (resolve behind.view.now (bound_of d behind.integer.now last.best.number))) direction here in
            let two = subst (λ (w : List Atom). IsShown (proof_behind both_fixed last.proof.lines) (resolve w (bound_of sought.direction behind.integer.now last.best.number))) view_behind one in
            subst P same (subst (λ (f : Cnf). IsShown (proof_behind f last.proof.lines) (resolve names.view.now (bound_of sought.direction behind.integer.now last.best.number))) (sym same-fixed) two)
    both-by Spent e made =
        let v = Unknown options.budget (Some both_bounds) in
        let spent = second.spent e in
        let count : additions s.proof ≡ additions r.proof.lines = ap additions made.proof in
        let most : most_learned left.restart cnf.vars ≡ most_learned options.restart cnf.vars = ap (λ (b : Bool). most_learned b cnf.vars) restart in
        record {
          derivation = made-derivation names last.best.values v r.proof.lines (Some last.proof.lines) s cnf made progress.derivation;
          within = both-within v made;
          most = both-most v made;
          says = subst (IsSolvedBest both_problem options sought.direction sought.integer.now (Some behind.integer.now) s) (sym made.verdict) (
            last.best.values,
            has-read v made,
            has-bounds,
            refl,
            inr (record {
              other = behind.integer.now;
              is = refl;
              lines = last.proof.lines;
              has = has-second v made;
              spent = omega (arith, count, spent.0, budget, progress.within);
              early = both-searches (values_count sought.integer.now) (values_count behind.integer.now) (most_learned options.restart cnf.vars) (additions r.proof.lines) (additions last.proof.lines) options.budget
                  progress.most (spent.0 ∙ budget) progress.within (subst (λ (m : ℕ). additions last.proof.lines < values_count behind.integer.now * m) most spent.1);
              number = last.best.number;
              number_is = refl;
              paid = both-paid (values_count sought.integer.now) (values_count behind.integer.now) (better_left sought.direction behind.integer.now last.best.number) (most_learned options.restart cnf.vars)
                  (additions r.proof.lines) (additions last.proof.lines) options.budget progress.most (spent.0 ∙ budget) progress.within
                  (subst (λ (d : Direction). additions last.proof.lines + better_left d behind.integer.now last.best.number * most_learned options.restart cnf.vars < (values_count behind.integer.now + 1) * most_learned options.restart cnf.vars) direction
                  (subst (λ (m : ℕ). additions last.proof.lines + better_left behind.direction behind.integer.now last.best.number * m < (values_count behind.integer.now + 1) * m) most (second.paid e)));
              unshown = λ shown. second.unshown e
                  (subst (λ (w : List Atom). IsShown (proof_behind both_fixed last.proof.lines) (resolve w (bound_of behind.direction behind.integer.now last.best.number))) (sym view_behind)
                  (subst (λ (d : Direction). IsShown (proof_behind both_fixed last.proof.lines) (resolve names.view.now (bound_of d behind.integer.now last.best.number))) (sym direction)
                  (subst (λ (f : Cnf). IsShown (proof_behind f last.proof.lines) (resolve names.view.now (bound_of sought.direction behind.integer.now last.best.number))) same-fixed shown)));
            }),
          );
        }

    pub both-solved : IsMadeOf names last.best.values (verdict_on last.ended both_bounds options) r.proof.lines (Some last.proof.lines) s
        → IsBestSolved both_problem options sought.direction sought.integer.now (Some behind.integer.now) s
    both-solved made = both-by last.ended refl made

-- the same, of what the code has: the clauses as they were made, and the number as its bits
pub both-made : (names : Names) (cnf made : Cnf) (sought behind : Sought) (options left : SearchOptions) (r last : Progress) (number : ℤ) (s : Solved) → sought.view.now ≡ names.view.now → behind.view.now ≡ names.view.now
    → behind.direction ≡ sought.direction → IsSeekable cnf sought → IsProgress cnf sought options r → r.ended ≡ Shown → left.budget ≡ options.budget - additions r.proof.lines → left.restart ≡ options.restart
    → made ≡ record { vars = cnf.vars; clauses = cnf.clauses ++ atom_clauses (resolve sought.view.now (no_worse_of sought.direction sought.integer.now r.best.number)) } → IsProgress made behind left last
    → number ≡ r.best.number → IsMadeOf names last.best.values (verdict_on last.ended (record { first = number; second = Some last.best.number }) options) r.proof.lines (Some last.proof.lines) s
    → IsBestSolved (problem_of names cnf) options sought.direction sought.integer.now (Some behind.integer.now) s
both-made names cnf made sought behind options left r last number s view view_behind direction seekable progress shown budget restart fixed second same is =
    both-solved names cnf sought behind options left r last view view_behind direction seekable progress shown budget restart
    (subst (λ (f : Cnf). IsProgress f behind left last) fixed second) s
    (subst (λ (z : ℤ). IsMadeOf names last.best.values (verdict_on last.ended (record { first = z; second = Some last.best.number }) options) r.proof.lines (Some last.proof.lines) s) same is)
