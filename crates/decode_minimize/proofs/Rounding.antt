-- From a solver's first round to its log.
use Rattle.std.proofs.Common.{◌≡◌, ℕ, ◌+◌, ◌*◌, ◌≤◌, ◌<◌, Bool, List, [], ◌∷◌, length, map, Some, sym, ap, ◌∙◌, subst, ℤ, arith}
use Rattle.std.proofs.Math.Nat.{mul-le-mul_left}
use Rattle.order_ints.specs.declared.atom.Atom.{Atom}
use Rattle.order_ints.specs.declared.atom.Atom.TheVariants.{True, False}
use Rattle.order_ints.specs.declared.cnf.Cnf.{Cnf}
use Rattle.order_ints.specs.declared.order_int.OrdInt.{OrdInt}
use Rattle.order_ints.specs.OrderLevels.{levels, values_of}
use Rattle.order_ints.specs.OrderValue.{value_of, IsOrdered}
use Rattle.order_ints.specs.Satisfies.{Satisfies}
use Rattle.order_ints.specs.Truth.{valuation_of}
use Rattle.order_ints.proofs.Reaching.{Contains-value_of}
use Rattle.state_compile.specs.StandsFor.{read_by}
use Rattle.proof_check.specs.declared.line.ProofLine.{ProofLine}
use Rattle.proof_check.specs.Lrat.{Lrat}
use Rattle.learning_solver.specs.Log.{additions, proof_behind, IsFreshLog}
use Rattle.learning_solver.specs.Outcome.{Logged, most_learned}
use Rattle.answer_document.specs.Valid.{IsShown, AreReadableLines}
use Rattle.search_options.specs.declared.options.SearchOptions.{SearchOptions}
use Rattle.decode_minimize.specs.declared.asking.Ended.{Ended}
use Rattle.decode_minimize.specs.declared.asking.Ended.TheVariants.{Shown, Spent}
use Rattle.decode_minimize.specs.declared.improving.Sought.{Sought}
use Rattle.decode_minimize.specs.declared.improving.Best.{Best}
use Rattle.decode_minimize.specs.declared.asking.Round.TheVariants as round
use Rattle.decode_minimize.specs.declared.seeker.SeekerLog.{SeekerLog}
use Rattle.decode_minimize.specs.Objectives.{better_left}
use Rattle.decode_minimize.specs.Rounds.{AreSatisfying, IsRound}
use Rattle.decode_minimize.specs.Seeking.{IsSeeking, IsImproved, left}
use Rattle.decode_minimize.specs.Solved.{IsSeekable, IsDerivation, IsProgress, IsRefuted, IsGivenUp, values_count}
use Rattle.decode_minimize.proofs.Better.{some-left}
use Rattle.decode_minimize.proofs.Turning.{asked_bound}
use Rattle.decode_minimize.proofs.Refuting.{accepted-behind}

abbrev pub new_solver : Cnf → Logged
new_solver cnf = record { cnf = cnf; log = [] }

-- a log is a derivation
pub log-derivation : (cnf : Cnf) (proof : List ProofLine) → Lrat cnf proof → IsFreshLog cnf proof → AreReadableLines proof → IsDerivation cnf proof
log-derivation cnf proof lrat fresh readable = record { accepted = accepted-behind cnf proof lrat; fresh = fresh; readable = readable }

-- the value of the best solution is one of the integer's
pub left-few : (s : Logged) (sought : Sought) (best : Best) → IsSeeking s sought best → left sought best + 1 ≤ values_count sought.integer.now
left-few s sought best is =
    let ordered : IsOrdered (read_by sought.view.now (valuation_of best.values)) sought.integer.now = is.ordered (valuation_of best.values) is.values.satisfies in
    let v = value_of (read_by sought.view.now (valuation_of best.values)) sought.integer.now in
    subst (λ (z : ℤ). better_left sought.direction sought.integer.now z + 1 ≤ values_count sought.integer.now) (sym is.number)
    (some-left sought.direction v (values_of sought.integer.now) (Contains-value_of (read_by sought.view.now (valuation_of best.values)) sought.integer.now ordered))

-- a search before, and one for each value that was left, are no more than one for each value
all-searches : (w c m x y : ℕ) → w + 1 ≤ c → y ≤ m → x ≤ y + w * m → x ≤ c * m
all-searches w c m x y few one most =
    let more : m * (w + 1) ≤ m * c = mul-le-mul_left m few in
    omega (arith, one, most, more)

fewer-searches : (w c m x y : ℕ) → w + 1 ≤ c → y ≤ m → x < y + w * m → x < c * m
fewer-searches w c m x y few one most =
    let more : m * (w + 1) ≤ m * c = mul-le-mul_left m few in
    omega (arith, one, most, more)

-- an integer has some value
pub some-value : (a : OrdInt) → 1 ≤ values_count a
some-value a = by a.base True a.steps
  where
    by : (low : ℤ) (x : Atom) (steps : List (Atom × ℕ)) → 1 ≤ length (map (λ (level : ℤ × Atom). level.0) (levels low x steps))
    by low x [] = omega arith
    by low x (s ∷ steps) = omega arith

-- a search for each value that is left out, and one more
paid-searches : (w c i m x y : ℕ) → w + 1 ≤ c → y ≤ m → x + i * m < y + w * m + m → x + i * m < (c + 1) * m
paid-searches w c i m x y few one most =
    let more : m * (w + 1) ≤ m * c = mul-le-mul_left m few in
    omega (arith, one, most, more)

pub progress-from : (first new : Logged) (sought : Sought) (options : SearchOptions) (best is : Best) (ended : Ended) (proof : SeekerLog)
    → IsSeeking first sought best → additions first.log ≤ most_learned options.restart first.cnf.vars → new.cnf ≡ first.cnf → additions new.log ≤ options.budget
    → IsSeeking new sought is → IsImproved first new sought options best is ended → proof.lines ≡ new.log → proof.incumbent ≡ Some is.number → Lrat new.cnf proof.lines → IsFreshLog new.cnf proof.lines → AreReadableLines proof.lines
    → IsProgress first.cnf sought options (record { proof = proof; best = is; ended = ended })
progress-from first new sought options best is ended proof seeking before cnf within sought_on improved log kept lrat fresh readable =
    let few = left-few first sought best seeking in
    let m = most_learned options.restart first.cnf.vars in
    let here : IsDerivation new.cnf proof.lines = log-derivation new.cnf proof.lines lrat fresh readable in
    let same : additions proof.lines ≡ additions new.log = ap additions log in
    record {
      derivation = subst (λ (f : Cnf). IsDerivation f proof.lines) cnf here;
      kept = kept;
      values = subst (λ (f : Cnf). AreSatisfying f is.values) cnf sought_on.values;
      number = sought_on.number;
      within = omega (arith, same, within);
      most = all-searches (left sought best) (values_count sought.integer.now) m (additions proof.lines) (additions first.log) few before (omega (arith, same, improved.most));
      shown = λ e. subst (λ (f : Cnf). IsShown (proof_behind f proof.lines) (asked_bound sought is)) cnf
          (subst (λ (l : List ProofLine). IsShown (proof_behind new.cnf l) (asked_bound sought is)) (sym log) (improved.best e));
      spent = λ e.
          let s = improved.spent e in
          (same ∙ s.0, fewer-searches (left sought best) (values_count sought.integer.now) m (additions proof.lines) (additions first.log) few before (omega (arith, same, s.1)));
      paid = λ e. paid-searches (left sought best) (values_count sought.integer.now) (left sought is) m (additions proof.lines) (additions first.log) few before (omega (arith, same, improved.paid e));
      unshown = λ e shown. improved.unshown e
          (subst (λ (l : List ProofLine). IsShown (proof_behind new.cnf l) (asked_bound sought is)) log
          (subst (λ (f : Cnf). IsShown (proof_behind f proof.lines) (asked_bound sought is)) (sym cnf) shown));
    }

-- the first round of a new solver
module _ (cnf : Cnf) (old new : Logged) (options : SearchOptions) (start : old ≡ new_solver cnf) (same : new.cnf ≡ old.cnf) where
  of-cnf : new.cnf ≡ cnf
  of-cnf = same ∙ ap (λ (s : Logged). s.cnf) start

  none-before : additions old.log ≡ 0
  none-before = ap (λ (s : Logged). additions s.log) start

  pub one-search : additions new.log ≤ additions old.log + most_learned options.restart old.cnf.vars → additions new.log ≤ most_learned options.restart new.cnf.vars
  one-search most =
      let vars : most_learned options.restart old.cnf.vars ≡ most_learned options.restart new.cnf.vars = ap (λ (f : Cnf). most_learned options.restart f.vars) (sym same) in
      omega (arith, most, none-before, vars)

  module _ (proof : List ProofLine) (log : proof ≡ new.log) (lrat : Lrat new.cnf proof) (fresh : IsFreshLog new.cnf proof) (readable : AreReadableLines proof) where
    pub first-derivation : IsDerivation cnf proof
    first-derivation = subst (λ (f : Cnf). IsDerivation f proof) of-cnf (log-derivation new.cnf proof lrat fresh readable)

    same-count : additions proof ≡ additions new.log
    same-count = ap additions log

    pub first-most : additions new.log ≤ additions old.log + most_learned options.restart old.cnf.vars → additions proof ≤ most_learned options.restart cnf.vars
    first-most most =
        let vars : most_learned options.restart old.cnf.vars ≡ most_learned options.restart cnf.vars = ap (λ (s : Logged). most_learned options.restart s.cnf.vars) start in
        omega (arith, same-count, most, none-before, vars)

    pub first-refuted : additions new.log ≤ options.budget → additions new.log ≤ additions old.log + most_learned options.restart old.cnf.vars → IsRound new False (round.Last Shown) → IsRefuted cnf options proof
    first-refuted within most shown = record {
      derivation = first-derivation;
      within = omega (arith, same-count, within);
      most = first-most most;
      shown = subst (λ (f : Cnf). IsShown (proof_behind f proof) False) of-cnf (subst (λ (l : List ProofLine). IsShown (proof_behind new.cnf l) False) (sym log) shown);
    }

    pub first-given_up : additions new.log ≡ options.budget → additions new.log < additions old.log + most_learned options.restart old.cnf.vars → IsRound new False (round.Last Spent) → IsGivenUp cnf options proof
    first-given_up spent early unshown = record {
      derivation = first-derivation;
      spent = same-count ∙ spent;
      early =
          let vars : most_learned options.restart old.cnf.vars ≡ most_learned options.restart cnf.vars = ap (λ (s : Logged). most_learned options.restart s.cnf.vars) start in
          omega (arith, same-count, early, none-before, vars);
      unshown = λ shown. unshown
          (subst (λ (l : List ProofLine). IsShown (proof_behind new.cnf l) False) log (subst (λ (f : Cnf). IsShown (proof_behind f proof) False) (sym of-cnf) shown));
    }

  pub first-satisfying : (values : List Bool) → IsRound new False (round.Better values) → AreSatisfying cnf values
  first-satisfying values found = subst (λ (f : Cnf). AreSatisfying f values) of-cnf found.0

  pub first-seeking : (sought : Sought) (values : List Bool) (best : Best) → IsSeekable cnf sought → IsRound new False (round.Better values) → best.values ≡ values
      → best.number ≡ value_of (read_by sought.view.now (valuation_of values)) sought.integer.now → IsSeeking new sought best
  first-seeking sought values best is found taken number = record {
    vars = ap (λ (f : Cnf). f.vars) of-cnf ∙ is.vars;
    labels = is.labels;
    objective = is.objective;
    ordered = λ σ h. is.ordered σ (subst (Satisfies σ) of-cnf h);
    values = subst (AreSatisfying new.cnf) (sym taken) found.0;
    number = number ∙ ap (λ (v : List Bool). value_of (read_by sought.view.now (valuation_of v)) sought.integer.now) (sym taken);
  }

-- a new solver from a solution on
pub behind-seeking : (cnf : Cnf) (s : Logged) (sought : Sought) (values : List Bool) (best : Best) → s ≡ new_solver cnf → IsSeekable cnf sought → AreSatisfying cnf values → best.values ≡ values
    → best.number ≡ value_of (read_by sought.view.now (valuation_of values)) sought.integer.now → IsSeeking s sought best
behind-seeking cnf s sought values best start is satisfying taken number = record {
  vars = ap (λ (t : Logged). t.cnf.vars) start ∙ is.vars;
  labels = is.labels;
  objective = is.objective;
  ordered = λ σ h. is.ordered σ (subst (λ (t : Logged). Satisfies σ t.cnf) start h);
  values = subst (λ (t : Logged). AreSatisfying t.cnf best.values) (sym start) (subst (AreSatisfying cnf) (sym taken) satisfying);
  number = number ∙ ap (λ (v : List Bool). value_of (read_by sought.view.now (valuation_of v)) sought.integer.now) (sym taken);
}
