-- What a round makes of a search for the best value.
use Rattle.std.proofs.Common.{None, Some, ◌≡◌, ◌⊎◌, ℕ, zero, suc, ◌+◌, ◌*◌, ◌≤◌, ◌<◌, Bool, List, length, refl, sym, ap, ◌∙◌, subst, inl, inr, ⊎_elim, ℤ, FitsSigned, w64, to_z, of_z, arith}
use Rattle.std.proofs.Math.Nat.{mul-le-mul_left}
use Rattle.std.proofs.lemmas.Int.{to_z-of_z}
use Rattle.order_ints.specs.declared.atom.Atom.{Atom}
use Rattle.order_ints.specs.declared.atom.Atom.TheVariants.{True}
use Rattle.order_ints.specs.declared.cnf.Cnf.{Cnf}
use Rattle.order_ints.specs.declared.order_int.OrdInt.{OrdInt}
use Rattle.order_ints.specs.OrderLevels.{at_of}
use Rattle.order_ints.specs.OrderRange.{IntBelow}
use Rattle.order_ints.specs.OrderValue.{value_of, IsOrdered}
use Rattle.order_ints.specs.Place.{AtomBelow}
use Rattle.order_ints.specs.Satisfies.{Satisfies}
use Rattle.order_ints.specs.Truth.{valuation_of}
use Rattle.order_ints.specs.View.{resolve}
use Rattle.order_ints.proofs.PlaceLaws.{AtomBelow-not_atom, AtomBelow-resolve}
use Rattle.order_ints.proofs.Reaching.{AtomBelow-at_of}
use Rattle.state_compile.specs.StandsFor.{read_by}
use Rattle.model_decode.proofs.Ranges.{value-fits}
use Rattle.learning_solver.specs.Log.{additions, proof_behind}
use Rattle.learning_solver.specs.Outcome.{Logged, most_learned}
use Rattle.std.specs.Prelude.{pos, ◌+ℤ◌}
use Rattle.answer_document.specs.Valid.{IsShown}
use Rattle.decode_minimize.specs.declared.objective.Direction.{Direction}
use Rattle.decode_minimize.specs.declared.objective.Direction.TheVariants.{Least, Greatest}
use Rattle.search_options.specs.declared.options.SearchOptions.{SearchOptions}
use Rattle.decode_minimize.specs.declared.improving.Sought.{Sought}
use Rattle.decode_minimize.specs.declared.improving.Best.{Best}
use Rattle.decode_minimize.specs.declared.asking.Ended.{Ended}
use Rattle.decode_minimize.specs.declared.asking.Ended.TheVariants.{Shown, Spent}
use Rattle.decode_minimize.specs.declared.asking.Round.TheVariants as round
use Rattle.decode_minimize.specs.Objectives.{better_left, bound_of}
use Rattle.decode_minimize.specs.Rounds.{AreSatisfying, IsRound}
use Rattle.decode_minimize.specs.Seeking.{IsSeeking, IsTurned, IsImproved, left}
use Rattle.decode_minimize.proofs.Better.{none-left, fewer-left}

bound-below : (n : ℕ) (d : Direction) (a : OrdInt) (m : ℤ) → IntBelow n a → AtomBelow n (bound_of d a m)
bound-below n Least a m h = AtomBelow-at_of n a m h
bound-below n Greatest a m h = AtomBelow-not_atom n (at_of a (m +ℤ pos 1)) (AtomBelow-at_of n a (m +ℤ pos 1) h)

abbrev pub asked_bound : Sought → Best → Atom
asked_bound sought best = resolve sought.view.now (bound_of sought.direction sought.integer.now best.number)

-- the bound is an atom of the solver
pub asked-below : (s : Logged) (sought : Sought) (best : Best) → IsSeeking s sought best → AtomBelow (s.cnf.vars + 1) (asked_bound sought best)
asked-below s sought best is =
    let n = length sought.view.now + 1 in
    let here = AtomBelow-resolve n sought.view.now is.labels (bound_of sought.direction sought.integer.now best.number) (bound-below n sought.direction sought.integer.now best.number is.objective.below) in
    subst (λ (v : ℕ). AtomBelow (v + 1) (asked_bound sought best)) (sym is.vars) here

-- the value of the best solution has 64 bits, so the bound at its bits is the bound at it
pub number-fits : (s : Logged) (sought : Sought) (best : Best) → IsSeeking s sought best → FitsSigned w64 best.number
number-fits s sought best is =
    subst (FitsSigned w64) (sym is.number) (value-fits (read_by sought.view.now (valuation_of best.values)) sought.integer.now is.objective.least is.objective.greatest)

pub asked-is : (s : Logged) (sought : Sought) (best : Best) → IsSeeking s sought best → (bound resolved : Atom) → bound ≡ bound_of sought.direction sought.integer.now (to_z w64 (of_z w64 best.number))
    → resolved ≡ resolve sought.view.now bound → resolved ≡ asked_bound sought best
asked-is s sought best is bound resolved e f =
    f ∙ ap (resolve sought.view.now) (e ∙ ap (bound_of sought.direction sought.integer.now) (to_z-of_z w64 best.number (number-fits s sought best is)))

-- a search for each value that was left out
one-less : (i w m x y : ℕ) → i < w → x ≤ y + m → x + i * m ≤ y + w * m
one-less i w m x y less most =
    let more : m * (i + 1) ≤ m * w = mul-le-mul_left m (omega arith) in
    omega (arith, most, more)

at-least-one : (w m x y : ℕ) → 1 ≤ w → x ≤ y + m → x ≤ y + w * m
at-least-one w m x y some most =
    let more : m * 1 ≤ m * w = mul-le-mul_left m some in
    omega (arith, most, more)

fewer-than-one : (w m x y : ℕ) → 1 ≤ w → x < y + m → x < y + w * m
fewer-than-one w m x y some most =
    let more : m * 1 ≤ m * w = mul-le-mul_left m some in
    omega (arith, most, more)

some-or-none : (n : ℕ) → (n ≡ 0) ⊎ (1 ≤ n)
some-or-none zero = inl refl
some-or-none (suc n) = inr (omega arith)

-- what the solver seeks stays where its log grows
pub seeking-on : (old new : Logged) (sought : Sought) (best : Best) → IsSeeking old sought best → new.cnf ≡ old.cnf → IsSeeking new sought best
seeking-on old new sought best is cnf = record {
  vars = ap (λ (f : Cnf). f.vars) cnf ∙ is.vars;
  labels = is.labels;
  objective = is.objective;
  ordered = λ σ h. is.ordered σ (subst (Satisfies σ) cnf h);
  values = subst (λ (f : Cnf). AreSatisfying f best.values) (sym cnf) is.values;
  number = is.number;
}

module _ (old new : Logged) (sought : Sought) (options : SearchOptions) (was : Best) (seeking : IsSeeking old sought was) (cnf : new.cnf ≡ old.cnf) where
  abbrev search_most : ℕ
  search_most = most_learned options.restart old.cnf.vars

  left-none : left sought was ≡ 0 → asked_bound sought was ≡ True
  left-none e = ap (resolve sought.view.now) (none-left sought.direction sought.integer.now was.number e)

  -- a better solution was found
  module _ (values : List Bool) (is : Best) (same : is.values ≡ values) (number : is.number ≡ value_of (read_by sought.view.now (valuation_of values)) sought.integer.now)
      (found : IsRound new (asked_bound sought was) (round.Better values)) where
    pub better-seeking : IsSeeking new sought is
    better-seeking = record {
      vars = ap (λ (f : Cnf). f.vars) cnf ∙ seeking.vars;
      labels = seeking.labels;
      objective = seeking.objective;
      ordered = λ σ h. seeking.ordered σ (subst (Satisfies σ) cnf h);
      values = subst (λ (v : List Bool). AreSatisfying new.cnf v) (sym same) found.0;
      number = number ∙ ap (λ (v : List Bool). value_of (read_by sought.view.now (valuation_of v)) sought.integer.now) (sym same);
    }

    better-less : left sought is < left sought was
    better-less =
        let ordered : IsOrdered (read_by sought.view.now (valuation_of values)) sought.integer.now = seeking.ordered (valuation_of values) (subst (Satisfies (valuation_of values)) cnf found.0.satisfies) in
        subst (λ (v : ℤ). better_left sought.direction sought.integer.now v < left sought was) (sym number)
        (fewer-left sought.direction sought.integer.now was.number sought.view.now (valuation_of values) ordered found.1)

    pub better-turned : additions new.log ≤ additions old.log + search_most → IsTurned old new sought options was is None
    better-turned most = (better-less, one-less (left sought is) (left sought was) search_most (additions new.log) (additions old.log) better-less most)

  -- there is none
  shown-turned : additions new.log ≤ additions old.log + search_most → (asked_bound sought was ≡ True → additions new.log ≡ additions old.log) → IsRound new (asked_bound sought was) (round.Last Shown)
      → IsTurned old new sought options was was (Some Shown)
  shown-turned most unasked shown = (
    shown,
    ⊎_elim
        (λ (none : left sought was ≡ 0). let same = unasked (left-none none) in omega (arith, same))
        (λ (some : 1 ≤ left sought was). at-least-one (left sought was) search_most (additions new.log) (additions old.log) some most)
        (some-or-none (left sought was)),
    refl,
  )

  -- the budget is spent
  spent-turned : additions new.log ≡ options.budget → additions new.log < additions old.log + search_most → IsRound new (asked_bound sought was) (round.Last Spent)
      → IsTurned old new sought options was was (Some Spent)
  spent-turned spent early unshown = (
    spent,
    ⊎_elim
        (λ (none : left sought was ≡ 0). absurd (unshown (subst (IsShown (proof_behind new.cnf new.log)) (sym (left-none none)) tt)))
        (λ (some : 1 ≤ left sought was). some)
        (some-or-none (left sought was)),
    early,
    unshown,
    refl,
  )

  -- none was found
  pub ended-turned : (ended : Ended) → additions new.log ≤ additions old.log + search_most → (asked_bound sought was ≡ True → additions new.log ≡ additions old.log)
      → (ended ≡ Spent → additions new.log ≡ options.budget) → (ended ≡ Spent → additions new.log < additions old.log + search_most) → IsRound new (asked_bound sought was) (round.Last ended)
      → IsTurned old new sought options was was (Some ended)
  ended-turned Shown most unasked spent early shown = shown-turned most unasked shown
  ended-turned Spent most unasked spent early unshown = spent-turned (spent refl) (early refl) unshown

-- one turn after another
module _ (first old new : Logged) (sought : Sought) (options : SearchOptions) (start was is : Best) (one : old.cnf ≡ first.cnf)
    (so_far : additions old.log + left sought was * most_learned options.restart first.cnf.vars ≤ additions first.log + left sought start * most_learned options.restart first.cnf.vars)
    (fewer : left sought was ≤ left sought start) where
  same-most : most_learned options.restart old.cnf.vars ≡ most_learned options.restart first.cnf.vars
  same-most = ap (λ (f : Cnf). most_learned options.restart f.vars) one

  pub next-turn : IsTurned old new sought options was is None
      → additions new.log + left sought is * most_learned options.restart first.cnf.vars ≤ additions first.log + left sought start * most_learned options.restart first.cnf.vars
  next-turn t =
      let here = subst (λ (m : ℕ). additions new.log + left sought is * m ≤ additions old.log + left sought was * m) same-most t.1 in
      omega (arith, here, so_far)

  pub last-turn : (ended : Ended) → IsTurned old new sought options was is (Some ended) → IsImproved first new sought options start is ended
  last-turn Shown t =
      let here = subst (λ (m : ℕ). additions new.log ≤ additions old.log + left sought was * m) same-most t.1 in
      let same : left sought is ≡ left sought was = ap (left sought) t.2 in
      record {
        best = λ e. t.0;
        most = omega (arith, here, so_far);
        spent = λ e. absurd cc;
        no_worse = omega (arith, same, fewer);
        paid = λ e. absurd cc;
        unshown = λ e. absurd cc;
      }
  last-turn Spent t =
      let m = most_learned options.restart first.cnf.vars in
      let here = subst (λ (m : ℕ). additions new.log < additions old.log + m) same-most t.2 in
      let all = fewer-than-one (left sought was) m (additions new.log) (additions old.log) t.1 here in
      let same : left sought is ≡ left sought was = ap (left sought) t.4 in
      let left_over : left sought is * m ≡ left sought was * m = ap (λ (k : ℕ). k * m) same in
      record {
        best = λ e. absurd cc;
        most = omega (arith, all, so_far);
        spent = λ e. (t.0, omega (arith, all, so_far));
        no_worse = omega (arith, same, fewer);
        paid = λ e. omega (arith, here, so_far, left_over);
        unshown = λ e. t.3;
      }
