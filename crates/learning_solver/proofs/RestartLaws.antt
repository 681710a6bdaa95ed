-- How many clauses a call may learn, as it goes on.
use Rattle.std.proofs.Common.{◌≡◌, ℕ, suc, ◌+◌, ◌-◌, ◌*◌, ◌≤◌, ◌<◌, ◌^◌, Bool, true, false, refl, ap, sym, ◌∙◌, subst, arith, ⊎_elim}
use Rattle.std.proofs.lemmas.Bool.{cases_eq}
use Rattle.search_laws.specs.Luby.{stretch_length}
use Rattle.search_laws.specs.Stretches.{stretches_total}
use Rattle.search_laws.proofs.StretchLaws.{stretches_fit, total-grows}
use Rattle.search_laws.proofs.LubyLaws.{luby-some}
use Rattle.learning_solver.specs.declared.restarts.Restarts.{Restarts}
use Rattle.learning_solver.specs.Restarting.{AreStretched, Counts, IsInTime}
use Rattle.learning_solver.specs.Outcome.{most_learned}

-- at the start of a call
pub stretched-start : (vars added height : ℕ) (restart : Bool) → height < 2 ^ vars → AreStretched vars added height (record { start = added; restart = restart; stretches = 0; learned = 0 })
stretched-start vars added height restart low = record {
  sum = omega arith;
  short = λ k some none. absurd (omega arith);
  room = omega arith;
  none = λ e. refl;
  due = λ e. omega (arith, luby-some 1 (omega arith));
}

-- the trail's number falls or stays
pub stretched-lower : (vars added height lower : ℕ) (p : Restarts) → AreStretched vars added height p → lower ≤ height → AreStretched vars added lower p
stretched-lower vars added height lower p is low = record {
  sum = is.sum;
  short = is.short;
  room = omega (arith, is.room, low);
  none = is.none;
  due = is.due;
}

-- one more clause is within the bound
pub one-more : (vars added height : ℕ) (p : Restarts) → AreStretched vars added height p → added < p.start + most_learned p.restart vars
one-more vars added height p is = by-restart p.restart refl
  where
    by-restart : (b : Bool) → p.restart ≡ b → added < p.start + most_learned b vars
    by-restart true e = omega (arith, is.sum, is.room, stretches_fit vars p.stretches is.short)
    by-restart false e = let none = ap stretches_total (is.none e) in omega (arith, is.sum, is.room, none)

-- stretches are few
pub few-stretches : (vars added height : ℕ) (p : Restarts) → AreStretched vars added height p → added < 2 ^ 64 → p.stretches < 2 ^ 58
few-stretches vars added height p is low = omega (arith, is.sum, total-grows p.stretches, low)

-- a clause is learned, and the trail's number falls
pub stretched-learned : (vars added height lower : ℕ) (old new : Restarts) → AreStretched vars added height old → Counts old new false → lower < height → AreStretched vars (added + 1) lower new
stretched-learned vars added height lower old new is counts falls =
    let P : Restarts → Type 0 = AreStretched vars (added + 1) lower in
    subst P (sym counts.0)
    (record {
      sum = omega (arith, is.sum);
      short = is.short;
      room = omega (arith, is.room, falls);
      none = is.none;
      due = counts.1;
    })

-- and ends its stretch
pub stretched-anew : (vars added height lower any : ℕ) (old new : Restarts) → AreStretched vars added height old → Counts old new true → lower < height → any < 2 ^ vars → AreStretched vars (added + 1) any new
stretched-anew vars added height lower any old new is counts falls low =
    let P : Restarts → Type 0 = AreStretched vars (added + 1) any in
    let next : suc old.stretches ≡ old.stretches + 1 = omega arith in
    let length-is : stretch_length (old.stretches + 1) ≡ old.learned + 1 = omega (arith, is.due counts.1, counts.2) in
    let total : stretches_total (old.stretches + 1) ≡ stretches_total old.stretches + stretch_length (old.stretches + 1)
    = sym (ap stretches_total next) ∙ ap (λ (n : ℕ). stretches_total old.stretches + stretch_length n) next in
    subst P (sym counts.0)
    (record {
      sum = omega (arith, is.sum, total, length-is);
      short = λ k some few.
          ⊎_elim
          (λ (last : k ≡ old.stretches + 1). omega (arith, ap stretch_length last, length-is, is.room, falls))
          (λ (before : k ≡ old.stretches + 1 → ⊥). is.short k some (omega (arith, few, before)))
          (cases_eq k (old.stretches + 1));
      room = omega (arith, low);
      none = λ e. let both : false ≡ true = sym e ∙ counts.1 in cc;
      due = λ e. omega (arith, luby-some (old.stretches + 1 + 1) (omega arith));
    })

-- a turn that ends no stretch, and one that does
pub same-in-time : (level : ℕ) (p : Restarts) → IsInTime p p level
same-in-time level p more = absurd (omega (arith, more))

pub learned-in-time : (level : ℕ) (old new : Restarts) → Counts old new false → IsInTime old new level
learned-in-time level old new counts more =
    let same : new.stretches ≡ old.stretches = ap (λ (p : Restarts). p.stretches) counts.0 in
    absurd (omega (arith, more, same))

pub anew-in-time : (vars added height level : ℕ) (old new : Restarts) → AreStretched vars added height old → Counts old new true → level ≡ 0 → IsInTime old new level
anew-in-time vars added height level old new is counts bottom more = record { length = omega (arith, is.due counts.1, counts.2); bottom = bottom }

-- what is left to do is less after a clause, whatever the trail
pub less-learned : (budget added vars before after : ℕ) → added < budget → (budget - (added + 1)) * (vars + 1) + (vars - after) < (budget - added) * (vars + 1) + (vars - before)
less-learned budget added vars before after low =
    let n = budget - (added + 1) in
    let e : budget - added ≡ n + 1 = omega arith in
    let product = ap (λ (k : ℕ). k * (vars + 1)) e in
    omega (arith, product)

-- and after a literal more
pub less-assigned : (budget added vars before after : ℕ) → before < after → after ≤ vars → (budget - added) * (vars + 1) + (vars - after) < (budget - added) * (vars + 1) + (vars - before)
less-assigned budget added vars before after more fits = omega arith
