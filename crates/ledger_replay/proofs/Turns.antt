-- Equations of a run that are due at a core, one after another.
use Rattle.std.proofs.Common.{◌≡◌, ◌≢◌, ℕ, ◌+◌, ◌<◌, Bool, true, false, ◌||◌, List, [], ◌∷◌, length, drop, get_or, refl, sym, ap, ◌∙◌, subst, arith, Option, Some, None, Result, Ok, Err}
use Rattle.std.specs.Prelude.{IfOk}
use Rattle.std.proofs.lemmas.Bool.{false≢true}
use Rattle.std.proofs.lemmas.List.{drop_all, get_or_default}
use Rattle.order_ints.specs.declared.atom.Atom.{Atom}
use Rattle.order_ints.specs.Place.{AtomBelow}
use Rattle.order_ints.specs.Label.{IsLabel}
use Rattle.core_forms.specs.declared.equation.Equation.{Equation}
use Rattle.core_forms.specs.declared.form.Core.{Core}
use Rattle.core_forms.specs.Place.{CoreBelow}
use Rattle.core_forms.specs.Trimmed.{trimmed_core}
use Rattle.equation_runs.specs.Turns.{resolved_equation, IsMade, AreInTurn, AreToldInTurn, made_equation, EquationsBelow, is_stated}
use Rattle.equi_rules.specs.Instances.{is_instance_of as is_equi_instance}
use Rattle.arith_rules.specs.Instances.{is_instance_of as is_arith_instance}
use Rattle.alldiff_rules.specs.Instances.{is_instance_of as is_alldiff_instance}
use Rattle.table_rules.specs.Instances.{is_instance_of as is_table_instance}
use Rattle.core_rules.specs.Instances.{is_instance_at}
use Rattle.core_forms.specs.declared.edges.Edge.{Edge}
use Rattle.step_kernel.specs.Kernel.{Kernel, core_at, trimmed_at, IsKernel}
use Rattle.step_kernel.specs.Settled.{IsSettled}
use Rattle.step_kernel.specs.Steps.{equated}
use Rattle.step_kernel.proofs.SettledStates.{lent}
use Rattle.step_kernel.proofs.There.{there-below, there-labels}
use Rattle.fixpoint_queue.proofs.Behind.{turn-begins, turn-made, turn-equated}
use Rattle.fixpoint_queue.proofs.Runs.{same-vars, there-later, there-asked, told-of, next-turn, first-told, below-next, unless-bottom}
use Rattle.ledger_replay.specs.declared.run.Run.{Run}
use Rattle.ledger_replay.specs.Due.{AreDue, IsRunAt, IsNext}

-- what is told of a core in turn
abbrev told : Core → Equation → Type 0
told c e = is_stated c e ≡ true

-- it is an instance of a rule
told-instance : (core : Core) (e : Equation) → told core e → is_instance_at core e ≡ true
told-instance core e h = by (is_equi_instance core e) (is_arith_instance core e) (is_alldiff_instance core e) (is_table_instance core e) h
  where
    by : (a b c d : Bool) → (a || (b || c)) ≡ true → (a || (b || (c || d))) ≡ true
    by true b c d h = refl
    by false true c d h = refl
    by false false true d h = refl
    by false false false d h = absurd (false≢true h)

module _ (k : Kernel) (is : IsKernel k) (id : ℕ) where
  -- a run that was just made is due
  pub due_whole : (core : Core) (run : List Equation) → k.bottom ≡ false → trimmed_at k id ≡ Some core → AreToldInTurn (λ c e. is_stated c e ≡ true) core run
      → EquationsBelow (length k.view + 1) run → AreDue k id run
  due_whole core run running there turns places = record {
    running = running;
    core = core;
    there = there-asked k is id core there;
    below = there-below k id core is there;
    turn = turn-begins told k is id core there run turns;
    places = places;
  }

  -- and so is one that a call made
  pub due_made : {V E : Type 0} (items : V → List Equation) (core : Core) → k.bottom ≡ false → trimmed_at k id ≡ Some core → (r : Result V E)
      → IfOk r (λ run. AreToldInTurn (λ c e. is_stated c e ≡ true) core (items run)) → ((n : ℕ) → CoreBelow n core → IfOk r (λ run. EquationsBelow n (items run)))
      → IfOk r (λ run. AreDue k id (items run))
  due_made items core running there (Ok run) turns below = due_whole core (items run) running there turns (below (length k.view + 1) (there-below k id core is there))
  due_made items core running there (Err e) turns below = tt

  module _ (run : List Equation) (i : ℕ) (low : i < length run) (due : AreDue k id (drop i run)) where
    abbrev next : Equation
    next = get_or run i made_equation

    in-turn : AreInTurn told due.core k.view (next ∷ drop (i + 1) run)
    in-turn = next-turn told due.core k.view run i low due.turn

    below : (AtomBelow (length k.view + 1) next.a × AtomBelow (length k.view + 1) next.b) × EquationsBelow (length k.view + 1) (drop (i + 1) run)
    below = below-next (length k.view + 1) run i low due.places

    -- what is behind an equation that is made is due
    made-behind : IsMade k.view next → AreDue k id (drop (i + 1) run)
    made-behind made = record {
      running = due.running;
      core = due.core;
      there = due.there;
      below = due.below;
      turn = turn-made told due.core next (drop (i + 1) run) k.view due.below below.0.0 below.0.1 made in-turn;
      places = below.1;
    }

    module _ (other : IsMade k.view next → ⊥) where
      abbrev core : Core
      core = trimmed_core k.view due.core

      abbrev e : Equation
      e = resolved_equation k.view next

      instance : is_instance_at core e ≡ true
      instance = told-instance core e (told-of told due.core k.view next (first-told told due.core k.view next (drop (i + 1) run) in-turn) other)

      labels : IsLabel k.view e.a × IsLabel k.view e.b
      labels = there-labels k id core is due.there e instance

      same : length (equated k e).view ≡ length k.view
      same = same-vars k is e labels

      behind : (equated k e).bottom ≡ false → AreDue (equated k e) id (drop (i + 1) run)
      behind running = record {
        running = running;
        core = due.core;
        there = there-later k is id due.core due.below due.there e labels;
        below = subst (λ (n : ℕ). CoreBelow (n + 1) due.core) (sym same) due.below;
        turn = unless-bottom (equated k e).bottom running (turn-equated told due.core next (drop (i + 1) run) k is due.below below.0.0 below.0.1 other (equated k e) refl same in-turn);
        places = subst (λ (n : ℕ). EquationsBelow (n + 1) (drop (i + 1) run)) (sym same) below.1;
      }

      resolved-next : IsNext k id e (drop (i + 1) run)
      resolved-next = record { running = due.running; instance = (core, due.there, instance); behind = behind }

    -- the equation itself, as the store has it, is an instance, and what is behind it is due once it is made
    given-next : (e : Equation) → e ≡ resolved_equation k.view next → (e.a ≡ e.b → ⊥) → IsNext k id e (drop (i + 1) run)
    given-next e is_e apart =
        subst (λ (f : Equation). IsNext k id f (drop (i + 1) run)) (sym is_e)
        (resolved-next (λ made. apart (ap (λ (f : Equation). f.a) is_e ∙ made ∙ sym (ap (λ (f : Equation). f.b) is_e))))

  -- the same, of what a call reads
  pub due_behind : (run : List Equation) (i : ℕ) (default : Equation) (view : List Atom) → i < length run → AreDue k id (drop i run) → view ≡ k.view
      → IsMade view (get_or run i default) → AreDue k id (drop (i + 1) run)
  due_behind run i default view low due same made =
      made-behind run i low due (subst (λ (f : Equation). IsMade k.view f) (get_or_default run i default made_equation low) (subst (λ (v : List Atom). IsMade v (get_or run i default)) same made))

  pub next_due : (run : List Equation) (i : ℕ) (default : Equation) (view : List Atom) (e : Equation) → i < length run → AreDue k id (drop i run) → view ≡ k.view
      → e ≡ resolved_equation view (get_or run i default) → (e.a ≡ e.b → ⊥) → IsNext k id e (drop (i + 1) run)
  next_due run i default view e low due same is_e apart =
      given-next run i low due e
      (is_e ∙ ap (λ (v : List Atom). resolved_equation v (get_or run i default)) same ∙ ap (resolved_equation k.view) (get_or_default run i default made_equation low)) apart

  -- nothing is due behind the last one
  pub due_none : (run es : List Equation) → AreDue k id es → AreDue k id (drop (length run) run)
  due_none run es due = subst (AreDue k id) (sym (drop_all (length run) run (omega arith))) nothing
    where
      nothing : AreDue k id []
      nothing = record { running = due.running; core = due.core; there = due.there; below = due.below; turn = record { done = due.turn.done; behind = due.turn.behind; places = due.turn.places; told_behind = tt }; places = tt }

-- a run goes on where an equation of it was made, but for a contradiction
pub run_after : (k new : Kernel) (id : ℕ) (e : Equation) (run : Run) → IsNext k id e (drop run.place run.equations.items) → run.id ≡ id → new ≡ equated k e → new.bottom ≡ false
    → IsRunAt new run
run_after k new id e run next named is running =
    subst (λ (n : Kernel). IsRunAt n run) (sym is) (subst (λ (n : ℕ). AreDue (equated k e) n (drop run.place run.equations.items)) (sym named) (next.behind (sym (ap (λ (n : Kernel). n.bottom) is) ∙ running)))

-- a run of a core whose edge is settled is due before that
pub due_settled : {V E : Type 0} (items : V → List Equation) (now : Kernel) (id : ℕ) (core : Core) → core_at now.cores id ≡ Some core → (r : Result V E)
    → IfOk r (λ run. AreToldInTurn (λ c e. is_stated c e ≡ true) core (items run)) → ((n : ℕ) → CoreBelow n core → IfOk r (λ run. EquationsBelow n (items run)))
    → IfOk r (λ run. (k : Kernel) (edge : Edge) → IsKernel k → IsSettled k now id edge → k.bottom ≡ false → AreDue k id (items run))
due_settled items now id c at (Ok run) turns inside = λ k edge is settled running.
    let there = lent now id c at k edge settled in
    due_whole k is id c (items run) running there turns (inside (length k.view + 1) (there-below k id c is there))
due_settled items now id c at (Err e) turns inside = tt

pub not-some : {A : Type 0} (o : Option A) → ((x : A) → o ≢ Some x) → o ≡ None
not-some None h = refl
not-some (Some x) h = absurd (h x refl)
