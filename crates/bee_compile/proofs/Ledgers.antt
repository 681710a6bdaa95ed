-- The lines of a compilation are over its variables, and their ids are among those of its cores.
use Rattle.std.proofs.Common.{◌≡◌, ℕ, ◌+◌, ◌-◌, ◌≤◌, ◌<◌, ◌^◌, Bool, true, false, List, [], ◌∷◌, map, length, length-append, Option, Some, None, Result, Ok, Err, refl, subst, arith, ap}
use Rattle.std.specs.Prelude.{if◌then◌else◌}
use Rattle.std.proofs.lemmas.List.{length-set}
use Rattle.order_ints.specs.Place.{AtomBelow}
use Rattle.order_ints.specs.Same.{same_atom}
use Rattle.order_ints.specs.Truth.{not_atom}
use Rattle.order_ints.proofs.Labels.{AtomBelow-label}
use Rattle.order_ints.proofs.PlaceLaws.{AtomBelow-up}
use Rattle.equation_store.specs.Merge.{merged}
use Rattle.core_forms.specs.declared.equation.Equation.{Equation}
use Rattle.core_forms.specs.declared.form.Core.{Core}
use Rattle.core_forms.specs.Trimmed.{trimmed_core}
use Rattle.ledger_text.specs.declared.line.Line.{Line}
use Rattle.ledger_text.specs.declared.line.Line.TheVariants.{Equate, Split, Encode}
use Rattle.ledger_text.specs.Steps.{LineBelow, LedgerBelow}
use Rattle.step_kernel.specs.declared.fault.StepFault.{StepFault}
use Rattle.step_kernel.specs.declared.fault.StepFault.TheVariants.{AfterBottom, NotInstance}
use Rattle.step_kernel.specs.Kernel.{Kernel, IsKernel, trimmed_at}
use Rattle.core_rules.specs.Instances.{is_instance_at}
use Rattle.core_parts.specs.Parts.{parts_at}
use Rattle.step_kernel.specs.Steps.{without, equated, unless_fault, step_at, step}
use Rattle.step_kernel.proofs.Stepped.{after_step, err_ok}
use Rattle.step_kernel.proofs.There.{there-labels}
use Rattle.step_kernel.proofs.StepLaws.{step-kept}
use Rattle.step_kernel.proofs.Splits.{at-bounds}
use Rattle.state_compile.specs.Compilation.{IsDue, LeadsInOrder}
use Rattle.state_compile.proofs.Found.{compound-there, basic-there}

-- No step makes the ids fewer.

equated-cores : (k : Kernel) (e : Equation) → (equated k e).cores ≡ k.cores
equated-cores k e = by (same_atom e.a (not_atom e.b))
  where
    by : (b : Bool) → (if b then record k { bottom = true } else record k { view = merged k.view e.a e.b }).cores ≡ k.cores
    by true = refl
    by false = refl

cores-longer : (k new : Kernel) (line : Line) → step k line ≡ Ok new → length k.cores ≤ length new.cores
cores-longer k new line made =
    after_step k (λ (n : Kernel). length k.cores ≤ length n.cores)
    (λ running id e core at instance. omega (arith, ap length (equated-cores k e)))
    (λ running id core at compound.
    let made : List (Option Core) = map Some (parts_at (length k.view + 1) (trimmed_core k.view core)).cores in
    omega (arith, length-set k.cores (id - 1) None, length-append (without k.cores id) made))
    (λ running id core at basic. omega (arith, length-set k.cores (id - 1) None))
    line new made

-- an equation of which a step was made is an instance at its core
stepped-instance : (k new : Kernel) (id : ℕ) (e : Equation) (core : Core) → trimmed_at k id ≡ Some core → step k (Equate id e) ≡ Ok new → is_instance_at core e ≡ true
stepped-instance k new id e core there made = by k.bottom made
  where
    at : (t : Bool) → unless_fault (if t then None else Some NotInstance) (equated k e) ≡ Ok new → t ≡ true
    at true h = refl
    at false h = absurd (err_ok NotInstance new h)

    by : (b : Bool) → ◌≡◌ {A = Result Kernel StepFault} (if b then Err AfterBottom else step_at k (Equate id e) (trimmed_at k id)) (Ok new) → is_instance_at core e ≡ true
    by true h = absurd (err_ok AfterBottom new h)
    by false h = at (is_instance_at core e) (subst (λ (o : Option Core). step_at k (Equate id e) o ≡ Ok new) there h)

-- so its atoms are labels
equation-below : (k new : Kernel) → IsKernel k → (id : ℕ) (e : Equation) (core : Core) → trimmed_at k id ≡ Some core → step k (Equate id e) ≡ Ok new
    → AtomBelow (length k.view + 1) e.a × AtomBelow (length k.view + 1) e.b
equation-below k new is id e core there made =
    let labels = there-labels k id core is there e (stepped-instance k new id e core there made) in
    (AtomBelow-label k.view e.a labels.0, AtomBelow-label k.view e.b labels.1)

module _ (told : Core → Equation → Type 0) where
  line-below : (k new : Kernel) (line : Line) → IsKernel k → length k.cores < 2 ^ 64 → step k line ≡ Ok new → IsDue told k line → LineBelow (length k.view + 1) line
  line-below k new (Equate id e) is few made due =
      let there = at-bounds k id due.0 due.1 in
      let below = equation-below k new is id e due.0 due.1 made in
      (omega (arith, there, few), below.0, below.1)
  line-below k new (Split id) is few made due =
      let c = compound-there k id due.1 in
      omega (arith, at-bounds k id c.core c.there, few)
  line-below k new (Encode id) is few made due =
      let c = basic-there k id due.1 due.2 in
      omega (arith, at-bounds k id c.0 c.1, few)

  line-up : (n m : ℕ) (line : Line) → n ≤ m → LineBelow n line → LineBelow m line
  line-up n m (Equate id e) up h = (h.0, AtomBelow-up n m up e.a h.1, AtomBelow-up n m up e.b h.2)
  line-up n m (Split id) up h = h
  line-up n m (Encode id) up h = h

  ids-longer : (k last : Kernel) (lines : List Line) → LeadsInOrder told k lines last → length k.cores ≤ length last.cores
  ids-longer k last [] e = omega (arith, ap (λ (k : Kernel). length k.cores) e)
  ids-longer k last (line ∷ lines) l = omega (arith, cores-longer k l.0 line l.1, ids-longer l.0 last lines l.3)

  vars-longer : (k last : Kernel) (lines : List Line) → IsKernel k → LeadsInOrder told k lines last → length k.view ≤ length last.view
  vars-longer k last [] is e = omega (arith, ap (λ (k : Kernel). length k.view) e)
  vars-longer k last (line ∷ lines) is l =
      let first = step-kept k l.0 line is l.1 in
      omega (arith, first.longer, vars-longer l.0 last lines first.kernel l.3)

  -- each line is over the last variables
  pub ledger-below : (k last : Kernel) (lines : List Line) → IsKernel k → LeadsInOrder told k lines last → length last.cores < 2 ^ 64 → LedgerBelow (length last.view + 1) lines
  ledger-below k last [] is e few = tt
  ledger-below k last (line ∷ lines) is l few =
      let first = step-kept k l.0 line is l.1 in
      let ids = ids-longer k last (line ∷ lines) l in
      let vars = vars-longer k last (line ∷ lines) is l in (
        line-up (length k.view + 1) (length last.view + 1) line (omega (arith, vars)) (line-below k l.0 line is (omega (arith, ids, few)) l.1 l.2),
        ledger-below l.0 last lines first.kernel l.3 few,
      )
