-- Queries, turn by turn.
use Rattle.std.proofs.Common.{◌≡◌, ℕ, ◌+◌, ◌*◌, ◌≤◌, List, [], ◌∷◌, ◌++◌, length, refl, ap, sym, subst, arith, Ok}
use Rattle.core_forms.specs.declared.equation.Equation.{Equation}
use Rattle.core_forms.specs.declared.form.Core.{Core}
use Rattle.ledger_text.specs.declared.line.Line.{Line}
use Rattle.ledger_text.specs.declared.line.Line.TheVariants.{Split}
use Rattle.step_kernel.specs.Kernel.{Kernel, pending, IsKernel}
use Rattle.step_kernel.specs.Steps.{step}
use Rattle.fixpoint_queue.specs.Ledgers.{Adds, AddsEquations}
use Rattle.fixpoint_queue.specs.Pairs.{IsCounted}
use Rattle.asking_bound.specs.Questions.{most_questions, IsAsked}
use Rattle.asking_bound.proofs.Asked.{asked-none, asked-equations, asked-split, asked-then, asked-whole, leads-replay}
use Rattle.state_compile.specs.Compilation.{AddsInOrder, IsCompilation}
use Rattle.state_compile.proofs.InOrder.{order-leads}

module _ (told : Core → Equation → Type 0) where
  adds-led : (before behind : List Line) (old new : Kernel) → AddsInOrder told before old behind new → Adds told before old behind new
  adds-led before behind old new h = record { added = h.added; is = h.is; leads = order-leads told old new h.added h.leads }

  -- one turn behind others
  pub asked-more : (start mid new : Kernel) (before behind last : List Line) (queued counter now later left rest : ℕ) → AddsInOrder told before start behind mid → AddsInOrder told behind mid last new
      → IsAsked start before behind queued counter now left → IsAsked mid behind last left now later rest → IsAsked start before last queued counter later rest
  asked-more start mid new before behind last queued counter now later left rest first next one two =
      asked-then told start mid new before behind last queued counter now left later rest (adds-led before behind start mid first) (adds-led behind last mid new next) one two

  -- a split where no core is queued, and the equations behind it
  pub split-asked : (old mid new : Kernel) (id : ℕ) (before behind last : List Line) (none queued : List ℕ) (counter now : ℕ) → none ≡ [] → step old (Split id) ≡ Ok mid → behind ≡ before ++ Split id ∷ []
      → length queued + length old.cores ≤ length none + length mid.cores → AddsEquations told behind mid last new → IsCounted mid behind last (length queued) counter now 0 → IsAsked old before last 0 counter now 0
  split-asked old mid new id before behind last none queued counter now empty made is grows equations counted =
      asked-then told old mid new before behind last 0 counter counter (length queued) now 0
      (record { added = Split id ∷ []; is = is; leads = (mid, made, tt, refl) })
      (record { added = equations.added; is = equations.is; leads = equations.leads })
      (asked-split old mid id before behind 0 (length queued) counter made is (omega (arith, grows, ap length empty)))
      (asked-equations mid behind last (length queued) counter now 0 counted)

  -- all turns, where no query is made at the end
  pub all-asked : (start first mid last given : Kernel) (none before behind ledger : List Line) (queued : List ℕ) (counter now : ℕ)
      → IsKernel start → length queued ≡ length (pending start.cores) → first ≡ start → none ≡ [] → given ≡ last → ledger ≡ behind
      → AddsInOrder told none first before mid → AddsInOrder told before mid behind last → IsAsked first none before (length queued) counter now 0
      → IsCompilation told start ledger given → now ≤ counter + 3 * most_questions start ledger given
  all-asked start first mid last given none before behind ledger queued counter now is many from empty to same one two asked compilation =
      let whole : IsAsked first none behind (length queued) counter now 0 =
      asked-more first mid last none before behind (length queued) counter now now 0 0 one two asked (asked-none mid before behind 0 now) in
      let from-start : IsAsked start [] ledger (length queued) counter now 0 =
      subst (λ (k : Kernel). IsAsked k [] ledger (length queued) counter now 0) from
      (subst (λ (l : List Line). IsAsked first l ledger (length queued) counter now 0) empty
      (subst (λ (l : List Line). IsAsked first none l (length queued) counter now 0) (sym same) whole)) in
      asked-whole start given ledger (length queued) counter now 0 is
      (leads-replay told start given ledger (order-leads told start given ledger compilation.lines))
      (omega (arith, many))
      from-start
