-- Queries, from one ledger to a longer one.
use Rattle.std.proofs.Common.{◌≡◌, ℕ, ◌+◌, ◌*◌, ◌≤◌, List, [], ◌∷◌, ◌++◌, length, refl, ap, sym, ◌∙◌, subst, arith, append_assoc, length-append, Result, Ok}
use Rattle.core_forms.specs.declared.equation.Equation.{Equation}
use Rattle.core_forms.specs.declared.form.Core.{Core}
use Rattle.ledger_text.specs.declared.line.Line.{Line}
use Rattle.ledger_text.specs.declared.line.Line.TheVariants.{Split}
use Rattle.step_kernel.specs.declared.fault.StepFault.{StepFault}
use Rattle.step_kernel.specs.Kernel.{Kernel, pending, IsKernel}
use Rattle.step_kernel.specs.Steps.{step, replayed, replay}
use Rattle.fixpoint_queue.specs.Ledgers.{Leads, Adds}
use Rattle.fixpoint_queue.specs.Pairs.{pairs_along, IsCounted}
use Rattle.fixpoint_queue.proofs.Counted.{only-lines, pairs-append}
use Rattle.asking_bound.specs.Made.{made_to, made_along}
use Rattle.asking_bound.specs.Questions.{most_questions, IsAsked}
use Rattle.asking_bound.proofs.Replays.{few-pairs}
use Rattle.asking_bound.proofs.StepPairs.{made-as-many}

-- nothing is asked
pub asked-none : (k : Kernel) (before behind : List Line) (queued counter : ℕ) → IsAsked k before behind queued counter counter queued
asked-none k before behind queued counter lines is = omega arith

-- equations
pub asked-equations : (k : Kernel) (before behind : List Line) (queued counter now left : ℕ) → IsCounted k before behind queued counter now left → IsAsked k before behind queued counter now left
asked-equations k before behind queued counter now left counted lines is = omega (arith, counted lines is)

-- a split, which asks nothing: no more cores come into the queue than it makes
pub asked-split : (k new : Kernel) (id : ℕ) (before behind : List Line) (old queued counter : ℕ) → step k (Split id) ≡ Ok new → behind ≡ before ++ Split id ∷ []
    → queued + length k.cores ≤ old + length new.cores → IsAsked k before behind old counter counter queued
asked-split k new id before behind old queued counter stepped line grows lines is =
    let one : lines ≡ Split id ∷ [] = only-lines before behind lines (Split id ∷ []) is line in
    let made : length (made_along (Ok k) lines) ≡ length (made_to k (step k (Split id)) ++ []) = ap (λ (ls : List Line). length (made_along (Ok k) ls)) one in
    omega (
      arith,
      grows,
      made,
      length-append (made_to k (step k (Split id))) [],
      ap (λ (r : Result Kernel StepFault). length (made_to k r)) stepped,
      made-as-many k new (Split id) stepped,
    )

module _ (told : Core → Equation → Type 0) where
  pub leads-replay : (old new : Kernel) (lines : List Line) → Leads told old lines new → replay old lines ≡ Ok new
  leads-replay old new [] e = ap Ok e
  leads-replay old new (line ∷ lines) l = ap (λ (r : Result Kernel StepFault). replayed r lines) l.1 ∙ leads-replay l.0 new lines l.3

  made-append : (old mid : Kernel) (lines more : List Line) → Leads told old lines mid → length (made_along (Ok old) (lines ++ more)) ≡ length (made_along (Ok old) lines) + length (made_along (Ok mid) more)
  made-append old mid [] more e = let same = ap (λ (k : Kernel). length (made_along (Ok k) more)) e in omega (arith, same)
  made-append old mid (line ∷ lines) more leads =
      let next = leads.0 in
      let rest = made-append next mid lines more leads.3 in
      let whole : length (made_along (step old line) (lines ++ more)) ≡ length (made_along (step old line) lines) + length (made_along (Ok mid) more) =
      subst (λ (r : Result Kernel StepFault). length (made_along r (lines ++ more)) ≡ length (made_along r lines) + length (made_along (Ok mid) more)) (sym leads.1) rest in
      omega (
        arith,
        whole,
        length-append (made_to old (step old line)) (made_along (step old line) (lines ++ more)),
        length-append (made_to old (step old line)) (made_along (step old line) lines),
      )

  -- one after another
  pub asked-then : (old mid new : Kernel) (before behind last : List Line) (queued counter now left later rest : ℕ)
      → Adds told before old behind mid → Adds told behind mid last new → IsAsked old before behind queued counter now left → IsAsked mid behind last left now later rest → IsAsked old before last queued counter later rest
  asked-then old mid new before behind last queued counter now left later rest first next one two lines is =
      let added : lines ≡ first.added ++ next.added =
      only-lines before last lines (first.added ++ next.added) is (next.is ∙ ap (λ (l : List Line). l ++ next.added) first.is ∙ append_assoc before first.added next.added) in
      omega (
        arith,
        one first.added first.is,
        two next.added next.is,
        made-append old mid first.added next.added first.leads,
        pairs-append told old mid first.added next.added first.leads,
        ap (λ (ls : List Line). length (made_along (Ok old) ls)) added,
        ap (λ (ls : List Line). pairs_along (Ok old) ls) added,
      )

-- all queries of a compilation
pub asked-whole : (start last : Kernel) (ledger : List Line) (queued counter now left : ℕ) → IsKernel start → replay start ledger ≡ Ok last → queued ≤ length (pending start.cores)
    → IsAsked start [] ledger queued counter now left → now ≤ counter + 3 * most_questions start ledger last
asked-whole start last ledger queued counter now left is replays few asked =
    omega (
      arith,
      few,
      asked ledger refl,
      length-append (pending start.cores) (made_along (Ok start) ledger),
      few-pairs start last ledger is replays,
    )
