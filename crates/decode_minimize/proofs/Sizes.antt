-- The size of the CNF at the end of a compilation.
use Rattle.std.proofs.Common.{◌≡◌, ℕ, true, List, [], ◌∷◌, length, Ok, sym, ap, ◌∙◌, subst}
use Rattle.std.specs.Prelude.{Result, Bool, if◌then◌else◌}
use Rattle.order_ints.specs.declared.cnf.Cnf.{Cnf}
use Rattle.order_ints.specs.declared.literal.Lit.{Lit}
use Rattle.core_forms.specs.declared.equation.Equation.{Equation}
use Rattle.core_forms.specs.declared.form.Core.{Core}
use Rattle.ledger_text.specs.declared.line.Line.{Line}
use Rattle.step_kernel.specs.Kernel.{Kernel}
use Rattle.step_kernel.specs.CnfOf.{cnf_of}
use Rattle.step_kernel.specs.Steps.{step}
use Rattle.state_compile.specs.Compilation.{LeadsInOrder, IsCompilation}
use Rattle.decode_minimize.specs.declared.answering.CnfSize.{CnfSize}
use Rattle.decode_minimize.specs.Answering.{size_of}

one-result : {E : Type 0} (a b : Kernel) (r : Result Kernel E) → r ≡ Ok a → r ≡ Ok b → a ≡ b
one-result a b r e f = cc

-- a ledger leads to one state alone
one-end : (told : Core → Equation → Type 0) (ledger : List Line) (start last other : Kernel) → LeadsInOrder told start ledger last → LeadsInOrder told start ledger other → last ≡ other
one-end told [] start last other h k = sym h ∙ k
one-end told (line ∷ ledger) start last other h k =
    let same : k.0 ≡ h.0 = one-result k.0 h.0 (step start line) k.1 h.1 in
    one-end told ledger h.0 last other h.3 (subst (λ (mid : Kernel). LeadsInOrder told mid ledger other) same k.3)

-- so the size of its CNF is that of each end
pub size-there : (told : Core → Equation → Type 0) (ledger : List Line) (start first last other : Kernel) (size : CnfSize) → first ≡ start → size ≡ size_of (cnf_of last)
    → IsCompilation told first ledger last → IsCompilation told start ledger other → size ≡ size_of (cnf_of other)
size-there told ledger start first last other size same is h k =
    let from : IsCompilation told start ledger last = subst (λ (s : Kernel). IsCompilation told s ledger last) same h in
    is ∙ ap (λ (s : Kernel). size_of (cnf_of s)) (one-end told ledger start last other from.lines k.lines)

-- at bottom the empty clause stands alone

first-taken : (b : Bool) (xs ys : List (List Lit)) → b ≡ true → (if b then xs else ys) ≡ xs
first-taken b xs ys e = ap (λ (t : Bool). if t then xs else ys) e

pub size-at-bottom : (k : Kernel) (n : ℕ) → n ≡ length k.view → k.bottom ≡ true → record { variables = n; clauses = 1 } ≡ size_of (cnf_of k)
size-at-bottom k n vars bottom =
    let one : length (cnf_of k).clauses ≡ 1 = ap (λ (cs : List (List Lit)). length cs) (first-taken k.bottom ([] ∷ []) _ bottom) in
    let back = sym one in
    λ i. record { variables = vars i; clauses = back i }

-- and else the size is that of the clauses that were made
pub size-made : (k : Kernel) (cnf : Cnf) (n : ℕ) → n ≡ length cnf.clauses → cnf ≡ cnf_of k → record { variables = cnf.vars; clauses = n } ≡ size_of (cnf_of k)
size-made k cnf n count shape = (λ i. record { variables = cnf.vars; clauses = count i }) ∙ ap size_of shape
