use Rattle.std.proofs.Common.{◌≡◌, ◌+◌, ◌^◌, ℕ, List, length, arith, sym, ap, ◌∙◌, subst}
use Rattle.order_ints.specs.declared.literal.Lit.{Lit}
use Rattle.order_ints.specs.Place.{ClausesBelow}
use Rattle.proof_check.specs.Named.{numbered}
use Rattle.proof_check.specs.Arena.{Kept, all_live}
use Rattle.proof_check.specs.Checking.{proof_in, IsChecker}
use Rattle.proof_check.proofs.Checks.{checker-start, proof-start, clauses-wider}
use Rattle.proof_check.proofs.checker.Checker.with.Goals as goal

pub clauses_of-requires : goal.clauses_of-requires
clauses_of-requires c =
    let P : List (List Lit) → Type 0 = λ cs. ClausesBelow (2 ^ 27 + 1) cs in
    subst P (sym c.as_slice.ensures) (clauses-wider (c.args.cnf.now.vars + 1) (2 ^ 27 + 1) c.args.cnf.now.clauses (omega (arith, c.requires.small)) c.requires.in_range)

-- the arena has the clauses of the CNF
start : (c : goal.After-len) → c.in_ok-arena.arena ≡ all_live (numbered 1 c.args.cnf.now.clauses)
start c =
    let h = c.in_ok-arena.ensures in
    let made : c.in_ok-arena.arena ≡ all_live (numbered 1 c.as_slice.result.now) = h in
    made ∙ ap (λ (cs : List (List Lit)). all_live (numbered 1 cs)) c.as_slice.ensures

pub invariant_of-result : goal.invariant_of-result
invariant_of-result c =
    let values = c.in_ok-values.ensures in
    let Q : ℕ → Type 0 = λ n. IsChecker c.args.cnf.now.vars n c.in_ok-arena.arena c.in_ok-values.values in
    let P : List Kept → Type 0 = λ ks. IsChecker c.args.cnf.now.vars (length ks) ks c.in_ok-values.values in
    subst Q (sym c.len.ensures) (subst P (sym (start c)) (checker-start c.args.cnf.now c.in_ok-values.values c.requires.small c.requires.in_range values.size values.values))

pub returns : goal.returns
returns c =
    ap (λ (n : ℕ). proof_in c.args.cnf.now.vars n c.in_ok-arena.arena) c.len.ensures
    ∙ ap (λ (ks : List Kept). proof_in c.args.cnf.now.vars (length ks) ks) (start c)
    ∙ proof-start c.args.cnf.now
