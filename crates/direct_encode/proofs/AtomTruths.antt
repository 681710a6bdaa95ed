-- When the clauses of the forms over lists of atoms are true.
use Rattle.std.proofs.Common.{◌≡◌, ℕ, zero, suc, Bool, true, false, not, ◌||◌, ◌&&◌, cond, List, [], ◌∷◌, map, refl, ap, ◌∙◌, arith}
use Rattle.std.specs.Prelude.{nat_le}
use Rattle.std.specs.Bool.{beq}
use Rattle.std.proofs.lemmas.Bool.Decides.{nat_tests}
use Rattle.order_ints.specs.declared.atom.Atom.{Atom}
use Rattle.order_ints.specs.Truth.{Valuation, atom_truth, not_atom}
use Rattle.order_ints.specs.AtomClauses.{atom_clause_truth, atom_clauses_truth}
use Rattle.order_ints.proofs.TruthLaws.{atom_truth-not_atom, atom_clauses_truth-append}
use Rattle.core_forms.specs.Truths.{all_true, true_count, is_odd}
use Rattle.direct_encode.specs.AtomLists.{parity_clauses, member_clauses, conj_clauses, comp_clauses, apart_clauses, amo_clauses}

-- clauses with one more member are true together where it is, or they are
or-both : (x b c : Bool) → ((x || b) && (x || c)) ≡ (x || (b && c))
or-both true b c = refl
or-both false b c = refl

or-true : (x : Bool) → true ≡ (x || true)
or-true true = refl
or-true false = refl

truth-with : (σ : Valuation) (x : Atom) (cs : List (List Atom)) → atom_clauses_truth σ (map (λ c. x ∷ c) cs) ≡ (atom_truth σ x || atom_clauses_truth σ cs)
truth-with σ x [] = or-true (atom_truth σ x)
truth-with σ x (c ∷ cs) =
    ap (λ b. (atom_truth σ x || atom_clause_truth σ c) && b) (truth-with σ x cs)
    ∙ or-both (atom_truth σ x) (atom_clause_truth σ c) (atom_clauses_truth σ cs)

parity-choice : (t odd : Bool) (n : ℕ) → ((t || beq (is_odd n) odd) && (not t || beq (is_odd n) (not odd))) ≡ beq (is_odd (cond t (suc n) n)) odd
parity-choice true odd n = by (is_odd n) odd
  where
    by : (o odd : Bool) → beq o (not odd) ≡ beq (not o) odd
    by true true = refl
    by true false = refl
    by false true = refl
    by false false = refl
parity-choice false odd n = by (beq (is_odd n) odd)
  where
    by : (b : Bool) → (b && true) ≡ b
    by true = refl
    by false = refl

-- the number of true members is odd, or even
pub truth-parity : (σ : Valuation) (ls : List Atom) (odd : Bool) → atom_clauses_truth σ (parity_clauses ls odd) ≡ beq (is_odd (true_count σ ls)) odd
truth-parity σ [] true = refl
truth-parity σ [] false = refl
truth-parity σ (l ∷ ls) odd =
    let split = atom_clauses_truth-append σ (map (λ c. l ∷ c) (parity_clauses ls odd)) (map (λ c. not_atom l ∷ c) (parity_clauses ls (not odd))) in
    let first = truth-with σ l (parity_clauses ls odd) in
    let second = truth-with σ (not_atom l) (parity_clauses ls (not odd)) in
    let negated = atom_truth-not_atom σ l in
    let one = truth-parity σ ls odd in
    let other = truth-parity σ ls (not odd) in
    let all = parity-choice (atom_truth σ l) odd (true_count σ ls) in
    cc

-- where r is true each member is
member-choice : (r l b : Bool) → ((not r || (l || false)) && (not r || b)) ≡ (not r || (l && b))
member-choice true true b = refl
member-choice true false b = refl
member-choice false l b = refl

or-not : (r : Bool) → true ≡ (not r || true)
or-not true = refl
or-not false = refl

truth-members : (σ : Valuation) (r : Atom) (ls : List Atom) → atom_clauses_truth σ (member_clauses r ls) ≡ (not (atom_truth σ r) || all_true σ ls)
truth-members σ r [] = or-not (atom_truth σ r)
truth-members σ r (l ∷ ls) =
    ap (λ b. (b || (atom_truth σ l || false)) && atom_clauses_truth σ (member_clauses r ls)) (atom_truth-not_atom σ r)
    ∙ ap (λ b. (not (atom_truth σ r) || (atom_truth σ l || false)) && b) (truth-members σ r ls)
    ∙ member-choice (atom_truth σ r) (atom_truth σ l) (all_true σ ls)

-- some member is false
not-choice : (l b : Bool) → (not l || not b) ≡ not (l && b)
not-choice true b = refl
not-choice false b = refl

truth-negations : (σ : Valuation) (ls : List Atom) → atom_clause_truth σ (map not_atom ls) ≡ not (all_true σ ls)
truth-negations σ [] = refl
truth-negations σ (l ∷ ls) =
    ap (λ b. b || atom_clause_truth σ (map not_atom ls)) (atom_truth-not_atom σ l)
    ∙ ap (λ b. not (atom_truth σ l) || b) (truth-negations σ ls) ∙ not-choice (atom_truth σ l) (all_true σ ls)

conj-choice : (r b : Bool) → ((not r || b) && ((r || not b) && true)) ≡ beq r b
conj-choice true true = refl
conj-choice true false = refl
conj-choice false true = refl
conj-choice false false = refl

-- r is true exactly where all members are
pub truth-conj : (σ : Valuation) (r : Atom) (ls : List Atom) → atom_clauses_truth σ (conj_clauses r ls) ≡ beq (atom_truth σ r) (all_true σ ls)
truth-conj σ r ls =
    atom_clauses_truth-append σ (member_clauses r ls) ((r ∷ map not_atom ls) ∷ [])
    ∙ ap (λ b. b && ((atom_truth σ r || atom_clause_truth σ (map not_atom ls)) && true)) (truth-members σ r ls)
    ∙ ap (λ b. (not (atom_truth σ r) || all_true σ ls) && ((atom_truth σ r || b) && true)) (truth-negations σ ls)
    ∙ conj-choice (atom_truth σ r) (all_true σ ls)

comp-choice : (a b h l : Bool) → ((not a || (h || false)) && ((not b || (h || false)) && ((not h || (a || (b || false))) && ((not l || (a || false)) && ((not l || (b || false)) && ((l || (not a || (not b || false))) && true)))))) ≡ (beq h (a || b) && beq l (a && b))
comp-choice true true true true = refl
comp-choice true true true false = refl
comp-choice true true false l = refl
comp-choice true false true true = refl
comp-choice true false true false = refl
comp-choice true false false l = refl
comp-choice false true true true = refl
comp-choice false true true false = refl
comp-choice false true false l = refl
comp-choice false false true l = refl
comp-choice false false false true = refl
comp-choice false false false false = refl

-- hi is a or b, and lo is a and b
pub truth-comp : (σ : Valuation) (a b hi lo : Atom) → atom_clauses_truth σ (comp_clauses a b hi lo) ≡ (beq (atom_truth σ hi) (atom_truth σ a || atom_truth σ b) && beq (atom_truth σ lo) (atom_truth σ a && atom_truth σ b))
truth-comp σ a b hi lo =
    let na = atom_truth-not_atom σ a in
    let nb = atom_truth-not_atom σ b in
    let nh = atom_truth-not_atom σ hi in
    let nl = atom_truth-not_atom σ lo in
    let all = comp-choice (atom_truth σ a) (atom_truth σ b) (atom_truth σ hi) (atom_truth σ lo) in
    cc

-- none of the others is true where one is
none-choice : (t m : Bool) (n : ℕ) → ((not t || (not m || false)) && (not t || nat_le n 0)) ≡ (not t || nat_le (cond m (suc n) n) 0)
none-choice true true n = grind (arith, nat_tests)
none-choice true false n = refl
none-choice false m n = refl

truth-apart : (σ : Valuation) (l : Atom) (ls : List Atom) → atom_clauses_truth σ (apart_clauses l ls) ≡ (not (atom_truth σ l) || nat_le (true_count σ ls) 0)
truth-apart σ l [] = or-not (atom_truth σ l)
truth-apart σ l (m ∷ ls) =
    let nl = atom_truth-not_atom σ l in
    let nm = atom_truth-not_atom σ m in
    let rest = truth-apart σ l ls in
    let all = none-choice (atom_truth σ l) (atom_truth σ m) (true_count σ ls) in
    cc

amo-choice : (t : Bool) (n : ℕ) → ((not t || nat_le n 0) && nat_le n 1) ≡ nat_le (cond t (suc n) n) 1
amo-choice true n = grind (arith, nat_tests)
amo-choice false n = refl

-- at most one member is true
pub truth-amo : (σ : Valuation) (ls : List Atom) → atom_clauses_truth σ (amo_clauses ls) ≡ nat_le (true_count σ ls) 1
truth-amo σ [] = refl
truth-amo σ (l ∷ ls) =
    let split = atom_clauses_truth-append σ (apart_clauses l ls) (amo_clauses ls) in
    let first = truth-apart σ l ls in
    let rest = truth-amo σ ls in
    let all = amo-choice (atom_truth σ l) (true_count σ ls) in
    cc
