-- What a proof without a fault implies.
use Rattle.std.proofs.Common.{◌≡◌, Bool, true, false, ◌||◌, ◌&&◌, List, [], ◌∷◌, ◌++◌, refl, sym, ap, ◌∙◌, subst}
use Rattle.std.specs.Prelude.{Option, None, Some, Result, Ok, Err}
use Rattle.std.specs.List.{list_any}
use Rattle.std.proofs.lemmas.Bool.{and_parts}
use Rattle.order_ints.specs.declared.literal.Lit.{Lit}
use Rattle.order_ints.specs.declared.cnf.Cnf.{Cnf}
use Rattle.order_ints.specs.Truth.{Valuation, lit_truth}
use Rattle.order_ints.specs.Satisfies.{Satisfies, clause_truth, clauses_truth}
use Rattle.order_ints.specs.OrderedClauses.{same_lit, has_lit}
use Rattle.order_ints.specs.Equality.{same_lit-tells}
use Rattle.proof_check.specs.declared.fault.ProofFault.{ProofFault}
use Rattle.proof_check.specs.declared.line.ProofLine.{ProofLine}
use Rattle.proof_check.specs.declared.line.ProofLine.TheVariants.{Add, Delete}
use Rattle.proof_check.specs.Named.{literals_of}
use Rattle.proof_check.specs.Faults.{or_else, id_fault, lits_fault, hints_fault, against, body_fault}
use Rattle.proof_check.specs.Lrat.{Proof, proof_of, line_fault, after_line, unless_fault, behind, take_line, take_lines}
use Rattle.proof_check.specs.New.{lies_within}
use Rattle.proof_check.specs.Known.{same_literals, all_clauses}
use Rattle.proof_check.specs.Laws.{IsImplied, StartImplied, LineImplied, AddedImplied, KnownImplied, CnfStays, LinesGoOn, LitsFit}
use Rattle.proof_check.proofs.Truths.{follows, without-all-true, more-true, numbered-lits}
use Rattle.proof_check.proofs.Denied.{no-fault, fits-all}

-- a line that is taken has no fault, and the proof goes on behind it
unless-ok : (o : Option ProofFault) (p q : Proof) → unless_fault o p ≡ Ok q → (o ≡ None) × (p ≡ q)
unless-ok None p q e = (refl, (let f : p ≡ q = cc in f))
unless-ok (Some x) p q e = absurd (cc)

or-parts : (a b : Option ProofFault) → or_else a b ≡ None → (a ≡ None) × (b ≡ None)
or-parts None b e = (refl, e)
or-parts (Some x) b e = absurd (cc)

pub start-implied : StartImplied
start-implied cnf σ sat = ((ap (clauses_truth σ) (numbered-lits 1 cnf.clauses) ∙ sat), refl)

after-implied : (p : Proof) (line : ProofLine) → IsImplied p → line_fault p line ≡ None → IsImplied (after_line p line)
after-implied p (Add id lits hints) h ok σ sat =
    let tests = or-parts (id_fault p.last id) (body_fault p.cnf.vars p.live lits hints) ok in
    let body = or-parts (lits_fault p.cnf.vars [] lits 1) (hints_fault p.live (against lits) hints 1) tests.1 in
    let before = h σ sat in
    let new : clause_truth σ lits ≡ true = follows σ p.live lits hints before.0 body.1 in
    (more-true σ p.live (record { id = id; lits = lits }) before.0 new, more-true σ p.added (record { id = id; lits = lits }) before.1 new)
after-implied p (Delete at ids) h ok σ sat = let before = h σ sat in (without-all-true σ ids p.live before.0, before.1)

pub line-implied : LineImplied
line-implied p q line h e =
    let parts = unless-ok (line_fault p line) (after_line p line) q e in
    let P : Proof → Type 0 = λ x. IsImplied x in subst P parts.1 (after-implied p line h parts.0)

after-cnf : (p : Proof) (line : ProofLine) → (after_line p line).cnf ≡ p.cnf
after-cnf p (Add id lits hints) = refl
after-cnf p (Delete at ids) = refl

pub cnf-stays : CnfStays
cnf-stays p q line e =
    let parts = unless-ok (line_fault p line) (after_line p line) q e in sym (ap (λ (x : Proof). x.cnf) parts.1) ∙ after-cnf p line

-- lines one after another
behind-ok : (r : Result Proof ProofFault) (next : Proof → Result Proof ProofFault) (q : Proof) → behind r next ≡ Ok q → (m : Proof) × ((r ≡ Ok m) × (next m ≡ Ok q))
behind-ok (Ok m) next q e = (m, (refl, e))
behind-ok (Err x) next q e = absurd (cc)

pub lines-implied : (p : Proof) (lines : List ProofLine) (q : Proof) → take_lines p lines ≡ Ok q → IsImplied p → IsImplied q × (q.cnf ≡ p.cnf)
lines-implied p [] q e h = let same : p ≡ q = cc in let P : Proof → Type 0 = λ x. IsImplied x in (subst P same h, sym (ap (λ (x : Proof). x.cnf) same))
lines-implied p (line ∷ lines) q e h =
    let step = behind-ok (take_line p line) (λ m. take_lines m lines) q e in
    let rest = lines-implied step.0 lines q step.1.1 (line-implied p step.0 line h step.1.0) in
    (rest.0, rest.1 ∙ cnf-stays p step.0 line step.1.0)

pub added-implied : AddedImplied
added-implied cnf lines p e σ sat =
    let all = lines-implied (proof_of cnf) lines p e (start-implied cnf) in
    let P : Cnf → Type 0 = λ x. Satisfies σ x in (all.0 σ (subst P (sym all.1) sat)).1

pub lines-go-on : LinesGoOn
lines-go-on p q r [] line e step = let same : p ≡ q = cc in ap (λ (x : Proof). behind (take_line x line) (λ m. Ok m)) same ∙ ap (λ (x : Result Proof ProofFault). behind x (λ m. Ok m)) step
lines-go-on p q r (first ∷ lines) line e step =
    let one = behind-ok (take_line p first) (λ m. take_lines m lines) q e in
    ap (λ (x : Result Proof ProofFault). behind x (λ m. take_lines m (lines ++ line ∷ []))) one.1.0
    ∙ lines-go-on one.0 q r lines line one.1.1 step

-- the literals of a clause
pub lits-fit : LitsFit
lits-fit vars lits =
    ((λ ok. no-fault vars [] lits 1 ok), (λ h. fits-all vars [] lits 1 h.0 h.1 (λ v e. absurd (let f : false ≡ true = e in cc))))

-- a clause is true where one within it is
or-true : (a b : Bool) → (a || b) ≡ true → (a ≡ true → ⊥) → b ≡ true
or-true true b e h = absurd (h refl)
or-true false b e h = e

or-left : (a b : Bool) → a ≡ true → (a || b) ≡ true
or-left true b e = refl
or-left false b e = absurd (let f : false ≡ true = e in cc)

or-right : (a b : Bool) → b ≡ true → (a || b) ≡ true
or-right true b e = refl
or-right false b e = e

by-or : (a b c : Bool) → (a || b) ≡ true → (a ≡ true → c ≡ true) → (b ≡ true → c ≡ true) → c ≡ true
by-or true b c e f g = f refl
by-or false b c e f g = g e

has-true : (σ : Valuation) (l : Lit) (d : List Lit) → has_lit l d ≡ true → lit_truth σ l ≡ true → clause_truth σ d ≡ true
has-true σ l [] e holds = absurd (let f : false ≡ true = e in cc)
has-true σ l (m ∷ d) e holds =
    by-or (same_lit l m) (has_lit l d) (lit_truth σ m || clause_truth σ d) e
    (λ same. or-left (lit_truth σ m) (clause_truth σ d) (ap (lit_truth σ) (sym ((same_lit-tells l m).0 same)) ∙ holds))
    (λ rest. or-right (lit_truth σ m) (clause_truth σ d) (has-true σ l d rest holds))

within-true : (σ : Valuation) (c d : List Lit) → lies_within c d ≡ true → clause_truth σ c ≡ true → clause_truth σ d ≡ true
within-true σ [] d within holds = absurd (let f : false ≡ true = holds in cc)
within-true σ (l ∷ c) d within holds =
    let parts = and_parts (has_lit l d) (lies_within c d) within in
    by-or (lit_truth σ l) (clause_truth σ c) (clause_truth σ d) holds (has-true σ l d parts.0) (within-true σ c d parts.1)

any-true : (σ : Valuation) (lits : List Lit) (cs : List (List Lit)) → list_any (same_literals lits) cs ≡ true → clauses_truth σ cs ≡ true → clause_truth σ lits ≡ true
any-true σ lits [] some all = absurd (let f : false ≡ true = some in cc)
any-true σ lits (c ∷ cs) some all =
    let parts = and_parts (clause_truth σ c) (clauses_truth σ cs) all in
    by-or (same_literals lits c) (list_any (same_literals lits) cs) (clause_truth σ lits) some
    (λ same. within-true σ c lits (and_parts (lies_within lits c) (lies_within c lits) same).1 parts.0)
    (λ rest. any-true σ lits cs rest parts.1)

both-true : (σ : Valuation) (cs ds : List (List Lit)) → clauses_truth σ cs ≡ true → clauses_truth σ ds ≡ true → clauses_truth σ (cs ++ ds) ≡ true
both-true σ [] ds e f = f
both-true σ (c ∷ cs) ds e f =
    let parts = and_parts (clause_truth σ c) (clauses_truth σ cs) e in
    ap (λ (t : Bool). t && clauses_truth σ (cs ++ ds)) parts.0 ∙ both-true σ cs ds parts.1 f

pub known-implied : KnownImplied
known-implied p lits h some σ sat = any-true σ lits (all_clauses p) some (both-true σ p.cnf.clauses (literals_of p.added) sat (h σ sat).1)
