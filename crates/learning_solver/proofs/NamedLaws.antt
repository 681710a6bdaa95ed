-- Clauses by their ids: more of them, and fewer.
use Rattle.std.proofs.Common.{◌≡◌, ℕ, ◌+◌, ◌≤◌, ◌<◌, Bool, true, false, List, [], ◌∷◌, ◌++◌, length, Option, Some, None, refl, ap, sym, ◌∙◌, arith, ⊎_elim, ◌⊎◌, inl, inr}
use Rattle.std.specs.Prelude.{if◌then◌else◌, ◌==◌}
use Rattle.std.proofs.lemmas.Bool.{cases_eq, cond-true, cond-false, eq-eqb, ne_eqb}
use Rattle.order_ints.specs.declared.literal.Lit.{Lit}
use Rattle.proof_check.specs.Named.{Named, numbered, clause_at, has_id, without, without_all, Lives}
use Rattle.proof_check.specs.declared.fault.ProofFault.{ProofFault}
use Rattle.proof_check.specs.declared.fault.ProofFault.TheVariants.{Absent}
use Rattle.proof_check.specs.Faults.{deletion_fault}

-- whether a clause stands under an id
pub cases-at : (cs : List Named) (id : ℕ) → (clause_at cs id ≡ None) ⊎ ((lits : List Lit) × (clause_at cs id ≡ Some lits))
cases-at cs id = by-option (clause_at cs id)
  where
    by-option : (o : Option (List Lit)) → (o ≡ None) ⊎ ((lits : List Lit) × (o ≡ Some lits))
    by-option None = inl refl
    by-option (Some lits) = inr (lits, refl)

-- one of two cases of a first clause
pub at-first : (c : Named) (cs : List Named) (id : ℕ) → c.id ≡ id → clause_at (c ∷ cs) id ≡ Some c.lits
at-first c cs id e = cond-true (c.id == id) (Some c.lits) (clause_at cs id) (eq-eqb c.id id e)

pub at-others : (c : Named) (cs : List Named) (id : ℕ) → (c.id ≡ id → ⊥) → clause_at (c ∷ cs) id ≡ clause_at cs id
at-others c cs id ne = cond-false (c.id == id) (Some c.lits) (clause_at cs id) (ne_eqb c.id id ne)

-- what stands stays where clauses come behind it
pub at-front : (cs ds : List Named) (id : ℕ) (lits : List Lit) → clause_at cs id ≡ Some lits → clause_at (cs ++ ds) id ≡ Some lits
at-front [] ds id lits e = cc
at-front (c ∷ cs) ds id lits e =
    ⊎_elim
    (λ (same : c.id ≡ id). at-first c (cs ++ ds) id same ∙ sym (at-first c cs id same) ∙ e)
    (λ (other : c.id ≡ id → ⊥). at-others c (cs ++ ds) id other ∙ at-front cs ds id lits (sym (at-others c cs id other) ∙ e))
    (cases_eq c.id id)

-- and where nothing stands, they do
pub at-back : (cs ds : List Named) (id : ℕ) → clause_at cs id ≡ None → clause_at (cs ++ ds) id ≡ clause_at ds id
at-back [] ds id e = refl
at-back (c ∷ cs) ds id e =
    ⊎_elim
    (λ (same : c.id ≡ id). let some = sym e ∙ at-first c cs id same in cc)
    (λ (other : c.id ≡ id → ⊥). at-others c (cs ++ ds) id other ∙ at-back cs ds id (sym (at-others c cs id other) ∙ e))
    (cases_eq c.id id)

-- what stands among more clauses stood before or is the last
pub at-more : (cs : List Named) (c : Named) (d : Named) → Lives (cs ++ c ∷ []) d → (Lives cs d) ⊎ ((clause_at cs d.id ≡ None) × (c.id ≡ d.id) × (c.lits ≡ d.lits))
at-more cs c d lives =
    ⊎_elim
    (λ (none : clause_at cs d.id ≡ None).
    ⊎_elim
    (λ (same : c.id ≡ d.id).
    let e : Some c.lits ≡ Some d.lits = sym (at-first c [] d.id same) ∙ sym (at-back cs (c ∷ []) d.id none) ∙ lives in
    let lits : c.lits ≡ d.lits = cc in
    inr (none, same, lits))
    (λ (other : c.id ≡ d.id → ⊥).
    let e : None ≡ Some d.lits = sym (at-others c [] d.id other) ∙ sym (at-back cs (c ∷ []) d.id none) ∙ lives in
    cc)
    (cases_eq c.id d.id))
    (λ (w : (lits : List Lit) × (clause_at cs d.id ≡ Some lits)).
    let there = at-front cs (c ∷ []) d.id w.0 w.1 in
    let e : Some w.0 ≡ Some d.lits = sym there ∙ lives in
    inl (w.1 ∙ e))
    (cases-at cs d.id)

-- the last clause stands where its id is new
pub at-last : (cs : List Named) (c : Named) → clause_at cs c.id ≡ None → Lives (cs ++ c ∷ []) c
at-last cs c none = at-back cs (c ∷ []) c.id none ∙ at-first c [] c.id refl

-- taking away under one id changes nothing under others
pub at-without : (x : ℕ) (cs : List Named) (id : ℕ) → (x ≡ id → ⊥) → clause_at (without x cs) id ≡ clause_at cs id
at-without x [] id ne = refl
at-without x (c ∷ cs) id ne =
    ⊎_elim
    (λ (gone : c.id ≡ x).
    ap (λ (l : List Named). clause_at l id) (cond-true (c.id == x) (without x cs) (c ∷ without x cs) (eq-eqb c.id x gone))
    ∙ at-without x cs id ne
    ∙ sym (at-others c cs id (λ e. ne (sym gone ∙ e))))
    (λ (stays : c.id ≡ x → ⊥).
    ap (λ (l : List Named). clause_at l id) (cond-false (c.id == x) (without x cs) (c ∷ without x cs) (ne_eqb c.id x stays))
    ∙ ap (λ (o : Option (List Lit)). if c.id == id then Some c.lits else o) (at-without x cs id ne))
    (cases_eq c.id x)

pub none-without : (x : ℕ) (cs : List Named) → clause_at (without x cs) x ≡ None
none-without x [] = refl
none-without x (c ∷ cs) =
    ⊎_elim
    (λ (gone : c.id ≡ x).
    ap (λ (l : List Named). clause_at l x) (cond-true (c.id == x) (without x cs) (c ∷ without x cs) (eq-eqb c.id x gone)) ∙ none-without x cs)
    (λ (stays : c.id ≡ x → ⊥).
    ap (λ (l : List Named). clause_at l x) (cond-false (c.id == x) (without x cs) (c ∷ without x cs) (ne_eqb c.id x stays))
    ∙ at-others c (without x cs) x stays
    ∙ none-without x cs)
    (cases_eq c.id x)

-- what still stands stood
pub lives-without : (x : ℕ) (cs : List Named) (d : Named) → Lives (without x cs) d → (x ≡ d.id → ⊥) × Lives cs d
lives-without x cs d lives =
    let ne : x ≡ d.id → ⊥ = λ e. let none = sym (ap (λ (i : ℕ). clause_at (without x cs) i) e) ∙ none-without x cs in let both = sym none ∙ lives in cc in
    (ne, sym (at-without x cs d.id ne) ∙ lives)

-- ids one after another
pub numbered-range : (n : ℕ) (cs : List (List Lit)) (id : ℕ) (lits : List Lit) → clause_at (numbered n cs) id ≡ Some lits → (n ≤ id) × (id < n + length cs)
numbered-range n [] id lits e = cc
numbered-range n (c ∷ cs) id lits e =
    let first : Named = record { id = n; lits = c } in
    ⊎_elim
    (λ (same : n ≡ id). (omega arith, omega arith))
    (λ (other : n ≡ id → ⊥).
    let inner = numbered-range (n + 1) cs id lits (sym (at-others first (numbered (n + 1) cs) id other) ∙ e) in
    (omega (arith, inner.0), omega (arith, inner.1)))
    (cases_eq n id)

-- deletions one after another
pub without_all-more : (ids : List ℕ) (id : ℕ) (cs : List Named) → without_all (ids ++ id ∷ []) cs ≡ without id (without_all ids cs)
without_all-more [] id cs = refl
without_all-more (x ∷ ids) id cs = without_all-more ids id (without x cs)

deletion-front : (b : Bool) (x : ℕ) (before after : Option ProofFault) → (if b then before else Some (Absent x)) ≡ None → (before ≡ None → after ≡ None) → (if b then after else Some (Absent x)) ≡ None
deletion-front true x before after e step = step e
deletion-front false x before after e step = cc

pub deletion-more : (cs : List Named) (ids : List ℕ) (id : ℕ) → deletion_fault cs ids ≡ None → has_id (without_all ids cs) id ≡ true → deletion_fault cs (ids ++ id ∷ []) ≡ None
deletion-more cs [] id e has = cond-true (has_id cs id) None (Some (Absent id)) has
deletion-more cs (x ∷ ids) id e has =
    deletion-front (has_id cs x) x (deletion_fault (without x cs) ids) (deletion_fault (without x cs) (ids ++ id ∷ [])) e
    (λ none. deletion-more (without x cs) ids id none has)
