-- Partial values that agree with a valuation, and what hints without a fault say of it.
use Rattle.std.proofs.Common.{◌≡◌, ℕ, ◌+◌, Bool, true, false, not, ◌||◌, ◌&&◌, ℤ, pos, negsuc, List, [], ◌∷◌, ◌++◌, refl, sym, ap, ◌∙◌}
use Rattle.std.specs.Prelude.{Option, None, Some, option_map, if◌then◌else◌, ◌==◌}
use Rattle.std.specs.Bool.{beq}
use Rattle.std.proofs.lemmas.Bool.{eqb-true, or_parts, and_parts}
use Rattle.order_ints.specs.declared.literal.Lit.{Lit}
use Rattle.order_ints.specs.Truth.{Valuation, lit_truth, not_lit}
use Rattle.order_ints.specs.Satisfies.{clause_truth, clauses_truth}
use Rattle.proof_check.specs.declared.fault.ProofFault.{ProofFault}
use Rattle.proof_check.specs.declared.standing.Standing.TheVariants.{UnitFor, Neither}
use Rattle.proof_check.specs.Named.{Named, clause_at, without, without_all, literals_of, numbered}
use Rattle.proof_check.specs.Values.{Values, set_value, is_no, is_false, is_free}
use Rattle.proof_check.specs.Standing.{open_lits, standing_of}
use Rattle.proof_check.specs.Faults.{by_standing, by_clause, is_none_left, hints_fault, against}

-- each variable that has a value has that of the valuation
pub record Agrees (σ : Valuation) (f : Values) : Type 0 where
  pub at : (v : ℕ) (b : Bool) → f v ≡ Some b → σ v ≡ b

-- a false literal is false
by-value : (o : Option Bool) (p s : Bool) → ((b : Bool) → o ≡ Some b → s ≡ b) → is_no (option_map (beq p) o) ≡ true → (if p then s else not s) ≡ false
by-value None p s h e = absurd (let f : false ≡ true = e in cc)
by-value (Some true) true s h e = absurd (let f : false ≡ true = e in cc)
by-value (Some false) true s h e = h false refl
by-value (Some true) false s h e = ap not (h true refl)
by-value (Some false) false s h e = absurd (let f : false ≡ true = e in cc)

lit-false : (σ : Valuation) (f : Values) (l : Lit) → Agrees σ f → is_false f l ≡ true → lit_truth σ l ≡ false
lit-false σ f l all e = by-value (f l.var) l.positive (σ l.var) (all.at l.var) e

-- a clause is as true as its open literals
open-one : (b : Bool) (σ : Valuation) (l : Lit) (ls os : List Lit) → clause_truth σ ls ≡ clause_truth σ os → (b ≡ true → lit_truth σ l ≡ false) →
    (lit_truth σ l || clause_truth σ ls) ≡ clause_truth σ (if b then os else l ∷ os)
open-one true σ l ls os e h = ap (λ (t : Bool). t || clause_truth σ ls) (h refl) ∙ e
open-one false σ l ls os e h = ap (λ (t : Bool). lit_truth σ l || t) e

open-truth : (σ : Valuation) (f : Values) (ls : List Lit) → Agrees σ f → clause_truth σ ls ≡ clause_truth σ (open_lits f ls)
open-truth σ f [] all = refl
open-truth σ f (l ∷ ls) all = open-one (is_false f l) σ l ls (open_lits f ls) (open-truth σ f ls all) (lit-false σ f l all)

-- a literal that is true agrees
by-sign : (p s : Bool) → (if p then s else not s) ≡ true → s ≡ p
by-sign true s e = e
by-sign false true e = sym e
by-sign false false e = refl

set-one : (σ : Valuation) (t : Bool) (l : Lit) (v : ℕ) (b : Bool) (o : Option Bool) → (v == l.var) ≡ t → lit_truth σ l ≡ true → (o ≡ Some b → σ v ≡ b) →
    (if t then Some l.positive else o) ≡ Some b → σ v ≡ b
set-one σ true l v b o same holds old e =
    ap σ (eqb-true v l.var same) ∙ by-sign l.positive (σ l.var) holds ∙ (let f : l.positive ≡ b = cc in f)
set-one σ false l v b o same holds old e = old e

agrees-set : (σ : Valuation) (f : Values) (l : Lit) → Agrees σ f → lit_truth σ l ≡ true → Agrees σ (set_value f l)
agrees-set σ f l all holds = record { at = λ v b e. set-one σ (v == l.var) l v b (f v) refl holds (all.at v b) e }

-- the values against a clause that is false agree
not-truth : (p s : Bool) → (if p then s else not s) ≡ false → (if not p then s else not s) ≡ true
not-truth true s e = ap not e
not-truth false true e = refl
not-truth false false e = absurd (let f : true ≡ false = e in cc)

none-some : (b : Bool) → None ≡ Some b → ⊥
none-some b e = cc

pub agrees-against : (σ : Valuation) (ls : List Lit) → clause_truth σ ls ≡ false → Agrees σ (against ls)
agrees-against σ [] e = record { at = λ v b h. absurd (none-some b h) }
agrees-against σ (l ∷ ls) e =
    let parts = or_parts (lit_truth σ l) (clause_truth σ ls) e in
    agrees-set σ (against ls) (not_lit l) (agrees-against σ ls parts.1) (not-truth l.positive (σ l.var) parts.0)

-- a live clause is true where all are
clause-one : (b : Bool) (σ : Valuation) (ls c : List Lit) (o : Option (List Lit)) → clause_truth σ ls ≡ true → (o ≡ Some c → clause_truth σ c ≡ true) →
    (if b then Some ls else o) ≡ Some c → clause_truth σ c ≡ true
clause-one true σ ls c o here rest e = (let f : ls ≡ c = cc in sym (ap (clause_truth σ) f)) ∙ here
clause-one false σ ls c o here rest e = rest e

live-true : (σ : Valuation) (live : List Named) (id : ℕ) (c : List Lit) → clauses_truth σ (literals_of live) ≡ true → clause_at live id ≡ Some c → clause_truth σ c ≡ true
live-true σ [] id c all e = absurd (cc)
live-true σ (d ∷ live) id c all e =
    let parts = and_parts (clause_truth σ d.lits) (clauses_truth σ (literals_of live)) all in
    clause-one (d.id == id) σ d.lits c (clause_at live id) parts.0 (live-true σ live id c parts.1) e

-- hints without a fault refute values that agree, where all live clauses are true
last-or-not : (σ : Valuation) (f : Values) (ls : List Lit) (last : Bool) (k : ℕ) (next : Lit → Option ProofFault) → Agrees σ f →
    clause_truth σ ls ≡ true → ((l : Lit) → Agrees σ (set_value f l) → next l ≡ None → ⊥) → by_standing (standing_of f ls) last k next ≡ None → ⊥
last-or-not σ f [] last k next all holds rest e = (let f : false ≡ true = holds in cc)
last-or-not σ f (l ∷ []) last k next all holds rest e = by_free (is_free f l) last e
  where
    true-one : lit_truth σ l ≡ true
    true-one = or-right (lit_truth σ l) holds
      where
        or-right : (b : Bool) → (b || false) ≡ true → b ≡ true
        or-right true h = refl
        or-right false h = h

    by_free : (b t : Bool) → by_standing (if b then UnitFor l else Neither) t k next ≡ None → ⊥
    by_free true true h = (cc)
    by_free true false h = rest l (agrees-set σ f l all true-one) h
    by_free false t h = (cc)
last-or-not σ f (l ∷ m ∷ ls) last k next all holds rest e = (cc)

pub refute : (σ : Valuation) (live : List Named) (f : Values) (hints : List ℤ) (k : ℕ) → clauses_truth σ (literals_of live) ≡ true → Agrees σ f →
    hints_fault live f hints k ≡ None → ⊥
refute σ live f [] k true-live all e = (cc)
refute σ live f (negsuc n ∷ hs) k true-live all e = (cc)
refute σ live f (pos id ∷ hs) k true-live all e = by_found (clause_at live id) (live-true σ live id) (λ l agrees h. refute σ live (set_value f l) hs (k + 1) true-live agrees h) e
  where
    by_found : (o : Option (List Lit)) → ((c : List Lit) → clauses_truth σ (literals_of live) ≡ true → o ≡ Some c → clause_truth σ c ≡ true) →
        ((l : Lit) → Agrees σ (set_value f l) → hints_fault live (set_value f l) hs (k + 1) ≡ None → ⊥) →
        by_clause f id o (is_none_left hs) k (λ l. hints_fault live (set_value f l) hs (k + 1)) ≡ None → ⊥
    by_found None holds rest h = (cc)
    by_found (Some c) holds rest h =
        last-or-not σ f (open_lits f c) (is_none_left hs) k (λ l. hints_fault live (set_value f l) hs (k + 1)) all
        (sym (open-truth σ f c all) ∙ holds c true-live refl) rest h

-- so a clause whose hints have no fault is true
pub follows : (σ : Valuation) (live : List Named) (lits : List Lit) (hints : List ℤ) → clauses_truth σ (literals_of live) ≡ true →
    hints_fault live (against lits) hints 1 ≡ None → clause_truth σ lits ≡ true
follows σ live lits hints true-live ok = by_truth (clause_truth σ lits) refl
  where
    by_truth : (b : Bool) → clause_truth σ lits ≡ b → clause_truth σ lits ≡ true
    by_truth true e = e
    by_truth false e = absurd (refute σ live (against lits) hints 1 true-live (agrees-against σ lits e) ok)

-- what stays true
without-one : (b : Bool) (σ : Valuation) (d : Named) (cs : List Named) → clause_truth σ d.lits ≡ true → clauses_truth σ (literals_of cs) ≡ true →
    clauses_truth σ (literals_of (if b then cs else d ∷ cs)) ≡ true
without-one true σ d cs here rest = rest
without-one false σ d cs here rest = ap (λ (t : Bool). t && clauses_truth σ (literals_of cs)) here ∙ rest

without-true : (σ : Valuation) (id : ℕ) (cs : List Named) → clauses_truth σ (literals_of cs) ≡ true → clauses_truth σ (literals_of (without id cs)) ≡ true
without-true σ id [] all = all
without-true σ id (d ∷ cs) all =
    let parts = and_parts (clause_truth σ d.lits) (clauses_truth σ (literals_of cs)) all in
    without-one (d.id == id) σ d (without id cs) parts.0 (without-true σ id cs parts.1)

pub without-all-true : (σ : Valuation) (ids : List ℕ) (cs : List Named) → clauses_truth σ (literals_of cs) ≡ true → clauses_truth σ (literals_of (without_all ids cs)) ≡ true
without-all-true σ [] cs all = all
without-all-true σ (id ∷ ids) cs all = without-all-true σ ids (without id cs) (without-true σ id cs all)

pub more-true : (σ : Valuation) (cs : List Named) (c : Named) → clauses_truth σ (literals_of cs) ≡ true → clause_truth σ c.lits ≡ true →
    clauses_truth σ (literals_of (cs ++ c ∷ [])) ≡ true
more-true σ [] c all new = ap (λ (t : Bool). t && true) new
more-true σ (d ∷ cs) c all new =
    let parts = and_parts (clause_truth σ d.lits) (clauses_truth σ (literals_of cs)) all in
    ap (λ (t : Bool). t && clauses_truth σ (literals_of (cs ++ c ∷ []))) parts.0 ∙ more-true σ cs c parts.1 new

pub numbered-lits : (k : ℕ) (cs : List (List Lit)) → literals_of (numbered k cs) ≡ cs
numbered-lits k [] = refl
numbered-lits k (c ∷ cs) = ap (λ (ds : List (List Lit)). c ∷ ds) (numbered-lits (k + 1) cs)
