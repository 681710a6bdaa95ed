-- Clauses that were added, under their ids.
use Rattle.std.proofs.Common.{◌≡◌, ℕ, zero, suc, ◌+◌, ◌-◌, Bool, true, false, ◌&&◌, ℤ, List, [], ◌∷◌, ◌++◌, length, refl, sym, ap, subst, ◌∙◌, slice_get}
use Rattle.std.specs.Prelude.{Option, None, Some, is_none, if◌then◌else◌, nat_lt, nat_le, nat_eq, cond}
use Rattle.std.proofs.lemmas.Bool.{and_parts}
use Rattle.indexmap.specs.IndexMap.{insert_entry}
use Rattle.order_ints.specs.declared.literal.Lit.{Lit}
use Rattle.order_ints.specs.declared.cnf.Cnf.{Cnf}
use Rattle.order_ints.specs.Truth.{not_lit}
use Rattle.literal_trail.specs.Trail.{Trail, value_in}
use Rattle.order_ints.specs.Place.{LitBelow, ClauseBelow, ClausesBelow}
use Rattle.proof_check.specs.declared.standing.Standing.TheVariants.{UnitFor, Neither}
use Rattle.proof_check.specs.Values.{Values, no_values, set_value, is_false, is_free}
use Rattle.proof_check.specs.Standing.{open_lits, standing_of, standing}
use Rattle.lrat_check.specs.Hints.{Added, added_at, clause_at, is_new, fits, deny, is_shown, shows_from}
use Rattle.lrat_check.specs.Stored.{AddedBelow}
use Rattle.lrat_check.proofs.Trails.{fits-below}

-- a new id goes last
absent : (b : Bool) (x : List Lit) (o : Option (List Lit)) → cond b (Some x) o ≡ None → (b ≡ false) × (o ≡ None)
absent true x o h = absurd (cc)
absent false x o h = (refl, h)

pub goes-last : (added : Added) (id : ℕ) (lits : List Lit) → added_at added id ≡ None → insert_entry nat_eq added id lits ≡ added ++ (id, lits) ∷ []
goes-last [] id lits none = refl
goes-last (c ∷ cs) id lits none =
    let p = absent (nat_eq id c.0) c.1 (added_at cs id) none in
    ap (λ (b : Bool). if b then (c.0, lits) ∷ cs else c ∷ insert_entry nat_eq cs id lits) p.0 ∙ ap (λ (xs : Added). c ∷ xs) (goes-last cs id lits p.1)

by_none : {X : Type 0} (o : Option X) → is_none o ≡ true → o ≡ None
by_none None h = refl
by_none (Some x) h = absurd (let f : false ≡ true = h in cc)

pub new-absent : (given : List (List Lit)) (added : Added) (id : ℕ) → is_new given added id ≡ true → added_at added id ≡ None
new-absent given added id h = by_none (added_at added id) (and_parts (nat_lt (length given) id) (is_none (added_at added id)) h).1

-- the clause of an id is one of those
pub added-more : (n : ℕ) (added : Added) (id : ℕ) (lits : List Lit) → AddedBelow n added → ClauseBelow n lits → AddedBelow n (added ++ (id, lits) ∷ [])
added-more n [] id lits h k = (k, tt)
added-more n (c ∷ cs) id lits h k = (h.0, added-more n cs id lits h.1 k)

added-below : (n : ℕ) (added : Added) (id : ℕ) (c : List Lit) → AddedBelow n added → added_at added id ≡ Some c → ClauseBelow n c
added-below n [] id c h e = absurd (cc)
added-below n (d ∷ ds) id c h e = by (nat_eq id d.0) e (λ k. added-below n ds id c h.1 k)
  where
    by : (b : Bool) → cond b (Some d.1) (added_at ds id) ≡ Some c → (added_at ds id ≡ Some c → ClauseBelow n c) → ClauseBelow n c
    by true k more = (let same : d.1 ≡ c = cc in subst (ClauseBelow n) same h.0)
    by false k more = more k

given-below : (n : ℕ) (given : List (List Lit)) (i : ℕ) (c : List Lit) → ClausesBelow n given → slice_get given i ≡ Some c → ClauseBelow n c
given-below n [] i c h e = absurd (cc)
given-below n (d ∷ ds) zero c h e = (let same : d ≡ c = cc in subst (ClauseBelow n) same h.0)
given-below n (d ∷ ds) (suc i) c h e = given-below n ds i c h.1 e

pub clause-below : (n : ℕ) (given : List (List Lit)) (added : Added) (id : ℕ) (c : List Lit) → ClausesBelow n given → AddedBelow n added → clause_at given added id ≡ Some c → ClauseBelow n c
clause-below n given added id c g h e = by (nat_lt 0 id && nat_le id (length given)) e
  where
    by : (b : Bool) → (if b then slice_get given (id - 1) else added_at added id) ≡ Some c → ClauseBelow n c
    by true k = given-below n given (id - 1) c g k
    by false k = added-below n added id c h k

-- a clause whose literals can be denied is one of so many variables
pub denied-below : (vars : ℕ) (f g : Values) (lits : List Lit) → deny vars f lits ≡ Some g → ClauseBelow (vars + 1) lits
denied-below vars f g [] h = tt
denied-below vars f g (l ∷ ls) h = by (fits vars f l) refl h (λ k. denied-below vars (set_value f (not_lit l)) g ls k)
  where
    by : (b : Bool) → fits vars f l ≡ b → (if b then deny vars (set_value f (not_lit l)) ls else None) ≡ Some g → (deny vars (set_value f (not_lit l)) ls ≡ Some g → ClauseBelow (vars + 1) ls) → ClauseBelow (vars + 1) (l ∷ ls)
    by true e k more = (fits-below vars f l e, more k)
    by false e k more = absurd (cc)

shown-denied : (vars : ℕ) (given : List (List Lit)) (added : Added) (lits : List Lit) (hints : List ℤ) (o : Option Values) → deny vars no_values lits ≡ o → shows_from given added o hints ≡ true → ClauseBelow (vars + 1) lits
shown-denied vars given added lits hints None e h = absurd (let f : false ≡ true = h in cc)
shown-denied vars given added lits hints (Some g) e h = denied-below vars no_values g lits e

pub shown-below : (vars : ℕ) (given : List (List Lit)) (added : Added) (lits : List Lit) (hints : List ℤ) → is_shown vars given added lits hints ≡ true → ClauseBelow (vars + 1) lits
shown-below vars given added lits hints h = shown-denied vars given added lits hints (deny vars no_values lits) refl h

-- the literal for which a clause is unit is one of the clause
open-below : (n : ℕ) (f : Values) (c : List Lit) → ClauseBelow n c → ClauseBelow n (open_lits f c)
open-below n f [] below = tt
open-below n f (l ∷ ls) below = by_test (is_false f l) (open-below n f ls below.1)
  where
    by_test : (b : Bool) → ClauseBelow n (open_lits f ls) → ClauseBelow n (if b then open_lits f ls else l ∷ open_lits f ls)
    by_test true rest = rest
    by_test false rest = (below.0, rest)

-- and it has no value
pub record IsOpenUnit (n : ℕ) (f : Values) (m : Lit) : Type 0 where
  pub below : LitBelow n m
  pub free : f m.var ≡ None

unit-open : (n : ℕ) (f : Values) (ls : List Lit) (m : Lit) → ClauseBelow n ls → standing_of f ls ≡ UnitFor m → IsOpenUnit n f m
unit-open n f [] m below e = absurd (cc)
unit-open n f (l ∷ []) m below e = by_test (is_free f l) refl e
  where
    by_test : (b : Bool) → is_free f l ≡ b → (if b then UnitFor l else Neither) ≡ UnitFor m → IsOpenUnit n f m
    by_test true free h = (let same : l ≡ m = cc in let P : Lit → Type 0 = λ x. IsOpenUnit n f x in subst P same (record { below = below.0; free = by_none (f l.var) free }))
    by_test false free h = absurd (cc)
unit-open n f (l ∷ k ∷ ls) m below e = absurd (cc)

pub standing-open : (n : ℕ) (f : Values) (c : List Lit) (m : Lit) → ClauseBelow n c → standing f c ≡ UnitFor m → IsOpenUnit n f m
standing-open n f c m below e = unit-open n f (open_lits f c) m (open-below n f c below) e

pub unit-lit : (cnf : Cnf) (added : Added) (t : Trail) (id : ℕ) (c : List Lit) (m : Lit) → ClausesBelow (cnf.vars + 1) cnf.clauses → t.vars ≡ cnf.vars → AddedBelow (cnf.vars + 1) added → clause_at cnf.clauses added id ≡ Some c → standing (value_in t.entries) c ≡ UnitFor m
    → IsOpenUnit (t.vars + 1) (value_in t.entries) m
unit-lit cnf added t id c m range same below at e =
    standing-open (t.vars + 1) (value_in t.entries) c m (subst (λ (n : ℕ). ClauseBelow (n + 1) c) (sym same) (clause-below (cnf.vars + 1) cnf.clauses added id c range below at)) e
