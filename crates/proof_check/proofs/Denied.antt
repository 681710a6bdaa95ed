-- A clause that is denied literal by literal.
use Rattle.std.proofs.Common.{◌≡◌, ℕ, ◌+◌, ◌<◌, ◌≤◌, Bool, true, false, not, ◌&&◌, ◌||◌, List, [], ◌∷◌, ◌++◌, map, reverse, length, take, drop, get_or, arith, refl, sym, ap, ◌∙◌}
use Rattle.std.specs.Prelude.{◌==◌, Option, None, Some, is_none, if◌then◌else◌, nat_lt, nat_le}
use Rattle.std.proofs.lemmas.Bool.{and_parts, or_parts, eq-eqb, eqb-true, cond-true, lt-ltb, ltb-true, le-leb, leb-true}
use Rattle.std.proofs.lemmas.List.{map-append, reverse-append, take_more, take_all, at_drop_more}
use Rattle.order_ints.specs.declared.literal.Lit.{Lit}
use Rattle.order_ints.specs.Truth.{not_lit}
use Rattle.order_ints.specs.Place.{ClauseBelow}
use Rattle.proof_check.specs.declared.fault.ProofFault.{ProofFault}
use Rattle.proof_check.specs.declared.fault.ProofFault.TheVariants as fault
use Rattle.proof_check.specs.Values.{Values, set_value, value_in, has_var, VarsDiffer}
use Rattle.proof_check.specs.Faults.{fits, lits_fault, against}

-- both tests
both : (a b : Bool) → a ≡ true → b ≡ true → (a && b) ≡ true
both true b e f = f
both false b e f = e

or-second : (a b : Bool) → b ≡ true → (a || b) ≡ true
or-second true b e = refl
or-second false b e = e

not-true : (b : Bool) → not b ≡ true → b ≡ false
not-true true e = sym e
not-true false e = refl

-- a variable has a value against literals where one of them has it
if-none : (t b : Bool) (x : Bool) (o : Option Bool) → is_none o ≡ not b → is_none (if t then Some x else o) ≡ not (t || b)
if-none true b x o e = refl
if-none false b x o e = e

pub free-against : (v : ℕ) (ls : List Lit) → is_none (against ls v) ≡ not (has_var v ls)
free-against v [] = refl
free-against v (l ∷ ls) = if-none (v == l.var) (has_var v ls) (not l.positive) (against ls v) (free-against v ls)

none-is : (o : Option Bool) (b : Bool) → is_none o ≡ not b → b ≡ false → o ≡ None
none-is None b e f = refl
none-is (Some x) true e f = absurd (let h : true ≡ false = f in cc)
none-is (Some x) false e f = absurd (let h : false ≡ true = e in cc)

none-against : (v : ℕ) (ls : List Lit) → has_var v ls ≡ false → against ls v ≡ None
none-against v ls lacks = none-is (against ls v) (has_var v ls) (free-against v ls) lacks

-- whether a literal fits, by its variable's value
pub fits-free : (vars : ℕ) (earlier : List Lit) (l : Lit) →
    (nat_lt 0 l.var && nat_le l.var vars && is_none (against earlier l.var)) ≡ fits vars earlier l
fits-free vars earlier l = ap (λ (b : Bool). nat_lt 0 l.var && nat_le l.var vars && b) (free-against l.var earlier)

-- no fault: the literal fits, and there is none behind it
step-none : (b : Bool) (rest : Option ProofFault) (e : ProofFault) → (if b then rest else Some e) ≡ None → (b ≡ true) × (rest ≡ None)
step-none true rest e h = (refl, h)
step-none false rest e h = absurd (cc)

-- literals without a fault have no variable of an earlier one
has-other : (v w : ℕ) (t b : Bool) (earlier : List Lit) → (v == w) ≡ t → has_var w earlier ≡ false → has_var v earlier ≡ true → b ≡ false → (t || b) ≡ false
has-other v w true b earlier same lacks has rest =
    absurd (let e : has_var v earlier ≡ has_var w earlier = ap (λ (n : ℕ). has_var n earlier) (eqb-true v w same) in let f : true ≡ false = sym has ∙ e ∙ lacks in cc)
has-other v w false b earlier same lacks has rest = rest

pub apart : (vars : ℕ) (earlier ls : List Lit) (k v : ℕ) → lits_fault vars earlier ls k ≡ None → has_var v earlier ≡ true → has_var v ls ≡ false
apart vars earlier [] k v ok has = refl
apart vars earlier (l ∷ ls) k v ok has =
    let parts = step-none (fits vars earlier l) (lits_fault vars (l ∷ earlier) ls (k + 1)) (fault.Lit k) ok in
    let other = not-true (has_var l.var earlier) (and_parts (nat_lt 0 l.var && nat_le l.var vars) (not (has_var l.var earlier)) parts.0).1 in
    has-other v l.var (v == l.var) (has_var v ls) earlier refl other has
    (apart vars (l ∷ earlier) ls (k + 1) v parts.1 (or-second (v == l.var) (has_var v earlier) has))

-- their variables are in range and differ
first-has : (v : ℕ) (b : Bool) → ((v == v) || b) ≡ true
first-has v b = ap (λ (t : Bool). t || b) (eq-eqb v v refl)

pub no-fault : (vars : ℕ) (earlier ls : List Lit) (k : ℕ) → lits_fault vars earlier ls k ≡ None → ClauseBelow (vars + 1) ls × VarsDiffer ls
no-fault vars earlier [] k ok = (tt, tt)
no-fault vars earlier (l ∷ ls) k ok =
    let parts = step-none (fits vars earlier l) (lits_fault vars (l ∷ earlier) ls (k + 1)) (fault.Lit k) ok in
    let tests = and_parts (nat_lt 0 l.var && nat_le l.var vars) (not (has_var l.var earlier)) parts.0 in
    let range = and_parts (nat_lt 0 l.var) (nat_le l.var vars) tests.0 in
    let least : 0 < l.var = ltb-true 0 l.var range.0 in
    let most : l.var ≤ vars = leb-true l.var vars range.1 in
    let rest = no-fault vars (l ∷ earlier) ls (k + 1) parts.1 in (
      ((omega (arith, least), omega (arith, most)), rest.0),
      (apart vars (l ∷ earlier) ls (k + 1) l.var parts.1 (first-has l.var (has_var l.var earlier)), rest.1),
    )

-- and where they are and do, there is no fault
earlier-apart : (v w : ℕ) (t b : Bool) (earlier ls : List Lit) → (v == w) ≡ t → (t || b) ≡ true → has_var w ls ≡ false → (b ≡ true → has_var v ls ≡ false) → has_var v ls ≡ false
earlier-apart v w true b earlier ls same has lacks rest = ap (λ (n : ℕ). has_var n ls) (eqb-true v w same) ∙ lacks
earlier-apart v w false b earlier ls same has lacks rest = rest has

pub fits-all : (vars : ℕ) (earlier ls : List Lit) (k : ℕ) → ClauseBelow (vars + 1) ls → VarsDiffer ls →
    ((v : ℕ) → has_var v earlier ≡ true → has_var v ls ≡ false) → lits_fault vars earlier ls k ≡ None
fits-all vars earlier [] k below differ away = refl
fits-all vars earlier (l ∷ ls) k below differ away =
    let least : 0 < l.var = omega (arith, below.0.0) in
    let most : l.var ≤ vars = omega (arith, below.0.1) in
    let new : not (has_var l.var earlier) ≡ true = is-new (has_var l.var earlier) (has_var l.var ls) (away l.var) in
    cond-true _ _ _ (both (nat_lt 0 l.var && nat_le l.var vars) (not (has_var l.var earlier))
    (both (nat_lt 0 l.var) (nat_le l.var vars) (lt-ltb 0 l.var least) (le-leb l.var vars most)) new)
    ∙ fits-all vars (l ∷ earlier) ls (k + 1) below.1 differ.1
    (λ v has. earlier-apart v l.var (v == l.var) (has_var v earlier) earlier ls refl has differ.0
    (λ e. (or_parts (v == l.var) (has_var v ls) (away v e)).1))
  where
    is-new : (b t : Bool) → (b ≡ true → ((l.var == l.var) || t) ≡ false) → not b ≡ true
    is-new true t h = absurd (let e : ((l.var == l.var) || t) ≡ false = h refl in let f : true ≡ false = sym (first-has l.var t) ∙ e in cc)
    is-new false t h = refl

-- denying the literals in the opposite order comes to the same
abbrev or_value : Option Bool → Option Bool → Option Bool
or_value None b = b
or_value (Some x) b = Some x

or-if : (t : Bool) (x : Bool) (o b : Option Bool) → (if t then Some x else or_value o b) ≡ or_value (if t then Some x else o) b
or-if true x o b = refl
or-if false x o b = refl

value-append : (xs ys : List Lit) (v : ℕ) → value_in (xs ++ ys) v ≡ or_value (value_in xs v) (value_in ys v)
value-append [] ys v = refl
value-append (x ∷ xs) ys v =
    ap (λ (o : Option Bool). if v == x.var then Some x.positive else o) (value-append xs ys v)
    ∙ or-if (v == x.var) x.positive (value_in xs v) (value_in ys v)

or-last : (t : Bool) (v : ℕ) (x : Bool) (o : Option Bool) → (t ≡ true → o ≡ None) → or_value o (if t then Some x else None) ≡ (if t then Some x else o)
or-last true v x None h = refl
or-last true v x (Some y) h = absurd (let e : Some y ≡ None = h refl in cc)
or-last false v x None h = refl
or-last false v x (Some y) h = refl

pub against-reverse : (ls : List Lit) → VarsDiffer ls → (v : ℕ) → against (reverse ls) v ≡ against ls v
against-reverse [] differ v = refl
against-reverse (l ∷ ls) differ v =
    ap (λ (xs : List Lit). value_in xs v) (ap (map not_lit) (reverse-append (l ∷ []) ls) ∙ map-append not_lit (reverse ls) (l ∷ []))
    ∙ value-append (map not_lit (reverse ls)) (not_lit l ∷ []) v
    ∙ ap (λ (o : Option Bool). or_value o (if v == l.var then Some (not l.positive) else None)) (against-reverse ls differ.1 v)
    ∙ or-last (v == l.var) v (not l.positive) (against ls v)
    (λ e. none-against v ls (ap (λ (n : ℕ). has_var n ls) (eqb-true v l.var e) ∙ differ.0))

-- as functions
pub against-all : (ls : List Lit) → VarsDiffer ls → against (reverse ls) ≡ against ls
against-all ls differ = λ i v. (against-reverse ls differ v) i

-- one literal more
pub reverse-more : (lits : List Lit) (i : ℕ) (d : Lit) → i < length lits → reverse (take (i + 1) lits) ≡ get_or lits i d ∷ reverse (take i lits)
reverse-more lits i d lt = ap reverse (take_more lits i d lt) ∙ reverse-append (take i lits) (get_or lits i d ∷ [])

-- at a literal, the fault is its own, or that of the literals behind it
pub fault-at : (vars : ℕ) (values : Values) (lits : List Lit) (i : ℕ) (d : Lit) → i < length lits → values ≡ against (reverse (take i lits)) →
    lits_fault vars (reverse (take i lits)) (drop i lits) (i + 1)
    ≡ (if nat_lt 0 (get_or lits i d).var && nat_le (get_or lits i d).var vars && is_none (values (get_or lits i d).var)
    then lits_fault vars (reverse (take (i + 1) lits)) (drop (i + 1) lits) (i + 1 + 1) else Some (fault.Lit (i + 1)))
fault-at vars values lits i d lt denied =
    let l : Lit = get_or lits i d in
    let earlier : List Lit = reverse (take i lits) in
    at_drop_more (λ (xs : List Lit). lits_fault vars earlier xs (i + 1)) lits i d lt
    ∙ ap (λ (b : Bool). if b then lits_fault vars (l ∷ earlier) (drop (i + 1) lits) (i + 1 + 1) else Some (fault.Lit (i + 1)))
    (sym (fits-free vars earlier l) ∙ sym (ap (λ (f : Values). nat_lt 0 l.var && nat_le l.var vars && is_none (f l.var)) denied))
    ∙ ap (λ (ls : List Lit). if nat_lt 0 l.var && nat_le l.var vars && is_none (values l.var) then lits_fault vars ls (drop (i + 1) lits) (i + 1 + 1) else Some (fault.Lit (i + 1)))
    (sym (reverse-more lits i d lt))

-- the values with it denied
pub denied-more : (values new : Values) (lits : List Lit) (i : ℕ) (d m : Lit) → i < length lits → values ≡ against (reverse (take i lits)) →
    m.var ≡ (get_or lits i d).var → m.positive ≡ not (get_or lits i d).positive → new ≡ set_value values m → new ≡ against (reverse (take (i + 1) lits))
denied-more values new lits i d m lt denied var sign made =
    let same : m ≡ not_lit (get_or lits i d) = (λ k. record { var = var k; positive = sign k }) in
    made ∙ ap (λ (x : Lit). set_value values x) same ∙ ap (λ (f : Values). set_value f (not_lit (get_or lits i d))) denied
    ∙ ap against (sym (reverse-more lits i d lt))

-- at the end
pub denied-all : (vars : ℕ) (values : Values) (lits : List Lit) (i : ℕ) → length lits ≤ i → values ≡ against (reverse (take i lits)) →
    lits_fault vars [] lits 1 ≡ None → values ≡ against lits
denied-all vars values lits i le denied ok =
    denied ∙ ap (λ (ls : List Lit). against (reverse ls)) (take_all i lits le) ∙ against-all lits (no-fault vars [] lits 1 ok).1
