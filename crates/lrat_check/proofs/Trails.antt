-- The literals of a trail as partial values, where each of them was chosen.
use Rattle.std.proofs.Common.{◌≡◌, ℕ, ◌+◌, ◌<◌, Bool, true, false, not, ◌&&◌, List, [], ◌∷◌, ◌++◌, refl, sym, ap, ◌∙◌, arith}
use Rattle.std.specs.Prelude.{◌==◌, Option, None, Some, is_none, if◌then◌else◌, nat_lt, nat_le, option_map}
use Rattle.std.proofs.lemmas.Bool.{and_parts, eq-eqb, eqb-true, ltb-true, leb-true, true≢false, cond-true, cond-false}
use Rattle.order_ints.specs.declared.literal.Lit.{Lit}
use Rattle.order_ints.specs.Place.{LitBelow}
use Rattle.literal_trail.specs.declared.entry.Entry.{Entry}
use Rattle.literal_trail.specs.Trail.{Trail, IsTrail, entry_at, entry_of, value_in, up_to, chosen}
use Rattle.literal_trail.proofs.Entries.{entry_of-push, entry_of-other, entry_of-found, by_entry}
use Rattle.literal_trail.proofs.Levels.{up_to-push}
use Rattle.proof_check.specs.Values.{Values, set_value}
use Rattle.order_ints.specs.Truth.{not_lit}
use Rattle.lrat_check.specs.Hints.{fits, deny}

abbrev sign_of : Option Entry → Option Bool
sign_of o = option_map (λ (e : Entry). e.lit.positive) o

value-pushed : (es : List Entry) (e : Entry) (v : ℕ) (b : Bool) → (v == e.lit.var) ≡ b → entry_of es e.lit.var ≡ None → value_in (es ++ e ∷ []) v ≡ (if b then Some e.lit.positive else value_in es v)
value-pushed es e v true same free =
    ap (λ (n : ℕ). value_in (es ++ e ∷ []) n) (eqb-true v e.lit.var same) ∙ ap sign_of (entry_of-push es e free)
value-pushed es e v false other free =
    ap sign_of (entry_of-other es e v (λ is. true≢false (sym (eq-eqb v e.lit.var (sym is)) ∙ other)))

values-pushed : (es : List Entry) (e : Entry) → entry_of es e.lit.var ≡ None → value_in (es ++ e ∷ []) ≡ set_value (value_in es) e.lit
values-pushed es e free = λ i. λ v. value-pushed es e v (v == e.lit.var) refl free i

-- a literal that is chosen is true then
pub chosen-values : (t : Trail) (l : Lit) → entry_of t.entries l.var ≡ None → value_in (chosen t l).entries ≡ set_value (value_in t.entries) l
chosen-values t l free = values-pushed t.entries (record { lit = l; level = t.level + 1; reason = None }) free

-- and goes with the levels above the lowest
pub chosen-bottom : (t : Trail) (l : Lit) → up_to 0 t.entries ≡ [] → up_to 0 (chosen t l).entries ≡ []
chosen-bottom t l none = up_to-push 0 t.entries (record { lit = l; level = t.level + 1; reason = None }) (omega arith) ∙ none

by_sign : (o : Option Entry) → sign_of o ≡ None → o ≡ None
by_sign None h = refl
by_sign (Some e) h = absurd (cc)

-- a variable without a value has no entry
pub free-entry : (es : List Entry) (v : ℕ) → value_in es v ≡ None → entry_of es v ≡ None
free-entry es v h = by_sign (entry_of es v) h

by_none : (o : Option Bool) → is_none o ≡ true → o ≡ None
by_none None h = refl
by_none (Some b) h = absurd (let f : false ≡ true = h in cc)

-- a variable that isn't the trail's has no value
pub outside-free : (t : Trail) → IsTrail t → (v : ℕ) → t.vars < v → value_in t.entries v ≡ None
outside-free t is v high =
    by_entry t.entries v (λ none. ap sign_of none)
    (λ e some.
    let found = entry_of-found t.entries v e some in
    let below = (is.inside found.place found.below).1 in
    let same : (entry_at t.entries found.place).lit.var ≡ v = ap (λ (x : Entry). x.lit.var) found.is ∙ found.var in
    absurd (omega (arith, below, same, high)))

-- a literal that fits is one of so many variables, and free
pub fits-below : (vars : ℕ) (f : Values) (l : Lit) → fits vars f l ≡ true → LitBelow (vars + 1) l
fits-below vars f l h =
    let tests = and_parts (nat_lt 0 l.var && nat_le l.var vars) (is_none (f l.var)) h in
    let range = and_parts (nat_lt 0 l.var) (nat_le l.var vars) tests.0 in
    (omega (arith, ltb-true 0 l.var range.0), omega (arith, leb-true l.var vars range.1))

pub fits-free : (vars : ℕ) (f : Values) (l : Lit) → fits vars f l ≡ true → f l.var ≡ None
fits-free vars f l h = by_none (f l.var) (and_parts (nat_lt 0 l.var && nat_le l.var vars) (is_none (f l.var)) h).1

same-lit : (a b : Lit) → a.var ≡ b.var → a.positive ≡ b.positive → a ≡ b
same-lit a b v s = λ i. record { var = v i; positive = s i }

-- one literal more is denied
pub deny-more : (t u : Trail) (l m : Lit) (ls : List Lit) → fits t.vars (value_in t.entries) l ≡ true → m.var ≡ l.var → m.positive ≡ not l.positive → u ≡ chosen t m → deny t.vars (value_in t.entries) (l ∷ ls) ≡ deny u.vars (value_in u.entries) ls
deny-more t u l m ls fit var sign is =
    let same : m ≡ not_lit l = same-lit m (not_lit l) var sign in
    let free : entry_of t.entries m.var ≡ None = free-entry t.entries m.var (ap (value_in t.entries) var ∙ fits-free t.vars (value_in t.entries) l fit) in
    let made : value_in (chosen t m).entries ≡ set_value (value_in t.entries) (not_lit l) = chosen-values t m free ∙ ap (set_value (value_in t.entries)) same in
    cond-true _ _ _ fit ∙ ap (λ (f : Values). deny t.vars f ls) (sym made) ∙ ap (λ (w : Trail). deny w.vars (value_in w.entries) ls) (sym is)

pub deny-none : (vars : ℕ) (f : Values) (l : Lit) (ls : List Lit) → fits vars f l ≡ false → deny vars f (l ∷ ls) ≡ None
deny-none vars f l ls unfit = cond-false _ _ _ unfit
