-- What is found is an instance, and the test over the rows says what an instance is.
use Rattle.std.proofs.Common.{◌≡◌, ◌↔◌, ℕ, zero, suc, ◌^◌, ◌<◌, inl, Bool, true, false, not, ◌&&◌, ◌||◌, cond, leb, eqb, length, get_or, List, [], ◌∷◌, Contains, refl, sym, ap, subst, ◌∙◌, arith}
use Rattle.std.specs.Prelude.{Option, None, Some, IsNone, IfSome}
use Rattle.std.proofs.lemmas.Bool.{leb-true, le-leb, eqb-true, eq-eqb}
use Rattle.order_ints.specs.declared.atom.Atom.{Atom}
use Rattle.order_ints.specs.declared.atom.Atom.TheVariants.{True, False, Of}
use Rattle.order_ints.specs.Equality.{same_atom-true, same_atom-refl}
use Rattle.order_ints.specs.Same.{same_atom}
use Rattle.core_forms.specs.declared.equation.Rule.{Rule}
use Rattle.core_forms.specs.declared.equation.Rule.TheVariants.{Order, Form, Table}
use Rattle.core_forms.specs.declared.equation.Equation.{Equation}
use Rattle.core_forms.specs.declared.form.Core.{Core}
use Rattle.core_forms.specs.Variables.{atom_vars, core_vars, AreAmong}
use Rattle.core_forms.specs.OwnVars.{own_vars}
use Rattle.core_forms.proofs.OwnVars.{own_vars-exact}
use Rattle.rule_base.specs.Found.{IsImplied}
use Rattle.table_rules.specs.Rows.{are_equal_below, left_below}
use Rattle.table_rules.specs.Pairs.{pairs_over, IsIn}
use Rattle.table_rules.specs.Instances.{IsInstance, is_table, has_var, is_over, are_equal_over, is_instance_of, first_equation, found_over, found_at}
use Rattle.table_rules.proofs.RowLaws.{and-true, true-and, rows-imply, implied-rows, left-equal, equal-left, same-below}
use Rattle.table_rules.proofs.PairLaws.{over-proper, normal}
use Rattle.table_rules.proofs.Distinct.{own_vars-distinct}

-- a listed variable is one that the test finds
has_var-listed : (vars : List ℕ) (v : ℕ) → has_var vars v ≡ true → Contains vars v
has_var-listed [] v h = absurd (cc)
has_var-listed (w ∷ vars) v h = by (eqb w v) refl h (has_var-listed vars v)
  where
    by : (t : Bool) → eqb w v ≡ t → (t || has_var vars v) ≡ true → (has_var vars v ≡ true → Contains vars v) → Contains (w ∷ vars) v
    by true e k rest = (0, omega arith, eqb-true w v e)
    by false e k rest = let c = rest k in (suc c.0, omega (arith, c.1), c.2)

later : (w v : ℕ) (vars : List ℕ) → has_var vars v ≡ true → has_var (w ∷ vars) v ≡ true
later w v vars h = elim (eqb w v) as (λ t. (t || has_var vars v) ≡ true) [ true ↦ refl | false ↦ h ]

at-place : (vars : List ℕ) (v k : ℕ) → k < length vars → get_or vars k v ≡ v → has_var vars v ≡ true
at-place [] v k l e = absurd (omega arith)
at-place (w ∷ vars) v zero l e = ap (λ t. t || has_var vars v) (eq-eqb w v e)
at-place (w ∷ vars) v (suc k) l e = later w v vars (at-place vars v k (omega arith) e)

pub listed-has_var : (vars : List ℕ) (v : ℕ) → Contains vars v → has_var vars v ≡ true
listed-has_var vars v c = at-place vars v c.0 c.1 c.2

-- an atom is over listed variables where its variables are among them
over-among : (vars : List ℕ) (a : Atom) → is_over vars a ≡ true → AreAmong (atom_vars a) vars
over-among vars True h v c = absurd (omega (arith, c.1))
over-among vars False h v c = absurd (omega (arith, c.1))
over-among vars (Of l) h v c = at c.0 c.1 c.2
  where
    at : (k : ℕ) → k < length (l.var ∷ []) → get_or (l.var ∷ []) k v ≡ v → Contains vars v
    at zero m e = subst (Contains vars) e (has_var-listed vars l.var h)
    at (suc k) m e = absurd (omega arith)

among-over : (vars : List ℕ) (a : Atom) → AreAmong (atom_vars a) vars → is_over vars a ≡ true
among-over vars True h = refl
among-over vars False h = refl
among-over vars (Of l) h = listed-has_var vars l.var (h l.var (0, omega arith, refl))

not-true : (t : Bool) → not t ≡ true → t ≡ true → ⊥
not-true true h e = cc
not-true false h e = cc

different-true : (a b : Atom) → (a ≡ b → ⊥) → not (same_atom a b) ≡ true
different-true a b ne = by (same_atom a b) refl
  where
    by : (t : Bool) → same_atom a b ≡ t → not t ≡ true
    by true e = absurd (ne (same_atom-true a b e))
    by false e = refl

same-different : (a b : Atom) → not (same_atom a b) ≡ true → a ≡ b → ⊥
same-different a b h e = not-true (same_atom a b) h (subst (λ (x : Atom). same_atom a x ≡ true) e (same_atom-refl a))

is_table-Table : (rule : Rule) → is_table rule ≡ true → rule ≡ Table
is_table-Table Order h = absurd (cc)
is_table-Table Form h = absurd (cc)
is_table-Table Table h = refl

own-among : (core : Core) → AreAmong (core_vars core) (own_vars core)
own-among core v c = (own_vars-exact core v).1 c

-- the test says what is meant
module _ (core : Core) (e : Equation) where
  pub instance-parts : is_instance_of core e ≡ true → IsInstance core e
  instance-parts h =
      let parts = and-true (is_table e.rule && not (same_atom e.a e.b)) (leb (length (own_vars core)) 8 && are_equal_over core (own_vars core) e.a e.b) h in
      let head = and-true (is_table e.rule) (not (same_atom e.a e.b)) parts.0 in
      let rest = and-true (leb (length (own_vars core)) 8) (are_equal_over core (own_vars core) e.a e.b) parts.1 in
      let row = and-true (is_over (own_vars core) e.a && is_over (own_vars core) e.b) (are_equal_below core (own_vars core) (e.a, e.b) (2 ^ length (own_vars core))) rest.1 in
      let over = and-true (is_over (own_vars core) e.a) (is_over (own_vars core) e.b) row.0 in
      let over_a = over-among (own_vars core) e.a over.0 in
      let over_b = over-among (own_vars core) e.b over.1 in
      record {
        rule = is_table-Table e.rule head.0;
        few = leb-true (length (own_vars core)) 8 rest.0;
        different = same-different e.a e.b head.1;
        a_over = λ v c. (own_vars-exact core v).0 (over_a v c);
        b_over = λ v c. (own_vars-exact core v).0 (over_b v c);
        implied = rows-imply core (own_vars core) e.a e.b (own-among core) over_a over_b row.1;
      }

  pub parts-instance : IsInstance core e → is_instance_of core e ≡ true
  parts-instance h =
      true-and (is_table e.rule && not (same_atom e.a e.b)) (leb (length (own_vars core)) 8 && are_equal_over core (own_vars core) e.a e.b)
      (true-and (is_table e.rule) (not (same_atom e.a e.b)) (ap is_table h.rule) (different-true e.a e.b h.different))
      (true-and (leb (length (own_vars core)) 8) (are_equal_over core (own_vars core) e.a e.b) (le-leb (length (own_vars core)) 8 h.few)
      (true-and (is_over (own_vars core) e.a && is_over (own_vars core) e.b) (are_equal_below core (own_vars core) (e.a, e.b) (2 ^ length (own_vars core)))
      (true-and (is_over (own_vars core) e.a) (is_over (own_vars core) e.b)
      (among-over (own_vars core) e.a (λ v c. (own_vars-exact core v).1 (h.a_over v c)))
      (among-over (own_vars core) e.b (λ v c. (own_vars-exact core v).1 (h.b_over v c))))
      (implied-rows core (own_vars core) e.a e.b h.implied)))

-- what is first in a list of pairs is in it
first-in : (pairs : List (Atom × Atom)) (e : Equation) → first_equation pairs ≡ Some e → IsIn (e.a, e.b) pairs × (e.rule ≡ Table)
first-in [] e h = absurd (cc)
first-in (p ∷ pairs) e h =
    let same : record { rule = Table; a = p.0; b = p.1 } ≡ e = cc in
    (inl (ap (λ (x : Equation). (x.a, x.b)) (sym same)), ap (λ (x : Equation). x.rule) (sym same))

none-in : (pairs : List (Atom × Atom)) (p : Atom × Atom) → first_equation pairs ≡ None → IsIn p pairs → ⊥
none-in [] p h i = i
none-in (q ∷ pairs) p h i = cc

module _ (core : Core) where
  some-instance : (few : leb (length (own_vars core)) 8 ≡ true) (e : Equation) → found_over core (own_vars core) ≡ Some e → is_instance_of core e ≡ true
  some-instance few e found =
      let vars = own_vars core in
      let first = first-in (left_below core vars (pairs_over vars) (2 ^ length vars)) e found in
      let left = left-equal core vars (pairs_over vars) (e.a, e.b) (2 ^ length vars) first.0 in
      let proper = over-proper vars (own_vars-distinct core) (e.a, e.b) left.0 in
      true-and (is_table e.rule && not (same_atom e.a e.b)) (leb (length vars) 8 && are_equal_over core vars e.a e.b)
      (true-and (is_table e.rule) (not (same_atom e.a e.b)) (ap is_table first.1) (different-true e.a e.b proper.different))
      (true-and (leb (length vars) 8) (are_equal_over core vars e.a e.b) few
      (true-and (is_over vars e.a && is_over vars e.b) (are_equal_below core vars (e.a, e.b) (2 ^ length vars))
      (true-and (is_over vars e.a) (is_over vars e.b) proper.a_over proper.b_over) left.1))

  -- where nothing is found there is no instance
  no-instance : found_over core (own_vars core) ≡ None → (e : Equation) → is_instance_of core e ≡ true → ⊥
  no-instance none e h =
      let vars = own_vars core in
      let parts = and-true (is_table e.rule && not (same_atom e.a e.b)) (leb (length vars) 8 && are_equal_over core vars e.a e.b) h in
      let head = and-true (is_table e.rule) (not (same_atom e.a e.b)) parts.0 in
      let rest = and-true (leb (length vars) 8) (are_equal_over core vars e.a e.b) parts.1 in
      let row = and-true (is_over vars e.a && is_over vars e.b) (are_equal_below core vars (e.a, e.b) (2 ^ length vars)) rest.1 in
      let over = and-true (is_over vars e.a) (is_over vars e.b) row.0 in
      let n = normal vars e.a e.b over.0 over.1 (same-different e.a e.b head.1) in
      none-in (left_below core vars (pairs_over vars) (2 ^ length vars)) n.pair none
      (equal-left core vars (pairs_over vars) n.pair (2 ^ length vars) n.listed (same-below core vars n.pair (e.a, e.b) n.same (2 ^ length vars) ∙ row.1))

  pub found-instance : (e : Equation) → found_at core ≡ Some e → is_instance_of core e ≡ true
  found-instance e found = by (leb (length (own_vars core)) 8) refl found
    where
      by : (t : Bool) → leb (length (own_vars core)) 8 ≡ t → cond t (found_over core (own_vars core)) None ≡ Some e → is_instance_of core e ≡ true
      by true few found = some-instance few e found
      by false few found = absurd (cc)

  never : found_at core ≡ None → (e : Equation) → is_instance_of core e ≡ true → ⊥
  never none e h = by (leb (length (own_vars core)) 8) refl none
    where
      by : (t : Bool) → leb (length (own_vars core)) 8 ≡ t → cond t (found_over core (own_vars core)) None ≡ None → ⊥
      by true few none = no-instance none e h
      by false few none =
          let clash : leb (length (own_vars core)) 8 ≡ true = le-leb (length (own_vars core)) 8 (instance-parts core e h).few in cc

  pub is-false : (t : Bool) → (t ≡ true → ⊥) → t ≡ false
  is-false true h = absurd (h refl)
  is-false false h = refl

  pub found-none : (o : Option Equation) → o ≡ found_at core → IsNone o ↔ ((e : Equation) → is_instance_of core e ≡ false)
  found-none None is = (λ _ e. is-false (is_instance_of core e) (never (sym is) e), λ _. refl)
  found-none (Some e) is = (λ h. absurd (cc), λ h. absurd (let yes = found-instance e (sym is) in let no = h e in cc))

  pub found-some : (o : Option Equation) → o ≡ found_at core → IfSome o (λ e. is_instance_of core e ≡ true)
  found-some None is = tt
  found-some (Some e) is = found-instance e (sym is)

  pub found-implied : (o : Option Equation) → o ≡ found_at core → IfSome o (λ e. IsImplied core e)
  found-implied None is = tt
  found-implied (Some e) is = (instance-parts core e (found-instance e (sym is))).implied
