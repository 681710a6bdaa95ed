-- The next value of an integer from any number upwards, and downwards: up to there at which atom a number is reached stays the same.
use Rattle.std.proofs.Common.{◌≡◌, ℕ, Bool, true, false, cond, ◌||◌, ◌⊎◌, inl, inr, List, [], ◌∷◌, map, ℤ, pos, ◌+ℤ◌, ◌≤ℤ◌, ◌<ℤ◌, refl, sym, ap, ◌∙◌, ⊎_elim, arith}
use Rattle.std.specs.Ordering.{int_eq}
use Rattle.std.proofs.lemmas.Int.{ints}
use Rattle.order_ints.specs.declared.atom.Atom.{Atom}
use Rattle.order_ints.specs.declared.atom.Atom.TheVariants.{True, False}
use Rattle.order_ints.specs.declared.order_int.OrdInt.{OrdInt}
use Rattle.order_ints.specs.OrderLevels.{levels, values_of, at_of, is_among}
use Rattle.order_ints.proofs.Comparisons.{int_le-false}
use Rattle.order_ints.proofs.Reaching.{reaching-low, reaching-above}
use Rattle.equation_runs.proofs.AtTrimmed.{cases-le, reached}

-- a test or another
pub or-left : (s t : Bool) → s ≡ true → (s || t) ≡ true
or-left s t e = ap (λ b. b || t) e

pub or-right : (s t : Bool) → t ≡ true → (s || t) ≡ true
or-right true t e = refl
or-right false t e = e

int_eq-itself : (v : ℤ) → int_eq v v ≡ true
int_eq-itself v = grind (arith, ints)

among-first : (v : ℤ) (vs : List ℤ) → is_among v (v ∷ vs) ≡ true
among-first v vs = or-left (int_eq v v) (is_among v vs) (int_eq-itself v)

among-later : (v w : ℤ) (vs : List ℤ) → is_among v vs ≡ true → is_among v (w ∷ vs) ≡ true
among-later v w vs e = or-right (int_eq w v) (is_among v vs) e

-- one of the values, at least v, up to which the atom at v stays
pub record IsNext (at : ℤ → Atom) (values : List ℤ) (v : ℤ) : Type 0 where
  pub value : ℤ
  pub is_one : is_among value values ≡ true
  pub from : v ≤ℤ value
  pub same : (u : ℤ) → v ≤ℤ u → u ≤ℤ value → at u ≡ at v

-- one of the values, below v, above which the atom at v stays
pub record IsBefore (at : ℤ → Atom) (values : List ℤ) (v : ℤ) : Type 0 where
  pub value : ℤ
  pub is_one : is_among value values ≡ true
  pub below : value <ℤ v
  pub same : (u : ℤ) → value <ℤ u → u ≤ℤ v → at u ≡ at v

-- all from v up have an atom, or all up to v
abbrev pub IsFrom : (ℤ → Atom) → ℤ → Atom → Type 0
IsFrom at v x = (u : ℤ) → v ≤ℤ u → at u ≡ x

abbrev pub IsUpTo : (ℤ → Atom) → ℤ → Atom → Type 0
IsUpTo at v x = (u : ℤ) → u ≤ℤ v → at u ≡ x

abbrev values : ℤ → Atom → List (Atom × ℕ) → List ℤ
values low x steps = map (λ level. level.0) (levels low x steps)

abbrev at : ℤ → Atom → List (Atom × ℕ) → ℤ → Atom
at low x steps v = reached v low x steps

-- up to the lowest level
here-next : (low : ℤ) (x : Atom) (steps : List (Atom × ℕ)) (v : ℤ) → v ≤ℤ low → is_among low (values low x steps) ≡ true → IsNext (at low x steps) (values low x steps) v
here-next low x steps v le one = record {
  value = low;
  is_one = one;
  from = le;
  same = λ u from to. reaching-low u low x steps to ∙ sym (reaching-low v low x steps le);
}

none-above : (low : ℤ) (x : Atom) (u : ℤ) → low <ℤ u → at low x [] u ≡ False
none-above low x u lt = ap (λ (b : Bool). cond b x False) (int_le-false u low lt)

next-level : (low : ℤ) (x : Atom) (steps : List (Atom × ℕ)) (v : ℤ) → IsFrom (at low x steps) v False ⊎ IsNext (at low x steps) (values low x steps) v
next-level low x [] v = ⊎_elim
    (λ (h : v ≤ℤ low). inr (here-next low x [] v h (among-first low [])))
    (λ (h : low <ℤ v). inl (λ u from. none-above low x u (omega (arith, ints, h, from)))) (cases-le v low)
next-level low x (s ∷ steps) v = ⊎_elim
    (λ (h : v ≤ℤ low). inr (here-next low x (s ∷ steps) v h (among-first low (values (low +ℤ pos s.1) s.0 steps))))
    (λ (h : low <ℤ v). ⊎_elim
    (λ (f : IsFrom (at (low +ℤ pos s.1) s.0 steps) v False). inl (λ u from. reaching-above u low x s steps (omega (arith, ints, h, from)) ∙ f u from))
    (λ (n : IsNext (at (low +ℤ pos s.1) s.0 steps) (values (low +ℤ pos s.1) s.0 steps) v). inr (later h n))
    (next-level (low +ℤ pos s.1) s.0 steps v)) (cases-le v low)
  where
    later : low <ℤ v → IsNext (at (low +ℤ pos s.1) s.0 steps) (values (low +ℤ pos s.1) s.0 steps) v → IsNext (at low x (s ∷ steps)) (values low x (s ∷ steps)) v
    later h n = record {
      value = n.value;
      is_one = among-later n.value low (values (low +ℤ pos s.1) s.0 steps) n.is_one;
      from = n.from;
      same = λ u from to. reaching-above u low x s steps (omega (arith, ints, h, from)) ∙ n.same u from to ∙ sym (reaching-above v low x s steps h);
    }

-- from any number up an integer has False, or there is a next value
pub next-value : (a : OrdInt) (v : ℤ) → IsFrom (at_of a) v False ⊎ IsNext (at_of a) (values_of a) v
next-value a v = next-level a.base True a.steps v

before-level : (low : ℤ) (x : Atom) (steps : List (Atom × ℕ)) (v : ℤ) → IsUpTo (at low x steps) v x ⊎ IsBefore (at low x steps) (values low x steps) v
before-level low x [] v = ⊎_elim
    (λ (h : v ≤ℤ low). inl (λ u to. reaching-low u low x [] (omega (arith, ints, h, to))))
    (λ (h : low <ℤ v). inr (record {
      value = low;
      is_one = among-first low [];
      below = h;
      same = λ u above to. none-above low x u above ∙ sym (none-above low x v h);
    })) (cases-le v low)
before-level low x (s ∷ steps) v = ⊎_elim
    (λ (h : v ≤ℤ low). inl (λ u to. reaching-low u low x (s ∷ steps) (omega (arith, ints, h, to))))
    (λ (h : low <ℤ v). inr (⊎_elim
    (λ (t : IsUpTo (at (low +ℤ pos s.1) s.0 steps) v s.0). lowest h (λ u above to. t u to ∙ sym (t v (omega (arith, ints)))))
    (λ (n : IsBefore (at (low +ℤ pos s.1) s.0 steps) (values (low +ℤ pos s.1) s.0 steps) v). ⊎_elim
    (λ (le : low ≤ℤ n.value). later h n le)
    (λ (lt : n.value <ℤ low). lowest h (λ u above to. n.same u (omega (arith, ints, lt, above)) to)) (cases-le low n.value))
    (before-level (low +ℤ pos s.1) s.0 steps v))) (cases-le v low)
  where
    lowest : low <ℤ v → ((u : ℤ) → low <ℤ u → u ≤ℤ v → at (low +ℤ pos s.1) s.0 steps u ≡ at (low +ℤ pos s.1) s.0 steps v) → IsBefore (at low x (s ∷ steps)) (values low x (s ∷ steps)) v
    lowest h same = record {
      value = low;
      is_one = among-first low (values (low +ℤ pos s.1) s.0 steps);
      below = h;
      same = λ u above to. reaching-above u low x s steps above ∙ same u above to ∙ sym (reaching-above v low x s steps h);
    }

    later : low <ℤ v → (n : IsBefore (at (low +ℤ pos s.1) s.0 steps) (values (low +ℤ pos s.1) s.0 steps) v) → low ≤ℤ n.value → IsBefore (at low x (s ∷ steps)) (values low x (s ∷ steps)) v
    later h n le = record {
      value = n.value;
      is_one = among-later n.value low (values (low +ℤ pos s.1) s.0 steps) n.is_one;
      below = n.below;
      same = λ u above to. reaching-above u low x s steps (omega (arith, ints, le, above)) ∙ n.same u above to ∙ sym (reaching-above v low x s steps h);
    }

-- up to any number an integer has True, or there is a value before it
pub value-before : (a : OrdInt) (v : ℤ) → IsUpTo (at_of a) v True ⊎ IsBefore (at_of a) (values_of a) v
value-before a v = before-level a.base True a.steps v
