-- A queue whose first two members make way for a fresh sum stands for the whole sum's relation to 0.
use Rattle.std.proofs.Common.{◌≡◌, ℕ, zero, suc, ◌+◌, ◌<◌, ◌≤◌, ◌^◌, ℤ, pos, ◌+ℤ◌, ◌-ℤ◌, Bool, true, not, ◌&&◌, List, [], ◌∷◌, ◌++◌, length, IsTrue, refl, sym, ap, ◌∙◌, arith, length-append}
use Rattle.std.specs.Prelude.{unsigned_abs, int_le, int_lt}
use Rattle.std.specs.Ordering.{int_eq}
use Rattle.std.proofs.lemmas.Bool.{and_parts}
use Rattle.std.proofs.lemmas.Bool.Decides.{same_from_decides, Decides-int_eq, Decides-like}
use Rattle.std.proofs.lemmas.Int.{ints}
use Rattle.order_ints.specs.declared.atom.Atom.TheVariants.{True}
use Rattle.order_ints.specs.declared.order_int.OrdInt.{OrdInt}
use Rattle.order_ints.specs.Truth.{Valuation, Agree}
use Rattle.order_ints.specs.OrderMade.{constant_of}
use Rattle.order_ints.specs.OrderRange.{IntBelow}
use Rattle.order_ints.specs.OrderValue.{value_of, in_order, IsOrdered}
use Rattle.order_ints.specs.OrderChange.{negated_of, shifted_of}
use Rattle.order_ints.specs.Represents.{DependsBelow}
use Rattle.order_ints.proofs.Gains.{value_of-agree, StepsBelow-more}
use Rattle.order_ints.proofs.Negation.{value_of-negated_of, IsBounded-negated_of, AreRising-negated, StepsBelow-negated}
use Rattle.core_forms.specs.declared.form.Core.TheVariants as core
use Rattle.core_forms.specs.Values as forms
use Rattle.core_forms.specs.Place.{IntsBelow}
use Rattle.core_forms.specs.WellFormed.{IsSound, AreSound, greatest_abs, abs_total}
use Rattle.core_forms.proofs.IntLists.{IntsBelow-append, AreSound-append, all_ordered-append, values-append, total-append, abs_total-append}
use Rattle.core_forms.proofs.SumValues.{fresh-abs}
use Rattle.model_meaning.specs.declared.statement.Relation.{Relation}
use Rattle.model_meaning.specs.declared.statement.Relation.TheVariants as relation
use Rattle.model_meaning.specs.Integers.{relates}
use Rattle.model_meaning.proofs.DomainLaws.{Decides-int_le, Decides-int_lt}
use Rattle.statement_lower.specs.Comparison.{comparison_core}
use Rattle.statement_lower.specs.Queue.{fresh_sum, vars_behind_sum, last_made, queue_made}
use Rattle.statement_lower.specs.Lowers.{Lowers}
use Rattle.statement_lower.proofs.Comparisons.{comparison-truth, comparison-below, comparison-well_formed}
use Rattle.statement_lower.proofs.IntegerLines.{ordered-negated}
use Rattle.statement_lower.proofs.LowersLaws.{lowers-one, lowers-behind}
use Rattle.statement_lower.proofs.FreshSums.{AddsUp, below-sum, sound-sum, depends-sum, extends-sum}

-- Two numbers stand in a relation as any two with the same difference do.

le-difference : (a b c d : ℤ) → a -ℤ b ≡ c -ℤ d → int_le a b ≡ int_le c d
le-difference a b c d e =
    same_from_decides _ _ (Decides-like _ (λ h. omega (arith, ints, e, h)) (λ h. omega (arith, ints, e, h)) (Decides-int_le a b)) (Decides-int_le c d)

lt-difference : (a b c d : ℤ) → a -ℤ b ≡ c -ℤ d → int_lt a b ≡ int_lt c d
lt-difference a b c d e =
    same_from_decides _ _ (Decides-like _ (λ h. omega (arith, ints, e, h)) (λ h. omega (arith, ints, e, h)) (Decides-int_lt a b)) (Decides-int_lt c d)

eq-difference : (a b c d : ℤ) → a -ℤ b ≡ c -ℤ d → int_eq a b ≡ int_eq c d
eq-difference a b c d e =
    same_from_decides _ _ (Decides-like _ (λ h. omega (arith, ints, e, h)) (λ h. omega (arith, ints, e, h)) (Decides-int_eq a b)) (Decides-int_eq c d)

turned : (a b c d : ℤ) → a -ℤ b ≡ c -ℤ d → b -ℤ a ≡ d -ℤ c
turned a b c d e = omega (arith, ints, e)

pub relates-difference : (rel : Relation) (a b c d : ℤ) → a -ℤ b ≡ c -ℤ d → relates rel a b ≡ relates rel c d
relates-difference relation.Leq a b c d e = le-difference a b c d e
relates-difference relation.Geq a b c d e = le-difference b a d c (turned a b c d e)
relates-difference relation.Eq a b c d e = eq-difference a b c d e
relates-difference relation.Lt a b c d e = lt-difference a b c d e
relates-difference relation.Gt a b c d e = lt-difference b a d c (turned a b c d e)
relates-difference relation.Neq a b c d e = ap not (eq-difference a b c d e)

-- The last comparison.

sound-shifted : (a : OrdInt) (k : ℤ) → IsSound a → greatest_abs a + unsigned_abs k < 2 ^ 100 → IsSound (shifted_of a k)
sound-shifted a k h small = ((omega (arith, ints, small), omega (arith, ints, small)), h.1)

sound-negated : (a : OrdInt) → IsSound a → IsSound (negated_of a)
sound-negated a h = (IsBounded-negated_of a h.0, AreRising-negated a.steps h.1)

module _ (vars : ℕ) (rel : Relation) (k : ℤ) (C : Valuation → Type 0) where
  last-lowers : (a b : OrdInt) (sum : Valuation → ℤ) → IntBelow (vars + 1) a → IntBelow (vars + 1) b → IsSound a → IsSound b → greatest_abs a + unsigned_abs k < 2 ^ 100
      → ((σ : Valuation) → C σ → IsOrdered σ a × IsOrdered σ b) → ((σ : Valuation) → sum σ ≡ value_of σ a +ℤ value_of σ b)
      → Lowers vars vars C (last_made vars rel k a b).cores (λ σ. IsTrue (relates rel (sum σ +ℤ k) (pos 0)))
  last-lowers a b sum ha hb sa sb small order e =
      let x : OrdInt = shifted_of a k in
      let y : OrdInt = negated_of b in
      lowers-one vars C (comparison_core rel True x y) (λ σ. relates rel (sum σ +ℤ k) (pos 0))
      (comparison-below (vars + 1) rel True x y tt ha (StepsBelow-negated (vars + 1) b.steps hb)) (comparison-well_formed rel True x y (sound-shifted a k sa small) (sound-negated b sb))
      (λ σ c.
      comparison-truth σ rel True x y (order σ c).0 (ordered-negated σ b (order σ c).1)
      ∙ relates-difference rel (value_of σ x) (value_of σ y) (sum σ +ℤ k) (pos 0) (omega (arith, ints, value_of-negated_of σ b, e σ)))

-- the constant 0, for one that is missing
sound-zero : IsSound (constant_of (pos 0))
sound-zero = ((omega (arith, ints), omega (arith, ints)), tt)

-- Members to be added up, and a number.

pub IntsBelow-more : (n m : ℕ) (ints : List OrdInt) → n ≤ m → IntsBelow n ints → IntsBelow m ints
IntsBelow-more n m [] le h = tt
IntsBelow-more n m (a ∷ ints) le h = (StepsBelow-more n m a.steps le h.0, IntsBelow-more n m ints le h.1)

values-agree : (n : ℕ) (σ τ : Valuation) (ints : List OrdInt) → Agree n σ τ → IntsBelow n ints → forms.values σ ints ≡ forms.values τ ints
values-agree n σ τ [] agree h = refl
values-agree n σ τ (a ∷ ints) agree h = rw (value_of-agree n σ τ a agree h.0, values-agree n σ τ ints agree h.1) refl

-- their variables, that they are sound, their limit, and that they are ordered where C holds
pub record IsQueue (vars : ℕ) (k : ℤ) (C : Valuation → Type 0) (queue : List OrdInt) : Type 0 where
  pub below : IntsBelow (vars + 1) queue
  pub sound : AreSound queue
  pub limit : abs_total queue + unsigned_abs k < 2 ^ 100
  pub ordered : (σ : Valuation) → C σ → forms.all_ordered σ queue ≡ true

-- the first two
front-ordered : (σ : Valuation) (a b : OrdInt) (rest : List OrdInt) → forms.all_ordered σ (a ∷ b ∷ rest) ≡ true → IsOrdered σ a × IsOrdered σ b × (forms.all_ordered σ rest ≡ true)
front-ordered σ a b rest h =
    let p = and_parts (in_order σ a.steps) (in_order σ b.steps && forms.all_ordered σ rest) h in
    let q = and_parts (in_order σ b.steps) (forms.all_ordered σ rest) p.1 in
    (p.0, q.0, q.1)

all-and : (p q : Bool) → p ≡ true → q ≡ true → (p && (q && true)) ≡ true
all-and p q e f = rw (e, f) refl

module _ (vars : ℕ) (k : ℤ) (C : Valuation → Type 0) (a b : OrdInt) (rest : List OrdInt) (q : IsQueue vars k C (a ∷ b ∷ rest)) where
  pub two-small : greatest_abs a + greatest_abs b < 2 ^ 100
  two-small = omega (arith, q.limit)

  -- the queue with their fresh sum behind the others
  queue-next : IsQueue (vars_behind_sum vars a b) k (AddsUp vars a b C) (rest ++ fresh_sum vars a b ∷ [])
  queue-next = record {
    below = IntsBelow-append (vars_behind_sum vars a b + 1) rest (fresh_sum vars a b ∷ []) (IntsBelow-more (vars + 1) (vars_behind_sum vars a b + 1) rest (omega arith) q.below.1.1) (below-sum vars a b, tt);
    sound = AreSound-append rest (fresh_sum vars a b ∷ []) q.sound.1.1 (sound-sum vars a b two-small, tt);
    limit = omega (arith, abs_total-append rest (fresh_sum vars a b ∷ []), fresh-abs a b (vars + 1), q.limit);
    ordered = λ σ d.
        all_ordered-append σ rest (fresh_sum vars a b ∷ [])
        ∙ all-and (forms.all_ordered σ rest) (in_order σ (fresh_sum vars a b).steps) (front-ordered σ a b rest (q.ordered σ d.0)).2 d.1;
  }

  -- it has the same sum
  same-total : (σ : Valuation) → AddsUp vars a b C σ → forms.total (forms.values σ (a ∷ b ∷ rest)) ≡ forms.total (forms.values σ (rest ++ fresh_sum vars a b ∷ []))
  same-total σ d =
      let behind : forms.total (forms.values σ (rest ++ fresh_sum vars a b ∷ [])) ≡ forms.total (forms.values σ rest) +ℤ (value_of σ (fresh_sum vars a b) +ℤ pos 0) =
      ap forms.total (values-append σ rest (fresh_sum vars a b ∷ [])) ∙ total-append (forms.values σ rest) (value_of σ (fresh_sum vars a b) ∷ []) in
      omega (arith, ints, behind, d.2)

-- a queue's sum and a number stand in a relation to 0
pub queue-lowers : (times vars : ℕ) (rel : Relation) (k : ℤ) (C : Valuation → Type 0) (queue : List OrdInt) → IsQueue vars k C queue → DependsBelow (vars + 1) C → length queue ≤ times + 2
    → Lowers vars (queue_made times vars rel k queue).vars C (queue_made times vars rel k queue).cores (λ σ. IsTrue (relates rel (forms.total (forms.values σ queue) +ℤ k) (pos 0)))
queue-lowers times vars rel k C [] q keeps few =
    last-lowers vars rel k C (constant_of (pos 0)) (constant_of (pos 0)) (λ σ. forms.total (forms.values σ [])) tt tt sound-zero sound-zero (omega (arith, ints, q.limit)) (λ σ c. (refl, refl)) (λ σ. omega (arith, ints))
queue-lowers times vars rel k C (a ∷ []) q keeps few =
    last-lowers vars rel k C a (constant_of (pos 0)) (λ σ. forms.total (forms.values σ (a ∷ []))) q.below.0 tt q.sound.0 sound-zero (omega (arith, q.limit))
    (λ σ c. ((and_parts (in_order σ a.steps) true (q.ordered σ c)).0, refl)) (λ σ. omega (arith, ints))
queue-lowers zero vars rel k C (a ∷ b ∷ []) q keeps few =
    last-lowers vars rel k C a b (λ σ. forms.total (forms.values σ (a ∷ b ∷ []))) q.below.0 q.below.1.0 q.sound.0 q.sound.1.0 (omega (arith, q.limit))
    (λ σ c. let o = front-ordered σ a b [] (q.ordered σ c) in (o.0, o.1)) (λ σ. omega (arith, ints))
queue-lowers zero vars rel k C (a ∷ b ∷ c ∷ rest) q keeps few = absurd (omega (arith, few))
queue-lowers (suc times) vars rel k C (a ∷ b ∷ rest) q keeps few =
    let z : OrdInt = fresh_sum vars a b in
    let m : ℕ = vars_behind_sum vars a b in
    let D : Valuation → Type 0 = AddsUp vars a b C in
    lowers-behind vars m (queue_made times m rel k (rest ++ z ∷ [])).vars C D (core.Sum3 a b z ∷ []) (queue_made times m rel k (rest ++ z ∷ [])).cores
    (extends-sum vars a b C q.below.0 q.below.1.0 keeps q.sound.0 q.sound.1.0 (two-small vars k C a b rest q) (λ σ c. let o = front-ordered σ a b rest (q.ordered σ c) in (o.0, o.1)))
    keeps
    (λ σ. IsTrue (relates rel (forms.total (forms.values σ (a ∷ b ∷ rest)) +ℤ k) (pos 0)))
    (λ σ. IsTrue (relates rel (forms.total (forms.values σ (rest ++ z ∷ [])) +ℤ k) (pos 0)))
    (λ σ τ agree p. ap (λ vs. relates rel (forms.total vs +ℤ k) (pos 0)) (sym (values-agree (vars + 1) σ τ (a ∷ b ∷ rest) agree q.below)) ∙ p)
    (λ σ d.
    let e = ap (λ n. relates rel (n +ℤ k) (pos 0)) (same-total vars k C a b rest q σ d) in
    (λ p. sym e ∙ p, λ p. e ∙ p))
    (queue-lowers times m rel k D (rest ++ z ∷ []) (queue-next vars k C a b rest q) (depends-sum vars a b C q.below.0 q.below.1.0 keeps) (omega (arith, length-append rest (z ∷ []), few)))
