-- How many new labels a variable can still get: a new one leaves one fewer, at least.
use Rattle.std.proofs.Common.{◌≡◌, ◌⊎◌, inl, inr, ℕ, ◌+◌, ◌*◌, ◌-◌, ◌≤◌, Bool, true, false, not, List, length, refl, ap, sym, ◌∙◌, subst, arith}
use Rattle.std.specs.Prelude.{if◌then◌else◌}
use Rattle.std.proofs.lemmas.Bool.{true≢false}
use Rattle.order_ints.specs.declared.atom.Atom.{Atom}
use Rattle.order_ints.specs.declared.atom.Atom.TheVariants.{True, False, Of}
use Rattle.order_ints.specs.declared.literal.Lit.{Lit}
use Rattle.order_ints.specs.Equality.{same_atom-true, same_atom-refl}
use Rattle.order_ints.specs.Same.{same_atom}
use Rattle.order_ints.specs.View.{label_of}
use Rattle.equation_store.specs.Class.{class_size}
use Rattle.equation_store.specs.Laws.{IsConstant, size_at, Doubles, NeverShrinks}
use Rattle.fixpoint_queue.specs.Pairs.{is_relabelled}
use Rattle.asking_bound.specs.Questions.{binary_digits}
use Rattle.asking_bound.proofs.ClassSizes.{size-within, size-some}
use Rattle.asking_bound.proofs.DigitLaws.{digits-more, digits-some, digits-twice}

-- Where no class gets more than so many digits: a constant stays, and another label leaves one more than how often the class
-- can still double.
abbrev pub left_at : ℕ → List Atom → Atom → ℕ
left_at digits view True = 0
left_at digits view False = 0
left_at digits view (Of l) = digits - (binary_digits (class_size view l.var) - 1)

abbrev pub labels_left : ℕ → List Atom → ℕ → ℕ
labels_left digits view v = left_at digits view (label_of view v)

pub left-most : (digits : ℕ) (view : List Atom) (a : Atom) → left_at digits view a ≤ digits
left-most digits view True = omega arith
left-most digits view False = omega arith
left-most digits view (Of l) = omega arith

-- one counts where a variable gets a new label
abbrev pub one_new : List Atom → List Atom → ℕ → ℕ
one_new old new v = if is_relabelled old new v then 1 else 0

pub none-new : (old new : List Atom) (v : ℕ) → label_of new v ≡ label_of old v → is_relabelled old new v ≡ false
none-new old new v same = ap (λ (a : Atom). not (same_atom (label_of old v) a)) same ∙ ap not (same_atom-refl (label_of old v))

-- a label that stays leaves no more, where its class gets no smaller
pub left-kept : (digits : ℕ) (old new : List Atom) (a : Atom) → size_at old a ≤ size_at new a → left_at digits new a ≤ left_at digits old a
left-kept digits old new True h = omega arith
left-kept digits old new False h = omega arith
left-kept digits old new (Of l) h = omega (arith, digits-more (class_size old l.var) (class_size new l.var) h)

module _ (digits : ℕ) (old new : List Atom) (long : length new ≡ length old) (most : binary_digits (length old) ≤ digits) (v : ℕ) (low : 1 ≤ v) (high : v ≤ length old) where
  some-digits : 1 ≤ digits
  some-digits = omega (arith, most, digits-some (length old) (omega (arith, low, high)))

  -- a variable leaves its class
  left-falls : (l : Lit) (a : Atom) → label_of old v ≡ Of l → IsConstant a ⊎ (2 * class_size old l.var ≤ size_at new a) → 1 + left_at digits new a ≤ left_at digits old (Of l)
  left-falls l a is h = by a h
    where
      was : binary_digits (class_size old l.var) ≤ digits
      was = omega (arith, most, digits-more (class_size old l.var) (length old) (size-within old l.var))

      some : 1 ≤ class_size old l.var
      some = size-some old v l low high is

      by : (b : Atom) → IsConstant b ⊎ (2 * class_size old l.var ≤ size_at new b) → 1 + left_at digits new b ≤ left_at digits old (Of l)
      by True d = omega (arith, was, some-digits)
      by False d = omega (arith, was, some-digits)
      by (Of m) (inl c) = absurd c
      by (Of m) (inr twice) =
          omega (
            arith,
            was,
            digits-some (class_size old l.var) some,
            digits-twice (class_size old l.var) (class_size new m.var) some twice,
            digits-more (class_size new m.var) (length new) (size-within new m.var),
            ap binary_digits long,
            most,
          )

  -- after a merge: what a variable has left is less by one where it got a new label
  pub left-merged : Doubles old new → NeverShrinks old new → (IsConstant (label_of old v) → label_of new v ≡ label_of old v) → one_new old new v + labels_left digits new v ≤ labels_left digits old v
  left-merged doubles shrinks stays = by (same_atom (label_of old v) (label_of new v)) refl
    where
      changed : (label_of new v ≡ label_of old v → ⊥) → (a : Atom) → label_of old v ≡ a → 1 + labels_left digits new v ≤ left_at digits old a
      changed ne True is = absurd (ne (stays (subst IsConstant (sym is) tt)))
      changed ne False is = absurd (ne (stays (subst IsConstant (sym is) tt)))
      changed ne (Of l) is =
          left-falls l (label_of new v) is
          (subst (λ (a : Atom). IsConstant (label_of new v) ⊎ (2 * size_at old a ≤ size_at new (label_of new v))) is (doubles v low high ne))

      by : (b : Bool) → same_atom (label_of old v) (label_of new v) ≡ b → (if not b then 1 else 0) + labels_left digits new v ≤ labels_left digits old v
      by true t =
          let same : label_of new v ≡ label_of old v = sym (same_atom-true (label_of old v) (label_of new v) t) in
          let kept = left-kept digits old new (label_of new v) (subst (λ (a : Atom). size_at old a ≤ size_at new (label_of new v)) (sym same) (shrinks v low high same)) in
          omega (arith, kept, ap (left_at digits old) same)
      by false t = changed (λ e. true≢false (sym (same_atom-refl (label_of old v)) ∙ ap (same_atom (label_of old v)) (sym e) ∙ t)) (label_of old v) refl
