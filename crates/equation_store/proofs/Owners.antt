-- How many variables are their own label, and that a merge takes one away.
use Rattle.std.proofs.Common.{◌≡◌, ℕ, zero, suc, ◌+◌, ◌-◌, ◌≤◌, ◌<◌, Bool, true, false, List, [], ◌∷◌, ◌++◌, length, map, get_or, refl, ap, sym, ◌∙◌, subst, arith, ⊎_elim, Option, Some, None}
use Rattle.std.specs.Prelude.{if◌then◌else◌, ◌==◌, is_some, option_map}
use Rattle.std.proofs.lemmas.Bool.{true≢false, false≢true, cases_Bool, eqb-true, eq-eqb, cond-true, cond-false, false_from_ne_true}
use Rattle.std.proofs.lemmas.List.{get_or_default}
use Rattle.order_ints.specs.declared.atom.Atom.{Atom}
use Rattle.order_ints.specs.declared.atom.Atom.TheVariants.{True, False, Of}
use Rattle.order_ints.specs.View.{label_of, resolve}
use Rattle.order_ints.specs.Label.{variable, own_labels}
use Rattle.equation_store.specs.declared.relabel.Change.{Change}
use Rattle.equation_store.specs.Class.{is_of, is_own, own_from, number_own}
use Rattle.equation_store.specs.Merge.{replaced, change_of, changed_by, IsReplacement}
use Rattle.equation_store.specs.Laws.{MergeTakesOne, OwnTest, OwnBound, OwnAdded}
use Rattle.equation_store.proofs.Replaced.{relabelled, replaced-own, replaced-other}
use Rattle.equation_store.proofs.Change.{is_of-signed}
use Rattle.equation_store.proofs.Merge.{ChangeOf, change_of-atoms}
use Rattle.equation_store.proofs.Facts.{own_label}
use Rattle.equation_store.proofs.Changes.{is_of-replaced}

-- the test
pub own_test : OwnTest
own_test v True = (λ e. absurd (false≢true e), λ e. cc)
own_test v False = (λ e. absurd (false≢true e), λ e. cc)
own_test v (Of l) = (by l.positive, λ e. ap (is_own v) e ∙ eq-eqb v v refl)
  where
    by : (p : Bool) → (if p then l.var == v else false) ≡ true → Of (record { var = l.var; positive = p }) ≡ variable v
    by true e = ap variable (eqb-true l.var v e)
    by false e = absurd (false≢true e)

own_is_of : (v : ℕ) (a : Atom) → is_own v a ≡ true → is_of v a ≡ true
own_is_of v a e = ap (is_of v) ((own_test v a).0 e) ∙ eq-eqb v v refl

-- what a test counts
abbrev one_if : Bool → ℕ
one_if t = if t then 1 else 0

one_at_most : (t : Bool) → one_if t ≤ 1
one_at_most true = omega arith
one_at_most false = omega arith

own_from-bound : (first : ℕ) (view : List Atom) → own_from first view ≤ length view
own_from-bound first [] = omega arith
own_from-bound first (a ∷ view) = omega (arith, own_from-bound (first + 1) view, one_at_most (is_own first a))

pub own_bound : OwnBound
own_bound view = own_from-bound 1 view

-- added variables count
own_from-append : (first : ℕ) (xs ys : List Atom) → own_from first (xs ++ ys) ≡ own_from first xs + own_from (first + length xs) ys
own_from-append first [] ys = let e : first ≡ first + 0 = omega arith in ap (λ (n : ℕ). own_from n ys) e ∙ (omega arith)
own_from-append first (x ∷ xs) ys =
    let e : first + 1 + length xs ≡ first + suc (length xs) = omega arith in
    let rest : own_from (first + 1) (xs ++ ys) ≡ own_from (first + 1) xs + own_from (first + suc (length xs)) ys = own_from-append (first + 1) xs ys ∙ ap (λ (n : ℕ). own_from (first + 1) xs + own_from n ys) e in
    omega (arith, rest)

own_from-own : (first count : ℕ) → own_from first (own_labels first count) ≡ count
own_from-own first zero = refl
own_from-own first (suc count) =
    let one : one_if (first == first) ≡ 1 = cond-true _ 1 0 (eq-eqb first first refl) in
    omega (arith, one, own_from-own (first + 1) count)

pub own_added : OwnAdded
own_added view count =
    let e : 1 + length view ≡ length view + 1 = omega arith in
    own_from-append 1 view (own_labels (length view + 1) count)
    ∙ ap (λ (n : ℕ). own_from 1 view + n) (ap (λ (n : ℕ). own_from n (own_labels (length view + 1) count)) e ∙ own_from-own (length view + 1) count)

-- a map that changes the test at no place, and one that does at one place
own_from-same : (f : Atom → Atom) (first : ℕ) (view : List Atom) → ((k n : ℕ) → n ≡ first + k → k < length view → is_own n (f (get_or view k True)) ≡ is_own n (get_or view k True)) → own_from first (map f view) ≡ own_from first view
own_from-same f first [] h = refl
own_from-same f first (a ∷ view) h =
    let head : is_own first (f a) ≡ is_own first a = h 0 first (omega arith) (omega arith) in
    let rest : own_from (first + 1) (map f view) ≡ own_from (first + 1) view = own_from-same f (first + 1) view (λ k n e lt. h (suc k) n (omega arith) (omega arith)) in
    omega (arith, rest, ap one_if head)

own_from-less : (f : Atom → Atom) (first : ℕ) (view : List Atom) (at x : ℕ) → x ≡ first + at → at < length view → is_own x (get_or view at True) ≡ true → is_own x (f (get_or view at True)) ≡ false → ((k n : ℕ) → n ≡ first + k → k < length view → (n ≡ x → ⊥) → is_own n (f (get_or view k True)) ≡ is_own n (get_or view k True)) → own_from first (map f view) + 1 ≡ own_from first view
own_from-less f first [] at x e lt before after h = absurd (omega arith)
own_from-less f first (a ∷ view) zero x e lt before after h =
    let same : x ≡ first = omega arith in
    let one : one_if (is_own first a) ≡ 1 = cond-true _ 1 0 (subst (λ (n : ℕ). is_own n a ≡ true) same before) in
    let none : one_if (is_own first (f a)) ≡ 0 = cond-false _ 1 0 (subst (λ (n : ℕ). is_own n (f a) ≡ false) same after) in
    let rest : own_from (first + 1) (map f view) ≡ own_from (first + 1) view = own_from-same f (first + 1) view (λ k n g lt. h (suc k) n (omega arith) (omega arith) (λ i. omega arith)) in
    omega (arith, one, none, rest)
own_from-less f first (a ∷ view) (suc at) x e lt before after h =
    let head : is_own first (f a) ≡ is_own first a = h 0 first (omega arith) (omega arith) (λ i. omega arith) in
    let rest : own_from (first + 1) (map f view) + 1 ≡ own_from (first + 1) view = own_from-less f (first + 1) view at x (omega arith) (omega arith) before after (λ k n g lt ne. h (suc k) n (omega arith) (omega arith) ne) in
    omega (arith, rest, ap one_if head)

-- a replacement takes its variable away from those that are their own label, and no other
module _ (view : List Atom) (x : ℕ) (new : Atom) (r : IsReplacement view x new) where
  not_both : (a : Atom) (v : ℕ) → is_of x a ≡ true → is_of v a ≡ true → v ≡ x
  not_both True v e f = absurd (false≢true e)
  not_both False v e f = absurd (false≢true e)
  not_both (Of l) v e f = sym (eqb-true l.var v f) ∙ eqb-true l.var x e

  other-own : (v : ℕ) → (v ≡ x → ⊥) → is_of x (label_of view v) ≡ true → is_own v (replaced x new (label_of view v)) ≡ false
  other-own v ne e = by (label_of view v) refl e
    where
      by : (a : Atom) → label_of view v ≡ a → is_of x a ≡ true → is_own v (replaced x new a) ≡ false
      by True at f = absurd (false≢true f)
      by False at f = absurd (false≢true f)
      by (Of l) at f = false_from_ne_true _ (λ own.
          let of_v : is_of v new ≡ true =
          sym (is_of-signed v l.positive new)
          ∙ ap (is_of v) (sym (replaced-own x new l (eqb-true l.var x f)))
          ∙ own_is_of v (replaced x new (Of l)) own in
          let kept : label_of view v ≡ variable v = own_label view v new r.label of_v in
          ne (eqb-true v x (sym (ap (is_of x) kept) ∙ e)))

  other-stays : (v : ℕ) → (v ≡ x → ⊥) → is_own v (replaced x new (label_of view v)) ≡ is_own v (label_of view v)
  other-stays v ne = ⊎_elim own other (cases_Bool (is_of x (label_of view v)))
    where
      own : is_of x (label_of view v) ≡ true → is_own v (replaced x new (label_of view v)) ≡ is_own v (label_of view v)
      own e =
          other-own v ne e
          ∙ sym (false_from_ne_true _ (λ f. ne (not_both (label_of view v) v e (own_is_of v (label_of view v) f))))

      other : is_of x (label_of view v) ≡ false → is_own v (replaced x new (label_of view v)) ≡ is_own v (label_of view v)
      other e = ap (is_own v) (replaced-other x new (label_of view v) e)

  -- the label at a place
  label_at : (k n : ℕ) → n ≡ 1 + k → k < length view → get_or view k True ≡ label_of view n
  label_at k n e lt =
      let at : n - 1 ≡ k = omega arith in
      get_or_default view k True (variable n) lt ∙ ap (λ (i : ℕ). get_or view i (variable n)) (sym at)

  pub number_own-relabelled : number_own (relabelled view x new) + 1 ≡ number_own view
  number_own-relabelled = own_from-less (replaced x new) 1 view (x - 1) x (omega (arith, r.low)) (omega (arith, r.low, r.high)) before after rest
    where
      at_x : get_or view (x - 1) True ≡ variable x
      at_x = label_at (x - 1) x (omega (arith, r.low)) (omega (arith, r.low, r.high)) ∙ r.own

      before : is_own x (get_or view (x - 1) True) ≡ true
      before = ap (is_own x) at_x ∙ eq-eqb x x refl

      after : is_own x (replaced x new (get_or view (x - 1) True)) ≡ false
      after = false_from_ne_true _ (λ own.
          true≢false (sym (own_is_of x (replaced x new (get_or view (x - 1) True)) own)
          ∙ is_of-replaced x new (get_or view (x - 1) True) r.other (ap (is_of x) at_x ∙ eq-eqb x x refl)))

      rest : (k n : ℕ) → n ≡ 1 + k → k < length view → (n ≡ x → ⊥) → is_own n (replaced x new (get_or view k True)) ≡ is_own n (get_or view k True)
      rest k n e lt ne = subst (λ (a : Atom). is_own n (replaced x new a) ≡ is_own n a) (sym (label_at k n e lt)) (other-stays n ne)

pub merge_takes_one : MergeTakesOne
merge_takes_one view a b labelled in_a in_b = by_change (change_of view (resolve view a) (resolve view b)) (change_of-atoms view a b labelled in_a in_b)
  where
    by_change : (o : Option Change) → ChangeOf view a b o → number_own (changed_by o view) + (if is_some (option_map (λ c. c.loser) o) then 1 else 0) ≡ number_own view
    by_change None h = omega arith
    by_change (Some c) h = number_own-relabelled view c.loser c.label h.replacement
