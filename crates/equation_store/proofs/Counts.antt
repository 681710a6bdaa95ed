-- Walks of classes, and sizes, by how often a variable stands in a list.
use Rattle.std.proofs.Common.{◌≡◌, ℕ, zero, ◌+◌, ◌≤◌, ◌<◌, Bool, true, false, cond, List, [], ◌∷◌, map, length, refl, ap, sym, ◌∙◌, arith, ⊎_elim}
use Rattle.std.specs.Prelude.{if◌then◌else◌, ◌==◌, count_by}
use Rattle.std.proofs.lemmas.Bool.{false≢true, cases_lt, cases_Bool, eqb-true, ne_eqb, false_from_ne_true}
use Rattle.std.proofs.lemmas.List.{length-map}
use Rattle.std.proofs.lemmas.List.Sums.{sum_by-cons}
use Rattle.order_ints.specs.declared.atom.Atom.{Atom}
use Rattle.order_ints.specs.declared.atom.Atom.TheVariants.{True, False, Of}
use Rattle.order_ints.specs.View.{label_of}
use Rattle.index_ring.specs.Lists.{times}
use Rattle.equation_store.specs.Class.{is_of, IsMember, IsWalk, class_size}
use Rattle.equation_store.specs.Merge.{replaced}
use Rattle.equation_store.proofs.Replaced.{replaced-own, replaced-other, label_of-map}
use Rattle.equation_store.proofs.Change.{is_of-signed}
use Rattle.equation_store.proofs.Walk.{member_from_times}

pub times-count : (v : ℕ) (walk : List ℕ) → count_by (λ w. w == v) walk ≡ times v walk
times-count v [] = refl
times-count v (w ∷ walk) = sum_by-cons (λ (u : ℕ). cond (u == v) 1 0) w walk ∙ ap (λ (n : ℕ). cond (w == v) 1 0 + n) (times-count v walk)

-- what a test counts
abbrev pub one_if : Bool → ℕ
one_if t = if t then 1 else 0

-- each variable of the view stands in the walk once if its label is of x, and else not
pub record IsCounted (view : List Atom) (x : ℕ) (walk : List ℕ) : Type 0 where
  pub inside : (v : ℕ) → 1 ≤ v → v ≤ length view → times v walk ≡ one_if (is_of x (label_of view v))
  pub outside : (v : ℕ) → (1 ≤ v → v ≤ length view → ⊥) → times v walk ≡ 0

pub counted-from : (view : List Atom) (x : ℕ) (walk : List ℕ) → IsWalk view x walk → IsCounted view x walk
counted-from view x walk h = record {
  inside = λ v low high. ⊎_elim (λ (e : is_of x (label_of view v) ≡ true). sym (times-count v walk) ∙ h.once v (low, high, e) ∙ sym (ap one_if e))
      (λ e. sym (times-count v walk) ∙ h.others v (λ m. false≢true (sym e ∙ m.2)) ∙ sym (ap one_if e)) (cases_Bool (is_of x (label_of view v)));
  outside = λ v out. sym (times-count v walk) ∙ h.others v (λ m. out m.0 m.1);
}

pub walk-from : (view : List Atom) (x : ℕ) (walk : List ℕ) → IsCounted view x walk → IsWalk view x walk
walk-from view x walk h = record {
  once = λ v m. times-count v walk ∙ h.inside v m.0 m.1 ∙ ap one_if m.2;
  others = λ v ne. times-count v walk
      ∙ ⊎_elim (λ (low : v < 1). h.outside v (λ l k. omega arith))
      (λ low. ⊎_elim (λ (high : length view < v). h.outside v (λ l k. omega arith))
      (λ high. h.inside v low high ∙ ap one_if (false_from_ne_true (is_of x (label_of view v)) (λ e. ne (low, high, e)))) (cases_lt (length view) v)) (cases_lt v 1);
}

-- what stands in a walk is a member
pub member-from : (view : List Atom) (x v : ℕ) (walk : List ℕ) → IsWalk view x walk → 1 ≤ times v walk → IsMember view x v
member-from view x v walk h stands = member_from_times view x walk v h (omega (arith, times-count v walk))

-- an atom of x becomes one of y exactly where the new label is
of-own : (x : ℕ) (new : Atom) (y : ℕ) (a : Atom) → is_of x a ≡ true → is_of y (replaced x new a) ≡ is_of y new
of-own x new y True e = absurd (false≢true e)
of-own x new y False e = absurd (false≢true e)
of-own x new y (Of l) e = ap (is_of y) (replaced-own x new l (eqb-true l.var x e)) ∙ is_of-signed y l.positive new

-- an atom is of one variable
pub of-one : (x y : ℕ) (a : Atom) → (y ≡ x → ⊥) → is_of x a ≡ true → is_of y a ≡ false
of-one x y True ne e = refl
of-one x y False ne e = refl
of-one x y (Of l) ne e = ne_eqb l.var y (λ f. ne (sym f ∙ eqb-true l.var x e))

-- what a replacement adds to a class
sum-replaced : (x : ℕ) (new : Atom) (y : ℕ) (a : Atom) → (y ≡ x → ⊥) → one_if (is_of y (replaced x new a)) ≡ one_if (is_of y a) + (if is_of y new then one_if (is_of x a) else 0)
sum-replaced x new y a ne = ⊎_elim own other (cases_Bool (is_of x a))
  where
    taken : (u : Bool) (i j k : ℕ) → i ≡ one_if u → j ≡ 0 → k ≡ 1 → i ≡ j + (if u then k else 0)
    taken true i j k e f g = omega arith
    taken false i j k e f g = omega arith

    left : (u : Bool) (i j k : ℕ) → i ≡ j → k ≡ 0 → i ≡ j + (if u then k else 0)
    left true i j k e f = omega arith
    left false i j k e f = omega arith

    own : is_of x a ≡ true → one_if (is_of y (replaced x new a)) ≡ one_if (is_of y a) + (if is_of y new then one_if (is_of x a) else 0)
    own e = taken (is_of y new) (one_if (is_of y (replaced x new a))) (one_if (is_of y a)) (one_if (is_of x a)) (ap one_if (of-own x new y a e)) (ap one_if (of-one x y a ne e)) (ap one_if e)

    other : is_of x a ≡ false → one_if (is_of y (replaced x new a)) ≡ one_if (is_of y a) + (if is_of y new then one_if (is_of x a) else 0)
    other e = left (is_of y new) (one_if (is_of y (replaced x new a))) (one_if (is_of y a)) (one_if (is_of x a)) (ap (λ (b : Atom). one_if (is_of y b)) (replaced-other x new a e)) (ap one_if e)

-- two such sums together
both : (u : Bool) (i j k m n o : ℕ) → i ≡ j + (if u then k else 0) → m ≡ n + (if u then o else 0) → i + m ≡ (j + n) + (if u then k + o else 0)
both true i j k m n o e f = omega arith
both false i j k m n o e f = omega arith

pub nothing : (u : Bool) → (if u then zero else zero) ≡ zero
nothing true = refl
nothing false = refl

pub class_size-changed : (view : List Atom) (x : ℕ) (new : Atom) (y : ℕ) → (y ≡ x → ⊥) → class_size (map (replaced x new) view) y ≡ class_size view y + (if is_of y new then class_size view x else 0)
class_size-changed [] x new y ne = omega (arith, nothing (is_of y new))
class_size-changed (a ∷ view) x new y ne =
    both (is_of y new) (one_if (is_of y (replaced x new a))) (one_if (is_of y a)) (one_if (is_of x a)) (class_size (map (replaced x new) view) y) (class_size view y) (class_size view x) (sum-replaced x new y a ne) (class_size-changed view x new y ne)

-- a list with the members of a class, and those of the class that it may have taken in
pub counted-changed : (view : List Atom) (x : ℕ) (new : Atom) (y : ℕ) (members more joined : List ℕ) → (y ≡ x → ⊥) → IsCounted view x more → IsCounted view y members → ((v : ℕ) → times v joined ≡ times v members + (if is_of y new then times v more else 0)) → IsCounted (map (replaced x new) view) y joined
counted-changed view x new y members more joined ne of_x of_y is_joined = record { inside = inside; outside = outside }
  where
    shorter : length (map (replaced x new) view) ≡ length view
    shorter = length-map view (replaced x new)

    same : (u : Bool) (i j k m n : ℕ) → i ≡ j → k ≡ m → n ≡ i + (if u then k else 0) → n ≡ j + (if u then m else 0)
    same true i j k m n e f g = omega arith
    same false i j k m n e f g = omega arith

    none : (u : Bool) (i j n : ℕ) → i ≡ 0 → j ≡ 0 → n ≡ i + (if u then j else 0) → n ≡ 0
    none true i j n e f g = omega arith
    none false i j n e f g = omega arith

    inside : (v : ℕ) → 1 ≤ v → v ≤ length (map (replaced x new) view) → times v joined ≡ one_if (is_of y (label_of (map (replaced x new) view) v))
    inside v low high =
        let within : v ≤ length view = omega (arith, shorter) in
        same (is_of y new) (times v members) (one_if (is_of y (label_of view v))) (times v more) (one_if (is_of x (label_of view v))) (times v joined) (of_y.inside v low within) (of_x.inside v low within) (is_joined v)
        ∙ sym (sum-replaced x new y (label_of view v) ne)
        ∙ ap (λ (a : Atom). one_if (is_of y a)) (sym (label_of-map (replaced x new) view v low within))

    outside : (v : ℕ) → (1 ≤ v → v ≤ length (map (replaced x new) view) → ⊥) → times v joined ≡ 0
    outside v out =
        let far : 1 ≤ v → v ≤ length view → ⊥ = λ low high. out low (omega (arith, shorter)) in
        none (is_of y new) (times v members) (times v more) (times v joined) (of_y.outside v far) (of_x.outside v far) (is_joined v)

-- no variable stands in the walks of two classes
pub counted-apart : (view : List Atom) (x y : ℕ) (of_x of_y : List ℕ) → (y ≡ x → ⊥) → IsCounted view x of_x → IsCounted view y of_y → (v : ℕ) → times v of_y + times v of_x ≤ 1
counted-apart view x y of_x of_y ne in_x in_y v =
    ⊎_elim (λ (low : v < 1). omega (arith, in_x.outside v (λ l h. omega arith), in_y.outside v (λ l h. omega arith)))
    (λ low. ⊎_elim (λ (high : length view < v). omega (arith, in_x.outside v (λ l h. omega arith), in_y.outside v (λ l h. omega arith)))
    (λ high. omega (arith, in_x.inside v low high, in_y.inside v low high, at_most (label_of view v))) (cases_lt (length view) v)) (cases_lt v 1)
  where
    one : (t : Bool) → one_if t ≤ 1
    one true = omega arith
    one false = omega arith

    at_most : (a : Atom) → one_if (is_of y a) + one_if (is_of x a) ≤ 1
    at_most a =
        ⊎_elim (λ (e : is_of x a ≡ true). omega (arith, one (is_of x a), ap one_if (of-one x y a ne e)))
        (λ e. omega (arith, one (is_of y a), ap one_if e)) (cases_Bool (is_of x a))
