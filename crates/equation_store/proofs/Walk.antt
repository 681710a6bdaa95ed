-- What a walk of a class tells of its members.
use Rattle.std.proofs.Common.{◌≡◌, ℕ, ◌+◌, ◌≤◌, Bool, true, false, cond, List, [], ◌∷◌, length, refl, ap, sym, ◌∙◌, arith, ⊎_elim, inl, inr, Option, Some, None}
use Rattle.std.specs.Prelude.{if◌then◌else◌, ◌==◌, ◌⊎◌, count_by, IfSome}
use Rattle.std.proofs.lemmas.Bool.{false≢true, cases_lt, cases_Bool, eq-eqb, ne_eqb, cond-true, cond-false}
use Rattle.std.proofs.lemmas.List.Sums.{sum_by-cons}
use Rattle.order_ints.specs.declared.atom.Atom.{Atom}
use Rattle.order_ints.specs.View.{label_of}
use Rattle.equation_store.specs.Class.{is_of, IsMember, IsWalk, first_in, after_in}

-- how often a variable stands in a list
abbrev times : ℕ → List ℕ → ℕ
times v walk = count_by (λ w. w == v) walk

times-cons : (v w : ℕ) (walk : List ℕ) → times v (w ∷ walk) ≡ (if w == v then 1 else 0) + times v walk
times-cons v w walk = sum_by-cons (λ (u : ℕ). cond (u == v) 1 0) w walk

times-same : (v w : ℕ) (walk : List ℕ) → w ≡ v → times v (w ∷ walk) ≡ 1 + times v walk
times-same v w walk e = times-cons v w walk ∙ ap (λ (n : ℕ). n + times v walk) (cond-true _ 1 0 (eq-eqb w v e))

times-other : (v w : ℕ) (walk : List ℕ) → (w ≡ v → ⊥) → times v (w ∷ walk) ≡ times v walk
times-other v w walk ne =
    times-cons v w walk ∙ ap (λ (n : ℕ). n + times v walk) (cond-false _ 1 0 (ne_eqb w v ne)) ∙ (omega arith)

-- whether a variable is a member can be told
pub cases_member : (view : List Atom) (x v : ℕ) → IsMember view x v ⊎ ¬ IsMember view x v
cases_member view x v = ⊎_elim (λ h. inr (λ m. omega (arith, m.0))) (λ low. ⊎_elim (λ h. inr (λ m. omega (arith, m.1))) (λ high. ⊎_elim (λ e. inl (low, high, e)) (λ e. inr (λ m. false≢true (sym e ∙ m.2))) (cases_Bool (is_of x (label_of view v)))) (cases_lt (length view) v)) (cases_lt v 1)

-- what stands in a walk is a member
first_in-times : (walk : List ℕ) (w : ℕ) → first_in walk ≡ Some w → 1 ≤ times w walk
first_in-times [] w e = cc
first_in-times (u ∷ walk) w e = let same : u ≡ w = cc in omega (arith, times-same w u walk same)

times-grows : (v w : ℕ) (walk : List ℕ) → times v walk ≤ times v (w ∷ walk)
times-grows v w walk = omega (arith, times-cons v w walk)

after_in-times : (v : ℕ) (walk : List ℕ) (w : ℕ) → after_in v walk ≡ Some w → 1 ≤ times w walk
after_in-times v [] w e = cc
after_in-times v (u ∷ walk) w e = omega (arith, by_test (u == v) (λ h. after_in-times v walk w h) e, times-grows w u walk)
  where
    by_test : (t : Bool) → (after_in v walk ≡ Some w → 1 ≤ times w walk) → (if t then first_in walk else after_in v walk) ≡ Some w → 1 ≤ times w walk
    by_test true later h = first_in-times walk w h
    by_test false later h = later h

pub member_from_times : (view : List Atom) (x : ℕ) (walk : List ℕ) (w : ℕ) → IsWalk view x walk → 1 ≤ times w walk → IsMember view x w
member_from_times view x walk w h here = ⊎_elim (λ m. m) (λ ne. absurd (omega (arith, h.others w ne))) (cases_member view x w)

pub after_in-member : (view : List Atom) (x v : ℕ) (walk : List ℕ) → IsWalk view x walk → IfSome (after_in v walk) (IsMember view x)
after_in-member view x v walk h = by_case (after_in v walk) (λ w e. after_in-times v walk w e)
  where
    by_case : (o : Option ℕ) → ((w : ℕ) → o ≡ Some w → 1 ≤ times w walk) → IfSome o (IsMember view x)
    by_case None here = tt
    by_case (Some w) here = member_from_times view x walk w h (here w refl)
