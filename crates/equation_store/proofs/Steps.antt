-- Walks along links, and two rings whose first links are exchanged.
use Rattle.std.proofs.Common.{◌≡◌, ◌≢◌, ℕ, zero, suc, ◌+◌, ◌≤◌, ◌<◌, List, [], ◌∷◌, ◌++◌, length, get_or, refl, ap, sym, ◌∙◌, arith, ⊎_elim, Some, None}
use Rattle.std.specs.Prelude.{if◌then◌else◌, ◌==◌}
use Rattle.std.proofs.lemmas.Bool.{cases_eq, eq-eqb, ne_eqb, cond-true, cond-false}
use Rattle.index_ring.specs.Lists.{times, first_in, after_in}
use Rattle.index_ring.proofs.Times.{times-same, times-other, times-grows, times-append}
use Rattle.equation_store.specs.Ring.{walk_of, place_after}

pub length-walk_of : (f : ℕ → ℕ) (v n : ℕ) → length (walk_of f v n) ≡ n
length-walk_of f v zero = refl
length-walk_of f v (suc n) = ap suc (length-walk_of f (f v) n)

pub get_or-walk_of : (f : ℕ → ℕ) (v n k : ℕ) → k < n → get_or (walk_of f v n) k 0 ≡ place_after f v k
get_or-walk_of f v zero k h = absurd (omega arith)
get_or-walk_of f v (suc n) zero h = refl
get_or-walk_of f v (suc n) (suc k) h = get_or-walk_of f (f v) n k (omega arith)

pub place_after-more : (f : ℕ → ℕ) (v k : ℕ) → place_after f v (k + 1) ≡ f (place_after f v k)
place_after-more f v zero = refl
place_after-more f v (suc k) = let e : suc k + 1 ≡ suc (k + 1) = omega arith in ap (place_after f v) e ∙ place_after-more f (f v) k

walk_of-plus : (f : ℕ → ℕ) (v m n : ℕ) → walk_of f v (m + n) ≡ walk_of f v m ++ walk_of f (place_after f v m) n
walk_of-plus f v zero n = let e : 0 + n ≡ n = omega arith in ap (walk_of f v) e
walk_of-plus f v (suc m) n =
    let e : suc m + n ≡ suc (m + n) = omega arith in
    ap (walk_of f v) e ∙ ap (λ (list : List ℕ). v ∷ list) (walk_of-plus f (f v) m n)

place_after-plus : (f : ℕ → ℕ) (v m n : ℕ) → place_after f v (m + n) ≡ place_after f (place_after f v m) n
place_after-plus f v zero n = let e : 0 + n ≡ n = omega arith in ap (place_after f v) e
place_after-plus f v (suc m) n = let e : suc m + n ≡ suc (m + n) = omega arith in ap (place_after f v) e ∙ place_after-plus f (f v) m n

-- links that are the same at each member of a walk
pub walk_of-same : (f g : ℕ → ℕ) (v n : ℕ) → ((u : ℕ) → 1 ≤ times u (walk_of f v n) → g u ≡ f u) → walk_of g v n ≡ walk_of f v n
walk_of-same f g v zero h = refl
walk_of-same f g v (suc n) h =
    ap (λ (list : List ℕ). v ∷ list)
    (ap (λ (w : ℕ). walk_of g w n) (h v (omega (arith, times-same v v (walk_of f (f v) n) refl)))
    ∙ walk_of-same f g (f v) n (λ u here. h u (omega (arith, here, times-grows u v (walk_of f (f v) n)))))

pub place_after-same : (f g : ℕ → ℕ) (v n : ℕ) → ((u : ℕ) → 1 ≤ times u (walk_of f v n) → g u ≡ f u) → place_after g v n ≡ place_after f v n
place_after-same f g v zero h = refl
place_after-same f g v (suc n) h =
    ap (λ (w : ℕ). place_after g w n) (h v (omega (arith, times-same v v (walk_of f (f v) n) refl)))
    ∙ place_after-same f g (f v) n (λ u here. h u (omega (arith, here, times-grows u v (walk_of f (f v) n))))

-- a walk in which its first member stands has members
pub some-steps : (f : ℕ → ℕ) (v n : ℕ) → times v (walk_of f v n) ≡ 1 → 1 ≤ n
some-steps f v zero h = omega (arith, h)
some-steps f v (suc n) h = omega arith

pub first_in-walk_of : (f : ℕ → ℕ) (v n : ℕ) → 1 ≤ n → first_in (walk_of f v n) ≡ Some v
first_in-walk_of f v zero h = absurd (omega arith)
first_in-walk_of f v (suc n) h = refl

-- the first of the members that are left before a walk comes to e
first-left : (f : ℕ → ℕ) (w e n : ℕ) → place_after f w n ≡ e → times e (walk_of f w n) ≡ 0 → first_in (walk_of f w n) ≡ (if w == e then None else Some w)
first-left f w e zero back none = sym (cond-true (w == e) None (Some w) (eq-eqb w e back))
first-left f w e (suc n) back none =
    sym (cond-false (w == e) None (Some w) (ne_eqb w e (λ same. omega (arith, none, times-same e w (walk_of f (f w) n) same))))

-- behind the first member
after_in-head : (f : ℕ → ℕ) (u e v n : ℕ) → v ≡ u → place_after f (f v) n ≡ e → times e (walk_of f (f v) n) ≡ 0 → after_in u (walk_of f v (suc n)) ≡ (if f u == e then None else Some (f u))
after_in-head f u e v n same back none =
    cond-true (v == u) _ _ (eq-eqb v u same)
    ∙ first-left f (f v) e n back none
    ∙ ap (λ (w : ℕ). if f w == e then None else Some (f w)) same

-- behind a member comes the one that its link names, unless the walk is at its end
pub after_in-left : (f : ℕ → ℕ) (u e v n : ℕ) → 1 ≤ times u (walk_of f v (suc n)) → place_after f (f v) n ≡ e → times e (walk_of f (f v) n) ≡ 0 → after_in u (walk_of f v (suc n)) ≡ (if f u == e then None else Some (f u))
after_in-left f u e v zero here back none =
    ⊎_elim (λ (same : v ≡ u). after_in-head f u e v zero same back none)
    (λ other. absurd (omega (arith, here, times-other u v [] other))) (cases_eq v u)
after_in-left f u e v (suc n) here back none =
    ⊎_elim (λ (same : v ≡ u). after_in-head f u e v (suc n) same back none)
    (λ other. cond-false (v == u) _ _ (ne_eqb v u other)
    ∙ after_in-left f u e (f v) n (omega (arith, here, times-other u v (walk_of f (f v) (suc n)) other)) back (omega (arith, none, times-grows e (f v) (walk_of f (f (f v)) n)))) (cases_eq v u)

-- the member behind another one in a ring from x on
pub after_in-ring : (f : ℕ → ℕ) (x n u : ℕ) → times x (walk_of f x n) ≡ 1 → place_after f x n ≡ x → 1 ≤ times u (walk_of f x n) → after_in u (walk_of f x n) ≡ (if f u == x then None else Some (f u))
after_in-ring f x zero u once back here = absurd (omega (arith, here))
after_in-ring f x (suc n) u once back here =
    after_in-left f u x x n here back (omega (arith, once, times-same x x (walk_of f (f x) n) refl))

-- a ring that has taken in another one
pub record IsOneRing (f g : ℕ → ℕ) (w x n m : ℕ) : Type 0 where
  pub members : (u : ℕ) → times u (walk_of g w (n + m)) ≡ times u (walk_of f w n) + times u (walk_of f x m)
  pub closed : place_after g w (n + m) ≡ w

-- two rings without a common member, whose first links g exchanges
module _ (f g : ℕ → ℕ) (w x p q : ℕ) (at_w : g w ≡ f x) (at_x : g x ≡ f w) (others : (u : ℕ) → 1 ≤ times u (w ∷ walk_of f (f w) p) + times u (x ∷ walk_of f (f x) q) → u ≢ w → u ≢ x → g u ≡ f u) (back_w : place_after f (f w) p ≡ w) (back_x : place_after f (f x) q ≡ x) (apart : (u : ℕ) → times u (w ∷ walk_of f (f w) p) + times u (x ∷ walk_of f (f x) q) ≤ 1) where
  keeps-first : (u : ℕ) → 1 ≤ times u (walk_of f (f w) p) → g u ≡ f u
  keeps-first u here =
      others u (omega (arith, here, times-grows u w (walk_of f (f w) p)))
      (λ e. omega (arith, here, apart u, times-same u w (walk_of f (f w) p) (sym e)))
      (λ e. omega (arith, here, apart u, times-grows u w (walk_of f (f w) p), times-same u x (walk_of f (f x) q) (sym e)))

  keeps-second : (u : ℕ) → 1 ≤ times u (walk_of f (f x) q) → g u ≡ f u
  keeps-second u here =
      others u (omega (arith, here, times-grows u x (walk_of f (f x) q)))
      (λ e. omega (arith, here, apart u, times-grows u x (walk_of f (f x) q), times-same u w (walk_of f (f w) p) (sym e)))
      (λ e. omega (arith, here, apart u, times-same u x (walk_of f (f x) q) (sym e)))

  -- behind w come the members behind x
  place-x : place_after g (g w) q ≡ x
  place-x = ap (λ (v : ℕ). place_after g v q) at_w ∙ place_after-same f g (f x) q keeps-second ∙ back_x

  from-w : walk_of g (g w) q ≡ walk_of f (f x) q
  from-w = ap (λ (v : ℕ). walk_of g v q) at_w ∙ walk_of-same f g (f x) q keeps-second

  -- and behind x those behind w
  from-x : walk_of g x (suc p) ≡ x ∷ walk_of f (f w) p
  from-x = ap (λ (list : List ℕ). x ∷ list) (ap (λ (v : ℕ). walk_of g v p) at_x ∙ walk_of-same f g (f w) p keeps-first)

  place-w : place_after g x (suc p) ≡ w
  place-w = ap (λ (v : ℕ). place_after g v p) at_x ∙ place_after-same f g (f w) p keeps-first ∙ back_w

  whole : walk_of g w (suc (q + suc p)) ≡ w ∷ (walk_of f (f x) q ++ x ∷ walk_of f (f w) p)
  whole =
      ap (λ (list : List ℕ). w ∷ list)
      (walk_of-plus g (g w) q (suc p)
      ∙ ap (λ (v : ℕ). walk_of g (g w) q ++ walk_of g v (suc p)) place-x
      ∙ ap (λ (list : List ℕ). list ++ walk_of g x (suc p)) from-w
      ∙ ap (λ (list : List ℕ). walk_of f (f x) q ++ list) from-x)

  back : place_after g w (suc (q + suc p)) ≡ w
  back = place_after-plus g (g w) q (suc p) ∙ ap (λ (v : ℕ). place_after g v (suc p)) place-x ∙ place-w

  -- how often u stands before a list
  times-cons : (u v : ℕ) (list : List ℕ) → times u (v ∷ list) ≡ (if v == u then 1 else 0) + times u list
  times-cons u v list = refl

  pub one-ring : IsOneRing f g w x (suc p) (suc q)
  one-ring = let e : suc p + suc q ≡ suc (q + suc p) = omega arith in record {
    members = λ u. ap (λ (n : ℕ). times u (walk_of g w n)) e ∙ ap (times u) whole
        ∙ omega (arith, times-cons u w (walk_of f (f x) q ++ x ∷ walk_of f (f w) p), times-append u (walk_of f (f x) q) (x ∷ walk_of f (f w) p), times-cons u x (walk_of f (f w) p), times-cons u w (walk_of f (f w) p), times-cons u x (walk_of f (f x) q));
    closed = ap (place_after g w) e ∙ back;
  }

-- the same of rings from their sizes
pub joins : (f g : ℕ → ℕ) (w x n m : ℕ) → g w ≡ f x → g x ≡ f w → ((u : ℕ) → 1 ≤ times u (walk_of f w n) + times u (walk_of f x m) → u ≢ w → u ≢ x → g u ≡ f u) → 1 ≤ n → 1 ≤ m → place_after f w n ≡ w → place_after f x m ≡ x → ((u : ℕ) → times u (walk_of f w n) + times u (walk_of f x m) ≤ 1) → IsOneRing f g w x n m
joins f g w x zero m at_w at_x others some_w some_x back_w back_x apart = absurd (omega arith)
joins f g w x (suc p) zero at_w at_x others some_w some_x back_w back_x apart = absurd (omega arith)
joins f g w x (suc p) (suc q) at_w at_x others some_w some_x back_w back_x apart = one-ring f g w x p q at_w at_x others back_w back_x apart
