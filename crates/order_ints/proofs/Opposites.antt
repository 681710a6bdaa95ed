-- In literals that ascend, a literal and its negation are neighbours.
use Rattle.std.proofs.Common.{◌≡◌, ◌≢◌, ℕ, ◌+◌, ◌<◌, ◌≤◌, Bool, true, false, not, ◌&&◌, ◌==◌, List, [], ◌∷◌, suc, zero, length, get_or, refl, sym, ap, ◌∙◌, subst, arith, add-one}
use Rattle.std.specs.Bool.{beq}
use Rattle.std.proofs.lemmas.Bool.{or_from, or_left, or_right, or_parts, true≢false}
use Rattle.std.proofs.lemmas.Bool.Decides.{nat_tests}
use Rattle.order_ints.specs.declared.literal.Lit.{Lit}
use Rattle.order_ints.specs.Truth.{not_lit}
use Rattle.order_ints.specs.OrderedClauses.{same_lit, has_lit, has_opposites, by_variable, VarsAbove, VarsAscend}
use Rattle.order_ints.proofs.LitOrder.{key, sign_key, Above, LitsAscend, LitsAscend-by_variable}

signs_opposite : (x y : ℕ) (a b : Bool) → x + x + sign_key a < y + y + sign_key b → x ≡ y → ((x == y) && beq (not a) b) ≡ true
signs_opposite x y true true h e = grind (arith, nat_tests)
signs_opposite x y true false h e = grind (arith, nat_tests)
signs_opposite x y false true h e = grind (arith, nat_tests)
signs_opposite x y false false h e = grind (arith, nat_tests)

-- of two that ascend and have one variable, the later is the earlier's negation
opposite : (l m : Lit) → key l < key m → l.var ≡ m.var → same_lit (not_lit l) m ≡ true
unfolding key
opposite l m h e = signs_opposite l.var m.var l.positive m.positive h e

signs_rise : (x y : ℕ) (a b : Bool) → x + x + sign_key a < y + y + sign_key b → x ≤ y
signs_rise x y true true h = omega arith
signs_rise x y true false h = omega arith
signs_rise x y false true h = omega arith
signs_rise x y false false h = omega arith

var_rises : (l m : Lit) → key l < key m → l.var ≤ m.var
unfolding key
var_rises l m h = signs_rise l.var m.var l.positive m.positive h

VarsAbove-from_Above : (v : ℕ) (m : Lit) (ms : List Lit) → v < m.var → Above (key m) ms → VarsAbove v ms
VarsAbove-from_Above v m [] h a = tt
VarsAbove-from_Above v m (n ∷ ns) h a =
    let up = var_rises m n a.0 in (omega (arith, up, h), VarsAbove-from_Above v m ns h a.1)

signs_apart : (x y : ℕ) (a b : Bool) → x < y → ((x == y) && b) ≡ false
signs_apart x y a b h = grind (arith, nat_tests)

-- the negation of a literal of a smaller variable is not among them
has_lit-VarsAbove : (l : Lit) (ms : List Lit) → VarsAbove l.var ms → has_lit (not_lit l) ms ≡ false
has_lit-VarsAbove l [] a = refl
has_lit-VarsAbove l (m ∷ ms) a =
    or_from (same_lit (not_lit l) m) (has_lit (not_lit l) ms) (signs_apart l.var m.var true (beq (not l.positive) m.positive) a.0) (has_lit-VarsAbove l ms a.1)

pub has_opposites-VarsAscend : (ls : List Lit) → VarsAscend ls → has_opposites ls ≡ false
has_opposites-VarsAscend [] a = refl
has_opposites-VarsAscend (l ∷ ls) a =
    or_from (has_lit (not_lit l) ls) (has_opposites ls) (has_lit-VarsAbove l ls a.0) (has_opposites-VarsAscend ls a.1)

-- neighbours of different variables ascend by variable
VarsAbove-apart : (l m : Lit) (ms : List Lit) → Above (key l) (m ∷ ms) → Above (key m) ms → l.var ≢ m.var → VarsAbove l.var (m ∷ ms)
VarsAbove-apart l m ms a b n =
    let up = var_rises l m a.0 in
    let lt : l.var < m.var = omega (arith, up, n) in
    (lt, VarsAbove-from_Above l.var m ms lt b)

pub VarsAscend-from_neighbours : (ls : List Lit) → LitsAscend ls → ((k : ℕ) (d : Lit) → k + 1 < length ls → (get_or ls k d).var ≢ (get_or ls (k + 1) d).var) → VarsAscend ls
VarsAscend-from_neighbours [] a n = tt
VarsAscend-from_neighbours (l ∷ []) a n = (tt, tt)
VarsAscend-from_neighbours (l ∷ m ∷ ms) a n =
    (VarsAbove-apart l m ms a.0 a.1.0 (λ e. n 0 l (omega arith) e), VarsAscend-from_neighbours (m ∷ ms) a.1 (λ k d h e. n (suc k) d (omega arith) (rest k d e)))
  where
    rest : (k : ℕ) (d : Lit) → (get_or (m ∷ ms) k d).var ≡ (get_or (m ∷ ms) (k + 1) d).var → (get_or (l ∷ m ∷ ms) (suc k) d).var ≡ (get_or (l ∷ m ∷ ms) (suc k + 1) d).var
    rest k d e = rw (add-one (suc k)) (rw (add-one k) at e)

-- literals that ascend without a literal and its negation ascend by variable
pub VarsAscend-from_opposites : (ls : List Lit) → LitsAscend ls → has_opposites ls ≡ false → VarsAscend ls
VarsAscend-from_opposites [] a n = tt
VarsAscend-from_opposites (l ∷ []) a n = (tt, tt)
VarsAscend-from_opposites (l ∷ m ∷ ms) a n =
    let p = or_parts (has_lit (not_lit l) (m ∷ ms)) (has_opposites (m ∷ ms)) n in
    (VarsAbove-apart l m ms a.0 a.1.0 (λ e. true≢false (sym (or_left (same_lit (not_lit l) m) (has_lit (not_lit l) ms) (opposite l m a.0.0 e)) ∙ p.0)), VarsAscend-from_opposites (m ∷ ms) a.1 p.1)

-- neighbours of one variable are a literal and its negation
pub has_opposites-neighbours : (ls : List Lit) (k : ℕ) (d : Lit) → LitsAscend ls → k + 1 < length ls → (get_or ls k d).var ≡ (get_or ls (k + 1) d).var → has_opposites ls ≡ true
has_opposites-neighbours [] k d a h e = absurd (omega arith)
has_opposites-neighbours (l ∷ []) k d a h e = absurd (omega arith)
has_opposites-neighbours (l ∷ m ∷ ms) zero d a h e =
    or_left (has_lit (not_lit l) (m ∷ ms)) (has_opposites (m ∷ ms)) (or_left (same_lit (not_lit l) m) (has_lit (not_lit l) ms) (opposite l m a.0.0 e))
has_opposites-neighbours (l ∷ m ∷ ms) (suc k) d a h e =
    or_right (has_lit (not_lit l) (m ∷ ms)) (has_opposites (m ∷ ms)) (has_opposites-neighbours (m ∷ ms) k d a.1 (omega arith) (rw (add-one k) (rw (add-one (suc k)) at e)))

-- what two neighbours of one variable show of literals in order
pub opposites_found : (ls xs : List Lit) (k j : ℕ) (d : Lit) → xs ≡ by_variable ls → j ≡ k + 1 → j < length xs → (get_or xs k d).var ≡ (get_or xs j d).var → true ≡ has_opposites xs
opposites_found ls xs k j d e n h v =
    sym (has_opposites-neighbours xs k d (subst LitsAscend (sym e) (LitsAscend-by_variable ls)) (omega (arith, h, n)) (v ∙ ap (λ i. (get_or xs i d).var) n))

-- what it shows that there are none
pub opposites_absent : (ls xs : List Lit) → xs ≡ by_variable ls → ((k : ℕ) (d : Lit) → k + 1 < length xs → (get_or xs k d).var ≢ (get_or xs (k + 1) d).var) → false ≡ has_opposites xs
opposites_absent ls xs e n = sym (has_opposites-VarsAscend xs (VarsAscend-from_neighbours xs (subst LitsAscend (sym e) (LitsAscend-by_variable ls)) n))
