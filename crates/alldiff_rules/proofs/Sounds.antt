-- Members by their places: their limits, and what kind they are.
use Rattle.std.proofs.Common.{◌≡◌, ℕ, zero, suc, ◌<◌, ◌^◌, Bool, cond, List, [], ◌∷◌, length, get_or, ℤ, pos, ◌+ℤ◌, to_z, of_z, refl, sym, ap, ◌∙◌, arith, Option}
use Rattle.std.specs.Prelude.{unsigned_abs}
use Rattle.std.specs.Option.{option_or}
use Rattle.std.specs.Int.{w128}
use Rattle.std.proofs.lemmas.Int.{ints}
use Rattle.order_ints.specs.declared.atom.Atom.{Atom}
use Rattle.order_ints.specs.declared.order_int.OrdInt.{OrdInt}
use Rattle.order_ints.specs.declared.atom.Atom.TheVariants.{True, False}
use Rattle.order_ints.specs.OrderRange.{low_of, high_of}
use Rattle.order_ints.specs.Same.{is_true}
use Rattle.core_forms.specs.WellFormed.{IsSound, AreSound}
use Rattle.core_forms.proofs.Bounds.{wide_bits}
use Rattle.rule_base.specs.declared.sought.SoughtEquation.{SoughtEquation}
use Rattle.rule_base.specs.Pairs.{first_sought, only_if}
use Rattle.rule_base.specs.Stated.{at_least, is_below}
use Rattle.rule_base.proofs.PairLaws.{both-found}
use Rattle.alldiff_rules.specs.Members.{choice_of}
use Rattle.alldiff_rules.specs.Rows.{lex_equations}

pub sound-at : (xs : List OrdInt) (i : ℕ) (d : OrdInt) → i < length xs → AreSound xs → IsSound (get_or xs i d)
sound-at [] i d lt sound = absurd (omega arith)
sound-at (a ∷ xs) zero d lt sound = sound.0
sound-at (a ∷ xs) (suc i) d lt sound = sound-at xs i d (omega arith) sound.1

-- a list of one member
pub one_member : {X : Type 0} (xs : List X) (x : X) → length xs ≡ 1 → x ≡ get_or xs 0 x → xs ≡ x ∷ []
one_member [] x one is = absurd (omega arith)
one_member (y ∷ []) x one is = ap (λ z. z ∷ []) (sym is)
one_member (y ∷ z ∷ xs) x one is = absurd (omega arith)

-- values back from their bits
pub same_value : (v w : ℤ) → v ≡ w → unsigned_abs w < 2 ^ 100 → to_z w128 (of_z w128 v) ≡ w
same_value v w e small = wide_bits v (omega (arith, ints, e, small)) ∙ e

pub next_value : (v n w : ℤ) → v ≡ w → unsigned_abs w < 2 ^ 100 → n ≡ to_z w128 (of_z w128 v) +ℤ pos 1 → to_z w128 (of_z w128 n) ≡ w +ℤ pos 1
next_value v n w e small is =
    let next : n ≡ w +ℤ pos 1 = is ∙ ap (λ x. x +ℤ pos 1) (same_value v w e small) in
    wide_bits n (omega (arith, ints, next, small)) ∙ next

-- what the first integers of two lists say, one search after the other
pub first-found : (sought : SoughtEquation) (a b : OrdInt) (v w : ℤ) (o p : Option (Atom × Atom)) → v ≡ high_of b +ℤ pos 1 → w ≡ low_of a → o ≡ first_sought sought (is_below a v ∷ []) → p ≡ first_sought sought (at_least b w ∷ []) → option_or o p ≡ first_sought sought (is_below a (high_of b +ℤ pos 1) ∷ at_least b (low_of a) ∷ [])
first-found sought a b v w o p top bottom first second =
    both-found sought (is_below a (high_of b +ℤ pos 1) ∷ []) (at_least b (low_of a) ∷ []) o p
    (first ∙ ap (λ x. first_sought sought (is_below a x ∷ [])) top) (second ∙ ap (λ x. first_sought sought (at_least b x ∷ [])) bottom)

-- the search along the equations of two lists of one length
pub lex-empty : (sought : SoughtEquation) (r : Atom) (strict : Bool) (front back : List OrdInt) → length front ≡ 0 → length front ≡ length back → first_sought sought (lex_equations r strict front back) ≡ first_sought sought ((r, cond strict False True) ∷ [])
lex-empty sought r strict [] [] none same = refl
lex-empty sought r strict [] (y ∷ back) none same = absurd (omega arith)
lex-empty sought r strict (x ∷ front) back none same = absurd (omega arith)

pub lex-more : (sought : SoughtEquation) (r : Atom) (strict : Bool) (front back : List OrdInt) (x y : OrdInt) → 0 < length front → length front ≡ length back → x ≡ get_or front 0 x → y ≡ get_or back 0 y → lex_equations r strict front back ≡ only_if (is_true r) (is_below x (high_of y +ℤ pos 1) ∷ at_least y (low_of x) ∷ [])
lex-more sought r strict [] back x y some same is_x is_y = absurd (omega arith)
lex-more sought r strict (u ∷ front) [] x y some same is_x is_y = absurd (omega arith)
lex-more sought r strict (u ∷ front) (w ∷ back) x y some same is_x is_y =
    λ i. only_if (is_true r) (is_below (sym is_x i) (high_of (sym is_y i) +ℤ pos 1) ∷ at_least (sym is_y i) (low_of (sym is_x i)) ∷ [])

-- which key a choice has
abbrev head_weight : List (Atom × ℕ) → ℕ
head_weight [] = 0
head_weight (s ∷ steps) = s.1

pub same_choice : (key : ℤ × ℕ) (low : ℤ) (weight : ℕ) (p q : Atom) → choice_of key.0 p key.1 ≡ choice_of low q weight → key ≡ (low, weight)
same_choice key low weight p q e =
    let lows : key.0 ≡ low = ap (λ (a : OrdInt). a.base) e in
    let above : key.1 ≡ weight = ap (λ (a : OrdInt). head_weight a.steps) e in
    λ i. (lows i, above i)
