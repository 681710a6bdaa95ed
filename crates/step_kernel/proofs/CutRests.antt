-- What is left of a long list that is cut at its front is stable inside, and what variables it has there.
use Rattle.std.proofs.Common.{◌≡◌, ℕ, zero, suc, ◌+◌, ◌≤◌, Bool, ℤ, List, [], ◌∷◌, ◌++◌, drop, refl, sym, ap, subst, arith}
use Rattle.order_ints.specs.declared.atom.Atom.{Atom}
use Rattle.order_ints.specs.declared.order_int.OrdInt.{OrdInt}
use Rattle.core_forms.specs.declared.form.Core.{Core}
use Rattle.core_forms.specs.declared.form.Core.TheVariants.{Parity, Amo, Sum, Lex}
use Rattle.core_forms.specs.Edges.{InsideBelow}
use Rattle.core_forms.specs.Place.{CoreBelow, IntsBelow}
use Rattle.core_forms.specs.Totals.{before_last}
use Rattle.core_forms.proofs.EdgeLaws.{inside-more}
use Rattle.part_base.specs.declared.cut.Coming.{Coming}
use Rattle.part_base.specs.declared.cut.Coming.TheVariants.{Integer}
use Rattle.part_base.specs.Cuts.{CanCome, by_parity, by_amo, by_sum, by_words, longer_of, shorter_of}
use Rattle.step_kernel.specs.SplitAt.{most_inside}

-- ---- members that leave at the front, and one that comes behind

ints-dropped : (n i : ℕ) (xs : List OrdInt) → IntsBelow n xs → IntsBelow n (drop i xs)
ints-dropped n zero xs h = h
ints-dropped n (suc i) [] h = tt
ints-dropped n (suc i) (a ∷ xs) h = ints-dropped n i xs h.1

before-behind : (xs : List OrdInt) (a : OrdInt) → before_last (xs ++ a ∷ []) ≡ xs
before-behind [] a = refl
before-behind (x ∷ []) a = refl
before-behind (x ∷ y ∷ xs) a = ap (λ (ys : List OrdInt). x ∷ ys) (before-behind (y ∷ xs) a)

-- of a sum's members without the first two, and another one behind them, that one is the last
before-cut : (xs : List OrdInt) (a : OrdInt) → before_last (drop 2 (xs ++ a ∷ [])) ≡ drop 2 xs
before-cut [] a = refl
before-cut (x ∷ []) a = refl
before-cut (x ∷ y ∷ xs) a = before-behind xs a

-- ---- the variables inside of what is left

-- of a list of a kind, with so many variables before, a bound on those inside, and one on what is left
abbrev IsRestBelow : Coming → Atom → Core → ℕ → ℕ → ℕ → Type 0
IsRestBelow coming head core vars fresh top = CoreBelow (vars + 1) core → InsideBelow (top + 1) core
    → CoreBelow (vars + fresh + 1) (shorter_of head (longer_of coming core)) → most_inside vars fresh core ≤ top
    → InsideBelow (top + 1) (shorter_of head (longer_of coming core))

rest-parity : (coming : Coming) (head : Atom) (ls : List Atom) (odd : Bool) (vars fresh top : ℕ) → IsRestBelow coming head (Parity ls odd) vars fresh top
rest-parity coming head ls odd vars fresh top below inside rest most =
    inside-more (vars + fresh + 1) (top + 1) (shorter_of head (longer_of coming (Parity ls odd))) (omega (arith, most)) rest

rest-amo : (coming : Coming) (head : Atom) (ls : List Atom) (vars fresh top : ℕ) → IsRestBelow coming head (Amo ls) vars fresh top
rest-amo coming head ls vars fresh top below inside rest most =
    inside-more (vars + fresh + 1) (top + 1) (shorter_of head (longer_of coming (Amo ls))) (omega (arith, most)) rest

rest-sum : (a : OrdInt) (head : Atom) (xs : List OrdInt) (k : ℤ) (vars fresh top : ℕ) → IsRestBelow (Integer a) head (Sum xs k) vars fresh top
rest-sum a head xs k vars fresh top below inside rest most =
    inside-more (vars + 1) (top + 1) (Sum (drop 2 (xs ++ a ∷ [])) k) (omega (arith, most))
    (subst (IntsBelow (vars + 1)) (sym (before-cut xs a)) (ints-dropped (vars + 1) 2 xs below.1))

rest-words : (coming : Coming) (head r : Atom) (strict : Bool) (front back : List OrdInt) (vars fresh top : ℕ)
    → IsRestBelow coming head (Lex r strict front back) vars fresh top
rest-words coming head r strict front back vars fresh top below inside rest most =
    (ints-dropped (top + 1) 1 front inside.0, ints-dropped (top + 1) 1 back inside.1)

pub rest-inside : (coming : Coming) (head : Atom) (core : Core) (vars fresh top : ℕ) → CanCome coming core → IsRestBelow coming head core vars fresh top
rest-inside coming head core vars fresh top (by_parity a ls odd e is) =
    subst (λ (x : Core). IsRestBelow coming head x vars fresh top) (sym is) (rest-parity coming head ls odd vars fresh top)
rest-inside coming head core vars fresh top (by_amo a ls e is) =
    subst (λ (x : Core). IsRestBelow coming head x vars fresh top) (sym is) (rest-amo coming head ls vars fresh top)
rest-inside coming head core vars fresh top (by_sum a xs k e is) =
    subst (λ (x : Core). IsRestBelow coming head x vars fresh top) (sym is)
    (subst (λ (c : Coming). IsRestBelow c head (Sum xs k) vars fresh top) (sym e) (rest-sum a head xs k vars fresh top))
rest-inside coming head core vars fresh top (by_words r strict front back is) =
    subst (λ (x : Core). IsRestBelow coming head x vars fresh top) (sym is) (rest-words coming head r strict front back vars fresh top)
