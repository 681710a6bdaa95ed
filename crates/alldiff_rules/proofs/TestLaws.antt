-- Tests, and tests of conditions.
use Rattle.std.proofs.Common.{◌≡◌, ℕ, ◌<◌, Bool, true, false, not, ◌&&◌, List, [], ◌∷◌, length, ℤ, refl, ap, arith}
use Rattle.std.specs.Prelude.{nat_lt}
use Rattle.std.proofs.lemmas.Bool.{false≢true, eqb-true}
use Rattle.std.proofs.lemmas.Bool.Decides.{nat_tests}
use Rattle.std.proofs.lemmas.List.{nil_from_length}
use Rattle.order_ints.specs.declared.atom.Atom.{Atom}
use Rattle.order_ints.specs.declared.atom.Atom.TheVariants.{True}
use Rattle.order_ints.specs.declared.order_int.OrdInt.{OrdInt}
use Rattle.order_ints.specs.Same.{is_true}
use Rattle.order_ints.specs.Equality.{is_true-True}
use Rattle.order_ints.specs.OrderRange.{low_of}
use Rattle.order_ints.specs.OrderMade.{constant_of}
use Rattle.rule_base.specs.Constant.{is_constant}
use Rattle.alldiff_rules.specs.Members.{AreAllSure}
use Rattle.alldiff_rules.specs.RowLists.{are_all_sure}
use Rattle.alldiff_rules.proofs.Places.{and-left, and-right}

-- tests of conditions
pub all-sure : (cs : List Atom) → are_all_sure cs ≡ true → AreAllSure cs
all-sure [] e = tt
all-sure (c ∷ cs) e = (is_true-True c (and-left (is_true c) (are_all_sure cs) e), all-sure cs (and-right (is_true c) (are_all_sure cs) e))

pub both-true : (s t : Bool) → s ≡ true → t ≡ true → (s && t) ≡ true
both-true s t e f = λ i. e i && f i

pub true-is : (c : Atom) → c ≡ True → is_true c ≡ true
true-is c e = ap is_true e

pub sure-all : (cs : List Atom) → AreAllSure cs → are_all_sure cs ≡ true
sure-all [] h = refl
sure-all (c ∷ cs) h = both-true (is_true c) (are_all_sure cs) (true-is c h.0) (sure-all cs h.1)

pub ltb-true : (m n : ℕ) → nat_lt m n ≡ true → m < n
ltb-true m n e = grind (arith, nat_tests)

pub true-ltb : (m n : ℕ) → m < n → nat_lt m n ≡ true
true-ltb m n h = grind (arith, nat_tests)

-- a constant has no steps
pub constant-is : (a : OrdInt) → is_constant a ≡ true → a ≡ constant_of (low_of a)
constant-is a e = let none = nil_from_length a.steps (eqb-true (length a.steps) 0 e) in λ i. record { base = a.base; steps = none i }

pub is-constant : (a : OrdInt) (v : ℤ) → a ≡ constant_of v → is_constant a ≡ true
is-constant a v e = ap is_constant e

pub not-true : (t : Bool) → not t ≡ true → t ≡ false
not-true true e = absurd (false≢true e)
not-true false e = refl

pub false-not : (t : Bool) → t ≡ false → not t ≡ true
false-not t e = ap not e
