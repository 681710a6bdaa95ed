-- What the entries of a map are worth, and where their variables are.
use Rattle.std.proofs.Common.{◌≡◌, ℕ, zero, suc, ◌≤◌, ℤ, pos, ◌≤ℤ◌, lit<, Bool, true, false, not, List, [], ◌∷◌, ◌++◌, length, Some, refl, sym, ap, subst, ◌∙◌, arith}
use Rattle.std.specs.Prelude.{slice_get, unsigned_abs, ◌-ℤ◌, if◌then◌else◌}
use Rattle.std.specs.Ordering.{int_eq}
use Rattle.std.proofs.lemmas.Int.{ints}
use Rattle.order_ints.specs.declared.atom.Atom.{Atom}
use Rattle.order_ints.specs.declared.atom.Atom.TheVariants.{True, False}
use Rattle.order_ints.specs.declared.order_int.OrdInt.{OrdInt}
use Rattle.order_ints.specs.declared.order_int.MapValue.{MapValue}
use Rattle.order_ints.specs.declared.order_int.MapValue.TheVariants as entry
use Rattle.order_ints.specs.Truth.{Valuation, Agree, atom_truth, not_atom}
use Rattle.order_ints.specs.Place.{AtomBelow, AtomsBelow}
use Rattle.order_ints.specs.OrderValue.{value_of, IsOrdered}
use Rattle.order_ints.specs.OrderMade.{constant_of}
use Rattle.order_ints.specs.OrderRange.{IntBelow, IsBounded, low_of}
use Rattle.order_ints.specs.Numbers as numbers
use Rattle.order_ints.proofs.Truths.{atom_truth-not_atom, atom_truth-agree, AtomBelow-not_atom}
use Rattle.order_ints.proofs.Gains.{value_of-agree, AtomBelow-more, StepsBelow-more}
use Rattle.core_cost.specs.declared.shape.Shape.{Shape}
use Rattle.core_cost.specs.Sums.{unit_steps}
use Rattle.core_forms.specs.Truths.{truths}
use Rattle.core_forms.specs.Values.{values, all_ordered}
use Rattle.core_forms.specs.Place.{IntsBelow}
use Rattle.core_forms.specs.WellFormed.{IsSound, AreSound, greatest_abs}
use Rattle.model_meaning.specs.declared.model.Decl.{Decl}
use Rattle.model_meaning.specs.declared.model.Kind.{Kind}
use Rattle.model_meaning.specs.declared.model.Kind.TheVariants as kind
use Rattle.model_meaning.specs.declared.what.BoolTerm.{BoolTerm}
use Rattle.model_meaning.specs.declared.what.BoolTerm.TheVariants as bool_term
use Rattle.model_meaning.specs.declared.what.IntTerm.{IntTerm}
use Rattle.model_meaning.specs.declared.what.IntTerm.TheVariants as int_term
use Rattle.model_meaning.specs.Domains.{at_least_zero}
use Rattle.model_meaning.specs.Terms.{value_at, is_one, truth_of, number_of, truths_of, numbers_of}
use Rattle.model_meaning.specs.Limits.{TermInLimit, TermsInLimit}
use Rattle.model_meaning.specs.WellTyped.{IsInt, IsTruthAt, IsNumberAt, TruthFits, NumberFits, TruthsFit, NumbersFit, IsAtLeast}
use Rattle.model_meaning.specs.Places as scope
use Rattle.statement_lower.specs.Terms.{atom_at, atom_of, atoms_of, integer_at, integer_of, integers_of}
use Rattle.value_lists.specs.ValueLists.{first_of, last_of, shape_of as listed_shape}
use Rattle.name_map.specs.Fits.{IntegerFits, EntryFits, EntriesFit}
use Rattle.statement_lower.specs.Entries.{AreOrdered, AreInLimit}

-- More variables.

IntegerFits-more : (n m : ℕ) (low high : ℤ) (s : Shape) (a : OrdInt) → n ≤ m → IntegerFits n low high s a → IntegerFits m low high s a
IntegerFits-more n m low high s a le h = record {
  below = StepsBelow-more n m a.steps le h.below;
  sound = h.sound;
  least = h.least;
  greatest = h.greatest;
  shape = h.shape;
  low_in_limit = h.low_in_limit;
  high_in_limit = h.high_in_limit;
}

EntryFits-more : (n m : ℕ) (k : Kind) (e : MapValue) → n ≤ m → EntryFits n k e → EntryFits m k e
EntryFits-more n m kind.Bool (entry.Bool a) le h = AtomBelow-more n m a le h
EntryFits-more n m kind.Bool (entry.Int a) le h = absurd h
EntryFits-more n m (kind.Range low high) (entry.Bool a) le h = absurd h
EntryFits-more n m (kind.Range low high) (entry.Int a) le h = IntegerFits-more n m low high (unit_steps (at_least_zero (high -ℤ low))) a le h
EntryFits-more n m (kind.Listed vs) (entry.Bool a) le h = absurd h
EntryFits-more n m (kind.Listed vs) (entry.Int a) le h = IntegerFits-more n m (first_of vs) (last_of vs) (listed_shape vs) a le h

pub EntriesFit-more : (n m : ℕ) (ds : List Decl) (entries : List MapValue) → n ≤ m → EntriesFit n ds entries → EntriesFit m ds entries
EntriesFit-more n m [] [] le h = tt
EntriesFit-more n m [] (e ∷ entries) le h = absurd h
EntriesFit-more n m (d ∷ ds) [] le h = absurd h
EntriesFit-more n m (d ∷ ds) (e ∷ entries) le h = (EntryFits-more n m d.kind e le h.0, EntriesFit-more n m ds entries le h.1)

-- One more entry.

pub EntriesFit-append : (n : ℕ) (ds : List Decl) (entries : List MapValue) (d : Decl) (e : MapValue) → EntriesFit n ds entries → EntryFits n d.kind e → EntriesFit n (ds ++ d ∷ []) (entries ++ e ∷ [])
EntriesFit-append n [] [] d e h k = (k, tt)
EntriesFit-append n [] (x ∷ entries) d e h k = absurd h
EntriesFit-append n (c ∷ ds) [] d e h k = absurd h
EntriesFit-append n (c ∷ ds) (x ∷ entries) d e h k = (h.0, EntriesFit-append n ds entries d e h.1 k)

pub numbers_of-append : (σ : Valuation) (entries : List MapValue) (e : MapValue) → numbers.numbers_of σ (entries ++ e ∷ []) ≡ numbers.numbers_of σ entries ++ numbers.number_of σ e ∷ []
numbers_of-append σ [] e = refl
numbers_of-append σ (x ∷ entries) e = ap (λ ns. numbers.number_of σ x ∷ ns) (numbers_of-append σ entries e)

pub AreOrdered-append : (σ : Valuation) (entries more : List MapValue) → AreOrdered σ entries → AreOrdered σ more → AreOrdered σ (entries ++ more)
AreOrdered-append σ [] more h k = k
AreOrdered-append σ (entry.Bool a ∷ entries) more h k = AreOrdered-append σ entries more h k
AreOrdered-append σ (entry.Int a ∷ entries) more h k = (h.0, AreOrdered-append σ entries more h.1 k)

pub length-numbers_of : (σ : Valuation) (n : ℕ) (ds : List Decl) (entries : List MapValue) → EntriesFit n ds entries → length (numbers.numbers_of σ entries) ≡ length ds
length-numbers_of σ n [] [] h = refl
length-numbers_of σ n [] (e ∷ entries) h = absurd h
length-numbers_of σ n (d ∷ ds) [] h = absurd h
length-numbers_of σ n (d ∷ ds) (e ∷ entries) h = ap suc (length-numbers_of σ n ds entries h.1)

-- Two valuations that agree below n give the same numbers.

number_of-agree : (n : ℕ) (σ τ : Valuation) (k : Kind) (e : MapValue) → Agree n σ τ → EntryFits n k e → numbers.number_of σ e ≡ numbers.number_of τ e
number_of-agree n σ τ kind.Bool (entry.Bool a) same h = ap (λ (t : Bool). if t then pos 1 else pos 0) (atom_truth-agree n σ τ a same h)
number_of-agree n σ τ kind.Bool (entry.Int a) same h = absurd h
number_of-agree n σ τ (kind.Range low high) (entry.Bool a) same h = absurd h
number_of-agree n σ τ (kind.Range low high) (entry.Int a) same h = value_of-agree n σ τ a same h.below
number_of-agree n σ τ (kind.Listed vs) (entry.Bool a) same h = absurd h
number_of-agree n σ τ (kind.Listed vs) (entry.Int a) same h = value_of-agree n σ τ a same h.below

pub numbers_of-agree : (n : ℕ) (σ τ : Valuation) (ds : List Decl) (entries : List MapValue) → Agree n σ τ → EntriesFit n ds entries → numbers.numbers_of σ entries ≡ numbers.numbers_of τ entries
numbers_of-agree n σ τ [] [] same h = refl
numbers_of-agree n σ τ [] (e ∷ entries) same h = absurd h
numbers_of-agree n σ τ (d ∷ ds) [] same h = absurd h
numbers_of-agree n σ τ (d ∷ ds) (e ∷ entries) same h = rw (number_of-agree n σ τ d.kind e same h.0, numbers_of-agree n σ τ ds entries same h.1) refl

-- A Boolean term.

one_of_truth : (t : Bool) → int_eq (if t then pos 1 else pos 0) (pos 1) ≡ t
one_of_truth true = refl
one_of_truth false = refl

truth-entry : (σ : Valuation) (n : ℕ) (e : MapValue) → EntryFits n kind.Bool e → (atom_truth σ (atom_at (Some e)) ≡ int_eq (numbers.number_of σ e) (pos 1)) × AtomBelow n (atom_at (Some e))
truth-entry σ n (entry.Bool a) h = (sym (one_of_truth (atom_truth σ a)), h)
truth-entry σ n (entry.Int a) h = absurd h

truth-at : (σ : Valuation) (n m : ℕ) (ds : List Decl) (entries : List MapValue) (p : ℕ) → EntriesFit n ds entries → IsTruthAt ds m p → (atom_truth σ (atom_at (slice_get entries p)) ≡ is_one (numbers.numbers_of σ entries) p) × AtomBelow n (atom_at (slice_get entries p))
truth-at σ n m [] entries p h k = absurd k
truth-at σ n m (d ∷ ds) [] p h k = absurd h
truth-at σ n m (d ∷ ds) (e ∷ entries) zero h k = truth-entry σ n e (subst (λ (k : Kind). EntryFits n k e) k.1 h.0)
truth-at σ n m (d ∷ ds) (e ∷ entries) (suc p) h k = truth-at σ n m ds entries p h.1 k

signed-truth : (σ : Valuation) (n : ℕ) (positive : Bool) (a : Atom) (t : Bool) → (atom_truth σ a ≡ t) × AtomBelow n a → (atom_truth σ (if positive then a else not_atom a) ≡ (if positive then t else not t)) × AtomBelow n (if positive then a else not_atom a)
signed-truth σ n true a t h = h
signed-truth σ n false a t h = (atom_truth-not_atom σ a ∙ ap not h.0, AtomBelow-not_atom n a h.1)

const-truth : (σ : Valuation) (n : ℕ) (t : Bool) → (atom_truth σ (if t then True else False) ≡ t) × AtomBelow n (if t then True else False)
const-truth σ n true = (refl, tt)
const-truth σ n false = (refl, tt)

pub atom_of-laws : (σ : Valuation) (n m : ℕ) (ds : List Decl) (entries : List MapValue) (x : BoolTerm) → EntriesFit n ds entries → TruthFits ds m x → (atom_truth σ (atom_of entries x) ≡ truth_of (numbers.numbers_of σ entries) x) × AtomBelow n (atom_of entries x)
atom_of-laws σ n m ds entries (bool_term.Const t) h k = const-truth σ n t
atom_of-laws σ n m ds entries (bool_term.Of p s) h k =
    signed-truth σ n s (atom_at (slice_get entries p)) (is_one (numbers.numbers_of σ entries) p) (truth-at σ n m ds entries p h k)

pub atoms_of-truths : (σ : Valuation) (n m : ℕ) (ds : List Decl) (entries : List MapValue) (xs : List BoolTerm) → EntriesFit n ds entries → TruthsFit ds m xs → truths σ (atoms_of entries xs) ≡ truths_of (numbers.numbers_of σ entries) xs
atoms_of-truths σ n m ds entries [] h k = refl
atoms_of-truths σ n m ds entries (x ∷ xs) h k =
    rw ((atom_of-laws σ n m ds entries x h k.0).0, atoms_of-truths σ n m ds entries xs h k.1) refl

pub atoms_of-below : (n m : ℕ) (ds : List Decl) (entries : List MapValue) (xs : List BoolTerm) → EntriesFit n ds entries → TruthsFit ds m xs → AtomsBelow n (atoms_of entries xs)
atoms_of-below n m ds entries [] h k = tt
atoms_of-below n m ds entries (x ∷ xs) h k =
    ((atom_of-laws (λ _. false) n m ds entries x h k.0).1, atoms_of-below n m ds entries xs h k.1)

-- An integer term.

-- an integer: its variables are below n, it is sound, and no value is above the limit of numerals in absolute value
pub record SmallInteger (n : ℕ) (a : OrdInt) : Type 0 where
  pub below : IntBelow n a
  pub sound : IsSound a
  pub small : greatest_abs a ≤ 1073741824

small-from : (n : ℕ) (low high : ℤ) (s : Shape) (a : OrdInt) → IntegerFits n low high s a → SmallInteger n a
small-from n low high s a h = record { below = h.below; sound = h.sound; small = omega (arith, ints, h.least, h.greatest, h.low_in_limit, h.high_in_limit) }

number-entry : (n : ℕ) (k : Kind) (e : MapValue) → IsInt k → EntryFits n k e → SmallInteger n (integer_at (Some e)) × ((σ : Valuation) → value_of σ (integer_at (Some e)) ≡ numbers.number_of σ e)
number-entry n kind.Bool e i h = absurd i
number-entry n (kind.Range low high) (entry.Bool a) i h = absurd h
number-entry n (kind.Range low high) (entry.Int a) i h = (small-from n low high (unit_steps (at_least_zero (high -ℤ low))) a h, λ σ. refl)
number-entry n (kind.Listed vs) (entry.Bool a) i h = absurd h
number-entry n (kind.Listed vs) (entry.Int a) i h = (small-from n (first_of vs) (last_of vs) (listed_shape vs) a h, λ σ. refl)

number-at : (n m : ℕ) (ds : List Decl) (entries : List MapValue) (p : ℕ) → EntriesFit n ds entries → IsNumberAt ds m p → SmallInteger n (integer_at (slice_get entries p)) × ((σ : Valuation) → value_of σ (integer_at (slice_get entries p)) ≡ value_at (numbers.numbers_of σ entries) p)
number-at n m [] entries p h k = absurd k
number-at n m (d ∷ ds) [] p h k = absurd h
number-at n m (d ∷ ds) (e ∷ entries) zero h k = number-entry n d.kind e k.1 h.0
number-at n m (d ∷ ds) (e ∷ entries) (suc p) h k = number-at n m ds entries p h.1 k

small-constant : (n : ℕ) (z : ℤ) → unsigned_abs z ≤ 1073741824 → SmallInteger n (constant_of z)
small-constant n z small = record {
  below = tt;
  sound = ((omega (arith, small), omega (arith, ints, small)), tt);
  small = omega (arith, ints, small);
}

constant-value : (σ : Valuation) (z : ℤ) → value_of σ (constant_of z) ≡ z
constant-value σ z = omega (arith, ints)

module _ (n m : ℕ) (ds : List Decl) (entries : List MapValue) (h : EntriesFit n ds entries) where
  pub integer_of-small : (i : IntTerm) → NumberFits ds m i → TermInLimit i → SmallInteger n (integer_of entries i)
  integer_of-small (int_term.Number z) k small = small-constant n z small
  integer_of-small (int_term.Of p) k small = (number-at n m ds entries p h k).0

  pub integer_of-value : (σ : Valuation) (i : IntTerm) → NumberFits ds m i → value_of σ (integer_of entries i) ≡ number_of (numbers.numbers_of σ entries) i
  integer_of-value σ (int_term.Number z) k = constant-value σ z
  integer_of-value σ (int_term.Of p) k = (number-at n m ds entries p h k).1 σ

  pub integers_of-values : (σ : Valuation) (is : List IntTerm) → NumbersFit ds m is → values σ (integers_of entries is) ≡ numbers_of (numbers.numbers_of σ entries) is
  integers_of-values σ [] k = refl
  integers_of-values σ (i ∷ is) k = rw (integer_of-value σ i k.0, integers_of-values σ is k.1) refl

pub small-more : (n m : ℕ) (a : OrdInt) → n ≤ m → SmallInteger n a → SmallInteger m a
small-more n m a le h = record { below = StepsBelow-more n m a.steps le h.below; sound = h.sound; small = h.small }

-- The least value of a term.

least-entry : (n : ℕ) (m : ℤ) (k : Kind) (e : MapValue) → IsInt k → EntryFits n k e → m ≤ℤ scope.low_of (Some k) → m ≤ℤ low_of (integer_at (Some e))
least-entry n m kind.Bool e i h l = absurd i
least-entry n m (kind.Range low high) (entry.Bool a) i h l = absurd h
least-entry n m (kind.Range low high) (entry.Int a) i h l = omega (arith, ints, h.least, l)
least-entry n m (kind.Listed vs) (entry.Bool a) i h l = absurd h
least-entry n m (kind.Listed vs) (entry.Int a) i h l = omega (arith, ints, h.least, l)

least-at : (n k : ℕ) (m : ℤ) (ds : List Decl) (entries : List MapValue) (p : ℕ) → EntriesFit n ds entries → IsNumberAt ds k p → IsAtLeast ds m (int_term.Of p) → m ≤ℤ low_of (integer_at (slice_get entries p))
least-at n k m [] entries p h i l = absurd i
least-at n k m (d ∷ ds) [] p h i l = absurd h
least-at n k m (d ∷ ds) (e ∷ entries) zero h i l = least-entry n m d.kind e i.1 h.0 l
least-at n k m (d ∷ ds) (e ∷ entries) (suc p) h i l = least-at n k m ds entries p h.1 i l

pub integer_of-least : (n k : ℕ) (ds : List Decl) (entries : List MapValue) → EntriesFit n ds entries → (m : ℤ) (i : IntTerm) → NumberFits ds k i → IsAtLeast ds m i → m ≤ℤ low_of (integer_of entries i)
integer_of-least n k ds entries h m (int_term.Number z) f l = l
integer_of-least n k ds entries h m (int_term.Of p) f l = least-at n k m ds entries p h f l

-- each integer of a list
abbrev pub AreSmallIntegers : ℕ → List OrdInt → Type 0
AreSmallIntegers n [] = Unit {0}
AreSmallIntegers n (a ∷ ints) = SmallInteger n a × AreSmallIntegers n ints

pub integers_of-small : (n m : ℕ) (ds : List Decl) (entries : List MapValue) (is : List IntTerm) → EntriesFit n ds entries → NumbersFit ds m is → TermsInLimit is → AreSmallIntegers n (integers_of entries is)
integers_of-small n m ds entries [] h k small = tt
integers_of-small n m ds entries (i ∷ is) h k small =
    (integer_of-small n m ds entries h i k.0 (small 0), integers_of-small n m ds entries is h k.1 (λ j. small (suc j)))

pub below-small : (n : ℕ) (ints : List OrdInt) → AreSmallIntegers n ints → IntsBelow n ints
below-small n [] h = tt
below-small n (a ∷ ints) h = (h.0.below, below-small n ints h.1)

pub sound-small : (n : ℕ) (ints : List OrdInt) → AreSmallIntegers n ints → AreSound ints
sound-small n [] h = tt
sound-small n (a ∷ ints) h = (h.0.sound, sound-small n ints h.1)

ordered-entry : (σ : Valuation) (entries : List MapValue) (p : ℕ) → AreOrdered σ entries → IsOrdered σ (integer_at (slice_get entries p))
ordered-entry σ [] p h = refl
ordered-entry σ (entry.Bool a ∷ entries) zero h = refl
ordered-entry σ (entry.Bool a ∷ entries) (suc p) h = ordered-entry σ entries p h
ordered-entry σ (entry.Int a ∷ entries) zero h = h.0
ordered-entry σ (entry.Int a ∷ entries) (suc p) h = ordered-entry σ entries p h.1

pub IsOrdered-integer_of : (σ : Valuation) (entries : List MapValue) (i : IntTerm) → AreOrdered σ entries → IsOrdered σ (integer_of entries i)
IsOrdered-integer_of σ entries (int_term.Number z) h = refl
IsOrdered-integer_of σ entries (int_term.Of p) h = ordered-entry σ entries p h

pub ordered-integers_of : (σ : Valuation) (entries : List MapValue) (is : List IntTerm) → AreOrdered σ entries → all_ordered σ (integers_of entries is) ≡ true
ordered-integers_of σ entries [] h = refl
ordered-integers_of σ entries (i ∷ is) h = rw (IsOrdered-integer_of σ entries i h, ordered-integers_of σ entries is h) refl

-- The integers of entries, and of terms, are bounded.

pub AreInLimit-at : (entries : List MapValue) (p : ℕ) → AreInLimit entries → IsBounded (integer_at (slice_get entries p))
AreInLimit-at [] p h = (lit< tt, lit< tt)
AreInLimit-at (entry.Bool a ∷ entries) zero h = (lit< tt, lit< tt)
AreInLimit-at (entry.Bool a ∷ entries) (suc p) h = AreInLimit-at entries p h
AreInLimit-at (entry.Int a ∷ entries) zero h = (omega (arith, h.0.0), omega (arith, h.0.1))
AreInLimit-at (entry.Int a ∷ entries) (suc p) h = AreInLimit-at entries p h.1

-- The integers of entries, and of terms, are sound and in the limit of numerals.

abbrev pub IsSmall : OrdInt → Type 0
IsSmall a = IsSound a × (greatest_abs a ≤ 1073741824)

abbrev pub AreSmall : List OrdInt → Type 0
AreSmall [] = Unit {0}
AreSmall (a ∷ ints) = IsSmall a × AreSmall ints

small-at : (entries : List MapValue) (p : ℕ) → AreInLimit entries → IsSmall (integer_at (slice_get entries p))
small-at [] p h = (((lit< tt, lit< tt), tt), omega (arith, ints))
small-at (entry.Bool a ∷ entries) zero h = (((lit< tt, lit< tt), tt), omega (arith, ints))
small-at (entry.Bool a ∷ entries) (suc p) h = small-at entries p h
small-at (entry.Int a ∷ entries) zero h = (((omega (arith, h.0.0), omega (arith, h.0.1)), h.0.2), omega (arith, h.0.0, h.0.1))
small-at (entry.Int a ∷ entries) (suc p) h = small-at entries p h.1

pub integer_of-in_limit : (entries : List MapValue) (i : IntTerm) → AreInLimit entries → TermInLimit i → IsSmall (integer_of entries i)
integer_of-in_limit entries (int_term.Number z) h k = (((omega (arith, k), omega (arith, ints, k)), tt), omega (arith, ints, k))
integer_of-in_limit entries (int_term.Of p) h k = small-at entries p h

pub integers_of-in_limit : (entries : List MapValue) (is : List IntTerm) → AreInLimit entries → TermsInLimit is → AreSmall (integers_of entries is)
integers_of-in_limit entries [] h k = tt
integers_of-in_limit entries (i ∷ is) h k = (integer_of-in_limit entries i h (k 0), integers_of-in_limit entries is h (λ j. k (suc j)))

pub integer_of-fits : (entries : List MapValue) (i : IntTerm) (a : OrdInt) → AreInLimit entries → TermInLimit i → a ≡ integer_of entries i → greatest_abs a ≤ 1073741824
integer_of-fits entries i a h k e = subst (λ (a : OrdInt). greatest_abs a ≤ 1073741824) (sym e) (integer_of-in_limit entries i h k).1
