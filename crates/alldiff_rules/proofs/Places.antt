-- What a valuation that meets all-different says of its members by their places.
use Rattle.std.proofs.Common.{◌≡◌, ℕ, zero, suc, ◌≤◌, ◌<◌, Bool, true, false, not, ◌&&◌, ◌||◌, List, [], ◌∷◌, length, get_or, ℤ, pos, refl, ap, sym, ◌∙◌, subst, arith, ⊎_elim}
use Rattle.std.specs.Ordering.{int_eq}
use Rattle.std.proofs.lemmas.Bool.{false≢true, cases_lt}
use Rattle.order_ints.specs.declared.atom.Atom.{Atom}
use Rattle.order_ints.specs.declared.order_int.OrdInt.{OrdInt}
use Rattle.order_ints.specs.Truth.{Valuation, atom_truth}
use Rattle.order_ints.specs.OrderValue.{value_of, in_order}
use Rattle.order_ints.specs.OrderLevels.{values_of, is_among}
use Rattle.order_ints.proofs.Reaching.{Contains-value_of}
use Rattle.core_forms.specs.Truths.{truths}
use Rattle.core_forms.specs.Values.{all_ordered, values, none_equal, all_differ}
use Rattle.alldiff_rules.specs.Members.{int_at, condition_at, IsSure, AreAllSure, all_values}
use Rattle.alldiff_rules.proofs.Pigeonhole.{int_eq-same, int_eq-refl, NoRepeats, LiesIn, among-first, among-later, among-cases, among-left, among-right}

pub and-left : (s t : Bool) → (s && t) ≡ true → s ≡ true
and-left true t e = refl
and-left false t e = absurd (false≢true e)

pub and-right : (s t : Bool) → (s && t) ≡ true → t ≡ true
and-right true t e = e
and-right false t e = absurd (false≢true e)

-- the value, the condition and the order of a member
values-at : (σ : Valuation) (xs : List OrdInt) (i : ℕ) (d : ℤ) → i < length xs → get_or (values σ xs) i d ≡ value_of σ (int_at xs i)
values-at σ [] i d lt = absurd (omega arith)
values-at σ (a ∷ xs) zero d lt = refl
values-at σ (a ∷ xs) (suc i) d lt = values-at σ xs i d (omega arith)

pub length-values : (σ : Valuation) (xs : List OrdInt) → length (values σ xs) ≡ length xs
length-values σ [] = refl
length-values σ (a ∷ xs) = ap suc (length-values σ xs)

truths-at : (σ : Valuation) (cs : List Atom) (i : ℕ) → get_or (truths σ cs) i false ≡ atom_truth σ (condition_at cs i)
truths-at σ [] i = refl
truths-at σ (c ∷ cs) zero = refl
truths-at σ (c ∷ cs) (suc i) = truths-at σ cs i

ordered-at : (σ : Valuation) (xs : List OrdInt) → all_ordered σ xs ≡ true → (i : ℕ) → i < length xs → in_order σ (int_at xs i).steps ≡ true
ordered-at σ [] h i lt = absurd (omega arith)
ordered-at σ (a ∷ xs) h zero lt = and-left (in_order σ a.steps) (all_ordered σ xs) h
ordered-at σ (a ∷ xs) h (suc i) lt = ordered-at σ xs (and-right (in_order σ a.steps) (all_ordered σ xs) h) i (omega arith)

-- a value that no further one with a true condition has
not-both : (t e : Bool) → not (t && e) ≡ true → t ≡ true → e ≡ true → ⊥
not-both true true h f g = false≢true h
not-both true false h f g = false≢true g
not-both false e h f g = false≢true f

none_equal-at : (v : ℤ) (vs : List ℤ) (ts : List Bool) → none_equal v vs ts ≡ true → (j : ℕ) (d : ℤ) → j < length vs → get_or ts j false ≡ true → v ≡ get_or vs j d → ⊥
none_equal-at v [] ts h j d lt t e = omega arith
none_equal-at v (w ∷ vs) [] h j d lt t e = false≢true t
none_equal-at v (w ∷ vs) (c ∷ ts) h zero d lt t e =
    not-both c (int_eq v w) (and-left (not (c && int_eq v w)) (none_equal v vs ts) h) t (subst (λ x. int_eq v x ≡ true) e (int_eq-refl v))
none_equal-at v (w ∷ vs) (c ∷ ts) h (suc j) d lt t e =
    none_equal-at v vs ts (and-right (not (c && int_eq v w)) (none_equal v vs ts) h) j d (omega arith) t e

freed : (c e : Bool) → (not c || e) ≡ true → c ≡ true → e ≡ true
freed true e h f = h
freed false e h f = absurd (false≢true f)

differ-later : (vs : List ℤ) (ts : List Bool) → all_differ vs ts ≡ true → (i j : ℕ) (d : ℤ) → i < j → j < length vs → get_or ts i false ≡ true → get_or ts j false ≡ true → get_or vs i d ≡ get_or vs j d → ⊥
differ-later [] ts h i j d lt inside s t e = omega arith
differ-later (v ∷ vs) [] h i j d lt inside s t e = false≢true s
differ-later (v ∷ vs) (c ∷ ts) h i zero d lt inside s t e = omega arith
differ-later (v ∷ vs) (c ∷ ts) h zero (suc j) d lt inside s t e =
    none_equal-at v vs ts (freed c (none_equal v vs ts) (and-left (not c || none_equal v vs ts) (all_differ vs ts) h) s) j d (omega arith) t e
differ-later (v ∷ vs) (c ∷ ts) h (suc i) (suc j) d lt inside s t e =
    differ-later vs ts (and-right (not c || none_equal v vs ts) (all_differ vs ts) h) i j d (omega arith) (omega arith) s t e

-- what it says
pub record AreApart (σ : Valuation) (xs : List OrdInt) (cs : List Atom) : Type 0 where
  pub ordered : (i : ℕ) → i < length xs → in_order σ (int_at xs i).steps ≡ true
  pub differ : (i j : ℕ) → (i ≡ j → ⊥) → i < length xs → j < length xs → atom_truth σ (condition_at cs i) ≡ true → atom_truth σ (condition_at cs j) ≡ true → value_of σ (int_at xs i) ≡ value_of σ (int_at xs j) → ⊥
  pub whole : all_differ (values σ xs) (truths σ cs) ≡ true

pub are_apart : (σ : Valuation) (xs : List OrdInt) (cs : List Atom) → (all_ordered σ xs && all_differ (values σ xs) (truths σ cs)) ≡ true → AreApart σ xs cs
are_apart σ xs cs h = record { ordered = ordered-at σ xs (and-left (all_ordered σ xs) (all_differ (values σ xs) (truths σ cs)) h); differ = differ; whole = apart }
  where
    apart : all_differ (values σ xs) (truths σ cs) ≡ true
    apart = and-right (all_ordered σ xs) (all_differ (values σ xs) (truths σ cs)) h

    later : (i j : ℕ) → i < j → j < length xs → atom_truth σ (condition_at cs i) ≡ true → atom_truth σ (condition_at cs j) ≡ true → value_of σ (int_at xs i) ≡ value_of σ (int_at xs j) → ⊥
    later i j lt inside s t e =
        differ-later (values σ xs) (truths σ cs) apart i j (pos 0) lt (omega (arith, length-values σ xs)) (truths-at σ cs i ∙ s) (truths-at σ cs j ∙ t)
        (values-at σ xs i (pos 0) (omega arith) ∙ e ∙ sym (values-at σ xs j (pos 0) inside))

    differ : (i j : ℕ) → (i ≡ j → ⊥) → i < length xs → j < length xs → atom_truth σ (condition_at cs i) ≡ true → atom_truth σ (condition_at cs j) ≡ true → value_of σ (int_at xs i) ≡ value_of σ (int_at xs j) → ⊥
    differ i j ne in_i in_j s t e = ⊎_elim (λ (lt : i < j). later i j lt in_j s t e) (λ (le : j ≤ i). later j i (omega (arith, le, ne)) in_i t s (sym e)) (cases_lt i j)

-- sure members are within the list of conditions
pub sure-inside : (cs : List Atom) (i : ℕ) → IsSure cs i → i < length cs
sure-inside [] i h = absurd (cc)
sure-inside (c ∷ cs) zero h = omega arith
sure-inside (c ∷ cs) (suc i) h = omega (arith, sure-inside cs i h)

pub sure-true : (σ : Valuation) (cs : List Atom) (i : ℕ) → IsSure cs i → atom_truth σ (condition_at cs i) ≡ true
sure-true σ cs i h = ap (atom_truth σ) h

-- where all members are sure, their values have no repeats
absent : (v : ℤ) (σ : Valuation) (vs : List ℤ) (cs : List Atom) → AreAllSure cs → length vs ≡ length cs → none_equal v vs (truths σ cs) ≡ true → is_among v vs ≡ false
absent v σ [] cs sure same h = refl
absent v σ (w ∷ vs) [] sure same h = absurd (omega arith)
absent v σ (w ∷ vs) (c ∷ cs) sure same h =
    let t : atom_truth σ c ≡ true = ap (atom_truth σ) sure.0 in
    let rest : is_among v vs ≡ false = absent v σ vs cs sure.1 (omega arith) (and-right (not (atom_truth σ c && int_eq v w)) (none_equal v vs (truths σ cs)) h) in
    by (int_eq w v) refl t rest
  where
    by : (e : Bool) → int_eq w v ≡ e → atom_truth σ c ≡ true → is_among v vs ≡ false → (e || is_among v vs) ≡ false
    by true is t rest = absurd (not-both (atom_truth σ c) (int_eq v w) (and-left (not (atom_truth σ c && int_eq v w)) (none_equal v vs (truths σ cs)) h) t (subst (λ x. int_eq v x ≡ true) (sym (int_eq-same w v is)) (int_eq-refl v)))
    by false is t rest = rest

no_repeats-values : (σ : Valuation) (vs : List ℤ) (cs : List Atom) → AreAllSure cs → length vs ≡ length cs → all_differ vs (truths σ cs) ≡ true → NoRepeats vs
no_repeats-values σ [] cs sure same h = tt
no_repeats-values σ (v ∷ vs) [] sure same h = absurd (omega arith)
no_repeats-values σ (v ∷ vs) (c ∷ cs) sure same h =
    (absent v σ vs cs sure.1 (omega arith) (freed (atom_truth σ c) (none_equal v vs (truths σ cs)) (and-left (not (atom_truth σ c) || none_equal v vs (truths σ cs)) (all_differ vs (truths σ cs)) h) (ap (atom_truth σ) sure.0)), no_repeats-values σ vs cs sure.1 (omega arith) (and-right (not (atom_truth σ c) || none_equal v vs (truths σ cs)) (all_differ vs (truths σ cs)) h))

pub no_repeats : (σ : Valuation) (xs : List OrdInt) (cs : List Atom) → AreAllSure cs → length xs ≡ length cs → AreApart σ xs cs → NoRepeats (values σ xs)
no_repeats σ xs cs sure same h = no_repeats-values σ (values σ xs) cs sure (length-values σ xs ∙ same) h.whole

-- membership by place and one after another
among-place : (v : ℤ) (vs : List ℤ) (k : ℕ) → k < length vs → get_or vs k v ≡ v → is_among v vs ≡ true
among-place v [] k lt e = absurd (omega arith)
among-place v (w ∷ vs) zero lt e = subst (λ x. is_among v (x ∷ vs) ≡ true) (sym e) (among-first v vs)
among-place v (w ∷ vs) (suc k) lt e = among-later v w vs (among-place v vs k (omega arith) e)

pub among-value_of : (σ : Valuation) (a : OrdInt) → in_order σ a.steps ≡ true → is_among (value_of σ a) (values_of a) ≡ true
among-value_of σ a h = let c = Contains-value_of σ a h in among-place (value_of σ a) (values_of a) c.0 c.1 c.2

-- the values lie in those that the members can have
pub values-inside : (σ : Valuation) (xs : List OrdInt) → all_ordered σ xs ≡ true → LiesIn (values σ xs) (all_values xs)
values-inside σ [] h v e = e
values-inside σ (a ∷ xs) h v e =
    ⊎_elim (λ (s : value_of σ a ≡ v). among-left v (values_of a) (all_values xs) (subst (λ x. is_among x (values_of a) ≡ true) s (among-value_of σ a (and-left (in_order σ a.steps) (all_ordered σ xs) h))))
    (λ (s : is_among v (values σ xs) ≡ true). among-right v (values_of a) (all_values xs) (values-inside σ xs (and-right (in_order σ a.steps) (all_ordered σ xs) h) v s))
    (among-cases v (value_of σ a) (values σ xs) e)

pub among-all : (xs : List OrdInt) (i : ℕ) (v : ℤ) → i < length xs → is_among v (values_of (int_at xs i)) ≡ true → is_among v (all_values xs) ≡ true
among-all [] i v lt e = absurd (omega arith)
among-all (a ∷ xs) zero v lt e = among-left v (values_of a) (all_values xs) e
among-all (a ∷ xs) (suc i) v lt e = among-right v (values_of a) (all_values xs) (among-all xs i v (omega arith) e)

-- a value that stands among the values is that of a member
pub value-place : (σ : Valuation) (xs : List OrdInt) (v : ℤ) → is_among v (values σ xs) ≡ true → (j : ℕ) × (j < length xs) × (value_of σ (int_at xs j) ≡ v)
value-place σ [] v e = absurd (false≢true e)
value-place σ (a ∷ xs) v e =
    ⊎_elim (λ (s : value_of σ a ≡ v). (0, omega arith, s))
    (λ (s : is_among v (values σ xs) ≡ true). let p = value-place σ xs v s in (suc p.0, omega (arith, p.1), p.2))
    (among-cases v (value_of σ a) (values σ xs) e)
