-- What a declared name stands for: its ranges, and that it takes each value of its domain.
use Rattle.std.proofs.Common.{◌≡◌, ℕ, zero, suc, ◌+◌, ◌-◌, ◌^◌, ◌<◌, ◌≤◌, ◌⊎◌, inl, inr, ℤ, pos, negsuc, ◌+ℤ◌, ◌-ℤ◌, ◌≤ℤ◌, ◌<ℤ◌, Bool, true, false, ◌||◌, List, [], ◌∷◌, ◌++◌, length, take, get_or, Contains, IsTrue, refl, sym, ap, subst, ◌∙◌, arith}
use Rattle.std.specs.Prelude.{if◌then◌else◌, unsigned_abs}
use Rattle.std.specs.Bool.{Decides}
use Rattle.std.specs.Ordering.{int_eq}
use Rattle.std.proofs.lemmas.Bool.{false≢true}
use Rattle.std.proofs.lemmas.Bool.Decides.{Decides-int_eq}
use Rattle.std.specs.Int.{IsGcd}
use Rattle.std.proofs.Math.Nat.{one-dvd}
use Rattle.std.proofs.lemmas.Nat.Gcd.{dvd_refl}
use Rattle.std.proofs.lemmas.Int.{ints, by_lt_z}
use Rattle.std.proofs.lemmas.List.{take_more}
use Rattle.order_ints.specs.Label.{own_labels, variable}
use Rattle.order_ints.specs.declared.order_int.OrdInt.{OrdInt}
use Rattle.order_ints.specs.Truth.{Valuation, Agree, atom_truth}
use Rattle.order_ints.specs.OrderMade.{unit_steps, unit_range_of, values_from, integer_of_values, AreSmall}
use Rattle.order_ints.specs.OrderRange.{IntBelow}
use Rattle.order_ints.specs.OrderValue.{value_of}
use Rattle.order_ints.specs.Numbers.{number_of, numbers_of}
use Rattle.order_ints.proofs.Gains.{low-le, high-ge}
use Rattle.order_ints.proofs.Fresh.{weights-unit_steps, atoms-unit_steps, values_of-unit_range_of, AreRising-unit_steps, StepsBelow-vars, IsBounded-unit_range_of, takes_each_value, atoms-integer_of_values, values_of-integer_of_values, IsBounded-integer_of_values, AreRising-integer_of_values}
use Rattle.core_cost.specs.Divisor.{common_divisor_of}
use Rattle.core_cost.specs.Sums.{unit_steps as units}
use Rattle.core_cost.proofs.DivisorLaws.{common_from_IsGcd}
use Rattle.core_forms.specs.declared.form.Core.TheVariants.{Ladder}
use Rattle.core_forms.specs.Shapes.{divisor_of, shape_of}
use Rattle.core_forms.specs.WellFormed.{IsSound}
use Rattle.core_forms.specs.Cores.{MeetsAll, CoresBelow, AreWellFormed}
use Rattle.core_forms.proofs.CoreLists.{MeetsAll-one, MeetsAll-append, MeetsAll-agree, CoresBelow-append, CoresBelow-more, AreWellFormed-append}
use Rattle.model_meaning.specs.declared.model.Kind.{Kind}
use Rattle.model_meaning.specs.declared.model.Kind.TheVariants as kind
use Rattle.model_meaning.specs.Integers.{is_member}
use Rattle.model_meaning.specs.Domains.{at_least_zero, domain}
use Rattle.order_ints.specs.OrderLevels.{values_of}
use Rattle.order_ints.proofs.Reaching.{Contains-value_of}
use Rattle.core_forms.proofs.Ascending.{Among, Among-from, Contains-among}
use Rattle.value_lists.specs.ValueLists.{first_of, last_behind, last_of}
use Rattle.value_lists.proofs.Shapes.{shape-listed, low-listed, high-listed, steps-listed}
use Rattle.model_meaning.specs.Limits.{InLimit, AllInLimit, KindInLimit}
use Rattle.model_meaning.specs.WellTyped.{KindFits}
use Rattle.model_meaning.proofs.DomainLaws.{Decides-domain}
use Rattle.model_lower.specs.Lowering.{vars_taken, entry_of, entry_cores}
use Rattle.model_lower.specs.ItemLaws.{DeclarationLaw}
use Rattle.name_map.specs.Fits.{EntryFits}
use Rattle.statement_lower.specs.Entries.{AreOrdered}
use Rattle.statement_lower.proofs.FreshAtoms.{set_from, set_from-same, set_from-here}
use Rattle.statement_lower.proofs.EntryLaws.{EntriesFit-more, EntriesFit-append, numbers_of-append, numbers_of-agree, AreOrdered-append}

-- what is known of the entry of a declaration
pub record EntryLaws (vars : ℕ) (k : Kind) : Type 0 where
  pub fits : EntryFits (vars + vars_taken k + 1) k (entry_of vars k)
  pub below : CoresBelow (vars + vars_taken k + 1) (entry_cores (entry_of vars k))
  pub well_formed : AreWellFormed (entry_cores (entry_of vars k))
  pub ordered : (σ : Valuation) → MeetsAll σ (entry_cores (entry_of vars k)) → AreOrdered σ (entry_of vars k ∷ [])
  pub some : (σ : Valuation) → MeetsAll σ (entry_cores (entry_of vars k)) → IsTrue (is_member (number_of σ (entry_of vars k)) (domain k))
  pub each : (σ : Valuation) (v : ℤ) → IsTrue (is_member v (domain k)) → (τ : Valuation) × Agree (vars + 1) σ τ × MeetsAll τ (entry_cores (entry_of vars k)) × (number_of τ (entry_of vars k) ≡ v)

-- A Boolean.

bit-in_domain : (t : Bool) → IsTrue (is_member (if t then pos 1 else pos 0) (domain kind.Bool))
unfolding domain
bit-in_domain true = refl
bit-in_domain false = refl

one_of_two : {P Q : Type 0} (b c : Bool) → Decides b P → Decides c Q → (b || (c || false)) ≡ true → P ⊎ Q
one_of_two true c d e h = inl (d.0 refl)
one_of_two false true d e h = inr (e.0 refl)
one_of_two false false d e h = absurd (false≢true h)

is_bit : (v : ℤ) → IsTrue (is_member v (domain kind.Bool)) → (pos 0 ≡ v) ⊎ (pos 1 ≡ v)
unfolding domain
is_bit v h = one_of_two (int_eq (pos 0) v) (int_eq (pos 1) v) (Decides-int_eq (pos 0) v) (Decides-int_eq (pos 1) v) h

bit_of : (v : ℤ) → (pos 0 ≡ v) ⊎ (pos 1 ≡ v) → (if int_eq v (pos 1) then pos 1 else pos 0) ≡ v
bit_of v (inl e) = rw (← e) refl
bit_of v (inr e) = rw (← e) refl

bool-laws : (vars : ℕ) → EntryLaws vars kind.Bool
bool-laws vars = record {
  fits = (omega arith, omega arith);
  below = tt;
  well_formed = tt;
  ordered = λ σ h. tt;
  some = λ σ h. bit-in_domain (atom_truth σ (variable (vars + 1)));
  each = λ σ v h.
      let t : Bool = int_eq v (pos 1) in (
        set_from σ (vars + 1) t,
        set_from-same σ (vars + 1) t,
        refl,
        ap (λ (b : Bool). if b then pos 1 else pos 0) (set_from-here σ (vars + 1) t) ∙ bit_of v (is_bit v h),
      );
}

-- An integer.

pub gap-at : (z low high : ℤ) → z ≡ high -ℤ low → low ≤ℤ high → low +ℤ pos (at_least_zero z) ≡ high
gap-at (pos n) low high e h = omega (arith, ints, e)
gap-at (negsuc n) low high e h = absurd (omega (arith, ints, e, h))

pub gap-reaches : (low high : ℤ) → low ≤ℤ high → low +ℤ pos (vars_taken (kind.Range low high)) ≡ high
gap-reaches low high h = gap-at (high -ℤ low) low high refl h

-- The shape of a range.

one-common : (d : ℕ) → common_divisor_of 1 d ≡ 1
one-common d = sym (common_from_IsGcd 1 d 1 (one-gcd d))
  where
    one-gcd : (d : ℕ) → IsGcd 1 d 1
    one-gcd d = (dvd_refl 1, one-dvd d, λ e p q. p)

length-units : (first count : ℕ) → length (unit_steps first count) ≡ count
length-units first zero = refl
length-units first (suc count) = ap suc (length-units (first + 1) count)

Contains-values_from : (count : ℕ) (low v : ℤ) → low ≤ℤ v → v <ℤ (low +ℤ pos count) → Contains (values_from low count) v
Contains-values_from zero low v h k = absurd (omega (arith, ints, h, k))
Contains-values_from (suc count) low v h k =
    by_lt_z low v
    (λ l. let c : Contains (values_from (low +ℤ pos 1) count) v = Contains-values_from count (low +ℤ pos 1) v (omega (arith, ints, l)) (omega (arith, ints, k)) in
    let within : c.0 < length (values_from (low +ℤ pos 1) count) = c.1 in
    (suc c.0, omega (arith, within), c.2))
    (λ l. (0, omega arith, (let e : low ≡ v = omega (arith, ints, l, h) in e)))

divisor-units : (first count : ℕ) → divisor_of (unit_steps first (suc count)) ≡ 1
divisor-units first count = one-common (divisor_of (unit_steps (first + 1) count))

pub shape-units : (low : ℤ) (first count : ℕ) → shape_of (unit_range_of low first count) ≡ units count
shape-units low first zero = refl
shape-units low first (suc count) =
    let steps = length-units first (suc count) in
    let span = weights-unit_steps first (suc count) in
    let divisor = divisor-units first count in
    λ i. record { steps = steps i; span = span i; divisor = divisor i }

int-laws : (vars : ℕ) (low high : ℤ) → KindFits (kind.Range low high) → KindInLimit (kind.Range low high) → EntryLaws vars (kind.Range low high)
int-laws vars low high fit small =
    let count : ℕ = vars_taken (kind.Range low high) in
    let first : ℕ = vars + 1 in
    let a : OrdInt = unit_range_of low first count in
    let reach : low +ℤ pos count ≡ high = gap-reaches low high fit in
    let below : IntBelow (vars + count + 1) a =
    StepsBelow-vars (vars + count + 1) first count a.steps (atoms-unit_steps first count) (λ _. omega arith) (omega arith) in
    let sound : IsSound a =
    (IsBounded-unit_range_of low first count (omega (arith, small.0)) (rw reach (omega (arith, small.1))), AreRising-unit_steps first count) in
    record {
      fits = record {
        below = below;
        sound = sound;
        least = refl;
        greatest = ap (λ (n : ℕ). low +ℤ pos n) (weights-unit_steps first count) ∙ reach;
        shape = shape-units low first count;
        low_in_limit = small.0;
        high_in_limit = small.1;
      };
      below = ((tt, (below, tt)), tt);
      well_formed = (sound, tt);
      ordered = λ σ h. ((MeetsAll-one σ (Ladder a)).0 h, tt);
      some = λ σ h.
          (Decides-domain low high (value_of σ a)).1
          (low-le σ a, subst (λ z. value_of σ a ≤ℤ z) (ap (λ (n : ℕ). low +ℤ pos n) (weights-unit_steps first count) ∙ reach) (high-ge σ a));
      each = λ σ v h.
          let range = (Decides-domain low high v).0 h in
          let listed : Contains (values_from low (count + 1)) v = Contains-values_from (count + 1) low v range.0 (omega (arith, ints, reach, range.1)) in
          let t = takes_each_value σ a first count v (atoms-unit_steps first count) (subst (λ vs. Contains vs v) (sym (values_of-unit_range_of low first count)) listed) in
          (t.0, t.1, (MeetsAll-one t.0 (Ladder a)).1 t.2.0, t.2.1);
    }

-- An integer of a listed domain.

pub further_listed : (vs : List ℤ) → length vs - 1 ≡ vars_taken (kind.Listed vs)
further_listed vs = sym (steps-listed vs)

small_more : (vs : List ℤ) (v : ℤ) → AreSmall vs → unsigned_abs v < 2 ^ 100 → AreSmall (vs ++ v ∷ [])
small_more [] v h k = (k, tt)
small_more (w ∷ vs) v h k = (h.0, small_more vs v h.1 k)

-- one more of the values of a list
pub wider : (vs ws new : List ℤ) (i : ℕ) (d v : ℤ) → i < length vs → (ws ≡ take i vs) × AreSmall ws → v ≡ get_or vs i d → unsigned_abs v < 2 ^ 100 → new ≡ ws ++ v ∷ []
    → (new ≡ take (i + 1) vs) × AreSmall new
wider vs ws new i d v lt before e small h = (
  h ∙ (ap (λ (xs : List ℤ). xs ++ v ∷ []) before.0 ∙ (ap (λ (z : ℤ). take i vs ++ z ∷ []) e ∙ sym (take_more vs i d lt))),
  subst (λ (xs : List ℤ). AreSmall xs) (sym h) (small_more ws v before.1 small),
)

small-values : (vs : List ℤ) → AllInLimit vs → AreSmall vs
small-values [] h = tt
small-values (v ∷ vs) h = let here : InLimit v = h 0 in (omega (arith, here), small-values vs (λ k. h (suc k)))

pub first-limit : (vs : List ℤ) → AllInLimit vs → InLimit (first_of vs)
first-limit [] h = omega arith
first-limit (v ∷ vs) h = h 0

last-behind-limit : (v : ℤ) (vs : List ℤ) → AllInLimit (v ∷ vs) → InLimit (last_behind v vs)
last-behind-limit v [] h = h 0
last-behind-limit v (w ∷ vs) h = last-behind-limit w vs (λ k. h (suc k))

pub last-of-limit : (vs : List ℤ) → AllInLimit vs → InLimit (last_of vs)
last-of-limit [] h = omega arith
last-of-limit (v ∷ vs) h = last-behind-limit v vs h

or-right : (b c : Bool) → c ≡ true → (b || c) ≡ true
or-right true c h = refl
or-right false c h = h

or-left : (b c : Bool) → b ≡ true → (b || c) ≡ true
or-left true c h = refl
or-left false c h = absurd (false≢true h)

member-among : (v : ℤ) (vs : List ℤ) → Among v vs → is_member v vs ≡ true
member-among v [] m = absurd m
member-among v (w ∷ vs) (inl e) = or-left (int_eq w v) (is_member v vs) ((Decides-int_eq w v).1 e)
member-among v (w ∷ vs) (inr m) = or-right (int_eq w v) (is_member v vs) (member-among v vs m)

among-member : (v : ℤ) (vs : List ℤ) → is_member v vs ≡ true → Among v vs
among-member v [] e = absurd (false≢true e)
among-member v (w ∷ vs) e = by (int_eq w v) refl e (among-member v vs)
  where
    by : (b : Bool) → int_eq w v ≡ b → (b || is_member v vs) ≡ true → (is_member v vs ≡ true → Among v vs) → (w ≡ v) ⊎ Among v vs
    by true same f rest = inl ((Decides-int_eq w v).0 same)
    by false same f rest = inr (rest f)

domain-listed : (vs : List ℤ) (v : ℤ) → is_member v (domain (kind.Listed vs)) ≡ is_member v vs
unfolding domain
domain-listed vs v = refl

listed-laws : (vars : ℕ) (vs : List ℤ) → KindFits (kind.Listed vs) → KindInLimit (kind.Listed vs) → EntryLaws vars (kind.Listed vs)
listed-laws vars vs fit small =
    let count : ℕ = vars_taken (kind.Listed vs) in
    let first : ℕ = vars + 1 in
    let a : OrdInt = integer_of_values vs first in
    let atoms = atoms-integer_of_values vs first ∙ ap (own_labels first) (further_listed vs) in
    let values : values_of a ≡ vs = values_of-integer_of_values vs first fit.0 fit.1 in
    let below : IntBelow (vars + count + 1) a =
    StepsBelow-vars (vars + count + 1) first count a.steps atoms (λ _. omega arith) (omega arith) in
    let sound : IsSound a =
    (IsBounded-integer_of_values vs first fit.1 (small-values vs small.0), AreRising-integer_of_values vs first fit.1) in
    record {
      fits = record {
        below = below;
        sound = sound;
        least = low-listed vs first;
        greatest = high-listed vs first fit.1;
        shape = shape-listed vs first;
        low_in_limit = first-limit vs small.0;
        high_in_limit = last-of-limit vs small.0;
      };
      below = ((tt, (below, tt)), tt);
      well_formed = (sound, tt);
      ordered = λ σ h. ((MeetsAll-one σ (Ladder a)).0 h, tt);
      some = λ σ h.
          let c = Contains-value_of σ a ((MeetsAll-one σ (Ladder a)).0 h) in
          let listed : Contains vs (value_of σ a) = subst (λ xs. Contains xs (value_of σ a)) values c in
          domain-listed vs (value_of σ a) ∙ member-among (value_of σ a) vs (Among-from (value_of σ a) vs listed);
      each = λ σ v h.
          let m : Among v vs = among-member v vs (sym (domain-listed vs v) ∙ h) in
          let listed : Contains (values_of a) v = subst (λ xs. Contains xs v) (sym values) (Contains-among v vs m) in
          let t = takes_each_value σ a first count v atoms listed in
          (t.0, t.1, (MeetsAll-one t.0 (Ladder a)).1 t.2.0, t.2.1);
    }

entry-laws : (vars : ℕ) (k : Kind) → KindFits k → KindInLimit k → EntryLaws vars k
entry-laws vars kind.Bool fit small = bool-laws vars
entry-laws vars (kind.Range low high) fit small = int-laws vars low high fit small
entry-laws vars (kind.Listed vs) fit small = listed-laws vars vs fit small

-- The law of a declaration.

pub declaration_law : DeclarationLaw
declaration_law l decls d enc fit small =
    let k = d.kind in
    let n : ℕ = l.vars + 1 in
    let m : ℕ = l.vars + vars_taken k + 1 in
    let le : n ≤ m = omega arith in
    let entries = l.map.entries in
    let e = entry_of l.vars k in
    let laws = entry-laws l.vars k fit small in (
      record {
        entries = EntriesFit-append m decls entries d e (EntriesFit-more n m decls entries le enc.entries) laws.fits;
        below = CoresBelow-append m l.cores (entry_cores e) (CoresBelow-more n m l.cores le enc.below) laws.below;
        well_formed = AreWellFormed-append l.cores (entry_cores e) enc.well_formed laws.well_formed;
        ordered = λ σ h.
            let r = (MeetsAll-append σ l.cores (entry_cores e)).0 h in
            AreOrdered-append σ entries (e ∷ []) (enc.ordered σ r.0) (laws.ordered σ r.1);
      },
      record {
        some = λ σ h.
            let r = (MeetsAll-append σ l.cores (entry_cores e)).0 h in
            (r.0, (number_of σ e, laws.some σ r.1, numbers_of-append σ entries e));
        each = λ σ v h mem.
            let t = laws.each σ v mem in (
              t.0,
              t.1,
              (MeetsAll-append t.0 l.cores (entry_cores e)).1 (MeetsAll-agree n σ t.0 l.cores t.1 enc.below h, t.2),
              numbers_of-append t.0 entries e
                  ∙ (ap (λ (v : ℤ). numbers_of t.0 entries ++ v ∷ []) t.3
                  ∙ ap (λ (vs : List ℤ). vs ++ v ∷ []) (sym (numbers_of-agree n σ t.0 decls entries t.1 enc.entries))),
            );
      },
    )
