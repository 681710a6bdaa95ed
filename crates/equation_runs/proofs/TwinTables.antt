-- The table of the first members with two values, and the set of the values of twins, as members are gone through.
use Rattle.std.proofs.Common.{◌≡◌, ℕ, ◌+◌, suc, Bool, true, false, cond, ◌||◌, List, length, ℤ, Option, None, Some, refl, sym, ap, subst, ◌∙◌, add-one}
use Rattle.std.specs.Prelude.{MatchOption, if◌then◌else◌}
use Rattle.std.specs.Option.{option_or}
use Rattle.std.specs.BTreeMap.{BTreeMap, get, Updates}
use Rattle.std.specs.BTreeSet as sets
use Rattle.std.specs.BTreeSet.{BTreeSet, contains}
use Rattle.std.specs.declared.cmp.Ordering.{Ordering}
use Rattle.std.specs.declared.cmp.Ordering.TheVariants.{Less, Equal, Greater}
use Rattle.std.specs.Ordering.{int_cmp, int_eq, is_eq}
use Rattle.std.proofs.lemmas.Bool.{false≢true}
use Rattle.order_ints.specs.declared.atom.Atom.{Atom}
use Rattle.order_ints.specs.declared.order_int.OrdInt.{OrdInt}
use Rattle.alldiff_rules.specs.Table.{pair_cmp}
use Rattle.alldiff_rules.proofs.Tables.{exact_choices}
use Rattle.equation_runs.specs.TwinRuns.{choice_at, is_choice, first_with, twin_at, is_of_twin, is_shared_before}
use Rattle.equation_runs.proofs.DifferentSets.{held-put}

tied : (o : Ordering) → is_eq o ≡ true → o ≡ Equal
tied Less e = absurd (false≢true e)
tied Equal e = refl
tied Greater e = absurd (false≢true e)

-- keys that are told to be one are one
pub one-key : (k key : ℤ × ℕ) → is_eq (pair_cmp k key) ≡ true → k ≡ key
one-key k key e = exact_choices k key (tied (pair_cmp k key) e)

or-none : (o : Option ℕ) → o ≡ option_or o None
or-none None = refl
or-none (Some j) = refl

module _ (ints : List OrdInt) (cs : List Atom) (n : ℕ) where
  -- what the table has for each two values
  abbrev pub AreFirsts : BTreeMap (ℤ × ℕ) ℕ → Type 0
  AreFirsts table = (key : ℤ × ℕ) → get pair_cmp table key ≡ first_with ints cs n key

  next : (key : ℤ × ℕ) → option_or (first_with ints cs n key) (if is_choice key (choice_at ints cs n) then Some n else None) ≡ first_with ints cs (n + 1) key
  next key = ap (λ (m : ℕ). first_with ints cs m key) (sym (add-one n))

  -- a member that has not two values
  pub firsts-same : None ≡ choice_at ints cs n → (table : BTreeMap (ℤ × ℕ) ℕ) → AreFirsts table → (key : ℤ × ℕ) → get pair_cmp table key ≡ first_with ints cs (n + 1) key
  firsts-same is table before key =
      before key ∙ or-none (first_with ints cs n key)
      ∙ ap (λ (o : Option (ℤ × ℕ)). option_or (first_with ints cs n key) (if is_choice key o then Some n else None)) is ∙ next key

  -- one that has
  pub firsts-put : (k : ℤ × ℕ) → Some k ≡ choice_at ints cs n → (old new : BTreeMap (ℤ × ℕ) ℕ)
      → MatchOption (get pair_cmp old k) (Updates pair_cmp old new k (Some n)) (λ first. new ≡ old) → AreFirsts old → (key : ℤ × ℕ) → get pair_cmp new key ≡ first_with ints cs (n + 1) key
  firsts-put k is old new put before key =
      by (get pair_cmp old k) refl put (is_eq (pair_cmp k key)) refl
      ∙ ap (λ (o : Option (ℤ × ℕ)). option_or (first_with ints cs n key) (if is_choice key o then Some n else None)) is ∙ next key
    where
      same : is_eq (pair_cmp k key) ≡ true → get pair_cmp old k ≡ first_with ints cs n key
      same e = ap (get pair_cmp old) (one-key k key e) ∙ before key

      by : (o : Option ℕ) → get pair_cmp old k ≡ o → MatchOption o (Updates pair_cmp old new k (Some n)) (λ first. new ≡ old) → (t : Bool) → is_eq (pair_cmp k key) ≡ t
          → get pair_cmp new key ≡ option_or (first_with ints cs n key) (if is_eq (pair_cmp k key) then Some n else None)
      by None e updates true f =
          updates.0 key ∙ ap (λ (t : Bool). cond t (Some n) (get pair_cmp old key)) f
          ∙ (λ i. option_or ((sym e ∙ same f) i) (if (sym f) i then Some n else None))
      by None e updates false f =
          updates.2 key f ∙ before key ∙ or-none (first_with ints cs n key) ∙ ap (λ (t : Bool). option_or (first_with ints cs n key) (if t then Some n else None)) (sym f)
      by (Some j) e kept true f =
          ap (λ (m : BTreeMap (ℤ × ℕ) ℕ). get pair_cmp m key) kept ∙ before key ∙ sym (same f) ∙ e
          ∙ (λ i. option_or ((sym e ∙ same f) i) (if is_eq (pair_cmp k key) then Some n else None))
      by (Some j) e kept false f =
          ap (λ (m : BTreeMap (ℤ × ℕ) ℕ). get pair_cmp m key) kept ∙ before key ∙ or-none (first_with ints cs n key) ∙ ap (λ (t : Bool). option_or (first_with ints cs n key) (if t then Some n else None)) (sym f)

  -- the values of twins
  pub shared-next : (old new : BTreeSet ℤ) → ((v : ℤ) → contains int_cmp new v ≡ (contains int_cmp old v || is_of_twin ints n v (twin_at ints cs n)))
      → ((v : ℤ) → contains int_cmp old v ≡ is_shared_before ints cs n v) → (v : ℤ) → contains int_cmp new v ≡ is_shared_before ints cs (n + 1) v
  shared-next old new put before v =
      put v ∙ ap (λ (t : Bool). t || is_of_twin ints n v (twin_at ints cs n)) (before v) ∙ ap (λ (m : ℕ). is_shared_before ints cs m v) (sym (add-one n))

-- both values of a member
or-assoc : (s t u : Bool) → ((s || t) || u) ≡ (s || (t || u))
or-assoc true t u = refl
or-assoc false t u = refl

pub both-put : (old mid new : BTreeSet ℤ) (low high v : ℤ) → sets.Updates int_cmp old mid low true → sets.Updates int_cmp mid new high true → contains int_cmp new v ≡ (contains int_cmp old v || (int_eq low v || int_eq high v))
both-put old mid new low high v first second =
    held-put mid new high v second ∙ ap (λ (t : Bool). t || int_eq high v) (held-put old mid low v first) ∙ or-assoc (contains int_cmp old v) (int_eq low v) (int_eq high v)

pub or-false : (t : Bool) → t ≡ (t || false)
or-false true = refl
or-false false = refl
