-- Members that share their two values with others, and which values are taken.
use Rattle.std.proofs.Common.{◌≡◌, ℕ, ◌+◌, ◌<◌, Bool, true, false, cond, ◌||◌, ◌⊎◌, inl, inr, List, length, get_or, ℤ, pos, ◌+ℤ◌, refl, ap, sym, ◌∙◌, subst, arith, ⊎_elim, Option}
use Rattle.std.specs.BTreeMap.{get}
use Rattle.std.specs.Ordering.{int_cmp}
use Rattle.std.proofs.lemmas.Bool.{true≢false, cases_eq}
use Rattle.std.proofs.lemmas.Int.{ints}
use Rattle.std.proofs.lemmas.List.{get_or_read}
use Rattle.order_ints.specs.OrderMade.{constant_of}
use Rattle.order_ints.specs.declared.atom.Atom.{Atom}
use Rattle.order_ints.specs.declared.order_int.OrdInt.{OrdInt}
use Rattle.order_ints.specs.OrderRange.{low_of, high_of}
use Rattle.alldiff_rules.specs.declared.table.Places.{Places}
use Rattle.alldiff_rules.specs.declared.narrow.Narrow.{Narrow}
use Rattle.alldiff_rules.specs.Table.{has_others, HasOther, HasTwoOthers, Shows}
use Rattle.alldiff_rules.specs.Members.{int_at, IsSure, choice_of, end_of, IsConstantAt, IsChoiceAt, IsHolderAt}
use Rattle.alldiff_rules.specs.Narrow.{IsNarrow}
use Rattle.alldiff_rules.specs.Rows.{AreTwins, IsTaken, by_constant, by_twins}
use Rattle.alldiff_rules.proofs.Shown.{one-told, told-one, two-told, told-two}
use Rattle.alldiff_rules.proofs.Sounds.{same_choice}
use Rattle.alldiff_rules.proofs.Places.{sure-inside}

-- the ends of an integer with two values
pub end-of : (a : OrdInt) (upper : Bool) (low : ℤ) (p : Atom) (d : ℕ) → a ≡ choice_of low p d → cond upper (high_of a) (low_of a) ≡ end_of upper low d
end-of a true low p d is = ap high_of is ∙ more low d
  where
    more : (low : ℤ) (d : ℕ) → low +ℤ pos (d + 0) ≡ low +ℤ pos d
    more low d = omega (arith, ints)
end-of a false low p d is = ap low_of is

-- an integer that was read at its place
pub read-choice : (xs : List OrdInt) (i : ℕ) (a : OrdInt) (low : ℤ) (p : Atom) (d : ℕ) → i < length xs → a ≡ get_or xs i a → int_at xs i ≡ choice_of low p d → a ≡ choice_of low p d
read-choice xs i a low p d lt read is = get_or_read xs i a lt read (constant_of (pos 0)) ∙ is

module _ (xs : List OrdInt) (cs : List Atom) where
  -- of a member with two values it is told whether it shares them
  module _ (place : ℕ) (upper : Bool) (low : ℤ) (d : ℕ) (p : Atom) (o : Option Places) (sure : IsSure cs place) (is : int_at xs place ≡ choice_of low p d) (shown : Shows (λ i. (i < length xs) × IsChoiceAt xs cs low d i) o) where
    pub held-yes : has_others 1 place o ≡ true → (v : ℤ) → v ≡ end_of upper low d → IsHolderAt xs cs upper v place
    held-yes told v e = (low, d, (sure, (p, is)), e, one-told (λ i. (i < length xs) × IsChoiceAt xs cs low d i) place o shown told)

    pub held-no : has_others 1 place o ≡ false → (v : ℤ) → IsHolderAt xs cs upper v place → ⊥
    held-no told v h =
        let same : (h.0, h.1) ≡ (low, d) = same_choice (h.0, h.1) low d h.2.1.0 p (sym h.2.1.1 ∙ is) in
        let other : HasOther (λ i. (i < length xs) × IsChoiceAt xs cs low d i) place = subst (λ (key : ℤ × ℕ). HasOther (λ i. (i < length xs) × IsChoiceAt xs cs key.0 key.1 i) place) same h.4 in
        true≢false (sym (told-one (λ i. (i < length xs) × IsChoiceAt xs cs low d i) place o shown other) ∙ told)

  pub held-none : (place : ℕ) (upper : Bool) → ((v : ℤ) (d : ℕ) → IsChoiceAt xs cs v d place → ⊥) → (v : ℤ) → IsHolderAt xs cs upper v place → ⊥
  held-none place upper none v h = none h.0 h.1 h.2

  -- an end of two values is that of one member alone
  pub one-holder : (place : ℕ) (upper : Bool) (v w : ℤ) → IsHolderAt xs cs upper v place → IsHolderAt xs cs upper w place → v ≡ w
  one-holder place upper v w h k =
      let same : (h.0, h.1) ≡ (k.0, k.1) = same_choice (h.0, h.1) k.0 k.1 h.2.1.0 k.2.1.0 (sym h.2.1.1 ∙ k.2.1.1) in
      h.3 ∙ ap (λ (key : ℤ × ℕ). end_of upper key.0 key.1) same ∙ sym k.3

  -- two with the same two values are twins
  twins-of : (i j : ℕ) (low : ℤ) (d : ℕ) → (i ≡ j → ⊥) → (f : IsChoiceAt xs cs low d i) → (g : IsChoiceAt xs cs low d j) → AreTwins xs cs i j low d f.1.0 g.1.0
  twins-of i j low d ne f g = record { apart = ne; sure_first = f.0; sure_second = g.0; first = f.1.1; second = g.1.1 }

  -- an end is one of the two values
  is-end : (upper : Bool) (v low : ℤ) (d : ℕ) → v ≡ end_of upper low d → (v ≡ low) ⊎ (v ≡ low +ℤ pos d)
  is-end true v low d e = inr e
  is-end false v low d e = inl e

  -- two others that hold the value: of the twins of one of them, one pair is without k
  taken-held : (k : ℕ) (v : ℤ) (upper : Bool) → HasTwoOthers (λ i. (i < length xs) × IsHolderAt xs cs upper v i) k → IsTaken xs cs k v
  taken-held k v upper two = by two.0 two.1 two.2.1 two.3.1 two.4 two.5 two.6
    where
      pair : (i : ℕ) → (h : IsHolderAt xs cs upper v i) → (i ≡ k → ⊥) → (h.4.0 ≡ k → ⊥) → IsTaken xs cs k v
      pair i h ne ne' = by_twins i h.4.0 h.0 h.1 h.2.1.0 h.4.1.1.1.0 (twins-of i h.4.0 h.0 h.1 (λ e. h.4.2 (sym e)) h.2 h.4.1.1) ne ne' (is-end upper v h.0 h.1 h.3)

      both : (i j : ℕ) (h : IsHolderAt xs cs upper v i) (g : IsHolderAt xs cs upper v j) → (i ≡ j → ⊥) → (i ≡ k → ⊥) → (j ≡ k → ⊥) → h.4.0 ≡ k → g.4.0 ≡ k → IsTaken xs cs k v
      both i j h g ne ne_i ne_j at_i at_j =
          let f : IsChoiceAt xs cs h.0 h.1 k = subst (IsChoiceAt xs cs h.0 h.1) at_i h.4.1.1 in
          let l : IsChoiceAt xs cs g.0 g.1 k = subst (IsChoiceAt xs cs g.0 g.1) at_j g.4.1.1 in
          let same : (g.0, g.1) ≡ (h.0, h.1) = same_choice (g.0, g.1) h.0 h.1 l.1.0 f.1.0 (sym l.1.1 ∙ f.1.1) in
          let other : IsChoiceAt xs cs h.0 h.1 j = subst (λ (key : ℤ × ℕ). IsChoiceAt xs cs key.0 key.1 j) same g.2 in
          by_twins i j h.0 h.1 h.2.1.0 other.1.0 (twins-of i j h.0 h.1 ne h.2 other) ne_i ne_j (is-end upper v h.0 h.1 h.3)

      by : (i j : ℕ) (h : IsHolderAt xs cs upper v i) (g : IsHolderAt xs cs upper v j) → (i ≡ j → ⊥) → (i ≡ k → ⊥) → (j ≡ k → ⊥) → IsTaken xs cs k v
      by i j h g ne ne_i ne_j =
          ⊎_elim (λ (at_i : h.4.0 ≡ k). ⊎_elim (λ (at_j : g.4.0 ≡ k). both i j h g ne ne_i ne_j at_i at_j) (λ (away : g.4.0 ≡ k → ⊥). pair j g ne_j away) (cases_eq g.4.0 k))
          (λ (away : h.4.0 ≡ k → ⊥). pair i h ne_i away) (cases_eq h.4.0 k)

  -- twins hold their two values
  module _ (same : length xs ≡ length cs) where
    within : (i : ℕ) → IsSure cs i → i < length xs
    within i sure = omega (arith, sure-inside cs i sure)

    held-twins : (k i j : ℕ) (low : ℤ) (d : ℕ) (p q : Atom) (v : ℤ) (upper : Bool) → AreTwins xs cs i j low d p q → (i ≡ k → ⊥) → (j ≡ k → ⊥) → v ≡ end_of upper low d → HasTwoOthers (λ i. (i < length xs) × IsHolderAt xs cs upper v i) k
    held-twins k i j low d p q v upper h ne_i ne_j e = (i, j, (in_i, (low, d, f, e, (j, (in_j, g), λ s. h.apart (sym s)))), (in_j, (low, d, g, e, (i, (in_i, f), h.apart))), h.apart, ne_i, ne_j)
      where
        in_i : i < length xs
        in_i = within i h.sure_first

        in_j : j < length xs
        in_j = within j h.sure_second

        f : IsChoiceAt xs cs low d i
        f = (h.sure_first, (p, h.first))

        g : IsChoiceAt xs cs low d j
        g = (h.sure_second, (q, h.second))

    module _ (tables : Narrow) (narrow : IsNarrow xs cs tables) (k : ℕ) (v : ℤ) where
      or-cases : (s t : Bool) → (s || t) ≡ true → (s ≡ true) ⊎ (t ≡ true)
      or-cases true t e = inl refl
      or-cases false t e = inr e

      or-first : (s t : Bool) → s ≡ true → (s || t) ≡ true
      or-first s t e = ap (λ b. b || t) e

      or-second : (s t : Bool) → t ≡ true → (s || t) ≡ true
      or-second true t e = refl
      or-second false t e = e

      pub told-taken : (has_others 1 k (get int_cmp tables.constants v) || (has_others 2 k (get int_cmp tables.lows v) || has_others 2 k (get int_cmp tables.highs v))) ≡ true → IsTaken xs cs k v
      told-taken e = ⊎_elim constant (λ (f : (has_others 2 k (get int_cmp tables.lows v) || has_others 2 k (get int_cmp tables.highs v)) ≡ true). ⊎_elim low high (or-cases _ _ f)) (or-cases _ _ e)
        where
          constant : has_others 1 k (get int_cmp tables.constants v) ≡ true → IsTaken xs cs k v
          constant f = let h = one-told (λ i. (i < length xs) × IsConstantAt xs cs v i) k (get int_cmp tables.constants v) (narrow.constants v) f in by_constant h.0 h.2 h.1.1.0 h.1.1.1

          low : has_others 2 k (get int_cmp tables.lows v) ≡ true → IsTaken xs cs k v
          low f = taken-held k v false (two-told (λ i. (i < length xs) × IsHolderAt xs cs false v i) k (get int_cmp tables.lows v) (narrow.lows v) f)

          high : has_others 2 k (get int_cmp tables.highs v) ≡ true → IsTaken xs cs k v
          high f = taken-held k v true (two-told (λ i. (i < length xs) × IsHolderAt xs cs true v i) k (get int_cmp tables.highs v) (narrow.highs v) f)

      pub taken-told : IsTaken xs cs k v → (has_others 1 k (get int_cmp tables.constants v) || (has_others 2 k (get int_cmp tables.lows v) || has_others 2 k (get int_cmp tables.highs v))) ≡ true
      taken-told (by_constant i ne sure is) =
          or-first (has_others 1 k (get int_cmp tables.constants v)) _ (told-one (λ i. (i < length xs) × IsConstantAt xs cs v i) k (get int_cmp tables.constants v) (narrow.constants v) (i, (within i sure, (sure, is)), ne))
      taken-told (by_twins i j low d p q h ne_i ne_j one) = or-second (has_others 1 k (get int_cmp tables.constants v)) _ (by one)
        where
          by : (v ≡ low) ⊎ (v ≡ low +ℤ pos d) → (has_others 2 k (get int_cmp tables.lows v) || has_others 2 k (get int_cmp tables.highs v)) ≡ true
          by (inl e) = or-first (has_others 2 k (get int_cmp tables.lows v)) _ (told-two (λ i. (i < length xs) × IsHolderAt xs cs false v i) k (get int_cmp tables.lows v) (narrow.lows v) (held-twins k i j low d p q v false h ne_i ne_j e))
          by (inr e) = or-second (has_others 2 k (get int_cmp tables.lows v)) _ (told-two (λ i. (i < length xs) × IsHolderAt xs cs true v i) k (get int_cmp tables.highs v) (narrow.highs v) (held-twins k i j low d p q v true h ne_i ne_j e))
