-- Laws of members with the same two values.
use Rattle.std.proofs.Common.{◌≡◌, ℕ, ◌<◌, Bool, true, false, not, ◌&&◌, ◌||◌, inl, inr, List, [], ◌∷◌, ◌++◌, length, ℤ, refl, ap, sym, ◌∙◌, subst, subst₂, arith, ⊎_elim}
use Rattle.std.specs.Prelude.{◌==◌, ◌↔◌, Option, None, Some}
use Rattle.std.specs.BTreeMap.{BTreeMap, get}
use Rattle.std.proofs.lemmas.Bool.{true≢false, false≢true, cases_Bool, eqb-true, eqb-false}
use Rattle.order_ints.specs.declared.atom.Atom.{Atom}
use Rattle.order_ints.specs.declared.atom.Atom.TheVariants.{True, False, Of}
use Rattle.order_ints.specs.declared.order_int.OrdInt.{OrdInt}
use Rattle.order_ints.specs.Truth.{not_atom}
use Rattle.order_ints.specs.Same.{same_atom}
use Rattle.order_ints.specs.Equality.{same_atom-true, same_atom-refl}
use Rattle.order_ints.proofs.Truths.{not_atom-not_atom}
use Rattle.rule_base.specs.declared.sought.SoughtEquation.TheVariants.{Apart}
use Rattle.rule_base.specs.Pairs.{is_pair_of, is_sought, first_sought, only_if}
use Rattle.rule_base.proofs.PairLaws.{by_pair}
use Rattle.alldiff_rules.specs.declared.table.Places.{Places}
use Rattle.alldiff_rules.specs.Table.{pair_cmp, has_others, HasOther, ShowsThird, ShowsSecond, Shows}
use Rattle.alldiff_rules.specs.Members.{int_at, choice_of, IsChoiceAt}
use Rattle.alldiff_rules.specs.Rows.{AreTwins}
use Rattle.alldiff_rules.specs.Instances.{IsOneOf}
use Rattle.alldiff_rules.specs.Finds.{Finds}
use Rattle.alldiff_rules.specs.Twins.{IsSplitAt, HasTwins, IsTwinRow, first_atom, twin_equations, shown_equations, IsShown, IsShownTwin}
use Rattle.alldiff_rules.proofs.Shown.{one-told, told-one}
use Rattle.alldiff_rules.proofs.Sounds.{same_choice}
use Rattle.alldiff_rules.proofs.Places.{sure-inside}
use Rattle.alldiff_rules.proofs.FindsLaws.{same-finds, list-finds, one-left, one-right, one-cases}

-- the atom of a choice
pub atom-same : (a : OrdInt) (v w : ℤ) (p q : Atom) (d e : ℕ) → a ≡ choice_of v p d → a ≡ choice_of w q e → p ≡ q
atom-same a v w p q d e first second = ap (λ (x : OrdInt). first_atom x.steps) (sym first ∙ second)

pub atom-is : (a : OrdInt) (v : ℤ) (p : Atom) (d : ℕ) → a ≡ choice_of v p d → first_atom a.steps ≡ p
atom-is a v p d e = ap (λ (x : OrdInt). first_atom x.steps) e

-- no atom is its own negation
pub not-itself : (a : Atom) → a ≡ not_atom a → ⊥
not-itself True e = cc
not-itself False e = cc
not-itself (Of l) e = differ l.positive (ap sign e)
  where
    sign : Atom → Bool
    sign True = true
    sign False = true
    sign (Of m) = m.positive

    differ : (t : Bool) → t ≡ not t → ⊥
    differ true h = true≢false h
    differ false h = false≢true h

-- two members of three are twins that state an equation of two different atoms
pub not-all-opposite : (f s t : Atom) → f ≡ not_atom s → f ≡ not_atom t → s ≡ not_atom t → ⊥
not-all-opposite f s t first second third = not-itself s (third ∙ sym second ∙ first)

-- an equation that is not of two different atoms
pub same-not-apart : (a b : Atom) → is_sought Apart (a, b) ≡ false → a ≡ b
same-not-apart a b e = same_atom-true a b (by (same_atom a b) e)
  where
    by : (t : Bool) → not t ≡ false → t ≡ true
    by true h = refl
    by false h = absurd (true≢false h)

-- a given equation
pub pair-itself : (a b : Atom) → is_pair_of a b (a, b) ≡ true
pair-itself a b = λ i. (same_atom-refl a i && same_atom-refl b i) || (same_atom a b && same_atom b a)

or-true : (t : Bool) → (t || true) ≡ true
or-true true = refl
or-true false = refl

pub pair-crossed : (a b : Atom) → is_pair_of a b (b, a) ≡ true
pair-crossed a b =
    let both : is_pair_of a b (b, a) ≡ ((same_atom b a && same_atom a b) || true) = λ i. (same_atom b a && same_atom a b) || (same_atom-refl b i && same_atom-refl a i) in
    both ∙ or-true (same_atom b a && same_atom a b)

module _ (xs : List OrdInt) (cs : List Atom) where
  -- two that are split are twins
  pub twins-split : (i j : ℕ) (low : ℤ) (d : ℕ) (p q : Atom) → (i ≡ j → ⊥) → IsSplitAt xs cs p low d i → IsSplitAt xs cs q low d j → AreTwins xs cs i j low d p q
  twins-split i j low d p q ne f g = record { apart = ne; sure_first = f.0; sure_second = g.0; first = f.1; second = g.1 }

  -- a member whose two values an atom tells apart has no others
  pub one-split : (i : ℕ) (p q : Atom) (v w : ℤ) (d e : ℕ) → IsSplitAt xs cs p v d i → IsSplitAt xs cs q w e i → ◌≡◌ {A = ℤ × ℕ} (v, d) (w, e)
  one-split i p q v w d e f g = same_choice (v, d) w e p q (sym f.1 ∙ g.1)

  -- a member is told to be a twin
  abbrev pub IsTold : BTreeMap (ℤ × ℕ) Places → Atom → ℕ → Type 0
  IsTold table p i = (v : ℤ) × (d : ℕ) × IsSplitAt xs cs p v d i × (has_others 1 i (get pair_cmp table (v, d)) ≡ true)

  module _ (table : BTreeMap (ℤ × ℕ) Places) (p : Atom) (i : ℕ) where
    pub told-shared : (low : ℤ) (d : ℕ) (t : Bool) → IsSplitAt xs cs p low d i → t ≡ has_others 1 i (get pair_cmp table (low, d)) → (t ≡ true) ↔ IsTold table p i
    told-shared low d t split is = (λ e. (low, d, split, sym is ∙ e), λ h. is ∙ subst (λ (key : ℤ × ℕ). has_others 1 i (get pair_cmp table key) ≡ true) (one-split i p p h.0 low h.1 d h.2 split) h.3)

    pub told-none : ((v : ℤ) (d : ℕ) → IsSplitAt xs cs p v d i → ⊥) → (false ≡ true) ↔ IsTold table p i
    told-none none = (λ e. absurd (false≢true e), λ h. absurd (none h.0 h.1 h.2))

  -- by the table of those that q splits
  module _ (same : length xs ≡ length cs) (table : BTreeMap (ℤ × ℕ) Places) (p q : Atom) (shown : (key : ℤ × ℕ) → Shows (λ i. (i < length xs) × IsSplitAt xs cs q key.0 key.1 i) (get pair_cmp table key)) where
    pub told-twins : (i : ℕ) → IsTold table p i → HasTwins xs cs p q
    told-twins i h =
        let other : HasOther (λ j. (j < length xs) × IsSplitAt xs cs q h.0 h.1 j) i = one-told (λ j. (j < length xs) × IsSplitAt xs cs q h.0 h.1 j) i (get pair_cmp table (h.0, h.1)) (shown (h.0, h.1)) h.3 in
        (i, other.0, h.0, h.1, twins-split i other.0 h.0 h.1 p q (λ e. other.2 (sym e)) h.2 other.1.1)

    pub twins-told : (h : HasTwins xs cs p q) → (h.0 < length xs) × IsTold table p h.0
    twins-told h =
        let i = h.0 in
        let j = h.1 in
        let low = h.2 in
        let d = h.3 in
        let t = h.4 in
        let in_i : i < length xs = omega (arith, sure-inside cs i t.sure_first) in
        let in_j : j < length xs = omega (arith, sure-inside cs j t.sure_second) in
        (in_i, (low, d, (t.sure_first, t.first), told-one (λ k. (k < length xs) × IsSplitAt xs cs q low d k) i (get pair_cmp table (low, d)) (shown (low, d)) (j, (in_j, (t.sure_second, t.second)), λ e. t.apart (sym e))))

  -- no twins state a given equation
  pub no-pair : (a b : Atom) → (HasTwins xs cs a (not_atom b) → ⊥) → (HasTwins xs cs b (not_atom a) → ⊥) → (x y : Atom) → IsTwinRow xs cs x y → is_pair_of a b (x, y) ≡ false
  no-pair a b one other x y h = ⊎_elim
      (λ (e : is_pair_of a b (x, y) ≡ true). absurd (by_pair {X = ⊥} a b (x, y) e
      (λ f g. one (subst₂ (λ s t. HasTwins xs cs s (not_atom t)) f g h))
      (λ f g. other (subst₂ (λ s t. HasTwins xs cs s (not_atom t)) f g h))))
      (λ (e : is_pair_of a b (x, y) ≡ false). e) (cases_Bool (is_pair_of a b (x, y)))

  -- the equations of one member with those that the table shows
  module _ (choices : BTreeMap (ℤ × ℕ) Places) (shown : (key : ℤ × ℕ) → Shows (λ i. (i < length xs) × IsChoiceAt xs cs key.0 key.1 i) (get pair_cmp choices key)) (i : ℕ) where
    module _ (p : Atom) (low : ℤ) (d : ℕ) (split : IsSplitAt xs cs p low d i) where
      abbrev At : ℕ → Type 0
      At j = (j < length xs) × IsChoiceAt xs cs low d j

      -- with one of them
      listed-twin : (a b : Atom) (j : ℕ) → At j → IsShown j (get pair_cmp choices (low, d)) → IsOneOf a b (twin_equations xs p i (Some j)) → IsShownTwin xs cs choices i a b
      listed-twin a b j at there = by (j == i) (λ e. eqb-false j i e)
        where
          by : (t : Bool) → (t ≡ false → j ≡ i → ⊥) → IsOneOf a b (only_if (not t) ((p, not_atom (first_atom (int_at xs j).steps)) ∷ [])) → IsShownTwin xs cs choices i a b
          by true ne h = absurd h
          by false ne (inr h) = absurd h
          by false ne (inl h) =
              let q : Atom = at.1.1.0 in
              let opposite : not_atom b ≡ q = ap not_atom (h.1 ∙ ap not_atom (atom-is (int_at xs j) low q d at.1.1.1)) ∙ not_atom-not_atom q in
              (low, d, j, subst (λ (x : Atom). IsSplitAt xs cs x low d i) (sym h.0) split, subst (λ (x : Atom). IsSplitAt xs cs x low d j) (sym opposite) (at.1.0, at.1.1.1), ne refl, there)

      twin-listed : (a b : Atom) (j : ℕ) → IsSplitAt xs cs a low d i → IsSplitAt xs cs (not_atom b) low d j → (j ≡ i → ⊥) → IsOneOf a b (twin_equations xs p i (Some j))
      twin-listed a b j first second ne = by (j == i) (λ e. eqb-true j i e)
        where
          opposite : b ≡ not_atom (first_atom (int_at xs j).steps)
          opposite = sym (not_atom-not_atom b) ∙ ap not_atom (sym (atom-is (int_at xs j) low (not_atom b) d second.1))

          by : (t : Bool) → (t ≡ true → j ≡ i) → IsOneOf a b (only_if (not t) ((p, not_atom (first_atom (int_at xs j).steps)) ∷ []))
          by true same = absurd (ne (same refl))
          by false same = inl (atom-same (int_at xs i) low low a p d d first.1 split.1, opposite)

      second-at : (h : Places) (s : ℕ) → Some s ≡ h.second → Shows At (Some h) → At s
      second-at h s e is = (subst (λ (o : Option ℕ). ShowsSecond At h.first o h.third) (sym e) is.1).0

      third-at : (h : Places) (t : ℕ) → Some t ≡ h.third → Shows At (Some h) → At t
      third-at h t e is = by h.second is.1
        where
          by : (o : Option ℕ) → ShowsSecond At h.first o h.third → At t
          by None shows = absurd (let none : Some t ≡ None = e ∙ shows.0 in cc)
          by (Some s) shows = (subst (λ (o : Option ℕ). ShowsThird At h.first s o) (sym e) shows.2).0

      -- of the three places each holds what is shown
      of-optional : (a b : Atom) (o : Option ℕ) → ((j : ℕ) → Some j ≡ o → At j × IsShown j (get pair_cmp choices (low, d))) → IsOneOf a b (twin_equations xs p i o) → IsShownTwin xs cs choices i a b
      of-optional a b None each h = absurd h
      of-optional a b (Some j) each h = let at = each j refl in listed-twin a b j at.0 at.1 h

      listed-shown : (a b : Atom) (o : Option Places) → get pair_cmp choices (low, d) ≡ o → Shows At o → IsOneOf a b (shown_equations xs p i o) → IsShownTwin xs cs choices i a b
      listed-shown a b None is shows h = absurd h
      listed-shown a b (Some h) is shows one = ⊎_elim
          (λ (f : IsOneOf a b (twin_equations xs p i (Some h.first) ++ twin_equations xs p i h.second)). ⊎_elim
          (λ (g : IsOneOf a b (twin_equations xs p i (Some h.first))). listed-twin a b h.first shows.0 (there h.first (inl refl)) g)
          (λ (g : IsOneOf a b (twin_equations xs p i h.second)). of-optional a b h.second (λ j e. (second-at h j e shows, there j (inr (inl e)))) g)
          (one-cases a b (twin_equations xs p i (Some h.first)) (twin_equations xs p i h.second) f))
          (λ (f : IsOneOf a b (twin_equations xs p i h.third)). of-optional a b h.third (λ j e. (third-at h j e shows, there j (inr (inr e)))) f)
          (one-cases a b (twin_equations xs p i (Some h.first) ++ twin_equations xs p i h.second) (twin_equations xs p i h.third) one)
        where
          there : (j : ℕ) → IsShown j (Some h) → IsShown j (get pair_cmp choices (low, d))
          there j f = subst (IsShown j) (sym is) f

      shown-listed : (a b : Atom) (j : ℕ) → IsSplitAt xs cs a low d i → IsSplitAt xs cs (not_atom b) low d j → (j ≡ i → ⊥) → (o : Option Places) → IsShown j o → IsOneOf a b (shown_equations xs p i o)
      shown-listed a b j first second ne None at = absurd at
      shown-listed a b j first second ne (Some h) at = by at
        where
          one : IsOneOf a b (twin_equations xs p i (Some j))
          one = twin-listed a b j first second ne

          by : IsShown j (Some h) → IsOneOf a b (shown_equations xs p i (Some h))
          by (inl e) = one-left a b (twin_equations xs p i (Some h.first) ++ twin_equations xs p i h.second) (twin_equations xs p i h.third) (one-left a b (twin_equations xs p i (Some h.first)) (twin_equations xs p i h.second) (subst (λ (k : ℕ). IsOneOf a b (twin_equations xs p i (Some k))) e one))
          by (inr (inl e)) = one-left a b (twin_equations xs p i (Some h.first) ++ twin_equations xs p i h.second) (twin_equations xs p i h.third) (one-right a b (twin_equations xs p i (Some h.first)) (twin_equations xs p i h.second) (subst (λ (o : Option ℕ). IsOneOf a b (twin_equations xs p i o)) e one))
          by (inr (inr e)) = one-right a b (twin_equations xs p i (Some h.first) ++ twin_equations xs p i h.second) (twin_equations xs p i h.third) (subst (λ (o : Option ℕ). IsOneOf a b (twin_equations xs p i o)) e one)

      pub shown-finds : (o : Option (Atom × Atom)) → o ≡ first_sought Apart (shown_equations xs p i (get pair_cmp choices (low, d))) → Finds Apart (IsShownTwin xs cs choices i) o
      shown-finds o is = same-finds Apart (λ a b. IsOneOf a b (shown_equations xs p i (get pair_cmp choices (low, d)))) (IsShownTwin xs cs choices i)
          (λ a b h. listed-shown a b (get pair_cmp choices (low, d)) refl (shown (low, d)) h)
          (λ a b h. inl (fewer a b h)) o (list-finds Apart (shown_equations xs p i (get pair_cmp choices (low, d))) o is)
        where
          fewer : (a b : Atom) → IsShownTwin xs cs choices i a b → IsOneOf a b (shown_equations xs p i (get pair_cmp choices (low, d)))
          fewer a b h =
              let key : ◌≡◌ {A = ℤ × ℕ} (h.0, h.1) (low, d) = one-split i a p h.0 low h.1 d h.3 split in
              let there : IsSplitAt xs cs (not_atom b) low d h.2 × IsShown h.2 (get pair_cmp choices (low, d)) × IsSplitAt xs cs a low d i =
              subst (λ (k : ℤ × ℕ). IsSplitAt xs cs (not_atom b) k.0 k.1 h.2 × IsShown h.2 (get pair_cmp choices k) × IsSplitAt xs cs a k.0 k.1 i) key (h.4, h.6, h.3) in
              shown-listed a b h.2 there.2 there.0 h.5 (get pair_cmp choices (low, d)) there.1

    -- a member that has no two values has no twin
    pub none-finds : ((v : ℤ) (d : ℕ) → IsChoiceAt xs cs v d i → ⊥) → Finds Apart (IsShownTwin xs cs choices i) None
    none-finds none = λ a b h. absurd (none h.0 h.1 (h.3.0, (a, h.3.1)))

  -- where no shown twins state an equation of two different atoms, no twins do
  module _ (choices : BTreeMap (ℤ × ℕ) Places) (shown : (key : ℤ × ℕ) → Shows (λ i. (i < length xs) × IsChoiceAt xs cs key.0 key.1 i) (get pair_cmp choices key)) (same : length xs ≡ length cs) where
    abbrev pub IsAnyShown : Atom → Atom → Type 0
    IsAnyShown a b = (i : ℕ) × (i < length xs) × IsShownTwin xs cs choices i a b

    shown-twins : (a b : Atom) → IsAnyShown a b → IsTwinRow xs cs a b
    shown-twins a b h =
        let t = h.2 in
        (h.0, t.2, t.0, t.1, twins-split h.0 t.2 t.0 t.1 a (not_atom b) (λ e. t.5 (sym e)) t.3 t.4)

    module _ (none : (a b : Atom) → IsAnyShown a b → is_sought Apart (a, b) ≡ false) where
      -- so the atoms of two that are shown are opposite
      module _ (low : ℤ) (d : ℕ) where
        abbrev Here : ℕ → Type 0
        Here j = (j < length xs) × IsChoiceAt xs cs low d j

        opposite : (i j : ℕ) (f : Here i) (g : Here j) → IsShown j (get pair_cmp choices (low, d)) → (j ≡ i → ⊥) → f.1.1.0 ≡ not_atom g.1.1.0
        opposite i j f g at ne =
            let q : Atom = g.1.1.0 in
            same-not-apart f.1.1.0 (not_atom q) (none f.1.1.0 (not_atom q) (i, f.0, (low, d, j, (f.1.0, f.1.1.1), (g.1.0, g.1.1.1 ∙ ap (λ (x : Atom). choice_of low x d) (sym (not_atom-not_atom q))), ne, at)))

        three : (h : Places) (s t : ℕ) → get pair_cmp choices (low, d) ≡ Some h → Some s ≡ h.second → Some t ≡ h.third → Here h.first → Here s → Here t → (s ≡ h.first → ⊥) → (t ≡ h.first → ⊥) → (t ≡ s → ⊥) → ⊥
        three h s t is is_s is_t f g k ne_s ne_t ne =
            not-all-opposite f.1.1.0 g.1.1.0 k.1.1.0
            (opposite h.first s f g (subst (IsShown s) (sym is) (inr (inl is_s))) ne_s)
            (opposite h.first t f k (subst (IsShown t) (sym is) (inr (inr is_t))) ne_t)
            (opposite s t g k (subst (IsShown t) (sym is) (inr (inr is_t))) ne)

        -- each member with these two values is shown, or else there are three that are
        all-shown : (j : ℕ) → Here j → (o : Option Places) → get pair_cmp choices (low, d) ≡ o → Shows Here o → IsShown j (get pair_cmp choices (low, d))
        all-shown j at None is shows = absurd (shows j at)
        all-shown j at (Some h) is shows = subst (IsShown j) (sym is) (by h.second refl shows.1)
          where
            by_third : (s : ℕ) → h.second ≡ Some s → Here s → (s ≡ h.first → ⊥) → (p : Option ℕ) → h.third ≡ p → ShowsThird Here h.first s p → IsShown j (Some h)
            by_third s is_s g ne None is_t all = ⊎_elim (λ (e : j ≡ h.first). inl e) (λ (e : j ≡ s). inr (inl (ap (λ (n : ℕ). Some n) e ∙ sym is_s))) (all j at)
            by_third s is_s g ne (Some t) is_t all = absurd (three h s t is (sym is_s) (sym is_t) shows.0 g all.0 ne all.1 all.2)

            by : (p : Option ℕ) → h.second ≡ p → ShowsSecond Here h.first p h.third → IsShown j (Some h)
            by None is_s all = inl (all.1 j at)
            by (Some s) is_s all = by_third s is_s all.0 all.1 h.third refl all.2

      pub no-twins : (a b : Atom) → IsTwinRow xs cs a b → is_sought Apart (a, b) ≡ false
      no-twins a b h =
          let i = h.0 in
          let j = h.1 in
          let low = h.2 in
          let d = h.3 in
          let t = h.4 in
          let in_i : i < length xs = omega (arith, sure-inside cs i t.sure_first) in
          let in_j : j < length xs = omega (arith, sure-inside cs j t.sure_second) in
          let at : IsShown j (get pair_cmp choices (low, d)) = all-shown low d j (in_j, (t.sure_second, (not_atom b, t.second))) (get pair_cmp choices (low, d)) refl (shown (low, d)) in
          none a b (i, in_i, (low, d, j, (t.sure_first, t.first), (t.sure_second, t.second), (λ e. t.apart (sym e)), at))

    pub twins-find : (o : Option (Atom × Atom)) → Finds Apart IsAnyShown o → Finds Apart (IsTwinRow xs cs) o
    twins-find None h = no-twins h
    twins-find (Some p) h = (shown-twins p.0 p.1 h.0, h.1)
