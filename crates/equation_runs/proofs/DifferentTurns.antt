-- Each equation that constants and twins among members that differ tell is made or stated in every view: a constant stays one, and of twins each has
-- what the other has not.
use Rattle.std.proofs.Common.{◌≡◌, ◌≢◌, ℕ, zero, suc, ◌+◌, ◌<◌, Bool, true, false, not, ◌&&◌, ◌⊎◌, inl, inr, List, [], ◌∷◌, ◌++◌, length, map, ℤ, pos, ◌+ℤ◌, Option, None, Some, refl, sym, ap, subst, ◌∙◌, ⊎_elim, arith}
use Rattle.std.specs.Prelude.{◌||◌, if◌then◌else◌}
use Rattle.std.proofs.lemmas.Int.{ints as ints_rules}
use Rattle.std.specs.Ordering.{int_eq}
use Rattle.std.proofs.lemmas.Bool.{false≢true, true≢false}
use Rattle.std.proofs.lemmas.List.{map-append}
use Rattle.order_ints.specs.declared.atom.Atom.{Atom}
use Rattle.order_ints.specs.declared.atom.Atom.TheVariants.{True, False, Of}
use Rattle.order_ints.specs.declared.order_int.OrdInt.{OrdInt}
use Rattle.order_ints.specs.OrderRange.{low_of}
use Rattle.order_ints.specs.OrderLevels.{values_of, at_of}
use Rattle.order_ints.specs.OrderMade.{constant_of}
use Rattle.order_ints.specs.Same.{is_true, same_atom}
use Rattle.order_ints.specs.Equality.{is_true-True, same_atom-true, same_atom-tells}
use Rattle.order_ints.specs.View.{resolve}
use Rattle.core_forms.specs.declared.equation.Equation.{Equation}
use Rattle.core_forms.specs.declared.equation.Rule.TheVariants.{Form}
use Rattle.core_forms.specs.declared.form.Core.{Core}
use Rattle.core_forms.specs.declared.form.Core.TheVariants.{AllDiff}
use Rattle.core_forms.specs.Trimmed.{trimmed_int, trimmed_core}
use Rattle.rule_base.specs.Pairs.{only_if}
use Rattle.rule_base.specs.Constant.{is_constant}
use Rattle.alldiff_rules.specs.Members.{int_at, condition_at, IsSure, choice_of}
use Rattle.alldiff_rules.specs.Rows.{IsTaken, by_constant, IsRow, needed_elsewhere, equal_constants}
use Rattle.alldiff_rules.specs.RowLists.{any_place, is_sure}
use Rattle.alldiff_rules.specs.Twins.{first_atom}
use Rattle.alldiff_rules.proofs.Places.{and-left, and-right}
use Rattle.alldiff_rules.proofs.TestLaws.{both-true, constant-is, not-true}
use Rattle.alldiff_rules.proofs.Pigeonhole.{int_eq-same, or-right, or-cases}
use Rattle.alldiff_rules.proofs.Decided.{decides-place}
use Rattle.alldiff_rules.proofs.ExactLaws.{instance-exact}
use Rattle.equation_runs.specs.Turns.{IsMadeOrTold, is_stated}
use Rattle.equation_runs.specs.RunRows.{equation_of}
use Rattle.core_forms.specs.Plain.{is_literal}
use Rattle.equation_runs.specs.DifferentRuns.{constant_at, is_value, is_held, is_shared, is_spent, apart_pair, apart_pairs, condition_pair, excluded_pairs, member_pairs, members_pairs, different_pairs}
use Rattle.equation_runs.proofs.AtTrimmed.{at-trimmed}
use Rattle.equation_runs.proofs.LaterTurns.{AreToldAlways}
use Rattle.equation_runs.proofs.Stated.{by-alldiff}
use Rattle.equation_runs.proofs.TwinFacts.{IsChoice, IsOfTwins, shared-at, twins-taken}
use Rattle.equation_runs.proofs.TrimmedMembers.{trimmed_members, int-trimmed, length-trimmed, condition-resolved, sure-stays, constant-at-stays}

-- what a list of pairs tells, each of them in every view
abbrev pub AreAlways : List OrdInt → List Atom → List (Atom × Atom) → Type 0
AreAlways ints cs [] = Unit {0}
AreAlways ints cs (p ∷ ps) =
    ((view : List Atom) → IsMadeOrTold (λ c e. is_stated c e ≡ true) (AllDiff ints cs) view (equation_of Form p)) × AreAlways ints cs ps

module _ (ints : List OrdInt) (cs : List Atom) where
  -- a row of the members as a view has them is stated, where its atoms are not one
  pub row-told : (view : List Atom) (x y : Atom) → IsRow (trimmed_members view ints) (map (resolve view) cs) (resolve view x) (resolve view y)
      → IsMadeOrTold (λ c e. is_stated c e ≡ true) (AllDiff ints cs) view (equation_of Form (x, y))
  row-told view x y row = by (same_atom (resolve view x) (resolve view y)) refl
    where
      by : (t : Bool) → same_atom (resolve view x) (resolve view y) ≡ t → IsMadeOrTold (λ c e. is_stated c e ≡ true) (AllDiff ints cs) view (equation_of Form (x, y))
      by true same = inl (same_atom-true (resolve view x) (resolve view y) same)
      by false differ =
          inr (by-alldiff (trimmed_core view (AllDiff ints cs)) (equation_of Form (resolve view x, resolve view y))
          ((instance-exact (trimmed_core view (AllDiff ints cs)) (equation_of Form (resolve view x, resolve view y))).1
          (record {
            form = refl;
            differ = λ same. false≢true (sym differ ∙ (same_atom-tells (resolve view x) (resolve view y)).1 same);
            stated = inl row;
          })))

  -- a sure member is the constant v
  pub record IsHeldAt (v : ℤ) : Type 0 where
    pub place : ℕ
    pub inside : place < length ints
    pub sure : IsSure cs place
    pub is : int_at ints place ≡ constant_of v

  held-at : (v : ℤ) → is_held ints cs v ≡ true → IsHeldAt v
  held-at v held = by found.0 found.1 (is_sure cs found.0 && is_constant (int_at ints found.0)) refl found.2
    where
      found : (i : ℕ) × (i < length ints) × (is_value v (constant_at ints cs i) ≡ true)
      found = (decides-place (length ints) (λ i. is_value v (constant_at ints cs i)) (λ i. is_value v (constant_at ints cs i) ≡ true) (λ i. ((λ e. e), (λ e. e)))).0 held

      by : (i : ℕ) → i < length ints → (t : Bool) → (is_sure cs i && is_constant (int_at ints i)) ≡ t → is_value v (constant_at ints cs i) ≡ true → IsHeldAt v
      by i lt true both told =
          let same : int_eq (low_of (int_at ints i)) v ≡ true = subst (λ (t : Bool). is_value v (if t then Some (low_of (int_at ints i)) else None) ≡ true) both told in
          record {
            place = i;
            inside = lt;
            sure = is_true-True (condition_at cs i) (and-left (is_sure cs i) (is_constant (int_at ints i)) both);
            is = constant-is (int_at ints i) (and-right (is_sure cs i) (is_constant (int_at ints i)) both) ∙ ap constant_of (int_eq-same (low_of (int_at ints i)) v same);
          }
      by i lt false both told =
          absurd (false≢true (subst (λ (t : Bool). is_value v (if t then Some (low_of (int_at ints i)) else None) ≡ true) both told))

  abbrev taken : ℤ → Bool
  taken v = is_held ints cs v || is_shared ints cs v

  -- the one value of a sure constant is taken, and the two values of twins are
  spent-constant : (k : ℕ) (v : ℤ) → int_at ints k ≡ constant_of v → taken v ≡ true → is_spent taken (int_at ints k) ≡ true
  spent-constant k v is held = ap (is_spent taken) is ∙ no-more ∙ both-true (taken v) (taken v) held held
    where
      no-more : is_spent taken (constant_of v) ≡ (taken v && taken v)
      no-more = ap (λ (w : ℤ). taken v && taken w) (end v)
        where
          end : (w : ℤ) → w +ℤ pos 0 ≡ w
          end w = omega (arith, ints_rules)

  spent-choice : (k : ℕ) (low : ℤ) (p : Atom) (d : ℕ) → int_at ints k ≡ choice_of low p d → taken low ≡ true → taken (low +ℤ pos (d + 0)) ≡ true → is_spent taken (int_at ints k) ≡ true
  spent-choice k low p d is first second = ap (is_spent taken) is ∙ both-true (taken low) (taken (low +ℤ pos (d + 0))) first second

  -- a value that is taken is so for the member at another place, unless all of its values are
  taken-for : (k : ℕ) (v : ℤ) → is_spent taken (int_at ints k) ≡ false → taken v ≡ true → (view : List Atom) → IsTaken (trimmed_members view ints) (map (resolve view) cs) k v
  taken-for k v free told view = ⊎_elim
      (λ (held : is_held ints cs v ≡ true). by-held (held-at v held))
      (λ (shared : is_shared ints cs v ≡ true). by-shared shared (shared-at ints cs (length ints) v shared))
      (or-cases (is_held ints cs v) (is_shared ints cs v) told)
    where
      by-held : IsHeldAt v → IsTaken (trimmed_members view ints) (map (resolve view) cs) k v
      by-held h =
          by_constant h.place
          (λ same. false≢true (sym free ∙ spent-constant k v (subst (λ (i : ℕ). int_at ints i ≡ constant_of v) same h.is) told))
          (sure-stays view cs h.place h.sure) (constant-at-stays view ints h.place v h.is)

      by-shared : is_shared ints cs v ≡ true → IsOfTwins ints cs (length ints) v → IsTaken (trimmed_members view ints) (map (resolve view) cs) k v
      by-shared shared t =
          twins-taken ints cs view (length ints) v t k (free-of t.place t.here) (free-of t.first t.there)
        where
          shared-taken : (w : ℤ) → is_shared ints cs w ≡ true → taken w ≡ true
          shared-taken w e = or-right (is_held ints cs w) (is_shared ints cs w) e

          both : (taken t.key.0 ≡ true) × (taken (t.key.0 +ℤ pos (t.key.1 + 0)) ≡ true)
          both = (shared-taken t.key.0 (t.lower), shared-taken (t.key.0 +ℤ pos (t.key.1 + 0)) t.upper)

          free-of : (i : ℕ) → IsChoice ints cs i t.key → i ≢ k
          free-of i choice same =
              let is = subst (λ (j : ℕ). IsChoice ints cs j t.key) same choice in
              false≢true (sym free ∙ spent-choice k t.key.0 (first_atom (int_at ints k).steps) t.key.1 is.is both.0 both.1)

  -- a sure member isn't a value that others take
  apart-told : (k : ℕ) (v : ℤ) → k < length ints → IsSure cs k → is_spent taken (int_at ints k) ≡ false → taken v ≡ true → (view : List Atom)
      → IsMadeOrTold (λ c e. is_stated c e ≡ true) (AllDiff ints cs) view (equation_of Form (at_of (int_at ints k) v, at_of (int_at ints k) (v +ℤ pos 1)))
  apart-told k v lt sure free told view =
      row-told view (at_of (int_at ints k) v) (at_of (int_at ints k) (v +ℤ pos 1))
      (needed_elsewhere k v (subst (λ (n : ℕ). k < n) (sym (length-trimmed view ints)) lt) (sure-stays view cs k sure)
      (taken-for k v free told view) (here v) (here (v +ℤ pos 1)))
    where
      here : (w : ℤ) → resolve view (at_of (int_at ints k) w) ≡ at_of (int_at (trimmed_members view ints) k) w
      here w = sym (ap (λ (a : OrdInt). at_of a w) (int-trimmed view ints k) ∙ at-trimmed view (int_at ints k) w)

  -- a constant whose value a sure constant has, and that isn't sure, has no true condition
  condition-told : (k : ℕ) → k < length ints → is_true (condition_at cs k) ≡ false → is_constant (int_at ints k) ≡ true → is_held ints cs (low_of (int_at ints k)) ≡ true → (view : List Atom)
      → IsMadeOrTold (λ c e. is_stated c e ≡ true) (AllDiff ints cs) view (equation_of Form (condition_at cs k, False))
  condition-told k lt unsure is held view =
      let v = low_of (int_at ints k) in
      let h = held-at v held in
      row-told view (condition_at cs k) False
      (equal_constants h.place k v (other h) (subst (λ (n : ℕ). k < n) (sym (length-trimmed view ints)) lt) (sure-stays view cs h.place h.sure)
      (constant-at-stays view ints h.place v h.is) (constant-at-stays view ints k v (constant-is (int_at ints k) is))
      (sym (condition-resolved view cs k)) refl)
    where
      other : (h : IsHeldAt (low_of (int_at ints k))) → h.place ≢ k
      other h same = true≢false (sym (ap is_true (subst (λ (i : ℕ). condition_at cs i ≡ True) same h.sure)) ∙ unsure)

  -- lists of pairs
  always-append : (ps qs : List (Atom × Atom)) → AreAlways ints cs ps → AreAlways ints cs qs → AreAlways ints cs (ps ++ qs)
  always-append [] qs first second = second
  always-append (p ∷ ps) qs first second = (first.0, always-append ps qs first.1 second)

  always-if : (t : Bool) (ps : List (Atom × Atom)) → (t ≡ true → AreAlways ints cs ps) → AreAlways ints cs (only_if t ps)
  always-if true ps each = each refl
  always-if false ps each = tt

  -- the values of a member
  each-apart : (k : ℕ) (values : List ℤ) → k < length ints → IsSure cs k → is_spent taken (int_at ints k) ≡ false → AreAlways ints cs (apart_pairs taken (int_at ints k) values)
  each-apart k [] lt sure free = tt
  each-apart k (v ∷ values) lt sure free =
      let a = int_at ints k in
      always-append (only_if (taken v) (apart_pair a v)) (apart_pairs taken a values)
      (always-if (taken v) (apart_pair a v) (λ told.
      always-if (not (same_atom (at_of a v) (at_of a (v +ℤ pos 1)))) ((at_of a v, at_of a (v +ℤ pos 1)) ∷ []) (λ _. (apart-told k v lt sure free told, tt))))
      (each-apart k values lt sure free)

  -- a member
  open-unsure : (c : Atom) → is_literal c ≡ true → is_true c ≡ false
  open-unsure True e = absurd (false≢true e)
  open-unsure False e = refl
  open-unsure (Of l) e = refl

  one-told : (k : ℕ) → k < length ints → (is_literal (condition_at cs k) && (is_constant (int_at ints k) && is_held ints cs (low_of (int_at ints k)))) ≡ true
      → (view : List Atom) → IsMadeOrTold (λ c e. is_stated c e ≡ true) (AllDiff ints cs) view (equation_of Form (condition_at cs k, False))
  one-told k lt e =
      let c = condition_at cs k in
      let constant = is_constant (int_at ints k) in
      let held = is_held ints cs (low_of (int_at ints k)) in
      let last = and-right (is_literal c) (constant && held) e in
      condition-told k lt (open-unsure c (and-left (is_literal c) (constant && held) e)) (and-left constant held last) (and-right constant held last)

  each-member : (k : ℕ) → k < length ints → AreAlways ints cs (member_pairs (is_held ints cs) (is_shared ints cs) (condition_at cs k) (int_at ints k))
  each-member k lt =
      let c = condition_at cs k in
      let a = int_at ints k in
      always-append (condition_pair (is_held ints cs) c a) (excluded_pairs taken c a)
      (always-if (is_literal c && (is_constant a && is_held ints cs (low_of a))) ((c, False) ∷ []) (λ e. (one-told k lt e, tt)))
      (always-if (is_true c && not (is_spent taken a)) (apart_pairs taken a (values_of a)) (λ e.
      each-apart k (values_of a) lt (is_true-True c (and-left (is_true c) (not (is_spent taken a)) e)) (not-true (is_spent taken a) (and-right (is_true c) (not (is_spent taken a)) e))))

  each-members : (n : ℕ) → ((k : ℕ) → k < n → k < length ints) → AreAlways ints cs (members_pairs (is_held ints cs) (is_shared ints cs) ints cs n)
  each-members zero within = tt
  each-members (suc n) within =
      always-append (members_pairs (is_held ints cs) (is_shared ints cs) ints cs n) (member_pairs (is_held ints cs) (is_shared ints cs) (condition_at cs n) (int_at ints n))
      (each-members n (λ k lt. within k (omega (arith, lt)))) (each-member n (within n (omega arith)))

  -- so they are told
  always-told : (ps : List (Atom × Atom)) → AreAlways ints cs ps → AreToldAlways (λ c e. is_stated c e ≡ true) (AllDiff ints cs) (map (equation_of Form) ps)
  always-told [] always = tt
  always-told (p ∷ ps) always = (always.0, always-told ps always.1)

  pub different-turn : AreToldAlways (λ c e. is_stated c e ≡ true) (AllDiff ints cs) (map (equation_of Form) (different_pairs ints cs))
  different-turn = always-told (different_pairs ints cs) (each-members (length ints) (λ k lt. lt))
