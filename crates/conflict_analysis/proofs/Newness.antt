-- A learned clause is new, and how it stands on the trail and in its prefixes.
use Rattle.std.proofs.Common.{◌≡◌, ◌≢◌, ℕ, ◌+◌, ◌-◌, ◌≤◌, ◌<◌, true, false, List, [], ◌∷◌, Some, None, refl, ap, sym, ◌∙◌, subst, arith, ⊎_elim, ◌⊎◌, inl, inr}
use Rattle.std.specs.Prelude.{Contains}
use Rattle.std.proofs.lemmas.Bool.{cases_Bool, and_parts, or_cases, cases_eq}
use Rattle.order_ints.specs.declared.literal.Lit.{Lit}
use Rattle.order_ints.specs.Truth.{not_lit}
use Rattle.order_ints.specs.Place.{LitBelow}
use Rattle.order_ints.specs.OrderedClauses.{same_lit, has_lit}
use Rattle.order_ints.proofs.LitOrder.{same_lit-true, same_lit-refl}
use Rattle.literal_trail.specs.declared.entry.Entry.{Entry}
use Rattle.literal_trail.specs.Trail.{Trail, IsTrail, entry_of, truth_in, level_in, up_to}
use Rattle.literal_trail.specs.Standing.{IsFalse, IsUnit, IsQuiet}
use Rattle.literal_trail.proofs.Entries.{truth_in-none}
use Rattle.literal_trail.proofs.Levels.{entry_of-up_to, entry_of-above}
use Rattle.proof_check.specs.Values.{has_var}
use Rattle.proof_check.specs.New.{lies_within}
use Rattle.conflict_analysis.specs.Learned.{Step, IsStep, AreKept, IsFalseAt}
use Rattle.conflict_analysis.specs.Laws.{AreApart, LearnedNew, LearnedFalse, LearnedUnit, LearnedInRange, MayResolve, ConflictIsHere, EmptyNew, UnitNew}
use Rattle.conflict_analysis.proofs.Members.{contains-here, contains-there, contains-cases, contains-nil}
use Rattle.conflict_analysis.proofs.Places.{entry-false, false-entry, level-in, level-top, in-range}
use Rattle.conflict_analysis.proofs.Derived.{derives-more, no-step-var, no-lit-var}
use Rattle.conflict_analysis.proofs.Accepted.{has-var-false}

-- what is among literals
has-told : (x : Lit) (ys : List Lit) → has_lit x ys ≡ true → Contains ys x
has-told x [] e = cc
has-told x (y ∷ ys) e =
    ⊎_elim
    (λ (here : same_lit x y ≡ true). let same = same_lit-true x y here in let P : Lit → Type 0 = λ z. Contains (y ∷ ys) z in subst P (sym same) (contains-here y ys))
    (λ (there : has_lit x ys ≡ true). contains-there y x ys (has-told x ys there))
    (or_cases (same_lit x y) (has_lit x ys) e)

within-told : (xs ys : List Lit) → lies_within xs ys ≡ true → (x : Lit) → Contains xs x → Contains ys x
within-told [] ys e x has = absurd (omega (arith, has.1))
within-told (z ∷ zs) ys e x has =
    let both = and_parts (has_lit z ys) (lies_within zs ys) e in
    ⊎_elim
    (λ (first : z ≡ x). let P : Lit → Type 0 = Contains ys in subst P first (has-told z ys both.0))
    (λ (there : Contains zs x). within-told zs ys both.1 x there)
    (contains-cases z x zs has)

-- a literal of a list, or none of them is it
find-lit : (u : Lit) (ls : List Lit) → (Contains ls u) ⊎ ((l : Lit) → Contains ls l → l ≡ u → ⊥)
find-lit u [] = inr (λ l has same. omega (arith, has.1))
find-lit u (m ∷ ms) =
    ⊎_elim
    (λ (here : same_lit m u ≡ true). let P : Lit → Type 0 = λ z. Contains (m ∷ ms) z in inl (subst P (same_lit-true m u here) (contains-here m ms)))
    (λ (other : same_lit m u ≡ false).
    ⊎_elim
    (λ (there : Contains ms u). inl (contains-there m u ms there))
    (λ (none : (l : Lit) → Contains ms l → l ≡ u → ⊥).
    inr (λ l has same.
    ⊎_elim
    (λ (first : m ≡ l). differs m u other (first ∙ same))
    (λ (there : Contains ms l). none l there same)
    (contains-cases m l ms has)))
    (find-lit u ms))
    (cases_Bool (same_lit m u))
  where
    differs : (m u : Lit) → same_lit m u ≡ false → m ≡ u → ⊥
    differs m u other same = let whole = same_lit-refl u in let e : same_lit u u ≡ false = sym (ap (λ (x : Lit). same_lit x u) same) ∙ other in cc

-- a literal that is false by an entry of a level
module _ (t : Trail) (tr : IsTrail t) where
  at-level : (n : ℕ) (l : Lit) → IsFalseAt t.entries n l → (e : Entry) × (entry_of t.entries l.var ≡ Some e) × (e.level ≡ n) × (e.lit ≡ not_lit l)
  at-level n l is =
      let f = false-entry t.entries l is.is_false in
      let q : Some f.0.level ≡ Some n = sym (level-in t.entries l.var f.0 f.1) ∙ is.of_level in
      let r : f.0.level ≡ n = cc in
      (f.0, f.1, r, f.2)

  -- is false at the end of that level and later
  prefix-false : (k n : ℕ) (l : Lit) → IsFalseAt t.entries n l → n ≤ k → truth_in (up_to k t.entries) l ≡ Some false
  prefix-false k n l is low =
      let a = at-level n l is in
      let lev : a.0.level ≡ n = a.2 in
      entry-false (up_to k t.entries) l a.0 (entry_of-up_to k t.entries 0 t.level l.var a.0 tr.levelled a.1 (omega arith)) a.3

  -- and free before
  prefix-free : (k n : ℕ) (l : Lit) → IsFalseAt t.entries n l → k < n → truth_in (up_to k t.entries) l ≡ None
  prefix-free k n l is high =
      let a = at-level n l is in
      let lev : a.0.level ≡ n = a.2 in
      truth_in-none (up_to k t.entries) l (entry_of-above k t.entries l.var a.0 a.1 (omega arith))

  level-range : (n : ℕ) (l : Lit) → IsFalseAt t.entries n l → LitBelow (t.vars + 1) l
  level-range n l is =
      let a = at-level n l is in
      let r = in-range t tr l.var a.0 a.1 in
      (r.0, omega (arith, r.1))

  -- a literal of the current level, or all false below it
  find-here : (ls : List Lit) → ((l : Lit) → Contains ls l → truth_in t.entries l ≡ Some false) → 0 < t.level
      → ((l : Lit) × Contains ls l × (level_in t.entries l.var ≡ Some t.level)) ⊎ ((l : Lit) → Contains ls l → truth_in (up_to (t.level - 1) t.entries) l ≡ Some false)
  find-here [] all above = inr (λ l c. absurd (contains-nil l c))
  find-here (m ∷ ms) all above =
      let f = false-entry t.entries m (all m (contains-here m ms)) in
      let top : f.0.level ≤ t.level = level-top t tr m.var f.0 f.1 in
      let lev : level_in t.entries m.var ≡ Some f.0.level = level-in t.entries m.var f.0 f.1 in
      elim (cases_eq f.0.level t.level) [
        | inl e ↦ inl (m, contains-here m ms, lev ∙ ap Some e)
        | inr n ↦ elim (find-here ms (λ l c. all l (contains-there m l ms c)) above) [
          | inl h ↦ inl (h.0, contains-there m h.0 ms h.1, h.2)
          | inr h ↦ inr (λ l c. elim (contains-cases m l ms c) [
            | inl s ↦ subst (λ (x : Lit). truth_in (up_to (t.level - 1) t.entries) x ≡ Some false) s (prefix-false (t.level - 1) f.0.level m (record { is_false = all m (contains-here m ms); of_level = lev }) (omega arith))
            | inr k ↦ h l k
          ])
        ]
      ]

  module _ (first : Lit) (others : List Lit) (jump : ℕ) (are : AreKept t.entries t.level first others jump) where
    others-false : (k : ℕ) → jump ≤ k → (l : Lit) → Contains others l → truth_in (up_to k t.entries) l ≡ Some false
    others-false k low l c =
        let o = are.lower l c in
        let u : o.level ≤ jump = o.up_to in
        prefix-false k o.level l o.at (omega arith)

    unit-after : (k : ℕ) → jump ≤ k → k < t.level → IsUnit (up_to k t.entries) (first ∷ others) first
    unit-after k low high = record {
      is_in = contains-here first others;
      free = prefix-free k t.level first are.now high;
      others = λ l c n. elim (contains-cases first l others c) [ inl s ↦ absurd (n (sym s)) | inr k' ↦ others-false k low l k' ];
    }

    -- a clause within it is false or unit at the end of the level below
    within-noisy : (ls : List Lit) → ((l : Lit) → Contains ls l → Contains (first ∷ others) l) → IsQuiet (up_to (t.level - 1) t.entries) ls → ⊥
    within-noisy ls among quiet =
        let b : jump < t.level = are.below in
        let low : jump ≤ t.level - 1 = omega arith in
        let rest : (l : Lit) → Contains ls l → (l ≡ first → ⊥) → truth_in (up_to (t.level - 1) t.entries) l ≡ Some false =
        (λ l c n. elim (contains-cases first l others (among l c)) [ inl s ↦ absurd (n (sym s)) | inr k ↦ others-false (t.level - 1) low l k ]) in
        elim (find-lit first ls) [
          | inl has ↦ quiet.not_unit first (record { is_in = has; free = prefix-free (t.level - 1) t.level first are.now (omega arith); others = rest })
          | inr none ↦ quiet.not_false (λ l c. rest l c (none l c))
        ]

    all-false : IsFalse t.entries (first ∷ others)
    all-false l c = elim (contains-cases first l others c) [
      | inl s ↦ subst (λ (x : Lit). truth_in t.entries x ≡ Some false) s are.now.is_false
      | inr k ↦ (are.lower l k).at.is_false
    ]

    all-range : (l : Lit) → Contains (first ∷ others) l → LitBelow (t.vars + 1) l
    all-range l c = elim (contains-cases first l others c) [
      | inl s ↦ subst (λ (x : Lit). LitBelow (t.vars + 1) x) s (level-range t.level first are.now)
      | inr k ↦ level-range (are.lower l k).level l (are.lower l k).at
    ]

by-within : (ls ms : List Lit) → (lies_within ls ms ≡ true → ⊥) → lies_within ls ms ≡ false
by-within ls ms h = elim (cases_Bool (lies_within ls ms)) [ inl e ↦ absurd (h e) | inr e ↦ e ]

pub learned-new : LearnedNew
learned-new live t first others jump tr are quiet d lives =
    by-within d.lits (first ∷ others) (λ e. within-noisy t tr first others jump are d.lits (within-told d.lits (first ∷ others) e) (quiet d lives))

pub learned-unit : LearnedUnit
learned-unit t first others jump tr are = unit-after t tr first others jump are jump (omega arith) are.below

pub learned-false : LearnedFalse
learned-false t first others jump are l c = elim (contains-cases first l others c) [
  | inl s ↦ subst (λ (x : Lit). truth_in t.entries x ≡ Some false) s are.now.is_false
  | inr k ↦ (are.lower l k).at.is_false
]

pub learned-range : LearnedInRange
learned-range t first others jump tr are = all-range t tr first others jump are

pub conflict-here : ConflictIsHere
conflict-here t lits tr above false-here quiet = elim (find-here t tr lits false-here above) [
  | inl h ↦ record { is_false = false-here; here = h.0; has = h.1; now = h.2 }
  | inr h ↦ absurd (quiet.not_false h)
]

pub empty-new : EmptyNew
empty-new live h d lives = go d.lits (h d lives)
  where
    go : (ls : List Lit) → ls ≢ [] → lies_within ls [] ≡ false
    go [] n = absurd (n refl)
    go (l ∷ ls) n = refl

one-of : (l : Lit) (ls : List Lit) → AreApart ls → ls ≢ [] → ls ≢ l ∷ [] → lies_within ls (l ∷ []) ≡ true → ⊥
one-of l [] apart ne differs within = ne refl
one-of l (m ∷ []) apart ne differs within =
    elim (contains-cases l m [] (within-told (m ∷ []) (l ∷ []) within m (contains-here m []))) [
      | inl s ↦ differs (ap (λ (x : Lit). x ∷ []) (sym s))
      | inr k ↦ contains-nil m k
    ]
one-of l (m ∷ n ∷ ls) apart ne differs within =
    let each : (x : Lit) → Contains (m ∷ n ∷ ls) x → x ≡ l = λ x c. elim (contains-cases l x [] (within-told (m ∷ n ∷ ls) (l ∷ []) within x c)) [ inl s ↦ sym s | inr k ↦ absurd (contains-nil x k) ] in
    let same : m.var ≡ n.var = ap (λ (x : Lit). x.var) (each m (contains-here m (n ∷ ls)) ∙ sym (each n (contains-there m n (n ∷ ls) (contains-here n ls)))) in
    let z : ◌≡◌ {A = ℕ} 0 1 = apart 0 1 (omega arith) (omega arith) same in
    omega arith

pub unit-new : UnitNew
unit-new live l apart none d lives = by-within d.lits (l ∷ []) (one-of l d.lits (apart d lives) (none d lives).0 (none d lives).1)

pub may-resolve : MayResolve
may-resolve entries named conflict steps learned shorter s is step leads has within among differ new =
    let v-in : (r : Step) → Contains steps r → s.lit.var ≢ r.lit.var = λ r c e. has-var-false r.lit.var (not_lit s.lit) learned (is.apart r c) has (sym e) in
    record {
      of_trail = λ r c. elim (contains-cases s r steps c) [ inl e ↦ subst (λ (x : Step). IsStep entries named x) e step | inr k ↦ is.of_trail r k ];
      derives = (leads, derives-more (Contains learned) (λ l. Contains shorter l ⊎ (l ≡ not_lit s.lit)) within steps conflict.lits is.derives);
      differ = differ;
      steps_differ = (no-step-var s.lit.var steps v-in, is.steps_differ);
      apart = λ r c. elim (contains-cases s r steps c) [
        | inl e ↦ subst (λ (x : Step). has_var x.lit.var shorter ≡ false) e new
        | inr k ↦ no-lit-var r.lit.var shorter (λ l q e. has-var-false r.lit.var l learned (is.apart r k) (among l q) e)
      ];
    }
