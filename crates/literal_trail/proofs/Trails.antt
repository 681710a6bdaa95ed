-- What makes a trail, and the moves that keep it one.
use Rattle.std.proofs.Common.{◌≡◌, ℕ, suc, ◌+◌, ◌<◌, ◌≤◌, ◌^◌, Bool, true, false, cond, eqb, ◌||◌, List, [], ◌∷◌, ◌++◌, length, map, take, Option, Some, None, refl, ap, sym, ◌∙◌, subst, arith, ⊎_elim, length-append}
use Rattle.std.specs.List.{IsDistinct, AllByRecursion, list_any}
use Rattle.std.proofs.lemmas.Bool.{cases_lt, eqb-true, eqb-false, ne_eqb, or_cases}
use Rattle.std.proofs.lemmas.List.{length-map, get_or_append_left, take-append-le, take-take, get_or-take, length-take-le}
use Rattle.std.proofs.Math.Seq.{take-append_seam, get_or-append_seam}
use Rattle.std.proofs.lemmas.Map.Steps.{length-le_from_distinct_below}
use Rattle.order_ints.specs.declared.literal.Lit.{Lit}
use Rattle.order_ints.specs.Place.{LitBelow}
use Rattle.literal_trail.specs.declared.entry.Entry.{Entry}
use Rattle.literal_trail.specs.Trail.{Trail, IsTrail, no_entry, entry_at, entry_of, up_to, AreLevelled, implied, chosen, cut_back}
use Rattle.literal_trail.specs.Tables.{AreFresh}
use Rattle.literal_trail.proofs.Entries.{by_entry, entry_of-found}
use Rattle.literal_trail.proofs.Levels.{levelled-append, levelled-top, levelled-rising, levelled-begins, levelled-count, levelled-up_to, take-up_to, length-up_to}

-- the variables of entries
abbrev pub vars_of : List Entry → List ℕ
vars_of es = map (λ (e : Entry). e.lit.var) es

-- no entry behind is of the variable of one before
abbrev AreApart : List Entry → Type 0
AreApart [] = Unit {0}
AreApart (e ∷ es) = (entry_of es e.lit.var ≡ None) × AreApart es

met_step : (b : Bool) (e : Entry) (x : Option Entry) → cond b (Some e) x ≡ None → (b ≡ false) × (x ≡ None)
met_step true e x h = absurd (cc)
met_step false e x h = (refl, h)

apart : (es : List Entry) → ((j : ℕ) → j < length es → entry_of (take j es) (entry_at es j).lit.var ≡ None) → AreApart es
apart [] fresh = tt
apart (e ∷ es) fresh = (
  by_entry es e.lit.var (λ none. none) (λ f some.
      let found = entry_of-found es e.lit.var f some in
      let free = fresh (suc found.place) (omega (arith, found.below)) in
      let step = met_step (eqb e.lit.var (entry_at es found.place).lit.var) e (entry_of (take found.place es) (entry_at es found.place).lit.var) free in
      absurd (eqb-false e.lit.var (entry_at es found.place).lit.var step.0 (sym (ap (λ (x : Entry). x.lit.var) found.is ∙ found.var)))),
  apart es (λ j low. (met_step (eqb e.lit.var (entry_at es j).lit.var) e (entry_of (take j es) (entry_at es j).lit.var) (fresh (suc j) (omega (arith, low)))).1),
)

-- no entry has a variable that is free
none_other : (es : List Entry) (v : ℕ) → entry_of es v ≡ None → AllByRecursion (λ (y : ℕ). eqb v y ≡ false) (vars_of es)
none_other [] v h = tt
none_other (e ∷ es) v h =
    let step = met_step (eqb e.lit.var v) e (entry_of es v) h in
    (ne_eqb v e.lit.var (λ is. eqb-false e.lit.var v step.0 (sym is)), none_other es v step.1)

distinct : (es : List Entry) → AreApart es → IsDistinct eqb (vars_of es)
unfolding IsDistinct
distinct [] h = tt
distinct (e ∷ es) h = (none_other es e.lit.var h.0, distinct es h.1)

-- each listed variable is that of an entry in range
range_step : (n q v : ℕ) (rest : Bool) → v < n → (rest ≡ true → q < n) → (eqb q v || rest) ≡ true → q < n
range_step n q v rest low more h = ⊎_elim (λ is. omega (arith, eqb-true q v is)) more (or_cases (eqb q v) rest h)

in_range : (n : ℕ) (es : List Entry) → ((j : ℕ) → j < length es → LitBelow n (entry_at es j).lit) → (q : ℕ) → list_any (eqb q) (vars_of es) ≡ true → q < n
in_range n [] inside q h = absurd (cc)
in_range n (e ∷ es) inside q h =
    range_step n q e.lit.var (list_any (eqb q) (vars_of es)) (inside 0 (omega arith)).1 (in_range n es (λ j low. inside (suc j) (omega (arith, low))) q) h

-- 0 is none of them
none_is_zero : (n : ℕ) (es : List Entry) → ((j : ℕ) → j < length es → LitBelow n (entry_at es j).lit) → AllByRecursion (λ (y : ℕ). eqb 0 y ≡ false) (vars_of es)
none_is_zero n [] inside = tt
none_is_zero n (e ∷ es) inside =
    (ne_eqb 0 e.lit.var (λ is. omega (arith, (inside 0 (omega arith)).0, is)), none_is_zero n es (λ j low. inside (suc j) (omega (arith, low))))

with_zero : (xs : List ℕ) → AllByRecursion (λ (y : ℕ). eqb 0 y ≡ false) xs → IsDistinct eqb xs → IsDistinct eqb (0 ∷ xs)
unfolding IsDistinct
with_zero xs none h = (none, h)

-- entries of different variables are no more than there are variables
pub entries-fit : (n : ℕ) (es : List Entry) → 1 ≤ n → AreFresh n es → length es < n
entries-fit n es some h =
    omega (
      arith,
      length-map es (λ (e : Entry). e.lit.var),
      length-le_from_distinct_below (0 ∷ vars_of es) n
          (with_zero (vars_of es) (none_is_zero n es h.inside) (distinct es (apart es h.fresh)))
          (λ q listed. range_step n q 0 (list_any (eqb q) (vars_of es)) some (in_range n es h.inside q) listed),
    )

-- four facts make a trail
pub trail_from : (t : Trail) → t.vars ≤ 2 ^ 27 → AreFresh (t.vars + 1) t.entries → AreLevelled 0 t.entries t.level → IsTrail t
trail_from t few fresh levelled = record {
  few = few;
  inside = fresh.inside;
  fresh = fresh.fresh;
  levelled = levelled;
  fits = omega (arith, entries-fit (t.vars + 1) t.entries (omega arith) fresh);
  high = omega (arith, levelled-count t.entries 0 t.level levelled);
  top = levelled-top t.entries 0 t.level levelled;
  rising = levelled-rising t.entries 0 t.level levelled;
  begins = levelled-begins t.entries 0 t.level levelled;
}

pub fresh_of : (t : Trail) → IsTrail t → AreFresh (t.vars + 1) t.entries
fresh_of t is = record { inside = is.inside; fresh = is.fresh }

-- a front of entries is fresh
pub fresh-take : (n m : ℕ) (es : List Entry) → AreFresh n es → m ≤ length es → AreFresh n (take m es)
fresh-take n m es h within =
    let count : length (take m es) ≡ m = length-take-le m es within in
    record {
      inside = λ j low. let below : j < m = omega (arith, low) in rw (get_or-take m es j no_entry below) (h.inside j (omega arith));
      fresh = λ j low. let below : j < m = omega (arith, low) in
          rw (get_or-take m es j no_entry below, take-take j m es (omega arith)) (h.fresh j (omega arith));
    }

-- and so it is with an entry more, whose variable was free
pub fresh-push : (n : ℕ) (es : List Entry) (e : Entry) → AreFresh n es → LitBelow n e.lit → entry_of es e.lit.var ≡ None → AreFresh n (es ++ e ∷ [])
fresh-push n es e h low free = record { inside = inside; fresh = fresh }
  where
    count : length (es ++ e ∷ []) ≡ suc (length es)
    count = omega (arith, length-append es (e ∷ []))

    last : (j : ℕ) → j < length (es ++ e ∷ []) → (length es ≤ j) → j ≡ length es
    last j at high = omega (arith, count)

    inside : (j : ℕ) → j < length (es ++ e ∷ []) → LitBelow n (entry_at (es ++ e ∷ []) j).lit
    inside j at =
        ⊎_elim
        (λ before. rw (get_or_append_left es (e ∷ []) no_entry j before) (h.inside j before))
        (λ behind. rw (last j at behind, get_or-append_seam es e [] no_entry) low)
        (cases_lt j (length es))

    fresh : (j : ℕ) → j < length (es ++ e ∷ []) → entry_of (take j (es ++ e ∷ [])) (entry_at (es ++ e ∷ []) j).lit.var ≡ None
    fresh j at =
        ⊎_elim
        (λ before. let within : j ≤ length es = omega arith in rw (get_or_append_left es (e ∷ []) no_entry j before, take-append-le j es (e ∷ []) within) (h.fresh j before))
        (λ behind. rw (last j at behind, get_or-append_seam es e [] no_entry, take-append_seam es (e ∷ [])) free)
        (cases_lt j (length es))

pub trail-implied : (t : Trail) (l : Lit) (reason : ℕ) → IsTrail t → LitBelow (t.vars + 1) l → entry_of t.entries l.var ≡ None → IsTrail (implied t l reason)
trail-implied t l reason is low free =
    let e : Entry = record { lit = l; level = t.level; reason = Some reason } in
    trail_from (implied t l reason) is.few (fresh-push (t.vars + 1) t.entries e (fresh_of t is) low free)
    (levelled-append t.entries (e ∷ []) 0 t.level t.level is.levelled (refl, refl))

pub trail-chosen : (t : Trail) (l : Lit) → IsTrail t → LitBelow (t.vars + 1) l → entry_of t.entries l.var ≡ None → IsTrail (chosen t l)
trail-chosen t l is low free =
    let e : Entry = record { lit = l; level = t.level + 1; reason = None } in
    trail_from (chosen t l) is.few (fresh-push (t.vars + 1) t.entries e (fresh_of t is) low free)
    (levelled-append t.entries (e ∷ []) 0 t.level (t.level + 1) is.levelled (refl, refl))

pub trail-cut_back : (t : Trail) (k : ℕ) → IsTrail t → k ≤ t.level → IsTrail (cut_back t k)
trail-cut_back t k is low =
    trail_from (cut_back t k) is.few
    (subst (AreFresh (t.vars + 1)) (take-up_to k t.entries) (fresh-take (t.vars + 1) (length (up_to k t.entries)) t.entries (fresh_of t is) (length-up_to k t.entries)))
    (levelled-up_to k t.entries 0 t.level is.levelled (omega arith) low)

pub room-free : (t : Trail) (v : ℕ) → IsTrail t → 1 ≤ v → v ≤ t.vars → entry_of t.entries v ≡ None → length t.entries < t.vars
room-free t v is some low free =
    let e : Entry = record { lit = record { var = v; positive = true }; level = t.level; reason = None } in
    let more = entries-fit (t.vars + 1) (t.entries ++ e ∷ []) (omega arith) (fresh-push (t.vars + 1) t.entries e (fresh_of t is) (some, omega arith) free) in
    omega (arith, length-append t.entries (e ∷ []), more)

-- the last entry is in range, and its variable was free
pub fresh-last : (n : ℕ) (es : List Entry) (e : Entry) → AreFresh n (es ++ e ∷ []) → LitBelow n e.lit × (entry_of es e.lit.var ≡ None)
fresh-last n es e h =
    let below : length es < length (es ++ e ∷ []) = omega (arith, length-append es (e ∷ [])) in
    let at = get_or-append_seam es e [] no_entry in
    (rw at at (h.inside (length es) below), rw (at, take-append_seam es (e ∷ [])) at (h.fresh (length es) below))
