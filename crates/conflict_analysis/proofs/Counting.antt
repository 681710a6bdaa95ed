-- How many entries of a level have a variable that is met, as variables are met and resolved.
use Rattle.std.proofs.Common.{◌≡◌, ◌≢◌, ◌⊎◌, ◌==◌, ◌&&◌, ℕ, zero, suc, ◌+◌, ◌<◌, ◌≤◌, Bool, true, false, cond, List, [], ◌∷◌, ◌++◌, length, set, take, Option, Some, None, refl, sym, ap, ◌∙◌, inl, inr, arith}
use Rattle.std.specs.List.{Contains}
use Rattle.std.proofs.lemmas.Bool.{cases_Bool, eqb-true, eq-eqb}
use Rattle.order_ints.specs.declared.literal.Lit.{Lit}
use Rattle.literal_trail.specs.declared.entry.Entry.{Entry}
use Rattle.literal_trail.specs.Trail.{entry_at, entry_of}
use Rattle.conflict_analysis.specs.declared.marks.Mark.{Mark}
use Rattle.conflict_analysis.specs.declared.marks.Mark.TheVariants.{Blank, Met}
use Rattle.conflict_analysis.specs.Marking.{mark_at, is_blank, is_met}
use Rattle.conflict_analysis.specs.Reasons.{level_at, place_of}
use Rattle.conflict_analysis.specs.Walking.{met_one, met_by, counts_one, counts, met_of_level}
use Rattle.conflict_analysis.proofs.Cells.{at-same, at-other, met-is, blank-is}
use Rattle.conflict_analysis.proofs.Members.{contains-here, contains-there}
use Rattle.conflict_analysis.proofs.Meets.{length-one}
use Rattle.conflict_analysis.proofs.Places.{take-entry, entry-place}

-- no variable has two entries
abbrev pub Distinct : List Entry → Type 0
Distinct [] = Unit {0}
Distinct (e ∷ es) = (entry_of es e.lit.var ≡ None) × Distinct es

none-cases : (b : Bool) (x : Entry) (o : Option Entry) → cond b (Some x) o ≡ None → (b ≡ false) × (o ≡ None)
none-cases true x o h = cc
none-cases false x o h = (refl, h)

some-cases : (b : Bool) (x e : Entry) (o : Option Entry) → cond b (Some x) o ≡ Some e → ((b ≡ true) × (x ≡ e)) ⊎ ((b ≡ false) × (o ≡ Some e))
some-cases true x e o h = inl (refl, cc)
some-cases false x e o h = inr (refl, h)

option-cases : (o : Option Entry) → (o ≡ None) ⊎ ((e : Entry) × (o ≡ Some e))
option-cases None = inl refl
option-cases (Some e) = inr (e, refl)

-- a variable that a front lacks is free in each front of it
pub distinct-fresh : (es : List Entry) → ((j : ℕ) → j < length es → entry_of (take j es) (entry_at es j).lit.var ≡ None) → Distinct es
distinct-fresh [] h = tt
distinct-fresh (x ∷ es) h = (
  elim (option-cases (entry_of es x.lit.var)) [
    | inl n ↦ n
    | inr s ↦
        let p = entry-place es x.lit.var s.0 s.1 in
        let j = place_of es x.lit.var in
        let low : suc j < suc (length es) = omega (arith, p.0) in
        let f = none-cases (x.lit.var == (entry_at es j).lit.var) x (entry_of (take j es) (entry_at es j).lit.var) (h (suc j) low) in
        let same : (entry_at es j).lit.var ≡ x.lit.var = ap (λ (y : Entry). y.lit.var) p.1 ∙ p.2 in
        let t : (x.lit.var == (entry_at es j).lit.var) ≡ true = eq-eqb x.lit.var (entry_at es j).lit.var (sym same) in
        cc
  ],
  distinct-fresh es (λ j l. (none-cases (x.lit.var == (entry_at es j).lit.var) x (entry_of (take j es) (entry_at es j).lit.var) (h (suc j) (omega arith))).1),
)

pub distinct-take : (es : List Entry) (j : ℕ) → Distinct es → Distinct (take j es)
distinct-take es zero d = tt
distinct-take [] (suc j) d = tt
distinct-take (x ∷ es) (suc j) d = (
  elim (option-cases (entry_of (take j es) x.lit.var)) [
    | inl n ↦ n
    | inr s ↦ let q = (take-entry es j x.lit.var s.0 s.1).0 in let k : Some s.0 ≡ None = sym q ∙ d.0 in cc
  ],
  distinct-take es j d.1,
)

-- a mark of a variable without an entry doesn't count
pub count-absent : (level : ℕ) (cells : List Mark) (xs : List Entry) (v : ℕ) (m : Mark) → entry_of xs v ≡ None → met_of_level level (set cells v m) xs ≡ met_of_level level cells xs
count-absent level cells [] v m h = refl
count-absent level cells (x ∷ xs) v m h =
    let n = none-cases (x.lit.var == v) x (entry_of xs v) h in
    let ne : x.lit.var ≢ v = λ e. let t : (x.lit.var == v) ≡ true = eq-eqb x.lit.var v e in cc in
    let here : mark_at (set cells v m) x.lit.var ≡ mark_at cells x.lit.var = at-other cells v x.lit.var m ne in
    let there : met_of_level level (set cells v m) xs ≡ met_of_level level cells xs = count-absent level cells xs v m n.1 in
    (λ i. cond ((x.level == level) && is_met (here i)) 1 0 + there i)

weight : (a b c : Bool) (m n : ℕ) → b ≡ false → c ≡ true → cond (a && c) 1 0 + n ≡ cond a 1 0 + (cond (a && b) 1 0 + n)
weight true b c m n p q = rw (p, q) (omega arith)
weight false b c m n p q = omega arith

-- a variable that wasn't met and is now counts, where its entry is of the level
pub count-one : (level : ℕ) (cells : List Mark) (xs : List Entry) (v : ℕ) (e : Entry) → Distinct xs → entry_of xs v ≡ Some e → v < length cells → mark_at cells v ≡ Blank
    → met_of_level level (set cells v Met) xs ≡ cond (e.level == level) 1 0 + met_of_level level cells xs
count-one level cells [] v e d h low b = cc
count-one level cells (x ∷ xs) v e d h low b = elim (some-cases (x.lit.var == v) x e (entry_of xs v) h) [
  | inl p ↦
      let same : x.lit.var ≡ v = eqb-true x.lit.var v p.0 in
      let none : entry_of xs v ≡ None = ap (entry_of xs) (sym same) ∙ d.0 in
      let there : met_of_level level (set cells v Met) xs ≡ met_of_level level cells xs = count-absent level cells xs v Met none in
      let was : is_met (mark_at cells x.lit.var) ≡ false = ap (λ (w : ℕ). is_met (mark_at cells w)) same ∙ ap is_met b in
      let now : is_met (mark_at (set cells v Met) x.lit.var) ≡ true = ap (λ (w : ℕ). is_met (mark_at (set cells v Met) w)) same ∙ ap is_met (at-same cells v Met low) in
      let lev : (e.level == level) ≡ (x.level == level) = ap (λ (y : Entry). y.level == level) (sym p.1) in
      rw (lev, there) (weight (x.level == level) (is_met (mark_at cells x.lit.var)) (is_met (mark_at (set cells v Met) x.lit.var)) 0 (met_of_level level cells xs) was now)
  | inr p ↦
      let ne : x.lit.var ≢ v = λ q. let t : (x.lit.var == v) ≡ true = eq-eqb x.lit.var v q in cc in
      let here : mark_at (set cells v Met) x.lit.var ≡ mark_at cells x.lit.var = at-other cells v x.lit.var Met ne in
      let there : met_of_level level (set cells v Met) xs ≡ cond (e.level == level) 1 0 + met_of_level level cells xs = count-one level cells xs v e d.1 p.1 low b in
      rw (here, there) (omega arith)
]

-- one variable that is met
count-step : (entries : List Entry) (level : ℕ) (xs : List Entry) (d : Distinct xs) (cells : List Mark) (over v : ℕ)
    → (v ≢ over → (e : Entry) × (entry_of xs v ≡ Some e) × (level_at entries v ≡ e.level) × (v < length cells))
    → met_of_level level (met_one cells over v) xs ≡ counts_one entries level cells over v + met_of_level level cells xs
count-step entries level xs d cells over v h = elim (cases_Bool (v == over)) [
  | inl p ↦ rw (p) (omega arith)
  | inr p ↦
      let n : v ≢ over = λ e. let q : (v == over) ≡ true = eq-eqb v over e in cc in
      let r = h n in
      elim (cases_Bool (is_blank (mark_at cells v))) [
        | inl b ↦
            let lev : (level_at entries v == level) ≡ (r.0.level == level) = ap (λ (x : ℕ). x == level) r.2 in
            rw (p, b, lev) (count-one level cells xs v r.0 d r.1 r.3 (blank-is (mark_at cells v) b))
        | inr b ↦ rw (p, b) (omega arith)
      ]
]

-- what is met of a clause counts
pub count-met : (entries : List Entry) (level : ℕ) (xs : List Entry) (d : Distinct xs) (cells : List Mark) (over : ℕ) (ls : List Lit)
    → ((l : Lit) → Contains ls l → l.var ≢ over → (e : Entry) × (entry_of xs l.var ≡ Some e) × (level_at entries l.var ≡ e.level) × (l.var < length cells))
    → met_of_level level (met_by cells over ls) xs ≡ counts entries level cells over ls + met_of_level level cells xs
count-met entries level xs d cells over [] h = omega arith
count-met entries level xs d cells over (l ∷ ls) h =
    let later : met_of_level level (met_by (met_one cells over l.var) over ls) xs ≡ counts entries level (met_one cells over l.var) over ls + met_of_level level (met_one cells over l.var) xs =
    count-met entries level xs d (met_one cells over l.var) over ls (λ m c n. let r = h m (contains-there l m ls c) n in (r.0, r.1, r.2, rw (length-one cells over l.var) r.3)) in
    let now : met_of_level level (met_one cells over l.var) xs ≡ counts_one entries level cells over l.var + met_of_level level cells xs =
    count-step entries level xs d cells over l.var (h l (contains-here l ls)) in
    omega arith

-- entries one after another
pub count-append : (level : ℕ) (cells : List Mark) (xs ys : List Entry) → met_of_level level cells (xs ++ ys) ≡ met_of_level level cells xs + met_of_level level cells ys
count-append level cells [] ys = omega arith
count-append level cells (x ∷ xs) ys = let r : met_of_level level cells (xs ++ ys) ≡ met_of_level level cells xs + met_of_level level cells ys = count-append level cells xs ys in omega arith

counted : (a b : Bool) → ◌≡◌ {A = ℕ} (cond (a && b) 1 0) 1 → (a ≡ true) × (b ≡ true)
counted true true h = (refl, refl)
counted true false h = cc
counted false b h = cc

uncounted : (a b : Bool) → a ≡ true → b ≡ true → ◌≡◌ {A = ℕ} (cond (a && b) 1 0) 1
uncounted a b p q = rw (p, q) refl

weigh : (b : Bool) → (◌≡◌ {A = ℕ} (cond b 1 0) 0) ⊎ (◌≡◌ {A = ℕ} (cond b 1 0) 1)
weigh true = inr refl
weigh false = inl refl

-- where one counts at least, there is one
pub count-some : (level : ℕ) (cells : List Mark) (xs : List Entry) → 0 < met_of_level level cells xs
    → (j : ℕ) × (j < length xs) × ((entry_at xs j).level ≡ level) × (mark_at cells (entry_at xs j).lit.var ≡ Met)
count-some level cells [] h = absurd (omega arith)
count-some level cells (x ∷ xs) h = elim (weigh ((x.level == level) && is_met (mark_at cells x.lit.var))) [
  | inl z ↦
      let r : 0 < met_of_level level cells xs = omega arith in
      let s = count-some level cells xs r in
      (suc s.0, omega (arith, s.1), s.2, s.3)
  | inr o ↦ let c = counted (x.level == level) (is_met (mark_at cells x.lit.var)) o in (0, omega arith, eqb-true x.level level c.0, met-is (mark_at cells x.lit.var) c.1)
]

-- where none counts, there is none
pub count-none : (level : ℕ) (cells : List Mark) (xs : List Entry) (j : ℕ) → met_of_level level cells xs ≡ 0 → j < length xs → (entry_at xs j).level ≡ level → mark_at cells (entry_at xs j).lit.var ≢ Met
count-none level cells [] j h l e m = omega arith
count-none level cells (x ∷ xs) zero h l e m =
    let w : ◌≡◌ {A = ℕ} (cond ((x.level == level) && is_met (mark_at cells x.lit.var)) 1 0) 1 = uncounted (x.level == level) (is_met (mark_at cells x.lit.var)) (eq-eqb x.level level e) (ap is_met m) in
    omega arith
count-none level cells (x ∷ xs) (suc j) h l e m = count-none level cells xs j (omega arith) (omega arith) e m

-- where nothing is met, none counts
pub count-blank : (level : ℕ) (cells : List Mark) (xs : List Entry) → ((v : ℕ) → mark_at cells v ≡ Blank) → met_of_level level cells xs ≡ 0
count-blank level cells [] h = refl
count-blank level cells (x ∷ xs) h =
    let m : is_met (mark_at cells x.lit.var) ≡ false = ap is_met (h x.lit.var) in
    let r : met_of_level level cells xs ≡ 0 = count-blank level cells xs h in
    rw (m, r) (no-weight (x.level == level))
  where
    no-weight : (a : Bool) → ◌≡◌ {A = ℕ} (cond (a && false) 1 0 + 0) 0
    no-weight true = refl
    no-weight false = refl

-- no more count than there are
pub count-fits : (level : ℕ) (cells : List Mark) (xs : List Entry) → met_of_level level cells xs ≤ length xs
count-fits level cells [] = omega arith
count-fits level cells (x ∷ xs) =
    let r : met_of_level level cells xs ≤ length xs = count-fits level cells xs in
    elim (weigh ((x.level == level) && is_met (mark_at cells x.lit.var))) [ inl z ↦ omega arith | inr o ↦ omega arith ]
