-- Marks after variables are met.
use Rattle.std.proofs.Common.{◌≡◌, ◌≢◌, ◌⊎◌, ◌==◌, ℕ, ◌<◌, true, List, [], ◌∷◌, length, set, refl, sym, ap, ◌∙◌, subst, inl, inr}
use Rattle.std.specs.List.{Contains}
use Rattle.std.proofs.lemmas.List.{length-set}
use Rattle.std.proofs.lemmas.Bool.{cases_eq, cases_Bool, eqb-true, eq-eqb}
use Rattle.order_ints.specs.declared.literal.Lit.{Lit}
use Rattle.conflict_analysis.specs.declared.marks.Mark.{Mark}
use Rattle.conflict_analysis.specs.declared.marks.Mark.TheVariants.{Blank, Met}
use Rattle.conflict_analysis.specs.Marking.{mark_at, is_blank}
use Rattle.conflict_analysis.specs.Walking.{met_one, met_by}
use Rattle.conflict_analysis.proofs.Cells.{at-same, at-other, blank-is, blank-isn't}
use Rattle.conflict_analysis.proofs.Members.{contains-here, contains-there, contains-cases, contains-nil}

-- what becomes of a variable: it is met, where it had no mark and isn't passed over
pub data One (cells : List Mark) (over v : ℕ) : Type 0 where
  same : met_one cells over v ≡ cells → (v ≡ over) ⊎ (mark_at cells v ≢ Blank) → One cells over v
  new : met_one cells over v ≡ set cells v Met → v ≢ over → mark_at cells v ≡ Blank → One cells over v

pub one : (cells : List Mark) (over v : ℕ) → One cells over v
one cells over v = elim (cases_Bool (v == over)) [
  | inl p ↦ same (rw p refl) (inl (eqb-true v over p))
  | inr p ↦
      let n : v ≢ over = λ e. let q : (v == over) ≡ true = eq-eqb v over e in cc in
      elim (cases_Bool (is_blank (mark_at cells v))) [
        | inl b ↦ new (rw (p, b) refl) n (blank-is (mark_at cells v) b)
        | inr b ↦ same (rw (p, b) refl) (inr (blank-isn't (mark_at cells v) b))
      ]
]

pub length-one : (cells : List Mark) (over v : ℕ) → length (met_one cells over v) ≡ length cells
length-one cells over v = elim (one cells over v) [
  | same e h ↦ ap length e
  | new e n b ↦ ap length e ∙ length-set cells v Met
]

one-stays : (cells : List Mark) (over v w : ℕ) → mark_at cells w ≢ Blank → mark_at (met_one cells over v) w ≡ mark_at cells w
one-stays cells over v w h = elim (one cells over v) [
  | same e k ↦ ap (λ (c : List Mark). mark_at c w) e
  | new e n b ↦ ap (λ (c : List Mark). mark_at c w) e ∙ at-other cells v w Met (λ k. h (ap (mark_at cells) k ∙ b))
]

one-other : (cells : List Mark) (over v w : ℕ) → w ≢ v → mark_at (met_one cells over v) w ≡ mark_at cells w
one-other cells over v w n = elim (one cells over v) [
  | same e k ↦ ap (λ (c : List Mark). mark_at c w) e
  | new e k b ↦ ap (λ (c : List Mark). mark_at c w) e ∙ at-other cells v w Met n
]

-- a variable that wasn't met before
one-new : (cells : List Mark) (over v : ℕ) → v < length cells → mark_at cells v ≡ Blank → (mark_at (met_one cells over v) v ≡ Blank) ⊎ ((mark_at (met_one cells over v) v ≡ Met) × (v ≢ over))
one-new cells over v l b = elim (one cells over v) [
  | same e k ↦ inl (ap (λ (c : List Mark). mark_at c v) e ∙ b)
  | new e n k ↦ inr (ap (λ (c : List Mark). mark_at c v) e ∙ at-same cells v Met l, n)
]

one-met : (cells : List Mark) (over v : ℕ) → v < length cells → mark_at cells v ≡ Blank → v ≢ over → mark_at (met_one cells over v) v ≡ Met
one-met cells over v l b n = elim (one cells over v) [
  | same e k ↦ elim k [ inl s ↦ absurd (n s) | inr s ↦ absurd (s b) ]
  | new e m k ↦ ap (λ (c : List Mark). mark_at c v) e ∙ at-same cells v Met l
]

pub length-met : (cells : List Mark) (over : ℕ) (ls : List Lit) → length (met_by cells over ls) ≡ length cells
length-met cells over [] = refl
length-met cells over (l ∷ ls) = length-met (met_one cells over l.var) over ls ∙ length-one cells over l.var

-- what has a mark keeps it
pub met-stays : (cells : List Mark) (over : ℕ) (ls : List Lit) (w : ℕ) → mark_at cells w ≢ Blank → mark_at (met_by cells over ls) w ≡ mark_at cells w
met-stays cells over [] w h = refl
met-stays cells over (l ∷ ls) w h =
    let e : mark_at (met_one cells over l.var) w ≡ mark_at cells w = one-stays cells over l.var w h in
    met-stays (met_one cells over l.var) over ls w (λ b. h (sym e ∙ b)) ∙ e

-- what has none is met, where one of the literals has the variable and it isn't passed over
pub met-new : (cells : List Mark) (over : ℕ) (ls : List Lit) (w : ℕ) → w < length cells → mark_at cells w ≡ Blank
    → (mark_at (met_by cells over ls) w ≡ Blank) ⊎ ((mark_at (met_by cells over ls) w ≡ Met) × (w ≢ over) × ((l : Lit) × Contains ls l × (l.var ≡ w)))
met-new cells over [] w low b = inl b
met-new cells over (l ∷ ls) w low b =
    let low' : w < length (met_one cells over l.var) = rw (length-one cells over l.var) low in
    let later : mark_at (met_one cells over l.var) w ≡ Blank → (mark_at (met_by cells over (l ∷ ls)) w ≡ Blank) ⊎ ((mark_at (met_by cells over (l ∷ ls)) w ≡ Met) × (w ≢ over) × ((m : Lit) × Contains (l ∷ ls) m × (m.var ≡ w))) =
    (λ c. elim (met-new (met_one cells over l.var) over ls w low' c) [
      | inl k ↦ inl k
      | inr k ↦ inr (k.0, k.1, (k.2.0, contains-there l k.2.0 ls k.2.1, k.2.2))
    ]) in
    elim (cases_eq w l.var) [
      | inl e ↦
          let lv : l.var < length cells = subst (λ (x : ℕ). x < length cells) e low in
          let bv : mark_at cells l.var ≡ Blank = ap (mark_at cells) (sym e) ∙ b in
          elim (one-new cells over l.var lv bv) [
            | inl c ↦ later (ap (mark_at (met_one cells over l.var)) e ∙ c)
            | inr c ↦
                let m : mark_at (met_one cells over l.var) w ≡ Met = ap (mark_at (met_one cells over l.var)) e ∙ c.0 in
                let real : mark_at (met_one cells over l.var) w ≢ Blank = λ k. let x : Met ≡ Blank = sym m ∙ k in cc in
                inr (met-stays (met_one cells over l.var) over ls w real ∙ m, (λ k. c.1 (sym e ∙ k)), (l, contains-here l ls, sym e))
          ]
      | inr n ↦ later (one-other cells over l.var w n ∙ b)
    ]

pub met-all : (cells : List Mark) (over : ℕ) (ls : List Lit) (l : Lit) → Contains ls l → l.var ≢ over → l.var < length cells → mark_at cells l.var ≡ Blank → mark_at (met_by cells over ls) l.var ≡ Met
met-all cells over [] l c n low b = absurd (contains-nil l c)
met-all cells over (m ∷ ls) l c n low b =
    let low' : l.var < length (met_one cells over m.var) = rw (length-one cells over m.var) low in
    elim (cases_eq l.var m.var) [
      | inl e ↦
          let lv : m.var < length cells = subst (λ (x : ℕ). x < length cells) e low in
          let now : mark_at (met_one cells over m.var) l.var ≡ Met = ap (mark_at (met_one cells over m.var)) e ∙ one-met cells over m.var lv (ap (mark_at cells) (sym e) ∙ b) (λ k. n (e ∙ k)) in
          let real : mark_at (met_one cells over m.var) l.var ≢ Blank = λ k. let x : Met ≡ Blank = sym now ∙ k in cc in
          met-stays (met_one cells over m.var) over ls l.var real ∙ now
      | inr d ↦ elim (contains-cases m l ls c) [
        | inl s ↦ absurd (d (ap (λ (x : Lit). x.var) (sym s)))
        | inr k ↦ met-all (met_one cells over m.var) over ls l k n low' (one-other cells over m.var l.var d ∙ b)
      ]
    ]
