-- A mark after one is set, and when all are blank.
use Rattle.std.proofs.Common.{◌≡◌, ◌≢◌, ℕ, ◌<◌, true, false, List, length, set, replicate, refl, sym, ap, ◌∙◌, arith, inl, inr, ◌⊎◌}
use Rattle.std.proofs.lemmas.List.{get_or-set_same, get_or-set_other, ext_get_or, get_or-replicate, length-replicate, get_or_past}
use Rattle.std.proofs.lemmas.Bool.{cases_lt}
use Rattle.conflict_analysis.specs.declared.marks.Mark.{Mark}
use Rattle.conflict_analysis.specs.declared.marks.Mark.TheVariants.{Blank, Met, Resolved, Entered, Kept, Failed, Implied}
use Rattle.conflict_analysis.specs.Marking.{mark_at, is_blank, is_met, is_covered_mark}

pub at-same : (cells : List Mark) (v : ℕ) (m : Mark) → v < length cells → mark_at (set cells v m) v ≡ m
at-same cells v m h = get_or-set_same cells v m Blank h

pub at-other : (cells : List Mark) (v w : ℕ) (m : Mark) → w ≢ v → mark_at (set cells v m) w ≡ mark_at cells w
at-other cells v w m h = get_or-set_other cells v w m Blank h

pub blank-is : (m : Mark) → is_blank m ≡ true → m ≡ Blank
blank-is Blank e = refl
blank-is Met e = cc
blank-is Resolved e = cc
blank-is Entered e = cc
blank-is Kept e = cc
blank-is Failed e = cc
blank-is Implied e = cc

pub blank-isn't : (m : Mark) → is_blank m ≡ false → m ≢ Blank
blank-isn't m e h = let f : is_blank m ≡ true = ap is_blank h in cc

pub met-is : (m : Mark) → is_met m ≡ true → m ≡ Met
met-is Blank e = cc
met-is Met e = refl
met-is Resolved e = cc
met-is Entered e = cc
met-is Kept e = cc
met-is Failed e = cc
met-is Implied e = cc

pub met-isn't : (m : Mark) → is_met m ≡ false → m ≢ Met
met-isn't m e h = let f : is_met m ≡ true = ap is_met h in cc

pub covered-is : (m : Mark) → is_covered_mark m ≡ true → (m ≡ Kept) ⊎ (m ≡ Implied)
covered-is Blank e = absurd cc
covered-is Met e = absurd cc
covered-is Resolved e = absurd cc
covered-is Entered e = absurd cc
covered-is Kept e = inl refl
covered-is Failed e = absurd cc
covered-is Implied e = inr refl

pub blank-cases : (m : Mark) → (m ≡ Blank) ⊎ (m ≢ Blank)
blank-cases Blank = inl refl
blank-cases Met = inr (blank-isn't Met refl)
blank-cases Resolved = inr (blank-isn't Resolved refl)
blank-cases Entered = inr (blank-isn't Entered refl)
blank-cases Kept = inr (blank-isn't Kept refl)
blank-cases Failed = inr (blank-isn't Failed refl)
blank-cases Implied = inr (blank-isn't Implied refl)

-- what has a mark has a cell
pub in-cells : (cells : List Mark) (v : ℕ) → mark_at cells v ≢ Blank → v < length cells
in-cells cells v h = elim (cases_lt v (length cells)) [ inl l ↦ l | inr l ↦ absurd (h (get_or_past cells v Blank l)) ]

-- where each mark is blank, the cells are blank
pub all-blank : (cells : List Mark) → ((v : ℕ) → v < length cells → mark_at cells v ≡ Blank) → cells ≡ replicate (length cells) Blank
all-blank cells h = ext_get_or Blank cells (replicate (length cells) Blank) (sym (length-replicate (length cells) Blank)) (λ i l. h i l ∙ sym (get_or-replicate (length cells) i Blank Blank l))

-- blank cells
pub at-blank : (n v : ℕ) → mark_at (replicate n Blank) v ≡ Blank
at-blank n v = elim (cases_lt v n) [ inl l ↦ get_or-replicate n v Blank Blank l | inr l ↦ get_or_past (replicate n Blank) v Blank (let e : length (replicate n Blank) ≡ n = length-replicate n Blank in omega arith) ]
