-- How clauses are met on the walk: their variables are marked.
use Rattle.std.specs.Prelude.{◌==◌, ◌&&◌, ℕ, ◌+◌, List, [], ◌∷◌, slice_set, if◌then◌else◌}
use Rattle.order_ints.specs.declared.literal.Lit.{Lit}
use Rattle.literal_trail.specs.declared.entry.Entry.{Entry}
use Rattle.conflict_analysis.specs.declared.marks.Mark.{Mark}
use Rattle.conflict_analysis.specs.declared.marks.Mark.TheVariants.{Met, Resolved}
use Rattle.conflict_analysis.specs.Reasons.{level_at}
use Rattle.conflict_analysis.specs.Marking.{mark_at, is_blank, is_met}

-- a variable that has no mark is met, unless it is the one that is passed over
abbrev pub met_one : List Mark → ℕ → ℕ → List Mark
met_one cells over v =
    if v == over then cells else (if is_blank (mark_at cells v) then slice_set cells v Met else cells)

-- the variables of literals are met
abbrev pub met_by : List Mark → ℕ → List Lit → List Mark
met_by cells over [] = cells
met_by cells over (l ∷ ls) = met_by (met_one cells over l.var) over ls

-- a variable is resolved, and those of its reason are met
abbrev pub resolved_by : List Mark → ℕ → List Lit → List Mark
resolved_by cells v lits = met_by (slice_set cells v Resolved) v lits

-- 1 where a variable of the level is met that had no mark
abbrev pub counts_one : List Entry → ℕ → List Mark → ℕ → ℕ → ℕ
counts_one entries level cells over v = if v == over then 0
    else (if is_blank (mark_at cells v) && (level_at entries v == level) then 1 else 0)

-- how many variables of the level are met that had no mark
abbrev pub counts : List Entry → ℕ → List Mark → ℕ → List Lit → ℕ
counts entries level cells over [] = 0
counts entries level cells over (l ∷ ls) = counts_one entries level cells over l.var
    + counts entries level (met_one cells over l.var) over ls

-- how many entries of the level have a variable that is met
abbrev pub met_of_level : ℕ → List Mark → List Entry → ℕ
met_of_level level cells [] = 0
met_of_level level cells (e ∷ es) = (if (e.level == level) && is_met (mark_at cells e.lit.var) then 1 else 0)
    + met_of_level level cells es
