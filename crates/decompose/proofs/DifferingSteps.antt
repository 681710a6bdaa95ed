-- The steps of the loops that make the parts of different members, and that the lists so made are these parts.
use Rattle.std.proofs.Common.{◌≡◌, ℕ, ◌+◌, ◌<◌, ◌≤◌, ◌^◌, ◌&&◌, cond, List, [], ◌∷◌, ◌++◌, map, length, drop, get_or, append_assoc, append-nil, ℤ, refl, sym, ap, ◌∙◌, subst, arith}
use Rattle.std.specs.Prelude.{unsigned_abs, ◌==◌}
use Rattle.std.specs.List.{AllByRecursion}
use Rattle.std.proofs.lemmas.List.{length-append, length-map, at_drop_more, at_drop_all}
use Rattle.order_ints.specs.declared.atom.Atom.{Atom}
use Rattle.order_ints.specs.declared.order_int.OrdInt.{OrdInt}
use Rattle.order_ints.specs.OrderLevels.{values_of}
use Rattle.core_forms.specs.declared.form.Core.{Core}
use Rattle.core_forms.specs.declared.form.Core.TheVariants.{Ladder, Clause, Amo}
use Rattle.core_forms.specs.WellFormed.{AreSound}
use Rattle.core_forms.specs.Sums.{ascending}
use Rattle.part_base.specs.declared.parts.Parts.{Parts}
use Rattle.decompose.specs.DifferingParts.{all_values, marks_from, marked, mark_core, mark_cores, all_mark_cores, are_true, differing_parts}
use Rattle.decompose.specs.MarksByValue.{groups_of}
use Rattle.decompose.proofs.Marks.{length-values_of}
use Rattle.decompose.proofs.GroupLaws.{values-marks}

abbrev level_values : List (ℤ × Atom) → List ℤ
level_values levels = map (λ (level : ℤ × Atom). level.0) levels

-- ---- one level more of a member

pub small-more : (level : ℤ × Atom) (left rest : List (ℤ × Atom)) → left ≡ level ∷ rest → AllByRecursion (λ (l : ℤ × Atom). unsigned_abs l.0 < 2 ^ 100) left
    → (unsigned_abs level.0 < 2 ^ 100) × AllByRecursion (λ (l : ℤ × Atom). unsigned_abs l.0 < 2 ^ 100) rest
small-more level left rest next all = subst (AllByRecursion (λ (l : ℤ × Atom). unsigned_abs l.0 < 2 ^ 100)) next all

pub level-counted : (level : ℤ × Atom) (left rest : List (ℤ × Atom)) (var total : ℕ) → left ≡ level ∷ rest → var + length (level_values left) ≡ total
    → var + 1 + length (level_values rest) ≡ total
level-counted level left rest var total next e = omega (arith, e, ap (λ ls. length (level_values ls)) next)

pub mark-more : (a b : OrdInt) (c : Atom) (var : ℕ) (V : ℤ) (level : ℤ × Atom) (left rest : List (ℤ × Atom)) (core : Core) (so_far more all : List Core)
    → left ≡ level ∷ rest → core ≡ mark_core var b c V → b ≡ a → V ≡ level.0 → more ≡ so_far ++ core ∷ []
    → so_far ++ mark_cores var a c (level_values left) ≡ all → more ++ mark_cores (var + 1) a c (level_values rest) ≡ all
mark-more a b c var V level left rest core so_far more all next made same is put before =
    let this : core ≡ mark_core var a c level.0 = made ∙ ap (λ d. mark_core var d c V) same ∙ ap (mark_core var a c) is in
    ap (λ ds. ds ++ mark_cores (var + 1) a c (level_values rest)) put
    ∙ append_assoc so_far (core ∷ []) (mark_cores (var + 1) a c (level_values rest))
    ∙ ap (λ d. so_far ++ d ∷ mark_cores (var + 1) a c (level_values rest)) this
    ∙ ap (λ ls. so_far ++ mark_cores var a c (level_values ls)) (sym next)
    ∙ before

-- ---- one member more

pub sound-more : (a : OrdInt) (rest others : List OrdInt) → rest ≡ a ∷ others → AreSound rest → AreSound (a ∷ others)
sound-more a rest others next sound = subst AreSound next sound

pub member-counted : (a : OrdInt) (rest others : List OrdInt) (var n total : ℕ) → rest ≡ a ∷ others → n ≡ length a.steps → var + length (all_values rest) ≡ total
    → var + (n + 1) + length (all_values others) ≡ total
member-counted a rest others var n total next count e =
    let l = length-append (values_of a) (all_values others) in
    omega (arith, l, length-values_of a, count, e, ap (λ ints. length (all_values ints)) next)

pub member-more : (a : OrdInt) (rest others : List OrdInt) (c : Atom) (cs : List Atom) (i var n : ℕ) (d : Atom) (so_far more all : List Core)
    → i < length cs → rest ≡ a ∷ others → n ≡ length a.steps → c ≡ get_or cs i d → more ≡ so_far ++ mark_cores var a c (values_of a)
    → so_far ++ all_mark_cores var rest (drop i cs) ≡ all → more ++ all_mark_cores (var + (n + 1)) others (drop (i + 1) cs) ≡ all
member-more a rest others c cs i var n d so_far more all lt next count is put before =
    let first = mark_cores var a c (values_of a) in
    let e : var + (n + 1) ≡ var + length (values_of a) = omega (arith, count, length-values_of a) in
    ap (λ ds. ds ++ all_mark_cores (var + (n + 1)) others (drop (i + 1) cs)) put
    ∙ append_assoc so_far first (all_mark_cores (var + (n + 1)) others (drop (i + 1) cs))
    ∙ ap (λ m. so_far ++ (first ++ all_mark_cores m others (drop (i + 1) cs))) e
    ∙ ap (λ x. so_far ++ all_mark_cores var (a ∷ others) (x ∷ drop (i + 1) cs)) is
    ∙ ap (λ ds. so_far ++ ds) (sym (at_drop_more (all_mark_cores var (a ∷ others)) cs i d lt))
    ∙ ap (λ ints. so_far ++ all_mark_cores var ints (drop i cs)) (sym next)
    ∙ before

no-conditions : (var : ℕ) (ints : List OrdInt) → all_mark_cores var ints [] ≡ []
no-conditions var [] = refl
no-conditions var (a ∷ ints) = refl

pub members-done : (var : ℕ) (rest : List OrdInt) (cs : List Atom) (i : ℕ) (so_far all : List Core) → length cs ≤ i
    → so_far ++ all_mark_cores var rest (drop i cs) ≡ all → so_far ≡ all
members-done var rest cs i so_far all end before =
    sym (append-nil so_far)
    ∙ ap (λ ds. so_far ++ ds) (sym (at_drop_all (all_mark_cores var rest) cs i end ∙ no-conditions var rest))
    ∙ before

-- ---- the parts

map-twice : (f : List Atom → Core) (g : ℤ → List Atom) (vs : List ℤ) → map f (map g vs) ≡ map (λ v. f (g v)) vs
map-twice f g [] = refl
map-twice f g (v ∷ vs) = ap (λ ds. f (g v) ∷ ds) (map-twice f g vs)

pub differing-made : (next : ℕ) (ints : List OrdInt) (cs : List Atom) (vs : List ℤ) (marks : List (ℤ × Atom)) (groups : List (List Atom))
    (first second third fourth cores : List Core) (members fresh : ℕ)
    → vs ≡ all_values ints → marks ≡ marks_from next vs → groups ≡ groups_of marks
    → first ≡ map (λ a. Ladder a) ints → second ≡ all_mark_cores next ints cs → third ≡ map (λ group. Amo group) groups
    → members ≡ length ints → fourth ≡ cond (are_true cs && (length groups == members)) (map (λ group. Clause group) groups) []
    → cores ≡ first ++ (second ++ (third ++ fourth)) → fresh ≡ length vs
    → record { cores = cores; fresh = fresh } ≡ differing_parts next ints cs
differing-made next ints cs vs marks groups first second third fourth cores members fresh values marked_so grouped_so one two three count four all number =
    let V = all_values ints in
    let M = marks_from next V in
    let ups = ascending V in
    let same_marks : marks ≡ M = marked_so ∙ ap (marks_from next) values in
    let same_groups : groups ≡ map (λ v. marked v M) ups = grouped_so ∙ ap groups_of same_marks ∙ ap (λ us. map (λ v. marked v M) (ascending us)) (values-marks next V) in
    let amos : third ≡ map (λ v. Amo (marked v M)) ups = three ∙ ap (map (λ group. Amo group)) same_groups ∙ map-twice (λ group. Amo group) (λ v. marked v M) ups in
    let many : length groups ≡ length ups = ap length same_groups ∙ length-map ups (λ v. marked v M) in
    let clauses : map (λ group. Clause group) groups ≡ map (λ v. Clause (marked v M)) ups = ap (map (λ group. Clause group)) same_groups ∙ map-twice (λ group. Clause group) (λ v. marked v M) ups in
    let reached : fourth ≡ cond (are_true cs && (length ups == length ints)) (map (λ v. Clause (marked v M)) ups) [] =
    four ∙ ap (λ n. cond (are_true cs && (n == members)) (map (λ group. Clause group) groups) []) many
    ∙ ap (λ n. cond (are_true cs && (length ups == n)) (map (λ group. Clause group) groups) []) count
    ∙ ap (λ ds. cond (are_true cs && (length ups == length ints)) ds []) clauses in
    let lists : cores ≡ (differing_parts next ints cs).cores =
    all ∙ ap (λ ds. ds ++ (second ++ (third ++ fourth))) one ∙ ap (λ ds. map (λ a. Ladder a) ints ++ (ds ++ (third ++ fourth))) two
    ∙ ap (λ ds. map (λ a. Ladder a) ints ++ (all_mark_cores next ints cs ++ (ds ++ fourth))) amos
    ∙ ap (λ ds. map (λ a. Ladder a) ints ++ (all_mark_cores next ints cs ++ (map (λ v. Amo (marked v M)) ups ++ ds))) reached in
    ap (λ (ds : List Core). make ds fresh) lists ∙ ap (make (differing_parts next ints cs).cores) (number ∙ ap length values)
  where
    make : List Core → ℕ → Parts
    make ds n = record { cores = ds; fresh = n }
