-- What a table of levels tells of its integer.
use Rattle.std.proofs.Common.{◌≡◌, ℕ, zero, suc, ◌+◌, ◌-◌, ◌<◌, ◌≤◌, List, [], ◌∷◌, length, get_or, take, map, Contains, ℤ, pos, ◌+ℤ◌, ◌≤ℤ◌, ◌<ℤ◌, refl, sym, ap, subst, ◌∙◌, arith}
use Rattle.std.proofs.lemmas.Int.{ints}
use Rattle.order_ints.specs.declared.atom.Atom.{Atom}
use Rattle.order_ints.specs.declared.atom.Atom.TheVariants.{True, False}
use Rattle.order_ints.specs.declared.order_int.OrdInt.{OrdInt}
use Rattle.order_ints.specs.OrderRange.{weights, AreRising}
use Rattle.order_ints.specs.OrderLevels.{levels, levels_of, values_of, at_of}
use Rattle.order_ints.specs.Walk.{value_at, atom_behind, atom_at}
use Rattle.order_ints.proofs.Walks.{value_at-more, reaching-place, reaching-none}
use Rattle.core_forms.specs.Shapes.{steps_of}
use Rattle.direct_encode.specs.Search.{IsReachedAt, value_of_level}
use Rattle.direct_encode.proofs.Sizes.{length-values}

-- the level at a place
get-levels : (low : ℤ) (x : Atom) (steps : List (Atom × ℕ)) (k : ℕ) (d : ℤ × Atom) → k ≤ length steps → get_or (levels low x steps) k d ≡ (low +ℤ pos (weights (take k steps)), atom_behind x steps k)
get-levels low x [] zero d le = ap (λ (v : ℤ). (v, x)) (omega (arith, ints))
get-levels low x [] (suc k) d le = absurd (omega (arith, le))
get-levels low x (s ∷ steps) zero d le = ap (λ (v : ℤ). (v, x)) (omega (arith, ints))
get-levels low x (s ∷ steps) (suc k) d le =
    get-levels (low +ℤ pos s.1) s.0 steps k d (omega (arith, le))
    ∙ ap (λ (v : ℤ). (v, atom_behind s.0 steps k)) (omega (arith, ints))

pub level_at_place : (a : OrdInt) (k : ℕ) (d : ℤ × Atom) → k ≤ steps_of a → get_or (levels_of a) k d ≡ (value_at a k, atom_at a k)
level_at_place a k d le = get-levels a.base True a.steps k d le

pub length-levels_of : (a : OrdInt) → length (levels_of a) ≡ steps_of a + 1
length-levels_of a = by a.base True a.steps
  where
    by : (low : ℤ) (x : Atom) (steps : List (Atom × ℕ)) → length (levels low x steps) ≡ length steps + 1
    by low x [] = omega arith
    by low x (s ∷ steps) = let rest = by (low +ℤ pos s.1) s.0 steps in omega (arith, rest)

-- values rise with their places
weight-positive : (steps : List (Atom × ℕ)) (k : ℕ) (d : Atom × ℕ) → AreRising steps → k < length steps → 1 ≤ (get_or steps k d).1
weight-positive [] k d rising lt = absurd (omega (arith, lt))
weight-positive (s ∷ steps) zero d rising lt = rising.0
weight-positive (s ∷ steps) (suc k) d rising lt = weight-positive steps k d rising.1 (omega (arith, lt))

pub rises : (a : OrdInt) (k : ℕ) → AreRising a.steps → k < steps_of a → value_at a k <ℤ value_at a (k + 1)
rises a k rising lt =
    let more = value_at-more a k (True, 0) lt in
    let weight = weight-positive a.steps k (True, 0) rising lt in
    omega (arith, ints, more, weight)

-- the atom of a place is true where the integer is at least its value
pub at_of-place : (a : OrdInt) (k : ℕ) → AreRising a.steps → k ≤ steps_of a → at_of a (value_at a k) ≡ atom_at a k
at_of-place a k rising le = reaching-place a (value_at a k) k le (before k le) (omega (arith, ints))
  where
    before : (k : ℕ) → k ≤ steps_of a → 0 < k → value_at a (k - 1) <ℤ value_at a k
    before k le some =
        let back : k - 1 + 1 ≡ k = omega (arith, some) in
        subst (λ (j : ℕ). value_at a (k - 1) <ℤ value_at a j) back (rises a (k - 1) rising (omega (arith, some, le)))

-- and that of the next one where it is above
pub at_of-above : (a : OrdInt) (k : ℕ) → AreRising a.steps → k < steps_of a → at_of a (value_at a k +ℤ pos 1) ≡ atom_at a (k + 1)
at_of-above a k rising lt =
    let up = rises a k rising lt in
    let back : k + 1 - 1 ≡ k = omega arith in
    reaching-place a (value_at a k +ℤ pos 1) (k + 1) (omega (arith, lt))
    (λ some. subst (λ (j : ℕ). value_at a j <ℤ (value_at a k +ℤ pos 1)) (sym back) (omega (arith, ints)))
    (omega (arith, ints, up))

pub at_of-top : (a : OrdInt) (k : ℕ) → k ≡ steps_of a → at_of a (value_at a k +ℤ pos 1) ≡ False
at_of-top a k e = reaching-none a (value_at a k +ℤ pos 1) k e (omega (arith, ints))

-- what a search finds
value-of-level : (a : OrdInt) (k : ℕ) → k ≤ steps_of a → value_of_level (levels_of a) k ≡ value_at a k
value-of-level a k le = ap (λ (level : ℤ × Atom). level.0) (level_at_place a k (pos 0, False) le)

pub found : (a : OrdInt) (v : ℤ) (k : ℕ) (d : ℤ × Atom) → IsReachedAt (levels_of a) v k → k < length (levels_of a) → (get_or (levels_of a) k d).1 ≡ at_of a v
found a v k d at lt =
    let count = length-levels_of a in
    let le : k ≤ steps_of a = omega (arith, lt, count) in
    ap (λ (level : ℤ × Atom). level.1) (level_at_place a k d le)
    ∙ sym (reaching-place a v k le
    (λ some. subst (λ (w : ℤ). w <ℤ v) (value-of-level a (k - 1) (omega (arith, some, le))) (at.1 some))
    (subst (λ (w : ℤ). v ≤ℤ w) (value-of-level a k le) (at.2 lt)))

pub not_found : (a : OrdInt) (v : ℤ) (k : ℕ) → IsReachedAt (levels_of a) v k → length (levels_of a) ≤ k → at_of a v ≡ False
not_found a v k at ge =
    let count = length-levels_of a in
    let last : k - 1 ≡ steps_of a = omega (arith, ge, count, at.0) in
    let some : 0 < k = omega (arith, ge, count) in
    reaching-none a v (steps_of a) refl
    (subst (λ (j : ℕ). value_at a j <ℤ v) last (subst (λ (w : ℤ). w <ℤ v) (value-of-level a (k - 1) (omega (arith, last))) (at.1 some)))

-- each value has a place
pub value_at-get : (a : OrdInt) (k : ℕ) (d : ℤ) → k < length (values_of a) → get_or (values_of a) k d ≡ value_at a k
value_at-get a k d lt = by a.base True a.steps k lt
  where
    by : (low : ℤ) (x : Atom) (steps : List (Atom × ℕ)) (k : ℕ) → k < length (map (λ (level : ℤ × Atom). level.0) (levels low x steps)) → get_or (map (λ (level : ℤ × Atom). level.0) (levels low x steps)) k d ≡ low +ℤ pos (weights (take k steps))
    by low x [] zero lt = omega (arith, ints)
    by low x [] (suc k) lt = absurd (omega (arith, lt))
    by low x (s ∷ steps) zero lt = omega (arith, ints)
    by low x (s ∷ steps) (suc k) lt = by (low +ℤ pos s.1) s.0 steps k (omega (arith, lt)) ∙ omega (arith, ints)

pub place_of : (a : OrdInt) (v : ℤ) → Contains (values_of a) v → (k : ℕ) × (k ≤ steps_of a) × (value_at a k ≡ v)
place_of a v c =
    let count = length-values a in
    (c.0, omega (arith, c.1, count), sym (value_at-get a c.0 v c.1) ∙ c.2)

-- what is read from a table at a place
pub read : (a : OrdInt) (items : List (ℤ × Atom)) (k : ℕ) (x : ℤ × Atom) → items ≡ levels_of a → k ≤ steps_of a → x ≡ get_or items k x → x ≡ (value_at a k, atom_at a k)
read a items k x lists le at = at ∙ ap (λ (ls : List (ℤ × Atom)). get_or ls k x) lists ∙ level_at_place a k x le

pub table_length : (a : OrdInt) (items : List (ℤ × Atom)) → items ≡ levels_of a → length items ≡ steps_of a + 1
table_length a items lists = ap length lists ∙ length-levels_of a

pub found_in : (a : OrdInt) (items : List (ℤ × Atom)) (v w : ℤ) (k : ℕ) (x : ℤ × Atom) → items ≡ levels_of a → IsReachedAt items w k → k < length items → x ≡ get_or items k x → w ≡ v → x.1 ≡ at_of a v
found_in a items v w k x lists at lt read is =
    ap (λ (l : ℤ × Atom). l.1) (read ∙ ap (λ (ls : List (ℤ × Atom)). get_or ls k x) lists)
    ∙ found a w k x (subst (λ (ls : List (ℤ × Atom)). IsReachedAt ls w k) lists at) (subst (λ (ls : List (ℤ × Atom)). k < length ls) lists lt) ∙ ap (at_of a) is

pub none_in : (a : OrdInt) (items : List (ℤ × Atom)) (v w : ℤ) (k : ℕ) → items ≡ levels_of a → IsReachedAt items w k → length items ≤ k → w ≡ v → False ≡ at_of a v
none_in a items v w k lists at ge is =
    sym (not_found a w k (subst (λ (ls : List (ℤ × Atom)). IsReachedAt ls w k) lists at) (subst (λ (ls : List (ℤ × Atom)). length ls ≤ k) lists ge)) ∙ ap (at_of a) is

pub has_value_at : (a : OrdInt) (k : ℕ) → k ≤ steps_of a → Contains (values_of a) (value_at a k)
has_value_at a k le =
    let count = length-values a in
    (k, omega (arith, le, count), value_at-get a k (value_at a k) (omega (arith, le, count)))
