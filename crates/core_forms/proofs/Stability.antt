-- What is stable stays as it is.
use Rattle.std.proofs.Common.{◌≡◌, ℕ, ◌+◌, Bool, false, List, [], ◌∷◌, map, drop, get_or, ℤ, pos, neg_ℤ, ◌+ℤ◌, refl, ap, ◌∙◌, arith}
use Rattle.std.specs.Prelude.{if◌then◌else◌}
use Rattle.std.proofs.lemmas.Int.{ints}
use Rattle.order_ints.specs.declared.atom.Atom.{Atom}
use Rattle.order_ints.specs.declared.atom.Atom.TheVariants.{True, False, Of}
use Rattle.order_ints.specs.declared.order_int.OrdInt.{OrdInt}
use Rattle.order_ints.specs.Label.{with_own_labels}
use Rattle.order_ints.specs.Same.{is_true, is_false, same_atom}
use Rattle.order_ints.specs.OrderChange.{shifted_of}
use Rattle.order_ints.specs.View.{resolve}
use Rattle.order_ints.proofs.Labels.{resolve-more}
use Rattle.core_forms.specs.declared.form.Core.{Core}
use Rattle.core_forms.specs.declared.form.Core.TheVariants.{Ladder, Clause, Parity, Conj, Comp, LeqR, EqR, Sum3, Count, Sum, Max, AllDiff, Amo, Prod, DivMod, Lex}
use Rattle.core_forms.specs.Contents.{ints_of, atoms_of}
use Rattle.core_forms.specs.Place.{CoreBelow}
use Rattle.core_forms.specs.Each.{EachOf, EachStep, EachInt, EachAtom}
use Rattle.core_forms.specs.Plain.{IsLiteral, AreLiterals, ArePlainBehind, ArePlainInts}
use Rattle.core_forms.specs.Resolved.{map_steps, map_int, map_ints}
use Rattle.core_forms.specs.Stable.{IsStable, AreStable, AreStableBehind, IsStableInt, AreStableInts, IsStableCore}
use Rattle.core_forms.specs.Trimmed.{without_false, without_constants, constant_trues, turned, merged_steps, raised_by, tidied_int, tidied_ints, trimmed_core}
use Rattle.core_forms.proofs.EachLaws.{EachInt-append, EachInt-left, EachInt-right, each_below}

pub stable_constants : (view : List Atom) (atoms : List Atom) → AreStable view atoms → without_constants (map (resolve view) atoms) ≡ atoms
stable_constants view [] h = refl
stable_constants view (True ∷ atoms) h = absurd h.0
stable_constants view (False ∷ atoms) h = absurd h.0
stable_constants view (Of l ∷ atoms) h =
    ap (λ (a : Atom). without_constants (a ∷ map (resolve view) atoms)) h.0
    ∙ ap (λ (rest : List Atom). Of l ∷ rest) (stable_constants view atoms h.1)

pub stable_trues : (view : List Atom) (atoms : List Atom) → AreStable view atoms → constant_trues (map (resolve view) atoms) ≡ 0
stable_trues view [] h = refl
stable_trues view (True ∷ atoms) h = absurd h.0
stable_trues view (False ∷ atoms) h = absurd h.0
stable_trues view (Of l ∷ atoms) h = ap (λ (a : Atom). constant_trues (a ∷ map (resolve view) atoms)) h.0 ∙ stable_trues view atoms h.1

pub stable_false : (view : List Atom) (atoms : List Atom) → AreStable view atoms → without_false (map (resolve view) atoms) ≡ atoms
stable_false view [] h = refl
stable_false view (True ∷ atoms) h = absurd h.0
stable_false view (False ∷ atoms) h = absurd h.0
stable_false view (Of l ∷ atoms) h =
    ap (λ (a : Atom). without_false (a ∷ map (resolve view) atoms)) h.0
    ∙ ap (λ (rest : List Atom). Of l ∷ rest) (stable_false view atoms h.1)

-- ---- integers

stable_atom : (view : List Atom) (a : Atom) → IsStable view a → resolve view a ≡ a
stable_atom view True h = absurd h
stable_atom view False h = absurd h
stable_atom view (Of l) h = h

never_true : (view : List Atom) (a : Atom) → IsStable view a → is_true a ≡ false
never_true view True h = absurd h
never_true view False h = absurd h
never_true view (Of l) h = refl

never_false : (view : List Atom) (a : Atom) → IsStable view a → is_false a ≡ false
never_false view True h = absurd h
never_false view False h = absurd h
never_false view (Of l) h = refl

merged_stable : (view : List Atom) (a : Atom) (w : ℕ) (steps : List (Atom × ℕ)) → IsStable view a → AreStableBehind view a steps
    → merged_steps a w (map_steps (resolve view) steps) ≡ (a, w) ∷ steps
merged_stable view a w [] stable h = ap {B = List (Atom × ℕ)} (λ (t : Bool). if t then [] else (a, w) ∷ []) (never_false view a stable)
merged_stable view a w (s ∷ steps) stable h =
    ap {B = List (Atom × ℕ)} (λ (r : Atom). if same_atom a r then merged_steps a (w + s.1) (map_steps (resolve view) steps) else (a, w) ∷ merged_steps r s.1 (map_steps (resolve view) steps))
    (stable_atom view s.0 h.2)
    ∙ ap {B = List (Atom × ℕ)} (λ (t : Bool). if t then merged_steps a (w + s.1) (map_steps (resolve view) steps) else (a, w) ∷ merged_steps s.0 s.1 (map_steps (resolve view) steps)) h.0
    ∙ ap (λ (rest : List (Atom × ℕ)). (a, w) ∷ rest) (merged_stable view s.0 s.1 steps h.2 h.3)

raised_stable : (view : List Atom) (base : ℤ) (steps : List (Atom × ℕ)) → AreStableBehind view False steps
    → raised_by base (map_steps (resolve view) steps) ≡ record { base = base; steps = steps }
raised_stable view base [] h = refl
raised_stable view base (s ∷ steps) h =
    ap {B = OrdInt} (λ (r : Atom). if is_true r then raised_by (base +ℤ pos s.1) (map_steps (resolve view) steps) else record { base = base; steps = merged_steps r s.1 (map_steps (resolve view) steps) })
    (stable_atom view s.0 h.2)
    ∙ ap {B = OrdInt} (λ (t : Bool). if t then raised_by (base +ℤ pos s.1) (map_steps (resolve view) steps) else record { base = base; steps = merged_steps s.0 s.1 (map_steps (resolve view) steps) })
    (never_true view s.0 h.2)
    ∙ ap {B = OrdInt} (λ (rest : List (Atom × ℕ)). record { base = base; steps = rest }) (merged_stable view s.0 s.1 steps h.2 h.3)

pub stable_int : (view : List Atom) (a : OrdInt) → IsStableInt view a → tidied_int (map_int (resolve view) a) ≡ a
stable_int view a h = raised_stable view a.base a.steps h

pub stable_ints : (view : List Atom) (xs : List OrdInt) → AreStableInts view xs → tidied_ints (map_ints (resolve view) xs) ≡ xs
stable_ints view [] h = refl
stable_ints view (a ∷ xs) h = let e = stable_int view a h.0 in let r = stable_ints view xs h.1 in cc

-- ---- cores

stable_parity : (view : List Atom) (atoms : List Atom) (odd : Bool) → AreStable view atoms → trimmed_core view (Parity atoms odd) ≡ Parity atoms odd
stable_parity view atoms odd h =
    ap (λ (ls : List Atom). Parity ls (turned (constant_trues (map (resolve view) atoms)) odd)) (stable_constants view atoms h)
    ∙ ap (λ (n : ℕ). Parity atoms (turned n odd)) (stable_trues view atoms h)

stable_amo : (view : List Atom) (atoms : List Atom) → AreStable view atoms → trimmed_core view (Amo atoms) ≡ Amo atoms
stable_amo view atoms h = ap Amo (stable_false view atoms h)

stable_count : (view : List Atom) (atoms : List Atom) (c : OrdInt) → AreStable view atoms → IsStableInt view c → trimmed_core view (Count atoms c) ≡ Count atoms c
stable_count view atoms c h i =
    ap (λ (ls : List Atom). Count ls (shifted_of (tidied_int (map_int (resolve view) c)) (neg_ℤ (pos (constant_trues (map (resolve view) atoms)))))) (stable_constants view atoms h)
    ∙ ap (λ (n : ℕ). Count atoms (shifted_of (tidied_int (map_int (resolve view) c)) (neg_ℤ (pos n)))) (stable_trues view atoms h)
    ∙ ap (λ (a : OrdInt). Count atoms (shifted_of a (neg_ℤ (pos 0)))) (stable_int view c i)
    ∙ ap (λ (b : ℤ). Count atoms (record c { base = b })) unshifted
  where
    unshifted : c.base +ℤ neg_ℤ (pos 0) ≡ c.base
    unshifted = omega (arith, ints)

stable_sum : (view : List Atom) (xs : List OrdInt) (k : ℤ) → AreStableInts view xs → trimmed_core view (Sum xs k) ≡ Sum xs k
stable_sum view xs k h = ap (λ (ys : List OrdInt). Sum ys k) (stable_ints view xs h)

stable_different : (view : List Atom) (xs : List OrdInt) (conditions : List Atom) → map (resolve view) conditions ≡ conditions → AreStableInts view xs
    → trimmed_core view (AllDiff xs conditions) ≡ AllDiff xs conditions
stable_different view xs conditions r h =
    ap (λ (ys : List OrdInt). AllDiff ys (map (resolve view) conditions)) (stable_ints view xs h) ∙ ap (AllDiff xs) r

stable_words : (view : List Atom) (r : Atom) (strict : Bool) (front back : List OrdInt) → resolve view r ≡ r → AreStableInts view front × AreStableInts view back
    → trimmed_core view (Lex r strict front back) ≡ Lex r strict front back
stable_words view r strict front back e h = let f = stable_ints view front h.0 in let b = stable_ints view back h.1 in cc

-- ---- what is stable is plain, and as the view has it; and back

literals : (view : List Atom) (atoms : List Atom) → AreStable view atoms → AreLiterals atoms × EachOf (λ a. resolve view a ≡ a) atoms
literals view [] h = (tt, tt)
literals view (True ∷ atoms) h = absurd h.0
literals view (False ∷ atoms) h = absurd h.0
literals view (Of l ∷ atoms) h = let rest = literals view atoms h.1 in ((tt, rest.0), (h.0, rest.1))

from_literals : (view : List Atom) (atoms : List Atom) → AreLiterals atoms → EachOf (λ a. resolve view a ≡ a) atoms → AreStable view atoms
from_literals view [] h each = tt
from_literals view (True ∷ atoms) h each = absurd h.0
from_literals view (False ∷ atoms) h each = absurd h.0
from_literals view (Of l ∷ atoms) h each = (each.0, from_literals view atoms h.1 each.1)

a_literal : (view : List Atom) (a : Atom) → IsStable view a → IsLiteral a
a_literal view True h = h
a_literal view False h = h
a_literal view (Of l) h = tt

from_literal : (view : List Atom) (a : Atom) → IsLiteral a → resolve view a ≡ a → IsStable view a
from_literal view True h e = h
from_literal view False h e = h
from_literal view (Of l) h e = e

plain_steps : (view : List Atom) (before : Atom) (steps : List (Atom × ℕ)) → AreStableBehind view before steps
    → ArePlainBehind before steps × EachStep (λ a. resolve view a ≡ a) steps
plain_steps view before [] h = (tt, tt)
plain_steps view before (s ∷ steps) h =
    let rest = plain_steps view s.0 steps h.3 in ((h.0, h.1, a_literal view s.0 h.2, rest.0), (stable_atom view s.0 h.2, rest.1))

from_plain_steps : (view : List Atom) (before : Atom) (steps : List (Atom × ℕ)) → ArePlainBehind before steps → EachStep (λ a. resolve view a ≡ a) steps
    → AreStableBehind view before steps
from_plain_steps view before [] h each = tt
from_plain_steps view before (s ∷ steps) h each = (h.0, h.1, from_literal view s.0 h.2 each.0, from_plain_steps view s.0 steps h.3 each.1)

pub plain_ints : (view : List Atom) (xs : List OrdInt) → AreStableInts view xs → ArePlainInts xs × EachInt (λ a. resolve view a ≡ a) xs
plain_ints view [] h = (tt, tt)
plain_ints view (a ∷ xs) h =
    let first = plain_steps view False a.steps h.0 in let rest = plain_ints view xs h.1 in ((first.0, rest.0), (first.1, rest.1))

pub from_plain_ints : (view : List Atom) (xs : List OrdInt) → ArePlainInts xs → EachInt (λ a. resolve view a ≡ a) xs → AreStableInts view xs
from_plain_ints view [] h each = tt
from_plain_ints view (a ∷ xs) h each = (from_plain_steps view False a.steps h.0 each.0, from_plain_ints view xs h.1 each.1)

each_resolved : (view : List Atom) (atoms : List Atom) → map (resolve view) atoms ≡ atoms → EachOf (λ a. resolve view a ≡ a) atoms
each_resolved view [] e = tt
each_resolved view (a ∷ atoms) e = (ap (λ (ls : List Atom). get_or ls 0 a) e, each_resolved view atoms (ap (λ (ls : List Atom). drop 1 ls) e))

from_each : (view : List Atom) (atoms : List Atom) → EachOf (λ a. resolve view a ≡ a) atoms → map (resolve view) atoms ≡ atoms
from_each view [] each = refl
from_each view (a ∷ atoms) each = let e = each.0 in let r = from_each view atoms each.1 in cc

pub parity_core : (view : List Atom) (atoms : List Atom) (odd : Bool) → AreStable view atoms → IsStableCore view (Parity atoms odd)
parity_core view atoms odd h = let is = literals view atoms h in record { plain = is.0; each = (is.1, tt) }

pub amo_core : (view : List Atom) (atoms : List Atom) → AreStable view atoms → IsStableCore view (Amo atoms)
amo_core view atoms h = let is = literals view atoms h in record { plain = is.0; each = (is.1, tt) }

pub count_core : (view : List Atom) (atoms : List Atom) (c : OrdInt) → AreStable view atoms → IsStableInt view c → IsStableCore view (Count atoms c)
count_core view atoms c h i =
    let is = literals view atoms h in
    let int = plain_steps view False c.steps i in
    record { plain = (is.0, int.0); each = (is.1, (int.1, tt)) }

pub sum_core : (view : List Atom) (xs : List OrdInt) (k : ℤ) → AreStableInts view xs → IsStableCore view (Sum xs k)
sum_core view xs k h = let is = plain_ints view xs h in record { plain = is.0; each = (tt, is.1) }

pub different_core : (view : List Atom) (xs : List OrdInt) (conditions : List Atom) → map (resolve view) conditions ≡ conditions → AreStableInts view xs
    → IsStableCore view (AllDiff xs conditions)
different_core view xs conditions r h =
    let is = plain_ints view xs h in record { plain = is.0; each = (each_resolved view conditions r, is.1) }

pub words_core : (view : List Atom) (r : Atom) (strict : Bool) (front back : List OrdInt) → resolve view r ≡ r → AreStableInts view front × AreStableInts view back
    → IsStableCore view (Lex r strict front back)
words_core view r strict front back e h =
    let f = plain_ints view front h.0 in
    let b = plain_ints view back h.1 in
    record { plain = (f.0, b.0); each = ((e, tt), EachInt-append (λ a. resolve view a ≡ a) front back f.1 b.1) }

-- trimming leaves a stable core as it is
pub stable_core : (view : List Atom) (core : Core) → IsStableCore view core → trimmed_core view core ≡ core
stable_core view (Ladder a) h = absurd h.plain
stable_core view (Clause ls) h = absurd h.plain
stable_core view (Parity ls odd) h = stable_parity view ls odd (from_literals view ls h.plain h.each.0)
stable_core view (Conj r ls) h = absurd h.plain
stable_core view (Comp a b hi lo) h = absurd h.plain
stable_core view (LeqR r a b) h = absurd h.plain
stable_core view (EqR r a b) h = absurd h.plain
stable_core view (Sum3 a b c) h = absurd h.plain
stable_core view (Count ls c) h =
    stable_count view ls c (from_literals view ls h.plain.0 h.each.0) (from_plain_steps view False c.steps h.plain.1 h.each.1.0)
stable_core view (Sum xs k) h = stable_sum view xs k (from_plain_ints view xs h.plain h.each.1)
stable_core view (Max xs c) h = absurd h.plain
stable_core view (AllDiff xs cs) h = stable_different view xs cs (from_each view cs h.each.0) (from_plain_ints view xs h.plain h.each.1)
stable_core view (Amo ls) h = stable_amo view ls (from_literals view ls h.plain h.each.0)
stable_core view (Prod a b c) h = absurd h.plain
stable_core view (DivMod a b q r) h = absurd h.plain
stable_core view (Lex r strict front back) h =
    stable_words view r strict front back h.each.0.0 (
      from_plain_ints view front h.plain.0 (EachInt-left (λ a. resolve view a ≡ a) front back h.each.1),
      from_plain_ints view back h.plain.1 (EachInt-right (λ a. resolve view a ≡ a) front back h.each.1),
    )

-- ---- further variables, each its own label

module _ (P Q R : Atom → Type 0) (both : (a : Atom) → P a → Q a → R a) where
  both_of : (ls : List Atom) → EachOf P ls → EachOf Q ls → EachOf R ls
  both_of [] p q = tt
  both_of (a ∷ ls) p q = (both a p.0 q.0, both_of ls p.1 q.1)

  pub both_steps : (steps : List (Atom × ℕ)) → EachStep P steps → EachStep Q steps → EachStep R steps
  both_steps [] p q = tt
  both_steps (s ∷ steps) p q = (both s.0 p.0 q.0, both_steps steps p.1 q.1)

  both_ints : (xs : List OrdInt) → EachInt P xs → EachInt Q xs → EachInt R xs
  both_ints [] p q = tt
  both_ints (a ∷ xs) p q = (both_steps a.steps p.0 q.0, both_ints xs p.1 q.1)

  pub both_each : (core : Core) → EachAtom P core → EachAtom Q core → EachAtom R core
  both_each core p q = (both_of (atoms_of core) p.0 q.0, both_ints (ints_of core) p.1 q.1)

-- a stable core is stable when further variables come, also where it has some of these
pub stable_further : (view : List Atom) (count n : ℕ) (core : Core) → CoreBelow n core → IsStableCore view core → IsStableCore (with_own_labels view count) core
stable_further view count n core below h = record {
  plain = h.plain;
  each =
      both_each (λ a. resolve (with_own_labels view count) a ≡ resolve view a) (λ a. resolve view a ≡ a) (λ a. resolve (with_own_labels view count) a ≡ a) (λ a p q. p ∙ q) core
      (each_below n (λ a. resolve (with_own_labels view count) a ≡ resolve view a) (resolve-more view count n) core below)
      h.each;
}
