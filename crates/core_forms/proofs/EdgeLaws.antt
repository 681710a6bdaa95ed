-- What stays of a core whose edge is settled, and what is stable but for its edge.
use Rattle.std.proofs.Common.{◌≡◌, ℕ, ℤ, ◌<◌, ◌≤◌, List, [], ◌∷◌, ◌++◌, pos, refl, sym, ap, subst}
use Rattle.order_ints.specs.declared.literal.Lit.{Lit}
use Rattle.order_ints.specs.declared.atom.Atom.{Atom}
use Rattle.order_ints.specs.declared.atom.Atom.TheVariants.{True, False, Of}
use Rattle.order_ints.specs.declared.order_int.OrdInt.{OrdInt}
use Rattle.order_ints.specs.Label.{with_own_labels}
use Rattle.order_ints.specs.Place.{AtomBelow, AtomsBelow}
use Rattle.order_ints.specs.View.{resolve}
use Rattle.core_forms.specs.declared.edges.Edge.{Edge}
use Rattle.core_forms.specs.declared.edges.Edge.TheVariants.{Truth, Last}
use Rattle.core_forms.specs.declared.edges.Known.TheVariants.{ButLast}
use Rattle.core_forms.specs.declared.form.Core.{Core}
use Rattle.core_forms.specs.declared.form.Core.TheVariants.{Sum, Lex}
use Rattle.core_forms.specs.Each.{EachAtom}
use Rattle.core_forms.specs.Edges.{settled_core, restored, IsStableInside, InsideBelow, IsKnown}
use Rattle.core_forms.specs.Place.{CoreBelow, IntsBelow}
use Rattle.core_forms.specs.Plain.{IsPlain}
use Rattle.core_forms.specs.Stable.{IsStableInt, AreStableInts, IsStableCore}
use Rattle.core_forms.specs.Totals.{before_last}
use Rattle.core_forms.specs.Trimmed.{trimmed_core}
use Rattle.core_forms.specs.WellFormed.{IsWellFormed}
use Rattle.core_forms.proofs.EachLaws.{EachInt-left, EachInt-right, each_below, each_every}
use Rattle.core_forms.proofs.GreatestVars.{ints-more}
use Rattle.core_forms.proofs.IntLists.{IntsBelow-left, IntsBelow-right}
use Rattle.core_forms.proofs.Kept.{IsWellFormed-trimmed}
use Rattle.core_forms.proofs.LastMembers.{before_last-trimmed, before_last-with, IntsBelow-before, AreStableInts-before, settled-ints}
use Rattle.core_forms.proofs.Places.{each_trimmed, CoreBelow-trimmed, CoreBelow-more}
use Rattle.core_forms.proofs.Stability.{stable_ints, plain_ints, from_plain_ints, stable_core, stable_further, sum_core, both_each}

-- ---- settled is trimmed

pub settled-trimmed : (view : List Atom) (core : Core) → IsStableInside view core → settled_core view core ≡ trimmed_core view core
settled-trimmed view (Sum xs k) h = ap (λ (ys : List OrdInt). Sum ys k) (settled-ints view xs h)
settled-trimmed view (Lex r strict front back) h =
    let f = stable_ints view front h.0 in let b = stable_ints view back h.1 in cc
settled-trimmed view core h = sym (stable_core view core h)

pub settled-well_formed : (view : List Atom) (core : Core) → IsStableInside view core → IsWellFormed core → IsWellFormed (settled_core view core)
settled-well_formed view core h well = subst IsWellFormed (sym (settled-trimmed view core h)) (IsWellFormed-trimmed view core well)

pub settled-below : (view : List Atom) (core : Core) → IsStableInside view core → (n : ℕ) → CoreBelow n core → AtomsBelow n view → CoreBelow n (settled_core view core)
settled-below view core h n below labels = subst (CoreBelow n) (sym (settled-trimmed view core h)) (CoreBelow-trimmed n view core below labels)

-- ---- what is no edge stays

pub settled-stable : (view : List Atom) (core : Core) → IsStableInside view core → IsStableInside view (settled_core view core)
settled-stable view (Sum xs k) h = subst (AreStableInts view) (sym (before_last-trimmed view xs)) h
settled-stable view (Lex r strict front back) h = h
settled-stable view core h = h

pub settled-inside : (view : List Atom) (n : ℕ) (core : Core) → InsideBelow n core → InsideBelow n (settled_core view core)
settled-inside view n (Sum xs k) h = subst (IntsBelow n) (sym (before_last-trimmed view xs)) h
settled-inside view n (Lex r strict front back) h = h
settled-inside view n core h = h

pub restored-stable : (view : List Atom) (edge : Edge) (core : Core) → IsStableInside view core → IsStableInside view (restored edge core)
restored-stable view (Truth r) (Lex now strict front back) h = h
restored-stable view (Last a) (Sum xs k) h = subst (AreStableInts view) (sym (before_last-with a xs)) h
restored-stable view edge core h = h

pub restored-inside : (edge : Edge) (n : ℕ) (core : Core) → InsideBelow n core → InsideBelow n (restored edge core)
restored-inside (Truth r) n (Lex now strict front back) h = h
restored-inside (Last a) n (Sum xs k) h = subst (IntsBelow n) (sym (before_last-with a xs)) h
restored-inside edge n core h = h

-- ---- stable, and below, but for the edge where the whole core is

stable-sum : (view : List Atom) (xs : List OrdInt) → IsStableCore view (Sum xs (pos 0)) → AreStableInts view xs
stable-sum view xs h = from_plain_ints view xs h.plain h.each.1

pub inside-stable : (view : List Atom) (core : Core) → IsStableCore view core → IsStableInside view core
inside-stable view (Sum xs k) h = AreStableInts-before view xs (from_plain_ints view xs h.plain h.each.1)
inside-stable view (Lex r strict front back) h = (
  from_plain_ints view front h.plain.0 (EachInt-left (λ a. resolve view a ≡ a) front back h.each.1),
  from_plain_ints view back h.plain.1 (EachInt-right (λ a. resolve view a ≡ a) front back h.each.1),
)
inside-stable view core h = h

pub inside-below : (n : ℕ) (core : Core) → CoreBelow n core → InsideBelow n core
inside-below n (Sum xs k) h = IntsBelow-before n xs h.1
inside-below n (Lex r strict front back) h = (IntsBelow-left n front back h.1, IntsBelow-right n front back h.1)
inside-below n core h = h

pub inside-more : (n m : ℕ) (core : Core) → n ≤ m → InsideBelow n core → InsideBelow m core
inside-more n m (Sum xs k) le h = ints-more n m (before_last xs) le h
inside-more n m (Lex r strict front back) le h = (ints-more n m front le h.0, ints-more n m back le h.1)
inside-more n m core le h = CoreBelow-more n m core le h

-- and so it is plain
pub inside-known : (view : List Atom) (core : Core) → IsStableInside view core → IsKnown ButLast core
inside-known view (Sum xs k) h = (plain_ints view (before_last xs) h).0
inside-known view (Lex r strict front back) h = ((plain_ints view front h.0).0, (plain_ints view back h.1).0)
inside-known view core h = h.plain

-- ---- further variables, each its own label

ints-further : (view : List Atom) (count n : ℕ) (xs : List OrdInt) → IntsBelow n xs → AreStableInts view xs → AreStableInts (with_own_labels view count) xs
ints-further view count n xs below h =
    stable-sum (with_own_labels view count) xs (stable_further view count n (Sum xs (pos 0)) (tt, below) (sum_core view xs (pos 0) h))

pub inside-further : (view : List Atom) (count n : ℕ) (core : Core) → CoreBelow n core → IsStableInside view core → IsStableInside (with_own_labels view count) core
inside-further view count n (Sum xs k) below h = ints-further view count n (before_last xs) (IntsBelow-before n xs below.1) h
inside-further view count n (Lex r strict front back) below h = (
  ints-further view count n front (IntsBelow-left n front back below.1) h.0,
  ints-further view count n back (IntsBelow-right n front back below.1) h.1,
)
inside-further view count n core below h = stable_further view count n core below h

-- ---- a view in which the variables that a core has inside are still their own labels

module _ (view next : List Atom) (n : ℕ) (keeps : (l : Lit) → 1 ≤ l.var → l.var < n → resolve view (Of l) ≡ Of l → resolve next (Of l) ≡ Of l) where
  atom-kept : (a : Atom) → AtomBelow n a → resolve view a ≡ a → resolve next a ≡ a
  atom-kept True below e = refl
  atom-kept False below e = refl
  atom-kept (Of l) below e = keeps l below.0 below.1 e

  core-kept : (core : Core) → CoreBelow n core → IsStableCore view core → IsStableCore next core
  core-kept core below h = record {
    plain = h.plain;
    each =
        both_each (λ a. resolve view a ≡ a → resolve next a ≡ a) (λ a. resolve view a ≡ a) (λ a. resolve next a ≡ a) (λ a p q. p q) core
        (each_below n (λ a. resolve view a ≡ a → resolve next a ≡ a) atom-kept core below) h.each;
  }

  ints-kept : (xs : List OrdInt) → IntsBelow n xs → AreStableInts view xs → AreStableInts next xs
  ints-kept xs below h = stable-sum next xs (core-kept (Sum xs (pos 0)) (tt, below) (sum_core view xs (pos 0) h))

  pub inside-kept : (core : Core) → IsStableInside view core → InsideBelow n core → IsStableInside next core
  inside-kept (Sum xs k) h below = ints-kept (before_last xs) below h
  inside-kept (Lex r strict front back) h below = (ints-kept front below.0 h.0, ints-kept back below.1 h.1)
  inside-kept core h below = core-kept core below h

-- ---- a settled core that is plain is stable, in a view whose labels label themselves

pub settled-whole : (view : List Atom) (core : Core) → ((a : Atom) → resolve view (resolve view a) ≡ resolve view a)
    → IsStableInside view core → IsPlain (settled_core view core) → IsStableCore view (settled_core view core)
settled-whole view core own h plain = record {
  plain = plain;
  each =
      subst (EachAtom (λ a. resolve view a ≡ a)) (sym (settled-trimmed view core h))
      (each_trimmed (λ a. resolve view a ≡ a) refl refl view core (each_every (λ a. resolve view (resolve view a) ≡ resolve view a) own core));
}

-- ---- stable inside, and at the edge

stable-behind : (view : List Atom) (xs : List OrdInt) (a : OrdInt) → AreStableInts view xs → IsStableInt view a → AreStableInts view (xs ++ a ∷ [])
stable-behind view [] a h s = (s, tt)
stable-behind view (x ∷ xs) a h s = (h.0, stable-behind view xs a h.1 s)

pub edge-sum : (view : List Atom) (xs : List OrdInt) (k : ℤ) (a : OrdInt) → xs ≡ before_last xs ++ a ∷ [] → IsStableInt view a
    → IsStableInside view (Sum xs k) → IsStableCore view (Sum xs k)
edge-sum view xs k a e s h = sum_core view xs k (subst (AreStableInts view) (sym e) (stable-behind view (before_last xs) a h s))

pub edge-none : (view : List Atom) (xs : List OrdInt) (k : ℤ) → xs ≡ [] → IsStableCore view (Sum xs k)
edge-none view xs k e = sum_core view xs k (subst (AreStableInts view) (sym e) tt)
