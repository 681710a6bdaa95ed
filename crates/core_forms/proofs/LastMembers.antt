-- The last member of a list of integers, and what is before it.
use Rattle.std.proofs.Common.{◌≡◌, ℕ, List, [], ◌∷◌, ◌++◌, Option, Some, refl, sym, ap, subst, ◌∙◌}
use Rattle.order_ints.specs.declared.atom.Atom.{Atom}
use Rattle.order_ints.specs.declared.order_int.OrdInt.{OrdInt}
use Rattle.order_ints.specs.View.{resolve}
use Rattle.core_forms.specs.Edges.{last_trimmed, with_last}
use Rattle.core_forms.specs.Place.{IntsBelow}
use Rattle.core_forms.specs.Plain.{IsPlainInt, ArePlainInts}
use Rattle.core_forms.specs.Resolved.{map_ints}
use Rattle.core_forms.specs.Stable.{IsStableInt, AreStableInts}
use Rattle.core_forms.specs.Totals.{before_last}
use Rattle.core_forms.specs.Trimmed.{trimmed_int, tidied_ints}
use Rattle.core_forms.specs.WellFormed.{IsSound, AreSound}
use Rattle.core_forms.proofs.AddedUp.{has-last}
use Rattle.core_forms.proofs.IntLists.{AreSound-right}
use Rattle.core_forms.proofs.Stability.{stable_int}

-- ---- the last one trimmed, or replaced

pub last_trimmed-behind : (view : List Atom) (xs : List OrdInt) (a : OrdInt) → last_trimmed view (xs ++ a ∷ []) ≡ xs ++ trimmed_int view a ∷ []
last_trimmed-behind view [] a = refl
last_trimmed-behind view (x ∷ []) a = refl
last_trimmed-behind view (x ∷ y ∷ xs) a = ap (λ (ys : List OrdInt). x ∷ ys) (last_trimmed-behind view (y ∷ xs) a)

pub with_last-behind : (b : OrdInt) (xs : List OrdInt) (a : OrdInt) → with_last b (xs ++ a ∷ []) ≡ xs ++ b ∷ []
with_last-behind b [] a = refl
with_last-behind b (x ∷ []) a = refl
with_last-behind b (x ∷ y ∷ xs) a = ap (λ (ys : List OrdInt). x ∷ ys) (with_last-behind b (y ∷ xs) a)

pub before_last-trimmed : (view : List Atom) (xs : List OrdInt) → before_last (last_trimmed view xs) ≡ before_last xs
before_last-trimmed view [] = refl
before_last-trimmed view (a ∷ []) = refl
before_last-trimmed view (a ∷ b ∷ []) = refl
before_last-trimmed view (a ∷ b ∷ c ∷ xs) = ap (λ (ys : List OrdInt). a ∷ ys) (before_last-trimmed view (b ∷ c ∷ xs))

pub before_last-with : (last : OrdInt) (xs : List OrdInt) → before_last (with_last last xs) ≡ before_last xs
before_last-with last [] = refl
before_last-with last (a ∷ []) = refl
before_last-with last (a ∷ b ∷ []) = refl
before_last-with last (a ∷ b ∷ c ∷ xs) = ap (λ (ys : List OrdInt). a ∷ ys) (before_last-with last (b ∷ c ∷ xs))

-- where the last one is stable, trimming it leaves all
pub last_trimmed-same : (view : List Atom) (xs : List OrdInt) (a : OrdInt) → xs ≡ before_last xs ++ a ∷ [] → IsStableInt view a → last_trimmed view xs ≡ xs
last_trimmed-same view xs a e h =
    ap (last_trimmed view) e ∙ last_trimmed-behind view (before_last xs) a ∙ ap (λ (b : OrdInt). before_last xs ++ b ∷ []) (stable_int view a h) ∙ sym e

pub last_trimmed-with : (view : List Atom) (xs : List OrdInt) (a b : OrdInt) → xs ≡ before_last xs ++ a ∷ [] → b ≡ trimmed_int view a
    → with_last b xs ≡ last_trimmed view xs
last_trimmed-with view xs a b e is =
    ap (with_last b) e ∙ with_last-behind b (before_last xs) a ∙ ap (λ (c : OrdInt). before_last xs ++ c ∷ []) is
    ∙ sym (last_trimmed-behind view (before_last xs) a) ∙ ap (last_trimmed view) (sym e)

-- what stood there, put back
pub with_last-back : (xs : List OrdInt) (a b : OrdInt) → xs ≡ before_last xs ++ a ∷ [] → with_last a (with_last b xs) ≡ xs
with_last-back xs a b e =
    ap (λ (ys : List OrdInt). with_last a (with_last b ys)) e ∙ ap (with_last a) (with_last-behind b (before_last xs) a)
    ∙ with_last-behind a (before_last xs) b ∙ sym e

pub restored-last : (xs new : List OrdInt) (a b last : OrdInt) → xs ≡ before_last xs ++ a ∷ [] → new ≡ with_last b xs → Some last ≡ Some a → with_last last new ≡ xs
restored-last xs new a b last e is gave =
    let same : last ≡ a = cc in
    ap (with_last last) is ∙ ap (λ (c : OrdInt). with_last c (with_last b xs)) same ∙ with_last-back xs a b e

-- what is put by a change of the last one
pub put-with : (old new : List OrdInt) (a : OrdInt) (gave : Option OrdInt)
    → ((members : List OrdInt) (last : OrdInt) → old ≡ members ++ last ∷ [] → (new ≡ members ++ a ∷ []) × (gave ≡ Some last))
    → (old ≡ [] → new ≡ []) → new ≡ with_last a old
put-with [] new a gave is none = none refl
put-with (x ∷ xs) new a gave is none =
    let last = has-last x xs in
    (is (before_last (x ∷ xs)) last.0 last.1).0
    ∙ sym (with_last-behind a (before_last (x ∷ xs)) last.0) ∙ ap (with_last a) (sym last.1)

-- ---- what holds of all holds of those before the last one

pub IntsBelow-before : (n : ℕ) (xs : List OrdInt) → IntsBelow n xs → IntsBelow n (before_last xs)
IntsBelow-before n [] h = tt
IntsBelow-before n (a ∷ []) h = tt
IntsBelow-before n (a ∷ b ∷ xs) h = (h.0, IntsBelow-before n (b ∷ xs) h.1)

pub AreStableInts-before : (view : List Atom) (xs : List OrdInt) → AreStableInts view xs → AreStableInts view (before_last xs)
AreStableInts-before view [] h = tt
AreStableInts-before view (a ∷ []) h = tt
AreStableInts-before view (a ∷ b ∷ xs) h = (h.0, AreStableInts-before view (b ∷ xs) h.1)

ArePlainInts-behind : (xs : List OrdInt) (a : OrdInt) → ArePlainInts xs → IsPlainInt a → ArePlainInts (xs ++ a ∷ [])
ArePlainInts-behind [] a h i = (i, tt)
ArePlainInts-behind (x ∷ xs) a h i = (h.0, ArePlainInts-behind xs a h.1 i)

-- and all are plain where the last one is too
pub plain-whole : (xs : List OrdInt) (a : OrdInt) → xs ≡ before_last xs ++ a ∷ [] → ArePlainInts (before_last xs) → IsPlainInt a → ArePlainInts xs
plain-whole xs a e h i = subst ArePlainInts (sym e) (ArePlainInts-behind (before_last xs) a h i)

pub sound-last : (xs : List OrdInt) (a : OrdInt) → xs ≡ before_last xs ++ a ∷ [] → AreSound xs → IsSound a
sound-last xs a e h = (AreSound-right (before_last xs) (a ∷ []) (subst AreSound e h)).0

-- ---- all trimmed, where those before the last one are stable

pub settled-ints : (view : List Atom) (xs : List OrdInt) → AreStableInts view (before_last xs) → last_trimmed view xs ≡ tidied_ints (map_ints (resolve view) xs)
settled-ints view [] h = refl
settled-ints view (a ∷ []) h = refl
settled-ints view (a ∷ b ∷ xs) h = let e = stable_int view a h.0 in let r = settled-ints view (b ∷ xs) h.1 in cc
