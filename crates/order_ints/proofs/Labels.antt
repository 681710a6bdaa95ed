-- Labels: what resolves to itself, added variables, and later views.
use Rattle.std.proofs.Common.{◌≡◌, ℕ, zero, suc, ◌+◌, ◌-◌, ◌≤◌, ◌<◌, Bool, true, false, not, cond, List, [], ◌∷◌, ◌++◌, length, get_or, refl, ap, sym, ◌∙◌, subst, arith, ⊎_elim}
use Rattle.std.specs.Prelude.{◌↔◌}
use Rattle.std.proofs.lemmas.Bool.{cases_lt}
use Rattle.std.proofs.lemmas.List.{length-append, get_or_append_left, get_or-append_right, get_or_past, get_or_default}
use Rattle.order_ints.specs.declared.atom.Atom.{Atom}
use Rattle.order_ints.specs.declared.atom.Atom.TheVariants.{True, False, Of}
use Rattle.order_ints.specs.Truth.{Valuation, atom_truth, not_atom}
use Rattle.order_ints.specs.Place.{AtomBelow, AtomsBelow}
use Rattle.order_ints.specs.View.{label_of, resolve, MeetsView}
use Rattle.order_ints.specs.Label.{variable, IsOwnLabel, IsLabel, IsLabelled, own_labels, IsLater}
use Rattle.order_ints.specs.LabelLaws.{LabelResolves, LabelNegation, LabelsBelow, ResolvesToLabel, ResolvesOnce, ResolvesNegation, EmptyLabelled, OwnLabelsLength, OldKeepLabels, LabelsStay, MoreIsLater, LaterThanItself, LaterThanLater, LaterResolves, LaterMeets}
use Rattle.order_ints.proofs.Truths.{not_atom-not_atom}
use Rattle.order_ints.proofs.TruthLaws.{atom_truth-label_of, atom_truth-resolve}
use Rattle.order_ints.proofs.PlaceLaws.{AtomBelow-get_or}

-- an atom, or its negation
abbrev pub with_sign : Bool → Atom → Atom
with_sign positive a = cond positive a (not_atom a)

pub with_sign-variable : (v : ℕ) (p : Bool) → with_sign p (variable v) ≡ Of (record { var = v; positive = p })
with_sign-variable v true = refl
with_sign-variable v false = refl

pub with_sign-twice : (p : Bool) (a : Atom) → with_sign p (with_sign p a) ≡ a
with_sign-twice true a = refl
with_sign-twice false a = not_atom-not_atom a

pub with_sign-not : (p : Bool) (a : Atom) → with_sign (not p) a ≡ not_atom (with_sign p a)
with_sign-not true a = refl
with_sign-not false a = sym (not_atom-not_atom a)

-- a literal of a variable that is its own label resolves to itself, and back
pub own-stays : (view : List Atom) (v : ℕ) (p : Bool) → IsOwnLabel view v → with_sign p (label_of view v) ≡ Of (record { var = v; positive = p })
own-stays view v p own = ap (with_sign p) own ∙ with_sign-variable v p

pub stays-own : (view : List Atom) (v : ℕ) (p : Bool) → with_sign p (label_of view v) ≡ Of (record { var = v; positive = p }) → IsOwnLabel view v
stays-own view v p e =
    sym (with_sign-twice p (label_of view v))
    ∙ ap (with_sign p) (e ∙ sym (with_sign-variable v p))
    ∙ with_sign-twice p (variable v)

pub resolve-label : (view : List Atom) (a : Atom) → IsLabel view a → resolve view a ≡ a
resolve-label view True h = refl
resolve-label view False h = refl
resolve-label view (Of l) h = own-stays view l.var l.positive h.2

pub AtomBelow-label : (view : List Atom) (a : Atom) → IsLabel view a → AtomBelow (length view + 1) a
AtomBelow-label view True h = tt
AtomBelow-label view False h = tt
AtomBelow-label view (Of l) h = (h.0, omega (arith, h.1))

pub IsLabel-stays : (view : List Atom) (a : Atom) → AtomBelow (length view + 1) a → resolve view a ≡ a → IsLabel view a
IsLabel-stays view True below e = tt
IsLabel-stays view False below e = tt
IsLabel-stays view (Of l) below e = (below.0, omega (arith, below.1), stays-own view l.var l.positive e)

pub label_resolves : LabelResolves
label_resolves view a = (λ h. (AtomBelow-label view a h, resolve-label view a h), λ h. IsLabel-stays view a h.0 h.1)

pub IsLabel-not_atom : LabelNegation
IsLabel-not_atom view True h = tt
IsLabel-not_atom view False h = tt
IsLabel-not_atom view (Of l) h = h

pub IsLabel-with_sign : (view : List Atom) (p : Bool) (a : Atom) → IsLabel view a → IsLabel view (with_sign p a)
IsLabel-with_sign view true a h = h
IsLabel-with_sign view false a h = IsLabel-not_atom view a h

-- what an atom of the view resolves to is a label
pub IsLabel-resolve : ResolvesToLabel
IsLabel-resolve view True labelled below = tt
IsLabel-resolve view False labelled below = tt
IsLabel-resolve view (Of l) labelled below =
    IsLabel-with_sign view l.positive (label_of view l.var) (labelled l.var below.0 (omega (arith, below.1)))

-- the label of a variable past the end
pub label_of-past : (view : List Atom) (v : ℕ) → length view < v → label_of view v ≡ variable v
label_of-past view v past = get_or_past view (v - 1) (variable v) (omega arith)

-- and of what is no variable
stays-none : (view : List Atom) → IsLabelled view → resolve view (label_of view 0) ≡ label_of view 0
stays-none [] labelled = refl
stays-none (a ∷ view) labelled = resolve-label (a ∷ view) a (labelled 1 (omega arith) (omega arith))

-- each label resolves to itself, also that of a variable past the end
label-stays : (view : List Atom) → IsLabelled view → (v : ℕ) → resolve view (label_of view v) ≡ label_of view v
label-stays view labelled zero = stays-none view labelled
label-stays view labelled (suc v) = ⊎_elim past within (cases_lt (length view) (suc v))
  where
    past : length view < suc v → resolve view (label_of view (suc v)) ≡ label_of view (suc v)
    past h = let own : label_of view (suc v) ≡ variable (suc v) = label_of-past view (suc v) h in ap (resolve view) own

    within : suc v ≤ length view → resolve view (label_of view (suc v)) ≡ label_of view (suc v)
    within h = resolve-label view (label_of view (suc v)) (labelled (suc v) (omega arith) h)

-- the negation of an atom resolves to the negation
pub resolves_negation : ResolvesNegation
resolves_negation view True = refl
resolves_negation view False = refl
resolves_negation view (Of l) = with_sign-not l.positive (label_of view l.var)

pub resolve-with_sign : (view : List Atom) (p : Bool) (a : Atom) → resolve view (with_sign p a) ≡ with_sign p (resolve view a)
resolve-with_sign view true a = refl
resolve-with_sign view false a = resolves_negation view a

pub resolves_once : ResolvesOnce
resolves_once view True labelled = refl
resolves_once view False labelled = refl
resolves_once view (Of l) labelled =
    resolve-with_sign view l.positive (label_of view l.var) ∙ ap (with_sign l.positive) (label-stays view labelled l.var)

-- labels are over variables of the view
AtomsBelow-each : (n : ℕ) (atoms : List Atom) → ((k : ℕ) → k < length atoms → AtomBelow n (get_or atoms k True)) → AtomsBelow n atoms
AtomsBelow-each n [] h = tt
AtomsBelow-each n (a ∷ atoms) h = (h 0 (omega arith), AtomsBelow-each n atoms (λ k lt. h (suc k) (omega arith)))

pub labels_below : LabelsBelow
labels_below view labelled = AtomsBelow-each (length view + 1) view at
  where
    at : (k : ℕ) → k < length view → AtomBelow (length view + 1) (get_or view k True)
    at k lt =
        let e : suc k - 1 ≡ k = omega arith in
        let label : IsLabel view (label_of view (suc k)) = labelled (suc k) (omega arith) (omega arith) in
        subst (AtomBelow (length view + 1)) (ap (λ (i : ℕ). get_or view i (variable (suc k))) e ∙ get_or_default view k (variable (suc k)) True lt)
        (AtomBelow-label view (label_of view (suc k)) label)

pub IsLabelled-nil : EmptyLabelled
IsLabelled-nil v low high = absurd (omega arith)

-- variables that are added, each its own label
pub length-own_labels : OwnLabelsLength
length-own_labels first zero = refl
length-own_labels first (suc count) = ap suc (length-own_labels (first + 1) count)

get_or-own_labels : (first count k : ℕ) (d : Atom) → k < count → get_or (own_labels first count) k d ≡ variable (first + k)
get_or-own_labels first zero k d h = absurd (omega arith)
get_or-own_labels first (suc count) zero d h = let e : first ≡ first + 0 = omega arith in ap variable e
get_or-own_labels first (suc count) (suc k) d h = let e : first + 1 + k ≡ first + suc k = omega arith in get_or-own_labels (first + 1) count k d (omega arith) ∙ ap variable e

-- labels stay labels when variables are added
pub label_of-old : OldKeepLabels
label_of-old view added v low high = get_or_append_left view added (variable v) (v - 1) (omega arith)

pub IsLabel-more : LabelsStay
IsLabel-more view added True h = tt
IsLabel-more view added False h = tt
IsLabel-more view added (Of l) h =
    (h.0, omega (arith, h.1, length-append view added), label_of-old view added l.var h.0 h.1 ∙ h.2)

module _ (view : List Atom) (count : ℕ) where
  abbrev more : List Atom
  more = view ++ own_labels (length view + 1) count

  length-more : length more ≡ length view + count
  length-more = omega (arith, length-append view (own_labels (length view + 1) count), length-own_labels (length view + 1) count)

  pub label_of-added : (v : ℕ) → length view < v → label_of more v ≡ variable v
  label_of-added v past = ⊎_elim beyond within (cases_lt (length view + count) v)
    where
      beyond : length view + count < v → label_of more v ≡ variable v
      beyond h = label_of-past more v (omega (arith, length-more))

      within : v ≤ length view + count → label_of more v ≡ variable v
      within h =
          let e : length view + 1 + (v - 1 - length view) ≡ v = omega arith in
          get_or-append_right view (own_labels (length view + 1) count) (length view) (v - 1) (variable v) refl (omega arith)
          ∙ get_or-own_labels (length view + 1) count (v - 1 - length view) (variable v) (omega arith)
          ∙ ap variable e

  -- the label of each variable from 1 is what it was
  label_of-more : (v : ℕ) → 1 ≤ v → label_of more v ≡ label_of view v
  label_of-more v low = ⊎_elim past within (cases_lt (length view) v)
    where
      past : length view < v → label_of more v ≡ label_of view v
      past h = label_of-added v h ∙ sym (label_of-past view v h)

      within : v ≤ length view → label_of more v ≡ label_of view v
      within h = label_of-old view (own_labels (length view + 1) count) v low h

  pub resolve-more : (n : ℕ) (a : Atom) → AtomBelow n a → resolve more a ≡ resolve view a
  resolve-more n True below = refl
  resolve-more n False below = refl
  resolve-more n (Of l) below = ap (with_sign l.positive) (label_of-more l.var below.0)

  pub MeetsView-more : (σ : Valuation) → MeetsView σ more ↔ MeetsView σ view
  MeetsView-more σ = (fewer, longer)
    where
      fewer : MeetsView σ more → MeetsView σ view
      fewer meets v low high = meets v low (omega (arith, length-more)) ∙ ap (atom_truth σ) (label_of-more v low)

      longer : MeetsView σ view → MeetsView σ more
      longer meets v low high = sym (ap (atom_truth σ) (label_of-more v low) ∙ atom_truth-label_of σ view meets v low)

  pub IsLabelled-more : IsLabelled view → IsLabelled more
  IsLabelled-more labelled v low high = ⊎_elim added old (cases_lt (length view) v)
    where
      added : length view < v → IsLabel more (label_of more v)
      added h = let own : label_of more v ≡ variable v = label_of-added v h in subst (IsLabel more) (sym own) (low, high, own)

      old : v ≤ length view → IsLabel more (label_of more v)
      old h =
          subst (IsLabel more) (sym (label_of-more v low))
          (IsLabel-more view (own_labels (length view + 1) count) (label_of view v) (labelled v low h))

-- later views
pub IsLater-itself : LaterThanItself
IsLater-itself view labelled v low high = label-stays view labelled v

pub IsLater-more : MoreIsLater
IsLater-more view added labelled v low high =
    resolve-label (view ++ added) (label_of view v) (IsLabel-more view added (label_of view v) (labelled v low high))
    ∙ sym (label_of-old view added v low high)

-- resolving by a view and then by a later one
module _ (old new : List Atom) (later : IsLater old new) where
  label-later : (v : ℕ) → 1 ≤ v → resolve new (label_of old v) ≡ label_of new v
  label-later v low = ⊎_elim past (λ (h : v ≤ length old). later v low h) (cases_lt (length old) v)
    where
      past : length old < v → resolve new (label_of old v) ≡ label_of new v
      past h = let own : label_of old v ≡ variable v = label_of-past old v h in ap (resolve new) own

  pub resolve-later : (n : ℕ) (a : Atom) → AtomBelow n a → resolve new (resolve old a) ≡ resolve new a
  resolve-later n True below = refl
  resolve-later n False below = refl
  resolve-later n (Of l) below =
      resolve-with_sign new l.positive (label_of old l.var) ∙ ap (with_sign l.positive) (label-later l.var below.0)

AtomBelow-label_of : (n : ℕ) (view : List Atom) → AtomsBelow n view → (v : ℕ) → 1 ≤ v → v ≤ length view → AtomBelow n (label_of view v)
AtomBelow-label_of n view below v low high =
    subst (AtomBelow n) (get_or_default view (v - 1) True (variable v) (omega arith)) (AtomBelow-get_or n view (v - 1) True below tt)

pub IsLater-later : LaterThanLater
IsLater-later n old new newest below first next v low high =
    sym (resolve-later new newest next n (label_of old v) (AtomBelow-label_of n old below v low high))
    ∙ ap (resolve newest) (first v low high)
    ∙ label-later new newest next v low

pub later_resolves : LaterResolves
later_resolves n old new a later below = resolve-later old new later n a below

pub MeetsView-later : LaterMeets
MeetsView-later n old new σ below later meets v low high =
    sym (atom_truth-label_of σ new meets v low)
    ∙ sym (ap (atom_truth σ) (later v low high))
    ∙ atom_truth-resolve σ new n meets (label_of old v) (AtomBelow-label_of n old below v low high)
