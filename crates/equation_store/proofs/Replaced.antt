-- A view in which the members of one class have a new label.
use Rattle.std.proofs.Common.{◌≡◌, ℕ, ◌+◌, ◌-◌, ◌≤◌, Bool, true, false, not, List, [], ◌∷◌, map, length, refl, ap, sym, ◌∙◌, subst, arith, ⊎_elim}
use Rattle.std.specs.Prelude.{if◌then◌else◌, ◌==◌}
use Rattle.std.proofs.lemmas.Bool.{cases_Bool, eq-eqb, ne_eqb, eqb-true, cond-true, cond-false}
use Rattle.std.proofs.lemmas.List.{get_or-map, length-map}
use Rattle.order_ints.specs.declared.literal.Lit.{Lit}
use Rattle.order_ints.specs.declared.atom.Atom.{Atom}
use Rattle.order_ints.specs.declared.atom.Atom.TheVariants.{True, False, Of}
use Rattle.order_ints.specs.Truth.{Valuation, lit_truth, atom_truth, not_atom}
use Rattle.order_ints.specs.View.{label_of, resolve, MeetsView}
use Rattle.order_ints.specs.Label.{variable, IsLabel, IsLabelled}
use Rattle.equation_store.specs.Class.{is_of, class_size}
use Rattle.equation_store.specs.Merge.{signed, replaced, IsReplacement}
use Rattle.equation_store.specs.Laws.{IsAtomOf}
use Rattle.equation_store.proofs.Negation.{truth-signed, signed-not}
use Rattle.equation_store.proofs.Resolve.{resolve-label, IsLabel-signed, IsLabel-resolve}

-- the label of a variable after its replacement
pub label_of-map : (f : Atom → Atom) (view : List Atom) (v : ℕ) → 1 ≤ v → v ≤ length view → label_of (map f view) v ≡ f (label_of view v)
label_of-map f view v low high = get_or-map f view (v - 1) (variable v) (variable v) (omega arith)

-- a replacement by an atom that is as true as the variable changes no truth
pub truth-replaced : (σ : Valuation) (x : ℕ) (new : Atom) → σ x ≡ atom_truth σ new → (a : Atom) → atom_truth σ (replaced x new a) ≡ atom_truth σ a
truth-replaced σ x new h True = refl
truth-replaced σ x new h False = refl
truth-replaced σ x new h (Of l) = by_test (l.var == x) (λ e. eqb-true l.var x e)
  where
    by_test : (t : Bool) → (t ≡ true → l.var ≡ x) → atom_truth σ (if t then signed l.positive new else Of l) ≡ lit_truth σ l
    by_test true e =
        truth-signed σ l.positive new
        ∙ ap (λ (t : Bool). if l.positive then t else not t) (sym h ∙ sym (ap σ (e refl)))
    by_test false e = refl

-- a replacement in a literal of the variable itself
pub replaced-own : (x : ℕ) (new : Atom) (l : Lit) → l.var ≡ x → replaced x new (Of l) ≡ signed l.positive new
replaced-own x new l e = cond-true _ _ _ (eq-eqb l.var x e)

-- an atom of another variable stays
pub replaced-other : (x : ℕ) (new a : Atom) → is_of x a ≡ false → replaced x new a ≡ a
replaced-other x new True h = refl
replaced-other x new False h = refl
replaced-other x new (Of l) h = cond-false _ _ _ h

-- the view after a replacement
abbrev pub relabelled : List Atom → ℕ → Atom → List Atom
relabelled view x new = map (replaced x new) view

-- the variable's own label is then the new one
pub label_of-relabelled : (view : List Atom) (x : ℕ) (new : Atom) → IsReplacement view x new → label_of (relabelled view x new) x ≡ new
label_of-relabelled view x new r =
    label_of-map (replaced x new) view x r.low r.high ∙ ap (replaced x new) r.own ∙ replaced-own x new (record { var = x; positive = true }) refl

-- labels of the old view that are of another variable are labels of the new one
pub IsLabel-relabelled : (view : List Atom) (x : ℕ) (new a : Atom) → IsLabel view a → is_of x a ≡ false → IsLabel (relabelled view x new) a
IsLabel-relabelled view x new True h other = tt
IsLabel-relabelled view x new False h other = tt
IsLabel-relabelled view x new (Of l) h other =
    (h.0, omega (arith, h.1, length-map view (replaced x new)), label_of-map (replaced x new) view l.var h.0 h.1 ∙ ap (replaced x new) h.2 ∙ replaced-other x new (variable l.var) other)

-- each replaced label is a label of the new view
IsLabel-replaced : (view : List Atom) (x : ℕ) (new a : Atom) → IsReplacement view x new → IsLabel view a → IsLabel (relabelled view x new) (replaced x new a)
IsLabel-replaced view x new a r h = ⊎_elim own other (cases_Bool (is_of x a))
  where
    signed_new : (p : Bool) → IsLabel (relabelled view x new) (signed p new)
    signed_new p = IsLabel-signed (relabelled view x new) p new (IsLabel-relabelled view x new new r.label r.other)

    own_at : (b : Atom) → is_of x b ≡ true → IsLabel (relabelled view x new) (replaced x new b)
    own_at True e = tt
    own_at False e = tt
    own_at (Of l) e = subst (IsLabel (relabelled view x new)) (sym (cond-true _ _ _ e)) (signed_new l.positive)

    own : is_of x a ≡ true → IsLabel (relabelled view x new) (replaced x new a)
    own e = own_at a e

    other : is_of x a ≡ false → IsLabel (relabelled view x new) (replaced x new a)
    other e = subst (IsLabel (relabelled view x new)) (sym (replaced-other x new a e)) (IsLabel-relabelled view x new a h e)

pub IsLabelled-relabelled : (view : List Atom) (x : ℕ) (new : Atom) → IsReplacement view x new → IsLabelled view → IsLabelled (relabelled view x new)
IsLabelled-relabelled view x new r labelled v low high =
    let inside : v ≤ length view = omega (arith, high, length-map view (replaced x new)) in
    subst (IsLabel (relabelled view x new)) (sym (label_of-map (replaced x new) view v low inside)) (IsLabel-replaced view x new (label_of view v) r (labelled v low inside))

-- the new view is met exactly where the old one is and the variable is as true as its new label
pub meets-relabelled : (view : List Atom) (x : ℕ) (new : Atom) (σ : Valuation) → IsReplacement view x new → MeetsView σ (relabelled view x new) → MeetsView σ view × (σ x ≡ atom_truth σ new)
meets-relabelled view x new σ r meets = (old, at_x)
  where
    longer : (v : ℕ) → v ≤ length view → v ≤ length (relabelled view x new)
    longer v high = omega (arith, length-map view (replaced x new))

    at_x : σ x ≡ atom_truth σ new
    at_x = meets x r.low (longer x r.high) ∙ ap (atom_truth σ) (label_of-relabelled view x new r)

    old : MeetsView σ view
    old v low high =
        meets v low (longer v high)
        ∙ ap (atom_truth σ) (label_of-map (replaced x new) view v low high)
        ∙ truth-replaced σ x new at_x (label_of view v)

pub relabelled-meets : (view : List Atom) (x : ℕ) (new : Atom) (σ : Valuation) → MeetsView σ view → σ x ≡ atom_truth σ new → MeetsView σ (relabelled view x new)
relabelled-meets view x new σ meets at_x v low high =
    let inside : v ≤ length view = omega (arith, high, length-map view (replaced x new)) in
    meets v low inside
    ∙ sym (truth-replaced σ x new at_x (label_of view v))
    ∙ sym (ap (atom_truth σ) (label_of-map (replaced x new) view v low inside))

-- a replacement in a negation
replaced-not_atom : (x : ℕ) (new a : Atom) → replaced x new (not_atom a) ≡ not_atom (replaced x new a)
replaced-not_atom x new True = refl
replaced-not_atom x new False = refl
replaced-not_atom x new (Of l) = by_test (l.var == x)
  where
    by_test : (t : Bool) → (if t then signed (not l.positive) new else not_atom (Of l)) ≡ not_atom (if t then signed l.positive new else Of l)
    by_test true = signed-not l.positive new
    by_test false = refl

replaced-signed : (x : ℕ) (new : Atom) (p : Bool) (a : Atom) → replaced x new (signed p a) ≡ signed p (replaced x new a)
replaced-signed x new true a = refl
replaced-signed x new false a = replaced-not_atom x new a

-- an atom resolves to what its old label becomes
pub resolve-relabelled : (view : List Atom) (x : ℕ) (new a : Atom) → IsAtomOf view a → resolve (relabelled view x new) a ≡ replaced x new (resolve view a)
resolve-relabelled view x new True inside = refl
resolve-relabelled view x new False inside = refl
resolve-relabelled view x new (Of l) inside =
    ap (signed l.positive) (label_of-map (replaced x new) view l.var inside.0 (omega (arith, inside.1)))
    ∙ sym (replaced-signed x new l.positive (label_of view l.var))

-- a label is an atom of the view
pub IsAtomOf-label : (view : List Atom) (a : Atom) → IsLabel view a → IsAtomOf view a
IsAtomOf-label view True h = tt
IsAtomOf-label view False h = tt
IsAtomOf-label view (Of l) h = (h.0, omega (arith, h.1))

pub resolve-relabelled_once : (view : List Atom) (x : ℕ) (new a : Atom) → IsLabelled view → IsAtomOf view a → resolve (relabelled view x new) a ≡ resolve (relabelled view x new) (resolve view a)
resolve-relabelled_once view x new a labelled inside =
    let label : IsLabel view (resolve view a) = IsLabel-resolve view a labelled inside in
    resolve-relabelled view x new a inside
    ∙ sym (ap (replaced x new) (resolve-label view (resolve view a) label))
    ∙ sym (resolve-relabelled view x new (resolve view a) (IsAtomOf-label view (resolve view a) label))

-- the class of a literal's variable takes in the class of x
pub class_size-relabelled : (view : List Atom) (x : ℕ) (m : Lit) → (m.var ≡ x → ⊥) → class_size (relabelled view x (Of m)) m.var ≡ class_size view m.var + class_size view x
class_size-relabelled [] x m ne = refl
class_size-relabelled (a ∷ view) x m ne = omega (arith, class_size-relabelled view x m ne, one a)
  where
    one : (b : Atom) → (if is_of m.var (replaced x (Of m) b) then 1 else 0) ≡ (if is_of m.var b then 1 else 0) + (if is_of x b then 1 else 0)
    one True = refl
    one False = refl
    one (Of l) = by_test (l.var == x) (λ e. eqb-true l.var x e)
      where
        of_signed : (p : Bool) → is_of m.var (signed p (Of m)) ≡ true
        of_signed true = eq-eqb m.var m.var refl
        of_signed false = eq-eqb m.var m.var refl

        by_test : (t : Bool) → (t ≡ true → l.var ≡ x) → (if is_of m.var (if t then signed l.positive (Of m) else Of l) then 1 else 0) ≡ (if l.var == m.var then 1 else 0) + (if t then 1 else 0)
        by_test true e =
            cond-true _ 1 0 (of_signed l.positive)
            ∙ sym (ap (λ (n : ℕ). n + 1) (cond-false _ 1 0 (ne_eqb l.var m.var (λ f. ne (sym f ∙ e refl)))))
        by_test false e = omega arith
