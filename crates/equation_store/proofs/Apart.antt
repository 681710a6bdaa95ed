-- Two different labels are told apart by a valuation that meets the view.
use Rattle.std.proofs.Common.{◌≡◌, ℕ, Bool, true, false, not, List, refl, ap, sym, ◌∙◌, ⊎_elim}
use Rattle.std.specs.Prelude.{if◌then◌else◌, ◌==◌}
use Rattle.std.proofs.lemmas.Bool.{true≢false, false≢true, cases_eq, eq-eqb, ne_eqb, cond-true, cond-false}
use Rattle.order_ints.specs.declared.literal.Lit.{Lit}
use Rattle.order_ints.specs.declared.atom.Atom.{Atom}
use Rattle.order_ints.specs.declared.atom.Atom.TheVariants.{True, False, Of}
use Rattle.order_ints.specs.Truth.{Valuation, lit_truth, atom_truth}
use Rattle.order_ints.specs.View.{label_of, resolve, MeetsView}
use Rattle.order_ints.specs.Label.{IsLabel, IsLabelled}
use Rattle.equation_store.specs.Laws.{AlwaysEqual, ResolvesExactly}
use Rattle.equation_store.proofs.Resolve.{IsLabel-resolve, resolves_truly}

-- the truth of each variable's label
abbrev by_labels : List Atom → Valuation → Valuation
by_labels view τ v = atom_truth τ (label_of view v)

truth-by_labels : (view : List Atom) (τ : Valuation) (a : Atom) → IsLabel view a → atom_truth (by_labels view τ) a ≡ atom_truth τ a
truth-by_labels view τ True h = refl
truth-by_labels view τ False h = refl
truth-by_labels view τ (Of l) h =
    ap (λ (a : Atom). if l.positive then atom_truth τ a else not (atom_truth τ a)) h.2

meets-by_labels : (view : List Atom) (τ : Valuation) → IsLabelled view → MeetsView (by_labels view τ) view
meets-by_labels view τ labelled v low high = sym (truth-by_labels view τ (label_of view v) (labelled v low high))

-- a sign at its own truth, and at the other one
sign-own : (p : Bool) → (if p then p else not p) ≡ true
sign-own true = refl
sign-own false = refl

sign-other : (p : Bool) → (if p then not p else not (not p)) ≡ false
sign-other true = refl
sign-other false = refl

sign-at_true : (p : Bool) → (if p then true else not true) ≡ p
sign-at_true true = refl
sign-at_true false = refl

-- the valuation that makes the first literal true, and one of another variable false
abbrev tells : Lit → Lit → Valuation
tells l m v = if v == l.var then l.positive else not m.positive

-- atoms that are equally true under every valuation are equal
same_from_truth : (a b : Atom) → ((τ : Valuation) → atom_truth τ a ≡ atom_truth τ b) → a ≡ b
same_from_truth True True h = refl
same_from_truth False False h = refl
same_from_truth True False h = absurd (true≢false (h (λ _. true)))
same_from_truth False True h = absurd (false≢true (h (λ _. true)))
same_from_truth True (Of m) h = absurd (true≢false (h (λ _. not m.positive) ∙ sign-other m.positive))
same_from_truth False (Of m) h = absurd (false≢true (h (λ _. m.positive) ∙ sign-own m.positive))
same_from_truth (Of l) True h = absurd (false≢true (sym (sign-other l.positive) ∙ h (λ _. not l.positive)))
same_from_truth (Of l) False h = absurd (true≢false (sym (sign-own l.positive) ∙ h (λ _. l.positive)))
same_from_truth (Of l) (Of m) h = ⊎_elim same apart (cases_eq l.var m.var)
  where
    same : l.var ≡ m.var → Of l ≡ Of m
    same e =
        let signs : l.positive ≡ m.positive = sym (sign-at_true l.positive) ∙ h (λ _. true) ∙ sign-at_true m.positive in
        ap (λ (v : ℕ). Of (record { var = v; positive = l.positive })) e ∙ ap (λ (p : Bool). Of (record { var = m.var; positive = p })) signs

    apart : (l.var ≡ m.var → ⊥) → Of l ≡ Of m
    apart ne =
        let at_l : tells l m l.var ≡ l.positive = cond-true _ _ _ (eq-eqb l.var l.var refl) in
        let at_m : tells l m m.var ≡ not m.positive = cond-false _ _ _ (ne_eqb m.var l.var (λ e. ne (sym e))) in
        let l_true : lit_truth (tells l m) l ≡ true = ap (λ (t : Bool). if l.positive then t else not t) at_l ∙ sign-own l.positive in
        let m_false : lit_truth (tells l m) m ≡ false = ap (λ (t : Bool). if m.positive then t else not t) at_m ∙ sign-other m.positive in
        absurd (true≢false (sym l_true ∙ h (tells l m) ∙ m_false))

pub resolves_exactly : ResolvesExactly
resolves_exactly view a b labelled in_a in_b = (equal, same)
  where
    equal : resolve view a ≡ resolve view b → AlwaysEqual view a b
    equal e σ meets = sym (resolves_truly view a σ in_a meets) ∙ ap (atom_truth σ) e ∙ resolves_truly view b σ in_b meets

    same : AlwaysEqual view a b → resolve view a ≡ resolve view b
    same h = same_from_truth (resolve view a) (resolve view b) (λ τ.
        let σ : Valuation = by_labels view τ in
        let meets : MeetsView σ view = meets-by_labels view τ labelled in
        sym (truth-by_labels view τ (resolve view a) (IsLabel-resolve view a labelled in_a))
        ∙ resolves_truly view a σ in_a meets
        ∙ h σ meets
        ∙ sym (resolves_truly view b σ in_b meets)
        ∙ truth-by_labels view τ (resolve view b) (IsLabel-resolve view b labelled in_b))
