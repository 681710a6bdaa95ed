-- A variable that is its own label after a replacement was it before.
use Rattle.std.proofs.Common.{◌≡◌, ℕ, ◌≤◌, true, false, List, length, refl, ap, sym, ◌∙◌, ⊎_elim}
use Rattle.std.specs.Prelude.{◌==◌}
use Rattle.std.proofs.lemmas.Bool.{true≢false, cases_Bool, eqb-true, eq-eqb}
use Rattle.order_ints.specs.declared.atom.Atom.{Atom}
use Rattle.order_ints.specs.declared.atom.Atom.TheVariants.{True, False, Of}
use Rattle.order_ints.specs.View.{label_of}
use Rattle.order_ints.specs.Label.{variable, IsOwnLabel}
use Rattle.equation_store.specs.Class.{is_of}
use Rattle.equation_store.specs.Merge.{signed, replaced, IsReplacement}
use Rattle.equation_store.proofs.Replaced.{relabelled, replaced-own, replaced-other, label_of-map}
use Rattle.equation_store.proofs.Change.{is_of-signed}
use Rattle.equation_store.proofs.Facts.{own_label}

pub was-own : (view : List Atom) (x : ℕ) (new : Atom) → IsReplacement view x new → (v : ℕ) → 1 ≤ v → v ≤ length view → IsOwnLabel (relabelled view x new) v → IsOwnLabel view v × ((v == x) ≡ false)
was-own view x new r v low high own = ⊎_elim of_loser of_other (cases_Bool (is_of x (label_of view v)))
  where
    now : replaced x new (label_of view v) ≡ variable v
    now = sym (label_of-map (replaced x new) view v low high) ∙ own

    of_other : is_of x (label_of view v) ≡ false → IsOwnLabel view v × ((v == x) ≡ false)
    of_other e =
        let kept : label_of view v ≡ variable v = sym (replaced-other x new (label_of view v) e) ∙ now in
        (kept, sym (ap (is_of x) kept) ∙ e)

    of_loser : is_of x (label_of view v) ≡ true → IsOwnLabel view v × ((v == x) ≡ false)
    of_loser e = absurd (by (label_of view v) e now)
      where
        by : (d : Atom) → is_of x d ≡ true → replaced x new d ≡ variable v → ⊥
        by True f g = cc
        by False f g = cc
        by (Of l) f g =
            let become : signed l.positive new ≡ variable v = sym (replaced-own x new l (eqb-true l.var x f)) ∙ g in
            let of_v : is_of v new ≡ true = sym (is_of-signed v l.positive new) ∙ ap (is_of v) become ∙ eq-eqb v v refl in
            let kept : label_of view v ≡ variable v = own_label view v new r.label of_v in
            let same : v ≡ x = eqb-true v x (sym (ap (is_of x) kept) ∙ e) in
            true≢false (sym of_v ∙ ap (λ (y : ℕ). is_of y new) same ∙ r.other)
