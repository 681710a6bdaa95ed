use Rattle.std.proofs.Common.{refl, sym, subst}
use Rattle.core_forms.specs.Stable.{IsStableCore}
use Rattle.core_forms.proofs.Stability.{parity_core, amo_core, count_core, sum_core, different_core, words_core}
use Rattle.core_forms.proofs.trimming.stable.is_stable_form.Goals as goal

pub returns-in-Parity : goal.returns-in-Parity
returns-in-Parity c = λ h.
    let stable = c.are_stable.ensures h in
    subst (IsStableCore c.args.view.now) (sym c.in-Parity.is)
    (parity_core c.args.view.now _ _ (rw c.as_slice.ensures at stable))

pub returns-in-Amo : goal.returns-in-Amo
returns-in-Amo c = λ h.
    let stable = c.are_stable-in-Amo.ensures h in
    subst (IsStableCore c.args.view.now) (sym c.in-Amo.is)
    (amo_core c.args.view.now _ (rw c.as_slice-in-Amo.ensures at stable))

pub returns-then-are_stable : goal.returns-then-are_stable
returns-then-are_stable c = λ h.
    let stable = c.if-are_stable.ensures refl in
    let integer = c.is_stable_int.ensures h in
    subst (IsStableCore c.args.view.now) (sym c.in-Count.is)
    (count_core c.args.view.now _ _ (rw c.as_slice-in-Count.ensures at stable) (rw c.get.ensures at integer))

pub returns-in-Sum : goal.returns-in-Sum
returns-in-Sum c = λ h.
    let stable = c.are_stable_ints.ensures h in
    subst (IsStableCore c.args.view.now) (sym c.in-Sum.is)
    (sum_core c.args.view.now _ _ (rw c.as_slice-in-Sum.ensures at stable))

pub returns-then-are_resolved : goal.returns-then-are_resolved
returns-then-are_resolved c = λ h.
    let resolved = c.if-are_resolved.ensures refl in
    let stable = c.are_stable_ints-then-are_resolved.ensures h in
    subst (IsStableCore c.args.view.now) (sym c.in-AllDiff.is)
    (different_core c.args.view.now _ _ (rw (c.as_slice-in-AllDiff.ensures, c.get-in-AllDiff.ensures) at resolved) (rw c.as_slice-then-are_resolved.ensures at stable))

pub returns-then-is_resolved : goal.returns-then-is_resolved
returns-then-is_resolved c = λ h.
    let resolved = c.if-is_resolved.ensures refl in
    let stable = c.are_stable_words.ensures h in
    subst (IsStableCore c.args.view.now) (sym c.in-Lex.is)
    (words_core c.args.view.now _ _ _ _ resolved (
      (rw (c.as_slice-then-is_resolved.ensures, c.get-then-is_resolved.ensures) at stable.0),
      (rw (c.as_slice-then-is_resolved-2.ensures, c.get-then-is_resolved-2.ensures) at stable.1),
    ))
