-- Variables one after another, in declarations and in items.
use Rattle.std.proofs.Common.{◌≡◌, ℕ, suc, ◌+◌, ◌-◌, ◌<◌, List, [], ◌∷◌, ◌++◌, append_assoc, ap, sym, ◌∙◌, arith}
use Rattle.std.specs.List.{flat_map}
use Rattle.bumblebee_reader.specs.Canonical.{item_line}
use Rattle.model_meaning.specs.declared.model.Decl.{Decl}
use Rattle.opb_model.specs.Models.{variable, variables_from}
use Rattle.opb_model.specs.Items.{variable_item, variable_items}

variables_next : (k n : ℕ) → k < n → variables_from (k + 1) (n - k) ≡ variable (k + 1) ∷ variables_from (k + 1 + 1) (n - (k + 1))
variables_next k n h =
    let e : n - k ≡ suc (n - (k + 1)) = omega (arith, h) in
    ap (variables_from (k + 1)) e

items_next : (k n : ℕ) → k < n → variable_items (k + 1) (n - k) ≡ variable_item (k + 1) ∷ variable_items (k + 1 + 1) (n - (k + 1))
items_next k n h =
    let e : n - k ≡ suc (n - (k + 1)) = omega (arith, h) in
    ap (variable_items (k + 1)) e

-- one more is made, and those that were made and those that are left are still all

pub one_declared : (x y whole : List Decl) (k n : ℕ) (d : Decl) → k < n → y ≡ x ++ d ∷ [] → d ≡ variable (k + 1) → x ++ variables_from (k + 1) (n - k) ≡ whole
    → y ++ variables_from (k + 1 + 1) (n - (k + 1)) ≡ whole
one_declared x y whole k n d less e f h =
    let rest = variables_from (k + 1 + 1) (n - (k + 1)) in
    ap (λ z. z ++ rest) e ∙ (append_assoc x (d ∷ []) rest ∙ (ap (λ v. x ++ v ∷ rest) f ∙ (ap (λ z. x ++ z) (sym (variables_next k n less)) ∙ h)))

pub one_written : (x y whole : List ℕ) (k n : ℕ) → k < n → y ≡ x ++ item_line (variable_item (k + 1)) → x ++ flat_map item_line (variable_items (k + 1) (n - k)) ≡ whole
    → y ++ flat_map item_line (variable_items (k + 1 + 1) (n - (k + 1))) ≡ whole
one_written x y whole k n less e h =
    let line = item_line (variable_item (k + 1)) in
    let rest = flat_map item_line (variable_items (k + 1 + 1) (n - (k + 1))) in
    ap (λ z. z ++ rest) e ∙ (append_assoc x line rest ∙ (ap (λ z. x ++ flat_map item_line z) (sym (items_next k n less)) ∙ h))
