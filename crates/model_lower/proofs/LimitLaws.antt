-- The integers of a map stay in the limit of numerals.
use Rattle.std.proofs.Common.{◌≡◌, ℕ, ◌+◌, ℤ, pos, negsuc, ◌+ℤ◌, ◌-ℤ◌, List, [], ◌∷◌, ◌++◌, refl, sym, subst, arith}
use Rattle.std.proofs.lemmas.Int.{ints}
use Rattle.order_ints.specs.declared.order_int.MapValue.{MapValue}
use Rattle.order_ints.specs.declared.order_int.MapValue.TheVariants as entry
use Rattle.order_ints.proofs.Fresh.{weights-unit_steps, AreRising-unit_steps, AreRising-integer_of_values}
use Rattle.value_lists.proofs.Shapes.{low-listed, high-listed}
use Rattle.model_lower.proofs.DeclarationSteps.{first-limit, last-of-limit}
use Rattle.model_meaning.specs.declared.model.Kind.{Kind}
use Rattle.model_meaning.specs.declared.model.Kind.TheVariants as kind
use Rattle.model_meaning.specs.declared.what.What.{What}
use Rattle.model_meaning.specs.declared.what.What.TheVariants.{BoolToInt}
use Rattle.model_meaning.specs.Domains.{at_least_zero}
use Rattle.model_meaning.specs.Limits.{InLimit, KindInLimit}
use Rattle.statement_lower.specs.Entries.{AreInLimit}
use Rattle.model_lower.specs.declared.state.Lowered.{Lowered}
use Rattle.model_items.specs.Items.{ModelItem, Declaration, Statement, Definition}
use Rattle.model_items.specs.ItemLimits.{ItemInLimit, ItemsInLimit}
use Rattle.model_lower.specs.Lowering.{vars_taken, entry_of, defined_entry, lowered_item}

AreInLimit-append : (xs ys : List MapValue) → AreInLimit xs → AreInLimit ys → AreInLimit (xs ++ ys)
AreInLimit-append [] ys h k = k
AreInLimit-append (entry.Bool a ∷ xs) ys h k = AreInLimit-append xs ys h k
AreInLimit-append (entry.Int a ∷ xs) ys h k = (h.0, AreInLimit-append xs ys h.1 k)

gap-limit : (z low high : ℤ) → z ≡ high -ℤ low → InLimit low → InLimit high → InLimit (low +ℤ pos (at_least_zero z))
gap-limit (pos n) low high e h k = omega (arith, ints, e, h, k)
gap-limit (negsuc n) low high e h k = omega (arith, ints, e, h, k)

entry-limit : (vars : ℕ) (k : Kind) → KindInLimit k → AreInLimit (entry_of vars k ∷ [])
entry-limit vars kind.Bool h = tt
entry-limit vars (kind.Range low high) h =
    let count = vars_taken (kind.Range low high) in
    let top = subst (λ (n : ℕ). InLimit (low +ℤ pos n)) (sym (weights-unit_steps (vars + 1) count)) (gap-limit (high -ℤ low) low high refl h.0 h.1) in
    ((h.0, top, AreRising-unit_steps (vars + 1) count), tt)
entry-limit vars (kind.Listed vs) h =
    let low = subst InLimit (sym (low-listed vs (vars + 1))) (first-limit vs h.0) in
    let high = subst InLimit (sym (high-listed vs (vars + 1) h.1)) (last-of-limit vs h.0) in
    ((low, high, AreRising-integer_of_values vs (vars + 1) h.1), tt)

defined-limit : (entries : List MapValue) (w : What) → AreInLimit (defined_entry entries w ∷ [])
defined-limit entries (BoolToInt x i) = ((omega arith, omega (arith, ints), (omega arith, tt)), tt)
defined-limit entries w = ((omega arith, omega (arith, ints), tt), tt)

-- behind an item in the limits
item-limit : (l : Lowered) (i : ModelItem) → ItemInLimit i → AreInLimit l.map.entries → AreInLimit (lowered_item l i).map.entries
item-limit l (Declaration d) small h = AreInLimit-append l.map.entries (entry_of l.vars d.kind ∷ []) h (entry-limit l.vars d.kind small)
item-limit l (Statement s) small h = h
item-limit l (Definition d s) small h = AreInLimit-append l.map.entries (defined_entry l.map.entries s.what ∷ []) h (defined-limit l.map.entries s.what)

pub limit-step : (l m : Lowered) (i : ModelItem) (items left : List ModelItem) → left ≡ i ∷ items → m ≡ lowered_item l i → ItemsInLimit left → AreInLimit l.map.entries → AreInLimit m.map.entries × ItemsInLimit items
limit-step l m i items left parts next small h =
    let k : ItemInLimit i × ItemsInLimit items = subst ItemsInLimit parts small in
    (subst (λ (l : Lowered). AreInLimit l.map.entries) (sym next) (item-limit l i k.0 h), k.1)
