-- The parts of a compound core stand for it.
use Rattle.std.proofs.Common.{◌≡◌, ℕ, ◌+◌, ◌≤◌, ◌^◌, true, false, refl, arith}
use Rattle.std.proofs.lemmas.Bool.{false≢true, not-true}
use Rattle.core_forms.specs.declared.form.Core.{Core}
use Rattle.core_forms.specs.declared.form.Core.TheVariants.{Ladder, Clause, Parity, Conj, Comp, LeqR, EqR, Sum3, Count, Sum, Max, AllDiff, Amo, Prod, DivMod, Lex}
use Rattle.core_forms.specs.Basic.{is_basic_of}
use Rattle.core_forms.specs.Place.{CoreBelow}
use Rattle.core_forms.specs.WellFormed.{IsWellFormed}
use Rattle.core_forms.specs.Cost.{cost_of}
use Rattle.part_base.specs.PartsFor.{ArePartsFor}
use Rattle.decompose.proofs.FormLaws.{form-parts}
use Rattle.network_encode.specs.NetworkParts.{parts_of, IsSplit}
use Rattle.network_encode.proofs.NetworkLaws.{parts-stand, compound-parts, compound_cost, compound_parity, compound_amo, compound_sum}
use Rattle.core_parts.specs.Parts.{parts_at, is_compound_of}

by-network : (core : Core) (next : ℕ) → is_basic_of core ≡ false → IsSplit core → IsWellFormed core → 1 ≤ next → CoreBelow next core → next + cost_of core ≤ 2 ^ 27 → ArePartsFor core next (parts_of next core)
by-network core next compound form well least below room =
    compound-parts core next (parts_of next core) compound (parts-stand core next form well least below (omega (arith, room, compound_cost core compound)))

pub parts-of_compound : (core : Core) (next : ℕ) → is_compound_of core ≡ true → 1 ≤ next → IsWellFormed core → CoreBelow next core → next + cost_of core ≤ 2 ^ 27 → ArePartsFor core next (parts_at next core)
parts-of_compound (Ladder a) next h low formed below room = absurd (false≢true h)
parts-of_compound (Clause ls) next h low formed below room = absurd (false≢true h)
parts-of_compound (Parity ls odd) next h low formed below room =
    let compound = not-true (is_basic_of (Parity ls odd)) h in
    by-network (Parity ls odd) next compound (compound_parity ls odd compound) formed low below room
parts-of_compound (Conj r ls) next h low formed below room = absurd (false≢true h)
parts-of_compound (Comp a b hi lo) next h low formed below room = absurd (false≢true h)
parts-of_compound (LeqR r a b) next h low formed below room = absurd (false≢true h)
parts-of_compound (EqR r a b) next h low formed below room = absurd (false≢true h)
parts-of_compound (Sum3 a b c) next h low formed below room =
    let compound = not-true (is_basic_of (Sum3 a b c)) h in
    by-network (Sum3 a b c) next compound (compound_sum a b c compound) formed low below room
parts-of_compound (Count ls c) next h low formed below room = by-network (Count ls c) next refl tt formed low below room
parts-of_compound (Sum ints k) next h low formed below room = form-parts (Sum ints k) next tt low formed below
parts-of_compound (Max ints c) next h low formed below room = absurd (false≢true h)
parts-of_compound (AllDiff ints cs) next h low formed below room = form-parts (AllDiff ints cs) next tt low formed below
parts-of_compound (Amo ls) next h low formed below room =
    let compound = not-true (is_basic_of (Amo ls)) h in
    by-network (Amo ls) next compound (compound_amo ls compound) formed low below room
parts-of_compound (Prod a b c) next h low formed below room = absurd (false≢true h)
parts-of_compound (DivMod a b q r) next h low formed below room = absurd (false≢true h)
parts-of_compound (Lex r strict front back) next h low formed below room = form-parts (Lex r strict front back) next tt low formed below
