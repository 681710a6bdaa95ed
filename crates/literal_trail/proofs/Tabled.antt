-- The tables beside the entries: where an entry comes, and where the last one goes.
use Rattle.std.proofs.Common.{◌≡◌, ℕ, zero, suc, ◌+◌, ◌*◌, ◌<◌, ◌≤◌, Bool, true, false, cond, not, List, [], ◌∷◌, ◌++◌, length, get_or, set, replicate, Some, None, refl, ap, sym, ◌∙◌, arith, ⊎_elim, length-append}
use Rattle.std.proofs.lemmas.Bool.{cases_eq, cases_lt}
use Rattle.std.proofs.lemmas.List.{get_or_append_left, get_or-set_same, get_or-set_other, length-set, get_or-replicate, length-replicate, get_or_past}
use Rattle.std.proofs.Math.Seq.{get_or-append_seam}
use Rattle.order_ints.specs.declared.literal.Lit.{Lit}
use Rattle.order_ints.specs.Place.{LitBelow}
use Rattle.literal_trail.specs.declared.entry.Entry.{Entry}
use Rattle.literal_trail.specs.declared.tables.Value.{Value}
use Rattle.literal_trail.specs.declared.tables.Value.TheVariants.{Free, Holds, Fails}
use Rattle.literal_trail.specs.Trail.{no_entry, entry_at, entry_of, truth_in}
use Rattle.literal_trail.specs.Tables.{AreTables, truth_of, code_of, entry_by}
use Rattle.literal_trail.proofs.Entries.{entry_of-found, entry_of-push, entry_of-other, truth_in-same, truth_in-none, truth_in-some}

-- the places of a literal and of its negation in the table of values
record AreCodes (l : Lit) (k1 k2 : ℕ) : Type 0 where
  same : k1 ≡ 2 * l.var + cond l.positive 1 0
  other : k2 ≡ 2 * l.var + cond l.positive 0 1

-- where two literals are written, by whether another one is the first, the second or neither
by_code : {P : Type 0} (x l : Lit) → ((x.var ≡ l.var) → (x.positive ≡ l.positive) → P) → ((x.var ≡ l.var) → (x.positive ≡ not l.positive) → P) → ((x.var ≡ l.var → ⊥) → P) → P
by_code x l same other apart =
    ⊎_elim (λ is. signs x.positive l.positive (same is) (other is)) apart (cases_eq x.var l.var)
  where
    signs : {P : Type 0} (a b : Bool) → (a ≡ b → P) → (a ≡ not b → P) → P
    signs true true same other = same refl
    signs true false same other = other refl
    signs false true same other = other refl
    signs false false same other = same refl

abbrev bit : Bool → ℕ
bit b = cond b 1 0

abbrev other_bit : Bool → ℕ
other_bit b = cond b 0 1

bit-low : (b : Bool) → bit b ≤ 1
bit-low true = omega arith
bit-low false = omega arith

bits : (b : Bool) → bit b + other_bit b ≡ 1
bits true = refl
bits false = refl

bit-not : (b : Bool) → bit (not b) ≡ other_bit b
bit-not true = refl
bit-not false = refl

bit-one : (b : Bool) → (bit b ≡ other_bit b) → ⊥
bit-one true h = omega (arith, h)
bit-one false h = omega (arith, h)

pub code_of-negated : (l m : Lit) → m.var ≡ l.var → m.positive ≡ not l.positive → code_of m ≡ 2 * l.var + cond l.positive 0 1
code_of-negated l m var sign = omega (arith, ap bit sign, bit-not l.positive, var)

-- what stands at a literal where the literal l got the value v and its negation the value w
written-same : (values : List Value) (x l : Lit) (k1 k2 : ℕ) (v w : Value) → AreCodes l k1 k2 → 2 * l.var + 2 ≤ length values → x.var ≡ l.var → x.positive ≡ l.positive → get_or (set (set values k1 v) k2 w) (code_of x) Free ≡ v
written-same values x l k1 k2 v w h room var sign =
    let at : code_of x ≡ k1 = omega (arith, h.same, ap bit sign, var) in
    let apart : code_of x ≡ k2 → ⊥ = λ is. bit-one l.positive (omega (arith, at, h.same, h.other, is)) in
    let apart1 : k1 ≡ k2 → ⊥ = λ is. apart (at ∙ is) in
    let low : k1 < length values = omega (arith, h.same, bit-low l.positive) in
    ap (λ (k : ℕ). get_or (set (set values k1 v) k2 w) k Free) at ∙ get_or-set_other (set values k1 v) k2 k1 w Free apart1 ∙ get_or-set_same values k1 v Free low

written-other : (values : List Value) (x l : Lit) (k1 k2 : ℕ) (v w : Value) → AreCodes l k1 k2 → 2 * l.var + 2 ≤ length values → x.var ≡ l.var → x.positive ≡ not l.positive → get_or (set (set values k1 v) k2 w) (code_of x) Free ≡ w
written-other values x l k1 k2 v w h room var sign =
    let at : code_of x ≡ k2 = omega (arith, h.other, ap bit sign, bit-not l.positive, var) in
    let low : k2 < length (set values k1 v) = omega (arith, h.other, bits l.positive, length-set values k1 v) in
    ap (λ (k : ℕ). get_or (set (set values k1 v) k2 w) k Free) at ∙ get_or-set_same (set values k1 v) k2 w Free low

written-apart : (values : List Value) (x l : Lit) (k1 k2 : ℕ) (v w : Value) → AreCodes l k1 k2 → (x.var ≡ l.var → ⊥) → get_or (set (set values k1 v) k2 w) (code_of x) Free ≡ get_or values (code_of x) Free
written-apart values x l k1 k2 v w h apart =
    get_or-set_other (set values k1 v) k2 (code_of x) w Free (λ is. apart (omega (arith, is, h.other, bits l.positive, bit-low x.positive)))
    ∙ get_or-set_other values k1 (code_of x) v Free (λ is. apart (omega (arith, is, h.same, bit-low l.positive, bit-low x.positive)))

-- the truth of a literal by that of one of the same variable
sign-same : (a b : Bool) → a ≡ b → cond a b (not b) ≡ true
sign-same true b h = sym h
sign-same false b h = ap not (sym h)

sign-other : (a b : Bool) → a ≡ not b → cond a b (not b) ≡ false
sign-other true true h = h
sign-other true false h = refl
sign-other false true h = refl
sign-other false false h = sym h

-- an entry comes
pub tables-added : (entries : List Entry) (values : List Value) (places : List ℕ) (e : Entry) (k1 k2 n : ℕ) → AreTables entries values places → LitBelow (length places) e.lit → entry_of entries e.lit.var ≡ None → k1 ≡ 2 * e.lit.var + cond e.lit.positive 1 0 → k2 ≡ 2 * e.lit.var + cond e.lit.positive 0 1 → n ≡ suc (length entries) → AreTables (entries ++ e ∷ []) (set (set values k1 Holds) k2 Fails) (set places e.lit.var n)
tables-added entries values places e k1 k2 n h low free is1 is2 count = record {
  lengths = omega (arith, length-set (set values k1 Holds) k2 Fails, length-set values k1 Holds, length-set places e.lit.var n, h.lengths);
  valued = λ x below. let old : x.var < length places = omega (arith, below, length-set places e.lit.var n) in
      by_code x e.lit
      (λ var sign. ap truth_of (written-same values x e.lit k1 k2 Holds Fails codes room var sign) ∙ sym (truth x var ∙ ap Some (sign-same x.positive e.lit.positive sign)))
      (λ var sign. ap truth_of (written-other values x e.lit k1 k2 Holds Fails codes room var sign) ∙ sym (truth x var ∙ ap Some (sign-other x.positive e.lit.positive sign)))
      (λ apart. ap truth_of (written-apart values x e.lit k1 k2 Holds Fails codes apart) ∙ h.valued x old ∙ truth_in-same entries (entries ++ e ∷ []) x (sym (entry_of-other entries e x.var (λ is. apart (sym is)))));
  placed = λ v below. let old : v < length places = omega (arith, below, length-set places e.lit.var n) in
      ⊎_elim
      (λ is. ap (entry_by (entries ++ e ∷ [])) (at_new v is) ∙ ap Some (get_or-append_seam entries e [] no_entry) ∙ sym (ap (entry_of (entries ++ e ∷ [])) is ∙ entry_of-push entries e free))
      (λ apart. ap (entry_by (entries ++ e ∷ [])) (get_or-set_other places e.lit.var v n 0 apart) ∙ by_more (get_or places v 0) (h.within v old) ∙ h.placed v old ∙ sym (entry_of-other entries e v (λ is. apart (sym is))))
      (cases_eq v e.lit.var);
  within = λ v below. let old : v < length places = omega (arith, below, length-set places e.lit.var n) in
      ⊎_elim
      (λ is. omega (arith, at_new v is, length-append entries (e ∷ [])))
      (λ apart. omega (arith, get_or-set_other places e.lit.var v n 0 apart, h.within v old, length-append entries (e ∷ [])))
      (cases_eq v e.lit.var);
}
  where
    codes : AreCodes e.lit k1 k2
    codes = record { same = is1; other = is2 }

    room : 2 * e.lit.var + 2 ≤ length values
    room = omega (arith, h.lengths, low.1)

    truth : (x : Lit) → x.var ≡ e.lit.var → truth_in (entries ++ e ∷ []) x ≡ Some (cond x.positive e.lit.positive (not e.lit.positive))
    truth x var = truth_in-some (entries ++ e ∷ []) x e (ap (entry_of (entries ++ e ∷ [])) var ∙ entry_of-push entries e free)

    at_new : (v : ℕ) → v ≡ e.lit.var → get_or (set places e.lit.var n) v 0 ≡ suc (length entries)
    at_new v is = ap (λ (w : ℕ). get_or (set places e.lit.var n) w 0) is ∙ get_or-set_same places e.lit.var n 0 low.1 ∙ count

    by_more : (p : ℕ) → p ≤ length entries → entry_by (entries ++ e ∷ []) p ≡ entry_by entries p
    by_more zero within = refl
    by_more (suc j) within = ap Some (get_or_append_left entries (e ∷ []) no_entry j (omega (arith, within)))

-- the last entry goes
pub tables-removed : (entries : List Entry) (values : List Value) (places : List ℕ) (e : Entry) (k1 k2 : ℕ) → AreTables (entries ++ e ∷ []) values places → LitBelow (length places) e.lit → entry_of entries e.lit.var ≡ None → k1 ≡ 2 * e.lit.var + cond e.lit.positive 1 0 → k2 ≡ 2 * e.lit.var + cond e.lit.positive 0 1 → AreTables entries (set (set values k1 Free) k2 Free) (set places e.lit.var 0)
tables-removed entries values places e k1 k2 h low free is1 is2 = record {
  lengths = omega (arith, length-set (set values k1 Free) k2 Free, length-set values k1 Free, length-set places e.lit.var 0, h.lengths);
  valued = λ x below. let old : x.var < length places = omega (arith, below, length-set places e.lit.var 0) in
      by_code x e.lit
      (λ var sign. ap truth_of (written-same values x e.lit k1 k2 Free Free codes room var sign) ∙ sym (truth x var))
      (λ var sign. ap truth_of (written-other values x e.lit k1 k2 Free Free codes room var sign) ∙ sym (truth x var))
      (λ apart. ap truth_of (written-apart values x e.lit k1 k2 Free Free codes apart) ∙ h.valued x old ∙ truth_in-same (entries ++ e ∷ []) entries x (entry_of-other entries e x.var (λ is. apart (sym is))));
  placed = λ v below. let old : v < length places = omega (arith, below, length-set places e.lit.var 0) in
      ⊎_elim
      (λ is. ap (entry_by entries) (at_old v is) ∙ sym (ap (entry_of entries) is ∙ free))
      (λ apart. ap (entry_by entries) (get_or-set_other places e.lit.var v 0 0 apart) ∙ (fewer v (get_or places v 0) apart (h.placed v old ∙ entry_of-other entries e v (λ is. apart (sym is))) (h.within v old)).0)
      (cases_eq v e.lit.var);
  within = λ v below. let old : v < length places = omega (arith, below, length-set places e.lit.var 0) in
      ⊎_elim
      (λ is. omega (arith, at_old v is))
      (λ apart. omega (arith, get_or-set_other places e.lit.var v 0 0 apart, (fewer v (get_or places v 0) apart (h.placed v old ∙ entry_of-other entries e v (λ is. apart (sym is))) (h.within v old)).1))
      (cases_eq v e.lit.var);
}
  where
    codes : AreCodes e.lit k1 k2
    codes = record { same = is1; other = is2 }

    room : 2 * e.lit.var + 2 ≤ length values
    room = omega (arith, h.lengths, low.1)

    truth : (x : Lit) → x.var ≡ e.lit.var → truth_in entries x ≡ None
    truth x var = truth_in-none entries x (ap (entry_of entries) var ∙ free)

    at_old : (v : ℕ) → v ≡ e.lit.var → get_or (set places e.lit.var 0) v 0 ≡ 0
    at_old v is = ap (λ (w : ℕ). get_or (set places e.lit.var 0) w 0) is ∙ get_or-set_same places e.lit.var 0 0 low.1

    fewer : (v p : ℕ) → (v ≡ e.lit.var → ⊥) → entry_by (entries ++ e ∷ []) p ≡ entry_of entries v → p ≤ length (entries ++ e ∷ []) → (entry_by entries p ≡ entry_of entries v) × (p ≤ length entries)
    fewer v zero apart is within = (is, omega arith)
    fewer v (suc j) apart is within =
        ⊎_elim
        (λ before. (ap Some (sym (get_or_append_left entries (e ∷ []) no_entry j before)) ∙ is, omega arith))
        (λ behind.
        let at : j ≡ length entries = omega (arith, within, length-append entries (e ∷ [])) in
        let given : entry_of entries v ≡ Some e = sym is ∙ ap (λ (k : ℕ). Some (entry_at (entries ++ e ∷ []) k)) at ∙ ap Some (get_or-append_seam entries e [] no_entry) in
        absurd (apart (sym (entry_of-found entries v e given).var)))
        (cases_lt j (length entries))

-- with no entry every literal is free
pub tables-empty : (n : ℕ) → AreTables [] (replicate (2 * n) Free) (replicate {A = ℕ} n 0)
tables-empty n = record {
  lengths = omega (arith, length-replicate (2 * n) Free, length-replicate {A = ℕ} n 0);
  valued = λ x below. ap truth_of (free (2 * n) (code_of x));
  placed = λ v below. ap (entry_by []) (none n v);
  within = λ v below. omega (arith, none n v);
}
  where
    free : (m k : ℕ) → get_or (replicate m Free) k Free ≡ Free
    free m k = ⊎_elim (λ low. get_or-replicate m k Free Free low) (λ high. get_or_past (replicate m Free) k Free (omega (arith, length-replicate m Free))) (cases_lt k m)

    zeros : ℕ → List ℕ
    zeros m = replicate m 0

    none : (m k : ℕ) → get_or (zeros m) k 0 ≡ 0
    none m k = ⊎_elim (λ low. get_or-replicate m k 0 0 low) (λ high. get_or_past (zeros m) k 0 (omega (arith, length-replicate {A = ℕ} m 0))) (cases_lt k m)
