-- The entry of a variable: in a front of entries, behind others, at a place.
use Rattle.std.proofs.Common.{◌≡◌, ℕ, zero, suc, ◌<◌, Bool, true, false, cond, not, eqb, List, [], ◌∷◌, ◌++◌, length, take, Option, Some, None, refl, ap, sym, ◌∙◌, arith}
use Rattle.std.specs.Option.{option_map}
use Rattle.std.proofs.lemmas.Bool.{eqb-true, eq-eqb, ne_eqb}
use Rattle.order_ints.specs.declared.literal.Lit.{Lit}
use Rattle.literal_trail.specs.declared.entry.Entry.{Entry}
use Rattle.literal_trail.specs.Trail.{entry_at, entry_of, truth_in}

-- what a front says stays, step by step
some_step : (b : Bool) (f e : Entry) (x y : Option Entry) → (x ≡ Some e → y ≡ Some e) → cond b (Some f) x ≡ Some e → cond b (Some f) y ≡ Some e
some_step true f e x y step h = h
some_step false f e x y step h = step h

pub entry_of-stays : (front more : List Entry) (v : ℕ) (e : Entry) → entry_of front v ≡ Some e → entry_of (front ++ more) v ≡ Some e
entry_of-stays [] more v e h = absurd (cc)
entry_of-stays (f ∷ front) more v e h =
    some_step (eqb f.lit.var v) f e (entry_of front v) (entry_of (front ++ more) v) (entry_of-stays front more v e) h

none_step : (b : Bool) (f : Entry) (x y z : Option Entry) → (x ≡ None → y ≡ z) → cond b (Some f) x ≡ None → cond b (Some f) y ≡ z
none_step true f x y z step h = absurd (cc)
none_step false f x y z step h = step h

-- where a variable is free in a front, its entry is that of the rest
pub entry_of-behind : (front more : List Entry) (v : ℕ) → entry_of front v ≡ None → entry_of (front ++ more) v ≡ entry_of more v
entry_of-behind [] more v h = refl
entry_of-behind (f ∷ front) more v h =
    none_step (eqb f.lit.var v) f (entry_of front v) (entry_of (front ++ more) v) (entry_of more v) (entry_of-behind front more v) h

by_option : {P : Type 0} (o : Option Entry) → (o ≡ None → P) → ((e : Entry) → o ≡ Some e → P) → P
by_option None none some = none refl
by_option (Some e) none some = some e refl

pub by_entry : {P : Type 0} (entries : List Entry) (v : ℕ) → (entry_of entries v ≡ None → P) → ((e : Entry) → entry_of entries v ≡ Some e → P) → P
by_entry entries v none some = by_option (entry_of entries v) none some

-- a variable that is free was so before
pub entry_of-free_before : (front more : List Entry) (v : ℕ) → entry_of (front ++ more) v ≡ None → entry_of front v ≡ None
entry_of-free_before front more v h =
    by_entry front v (λ none. none) (λ e some. let is = entry_of-stays front more v e some in absurd (cc))

-- an entry of another variable behind the others says nothing of this one
pub entry_of-other : (entries : List Entry) (e : Entry) (v : ℕ) → (e.lit.var ≡ v → ⊥) → entry_of (entries ++ e ∷ []) v ≡ entry_of entries v
entry_of-other entries e v ne =
    by_entry entries v
    (λ none. entry_of-behind entries (e ∷ []) v none ∙ (rw (ne_eqb e.lit.var v ne) (sym none)))
    (λ f some. entry_of-stays entries (e ∷ []) v f some ∙ sym some)

-- an entry behind others that have none of its variable is that of the variable
pub entry_of-push : (entries : List Entry) (e : Entry) → entry_of entries e.lit.var ≡ None → entry_of (entries ++ e ∷ []) e.lit.var ≡ Some e
entry_of-push entries e free = entry_of-behind entries (e ∷ []) e.lit.var free ∙ (rw (eq-eqb e.lit.var e.lit.var refl) refl)

-- the entry of a variable stands at a place, and is the first of the variable
pub record Found (entries : List Entry) (v : ℕ) (e : Entry) : Type 0 where
  pub var : e.lit.var ≡ v
  pub place : ℕ
  pub below : place < length entries
  pub is : entry_at entries place ≡ e

found_step : (f : Entry) (fs : List Entry) (v : ℕ) (e : Entry) (b : Bool) → eqb f.lit.var v ≡ b → (entry_of fs v ≡ Some e → Found fs v e) → cond b (Some f) (entry_of fs v) ≡ Some e → Found (f ∷ fs) v e
found_step f fs v e true is more h =
    let same : f ≡ e = cc in
    record { var = ap (λ (x : Entry). x.lit.var) (sym same) ∙ eqb-true f.lit.var v is; place = 0; below = omega arith; is = same }
found_step f fs v e false is more h =
    let rest = more h in
    record { var = rest.var; place = suc rest.place; below = omega (arith, rest.below); is = rest.is }

pub entry_of-found : (entries : List Entry) (v : ℕ) (e : Entry) → entry_of entries v ≡ Some e → Found entries v e
entry_of-found [] v e h = absurd (cc)
entry_of-found (f ∷ fs) v e h = found_step f fs v e (eqb f.lit.var v) refl (entry_of-found fs v e) h

-- an entry whose variable was free before is that of the variable
pub entry_of-at : (entries : List Entry) (j : ℕ) → j < length entries → entry_of (take j entries) (entry_at entries j).lit.var ≡ None → entry_of entries (entry_at entries j).lit.var ≡ Some (entry_at entries j)
entry_of-at [] j low free = absurd (omega (arith, low))
entry_of-at (e ∷ es) zero low free = rw (eq-eqb e.lit.var e.lit.var refl) refl
entry_of-at (e ∷ es) (suc j) low free =
    none_step (eqb e.lit.var (entry_at es j).lit.var) e (entry_of (take j es) (entry_at es j).lit.var) (entry_of es (entry_at es j).lit.var) (Some (entry_at es j))
    (entry_of-at es j (omega (arith, low))) free

-- the truth of a literal, by the entry of its variable
abbrev pub truth_by : Lit → Option Entry → Option Bool
truth_by l o = option_map (λ (b : Bool). cond l.positive b (not b)) (option_map (λ (e : Entry). e.lit.positive) o)

pub truth_in-same : (es fs : List Entry) (l : Lit) → entry_of es l.var ≡ entry_of fs l.var → truth_in es l ≡ truth_in fs l
truth_in-same es fs l same = ap (λ (o : Option Entry). truth_by l o) same

pub truth_in-none : (es : List Entry) (l : Lit) → entry_of es l.var ≡ None → truth_in es l ≡ None
truth_in-none es l none = ap (λ (o : Option Entry). truth_by l o) none

pub truth_in-some : (es : List Entry) (l : Lit) (e : Entry) → entry_of es l.var ≡ Some e → truth_in es l ≡ Some (cond l.positive e.lit.positive (not e.lit.positive))
truth_in-some es l e some = ap (λ (o : Option Entry). truth_by l o) some

-- a literal is free where its variable is
pub entry_of-free : (es : List Entry) (l : Lit) → truth_in es l ≡ None → entry_of es l.var ≡ None
entry_of-free es l h = by_entry es l.var (λ none. none) (λ e some. let is = truth_in-some es l e some in absurd (cc))

-- a truth value stays
pub truth_in-stays : (front more : List Entry) (l : Lit) (b : Bool) → truth_in front l ≡ Some b → truth_in (front ++ more) l ≡ Some b
truth_in-stays front more l b h =
    by_entry front l.var
    (λ none. let is = truth_in-none front l none in absurd (cc))
    (λ e some. truth_in-same (front ++ more) front l (entry_of-stays front more l.var e some ∙ sym some) ∙ h)
