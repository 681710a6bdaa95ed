-- Entries by their variables and by their places.
use Rattle.std.proofs.Common.{◌≡◌, ◌⊎◌, ◌==◌, ℕ, zero, suc, ◌+◌, ◌<◌, ◌≤◌, Bool, true, false, not, cond, List, [], ◌∷◌, length, take, Option, Some, None, option_map, refl, sym, ap, ◌∙◌, subst, inl, inr, arith}
use Rattle.std.specs.Option.{unwrap_or}
use Rattle.std.specs.List.{Contains}
use Rattle.std.proofs.lemmas.Bool.{cases_Bool, eq-eqb, eqb-true}
use Rattle.order_ints.specs.declared.literal.Lit.{Lit}
use Rattle.order_ints.specs.Truth.{not_lit}
use Rattle.literal_trail.specs.declared.entry.Entry.{Entry}
use Rattle.literal_trail.specs.Trail.{Trail, IsTrail, AreLevelled, level_behind, no_entry, entry_at, entry_of, truth_in, level_in}
use Rattle.literal_trail.specs.Standing.{IsUnit}
use Rattle.proof_check.specs.Named.{Named}
use Rattle.conflict_analysis.specs.Reasons.{the_entry, level_at, place_of, reason_at, named_by, AreReasons}
use Rattle.conflict_analysis.proofs.Literals.{lit-same, lit-cases}

-- the two cases of a look-up at the head
some-cases : (b : Bool) (x e : Entry) (o : Option Entry) → cond b (Some x) o ≡ Some e → ((b ≡ true) × (x ≡ e)) ⊎ ((b ≡ false) × (o ≡ Some e))
some-cases true x e o h = inl (refl, cc)
some-cases false x e o h = inr (refl, h)

none-cases : (b : Bool) (x : Entry) (o : Option Entry) → cond b (Some x) o ≡ None → (b ≡ false) × (o ≡ None)
none-cases true x o h = cc
none-cases false x o h = (refl, h)

skip : (b : Bool) (x e : Entry) (o : Option Entry) → b ≡ false → o ≡ Some e → cond b (Some x) o ≡ Some e
skip true x e o p h = cc
skip false x e o p h = h

-- a variable's entry stands at its place
pub entry-place : (es : List Entry) (v : ℕ) (e : Entry) → entry_of es v ≡ Some e → (place_of es v < length es) × (entry_at es (place_of es v) ≡ e) × (e.lit.var ≡ v)
entry-place [] v e h = cc
entry-place (x ∷ es) v e h = elim (some-cases (x.lit.var == v) x e (entry_of es v) h) [
  | inl p ↦ rw p.0 (omega arith, p.1, ap (λ (y : Entry). y.lit.var) (sym p.1) ∙ eqb-true x.lit.var v p.0)
  | inr p ↦ let r = entry-place es v e p.1 in let l : place_of es v < length es = r.0 in rw p.0 (omega arith, r.1, r.2)
]

-- an entry whose variable has none before is that of its variable
pub entry-at : (es : List Entry) (j : ℕ) → j < length es → entry_of (take j es) (entry_at es j).lit.var ≡ None → (entry_of es (entry_at es j).lit.var ≡ Some (entry_at es j)) × (place_of es (entry_at es j).lit.var ≡ j)
entry-at [] j l h = absurd (omega arith)
entry-at (x ∷ es) zero l h = let t : (x.lit.var == x.lit.var) ≡ true = eq-eqb x.lit.var x.lit.var refl in rw t (refl, refl)
entry-at (x ∷ es) (suc j) l h =
    let n = none-cases (x.lit.var == (entry_at es j).lit.var) x (entry_of (take j es) (entry_at es j).lit.var) h in
    let low : j < length es = omega arith in
    let r = entry-at es j low n.1 in
    rw n.0 (r.0, ap suc r.1)

-- what the front says stands, and before its end
pub take-entry : (es : List Entry) (j v : ℕ) (e : Entry) → entry_of (take j es) v ≡ Some e → (entry_of es v ≡ Some e) × (place_of es v < j)
take-entry es zero v e h = cc
take-entry [] (suc j) v e h = cc
take-entry (x ∷ es) (suc j) v e h = elim (some-cases (x.lit.var == v) x e (entry_of (take j es) v) h) [
  | inl p ↦ rw p.0 (ap Some p.1, omega arith)
  | inr p ↦ let r = take-entry es j v e p.1 in let l : place_of es v < j = r.1 in rw p.0 (r.0, omega arith)
]

-- what stands before a place is said by the front
pub entry-take : (es : List Entry) (j v : ℕ) (e : Entry) → entry_of es v ≡ Some e → place_of es v < j → entry_of (take j es) v ≡ Some e
entry-take es zero v e h l = absurd (omega arith)
entry-take [] (suc j) v e h l = cc
entry-take (x ∷ es) (suc j) v e h l = elim (some-cases (x.lit.var == v) x e (entry_of es v) h) [
  | inl p ↦ rw p.0 (ap Some p.1)
  | inr p ↦
      let l' : suc (place_of es v) < suc j = subst (λ (b : Bool). cond b 0 (suc (place_of es v)) < suc j) p.0 l in
      let low : place_of es v < j = omega arith in
      rw p.0 (entry-take es j v e p.1 low)
]

-- a variable whose place is one of a trail has an entry
pub place-entry : (es : List Entry) (v : ℕ) → place_of es v < length es → (e : Entry) × (entry_of es v ≡ Some e)
place-entry [] v l = absurd (omega arith)
place-entry (x ∷ es) v l = elim (cases_Bool (x.lit.var == v)) [
  | inl p ↦ (x, rw p refl)
  | inr p ↦
      let l' : suc (place_of es v) < suc (length es) = subst (λ (b : Bool). cond b 0 (suc (place_of es v)) < suc (length es)) p l in
      let low : place_of es v < length es = omega arith in
      let r = place-entry es v low in
      (r.0, skip (x.lit.var == v) x r.0 (entry_of es v) p r.1)
]

-- what is said of an entry that is there
pub the-entry : (es : List Entry) (v : ℕ) (e : Entry) → entry_of es v ≡ Some e → the_entry es v ≡ e
the-entry es v e h = ap (λ (o : Option Entry). unwrap_or o no_entry) h

pub level-of : (es : List Entry) (v : ℕ) (e : Entry) → entry_of es v ≡ Some e → level_at es v ≡ e.level
level-of es v e h = ap (λ (x : Entry). x.level) (the-entry es v e h)

pub level-in : (es : List Entry) (v : ℕ) (e : Entry) → entry_of es v ≡ Some e → level_in es v ≡ Some e.level
level-in es v e h = ap (λ (o : Option Entry). option_map (λ (x : Entry). x.level) o) h

pub reason-of : (named : ℕ → Named) (es : List Entry) (v c : ℕ) (e : Entry) → entry_of es v ≡ Some e → e.reason ≡ Some c → reason_at named es v ≡ named c
reason-of named es v c e h r = ap (λ (x : Entry). named_by named x.reason) (the-entry es v e h) ∙ ap (named_by named) r

-- the sign of a literal whose truth is known
signed : (p b : Bool) → cond p b (not b) ≡ false → b ≡ not p
signed true false h = refl
signed true true h = cc
signed false true h = refl
signed false false h = cc

unsigned : (p b : Bool) → b ≡ not p → cond p b (not b) ≡ false
unsigned true false h = refl
unsigned true true h = cc
unsigned false true h = refl
unsigned false false h = cc

false-found : (l : Lit) (o : Option Entry) → option_map (λ (b : Bool). cond l.positive b (not b)) (option_map (λ (e : Entry). e.lit.positive) o) ≡ Some false → (e : Entry) × (o ≡ Some e) × (e.lit.positive ≡ not l.positive)
false-found l None h = cc
false-found l (Some e) h = let s : cond l.positive e.lit.positive (not e.lit.positive) ≡ false = cc in (e, refl, signed l.positive e.lit.positive s)

-- a literal that is false has its negation on the trail
pub false-entry : (es : List Entry) (l : Lit) → truth_in es l ≡ Some false → (e : Entry) × (entry_of es l.var ≡ Some e) × (e.lit ≡ not_lit l)
false-entry es l h =
    let r = false-found l (entry_of es l.var) h in
    (r.0, r.1, lit-same r.0.lit (not_lit l) (entry-place es l.var r.0 r.1).2 r.2)

pub entry-false : (es : List Entry) (l : Lit) (e : Entry) → entry_of es l.var ≡ Some e → e.lit ≡ not_lit l → truth_in es l ≡ Some false
entry-false es l e h s =
    ap (λ (o : Option Entry). option_map (λ (b : Bool). cond l.positive b (not b)) (option_map (λ (x : Entry). x.lit.positive) o)) h
    ∙ ap Some (unsigned l.positive e.lit.positive (ap (λ (x : Lit). x.positive) s))

-- a decision is above level 0
above-zero : (n : ℕ) (es : List Entry) (last j : ℕ) → AreLevelled n es last → j < length es → (entry_at es j).reason ≡ None → 1 ≤ (entry_at es j).level
above-zero n [] last j a l h = absurd (omega arith)
above-zero n (x ∷ es) last zero a l h = let e : x.level ≡ n + 1 = a.0 ∙ ap (level_behind n) h in omega arith
above-zero n (x ∷ es) last (suc j) a l h = above-zero x.level es last j a.1 (omega arith) h

module _ (t : Trail) (tr : IsTrail t) where
  pub at-place : (j : ℕ) → j < length t.entries → (entry_of t.entries (entry_at t.entries j).lit.var ≡ Some (entry_at t.entries j)) × (place_of t.entries (entry_at t.entries j).lit.var ≡ j)
  at-place j l = entry-at t.entries j l (tr.fresh j l)

  pub in-range : (v : ℕ) (e : Entry) → entry_of t.entries v ≡ Some e → (1 ≤ v) × (v ≤ t.vars)
  in-range v e h =
      let p = entry-place t.entries v e h in
      let b = tr.inside (place_of t.entries v) p.0 in
      let s : (entry_at t.entries (place_of t.entries v)).lit.var ≡ v = ap (λ (x : Entry). x.lit.var) p.1 ∙ p.2 in
      let low : 1 ≤ (entry_at t.entries (place_of t.entries v)).lit.var = b.0 in
      let high : (entry_at t.entries (place_of t.entries v)).lit.var < t.vars + 1 = b.1 in
      (omega arith, omega arith)

  pub level-top : (v : ℕ) (e : Entry) → entry_of t.entries v ≡ Some e → e.level ≤ t.level
  level-top v e h =
      let p = entry-place t.entries v e h in
      subst (λ (x : Entry). x.level ≤ t.level) p.1 (tr.top (place_of t.entries v) p.0)

  pub level-rises : (v w : ℕ) (e f : Entry) → entry_of t.entries v ≡ Some e → entry_of t.entries w ≡ Some f → place_of t.entries v ≤ place_of t.entries w → e.level ≤ f.level
  level-rises v w e f h k l =
      let p = entry-place t.entries v e h in
      let q = entry-place t.entries w f k in
      let r : (entry_at t.entries (place_of t.entries v)).level ≤ (entry_at t.entries (place_of t.entries w)).level = tr.rising (place_of t.entries v) (place_of t.entries w) l q.0 in
      subst (λ (x : Entry). x.level ≤ f.level) p.1 (subst (λ (x : Entry). (entry_at t.entries (place_of t.entries v)).level ≤ x.level) q.1 r)

  pub level-begins : (v w : ℕ) (e f : Entry) → entry_of t.entries v ≡ Some e → entry_of t.entries w ≡ Some f → place_of t.entries v < place_of t.entries w → f.reason ≡ None → e.level < f.level
  level-begins v w e f h k l n =
      let p = entry-place t.entries v e h in
      let q = entry-place t.entries w f k in
      let m : (entry_at t.entries (place_of t.entries w)).reason ≡ None = ap (λ (x : Entry). x.reason) q.1 ∙ n in
      let r : (entry_at t.entries (place_of t.entries v)).level < (entry_at t.entries (place_of t.entries w)).level = tr.begins (place_of t.entries v) (place_of t.entries w) l q.0 m in
      subst (λ (x : Entry). x.level < f.level) p.1 (subst (λ (x : Entry). (entry_at t.entries (place_of t.entries v)).level < x.level) q.1 r)

  pub decision-above : (v : ℕ) (e : Entry) → entry_of t.entries v ≡ Some e → e.reason ≡ None → 1 ≤ e.level
  decision-above v e h n =
      let p = entry-place t.entries v e h in
      let m : (entry_at t.entries (place_of t.entries v)).reason ≡ None = ap (λ (x : Entry). x.reason) p.1 ∙ n in
      subst (λ (x : Entry). 1 ≤ x.level) p.1 (above-zero 0 t.entries t.level (place_of t.entries v) tr.levelled p.0 m)

  -- the literals of a reason are its own and older ones that are false
  pub reason-lits : (named : ℕ → Named) (lives : ℕ → Type 0) (rs : AreReasons t.entries named lives) (v c : ℕ) (e : Entry) → entry_of t.entries v ≡ Some e → e.reason ≡ Some c
      → Contains (named c).lits e.lit × ((l : Lit) → Contains (named c).lits l → (l ≡ e.lit) ⊎ ((truth_in t.entries l ≡ Some false) × (place_of t.entries l.var < place_of t.entries v)))
  reason-lits named lives rs v c e h r =
      let p = entry-place t.entries v e h in
      let m : (entry_at t.entries (place_of t.entries v)).reason ≡ Some c = ap (λ (x : Entry). x.reason) p.1 ∙ r in
      let u : IsUnit (take (place_of t.entries v) t.entries) (named c).lits e.lit = subst (λ (x : Entry). IsUnit (take (place_of t.entries v) t.entries) (named c).lits x.lit) p.1 (rs.unit (place_of t.entries v) c p.0 m) in (
        u.is_in,
        λ l has. elim (lit-cases l e.lit) [
          | inl s ↦ inl s
          | inr n ↦
              let f = false-entry (take (place_of t.entries v) t.entries) l (u.others l has n) in
              let g = take-entry t.entries (place_of t.entries v) l.var f.0 f.1 in
              inr (entry-false t.entries l f.0 g.0 f.2, g.1)
        ],
      )
