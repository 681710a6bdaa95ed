-- What a trail's literals say, and what follows along it.
use Rattle.std.proofs.Common.{◌≡◌, ◌≤◌, Bool, true, false, not, cond, List, [], ◌∷◌, ◌++◌, refl, sym, ap, ◌∙◌, ⊎_elim, arith, Some, None, append_assoc, append-nil}
use Rattle.std.specs.Prelude.{Contains}
use Rattle.std.proofs.lemmas.List.{get_or_default}
use Rattle.std.proofs.lemmas.List.Elements.{Contains-append_cases}
use Rattle.order_ints.specs.declared.literal.Lit.{Lit}
use Rattle.order_ints.specs.Truth.{not_lit}
use Rattle.literal_trail.specs.declared.entry.Entry.{Entry}
use Rattle.literal_trail.specs.Trail.{Trail, no_entry, truth_in, up_to}
use Rattle.literal_trail.proofs.Entries.{by_entry, truth_in-none, truth_in-some, entry_of-found}
use Rattle.literal_trail.proofs.Levels.{up_to-push}
use Rattle.clause_arena.specs.Clauses.{Clause}
use Rattle.clause_rings.specs.Clauses.{Follows}
use Rattle.clause_rings.specs.Clauses.Follows.{same, more}
use Rattle.drup_check.proofs.Members.{member-cases, no-member}

-- literals are equal by their parts
pub lit-same : (k l : Lit) → k.var ≡ l.var → k.positive ≡ l.positive → k ≡ l
lit-same k l e f = λ i. record { var = e i; positive = f i }

pub not-not : (l : Lit) → not_lit (not_lit l) ≡ l
not-not l = lit-same (not_lit (not_lit l)) l refl (by l.positive)
  where
    by : (b : Bool) → not (not b) ≡ b
    by true = refl
    by false = refl

-- the entry by which a literal has a truth value
pub record Given (es : List Entry) (l : Lit) : Type 0 where
  pub entry : Entry
  pub is_in : Contains es entry
  pub is : entry.lit ≡ l

agree : (p b : Bool) → Some (cond p b (not b)) ≡ Some true → b ≡ p
agree true true e = refl
agree true false e = absurd (cc)
agree false true e = absurd (cc)
agree false false e = refl

some-eq : (a b : Bool) → Some a ≡ Some b → a ≡ b
some-eq a b e = cc

-- a true literal stands in an entry
pub true-given : (es : List Entry) (l : Lit) → truth_in es l ≡ Some true → Given es l
true-given es l h =
    by_entry es l.var
    (λ none. let is = truth_in-none es l none in absurd (cc))
    (λ e found.
    let f = entry_of-found es l.var e found in
    record {
      entry = e;
      is_in = (f.place, f.below, get_or_default es f.place e no_entry f.below ∙ f.is);
      is = lit-same e.lit l f.var (agree l.positive e.lit.positive (sym (truth_in-some es l e found) ∙ h));
    })

negated-by : (p b x : Bool) → cond p b (not b) ≡ x → cond (not p) b (not b) ≡ not x
negated-by true b x e = ap not e
negated-by false true x e = ap not e
negated-by false false x e = ap not e

-- a literal is as true as its negation is false
pub truth-negated : (es : List Entry) (l : Lit) (b : Bool) → truth_in es l ≡ Some b → truth_in es (not_lit l) ≡ Some (not b)
truth-negated es l b h =
    by_entry es l.var
    (λ none. let is = truth_in-none es l none in absurd (cc))
    (λ e found.
    let is = some-eq (cond l.positive e.lit.positive (not e.lit.positive)) b (sym (truth_in-some es l e found) ∙ h) in
    truth_in-some es (not_lit l) e found ∙ ap (λ (x : Bool). Some x) (negated-by l.positive e.lit.positive b is))

-- what follows is behind the trail
pub follows-more : (cs : List Clause) (t u : Trail) → Follows cs t u → (rest : List Entry) × (u.entries ≡ t.entries ++ rest)
follows-more cs t u same = ([], sym (append-nil t.entries))
follows-more cs t u (more w l c f live is) =
    let before = follows-more cs t w f in
    let e : Entry = record { lit = l; level = w.level; reason = Some c } in
    (before.0 ++ e ∷ [], ap (λ (es : List Entry). es ++ e ∷ []) before.1 ∙ append_assoc t.entries before.0 (e ∷ []))

pub follows-same : (cs : List Clause) (t u : Trail) → Follows cs t u → (u.vars ≡ t.vars) × (u.level ≡ t.level)
follows-same cs t u same = (refl, refl)
follows-same cs t u (more w l c f live is) = follows-same cs t w f

pub follows-front : (cs : List Clause) (t u : Trail) → 1 ≤ t.level → Follows cs t u → up_to 0 u.entries ≡ up_to 0 t.entries
follows-front cs t u above same = refl
follows-front cs t u above (more w l c f live is) =
    let level = (follows-same cs t w f).1 in
    up_to-push 0 w.entries (record { lit = l; level = w.level; reason = Some c }) (omega (arith, level, above)) ∙ follows-front cs t w above f

pub follows-decided : (cs : List Clause) (t u : Trail) → Follows cs t u → (e : Entry) → Contains u.entries e → e.reason ≡ None → Contains t.entries e
follows-decided cs t u same e has none = has
follows-decided cs t u (more w l c f live is) e has none =
    let n : Entry = record { lit = l; level = w.level; reason = Some c } in
    ⊎_elim
    (λ (before : Contains w.entries e). follows-decided cs t w f e before none)
    (λ (last : Contains (n ∷ []) e).
    ⊎_elim
    (λ (here : n ≡ e). let r : Some c ≡ None = ap (λ (x : Entry). x.reason) here ∙ none in absurd (cc))
    (λ (nowhere : Contains [] e). absurd (no-member e nowhere))
    (member-cases n [] e last))
    (Contains-append_cases w.entries (n ∷ []) e has)
