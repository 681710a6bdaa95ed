-- Where literals are denied, the trail is the closure by unit propagation.
use Rattle.std.proofs.Common.{◌≡◌, ℕ, Bool, true, false, not, List, [], ◌∷◌, ◌++◌, refl, sym, ap, ◌∙◌, subst, inl, inr, ⊎_elim, arith, Option, Some, None, append_assoc, append-nil}
use Rattle.std.specs.Prelude.{Contains, ◌≢◌, IsTrue}
use Rattle.std.proofs.lemmas.Bool.{false≢true}
use Rattle.std.proofs.lemmas.List.{get_or_default}
use Rattle.std.proofs.lemmas.List.Elements.{Contains-append_right, Contains-append_cases}
use Rattle.order_ints.specs.declared.literal.Lit.{Lit}
use Rattle.order_ints.specs.Truth.{not_lit}
use Rattle.literal_trail.specs.declared.entry.Entry.{Entry}
use Rattle.literal_trail.specs.Trail.{Trail, no_entry, entry_at, truth_in, up_to}
use Rattle.literal_trail.specs.Standing.{IsFalse, IsQuiet}
use Rattle.literal_trail.proofs.Levels.{levelled-above, up_to-whole}
use Rattle.clause_arena.specs.Clauses.{lits_of}
use Rattle.clause_rings.specs.Clauses.{ClauseLists, IsComplete, IsDb}
use Rattle.drup_check.specs.Rup.{Derived, denied, unit, Rup, falsified, opposed}
use Rattle.drup_check.specs.Stored.{IsStored, HasOpposites, AreHeld, AreListed}
use Rattle.drup_check.specs.Denying.{IsNegation, Denying, DenialOf}
use Rattle.drup_check.proofs.Members.{member-cases, no-member, lit-cases}
use Rattle.drup_check.proofs.Trails.{not-not, true-given, truth-negated}
use Rattle.drup_check.proofs.Permuted.{listed-same, held-same}

-- what is false by derived entries has a derived negation
false-derived : (cs : List (List Lit)) (lits : List Lit) (es : List Entry) → ((e : Entry) → Contains es e → Derived cs lits e.lit) → (k : Lit) → truth_in es k ≡ Some false → Derived cs lits (not_lit k)
false-derived cs lits es all k fails =
    let g = true-given es (not_lit k) (truth-negated es k false fails) in
    subst (λ (x : Lit). Derived cs lits x) g.is (all g.entry g.is_in)

true-derived : (cs : List (List Lit)) (lits : List Lit) (es : List Entry) → ((e : Entry) → Contains es e → Derived cs lits e.lit) → (k : Lit) → truth_in es k ≡ Some true → Derived cs lits k
true-derived cs lits es all k holds =
    let g = true-given es k holds in
    subst (λ (x : Lit). Derived cs lits x) g.is (all g.entry g.is_in)

-- at level 0 nothing is decided
none-decided : (t : Trail) (cs : ClauseLists) → IsDb cs.clauses t → t.level ≡ 0 → (e : Entry) → Contains t.entries e → e.reason ≡ None → ⊥
none-decided t cs db bottom e has none =
    let at : entry_at t.entries has.0 ≡ e = get_or_default t.entries has.0 no_entry e has.1 ∙ has.2 in
    let above = levelled-above t.entries 0 t.level db.trail.levelled has.0 has.1 (ap (λ (x : Entry). x.reason) at ∙ none) in
    let top = db.trail.top has.0 has.1 in
    omega (arith, above, top, bottom)

module _ (old new : ClauseLists) (lits : List Lit) (cs : List (List Lit)) (bottom : old.trail.level ≡ 0) (old_db : IsDb old.clauses old.trail) (moved : Denying lits old new) (db : IsDb new.clauses new.trail) (are_listed : AreListed new.clauses cs) where
  abbrev Done : List Entry → Type 0
  Done es = (e : Entry) → Contains es e → Derived cs lits e.lit

  by-reason : (before rest : List Entry) (x : Entry) → new.trail.entries ≡ before ++ x ∷ rest → Done before → (r : Option ℕ) → x.reason ≡ r → Derived cs lits x.lit
  by-reason before rest x cut all None is =
      let there : Contains new.trail.entries x =
      (let P : List Entry → Type 0 = λ es. Contains es x in subst P (sym cut) (Contains-append_right before (x ∷ rest) x (0, omega arith, refl))) in
      ⊎_elim
      (λ (earlier : Contains old.trail.entries x). absurd (none-decided old.trail old old_db bottom x earlier is))
      (λ (n : IsNegation lits x.lit). subst (λ (y : Lit). Derived cs lits y) (sym n.negates) (denied n.lit n.is_in))
      (moved.decided x there is)
  by-reason before rest x cut all (Some c) is =
      let r = db.reasons before rest x c cut is in
      let listed = are_listed c r.0 in
      unit listed.clause x.lit listed.is_in ((listed.same x.lit).0 r.1.is_in) (λ k has other. false-derived cs lits before all k (r.1.others k ((listed.same k).1 has) other))

  done-more : (before : List Entry) (x : Entry) → Done before → Derived cs lits x.lit → Done (before ++ x ∷ [])
  done-more before x all one e has =
      ⊎_elim
      (λ (earlier : Contains before e). all e earlier)
      (λ (last : Contains (x ∷ []) e).
      ⊎_elim
      (λ (same : x ≡ e). subst (λ (y : Entry). Derived cs lits y.lit) same one)
      (λ (nowhere : Contains [] e). absurd (no-member e nowhere))
      (member-cases x [] e last))
      (Contains-append_cases before (x ∷ []) e has)

  all-from : (before rest : List Entry) → new.trail.entries ≡ before ++ rest → Done before → Done new.trail.entries
  all-from before [] cut all = let P : List Entry → Type 0 = Done in subst P (sym (cut ∙ append-nil before)) all
  all-from before (x ∷ rest) cut all =
      all-from (before ++ x ∷ []) rest (cut ∙ sym (append_assoc before (x ∷ []) rest)) (done-more before x all (by-reason before rest x cut all x.reason refl))

  all-derived : Done new.trail.entries
  all-derived = all-from [] new.trail.entries refl (λ e has. absurd (no-member e has))

  sound : DenialOf lits new true → Rup cs lits
  sound (inl t) = opposed t.lit (true-derived cs lits new.trail.entries all-derived t.lit t.is_true) (denied t.lit t.is_in)
  sound (inr c) =
      let listed = are_listed c.reference c.live in
      falsified listed.clause listed.is_in (λ k has. false-derived cs lits new.trail.entries all-derived k (c.is_false k ((listed.same k).1 has)))

-- a literal is true, false or free
by-truth : {P : Type 0} (o : Option Bool) → (o ≡ Some true → P) → (o ≡ Some false → P) → (o ≡ None → P) → P
by-truth (Some true) t f n = t refl
by-truth (Some false) t f n = f refl
by-truth None t f n = n refl

module _ (s : ClauseLists) (lits : List Lit) (cs : List (List Lit)) (held : AreHeld s.clauses cs) (fails : IsFalse s.trail.entries lits) (quiet : IsComplete s.trail.entries s.clauses) where
  abbrev Holding : Lit → Type 0
  Holding l = truth_in s.trail.entries l ≡ Some true

  -- what has a true negation is false
  negated-false : (k : Lit) → Holding (not_lit k) → truth_in s.trail.entries k ≡ Some false
  negated-false k h = let P : Lit → Type 0 = λ x. truth_in s.trail.entries x ≡ Some false in subst P (not-not k) (truth-negated s.trail.entries (not_lit k) true h)

  never-both : (l : Lit) → Holding l → Holding (not_lit l) → ⊥
  never-both l h k = let e = sym h ∙ negated-false l k in cc

  unit-stored : (d : List Lit) (m : Lit) → IsStored s.clauses d → Contains d m → ((k : Lit) → Contains d k → k ≢ m → truth_in s.trail.entries k ≡ Some false) → Holding m
  unit-stored d m st in_d each =
      let q : IsQuiet s.trail.entries (lits_of s.clauses st.reference) = quiet st.reference st.live in
      by-truth (truth_in s.trail.entries m) (λ holds_so. holds_so)
      (λ fails_so. absurd (q.not_false (λ k has.
      ⊎_elim
      (λ (same : k ≡ m). let P : Lit → Type 0 = λ x. truth_in s.trail.entries x ≡ Some false in subst P (sym same) fails_so)
      (λ (other : k ≢ m). each k ((st.same k).0 has) other)
      (lit-cases k m))))
      (λ free. absurd (q.not_unit m (record { is_in = (st.same m).1 in_d; free = free; others = λ k has other. each k ((st.same k).0 has) other })))

  unit-opposites : (d : List Lit) (m : Lit) → HasOpposites d → ((k : Lit) → Contains d k → k ≢ m → Holding (not_lit k)) → Holding m
  unit-opposites d m o each =
      ⊎_elim
      (λ (same : o.lit ≡ m).
      ⊎_elim
      (λ (both : not_lit o.lit ≡ m). absurd (never-same o.lit (both ∙ sym same)))
      (λ (other : not_lit o.lit ≢ m). let P : Lit → Type 0 = Holding in subst P (not-not o.lit ∙ same) (each (not_lit o.lit) o.negated_in other))
      (lit-cases (not_lit o.lit) m))
      (λ (other : o.lit ≢ m).
      ⊎_elim
      (λ (same : not_lit o.lit ≡ m). let P : Lit → Type 0 = Holding in subst P same (each o.lit o.is_in other))
      (λ (more : not_lit o.lit ≢ m). absurd (never-both (not_lit o.lit) (each o.lit o.is_in other) (each (not_lit o.lit) o.negated_in more)))
      (lit-cases (not_lit o.lit) m))
      (lit-cases o.lit m)
    where
      differ : (b : Bool) → not b ≡ b → ⊥
      differ true e = false≢true e
      differ false e = false≢true (sym e)

      never-same : (l : Lit) → not_lit l ≡ l → ⊥
      never-same l e = differ l.positive (ap (λ (x : Lit). x.positive) e)

  true-by : (l : Lit) → Derived cs lits l → Holding l
  true-by l (denied k has) = truth-negated s.trail.entries k false (fails k has)
  true-by l (unit d m in_cs in_d rest) =
      let each : (k : Lit) → Contains d k → k ≢ m → Holding (not_lit k) = λ k has other. true-by (not_lit k) (rest k has other) in
      ⊎_elim
      (λ (st : IsStored s.clauses d). unit-stored d m st in_d (λ k has other. negated-false k (each k has other)))
      (λ (o : HasOpposites d). unit-opposites d m o each)
      (held d in_cs)

  none-shown : Rup cs lits → ⊥
  none-shown (falsified d in_cs rest) =
      ⊎_elim
      (λ (st : IsStored s.clauses d). (quiet st.reference st.live).not_false (λ k has. negated-false k (true-by (not_lit k) (rest k ((st.same k).0 has)))))
      (λ (o : HasOpposites d). never-both (not_lit o.lit) (true-by (not_lit o.lit) (rest o.lit o.is_in)) (true-by (not_lit (not_lit o.lit)) (rest (not_lit o.lit) o.negated_in)))
      (held d in_cs)
  none-shown (opposed l one other) = never-both l (true-by l one) (true-by (not_lit l) other)

pub shown-sound : (old new : ClauseLists) (lits : List Lit) → old.trail.level ≡ 0 → IsDb old.clauses old.trail → Denying lits old new → IsDb new.clauses new.trail → (b : Bool) → DenialOf lits new b
    → (cs : List (List Lit)) → AreListed old.clauses cs → IsTrue b → Rup cs lits
shown-sound old new lits bottom old_db moved db true d cs listed e = sound old new lits cs bottom old_db moved db (listed-same old.clauses new.clauses moved.clauses cs listed) d
shown-sound old new lits bottom old_db moved db false d cs listed e = absurd (false≢true e)

pub shown-all : (old new : ClauseLists) (lits : List Lit) → Denying lits old new → (b : Bool) → DenialOf lits new b → (cs : List (List Lit)) → AreHeld old.clauses cs → Rup cs lits → IsTrue b
shown-all old new lits moved true d cs held r = refl
shown-all old new lits moved false d cs held r = absurd (none-shown new lits cs (λ x has. held-same old.clauses new.clauses moved.clauses x (held x has)) d.0 d.1 r)

-- the trail at level 0 is as it was
pub trail-same : (old new : ClauseLists) (lits : List Lit) → old.trail.level ≡ 0 → IsDb old.clauses old.trail → Denying lits old new → record { vars = new.trail.vars; entries = up_to 0 new.trail.entries; level = 0 } ≡ old.trail
trail-same old new lits bottom db moved = λ i. record {
  vars = moved.vars i;
  entries = (moved.front ∙ up_to-whole 0 old.trail.entries 0 old.trail.level db.trail.levelled (omega (arith, bottom))) i;
  level = sym bottom i;
}
