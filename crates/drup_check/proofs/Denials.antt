-- Literals that are denied one after another.
use Rattle.std.proofs.Common.{◌≡◌, ℕ, ◌+◌, ◌<◌, Bool, true, false, not, cond, List, [], ◌∷◌, ◌++◌, length, get_or, refl, sym, ap, ◌∙◌, subst, inl, inr, ⊎_elim, arith, Option, Some, None}
use Rattle.std.specs.Prelude.{Contains, IfSome, IfNone, is_some}
use Rattle.std.proofs.lemmas.List.Elements.{Contains-append_cases}
use Rattle.order_ints.specs.declared.literal.Lit.{Lit}
use Rattle.order_ints.specs.Truth.{not_lit}
use Rattle.literal_trail.specs.declared.entry.Entry.{Entry}
use Rattle.literal_trail.specs.Trail.{Trail, entry_of, truth_in, chosen}
use Rattle.literal_trail.specs.Standing.{IsFalse}
use Rattle.literal_trail.proofs.Entries.{truth_in-some, truth_in-stays, entry_of-push, entry_of-free}
use Rattle.literal_trail.proofs.Levels.{up_to-push}
use Rattle.clause_arena.specs.Clauses.{IsLive, lits_of}
use Rattle.clause_rings.specs.Clauses.{ClauseLists, SameClauses, Follows, IsComplete}
use Rattle.drup_check.specs.Denying.{IsNegation, Denying, DenialOf, AreFalseBefore}
use Rattle.drup_check.proofs.Permuted.{same-clauses, same-both}
use Rattle.drup_check.proofs.Members.{member-cases, member-first, no-member}
use Rattle.std.proofs.lemmas.Bool.{cases_eq}
use Rattle.std.proofs.lemmas.List.{get_or_default}
use Rattle.clause_arena.specs.Clauses.{no_lit}
use Rattle.drup_check.proofs.Trails.{lit-same, follows-more, follows-same, follows-front, follows-decided}

abbrev decision : Trail → Lit → Entry
decision t m = record { lit = m; level = t.level + 1; reason = None }

-- the literal that is denied is false behind it
opposed-by : (b : Bool) → cond b (not b) (not (not b)) ≡ false
opposed-by true = refl
opposed-by false = refl

pub chosen-false : (t : Trail) (l : Lit) → entry_of t.entries l.var ≡ None → truth_in (chosen t (not_lit l)).entries l ≡ Some false
chosen-false t l free =
    let e = decision t (not_lit l) in
    truth_in-some (t.entries ++ e ∷ []) l e (entry_of-push t.entries e free) ∙ ap (λ (x : Bool). Some x) (opposed-by l.positive)

module _ (old new : ClauseLists) (l : Lit) (clauses : SameClauses old.clauses new.clauses) (follows : Follows new.clauses (chosen old.trail (not_lit l)) new.trail) where
  longer : (rest : List Entry) × (new.trail.entries ≡ (chosen old.trail (not_lit l)).entries ++ rest)
  longer = follows-more new.clauses (chosen old.trail (not_lit l)) new.trail follows

  stays : (k : Lit) (b : Bool) → truth_in (chosen old.trail (not_lit l)).entries k ≡ Some b → truth_in new.trail.entries k ≡ Some b
  stays k b h =
      let P : List Entry → Type 0 = λ es. truth_in es k ≡ Some b in
      subst P (sym longer.1) (truth_in-stays (chosen old.trail (not_lit l)).entries longer.0 k b h)

  pub denied-one : Denying (l ∷ []) old new
  denied-one = record {
    clauses = clauses;
    vars = (follows-same new.clauses (chosen old.trail (not_lit l)) new.trail follows).0;
    front = follows-front new.clauses (chosen old.trail (not_lit l)) new.trail (omega arith) follows ∙ up_to-push 0 old.trail.entries (decision old.trail (not_lit l)) (omega arith);
    level = (let e = (follows-same new.clauses (chosen old.trail (not_lit l)) new.trail follows).1 in omega (arith, e));
    truths = λ k b h. stays k b (truth_in-stays old.trail.entries (decision old.trail (not_lit l) ∷ []) k b h);
    decided = λ e has none.
        ⊎_elim
        (λ (before : Contains old.trail.entries e). inl before)
        (λ (last : Contains (decision old.trail (not_lit l) ∷ []) e).
        ⊎_elim
        (λ (here : decision old.trail (not_lit l) ≡ e). inr (record { lit = l; is_in = member-first l []; negates = sym (ap (λ (x : Entry). x.lit) here) }))
        (λ (nowhere : Contains [] e). absurd (no-member e nowhere))
        (member-cases (decision old.trail (not_lit l)) [] e last))
        (Contains-append_cases old.trail.entries (decision old.trail (not_lit l) ∷ []) e
        (follows-decided new.clauses (chosen old.trail (not_lit l)) new.trail follows e has none));
  }

  pub denial-of : truth_in old.trail.entries l ≡ None → (found : Option ℕ) → IfSome found (λ c. IsLive new.clauses c × IsFalse new.trail.entries (lits_of new.clauses c)) → IfNone found (IsComplete new.trail.entries new.clauses)
      → DenialOf (l ∷ []) new (is_some found)
  denial-of free (Some c) some none = inr (record { reference = c; live = some.0; is_false = some.1 })
  denial-of free None some none =
      let here = stays l false (chosen-false old.trail l (entry_of-free old.trail.entries l free)) in (
        (λ k has.
            ⊎_elim
            (λ (same : l ≡ k). let P : Lit → Type 0 = λ x. truth_in new.trail.entries x ≡ Some false in subst P same here)
            (λ (nowhere : Contains [] k). absurd (no-member k nowhere))
            (member-cases l [] k has)),
        none,
      )

-- nothing is denied yet
pub denying-none : (lits : List Lit) (s : ClauseLists) → Denying lits s s
denying-none lits s = record {
  clauses = same-clauses s.clauses;
  vars = refl;
  front = refl;
  level = omega arith;
  truths = λ l b h. h;
  decided = λ e has none. inl has;
}

-- one literal more is denied
pub denying-both : (lits : List Lit) (old mid new : ClauseLists) (l : Lit) → Contains lits l → Denying lits old mid → Denying (l ∷ []) mid new → Denying lits old new
denying-both lits old mid new l is_in first last = record {
  clauses = same-both old.clauses mid.clauses new.clauses first.clauses last.clauses;
  vars = last.vars ∙ first.vars;
  front = last.front ∙ first.front;
  level = omega (arith, first.level, last.level);
  truths = λ k b h. last.truths k b (first.truths k b h);
  decided = λ e has none.
      ⊎_elim
      (λ (before : Contains mid.trail.entries e). first.decided e before none)
      (λ (now : IsNegation (l ∷ []) e.lit).
      ⊎_elim
      (λ (same : l ≡ now.lit). inr (record { lit = l; is_in = is_in; negates = now.negates ∙ ap not_lit (sym same) }))
      (λ (nowhere : Contains [] now.lit). absurd (no-member now.lit nowhere))
      (member-cases l [] now.lit now.is_in))
      (last.decided e has none);
}

-- the move that denies a literal, by what its calls say
module _ (old mid new : ClauseLists) (l m : Lit) (var : m.var ≡ l.var) (sign : m.positive ≡ not l.positive) (taken : mid ≡ record old { trail = chosen old.trail m }) (clauses : SameClauses mid.clauses new.clauses) (follows : Follows new.clauses mid.trail new.trail) where
  told : mid ≡ record old { trail = chosen old.trail (not_lit l) }
  told = taken ∙ ap (λ (k : Lit). record old { trail = chosen old.trail k }) (lit-same m (not_lit l) var sign)

  clauses_told : SameClauses old.clauses new.clauses
  clauses_told = let P : ClauseLists → Type 0 = λ x. SameClauses x.clauses new.clauses in subst P told clauses

  follows_told : Follows new.clauses (chosen old.trail (not_lit l)) new.trail
  follows_told = let P : ClauseLists → Type 0 = λ x. Follows new.clauses x.trail new.trail in subst P told follows

  pub denying-by : Denying (l ∷ []) old new
  denying-by = denied-one old new l clauses_told follows_told

  pub denial-by : truth_in old.trail.entries l ≡ None → (found : Option ℕ) → IfSome found (λ c. IsLive new.clauses c × IsFalse new.trail.entries (lits_of new.clauses c)) → IfNone found (IsComplete new.trail.entries new.clauses)
      → (b : Bool) → b ≡ is_some found → DenialOf (l ∷ []) new b
  denial-by free found some none b is = let P : Bool → Type 0 = DenialOf (l ∷ []) new in subst P (sym is) (denial-of old new l clauses_told follows_told free found some none)

-- one of all is denied
pub one-of-all : (lits : List Lit) (l : Lit) (s : ClauseLists) → Contains lits l → DenialOf (l ∷ []) s true → DenialOf lits s true
one-of-all lits l s is_in (inl t) =
    ⊎_elim
    (λ (same : l ≡ t.lit). inl (record { lit = l; is_in = is_in; is_true = (let P : Lit → Type 0 = λ x. truth_in s.trail.entries x ≡ Some true in subst P (sym same) t.is_true) }))
    (λ (nowhere : Contains [] t.lit). absurd (no-member t.lit nowhere))
    (member-cases l [] t.lit t.is_in)
one-of-all lits l s is_in (inr c) = inr c

-- the literal at a place
pub at-member : (ls : List Lit) (i : ℕ) → i < length ls → Contains ls (get_or ls i no_lit)
at-member ls i low = (i, low, get_or_default ls i (get_or ls i no_lit) no_lit low)

-- one literal more is false
pub next-false : (lits : List Lit) (mid new : ClauseLists) (i : ℕ) → i < length lits → AreFalseBefore lits mid i → Denying (get_or lits i no_lit ∷ []) mid new → IsFalse new.trail.entries (get_or lits i no_lit ∷ []) → AreFalseBefore lits new (i + 1)
next-false lits mid new i low before moved now l j less is =
    ⊎_elim
    (λ (same : j ≡ i).
    let here : get_or lits i no_lit ≡ l = get_or_default lits i no_lit l low ∙ (let P : ℕ → Type 0 = λ n. get_or lits n l ≡ l in subst P same is) in
    let P : Lit → Type 0 = λ x. truth_in new.trail.entries x ≡ Some false in
    subst P here (now (get_or lits i no_lit) (member-first (get_or lits i no_lit) [])))
    (λ (other : j ≡ i → ⊥). moved.truths l false (before l j (omega (arith, less, other)) is))
    (cases_eq j i)

pub all-false : (lits : List Lit) (s : ClauseLists) → AreFalseBefore lits s (length lits) → IsFalse s.trail.entries lits
all-false lits s h l has = h l has.0 has.1 has.2
