-- What a CNF that is read is like.
use Rattle.std.proofs.Common.{◌≡◌, ℕ, ◌+◌, ◌≤◌, inl, inr, Bool, true, false, ◌||◌, ◌&&◌, List, [], ◌∷◌, ◌++◌, map, refl, sym, ap, subst, ◌∙◌}
use Rattle.std.specs.Prelude.{Option, Some, None}
use Rattle.bee_text.specs.Gaps.{words_of}
use Rattle.order_ints.specs.declared.literal.Lit.{Lit}
use Rattle.order_ints.specs.declared.atom.Atom.TheVariants.{Of}
use Rattle.order_ints.specs.declared.cnf.Cnf.{Cnf}
use Rattle.order_ints.specs.Truth.{Valuation, lit_truth}
use Rattle.order_ints.specs.Place.{LitBelow, ClauseBelow, ClausesBelow, AtomsBelow, AtomClausesBelow}
use Rattle.order_ints.specs.Satisfies.{clause_truth, clauses_truth}
use Rattle.order_ints.specs.OrderedClauses.{ClausesAscend, ClausesDiffer}
use Rattle.order_ints.specs.AtomClauses.{atom_clause_truth, atom_clauses_truth}
use Rattle.order_ints.proofs.OrderedLaws.{clauses_truth-ordered_clauses, ClausesBelow-ordered_clauses, ClausesAscend-ordered_clauses, ClausesDiffer-ordered_clauses}
use Rattle.order_ints.proofs.TruthLaws.{MeetsView-nil}
use Rattle.line_texts.specs.LineByLine.{Lead}
use Rattle.sat_front.specs.CnfLines.{Draft, Listed, nothing_listed, nothing_read, with_literal, with_end, Lists, Tells, Says, NextAt, NextLine, IsCnfText}
use Rattle.sat_front.specs.ReadLaws.{SameTruth, ReadInRange, ReadInOrder}
use Rattle.sat_front.proofs.DraftSame.{FitsDraft, next_few}

-- what holds at the start and is kept by each line holds behind lines
lead_keeps : {S : Type 0} (Next : S → List ℕ → S → Type 0) (Good : S → Type 0) → ((s t : S) (line : List ℕ) → Good s → Next s line t → Good t) → (s : S) (lines : List (List ℕ)) (t : S) → Good s → Lead Next s lines t → Good t
lead_keeps Next Good keeps s [] t good lead = subst Good lead good
lead_keeps Next Good keeps s (line ∷ lines) t good lead = lead_keeps Next Good keeps lead.0 lines t (keeps s lead.0 line good lead.1) lead.2

-- variables of what is listed are in range

record IsListedBelow (n : ℕ) (s : Listed) : Type 0 where
  clauses : ClausesBelow n s.clauses
  begun : ClauseBelow n s.begun

clause-push : (n : ℕ) (c : List Lit) (l : Lit) → ClauseBelow n c → LitBelow n l → ClauseBelow n (c ++ l ∷ [])
clause-push n [] l h k = (k, tt)
clause-push n (m ∷ c) l h k = (h.0, clause-push n c l h.1 k)

clauses-push : (n : ℕ) (cs : List (List Lit)) (c : List Lit) → ClausesBelow n cs → ClauseBelow n c → ClausesBelow n (cs ++ c ∷ [])
clauses-push n [] c h k = (k, tt)
clauses-push n (d ∷ cs) c h k = (h.0, clauses-push n cs c h.1 k)

lists-below : (vars : ℕ) (s : Listed) (ws : List (List ℕ)) (t : Listed) → IsListedBelow (vars + 1) s → Lists vars s ws t → IsListedBelow (vars + 1) t
lists-below vars s [] t h p = subst (IsListedBelow (vars + 1)) (sym p) h
lists-below vars s (w ∷ ws) t h (inl p) =
    lists-below vars (with_end s) ws t (record { clauses = clauses-push (vars + 1) s.clauses s.begun h.clauses h.begun; begun = tt }) p.1
lists-below vars s (w ∷ ws) t h (inr p) =
    lists-below vars (with_literal s p.0) ws t (record { clauses = h.clauses; begun = clause-push (vars + 1) s.begun p.0 h.begun p.2 }) p.3

abbrev IsBelow : Option ℕ → Listed → Type 0
IsBelow None s = s ≡ nothing_listed
IsBelow (Some vars) s = IsListedBelow (vars + 1) s

abbrev IsDraftBelow : Draft → Type 0
IsDraftBelow s = IsBelow s.vars s.listed

nothing-below : (n : ℕ) (s : Listed) → s ≡ nothing_listed → IsListedBelow n s
nothing-below n s e = subst (IsListedBelow n) (sym e) (record { clauses = tt; begun = tt })

tells-below : (vars : Option ℕ) (s : Draft) (words : List (List ℕ)) (t : Draft) → IsBelow vars s.listed → Tells vars s words t → IsDraftBelow t
tells-below None s words t h p = subst IsDraftBelow (sym p.after) (nothing-below (p.vars + 1) s.listed h)
tells-below (Some n) s words t h p = subst IsDraftBelow (sym p.after) (lists-below n s.listed words p.listed h p.lists)

says-below : (s : Draft) (words : List (List ℕ)) (t : Draft) → IsDraftBelow s → Says s words t → IsDraftBelow t
says-below s words t h (inl p) = subst IsDraftBelow (sym p.1) h
says-below s words t h (inr p) = tells-below s.vars s words t h p.1

at-below : (ended : Bool) (s : Draft) (line : List ℕ) (t : Draft) → IsDraftBelow s → NextAt ended s line t → IsDraftBelow t
at-below true s line t h p = subst IsDraftBelow (sym p.1) h
at-below false s line t h (inl p) = subst IsDraftBelow (sym p.1) h
at-below false s line t h (inr p) = says-below s (words_of line) t h p.1

draft-below : (s t : Draft) (line : List ℕ) → IsDraftBelow s → NextLine s line t → IsDraftBelow t
draft-below s t line h p = at-below s.ended s line t h p

-- clauses as clauses of atoms

atoms-below : (n : ℕ) (c : List Lit) → ClauseBelow n c → AtomsBelow n (map Of c)
atoms-below n [] h = tt
atoms-below n (l ∷ c) h = (h.0, atoms-below n c h.1)

atom-clauses-below : (n : ℕ) (cs : List (List Lit)) → ClausesBelow n cs → AtomClausesBelow n (map (map Of) cs)
atom-clauses-below n [] h = tt
atom-clauses-below n (c ∷ cs) h = (atoms-below n c h.0, atom-clauses-below n cs h.1)

atoms-truth : (σ : Valuation) (c : List Lit) → atom_clause_truth σ (map Of c) ≡ clause_truth σ c
atoms-truth σ [] = refl
atoms-truth σ (l ∷ c) = ap (λ b. lit_truth σ l || b) (atoms-truth σ c)

atom-clauses-truth : (σ : Valuation) (cs : List (List Lit)) → atom_clauses_truth σ (map (map Of) cs) ≡ clauses_truth σ cs
atom-clauses-truth σ [] = refl
atom-clauses-truth σ (c ∷ cs) = λ i. atoms-truth σ c i && atom-clauses-truth σ cs i

-- the laws

module _ (text : List ℕ) (cnf : Cnf) (is : IsCnfText text cnf) where
  below : ClausesBelow (cnf.vars + 1) is.draft.listed.clauses
  below =
      let h : IsDraftBelow is.draft = lead_keeps NextLine IsDraftBelow draft-below nothing_read is.whole.lines is.draft refl is.whole.lead in
      let k : IsBelow (Some cnf.vars) is.draft.listed = subst (λ (o : Option ℕ). IsBelow o is.draft.listed) is.vars h in
      k.clauses

  few : cnf.vars ≤ 67108864
  few =
      let h : FitsDraft is.draft = lead_keeps NextLine FitsDraft next_few nothing_read is.whole.lines is.draft tt is.whole.lead in
      subst (λ (o : Option ℕ). FitsDraft (record { vars = o; listed = is.draft.listed; ended = false })) is.vars h

pub same_truth : SameTruth
same_truth text cnf is σ =
    let cs = is.draft.listed.clauses in
    ap (clauses_truth σ) is.clauses
    ∙ clauses_truth-ordered_clauses σ [] (cnf.vars + 1) (MeetsView-nil σ) (map (map Of) cs) (atom-clauses-below (cnf.vars + 1) cs (below text cnf is))
    ∙ atom-clauses-truth σ cs

pub read_in_range : ReadInRange
read_in_range text cnf is =
    let cs = is.draft.listed.clauses in
    (subst (ClausesBelow (cnf.vars + 1)) (sym is.clauses) (ClausesBelow-ordered_clauses (cnf.vars + 1) [] tt (map (map Of) cs) (atom-clauses-below (cnf.vars + 1) cs (below text cnf is))), few text cnf is)

pub read_in_order : ReadInOrder
read_in_order text cnf is =
    let cs = map (map Of) is.draft.listed.clauses in
    (subst ClausesAscend (sym is.clauses) (ClausesAscend-ordered_clauses [] cs), subst ClausesDiffer (sym is.clauses) (ClausesDiffer-ordered_clauses [] cs))
