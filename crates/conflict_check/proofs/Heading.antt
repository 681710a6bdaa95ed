-- What comes of the first lines.
use Rattle.std.proofs.Common.{◌≡◌, ◌≢◌, inl, inr, ℕ, ◌<◌, ◌^◌, Bool, true, false, List, [], ◌∷◌, ◌++◌, codes, length, refl, sym, ◌∙◌, subst}
use Rattle.std.specs.Prelude.{IsTrue}
use Rattle.std.proofs.lemmas.Bool.{true≢false}
use Rattle.model_meaning.specs.declared.model.Stmt.{Stmt}
use Rattle.model_meaning.specs.declared.model.Model.{Model}
use Rattle.model_parts.specs.Only.{is_listed, numbers_of}
use Rattle.conflict_text.specs.declared.verdict.CoreVerdict.{CoreVerdict}
use Rattle.conflict_text.specs.declared.verdict.CoreVerdict.TheVariants.{Satisfiable, Core, Unknown}
use Rattle.conflict_text.specs.ConflictLines.{Standing, version_line, verdict_line, statement_line, VerdictFits, MayName, HasNamed, IsNext, IsEnd}
use Rattle.conflict_text.proofs.Words.{number-tells, statement-no-ledger}
use Rattle.conflict_check.specs.declared.head.Stage.{Stage}
use Rattle.conflict_check.specs.declared.head.Stage.TheVariants as stage
use Rattle.conflict_check.specs.declared.head.Head.{Head}
use Rattle.conflict_check.specs.Marks.{IsMarkedTo, AreMarked}
use Rattle.conflict_check.specs.Heads.{stage_behind, standing_in, head_standing, IsWalked, IsHeadTaken}
use Rattle.conflict_check.proofs.Walks.{named-next, marked-more}

module _ (model : Model) (v : CoreVerdict) (conflict : List ℕ) (now : ℕ) (at : Stage) (line : List ℕ) where
  abbrev Refused : Type 0
  Refused = (t : Standing) → IsNext (standing_in model v conflict now at) line t → ⊥

  abbrev Leads : Standing → Type 0
  Leads t = IsNext (standing_in model v conflict now at) line t

  refuse : (here : Stage) → at ≡ here → ((t : Standing) → IsNext (standing_in model v conflict now here) line t → ⊥) → Refused
  refuse here e h = subst (λ (s : Stage). (t : Standing) → IsNext (standing_in model v conflict now s) line t → ⊥) (sym e) h

  lead : (here : Stage) (t : Standing) → at ≡ here → IsNext (standing_in model v conflict now here) line t → Leads t
  lead here t e h = subst (λ (s : Stage). IsNext (standing_in model v conflict now s) line t) (sym e) h

  pub version-refused : at ≡ stage.Version → (line ≡ version_line → ⊥) → Refused
  version-refused e other = refuse stage.Version e (λ t n. other n.0)

  pub version-taken : at ≡ stage.Version → line ≡ version_line → Leads (standing_in model v conflict now stage.Verdict)
  version-taken e is = lead stage.Version (standing_in model v conflict now stage.Verdict) e (is, refl)

  pub verdict-refused : at ≡ stage.Verdict → ((w : CoreVerdict) → VerdictFits w → line ≡ verdict_line w → ⊥) → Refused
  verdict-refused e none = refuse stage.Verdict e (λ t n. none n.verdict n.fits n.spelled)

  pub verdict-taken : at ≡ stage.Verdict → (w : CoreVerdict) → VerdictFits w → line ≡ verdict_line w → Leads (standing_in model w conflict now (stage_behind w))
  verdict-taken e Satisfiable fits is = lead stage.Verdict (standing_in model Satisfiable conflict now stage.Done) e (record { verdict = Satisfiable; fits = fits; spelled = is; behind = refl })
  verdict-taken e (Core k) fits is = lead stage.Verdict (standing_in model (Core k) conflict now stage.Statements) e (record { verdict = Core k; fits = fits; spelled = is; behind = refl })
  verdict-taken e (Unknown n) fits is = lead stage.Verdict (standing_in model (Unknown n) conflict now stage.Statements) e (record { verdict = Unknown n; fits = fits; spelled = is; behind = refl })

  pub ledger-refused : at ≡ stage.Statements → line ≡ codes "ledger" → (HasNamed v (length conflict) → ⊥) → Refused
  ledger-refused e is few = refuse stage.Statements e none
    where
      none : (t : Standing) → IsNext (standing_in model v conflict now stage.Statements) line t → ⊥
      none t (inl n) = statement-no-ledger n.number (sym n.spelled ∙ is)
      none t (inr n) = few n.complete

  done : (w : CoreVerdict) → HasNamed w (length conflict) → line ≡ codes "ledger" → IsNext (standing_in model w conflict now stage.Statements) line (standing_in model w conflict now stage.Done)
  done Satisfiable complete is = absurd complete
  done (Core k) complete is = inr (record { spelled = is; complete = complete; behind = refl })
  done (Unknown n) complete is = inr (record { spelled = is; complete = complete; behind = refl })

  pub ledger-taken : at ≡ stage.Statements → line ≡ codes "ledger" → HasNamed v (length conflict) → Leads (standing_in model v conflict now stage.Done)
  ledger-taken e is complete = lead stage.Statements (standing_in model v conflict now stage.Done) e (done v complete is)

  pub statement-refused : at ≡ stage.Statements → (line ≡ codes "ledger" → ⊥) → ((n : ℕ) → n < 2 ^ 64 → line ≡ statement_line n → ⊥) → Refused
  statement-refused e other no-number = refuse stage.Statements e none
    where
      none : (t : Standing) → IsNext (standing_in model v conflict now stage.Statements) line t → ⊥
      none t (inl n) = no-number n.number n.small n.spelled
      none t (inr n) = other n.spelled

  pub name-refused : (number : ℕ) → at ≡ stage.Statements → number < 2 ^ 64 → line ≡ statement_line number → (now < number → MayName v (length conflict) → IsTrue (is_listed number (numbers_of model.stmts)) → ⊥) → Refused
  name-refused number e small is wrong = refuse stage.Statements e none
    where
      none : (t : Standing) → IsNext (standing_in model v conflict now stage.Statements) line t → ⊥
      none t (inl n) =
          let one : n.number ≡ number = number-tells (codes "statement ") n.number number n.small small (sym n.spelled ∙ is) in
          wrong (subst (λ (m : ℕ). now < m) one n.above) n.room (subst (λ (m : ℕ). IsTrue (is_listed m (numbers_of model.stmts))) one n.named)
      none t (inr n) = statement-no-ledger number (sym is ∙ n.spelled)

  pub name-taken : (number : ℕ) → at ≡ stage.Statements → number < 2 ^ 64 → line ≡ statement_line number → now < number → MayName v (length conflict) → IsTrue (is_listed number (numbers_of model.stmts))
      → Leads (standing_in model v (conflict ++ number ∷ []) number at)
  name-taken number e small is above room named =
      subst (λ (s : Stage). IsNext (standing_in model v conflict now s) line (standing_in model v (conflict ++ number ∷ []) number s)) (sym e)
      (inl (record { number = number; small = small; spelled = is; room = room; above = above; named = named; behind = refl }))

  pub verdict-to : at ≡ stage.Verdict → (w : CoreVerdict) (next : Stage) → VerdictFits w → line ≡ verdict_line w → next ≡ stage_behind w → Leads (standing_in model w conflict now next)
  verdict-to e w next fits is behind = subst (λ (s : Stage). Leads (standing_in model w conflict now s)) (sym behind) (verdict-taken e w fits is)

  -- a number that is named, by what the walk gives
  module _ (number : ℕ) (e : at ≡ stage.Statements) (small : number < 2 ^ 64) (is : line ≡ statement_line number) (ss : List Stmt) (same : ss ≡ model.stmts) (out new : List Bool) (walked : AreMarked model.stmts conflict now out) where
    pub name-unmarked : (b : Bool) → b ≡ false → IsMarkedTo ss out number new b → Refused
    name-unmarked b none to =
        let to_false : IsMarkedTo model.stmts out number new false = subst (λ (c : Bool). IsMarkedTo model.stmts out number new c) none (subst (λ (ts : List Stmt). IsMarkedTo ts out number new b) same to) in
        name-refused number e small is (λ above room named. true≢false (sym named ∙ (named-next model.stmts conflict now out walked number above ∙ to_false)))

    pub name-marked : (b : Bool) → b ≡ true → IsMarkedTo ss out number new b → now < number → MayName v (length conflict) → (more : List ℕ) → more ≡ conflict ++ number ∷ []
        → Leads (standing_in model v more number at) × AreMarked model.stmts more number new
    name-marked b some to above room more pushed =
        let to_true : IsMarkedTo model.stmts out number new true = subst (λ (c : Bool). IsMarkedTo model.stmts out number new c) some (subst (λ (ts : List Stmt). IsMarkedTo ts out number new b) same to) in
        let listed : is_listed number (numbers_of model.stmts) ≡ true = named-next model.stmts conflict now out walked number above ∙ to_true.0 in
        subst (λ (c : List ℕ). Leads (standing_in model v c number at) × AreMarked model.stmts c number new) (sym pushed)
        (name-taken number e small is above room listed, marked-more model.stmts conflict now out walked number new above to_true)

-- what a test says of a line
pub head-refused : (model : Model) (old new : Head) (line : List ℕ) (b : Bool) → b ≡ false → IsHeadTaken model old line new b → (t : Standing) → IsNext (head_standing model old) line t → ⊥
head-refused model old new line b e h = subst (λ (c : Bool). IsHeadTaken model old line new c) e h

pub head-taken : (model : Model) (old new : Head) (line : List ℕ) (b : Bool) → b ≡ true → IsHeadTaken model old line new b → IsNext (head_standing model old) line (head_standing model new) × IsWalked model new
head-taken model old new line b e h = subst (λ (c : Bool). IsHeadTaken model old line new c) e h

pub not-ended : (model : Model) (v : CoreVerdict) (conflict : List ℕ) (now : ℕ) (at : Stage) → at ≢ stage.Done → IsEnd (standing_in model v conflict now at) → ⊥
not-ended model v conflict now stage.Version wanted e = cc
not-ended model v conflict now stage.Verdict wanted e = cc
not-ended model v conflict now stage.Statements wanted e = cc
not-ended model v conflict now stage.Done wanted e = wanted refl
