-- What the reading of a text comes to.
use Rattle.std.proofs.Common.{◌≡◌, ℕ, ◌+◌, ◌≤◌, Bool, true, List, [], ◌∷◌, ◌++◌, map, drop, length, ℤ, None, Some, Result, Ok, Err, refl, sym, ap, ◌∙◌, subst, append_assoc, length-append, arith}
use Rattle.std.specs.Prelude.{IfOk}
use Rattle.std.specs.declared.alloc.AllocError.{AllocError}
use Rattle.std.specs.List.{list_all}
use Rattle.std.proofs.lemmas.Bool.{and_from}
use Rattle.std.proofs.lemmas.List.Folds.{list_all-append}
use Rattle.bee_text.specs.Lines.{lacks, IsLine, join_lines, lines_of}
use Rattle.bee_text.proofs.LineLemmas.{join_lines-append}
use Rattle.model_meaning.specs.declared.model.Model.{Model}
use Rattle.model_meaning.specs.Limits.{InLimits}
use Rattle.model_meaning.specs.WellTyped.{WellTyped}
use Rattle.model_lower.specs.Weighed.{most_weight}
use Rattle.model_parts.specs.CoreWeight.{core_weight}
use Rattle.model_meaning.specs.declared.model.Stmt.{Stmt}
use Rattle.model_parts.specs.declared.divided.DividedModel.{DividedModel}
use Rattle.model_parts.specs.Sides.{IsDivided, IsMoved}
use Rattle.model_parts.specs.Only.{only}
use Rattle.model_parts.proofs.Weaving.{marked-only}
use Rattle.step_kernel.specs.Kernel.{Kernel}
use Rattle.answer_document.specs.Valid.{start_of}
use Rattle.line_texts.specs.LineByLine.{IsWhole, FirstMisfit, IsMisfit}
use Rattle.line_texts.proofs.Leads.{lead_join}
use Rattle.line_texts.proofs.ReadTo.{ReadTo, lines_behind, line_fails, end_fails}
use Rattle.line_texts.proofs.Fronts.{misfit_first, missing_first}
use Rattle.conflict_text.specs.declared.part.Part.TheVariants as part
use Rattle.conflict_text.specs.declared.verdict.CoreVerdict.{CoreVerdict}
use Rattle.conflict_text.specs.declared.verdict.CoreVerdict.TheVariants.{Satisfiable, Core, Unknown}
use Rattle.conflict_text.specs.ConflictLines.{Standing, start_standing, IsNext, IsEnd}
use Rattle.conflict_text.specs.ConflictSays.{Says, IsConflictText}
use Rattle.conflict_text.proofs.ConflictLaws.{conflict-law}
use Rattle.conflict_text.proofs.OneText.{one-conflict, no-misfit}
use Rattle.conflict_check.specs.declared.checking.ConflictJudgement.{ConflictJudgement}
use Rattle.conflict_check.specs.declared.checking.ConflictJudgement.TheVariants as judged
use Rattle.conflict_check.specs.Heads.{done_standing}
use Rattle.conflict_check.specs.Marks.{AreMarked}
use Rattle.conflict_check.specs.Parts.{IsOfPart, IsPartOf}
use Rattle.conflict_check.proofs.Walks.{marked-all}
use Rattle.conflict_check.specs.Checked.{IsJudged, IsJudgedBehind, IsRead}

-- a line that isn't the next is the first that fails
abbrev Any : Standing → List ℕ → Unit {0} → Type 0
Any s line cause = Unit {0}

pub line-refused : (start s : Standing) (text rest line later : List ℕ) (read number : ℕ) → ReadTo IsNext start text rest read s → lines_of rest ≡ line ∷ lines_of later → number ≡ read + 1
    → ((t : Standing) → IsNext s line t → ⊥) → FirstMisfit IsNext IsEnd start text number
line-refused start s text rest line later read number h cut n misfit =
    misfit_first IsNext IsEnd start text number Any tt (line_fails IsNext start Any text rest line later read number s tt h cut n misfit tt)

pub end-refused : (start s : Standing) (text rest : List ℕ) (read number : ℕ) → ReadTo IsNext start text rest read s → IsLine rest → number ≡ read + 1
    → (rest ≡ [] → IsEnd s → ⊥) → FirstMisfit IsNext IsEnd start text number
end-refused start s text rest read number h line n early =
    missing_first IsNext IsEnd start text number (end_fails IsNext start IsEnd text rest read number s h line n early)

-- A front that was read, and what comes of the lines behind it.
module _ (s t : Standing) (text rest : List ℕ) (read : ℕ) (r : ReadTo IsNext s text rest read t) where
  whole-behind : (u : Standing) → IsWhole IsNext IsEnd t rest u → IsWhole IsNext IsEnd s text u
  whole-behind u w = record {
    lines = r.before ++ w.lines;
    are_lines = list_all-append (lacks 10) r.before w.lines ∙ and_from (list_all (lacks 10) r.before) (list_all (lacks 10) w.lines) r.are_lines w.are_lines;
    joined = r.joined ∙ (ap (λ (b : List ℕ). join_lines r.before ++ b) w.joined ∙ sym (join_lines-append r.before w.lines));
    lead = lead_join IsNext s r.before w.lines t u r.lead w.lead;
    ended = w.ended;
  }

  misfit-behind : (n : ℕ) → FirstMisfit IsNext IsEnd t rest n → FirstMisfit IsNext IsEnd s text (read + n)
  misfit-behind n m =
      let behind = lines_behind text rest r.before r.are_lines r.joined in
      record {
        before = r.before ++ m.before;
        left = m.left;
        parts = behind.lines ∙ (ap (λ (ls : List (List ℕ)). r.before ++ ls) m.parts ∙ sym (append_assoc r.before m.before m.left));
        number_is = let p = r.count in let q = m.number_is in omega (arith, p, q, length-append r.before m.before);
        stands = m.stands;
        lead = lead_join IsNext s r.before m.before t m.stands r.lead m.lead;
        misfit = subst (λ (b : List ℕ). IsMisfit IsNext IsEnd m.stands m.left b) (sym behind.end) m.misfit;
      }

  pub judged-behind : (j : ConflictJudgement) → IsJudgedBehind t rest read j → IsRead s text j
  judged-behind (judged.Valid v) h = (h.0, whole-behind h.0 h.1, h.2)
  judged-behind (judged.Refused line) h = subst (λ (n : ℕ). FirstMisfit IsNext IsEnd s text n) (sym h.2) (misfit-behind h.0 h.1)

-- what the judgement says of the model
module _ (model : Model) (text : List ℕ) (typed : WellTyped model) (limits : InLimits model) (light : core_weight model ≤ most_weight) where
  pub read-judged : (j : ConflictJudgement) → IsRead (start_standing model) text j → IsJudged model text j
  read-judged (judged.Valid v) h = record {
    stands = h.0;
    whole = h.1;
    verdict = h.2;
    says = subst (λ (w : CoreVerdict). Says model h.0 w) h.2 (conflict-law model text h.0 typed limits light h.1);
  }
  read-judged (judged.Refused line) h = record { invalid = λ v c. no-misfit model text c.stands line limits c.whole h; first = h }

  pub read-complete : (j : ConflictJudgement) (v : CoreVerdict) → IsRead (start_standing model) text j → IsConflictText model text v → j ≡ judged.Valid v
  read-complete (judged.Valid w) v h c =
      let same : h.0 ≡ c.stands = one-conflict model text h.0 c.stands limits h.1 c.whole in
      ap judged.Valid (sym h.2 ∙ (ap (λ (s : Standing). s.verdict) same ∙ c.verdict))
  read-complete (judged.Refused line) v h c = absurd (no-misfit model text c.stands line limits c.whole h)

-- a judgement that is valid has one verdict
abbrev verdict_in : CoreVerdict → ConflictJudgement → CoreVerdict
verdict_in other (judged.Valid v) = v
verdict_in other (judged.Refused line) = other

pub same-verdict : (v w : CoreVerdict) (j : ConflictJudgement) → j ≡ judged.Valid v → j ≡ judged.Valid w → v ≡ w
same-verdict v w j e f = ap (verdict_in v) (sym e ∙ f)

-- the standing with which the ledger of the part begins
pub part-standing : (model held : Model) (v : CoreVerdict) (conflict : List ℕ) (now : ℕ) (values : List ℤ) (k : Kernel) → IsOfPart v → held ≡ only model conflict → values ≡ [] → k ≡ start_of held
    → ◌≡◌ {A = Standing} (record { model = held; part = part.Ledger; verdict = v; conflict = conflict; now = now; begun = 0; values = values; kernel = Some k; proof = None }) (done_standing model v conflict now)
part-standing model held Satisfiable conflict now values k of_part is none begun = absurd of_part
part-standing model held (Core n) conflict now values k of_part is none begun =
    let at : k ≡ start_of (only model conflict) = begun ∙ ap start_of is in
    λ i. record { model = is i; part = part.Ledger; verdict = Core n; conflict = conflict; now = now; begun = 0; values = none i; kernel = Some (at i); proof = None }
part-standing model held (Unknown n) conflict now values k of_part is none begun =
    let at : k ≡ start_of (only model conflict) = begun ∙ ap start_of is in
    λ i. record { model = is i; part = part.Ledger; verdict = Unknown n; conflict = conflict; now = now; begun = 0; values = none i; kernel = Some (at i); proof = None }

-- and the one with which the values of a solution begin
pub solution-standing : (model : Model) (v : CoreVerdict) (conflict : List ℕ) (now : ℕ) (values : List ℤ) → v ≡ Satisfiable → values ≡ []
    → ◌≡◌ {A = Standing} (record { model = model; part = part.Values; verdict = v; conflict = conflict; now = now; begun = 0; values = values; kernel = None; proof = None }) (done_standing model v conflict now)
solution-standing model Satisfiable conflict now values is none =
    λ i. record { model = model; part = part.Values; verdict = Satisfiable; conflict = conflict; now = now; begun = 0; values = none i; kernel = None; proof = None }
solution-standing model (Core n) conflict now values is none = absurd (cc)
solution-standing model (Unknown n) conflict now values is none = absurd (cc)

pub only-solution : (v : CoreVerdict) → (IsOfPart v → ⊥) → v ≡ Satisfiable
only-solution Satisfiable h = refl
only-solution (Core k) h = absurd (h tt)
only-solution (Unknown n) h = absurd (h tt)

-- the divided model has the part of the statements that were named
pub part-chosen : (model : Model) (out whole : List Bool) (old : DividedModel) (r : Result DividedModel AllocError) → IfOk r (IsDivided model) → IfOk r (IsMoved old whole)
    → whole ≡ out ++ map (λ (s : Stmt). true) (drop (length out) model.stmts) → IfOk r (IsPartOf model out)
part-chosen model out whole old (Err e) divided moved is = tt
part-chosen model out whole old (Ok d) divided moved is = record { divided = divided; marks = moved.out ∙ is }

pub part-is : (model : Model) (d : DividedModel) (conflict : List ℕ) (now : ℕ) (out : List Bool) → AreMarked model.stmts conflict now out → IsPartOf model out d → d.part ≡ only model conflict
part-is model d conflict now out walked p = marked-only model d conflict (marked-all model.stmts conflict now out walked d.out.items p.marks) p.divided

-- the first line of a text that fails, where the text and its beginning are told by equals
pub misfit-of : (s t : Standing) (text same : List ℕ) (n : ℕ) → s ≡ t → text ≡ same → FirstMisfit IsNext IsEnd s text n → FirstMisfit IsNext IsEnd t same n
misfit-of s t text same n p q m = subst (λ (u : Standing). FirstMisfit IsNext IsEnd u same n) p (subst (λ (x : List ℕ). FirstMisfit IsNext IsEnd s x n) q m)

pub read-of : (s t u : Standing) (text same rest : List ℕ) (read : ℕ) → s ≡ t → text ≡ same → ReadTo IsNext s text rest read u → ReadTo IsNext t same rest read u
read-of s t u text same rest read p q r = subst (λ (v : Standing). ReadTo IsNext v same rest read u) p (subst (λ (x : List ℕ). ReadTo IsNext s x rest read u) q r)

pub ok-behind : (s t : Standing) (text rest : List ℕ) (read : ℕ) → ReadTo IsNext s text rest read t → (r : Result ConflictJudgement AllocError) → IfOk r (IsJudgedBehind t rest read) → IfOk r (IsRead s text)
ok-behind s t text rest read h (Err e) j = tt
ok-behind s t text rest read h (Ok v) j = judged-behind s t text rest read h v j

pub ok-judged : (model : Model) (text : List ℕ) → WellTyped model → InLimits model → core_weight model ≤ most_weight → (r : Result ConflictJudgement AllocError) → IfOk r (IsRead (start_standing model) text) → IfOk r (IsJudged model text)
ok-judged model text typed limits light (Err e) h = tt
ok-judged model text typed limits light (Ok j) h = read-judged model text typed limits light j h

pub ok-complete : (model : Model) (text : List ℕ) → WellTyped model → InLimits model → core_weight model ≤ most_weight → (v : CoreVerdict) → IsConflictText model text v → (r : Result ConflictJudgement AllocError)
    → IfOk r (IsRead (start_standing model) text) → IfOk r (λ (j : ConflictJudgement). j ≡ judged.Valid v)
ok-complete model text typed limits light v is (Err e) h = tt
ok-complete model text typed limits light v is (Ok j) h = read-complete model text typed limits light j v h is
