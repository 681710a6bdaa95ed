-- The documents of conflicts, of solutions, and of searches that were given up.
use Rattle.std.proofs.Common.{Result, Ok, Err, ◌≡◌, ℕ, zero, suc, ◌+◌, ◌<◌, ◌≤◌, ◌^◌, Bool, true, false, List, [], ◌∷◌, length, Option, Some, None, refl, ap, sym, ◌∙◌, subst, arith}
use Rattle.std.specs.Prelude.{ℤ, ◌==◌, ◌||◌, ◌&&◌, IsTrue, IfOk, replicate}
use Rattle.std.specs.declared.alloc.AllocError.{AllocError}
use Rattle.core_forms.specs.declared.equation.Equation.{Equation}
use Rattle.core_forms.specs.declared.form.Core.{Core}
use Rattle.ledger_text.specs.declared.line.Line.{Line}
use Rattle.proof_check.specs.declared.line.ProofLine.{ProofLine}
use Rattle.proof_check.specs.Lrat.{Proof, proof_of, take_lines}
use Rattle.proof_check.specs.Known.{known}
use Rattle.model_meaning.specs.declared.model.Stmt.{Stmt}
use Rattle.model_meaning.specs.declared.model.Model.{Model}
use Rattle.model_meaning.specs.declared.model.Assignment.{Assignment}
use Rattle.model_meaning.specs.declared.model.Decl.{Decl}
use Rattle.model_meaning.specs.Integers.{is_member}
use Rattle.model_meaning.specs.Domains.{domain, in_domains}
use Rattle.model_meaning.specs.Solutions.{AllHold, IsSolution}
use Rattle.model_meaning.specs.WellTyped.{WellTyped}
use Rattle.model_parts.specs.declared.divided.DividedModel.{DividedModel}
use Rattle.model_parts.specs.Only.{is_listed, numbers_of, chosen, only, all_but}
use Rattle.model_parts.specs.Sides.{kept_of}
use Rattle.model_parts.proofs.Chosen.{Rise, fit-rise, rise-less}
use Rattle.model_parts.proofs.Weaving.{kept-chosen}
use Rattle.step_kernel.specs.Steps.{replay}
use Rattle.step_kernel.specs.CnfOf.{cnf_of}
use Rattle.answer_document.specs.declared.verdict.Verdict.{Verdict}
use Rattle.answer_document.specs.declared.verdict.Verdict.TheVariants as verdict
use Rattle.answer_document.specs.declared.document.Document.{Document}
use Rattle.answer_document.specs.Valid.{start_of, IsDerived, IsCertified, IsReadableDocument, AreReadableSteps, AreReadableLines, AreAddedAlone}
use Rattle.search_options.specs.declared.options.SearchOptions.{SearchOptions}
use Rattle.decode_minimize.specs.Answers.{IsBudget}
use Rattle.conflict_text.specs.declared.verdict.CoreVerdict.TheVariants.{Core as CoreOf, Unknown}
use Rattle.conflict_text.specs.declared.document.ConflictDocument.{ConflictDocument}
use Rattle.conflict_text.specs.ConflictDocuments.{ArePart, IsShownBy, IsDocumentOf, AreWitnesses, AreWhole}
use Rattle.conflict_text.specs.ConflictLines.{VerdictFits}
use Rattle.core_extract.specs.declared.reduction.SpentPart.{SpentPart}
use Rattle.core_extract.specs.declared.reply.Reply.TheVariants.{Solved, Spent}
use Rattle.core_extract.specs.declared.settling.Progress.{Progress}
use Rattle.core_extract.specs.declared.extracting.ExtractedConflict.{ExtractedConflict}
use Rattle.core_extract.specs.Parts.{satisfying, whole_of, part_of, IsAnew, AreFound, numbers_before}
use Rattle.core_extract.specs.Extracted.{IsAnswered, IsGivenUp, IsSpentPart, IsProgress, CertificateComes, IsExtracted, IsExtractedFrom, ExtractsFrom, IsReply, conflict_document, solution_document, spent_document}
use Rattle.core_extract.proofs.Divisions.{model-same, part-is}
use Rattle.core_extract.proofs.Marks.{before-all}

-- The numbers of a part ascend, and are some of the model's.

abbrev Within : Model → List Stmt → Type 0
Within model ss = (x : ℕ) → IsTrue (is_listed x (numbers_of ss)) → IsTrue (is_listed x (numbers_of model.stmts))

same : (n : ℕ) → (n == n) ≡ true
same n = grind arith

first-listed : (s : Stmt) (ss : List Stmt) → IsTrue (is_listed s.number (numbers_of (s ∷ ss)))
first-listed s ss = rw (same s.number) refl

listed-behind : (x : ℕ) (s : Stmt) (ss : List Stmt) → IsTrue (is_listed x (numbers_of ss)) → IsTrue (is_listed x (numbers_of (s ∷ ss)))
listed-behind x s ss h = by_test (x == s.number)
  where
    by_test : (b : Bool) → IsTrue (b || is_listed x (numbers_of ss))
    by_test true = refl
    by_test false = h

module _ (model : Model) where
  ascend : (lo : ℕ) (out : List Bool) (ss : List Stmt) → Rise (lo + 1) ss → Within model ss → ArePart model lo (numbers_of (kept_of out ss))
  ascend lo [] [] r w = tt
  ascend lo (m ∷ ms) [] r w = tt
  ascend lo [] (s ∷ ss) r w =
      let l : lo + 1 ≤ s.number = r.0 in
      (omega arith, w s.number (first-listed s ss), ascend s.number [] ss r.1 (λ x h. w x (listed-behind x s ss h)))
  ascend lo (false ∷ ms) (s ∷ ss) r w =
      let l : lo + 1 ≤ s.number = r.0 in
      (omega arith, w s.number (first-listed s ss), ascend s.number ms ss r.1 (λ x h. w x (listed-behind x s ss h)))
  ascend lo (true ∷ ms) (s ∷ ss) r w =
      let l : lo + 1 ≤ s.number = r.0 in
      ascend lo ms ss (rise-less (s.number + 1) (lo + 1) ss (omega arith) r.1) (λ x h. w x (listed-behind x s ss h))

  module _ (typed : WellTyped model) (out : List Bool) where
    rises : Rise 1 model.stmts
    rises = fit-rise model.decls 1 model.stmts typed.stmts

    pub are-part : ArePart model 0 (numbers_of (kept_of out model.stmts))
    are-part = ascend 0 out model.stmts rises (λ x h. h)

    pub chosen-is : chosen (numbers_of (kept_of out model.stmts)) model.stmts ≡ kept_of out model.stmts
    chosen-is = kept-chosen 1 out model.stmts rises

    pub part-only : part_of model out ≡ only model (numbers_of (kept_of out model.stmts))
    part-only = model-same (part_of model out) (only model (numbers_of (kept_of out model.stmts))) refl (sym chosen-is) refl

    -- what was found are witnesses
    pub witnesses : (ns : List ℕ) (given : List Assignment) → AreFound (part_of model out) ns given → AreWitnesses model (numbers_of (kept_of out model.stmts)) ns given
    witnesses [] [] h = tt
    witnesses [] (a ∷ given) h = absurd h
    witnesses (n ∷ ns) [] h = absurd h
    witnesses (n ∷ ns) (a ∷ given) h = (
      record {
        in_domains = h.0.in_domains;
        others = subst (λ (ss : List Stmt). AllHold a.values (all_but n ss)) (sym chosen-is) h.0.others;
      },
      witnesses ns given h.1,
    )

-- each assignment in the domains has a value for each name
behind : (x y : Bool) → (x && y) ≡ true → y ≡ true
behind true y e = e
behind false y e = absurd (cc)

domains-length : (ds : List Decl) (a : List ℤ) → in_domains ds a ≡ true → length ds ≡ length a
domains-length [] [] e = refl
domains-length [] (z ∷ a) e = absurd (cc)
domains-length (d ∷ ds) [] e = absurd (cc)
domains-length (d ∷ ds) (z ∷ a) e = ap suc (domains-length ds a (behind (is_member z (domain d.kind)) (in_domains ds a) e))

found-whole : (p : Model) (ns : List ℕ) (given : List Assignment) → AreFound p ns given → AreWhole p.decls given
found-whole p [] [] h = tt
found-whole p [] (a ∷ given) h = absurd h
found-whole p (n ∷ ns) [] h = absurd h
found-whole p (n ∷ ns) (a ∷ given) h = (domains-length p.decls a.values h.0.in_domains, found-whole p ns given h.1)

-- What was answered about a part shows what its document says.
module _ (told : Core → Equation → Type 0) (model : Model) (options : SearchOptions) (d : ConflictDocument) (part : ArePart model 0 d.statements) where
  module _ (v : Verdict) (h : IsAnswered told (only model d.statements) options d.ledger d.proof v) where
    certified : IsCertified (only model d.statements) h.document v
    certified =
        subst (λ (w : Verdict). IsCertified (only model d.statements) h.document w) h.verdict
        (subst (λ (e : Document). IsCertified (only model d.statements) e h.document.verdict) h.is.own h.is.valid.certificate)

    readable : IsReadableDocument h.document
    readable = subst IsReadableDocument h.is.own h.is.valid.readable

    shown : IsDerived (only model d.statements) h.document → IsShownBy model d
    shown c = record {
      part = part;
      steps = subst AreReadableSteps h.ledger_is readable.ledger;
      lines = subst AreReadableLines h.proof_is readable.proof;
      last = c.last;
      leads = subst (λ (ls : List Line). replay (start_of (only model d.statements)) ls ≡ Ok c.last) h.ledger_is c.leads;
      proof = c.proof;
      accepted = subst (λ (ls : List ProofLine). take_lines (proof_of (cnf_of c.last)) ls ≡ Ok c.proof) h.proof_is c.accepted;
    }

  pub conflict-shown : IsAnswered told (only model d.statements) options d.ledger d.proof verdict.Unsatisfiable → (s : IsShownBy model d) × IsTrue (known s.proof [])
  unfolding shown certified
  conflict-shown h = let c = certified verdict.Unsatisfiable h in (shown verdict.Unsatisfiable h c.0, c.1)

  alone : (p : Proof) (n : ℕ) (o : Option (List ProofLine)) → AreAddedAlone p n o → length p.added ≡ n
  alone p n None h = h
  alone p n (Some lines) h = absurd h

  pub spent-shown : (n : ℕ) → IsAnswered told (only model d.statements) options d.ledger d.proof (verdict.Unknown n None) → (s : IsShownBy model d) × (length s.proof.added ≡ n)
  unfolding shown certified
  spent-shown n h =
      let c = certified (verdict.Unknown n None) h in
      (shown (verdict.Unknown n None) h c.0, alone c.0.proof n h.document.second c.1)

module _ (told : Core → Equation → Type 0) (model : Model) (options : SearchOptions) (typed : WellTyped model) where
  -- a conflict
  pub conflict-extracted : (d : ConflictDocument) (out : List Bool) (k : ℕ) → d.verdict ≡ CoreOf k → k < 2 ^ 64 → length d.statements ≡ k → d.statements ≡ numbers_of (kept_of out model.stmts)
      → IsAnswered told (part_of model out) options d.ledger d.proof verdict.Unsatisfiable → AreFound (part_of model out) d.statements d.assignments → IsExtracted told model options d
  conflict-extracted d out k is small count numbers refuted found =
      let only-is : part_of model out ≡ only model d.statements = part-only model typed out ∙ ap (only model) (sym numbers) in
      let part : ArePart model 0 d.statements = subst (ArePart model 0) (sym numbers) (are-part model typed out) in
      let here = subst (λ (m : Model). IsAnswered told m options d.ledger d.proof verdict.Unsatisfiable) only-is refuted in
      let shown = conflict-shown told model options d part here in
      let given : AreWitnesses model d.statements d.statements d.assignments = subst (λ (ns : List ℕ). AreWitnesses model ns d.statements d.assignments) (sym numbers)
      (witnesses model typed out d.statements d.assignments found) in
      record {
        document = record {
          fits = subst VerdictFits (sym is) small;
          document = subst (IsDocumentOf model d) (sym is) (shown.0, shown.1, count, given);
        };
        whole = found-whole (part_of model out) d.statements d.assignments found;
        certificate = subst (CertificateComes told model options d) (sym is) here;
      }

  -- a search that was given up
  pub spent-extracted : (d : ConflictDocument) (out : List Bool) → IsBudget options.budget → d.verdict ≡ Unknown options.budget → d.assignments ≡ [] → d.statements ≡ numbers_of (kept_of out model.stmts)
      → IsAnswered told (part_of model out) options d.ledger d.proof (verdict.Unknown options.budget None) → IsExtracted told model options d
  spent-extracted d out budget is none numbers given =
      let only-is : part_of model out ≡ only model d.statements = part-only model typed out ∙ ap (only model) (sym numbers) in
      let part : ArePart model 0 d.statements = subst (ArePart model 0) (sym numbers) (are-part model typed out) in
      let here = subst (λ (m : Model). IsAnswered told m options d.ledger d.proof (verdict.Unknown options.budget None)) only-is given in
      record {
        document = record {
          fits = subst VerdictFits (sym is) (budget.0, budget.1);
          document = subst (IsDocumentOf model d) (sym is) (spent-shown told model options d part options.budget here);
        };
        whole = subst (AreWhole model.decls) (sym none) tt;
        certificate = subst (CertificateComes told model options d) (sym is) (refl, here);
      }

-- what is extracted from each model that a whole one is but for its goal
pub conflict-from : (told : Core → Equation → Type 0) (whole : Model) (options : SearchOptions) (e : ExtractedConflict) (out : List Bool) (k : ℕ) → e.document.verdict ≡ CoreOf k → k < 2 ^ 64
    → length e.document.statements ≡ k → e.document.statements ≡ numbers_of (kept_of out whole.stmts)
    → IsAnswered told (part_of whole out) options e.document.ledger e.document.proof verdict.Unsatisfiable → AreFound (part_of whole out) e.document.statements e.document.assignments
    → e.decls ≡ whole.decls → ExtractsFrom told whole options e
conflict-from told whole options e out k is small count numbers refuted found decls model typed same =
    let d = e.document in (
      conflict-extracted told model options typed d out k is small count
          (subst (λ (w : Model). d.statements ≡ numbers_of (kept_of out w.stmts)) same numbers)
          (subst (λ (w : Model). IsAnswered told (part_of w out) options d.ledger d.proof verdict.Unsatisfiable) same refuted)
          (subst (λ (w : Model). AreFound (part_of w out) d.statements d.assignments) same found),
      decls ∙ ap (λ (w : Model). w.decls) same,
    )

pub spent-from : (told : Core → Equation → Type 0) (whole : Model) (options : SearchOptions) (e : ExtractedConflict) (s : SpentPart) → IsBudget options.budget → e.document ≡ spent_document options.budget s
    → IsSpentPart told whole options s → e.decls ≡ whole.decls → ExtractsFrom told whole options e
spent-from told whole options e s budget is h decls model typed same = (
  subst (IsExtracted told model options) (sym is)
      (spent-extracted told model options typed (spent_document options.budget s) h.out budget refl refl
      (subst (λ (w : Model). s.statements ≡ numbers_of (kept_of h.out w.stmts)) same h.numbers)
      (subst (λ (w : Model). IsAnswered told (part_of w h.out) options s.certificate.ledger s.certificate.proof (verdict.Unknown options.budget None)) same h.given_up)),
  decls ∙ ap (λ (w : Model). w.decls) same,
)

pub kept-all : (n : ℕ) (ss : List Stmt) → kept_of (replicate n false) ss ≡ ss
kept-all zero ss = refl
kept-all (suc n) [] = refl
kept-all (suc n) (s ∷ ss) = ap (λ (ts : List Stmt). s ∷ ts) (kept-all n ss)

pub solution-from : (told : Core → Equation → Type 0) (whole : Model) (options : SearchOptions) (e : ExtractedConflict) (a : Assignment) (n : ℕ) → e.document ≡ solution_document a
    → IsSolution (part_of whole (replicate n false)) a.values → e.decls ≡ whole.decls → ExtractsFrom told whole options e
solution-from told whole options e a n is h decls model typed same =
    let here : IsSolution (part_of model (replicate n false)) a.values = subst (λ (w : Model). IsSolution (part_of w (replicate n false)) a.values) same h in
    let all : AllHold a.values model.stmts = subst (AllHold a.values) (kept-all n model.stmts) here.holds in (
      subst (IsExtracted told model options) (sym is)
          (record {
            document = record { fits = tt; document = record { in_domains = here.in_domains; holds = all } };
            whole = (domains-length model.decls a.values here.in_domains, tt);
            certificate = tt;
          }),
      decls ∙ ap (λ (w : Model). w.decls) same,
    )

-- the conflict that the last pass comes to
pub conflict-of : (told : Core → Equation → Type 0) (options : SearchOptions) (p : Progress) (e : ExtractedConflict) (ns : List ℕ) → IsProgress told options (length p.reduction.out.items) p
    → length p.reduction.out.items ≡ length (numbers_of (whole_of p.reduction.model).stmts) → ns ≡ numbers_of p.reduction.model.part.stmts → length ns < 2 ^ 64
    → e.document ≡ conflict_document ns p.reduction.certificate p.given.items
    → e.decls ≡ p.reduction.model.part.decls → ExtractsFrom told (whole_of p.reduction.model) options e
conflict-of told options p e ns is count numbers small document decls =
    let whole = whole_of p.reduction.model in
    let out = p.reduction.out.items in
    let kept : ns ≡ numbers_of (kept_of out whole.stmts) =
    numbers ∙ (ap (λ (m : Model). numbers_of m.stmts) (part-is p.reduction.model is.reduced.fit) ∙ ap (λ (o : List Bool). numbers_of (kept_of o whole.stmts)) is.reduced.out) in
    let front : numbers_before (length out) out whole.stmts ≡ ns = before-all (length out) out whole.stmts (omega (arith, count)) ∙ sym kept in
    let found : AreFound (part_of whole out) ns p.given.items = subst (λ (ms : List ℕ). AreFound (part_of whole out) ms p.given.items) front is.found in
    conflict-from told whole options e out (length ns) (ap (λ (d : ConflictDocument). d.verdict) document) small (ap (λ (d : ConflictDocument). length d.statements) document)
    (ap (λ (d : ConflictDocument). d.statements) document ∙ kept)
    (subst (λ (d : ConflictDocument). IsAnswered told (part_of whole out) options d.ledger d.proof verdict.Unsatisfiable) (sym document) is.reduced.refutation)
    (subst (λ (d : ConflictDocument). AreFound (part_of whole out) d.statements d.assignments) (sym document) found) decls

pub extracts-as : (told : Core → Equation → Type 0) (options : SearchOptions) (a b : Model) (r : Result ExtractedConflict AllocError) → a ≡ b → IfOk r (ExtractsFrom told a options) → IfOk r (ExtractsFrom told b options)
extracts-as told options a b r e h = subst (λ (w : Model). IfOk r (ExtractsFrom told w options)) e h

pub extracted-as : (told : Core → Equation → Type 0) (options : SearchOptions) (a b : Model) (e : ExtractedConflict) → a ≡ b → ExtractsFrom told a options e → ExtractsFrom told b options e
extracted-as told options a b e same h = subst (λ (w : Model). ExtractsFrom told w options e) same h

-- for the model itself
pub extracted-from : (told : Core → Equation → Type 0) (options : SearchOptions) (model : Model) (whole : Model) (r : Result ExtractedConflict AllocError) → WellTyped model → whole ≡ satisfying model
    → IfOk r (ExtractsFrom told whole options) → IfOk r (IsExtractedFrom told model options)
extracted-from told options model whole (Err e) typed same h = tt
extracted-from told options model whole (Ok e) typed same h = h model typed same

pub solved-light : (told : Core → Equation → Type 0) (options : SearchOptions) (model whole : Model) (r : Result ExtractedConflict AllocError) (a : Assignment) (n : ℕ) → WellTyped model → whole ≡ satisfying model
    → IsSolution (part_of whole (replicate n false)) a.values → IfOk r (λ e. e.document ≡ solution_document a) → IfOk r (λ e. e.decls ≡ whole.decls) → IfOk r (IsExtractedFrom told model options)
solved-light told options model whole (Err e) a n typed same h document decls = tt
solved-light told options model whole (Ok e) a n typed same h document decls = solution-from told whole options e a n document h decls model typed same

-- the whole model, of which it is open whether it has a solution
pub spent-whole : (told : Core → Equation → Type 0) (options : SearchOptions) (whole : Model) (s : SpentPart) (n : ℕ) → s.statements ≡ numbers_of whole.stmts
    → IsGivenUp told (part_of whole (replicate n false)) options s.certificate → IsSpentPart told whole options s
spent-whole told options whole s n numbers given = record {
  out = replicate n false;
  numbers = numbers ∙ ap numbers_of (sym (kept-all n whole.stmts));
  given_up = given;
}

-- the same of the first query, whose marks are all unset
module _ (told : Core → Equation → Type 0) (options : SearchOptions) (model : Model) (d new : DividedModel) (marks : List Bool) (n : ℕ) (anew : IsAnew d marks new) (unset : marks ≡ replicate n false)
    (same : whole_of d ≡ satisfying model) where
  pub first-whole : whole_of new ≡ satisfying model
  first-whole = anew.whole ∙ same

  pub first-spent : (s : SpentPart) → s.statements ≡ numbers_of model.stmts → IsReply told (part_of (whole_of d) marks) options (Spent s.certificate) → IsSpentPart told (whole_of new) options s
  first-spent s numbers reply =
      spent-whole told options (whole_of new) s n (numbers ∙ ap (λ (m : Model). numbers_of m.stmts) (sym first-whole))
      (subst (λ (m : Model). IsGivenUp told (part_of m (replicate n false)) options s.certificate) (sym anew.whole)
      (subst (λ (o : List Bool). IsGivenUp told (part_of (whole_of d) o) options s.certificate) unset reply))

  pub first-solved : (typed : WellTyped model) (a : Assignment) (r : Result ExtractedConflict AllocError) → IsReply told (part_of (whole_of d) marks) options (Solved a)
      → IfOk r (λ e. e.document ≡ solution_document a) → IfOk r (λ e. e.decls ≡ (whole_of new).decls) → IfOk r (IsExtractedFrom told model options)
  first-solved typed a r reply document decls =
      solved-light told options model (whole_of new) r a n typed first-whole
      (subst (λ (m : Model). IsSolution (part_of m (replicate n false)) a.values) (sym anew.whole)
      (subst (λ (o : List Bool). IsSolution (part_of (whole_of d) o) a.values) unset reply.0)) document decls
