-- The lines up to the last value, one after another.
use Rattle.std.proofs.Common.{◌≡◌, ℕ, ◌+◌, ◌<◌, Bool, true, false, not, List, [], ◌∷◌, ◌++◌, codes, length, append_assoc, Option, None, Some, refl, sym, ap, ◌∙◌, subst, ℤ, pos, arith, lit<}
use Rattle.std.specs.Prelude.{IsTrue, IfSome, FitsSigned, slice_get, if◌then◌else◌, is_some, ◌^◌}
use Rattle.std.specs.Int.{w64}
use Rattle.std.specs.Bool.{beq}
use Rattle.std.specs.Fmt.{signed_decimal}
use Rattle.std.proofs.lemmas.Bool.{true≢false, false≢true}
use Rattle.model_meaning.specs.declared.model.Decl.{Decl}
use Rattle.model_meaning.specs.declared.model.Kind.{Kind}
use Rattle.model_meaning.specs.declared.model.Kind.TheVariants as kind
use Rattle.model_meaning.specs.declared.model.Goal.{Goal}
use Rattle.model_meaning.specs.declared.model.Goal.TheVariants.{Satisfy, Minimize, Maximize}
use Rattle.model_meaning.specs.declared.model.Model.{Model}
use Rattle.model_meaning.specs.Domains.{domain}
use Rattle.model_meaning.specs.Integers.{is_member}
use Rattle.answer_document.specs.Goals.{has_second, has_objective}
use Rattle.answer_document.specs.declared.verdict.Bounds.{Bounds}
use Rattle.answer_document.specs.declared.verdict.Verdict.{Verdict}
use Rattle.answer_document.specs.declared.verdict.Verdict.TheVariants.{Satisfiable, Unsatisfiable, Optimum, Unknown}
use Rattle.answer_document.specs.Verdicts.{verdict_text, HaveSecond, BoundsFit, VerdictFits}
use Rattle.answer_document.specs.DocumentText.{version_line, best_line, best_lines}
use Rattle.name_map.specs.ValueLines.{declared_word, declared_line, declared_lines}
use Rattle.answer_document.specs.Valid.{stated, FitNumbers, FitValues}
use Rattle.certificate_lines.specs.Counts.{is_count}
use Rattle.ledger_check.specs.declared.part.Part.{Part}
use Rattle.ledger_check.specs.declared.part.Part.TheVariants as part
use Rattle.ledger_check.specs.declared.told.Told.TheVariants.{Truth, Number}
use Rattle.ledger_check.specs.declared.told.Told.{Told}
use Rattle.ledger_check.specs.Items.{Standing, told_word, told_line, HasNumbers, IsVerdictLine, IsToldValue, IsNameLeft}
use Rattle.ledger_check.specs.Tests.{verdict_fits, behind_verdict, with_best, member_or_none, told_number, told_of}
use Rattle.ledger_check.specs.Fronts.{head_lines, AreMembers, IsFresh, HasAnswer, AtStart, AtVerdict, AtBest, AtValues, KnownIn}

same-bools : (a b : Bool) → beq a b ≡ true → a ≡ b
same-bools true true e = refl
same-bools true false e = absurd (false≢true e)
same-bools false true e = absurd (false≢true e)
same-bools false false e = refl

-- Goals and verdicts.

no-objective : (goal : Goal) → not (has_objective goal) ≡ true → goal ≡ Satisfy
no-objective Satisfy e = refl
no-objective (Minimize place second) e = absurd (false≢true e)
no-objective (Maximize place second) e = absurd (false≢true e)

both-second : (second : Option ℕ) (n : Option ℤ) → is_some n ≡ is_some second → HaveSecond second n
both-second None None e = tt
both-second None (Some n) e = absurd (true≢false e)
both-second (Some place) None e = absurd (false≢true e)
both-second (Some place) (Some n) e = tt

pub bounds-fit : (goal : Goal) (b : Bounds) → has_objective goal ≡ true → HasNumbers goal b → BoundsFit goal b
bounds-fit Satisfy b e h = absurd (false≢true e)
bounds-fit (Minimize place second) b e h = both-second second b.second h.2
bounds-fit (Maximize place second) b e h = both-second second b.second h.2

pub numbers-fit : (goal : Goal) (b : Bounds) → HasNumbers goal b → FitsSigned w64 b.first × IfSome b.second (FitsSigned w64)
numbers-fit goal b h = (h.0, h.1)

count-bounds : (n : ℕ) → is_count n ≡ true → (0 < n) × (n < 2 ^ 63)
count-bounds n e = grind (arith)

-- The values.

pub declared_lines-nil : (ds : List Decl) → declared_lines ds [] ≡ []
declared_lines-nil [] = refl
declared_lines-nil (d ∷ ds) = refl

-- a name is left, so there is one whose turn it is
turn : (ds : List Decl) (values : List ℤ) → length values < length ds → (d : Decl) × (slice_get ds (length values) ≡ Some d)
turn [] [] h = absurd (omega (arith, h))
turn [] (z ∷ zs) h = absurd (omega (arith, h))
turn (d ∷ ds) [] h = (d, refl)
turn (d ∷ ds) (z ∷ zs) h = turn ds zs (omega (arith, h))

declared_lines-more : (ds : List Decl) (values : List ℤ) (d : Decl) (z : ℤ) → AreMembers ds values → slice_get ds (length values) ≡ Some d → declared_lines ds (values ++ z ∷ []) ≡ declared_lines ds values ++ declared_line d z ∷ []
declared_lines-more [] [] d z m e = absurd (none e)
  where
    none : None ≡ Some d → ⊥
    none e = cc
declared_lines-more [] (y ∷ ys) d z m e = absurd m
declared_lines-more (c ∷ ds) [] d z m e = ap (λ x. declared_line x z ∷ declared_lines ds []) (same e) ∙ ap (λ l. declared_line d z ∷ l) (declared_lines-nil ds)
  where
    same : Some c ≡ Some d → c ≡ d
    same e = cc
declared_lines-more (c ∷ ds) (y ∷ ys) d z m e = ap (λ l. declared_line c y ∷ l) (declared_lines-more ds ys d z m.1 e)

members-more : (ds : List Decl) (values : List ℤ) (d : Decl) (z : ℤ) → AreMembers ds values → slice_get ds (length values) ≡ Some d → IsTrue (is_member z (domain d.kind)) → AreMembers ds (values ++ z ∷ [])
members-more [] [] d z m e h = absurd (none e)
  where
    none : None ≡ Some d → ⊥
    none e = cc
members-more [] (y ∷ ys) d z m e h = absurd m
members-more (c ∷ ds) [] d z m e h = (subst (λ (x : Decl). IsTrue (is_member z (domain x.kind))) (same e) h, tt)
  where
    same : Some c ≡ Some d → d ≡ c
    same e = cc
members-more (c ∷ ds) (y ∷ ys) d z m e h = (m.0, members-more ds ys d z m.1 e h)

values-more : (values : List ℤ) (z : ℤ) → FitValues values → FitsSigned w64 z → FitValues (values ++ z ∷ [])
values-more [] z h k = (k, tt)
values-more (y ∷ ys) z h k = (h.0, values-more ys z h.1 k)

-- A value as it is told.

told-truth : (b : Bool) → IsTrue (is_member (if b then pos 1 else pos 0) (domain kind.Bool))
unfolding domain
told-truth true = refl
told-truth false = refl

truth-word : (b : Bool) → declared_word kind.Bool (if b then pos 1 else pos 0) ≡ told_word (Truth b)
truth-word true = refl
truth-word false = refl

some-same : (x z : ℤ) → Some x ≡ Some z → x ≡ z
some-same x z e = cc

none-some : (z : ℤ) → None ≡ Some z → ⊥
none-some z e = cc

member-told : (k : Kind) (y z : ℤ) → member_or_none k y ≡ Some z → IsTrue (is_member z (domain k)) × (y ≡ z)
member-told k y z e = by (is_member y (domain k)) refl e
  where
    by : (t : Bool) → is_member y (domain k) ≡ t → (if t then Some y else None) ≡ Some z → IsTrue (is_member z (domain k)) × (y ≡ z)
    by true is f = (subst (λ x. IsTrue (is_member x (domain k))) (some-same y z f) is, some-same y z f)
    by false is f = absurd (none-some z f)

-- what a value is told as is its word, and it is in the domain
told-value : (k : Kind) (t : Told) (z : ℤ) → told_number k t ≡ Some z → IsToldValue t → IsTrue (is_member z (domain k)) × (declared_word k z ≡ told_word t) × FitsSigned w64 z
told-value kind.Bool (Truth b) z e fits =
    let same = some-same (if b then pos 1 else pos 0) z e in
    (subst (λ x. IsTrue (is_member x (domain kind.Bool))) same (told-truth b), subst (λ x. declared_word kind.Bool x ≡ told_word (Truth b)) same (truth-word b), subst (FitsSigned w64) same (small b))
  where
    small : (b : Bool) → FitsSigned w64 (if b then pos 1 else pos 0)
    small true = record { sfits = lit< tt }
    small false = record { sfits = lit< tt }
told-value kind.Bool (Number y) z e fits = absurd (none-some z e)
told-value k (Truth b) z e fits = absurd (none-some z e)
told-value k (Number y) z e fits =
    let m = member-told k y z e in
    (m.0, ap signed_decimal (sym m.1), subst (FitsSigned w64) m.1 fits)

told-line : (o : Option Decl) (d : Decl) (t : Told) (z : ℤ) → o ≡ Some d → told_of o t ≡ Some z → IsToldValue t → IsTrue (is_member z (domain d.kind)) × (told_line o t ≡ declared_line d z) × FitsSigned w64 z
told-line None d t z o e fits = absurd (none o)
  where
    none : None ≡ Some d → ⊥
    none e = cc
told-line (Some c) d t z o e fits =
    let same = decl c d o in
    let told = told-value c.kind t z e fits in (
      subst (λ (x : Decl). IsTrue (is_member z (domain x.kind))) same told.0,
      ap (λ w. c.name ++ (codes " = " ++ w)) (sym told.1) ∙ ap (λ (x : Decl). declared_line x z) same,
      told.2,
    )
  where
    decl : (c d : Decl) → Some c ≡ Some d → c ≡ d
    decl c d e = cc

-- The first lines, one after another.

one-more : (ls ms : List (List ℕ)) (l m : List ℕ) → ls ≡ ms → l ≡ m → ls ++ l ∷ [] ≡ ms ++ m ∷ []
one-more ls ms l m e f = ap (λ x. x ++ l ∷ []) e ∙ ap (λ x. ms ++ x ∷ []) f

fresh-kept : (model : Model) (s : Standing) (p : Part) (v : Verdict) (values : List ℤ) → IsFresh model s → IsFresh model (record s { part = p; verdict = v; values = values })
fresh-kept model s p v values h = record { kernel = h.kernel; entries = h.entries; first = h.first; second = h.second }

module _ (model : Model) (s : Standing) (lines : List (List ℕ)) (line : List ℕ) where
  abbrev all : List (List ℕ)
  all = lines ++ line ∷ []

  pub version-read : AtStart model lines s → (two : Bool) → line ≡ (if two then codes "bee 2" else codes "bee 1") → beq two (has_second model.goal) ≡ true
      → AtVerdict model all (record s { part = part.Verdict })
  version-read at two is same = record {
    fresh = fresh-kept model s part.Verdict s.verdict s.values at.fresh;
    values = at.values;
    read = one-more lines [] line (version_line model.goal) at.read (is ∙ ap (λ b. if b then codes "bee 2" else codes "bee 1") (same-bools two (has_second model.goal) same));
  }

  no-values : (values : List ℤ) → values ≡ [] → declared_lines model.decls values ≡ []
  no-values values e = ap (declared_lines model.decls) e ∙ declared_lines-nil model.decls

  -- the lines up to a verdict, where no value was read and none stands before
  verdict-lines : AtVerdict model lines s → (v : Verdict) → line ≡ verdict_text v → best_lines v ≡ [] → all ≡ head_lines model v s.values
  verdict-lines at v is none =
      one-more lines (version_line model.goal ∷ []) line (verdict_text v) at.read is
      ∙ ap (λ l. version_line model.goal ∷ verdict_text v ∷ l) (sym (ap (λ l. l ++ declared_lines model.decls s.values) none ∙ no-values s.values at.values))

  no-members : (values : List ℤ) → values ≡ [] → AreMembers model.decls values × FitValues values
  no-members values e = subst (λ vs. AreMembers model.decls vs × FitValues vs) (sym e) (tt, tt)

  values-begin : AtVerdict model lines s → (v : Verdict) → line ≡ verdict_text v → best_lines v ≡ [] → HasAnswer v → VerdictFits model.goal v → FitNumbers (stated v)
      → AtValues model all (record s { part = part.Values; verdict = v })
  values-begin at v is none answer fits numbers = record {
    fresh = fresh-kept model s part.Values v s.values at.fresh;
    answer = answer;
    fitting = record { fits = fits; numbers = numbers };
    members = (no-members s.values at.values).0;
    values = (no-members s.values at.values).1;
    read = verdict-lines at v is none;
  }

  pub verdict-read : AtVerdict model lines s → (v : Verdict) → IsVerdictLine (has_second model.goal) v → line ≡ verdict_text v → verdict_fits model.goal v ≡ true
      → KnownIn (behind_verdict v) model all (record s { part = behind_verdict v; verdict = v })
  verdict-read at Satisfiable form is fits = values-begin at Satisfiable is refl tt (no-objective model.goal fits) tt
  verdict-read at Unsatisfiable form is fits = record {
    fresh = fresh-kept model s part.Unanswered Unsatisfiable s.values at.fresh;
    values = at.values;
    verdict = refl;
    read = verdict-lines at Unsatisfiable is refl;
  }
  verdict-read at (Optimum b) form is fits = values-begin at (Optimum b) is refl tt (bounds-fit model.goal b fits form) (numbers-fit model.goal b form)
  verdict-read at (Unknown n None) form is fits =
      let c = count-bounds n fits in
      record {
        fresh = fresh-kept model s part.Best (Unknown n None) s.values at.fresh;
        values = at.values;
        count = n;
        verdict = refl;
        fitting = record { fits = (omega (arith, c.0), c.1, tt); numbers = tt };
        read = verdict-lines at (Unknown n None) is refl;
      }
  verdict-read at (Unknown n (Some b)) form is fits = absurd (none form.1)
    where
      none : Some b ≡ None → ⊥
      none e = cc

  pub best-read : AtBest model lines s → (b : Bounds) → HasNumbers model.goal b → line ≡ best_line b → has_objective model.goal ≡ true
      → AtValues model all (record s { part = part.Values; verdict = with_best s.verdict b })
  best-read at b form is sought =
      let told : with_best s.verdict b ≡ Unknown at.count (Some b) = ap (λ v. with_best v b) at.verdict in
      let fits = subst (VerdictFits model.goal) at.verdict at.fitting.fits in
      record {
        fresh = fresh-kept model s part.Values (with_best s.verdict b) s.values at.fresh;
        answer = subst HasAnswer (sym told) tt;
        fitting = record {
          fits = subst (VerdictFits model.goal) (sym told) (fits.0, fits.1, bounds-fit model.goal b sought form);
          numbers = subst (λ v. FitNumbers (stated v)) (sym told) (numbers-fit model.goal b form);
        };
        members = (no-members s.values at.values).0;
        values = (no-members s.values at.values).1;
        read = one-more lines (version_line model.goal ∷ verdict_text (Unknown at.count None) ∷ []) line (best_line b) (before at) is
            ∙ ap (λ l. version_line model.goal ∷ verdict_text (Unknown at.count (Some b)) ∷ best_line b ∷ l) (sym (no-values s.values at.values))
            ∙ ap (λ v. head_lines model v s.values) (sym told);
      }
    where
      before : (at : AtBest model lines s) → lines ≡ version_line model.goal ∷ verdict_text (Unknown at.count None) ∷ []
      before at = at.read ∙ ap (λ v. head_lines model v s.values) at.verdict ∙ ap (λ l. version_line model.goal ∷ verdict_text (Unknown at.count None) ∷ l) (no-values s.values at.values)

  head-more : (v : Verdict) (values : List ℤ) (l : List ℕ) (vs : List ℤ) → declared_lines model.decls vs ≡ declared_lines model.decls values ++ l ∷ [] → head_lines model v values ++ l ∷ [] ≡ head_lines model v vs
  head-more v values l vs e =
      ap (λ x. version_line model.goal ∷ verdict_text v ∷ x) (append_assoc (best_lines v) (declared_lines model.decls values) (l ∷ []) ∙ ap (λ x. best_lines v ++ x) (sym e))

  pub value-read : AtValues model lines s → (t : Told) (z : ℤ) → IsNameLeft model s.values → IsToldValue t → line ≡ told_line (slice_get model.decls (length s.values)) t
      → told_of (slice_get model.decls (length s.values)) t ≡ Some z → AtValues model all (record s { values = s.values ++ z ∷ [] })
  value-read at t z left form is told =
      let next = turn model.decls s.values left in
      let value = told-line (slice_get model.decls (length s.values)) next.0 t z next.1 told form in
      record {
        fresh = fresh-kept model s s.part s.verdict (s.values ++ z ∷ []) at.fresh;
        answer = at.answer;
        fitting = record { fits = at.fitting.fits; numbers = at.fitting.numbers };
        members = members-more model.decls s.values next.0 z at.members next.1 value.0;
        values = values-more s.values z at.values value.2;
        read = one-more lines (head_lines model s.verdict s.values) line (declared_line next.0 z) at.read (is ∙ value.1)
            ∙ head-more s.verdict s.values (declared_line next.0 z) (s.values ++ z ∷ []) (declared_lines-more model.decls s.values next.0 z at.members next.1);
      }
