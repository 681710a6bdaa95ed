-- What comes of lines, and of all their tokens.
use Rattle.std.proofs.Common.{◌≡◌, ℕ, ◌+◌, Bool, true, false, List, [], ◌∷◌, ◌++◌, length, refl, sym, ap, subst, ◌∙◌, append_assoc, arith}
use Rattle.std.specs.Prelude.{Result, Ok, Err}
use Rattle.opb_front.specs.declared.tokens.Token.{Token}
use Rattle.opb_front.specs.declared.fault.Misfit.{Misfit}
use Rattle.opb_front.specs.Words.{text_lines}
use Rattle.opb_front.specs.Tokens.{line_tokens, lines_tokens}
use Rattle.opb_front.specs.Steps.{Draft, nothing_read, move, run_behind, run, lines_behind, run_lines}
use Rattle.opb_front.specs.Faults.{IsAtFault, FirstAt}
use Rattle.opb_front.proofs.Begun.{err_ok, ok_same, err_same, Cut, run_cut, run-append}
use Rattle.opb_front.proofs.Faulty.{fault_of, fault_back, Stop, first_stop, run_taken, taken_run}

abbrev Lines : Type 0
Lines = Result Draft (Misfit × ℕ)

line-ok : (m : Misfit × ℕ) (u : Draft) → (let r : Lines = Err m in r ≡ Ok u) → ⊥
line-ok m u e = cc

line-same : (u v : Draft) → (let r : Lines = Ok u in r ≡ Ok v) → u ≡ v
line-same u v e = cc

pub stop_same : (m n : Misfit × ℕ) → (let r : Lines = Err m in r ≡ Err n) → m ≡ n
stop_same m n e = cc

run-line : (s : Draft) (line : List ℕ) (lines : List (List ℕ)) (u : Draft) → run s (line_tokens line) ≡ Ok u → run s (lines_tokens (line ∷ lines)) ≡ run u (lines_tokens lines)
run-line s line lines u e = run-append s (line_tokens line) (lines_tokens lines) ∙ ap (λ r. run_behind r (λ v. run v (lines_tokens lines))) e

-- lines that are taken

pub taken_lines : (n : ℕ) (s : Draft) (lines : List (List ℕ)) (u : Draft) → run_lines n s lines ≡ Ok u → run s (lines_tokens lines) ≡ Ok u
taken_lines n s [] u e = ap Ok (line-same s u e)
taken_lines n s (line ∷ lines) u e = by (λ v f. taken_lines (n + 1) v lines u f) (run s (line_tokens line)) refl e
  where
    by : ((v : Draft) → run_lines (n + 1) v lines ≡ Ok u → run v (lines_tokens lines) ≡ Ok u) → (r : Result Draft Misfit) → run s (line_tokens line) ≡ r → lines_behind r n (λ v. run_lines (n + 1) v lines) ≡ Ok u → run s (lines_tokens (line ∷ lines)) ≡ Ok u
    by rest (Ok v) is e = run-line s line lines v is ∙ rest v e
    by rest (Err m) is e = absurd (line-ok (m, n) u e)

pub lines_taken : (n : ℕ) (s : Draft) (lines : List (List ℕ)) (u : Draft) → run s (lines_tokens lines) ≡ Ok u → run_lines n s lines ≡ Ok u
lines_taken n s [] u e = ap Ok (ok_same s u e)
lines_taken n s (line ∷ lines) u e =
    let cut = run_cut (run s (line_tokens line)) (λ v. run v (lines_tokens lines)) u (sym (run-append s (line_tokens line) (lines_tokens lines)) ∙ e) in
    ap (λ r. lines_behind r n (λ v. run_lines (n + 1) v lines)) cut.before ∙ lines_taken (n + 1) cut.between lines u cut.behind

-- the first line that isn't

pub record StopLine (n : ℕ) (s : Draft) (lines : List (List ℕ)) (m : Misfit) (k : ℕ) : Type 0 where
  pub before : List (List ℕ)
  pub line : List ℕ
  pub left : List (List ℕ)
  pub stands : Draft
  pub parts : lines ≡ before ++ line ∷ left
  pub number_is : k ≡ length before + n
  pub taken : run s (lines_tokens before) ≡ Ok stands
  pub stop : run stands (line_tokens line) ≡ Err m

pub lines_stop : (n : ℕ) (s : Draft) (lines : List (List ℕ)) (m : Misfit) (k : ℕ) → run_lines n s lines ≡ Err (m, k) → StopLine n s lines m k
lines_stop n s [] m k e = absurd (line-ok (m, k) s (sym e))
lines_stop n s (line ∷ lines) m k e = by (λ v f. lines_stop (n + 1) v lines m k f) (run s (line_tokens line)) refl e
  where
    by : ((v : Draft) → run_lines (n + 1) v lines ≡ Err (m, k) → StopLine (n + 1) v lines m k) → (r : Result Draft Misfit) → run s (line_tokens line) ≡ r → lines_behind r n (λ v. run_lines (n + 1) v lines) ≡ Err (m, k) → StopLine n s (line ∷ lines) m k
    by rest (Ok v) is e =
        let h = rest v e in
        record {
          before = line ∷ h.before;
          line = h.line;
          left = h.left;
          stands = h.stands;
          parts = ap (λ ls. line ∷ ls) h.parts;
          number_is = omega (arith, h.number_is);
          taken = run-line s line h.before v is ∙ h.taken;
          stop = h.stop;
        }
    by rest (Err j) is e =
        let same : ◌≡◌ {A = Misfit × ℕ} (j, n) (m, k) = stop_same (j, n) (m, k) e in
        let number : n ≡ k = ap (λ (p : Misfit × ℕ). p.1) same in
        record {
          before = [];
          line = line;
          left = lines;
          stands = s;
          parts = refl;
          number_is = omega arith;
          taken = refl;
          stop = is ∙ ap (λ p. Err p.0) same;
        }

pub stop_lines : (n : ℕ) (s : Draft) (before : List (List ℕ)) (line : List ℕ) (left : List (List ℕ)) (v : Draft) (m : Misfit) → run s (lines_tokens before) ≡ Ok v
    → run v (line_tokens line) ≡ Err m → run_lines n s (before ++ line ∷ left) ≡ Err (m, length before + n)
stop_lines n s [] line left v m e f =
    let here : run s (line_tokens line) ≡ Err m = ap (λ u. run u (line_tokens line)) (ok_same s v e) ∙ f in
    let k : n ≡ 0 + n = omega arith in
    ap (λ r. lines_behind r n (λ u. run_lines (n + 1) u left)) here ∙ ap (λ (j : ℕ). Err (m, j)) k
stop_lines n s (l ∷ before) line left v m e f =
    let cut = run_cut (run s (line_tokens l)) (λ u. run u (lines_tokens before)) v (sym (run-append s (line_tokens l) (lines_tokens before)) ∙ e) in
    let k : length before + (n + 1) ≡ length (l ∷ before) + n = omega arith in
    ap (λ r. lines_behind r n (λ u. run_lines (n + 1) u (before ++ line ∷ left))) cut.before
    ∙ stop_lines (n + 1) cut.between before line left v m cut.behind f ∙ ap (λ (j : ℕ). Err (m, j)) k

-- the first token at fault

pub first_of_run : (text : List ℕ) (m : Misfit) (k : ℕ) → run_lines 1 nothing_read (text_lines text) ≡ Err (m, k) → FirstAt text m k
first_of_run text m k e =
    let h = lines_stop 1 nothing_read (text_lines text) m k e in
    let t = first_stop h.stands (line_tokens h.line) m h.stop in
    let taken : run nothing_read (lines_tokens h.before ++ t.before) ≡ Ok t.stands =
    run-append nothing_read (lines_tokens h.before) t.before ∙ ap (λ r. run_behind r (λ v. run v t.before)) h.taken ∙ t.taken in
    record {
      before = h.before;
      line = h.line;
      left = h.left;
      lines = h.parts;
      number_is = h.number_is;
      front = t.before;
      token = t.token;
      behind = t.behind;
      tokens = t.parts;
      fine = taken_run (lines_tokens h.before ++ t.before) t.stands taken;
      fault = fault_of (lines_tokens h.before ++ t.before) t.stands taken t.token m t.stop;
    }

pub run_of_first : (text : List ℕ) (m : Misfit) (k : ℕ) → FirstAt text m k → run_lines 1 nothing_read (text_lines text) ≡ Err (m, k)
run_of_first text m k h =
    let taken = run_taken (lines_tokens h.before ++ h.front) h.fine in
    let stop : move taken.0 h.token ≡ Err m = fault_back (lines_tokens h.before ++ h.front) taken.0 taken.1 h.token m h.fault in
    let cut = run_cut (run nothing_read (lines_tokens h.before)) (λ v. run v h.front) taken.0 (sym (run-append nothing_read (lines_tokens h.before) h.front) ∙ taken.1) in
    let line : run cut.between (line_tokens h.line) ≡ Err m =
    ap (run cut.between) h.tokens ∙ run-append cut.between h.front (h.token ∷ h.behind) ∙ ap (λ r. run_behind r (λ v. run v (h.token ∷ h.behind))) cut.behind
    ∙ ap (λ r. run_behind r (λ v. run v h.behind)) stop in
    ap (run_lines 1 nothing_read) h.lines ∙ stop_lines 1 nothing_read h.before h.line h.left cut.between m cut.before line
    ∙ ap (λ (j : ℕ). Err (m, j)) (sym h.number_is)
