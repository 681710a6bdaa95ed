-- The lines of a text, as they are taken.
use Rattle.std.proofs.Common.{◌≡◌, ℕ, ◌+◌, ◌≤◌, Bool, true, false, not, ◌&&◌, ◌==◌, List, [], ◌∷◌, ◌++◌, length, refl, sym, ap, subst, ◌∙◌, arith, length-append, cond}
use Rattle.std.specs.Prelude.{Result, Ok, Err}
use Rattle.bee_text.specs.Lines.{lacks, IsLine, lines_of, unfinished, Progress}
use Rattle.bee_text.proofs.LineLemmas.{lines_of-cut, lines_of-rest, unfinished-join_lines}
use Rattle.opb_front.specs.declared.fault.Misfit.{Misfit}
use Rattle.opb_front.specs.Words.{text_lines}
use Rattle.opb_front.specs.Tokens.{line_tokens}
use Rattle.opb_front.specs.Steps.{Draft, run, lines_behind, run_lines}

both-false : (a b : Bool) → b ≡ false → (a && b) ≡ false
both-false true b e = e
both-false false b e = refl

-- a text with a line feed doesn't lack it
has-feed : (x rest : List ℕ) → lacks 10 (x ++ 10 ∷ rest) ≡ false
has-feed [] rest = refl
has-feed (b ∷ x) rest = both-false (not (b == 10)) (lacks 10 (x ++ 10 ∷ rest)) (has-feed x rest)

unfinished-feed : (x rest : List ℕ) → unfinished (x ++ 10 ∷ rest) ≡ unfinished rest
unfinished-feed [] rest = refl
unfinished-feed (b ∷ x) rest = let e = has-feed (b ∷ x) rest in rw e (unfinished-feed x rest)

lines-cut : (line rest : List ℕ) → IsLine line → text_lines (line ++ 10 ∷ rest) ≡ line ∷ text_lines rest
lines-cut line rest is = λ i. lines_of-cut line rest is i ++ unfinished-feed line rest i ∷ []

lines-last : (rest : List ℕ) → IsLine rest → text_lines rest ≡ rest ∷ []
lines-last rest is = λ i. lines_of-rest rest is i ++ unfinished-join_lines [] rest is i ∷ []

-- so many lines are taken, and what is left leads where the whole leads
pub record LinesTo (s : Draft) (text : List ℕ) (rest : List ℕ) (read : ℕ) (u : Draft) : Type 0 where
  pub run_is : run_lines (read + 1) u (text_lines rest) ≡ run_lines 1 s (text_lines text)
  pub count : read + length (text_lines rest) ≡ length (text_lines text)
  pub most : read + length rest ≤ length text

pub lines_start : (s : Draft) (text rest : List ℕ) → rest ≡ text → LinesTo s text rest 0 s
lines_start s text rest e = record {
  run_is = ap (λ t. run_lines 1 s (text_lines t)) e;
  count = omega (arith, ap (λ t. length (text_lines t)) e);
  most = omega (arith, ap length e);
}

module _ (s : Draft) (text rest : List ℕ) (read : ℕ) (u : Draft) (h : LinesTo s text rest read u) where
  pub lines_next : (line behind : List ℕ) (number : ℕ) (v : Draft) → IsLine line → rest ≡ line ++ 10 ∷ behind → number ≡ read + 1 → run u (line_tokens line) ≡ Ok v → LinesTo s text behind number v
  lines_next line behind number v is cut n e =
      let lines : text_lines rest ≡ line ∷ text_lines behind = ap text_lines cut ∙ lines-cut line behind is in
      record {
        run_is = ap (λ k. run_lines (k + 1) v (text_lines behind)) n ∙ sym (ap (λ r. lines_behind r (read + 1) (λ w. run_lines (read + 1 + 1) w (text_lines behind))) e)
            ∙ ap (run_lines (read + 1) u) (sym lines) ∙ h.run_is;
        count = omega (arith, n, h.count, ap length lines);
        most = omega (arith, n, h.most, ap length cut, length-append line (10 ∷ behind));
      }

  pub lines_fail : (line behind : List ℕ) (number : ℕ) (m : Misfit) → IsLine line → rest ≡ line ++ 10 ∷ behind → number ≡ read + 1 → run u (line_tokens line) ≡ Err m
      → run_lines 1 s (text_lines text) ≡ Err (m, number)
  lines_fail line behind number m is cut n e =
      let lines : text_lines rest ≡ line ∷ text_lines behind = ap text_lines cut ∙ lines-cut line behind is in
      sym h.run_is ∙ ap (run_lines (read + 1) u) lines ∙ ap (λ r. lines_behind r (read + 1) (λ w. run_lines (read + 1 + 1) w (text_lines behind))) e
      ∙ ap (λ (k : ℕ). Err (m, k)) (sym n)

  pub last_next : (number : ℕ) (v : Draft) → IsLine rest → number ≡ read + 1 → run u (line_tokens rest) ≡ Ok v
      → (run_lines 1 s (text_lines text) ≡ Ok v) × (number ≡ length (text_lines text))
  last_next number v is n e =
      let lines = lines-last rest is in (
        sym h.run_is ∙ ap (run_lines (read + 1) u) lines ∙ ap (λ r. lines_behind r (read + 1) (λ w. run_lines (read + 1 + 1) w [])) e,
        omega (arith, n, h.count, ap length lines),
      )

  pub last_fails : (number : ℕ) (m : Misfit) → IsLine rest → number ≡ read + 1 → run u (line_tokens rest) ≡ Err m → run_lines 1 s (text_lines text) ≡ Err (m, number)
  last_fails number m is n e =
      let lines = lines-last rest is in
      sym h.run_is ∙ ap (run_lines (read + 1) u) lines ∙ ap (λ r. lines_behind r (read + 1) (λ w. run_lines (read + 1 + 1) w [])) e
      ∙ ap (λ (k : ℕ). Err (m, k)) (sym n)
