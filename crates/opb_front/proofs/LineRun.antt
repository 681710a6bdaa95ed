-- The words of a line, as they are taken.
use Rattle.std.proofs.Common.{◌≡◌, ℕ, Bool, true, false, List, [], ◌∷◌, map, refl, sym, ap, ◌∙◌}
use Rattle.std.specs.Prelude.{Result, Ok, Err}
use Rattle.opb_front.specs.declared.fault.Misfit.{Misfit}
use Rattle.opb_front.specs.Words.{line_words}
use Rattle.opb_front.specs.Tokens.{token_of, is_comment, line_tokens}
use Rattle.opb_front.specs.Steps.{Draft, move, run_behind, run}

pub comment_run : (s : Draft) (line : List ℕ) → is_comment line ≡ true → run s (line_tokens line) ≡ Ok s
comment_run s line e = rw e

pub plain_run : (s : Draft) (line : List ℕ) → is_comment line ≡ false → run s (map token_of (line_words line)) ≡ run s (line_tokens line)
plain_run s line e = rw e

module _ (s : Draft) (rest : List ℕ) (all : Result Draft Misfit) (h : run s (map token_of (line_words rest)) ≡ all) where
  pub word_next : (word behind : List ℕ) (u : Draft) → line_words rest ≡ word ∷ line_words behind → move s (token_of word) ≡ Ok u → run u (map token_of (line_words behind)) ≡ all
  word_next word behind u cut e =
      sym (ap (λ r. run_behind r (λ v. run v (map token_of (line_words behind)))) e) ∙ ap (λ ws. run s (map token_of ws)) (sym cut) ∙ h

  pub word_fails : (word behind : List ℕ) (m : Misfit) → line_words rest ≡ word ∷ line_words behind → move s (token_of word) ≡ Err m → all ≡ Err m
  word_fails word behind m cut e =
      sym h ∙ ap (λ ws. run s (map token_of ws)) cut ∙ ap (λ r. run_behind r (λ v. run v (map token_of (line_words behind)))) e

  pub no_word : line_words rest ≡ [] → all ≡ Ok s
  no_word none = sym h ∙ ap (λ ws. run s (map token_of ws)) none

-- how a line goes on
pub ruleset line_runs = (comment_run, plain_run, word_next, word_fails, no_word)
