use Rattle.std.proofs.Common.{◌∷◌, codes, sym, ap, drop, ◌∙◌}
use Rattle.bee_text.specs.Words.{join_words}
use Rattle.dimacs_read.proofs.Pieces.{numbers_pieces}
use Rattle.dimacs_read.proofs.lines.read_numbers.Goals as goal

pub returns-in-Some : goal.returns-in-Some
returns-in-Some c =
    let first = c.is.ensures.same.0 c.if-is.true in
    let second = c.is-then-is.ensures.same.0 c.if-is-2.true in
    let cut = c.in_ok-next_word.ensures.piece ∙ (λ i. first i ∷ c.in_ok-next_word-2.ensures.piece i) ∙ ap (λ w. codes "p" ∷ w ∷ c.next_word-then-is.new.self) second in
    record {
      spelled = sym c.split_words-words.ensures.joined ∙ ap join_words (cut ∙ ap (λ r. codes "p" ∷ codes "cnf" ∷ r) c.in-Some.ensures.0);
      vars_fit = c.in-Some.ensures.1;
      count_fits = c.in-Some.ensures.2;
    }

pub returns-in-None : goal.returns-in-None
returns-in-None c = λ vars count h.
    let cut = c.in_ok-next_word.ensures.piece ∙ ap (λ r. c.in_ok-next_word.field-0.now ∷ r) c.in_ok-next_word-2.ensures.piece in
    c.in-None.ensures vars count h.vars_fit h.count_fits (ap (drop 2) (sym cut ∙ c.split_words-words.ensures.pieces ∙ numbers_pieces c.args.line.now vars count h))
