use Rattle.std.proofs.Common.{◌≡◌, ◌+◌, List, ℕ, refl, sym, ap, subst, ◌∙◌}
use Rattle.std.specs.Prelude.{Ok, Err}
use Rattle.bee_text.specs.Lines.{Progress}
use Rattle.opb_front.specs.Tokens.{line_tokens}
use Rattle.opb_front.specs.Steps.{run}
use Rattle.opb_front.proofs.Taken.{lines_next, last_next, last_fails}
use Rattle.opb_front.proofs.reading.take_lines.Goals as goal

pub loop-line-preserved : goal.loop-line-preserved
loop-line-preserved c =
    let e = c.in-Some.ensures in
    record {
      read = e.read ∙ sym e.number;
      taken = lines_next c.args.draft.now c.args.text.now c.loop-line.lines.rest c.loop-line.read c.loop-line.draft c.loop-line.invariant.taken c.in-Some.line.bytes.now c.next_line.new.self.rest
          c.in-Some.line.number c.take_line.new.self e.line e.rest (e.number ∙ ap (λ (n : ℕ). n + 1) c.loop-line.invariant.read) (rw c.in_default-2.is at c.in_ok-misfit.ensures);
    }

pub returns-in-Some-3 : goal.returns-in-Some-3
returns-in-Some-3 c =
    let none = c.in_default.ensures.none in
    let rest_is : c.rest.result.now ≡ c.loop-line.lines.rest = c.rest.ensures ∙ ap (λ (p : Progress). p.rest) none.1 in
    let fails = rw c.in-Some-3.is at c.in_ok-misfit-2.ensures in
    last_fails c.args.draft.now c.args.text.now c.loop-line.lines.rest c.loop-line.read c.loop-line.draft c.loop-line.invariant.taken (c.loop-line.read + 1) c.in-Some-3.misfit none.0 refl
    (subst (λ (t : List ℕ). run c.loop-line.draft (line_tokens t) ≡ Err c.in-Some-3.misfit) rest_is fails)

pub returns-in-None : goal.returns-in-None
returns-in-None c =
    let none = c.in_default.ensures.none in
    let rest_is : c.rest.result.now ≡ c.loop-line.lines.rest = c.rest.ensures ∙ ap (λ (p : Progress). p.rest) none.1 in
    let takes = rw c.in-None.is at c.in_ok-misfit-2.ensures in
    last_next c.args.draft.now c.args.text.now c.loop-line.lines.rest c.loop-line.read c.loop-line.draft c.loop-line.invariant.taken (c.loop-line.read + 1) c.take_line-2.new.self none.0 refl
    (subst (λ (t : List ℕ). run c.loop-line.draft (line_tokens t) ≡ Ok c.take_line-2.new.self) rest_is takes)
