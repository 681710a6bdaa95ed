use Rattle.std.proofs.Common.{◌≡◌, List, ◌+◌, false, get_or, drop, sym, ap, ◌∙◌, subst}
use Rattle.std.proofs.lemmas.Bool.{cond-true}
use Rattle.proof_check.specs.Faults.{deletion_fault}
use Rattle.proof_check.specs.Arena.{Kept, live_in, life_to, IsLiveAt}
use Rattle.proof_check.proofs.Killed.{kill-more, killable-more, fault-here}
use Rattle.proof_check.proofs.deletion.delete.Goals as goal

pub loop-i-preserved : goal.loop-i-preserved
loop-i-preserved c =
    let ids = c.args.ids.now in
    let i = c.loop-i.i in
    let lives = c.if-not-kill.false in
    let killed : c.kill.new.self ≡ life_to false (get_or ids i 0) c.loop-i.arena = c.kill.ensures.killed lives in
    let P : List Kept → Type 0 = λ ks. IsLiveAt (get_or ids i 0) ks in
    record {
      killed = killed ∙ ap (life_to false (get_or ids i 0)) c.loop-i.invariant.killed ∙ sym (kill-more ids i 0 c.args.arena.now c.loop-i-test.true);
      lived = killable-more ids i 0 c.args.arena.now c.loop-i-test.true c.loop-i.invariant.lived (subst P c.loop-i.invariant.killed (c.kill.ensures.was lives));
      left =
          ap (λ (ks : List Kept). deletion_fault (live_in ks) (drop (i + 1) ids)) killed
          ∙ sym (cond-true _ _ _ (sym c.kill.ensures.live ∙ lives))
          ∙ sym (fault-here ids i 0 c.loop-i.arena c.loop-i-test.true)
          ∙ c.loop-i.invariant.left;
    }
