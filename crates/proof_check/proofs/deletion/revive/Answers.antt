use Rattle.std.proofs.Common.{◌≡◌, ℕ, ◌+◌, ◌-◌, take, arith, ap, ◌∙◌}
use Rattle.proof_check.specs.Checking.{kill_all}
use Rattle.proof_check.proofs.Killed.{revived}
use Rattle.proof_check.proofs.deletion.revive.Goals as goal

pub loop-i-preserved : goal.loop-i-preserved
loop-i-preserved c ks all was =
    let before : c.loop-i.i - 1 + 1 ≡ c.loop-i.i = omega arith in
    revived c.args.ids.now (c.loop-i.i - 1) 0 ks c.loop-i.arena c.set_life.new.self (omega arith) all
    (c.loop-i.invariant ks all was ∙ ap (λ (n : ℕ). kill_all (take n c.args.ids.now) ks) (let back : c.loop-i.i ≡ c.loop-i.i - 1 + 1 = omega arith in back)) c.set_life.ensures
