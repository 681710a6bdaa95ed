use Rattle.std.proofs.Common.{◌∙◌, ◌≤◌, ℕ, sym, ap, subst}
use Rattle.learning_solver.specs.declared.restarts.Restarts.{Restarts}
use Rattle.learning_solver.specs.declared.search.Search.{Search}
use Rattle.learning_solver.specs.Searching.{IsRunning}
use Rattle.learning_solver.proofs.MoveLaws.{running-started}
use Rattle.learning_solver.proofs.RunLaws.{goes-on-same}
use Rattle.learning_solver.proofs.search.Search.run.Goals as goal

pub loop-found-init : goal.loop-found-init
loop-found-init g c =
    let old = c.args.self.now in
    let s = c.jump_back.new.self in
    let alike = c.jump_back.ensures.jumped.same in
    let added = ap (λ (x : Search). x.added) alike in
    let P : Restarts → Type 0 = λ p. IsRunning c.args.task p s in
    let within = subst (λ (n : ℕ). n ≤ c.args.task.budget) (sym added) c.requires.budget in
    record {
      running = subst P (sym c.new-restarts.ensures) (running-started c.args.task c.args.restart old s c.jump_back.ensures.jumped c.jump_back.ensures.search within);
      forward = record { cnf = ap (λ (x : Search). x.cnf) alike; log = goes-on-same old.lines.items s.lines.items (ap (λ (x : Search). x.lines.items) alike) };
      start = ap (λ (p : Restarts). p.start) c.new-restarts.ensures ∙ added;
      restart = ap (λ (p : Restarts). p.restart) c.new-restarts.ensures;
    }
