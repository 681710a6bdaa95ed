use Rattle.std.proofs.Common.{◌≡◌, ◌+◌, ◌∙◌, [], ◌∷◌, ◌++◌, ap}
use Rattle.literal_trail.specs.Trail.{cut_back, implied}
use Rattle.clause_rings.specs.Clauses.{ClauseLists}
use Rattle.proof_check.specs.declared.line.ProofLine.TheVariants.{Add}
use Rattle.learning_solver.specs.declared.search.Search.{Search}
use Rattle.learning_solver.proofs.TurnLaws.{may-come-then, free-then, unit-then, falls-then, assumed-then, first-of, has-first}
use Rattle.learning_solver.proofs.search.Search.turn_back.Goals as goal

pub take-clause-requires-clause-may_come : goal.take-clause-requires-clause-may_come
take-clause-requires-clause-may_come c =
    let s = c.args.self.now in
    let te = c.requires.teaches in
    may-come-then s.db.trail c.requires.search.db.trail te.first te.others s.walker.jump te.kept c.jump_back.new.self.db.trail
    (c.jump_back.ensures.jumped.trail ∙ ap (cut_back s.db.trail) c.jump-jump.ensures) c.args.lesson.lits te.shape

pub assign-requires-clause-lit : goal.assign-requires-clause-lit
assign-requires-clause-lit c =
    let te = c.requires.teaches in
    let first = first-of c.args.lesson.lits te.first te.others c.first-first.result c.first-first.ensures te.shape in
    let takes = c.take-clause.ensures.takes in
    c.take-clause.ensures.search.db.in_range c.take-clause.result takes.live c.first-first.result
    (has-first _ te.first te.others c.first-first.result first (takes.lits ∙ te.shape))

pub assign-requires-clause-free : goal.assign-requires-clause-free
assign-requires-clause-free c =
    let s = c.args.self.now in
    let te = c.requires.teaches in
    let first = first-of c.args.lesson.lits te.first te.others c.first-first.result c.first-first.ensures te.shape in
    let back = c.take-clause.ensures.takes.trail ∙ c.jump_back.ensures.jumped.trail ∙ ap (cut_back s.db.trail) c.jump-jump.ensures in
    free-then s.db.trail c.requires.search.db.trail te.first te.others s.walker.jump te.kept c.take-clause.new.self.db.trail back c.args.lesson.lits te.shape c.first-first.result first

pub assign-requires-clause-reason : goal.assign-requires-clause-reason
assign-requires-clause-reason c =
    let s = c.args.self.now in
    let te = c.requires.teaches in
    let first = first-of c.args.lesson.lits te.first te.others c.first-first.result c.first-first.ensures te.shape in
    let takes = c.take-clause.ensures.takes in
    let back = takes.trail ∙ c.jump_back.ensures.jumped.trail ∙ ap (cut_back s.db.trail) c.jump-jump.ensures in
    (takes.live, unit-then s.db.trail c.requires.search.db.trail te.first te.others s.walker.jump te.kept c.take-clause.new.self.db.trail back _ (takes.lits ∙ te.shape) c.first-first.result first)

pub returns-clause-turned : goal.returns-clause-turned
returns-clause-turned c =
    let s = c.args.self.now in
    let te = c.requires.teaches in
    let lesson = c.args.lesson in
    let first = first-of lesson.lits te.first te.others c.first-first.result c.first-first.ensures te.shape in
    let takes = c.take-clause.ensures.takes in
    let same = c.jump_back.ensures.jumped.same in
    let back = takes.trail ∙ c.jump_back.ensures.jumped.trail ∙ ap (cut_back s.db.trail) c.jump-jump.ensures in
    let now : c.assign.new.self.trail ≡ implied c.take-clause.new.self.db.trail c.first-first.result c.take-clause.result = ap (λ (d : ClauseLists). d.trail) c.assign.ensures.trail in
    record {
      cnf = takes.cnf ∙ ap (λ (x : Search). x.cnf) same;
      lines = takes.lines ∙ ap (λ (x : Search). x.lines.items ++ Add lesson.id lesson.lits lesson.hints ∷ []) same;
      added = takes.added ∙ ap (λ (x : Search). x.added + 1) same;
      falls = falls-then s.db.trail c.requires.search.db.trail te.first te.others s.walker.jump te.kept c.take-clause.new.self.db.trail back lesson.lits te.shape c.first-first.result c.take-clause.result c.assign.new.self.trail first now;
      assumed = assumed-then s.db.trail c.requires.search.db.trail te.first te.others s.walker.jump te.kept c.take-clause.new.self.db.trail back lesson.lits te.shape c.first-first.result c.take-clause.result c.assign.new.self.trail first now;
    }
