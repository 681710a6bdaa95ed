use Rattle.std.proofs.Common.{◌<◌, ◌≤◌, ◌^◌, List, length, sym, ◌∙◌, subst, arith}
use Rattle.std.proofs.lemmas.Bool.{true≢false}
use Rattle.model_meaning.specs.declared.model.Stmt.{Stmt}
use Rattle.conflict_check.proofs.Walks.{few-marks}
use Rattle.conflict_check.proofs.Heading.{name-refused, name-unmarked, name-marked}
use Rattle.conflict_check.proofs.head.Head.name.Goals as goal

pub mark-requires : goal.mark-requires
mark-requires c =
    let h = c.args.self.now in
    subst (λ (ss : List Stmt). length h.out.items ≤ length ss) (sym c.as_slice.ensures) (few-marks c.args.model.now.stmts h.conflict.items h.last h.out.items c.requires.walked)

pub returns-then-not-may_take : goal.returns-then-not-may_take
returns-then-not-may_take c =
    let h = c.args.self.now in
    let small : c.args.number < 2 ^ 64 = omega arith in
    name-refused c.args.model.now h.verdict h.conflict.items h.last h.stage c.args.line.now c.args.number c.requires.stage small c.requires.line
    (λ above room named. true≢false (sym (c.may_take.ensures.1 (above, room)) ∙ c.if-not-may_take.true))

pub returns-then-not-marked : goal.returns-then-not-marked
returns-then-not-marked c =
    let h = c.args.self.now in
    let small : c.args.number < 2 ^ 64 = omega arith in
    name-unmarked c.args.model.now h.verdict h.conflict.items h.last h.stage c.args.line.now c.args.number c.requires.stage small c.requires.line c.as_slice.result.now c.as_slice.ensures h.out.items _ c.requires.walked
    c.in_ok-marked.marked c.if-not-marked.true c.in_ok-marked.ensures

pub returns : goal.returns
returns c =
    let h = c.args.self.now in
    let small : c.args.number < 2 ^ 64 = omega arith in
    let may = c.may_take.ensures.0 c.if-not-may_take.false in
    name-marked c.args.model.now h.verdict h.conflict.items h.last h.stage c.args.line.now c.args.number c.requires.stage small c.requires.line c.as_slice.result.now c.as_slice.ensures h.out.items _ c.requires.walked
    c.in_ok-marked.marked c.if-not-marked.false c.in_ok-marked.ensures may.0 may.1 _ c.in_ok-push.ensures.items
