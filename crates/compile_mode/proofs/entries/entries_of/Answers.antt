use Rattle.compile_mode.proofs.MapLines.{lines_taken}
use Rattle.compile_mode.proofs.entries.entries_of.Goals as goal

pub loop-decl-preserved-in_ok-push : goal.loop-decl-preserved-in_ok-push
loop-decl-preserved-in_ok-push c =
    lines_taken c.loop-decl.decls.items c.pop.new.self.items c.in-Some.decl c.loop-decl.values.items c.pop-in-Some.new.self.items c.in-Some-pop.value
    c.loop-decl.entries.items c.push.new.self.items _ c.in-Some.ensures.items c.in-Some-pop.ensures.items c.in_ok-push.ensures.items
    c.loop-decl.invariant.1 c.loop-decl.invariant.0

pub loop-decl-preserved-in_ok-push-2 : goal.loop-decl-preserved-in_ok-push-2
loop-decl-preserved-in_ok-push-2 c =
    lines_taken c.loop-decl.decls.items c.pop.new.self.items c.in-Some.decl c.loop-decl.values.items c.pop-in-Some.new.self.items c.in-Some-pop.value
    c.loop-decl.entries.items c.push.new.self.items _ c.in-Some.ensures.items c.in-Some-pop.ensures.items c.in_ok-push.ensures.items
    c.loop-decl.invariant.1 c.loop-decl.invariant.0
