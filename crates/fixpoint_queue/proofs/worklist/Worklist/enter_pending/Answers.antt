use Rattle.std.proofs.Common.{◌≡◌, ◌↔◌, ℕ, List, sym, ap, ◌∙◌, subst}
use Rattle.std.specs.Prelude.{Contains}
use Rattle.std.specs.List.Sorted.{IsStrictlyIncreasing}
use Rattle.core_forms.specs.declared.form.Core.{Core}
use Rattle.core_forms.specs.Variables.{core_vars}
use Rattle.core_occurrences.specs.Lists.{grown}
use Rattle.step_kernel.specs.Kernel.{core_at}
use Rattle.step_kernel.proofs.LeastCompound.{core_at-next}
use Rattle.fixpoint_queue.specs.Standing.{AreVars}
use Rattle.fixpoint_queue.proofs.Started.{Entry, pending-none, entry-all, entry-fresh, entry-done, entry-width}
use Rattle.fixpoint_queue.proofs.worklist.Worklist.enter_pending.Goals as goal
use Rattle.fixpoint_queue.proofs.worklist.Worklist.enter_pending.Goals.{After-as_slice}

vars-of : (core : Core) (vars slice : List ℕ) → slice ≡ vars → IsStrictlyIncreasing vars → ((v : ℕ) → Contains vars v ↔ Contains (core_vars core) v) → AreVars slice core
vars-of core vars slice is ascending exact = subst (λ (l : List ℕ). AreVars l core) (sym is) (record { ascending = ascending; exact = exact })

entry : (c : After-as_slice) → Entry c.args.state.now c.args.before c.args.self.now.occurs c.grow.new.self c.args.self.now.queue c.in-Some.core.now c.as_slice.result.now
entry c = record {
  kernel = c.requires.kernel;
  inside = c.requires.inside;
  pending = c.requires.pending;
  at = ap (core_at c.args.state.now.cores) (sym c.into.ensures) ∙ sym c.in-Some.ensures.core;
  are = vars-of c.in-Some.core.now c.in_ok-vars.vars.items c.as_slice.result.now c.as_slice.ensures.value c.in_ok-vars.ensures.ascending c.in_ok-vars.ensures.exact;
  wide = c.requires.vars;
  grown-is = c.in_ok-grow.ensures.lists ∙ ap (grown c.args.self.now.occurs 0 0) (c.len-in-Some.ensures ∙ sym c.as_slice.ensures.len);
  occurrences = c.in_ok-grow.ensures.occurrences;
}

pub enter-requires-clause-vars : goal.enter-requires-clause-vars
enter-requires-clause-vars c = entry-all c.args.state.now c.args.before c.args.self.now.occurs c.grow.new.self c.args.self.now.queue c.in-Some.core.now c.as_slice.result.now (entry c)

pub enter-requires-clause-fresh : goal.enter-requires-clause-fresh
enter-requires-clause-fresh c = entry-fresh c.args.state.now c.args.before c.args.self.now.occurs c.grow.new.self c.args.self.now.queue c.in-Some.core.now c.as_slice.result.now (entry c)

entered : (c : goal.After-drop-vars-in-Some) → Entry c.args.state.now c.args.before c.args.self.now.occurs c.grow.new.self c.args.self.now.queue c.in-Some.core.now c.as_slice.result.now
entered c = record {
  kernel = c.requires.kernel;
  inside = c.requires.inside;
  pending = c.requires.pending;
  at = ap (core_at c.args.state.now.cores) (sym c.into.ensures) ∙ sym c.in-Some.ensures.core;
  are = vars-of c.in-Some.core.now c.in_ok-vars.vars.items c.as_slice.result.now c.as_slice.ensures.value c.in_ok-vars.ensures.ascending c.in_ok-vars.ensures.exact;
  wide = c.requires.vars;
  grown-is = c.in_ok-grow.ensures.lists ∙ ap (grown c.args.self.now.occurs 0 0) (c.len-in-Some.ensures ∙ sym c.as_slice.ensures.len);
  occurrences = c.in_ok-grow.ensures.occurrences;
}

pub returns-in_ok-grow-clause-pending : goal.returns-in_ok-grow-clause-pending
returns-in_ok-grow-clause-pending c =
    entry-done c.args.state.now c.args.before c.args.self.now.occurs c.grow.new.self c.args.self.now.queue c.in-Some.core.now c.as_slice.result.now (entered c) c.enter.new.self.occurs c.enter.new.self.queue
    c.enter.ensures.occurs c.enter.ensures.occurrences c.enter.ensures.queue c.enter.ensures.ids

pub returns-in_ok-grow-clause-lists : goal.returns-in_ok-grow-clause-lists
returns-in_ok-grow-clause-lists c =
    entry-width c.args.state.now c.args.before c.args.self.now.occurs c.grow.new.self c.args.self.now.queue c.in-Some.core.now c.as_slice.result.now (entered c) c.enter.new.self.occurs c.enter.ensures.occurs

pub returns-in_default-clause-pending : goal.returns-in_default-clause-pending
returns-in_default-clause-pending c =
    pending-none c.args.state.now.cores c.args.before c.args.self.now.occurs c.args.self.now.queue c.requires.inside c.requires.pending
    (sym (core_at-next c.args.state.now.cores c.args.before) ∙ ap (core_at c.args.state.now.cores) (sym c.into.ensures) ∙ sym c.in_default.ensures.core)
