use Rattle.std.proofs.Common.{arith, ◌∙◌}
use Rattle.bee_compile.proofs.Compilation.{compiled-well, asked-of}
use Rattle.bee_compile.proofs.Fitting.{are-bounded}
use Rattle.bee_compile.proofs.compiling.compile.Goals as goal

pub trim_map-requires : goal.trim_map-requires
trim_map-requires g c = are-bounded _ c.args.model.decls c.in_ok-lowered.field-0.lowered.map.entries c.in_ok-lowered.ensures.fits.entries

pub returns-clause-solutions : goal.returns-clause-solutions
returns-clause-solutions g c =
    (compiled-well g.F.Oracle.told c.args.model c.in_ok-lowered.field-0.lowered c.into_vec.result.items c.in_ok-state.state
    c.in_ok-compilation.compilation.state c.view.result.now _ c.requires.typed c.requires.limits c.in_ok-lowered.ensures.light c.in_ok-lowered.ensures.shape c.into_vec.ensures
    c.in_ok-state.ensures.start c.in_ok-compilation.ensures.compilation c.ids.ensures.ids (omega (arith, c.ids.type_inv)) c.in_ok-cnf.ensures.shape c.in_ok-lowered.ensures.decls
    (c.view.ensures.view ∙ c.store.ensures.view) c.in_ok-map.ensures).solutions

pub returns-clause-fits : goal.returns-clause-fits
returns-clause-fits g c =
    (compiled-well g.F.Oracle.told c.args.model c.in_ok-lowered.field-0.lowered c.into_vec.result.items c.in_ok-state.state
    c.in_ok-compilation.compilation.state c.view.result.now _ c.requires.typed c.requires.limits c.in_ok-lowered.ensures.light c.in_ok-lowered.ensures.shape c.into_vec.ensures
    c.in_ok-state.ensures.start c.in_ok-compilation.ensures.compilation c.ids.ensures.ids (omega (arith, c.ids.type_inv)) c.in_ok-cnf.ensures.shape c.in_ok-lowered.ensures.decls
    (c.view.ensures.view ∙ c.store.ensures.view) c.in_ok-map.ensures).fits

pub returns-clause-asked : goal.returns-clause-asked
returns-clause-asked g c =
    asked-of c.args.model c.in_ok-lowered.field-0.lowered c.into_vec.result.items c.in_ok-state.state c.in_ok-compilation.compilation.state
    (record { cnf = c.in_ok-cnf.cnf; decls = c.in_ok-lowered.field-0.decls; map = c.in_ok-map.map; cores = c.ids.result; ledger = c.in_ok-compilation.compilation.ledger }) _ _
    c.in_ok-lowered.ensures.shape c.into_vec.ensures c.in_ok-state.ensures.start c.in_ok-cnf.ensures.shape c.in_ok-compilation.ensures.asked
