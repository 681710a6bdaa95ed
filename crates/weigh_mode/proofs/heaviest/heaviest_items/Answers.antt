use Rattle.std.proofs.Common.{rules}
use Rattle.model_items.specs.Lent.{lent_item}
use Rattle.weigh_mode.specs.Heaviest.{heaviest_items}
use Rattle.weigh_mode.proofs.Walks.{all_fit, none_kept, next_fits, next_limits, next_kept, all_kept}
use Rattle.weigh_mode.proofs.heaviest.heaviest_items.Goals as goal

pub loop-item-init : goal.loop-item-init
loop-item-init c =
    let m = c.args.model.now in
    let ds = c.as_slice-decls.result.now in
    let ss = c.as_slice.result.now in
    let left = c.of-left.result in
    let d = c.as_slice-decls.ensures in
    let s = c.as_slice.ensures in
    let is = c.of-left.ensures.items in
    record {
      fits = all_fit m ds ss left d s is c.requires.fits;
      limits = search rules;
      kept = none_kept m ds ss left d s is c.in_ok-kept.kept.items c.in_ok-kept.ensures.items;
    }

pub loop-item-preserved : goal.loop-item-preserved
loop-item-preserved c =
    let i = c.loop-item.invariant in
    let ds = c.as_slice-decls.result.now in
    let item = lent_item c.in-Some.item in
    let rest = c.next_item.new.self in
    let left = c.loop-item.left in
    let is = c.in-Some.ensures in
    record {
      fits = next_fits ds item rest left is i.fits;
      limits = next_limits ds item rest left is i.limits;
      kept = next_kept ds item rest left is c.in_ok-weighed.field-0 c.loop-item.kept.items c.keep.new.kept.items
          (heaviest_items c.args.model.now) c.in_ok-weighed.ensures c.in_ok-keep.ensures i.kept;
    }

pub returns : goal.returns
returns c =
    all_kept c.as_slice-decls.result.now c.loop-item.left c.loop-item.kept.items (heaviest_items c.args.model.now)
    c.in_default.ensures c.loop-item.invariant.kept
