use Rattle.std.proofs.Common.{◌≡◌, subst}
use Rattle.search_options.specs.declared.options.SearchOptions.{SearchOptions}
use Rattle.all_mode.specs.Listed.{IsListed}
use Rattle.all_mode.proofs.mode.ListingOneText.make.Goals as goal

pub returns-in-Ok : goal.returns-in-Ok
returns-in-Ok g c =
    let v = c.self.view_is in
    let same : c.self.inside.options ≡ c.args.self.now = cc in
    subst (λ (o : SearchOptions). IsListed o c.args.text.now c.in-Ok.outcome c.in-Ok.written.items) same c.in-Ok.ensures.listed
