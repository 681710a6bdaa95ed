use Rattle.std.proofs.Common.{get_or, refl, arith}
use Rattle.std.proofs.lemmas.List.{length-set}
use Rattle.core_occurrences.proofs.Named.{name-read}
use Rattle.core_occurrences.proofs.Exchanges.{body_in, other_in, swaps-cores, inverse-exchanged}
use Rattle.core_occurrences.proofs.names.exchange_bodies.Goals as goal

pub bounds-cores-body : goal.bounds-cores-body
bounds-cores-body c =
    let bodies = c.args.bodies.now in
    body_in bodies c.args.cores.now c.requires.inverse c.args.first c.args.second c.requires.first c.requires.second (get_or bodies c.args.first 0) (get_or bodies c.args.second 0)
    (name-read bodies bodies c.args.first refl c.requires.first) (name-read bodies bodies c.args.second refl c.requires.second)

pub bounds-cores-other : goal.bounds-cores-other
bounds-cores-other c =
    let bodies = c.args.bodies.now in
    let inside = other_in bodies c.args.cores.now c.requires.inverse c.args.first c.args.second c.requires.first c.requires.second (get_or bodies c.args.first 0) (get_or bodies c.args.second 0)
    (name-read bodies bodies c.args.first refl c.requires.first) (name-read bodies bodies c.args.second refl c.requires.second) in
    omega (arith, inside, length-set c.args.cores.now (get_or bodies c.args.first 0) c.args.second)

pub returns-clause-inverse : goal.returns-clause-inverse
returns-clause-inverse c =
    let bodies = c.args.bodies.now in
    inverse-exchanged bodies c.args.cores.now c.requires.inverse c.args.first c.args.second c.requires.first c.requires.second (get_or bodies c.args.first 0) (get_or bodies c.args.second 0)
    (name-read bodies bodies c.args.first refl c.requires.first) (name-read bodies bodies c.args.second refl c.requires.second)

pub returns-clause-swapped : goal.returns-clause-swapped
returns-clause-swapped c =
    let bodies = c.args.bodies.now in
    swaps-cores bodies c.args.cores.now c.requires.inverse c.args.first c.args.second c.requires.first c.requires.second (get_or bodies c.args.first 0) (get_or bodies c.args.second 0)
    (name-read bodies bodies c.args.first refl c.requires.first) (name-read bodies bodies c.args.second refl c.requires.second)
