-- `pairs::weighed` meets its contract: two products, by the laws of Terms. Assumes nothing.
use Rattle.std.proofs.Common.{◌≡◌, ◌∙◌}
use Rattle.whole.specs.Complex.{◌*ᶜ◌}
use Rattle.table.specs.Entries.{complex_of}
use Rattle.load.specs.Force.{amplitudes}
use Rattle.load.specs.own.Terms.{complex}
use Rattle.load.specs.own.Waves.{amplitude_of}
use Rattle.load.proofs.Terms.{amplitudes-are, first-room, second-room}
use Rattle.load.proofs.pairs.weighed.Goals as goal
use Rattle.load.proofs.pairs.weighed.Goals.{After-times-both}

-- the amplitudes
both_is : (c : After-times-both) → let a = c.args in complex c.times-both.result ≡ amplitudes a.kind (amplitude_of a.m) (amplitude_of a.n)
both_is c =
    let a = c.args in
    c.times-both.ensures ∙ (λ i. c.from.ensures i *ᶜ c.second_of.ensures i) ∙ amplitudes-are a.kind (amplitude_of a.m) (amplitude_of a.n)

pub times-both-requires : goal.times-both-requires
times-both-requires c = first-room c.args.kind c.args.m c.args.n (complex_of c.args.q) c.requires.0 _ _ c.from.ensures c.second_of.ensures

pub times-requires : goal.times-requires
times-requires c =
    second-room c.args.kind c.args.m c.args.n (complex_of c.args.q) c.requires.0 c.requires.1 _ _ (both_is c.before) c.from-2.ensures

pub returns : goal.returns
returns c = c.times.ensures ∙ (λ i. both_is c.before.before i *ᶜ c.from-2.ensures i)
