use Rattle.std.proofs.Common.{◌≡◌, ◌<◌, List, sym, ◌∙◌, ap, arith}
use Rattle.np_partition.specs.declared.shows.Show.{Show}
use Rattle.np_partition.specs.declared.shows.Show.TheVariants.{Class, Test}
use Rattle.np_partition.specs.Diagram.{show_at}
use Rattle.np_partition.specs.Partition.{class_of}
use Rattle.np_partition.specs.Least.{IsWayTo}
use Rattle.np_partition.proofs.LeastLaws.{class_there, to_class, to_branches}
use Rattle.np_partition.proofs.partition.Partition.hand_on.Goals as goal

pub offer-requires : goal.offer-requires
offer-requires c =
    let shown : show_at c.args.self.now.shows c.args.at ≡ Class c.in-Class.n = ap (λ (shows : List Show). show_at shows c.args.at) (sym c.as_slice.ensures) ∙ c.in-Class.is in
    let way : IsWayTo c.args.self.now c.args.at c.in-Some.x = c.requires.handed.ways c.args.at c.in-Some.x (omega arith) c.in-Some.is in
    let within : class_of c.args.self.now c.in-Some.x < c.args.self.now.classes = c.requires.within c.in-Some.x way.widths in
    omega (arith, within, c.requires.handed.count, class_there c.args.self.now c.args.at c.in-Class.n c.in-Some.x c.requires.there shown way)

pub returns-in-Class : goal.returns-in-Class
returns-in-Class c =
    let shown : show_at c.args.self.now.shows c.args.at ≡ Class c.in-Class.n = ap (λ (shows : List Show). show_at shows c.args.at) (sym c.as_slice.ensures) ∙ c.in-Class.is in
    to_class c.args.self.now c.args.at c.in-Class.n c.in-Some.x c.args.places.now c.args.leasts.now c.offer.new.slots c.requires.there shown c.in-Some.is c.offer.ensures c.requires.handed

pub returns-in-Test : goal.returns-in-Test
returns-in-Test c =
    let shown : show_at c.args.self.now.shows c.args.at ≡ Test c.in-Test.bit c.in-Test.low c.in-Test.high = ap (λ (shows : List Show). show_at shows c.args.at) (sym c.as_slice.ensures) ∙ c.in-Test.is in
    to_branches c.args.self.now c.requires.diagram c.args.at c.in-Test.bit c.in-Test.low c.in-Test.high c.in-Some.x c.with_bit_set.result
    c.args.places.now c.offer-in-Test.new.slots c.offer-in-Test-2.new.slots c.args.leasts.now
    c.requires.there shown c.in-Some.is c.with_bit_set.ensures c.offer-in-Test.ensures c.offer-in-Test-2.ensures c.requires.handed
