use Rattle.std.proofs.Common.{◌∙◌, length, subst, sym}
use Rattle.std.proofs.lemmas.List.{with_items_is}
use Rattle.np_conf.specs.Outlets.{AreAroundTo}
use Rattle.np_conf.proofs.NotingLaws.{all_noted}
use Rattle.np_conf.proofs.noting.outlets.Goals as goal

pub returns : goal.returns
returns c =
    let net = c.args.net.now in
    let same = c.from_vec.ensures ∙ with_items_is c.in_ok-around.around c.note_interfaces.new.around (c.note_interfaces.auto.around ∙ c.as_mut_slice.ensures.len) in
    all_noted net c.args.headers.now record { ways = c.in_ok-ways.ways; around = c.from_vec.result } c.in_ok-ways.ensures.ways
    (subst (λ sets. AreAroundTo net c.args.headers.now (length net.interfaces) 0 sets) (sym same) c.in_ok-ways.ensures.around)
