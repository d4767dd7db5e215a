use Rattle.std.proofs.Common.{◌≡◌, ◌∙◌, ap, set, get_or, Some, None, true}
use Rattle.std.proofs.lemmas.List.{get_or_default, set-set}
use Rattle.np_conf.specs.Outlets.{set_or, with_member}
use Rattle.np_conf.proofs.noting.add_member.Goals as goal

pub returns : goal.returns
returns c =
    let around = c.args.around.now in
    let k = c.args.k in
    let slot : c.take-slot.result ≡ get_or around k None = c.take-slot.ensures.value ∙ get_or_default around k c.index-around-k.result None c.requires.association in
    let members : c.in_ok-set.set ≡ set_or c.args.size (get_or around k None) = c.in_ok-set.ensures.value ∙ ap (set_or c.args.size) slot in
    let more : Some c.insert.new.self ≡ with_member c.args.size (get_or around k None) c.args.n = ap Some (c.insert.ensures ∙ ap (λ members. set members c.args.n true) members) in
    set-set around k c.take-slot.new.self (Some c.insert.new.self) ∙ ap (set around k) more
