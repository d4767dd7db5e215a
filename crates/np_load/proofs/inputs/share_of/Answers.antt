use Rattle.std.proofs.Common.{◌<◌, length, is_some, sym, ◌∙◌, ap, arith}
use Rattle.np_load.proofs.OnceLaws.{loaded_before, position_found}
use Rattle.np_load.specs.Loaded.{names_file}
use Rattle.np_load.proofs.inputs.share_of.Goals as goal

pub returns-in_ok-share-in-Some-clause-found : goal.returns-in_ok-share-in-Some-clause-found
returns-in_ok-share-in-Some-clause-found c =
    ap is_some c.in-Some.ensures.first ∙ position_found (names_file c.args.file.now) c.args.devices.now

pub returns-in_ok-share-in-Some-clause-says : goal.returns-in_ok-share-in-Some-clause-says
returns-in_ok-share-in-Some-clause-says c = λ files loaded.
    let within : c.in-Some.place < length c.args.configs.now = omega (arith, c.in-Some.ensures.within) in
    rw c.in_ok-share-in-Some.ensures
    (loaded_before files c.args.devices.now c.args.configs.now c.args.file.now c.in-Some.place c.index-configs-place.result (sym c.in-Some.ensures.first) within c.index-configs-place.is loaded)

pub returns-in-None-clause-found : goal.returns-in-None-clause-found
returns-in-None-clause-found c =
    ap is_some c.in-None.ensures.first ∙ position_found (names_file c.args.file.now) c.args.devices.now
