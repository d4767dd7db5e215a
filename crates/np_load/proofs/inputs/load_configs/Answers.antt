use Rattle.std.proofs.Common.{rules, ℕ, List, ◌≡◌, ◌<◌, suc, ◌+◌, [], ◌∷◌, ◌++◌, length, drop, take, add-one, drop-cons, sym, ◌∙◌, ap, arith}
use Rattle.std.proofs.lemmas.List.{take_more}
use Rattle.np_acl_read.specs.declared.config.Config.{Config}
use Rattle.np_net.specs.declared.filtering.Device.{Device}
use Rattle.np_load.proofs.Loads.{one_more, behind}
use Rattle.np_load.proofs.OnceLaws.{loaded_more}
use Rattle.np_load.specs.Inputs.{configs_say}
use Rattle.np_load.proofs.inputs.load_configs.Goals as goal

pub loop-device-preserved : goal.loop-device-preserved
loop-device-preserved g c =
    let xs : List Device = c.args.devices.now in
    let i : ℕ = c.loop-device.device-index in
    let device : Device = c.device-item.result in
    let configs : List Config = c.loop-device.configs.items in
    let config : Config = c.in_ok-config.config in
    let within : i < length xs = omega arith in
    let left : drop i xs ≡ device ∷ drop (i + 1) xs =
    rw (add-one, drop-cons xs i device) (ap (λ x. x ∷ drop (suc i) xs) (sym c.device-item.is)) in
    let done : take (i + 1) xs ≡ take i xs ++ device ∷ [] =
    take_more xs i device within ∙ ap (λ x. take i xs ++ x ∷ []) (sym c.device-item.is) in
    record {
      as_many = search rules;
      loaded = λ files told.
          rw (c.in_ok-push.ensures.items, done)
          (loaded_more files (take i xs) configs device config (c.loop-device.invariant.loaded files told) (c.in_ok-config.ensures.says files (c.loop-device.invariant.kept.files ∙ told)));
      says = λ files told.
          rw c.in_ok-push.ensures.items (one_more files configs config device (drop (i + 1) xs) (c.in_ok-config.ensures.says files (c.loop-device.invariant.kept.files ∙ told))
          ∙ ap (λ ds. behind configs (configs_say files ds)) (sym left) ∙ c.loop-device.invariant.says files told);
      kept = search rules;
    }
