use Rattle.std.proofs.Common.{◌≡◌, ◌++◌, ◌∷◌, [], get_or, sym, ap, ◌∙◌, subst}
use Rattle.std.specs.Prelude.{Ok, IsOk}
use Rattle.std.proofs.lemmas.List.{map_more, map_push}
use Rattle.np_acl_read.specs.Reading.{config_of}
use Rattle.np_generated.proofs.reading.configs.Goals as goal

pub config-requires : goal.config-requires
config-requires c =
    let text = c.index-texts-n.result in
    rw c.as_slice.ensures (subst (λ t. IsOk (config_of t)) (sym c.index-texts-n.is) (c.requires c.loop-n.n text c.loop-n-test.true))

pub loop-n-preserved : goal.loop-n-preserved
loop-n-preserved c =
    let texts = c.args.texts.now in
    let text = c.index-texts-n.result in
    let config = c.in_ok-config.config in
    let said : config_of (get_or texts c.loop-n.n text) ≡ Ok config = ap config_of (sym c.index-texts-n.is ∙ sym c.as_slice.ensures) ∙ c.in_ok-config.ensures in
    rw c.in_ok-push.ensures.items (
    map_more config_of texts c.loop-n.n text c.loop-n-test.true
    ∙ (λ i. c.loop-n.invariant i ++ said i ∷ [])
    ∙ sym (map_push (λ config. Ok config) c.loop-n.configs.items config)
    )
