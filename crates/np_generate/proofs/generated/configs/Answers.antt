use Rattle.std.proofs.Common.{◌∷◌, [], ◌++◌, sym, ap, ◌∙◌}
use Rattle.std.proofs.lemmas.List.{append-nil}
use Rattle.np_generate.proofs.LineLaws.{moved, config_next, configs_end}
use Rattle.np_generate.proofs.generated.configs.Goals as goal

pub loop-number-preserved : goal.loop-number-preserved
loop-number-preserved c =
    rw c.in_ok-config.ensures.state (
    moved _ _ _ _ _ _
    c.loop-number.invariant
    (c.in_ok-push.ensures.ok ∙ ap (λ text. c.loop-number.configs ++ text ∷ []) c.in_ok-config.ensures.text)
    (config_next c.loop-number._number c.loop-number.draws.state c.loop-number-test.true)
    )

pub returns : goal.returns
returns c =
    sym (append-nil c.loop-number.configs)
    ∙ rw (configs_end c.loop-number._number c.loop-number.draws.state c.loop-number-test.false) at c.loop-number.invariant
