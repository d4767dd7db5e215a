use Rattle.std.proofs.Common.{sym, ◌∙◌, subst}
use Rattle.std.specs.Prelude.{IsOk}
use Rattle.np_net_read.specs.Reading.{net_of}
use Rattle.np_generated.proofs.ReadingLaws.{configs_accepted, net_accepted}
use Rattle.np_generated.proofs.reading.read_generated.Goals as goal

pub net-requires : goal.net-requires
net-requires c = subst (λ text. IsOk (net_of text)) (sym (c.as_slice.ensures.value ∙ c.in_ok-generated.ensures.net)) (net_accepted c.args.seed)

pub configs-requires : goal.configs-requires
configs-requires c = rw (c.as_slice-2.ensures, c.in_ok-generated.ensures.configs) (configs_accepted c.args.seed)
