use Rattle.std.proofs.Common.{refl}
use Rattle.np_net_read.proofs.NetworkLaws.{default_depth, sound_network}
use Rattle.np_net_read.proofs.reading.network.Goals as goal

pub invariant_of-result : goal.invariant_of-result
unfolding Rattle.np_net_read.specs.Declaring.network_of
invariant_of-result c =
    rw (c.from_vec.ensures, c.in_ok-free.ensures, c.requires.freed, c.len.ensures, c.into_items.ensures, c.unwrap_or.ensures, default_depth c.args.draft.declared.depth)
    (sound_network c.args.draft.declared c.requires.sound)

pub returns : goal.returns
unfolding Rattle.np_net_read.specs.Declaring.network_of
returns c =
    rw (c.from_vec.ensures, c.in_ok-free.ensures, c.requires.freed, c.len.ensures, c.into_items.ensures, c.unwrap_or.ensures, default_depth c.args.draft.declared.depth) refl
