use Rattle.np_notes.proofs.PlaceLaws.{last_one}
use Rattle.np_notes.proofs.group_notes.last_groups_backwards.Goals as goal

pub loop-group-preserved : goal.loop-group-preserved
loop-group-preserved c =
    last_one c.loop-group.seen c.keep_if_new.new.seen c.loop-group.groups.items c.pop.new.self.items c.loop-group.kept.items c.keep_if_new.new.kept.items _ c.in-Some.group
    c.in-Some.ensures.items c.in_ok-keep_if_new.ensures.seen c.in_ok-keep_if_new.ensures.kept c.loop-group.invariant
