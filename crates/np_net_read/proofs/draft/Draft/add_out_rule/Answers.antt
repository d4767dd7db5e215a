use Rattle.np_net_read.proofs.DraftLaws.{draft_out_rule, has_table}
use Rattle.np_net_read.proofs.draft.Draft.add_out_rule.Goals as goal

pub add_out_rule-requires : goal.add_out_rule-requires
add_out_rule-requires c = has_table c.args.self.now c.args.interface c.requires.draft c.requires.fits.room.within

pub returns-clause-draft : goal.returns-clause-draft
returns-clause-draft c = rw (c.in_ok-add_out_rule.ensures) (draft_out_rule c.args.self.now c.args.interface c.args.rule c.requires.draft c.requires.fits)
