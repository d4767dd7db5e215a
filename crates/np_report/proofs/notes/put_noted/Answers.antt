use Rattle.np_report.proofs.notes.put_noted.Goals as goal

pub returns-in-StrayGroup : goal.returns-in-StrayGroup
returns-in-StrayGroup c = rw c.in-StrayGroup.is (rw c.bytes-in-StrayGroup.ensures at c.put_named_at_line-in-StrayGroup.ensures)

pub returns-in-UnknownInterface : goal.returns-in-UnknownInterface
returns-in-UnknownInterface c = rw c.in-UnknownInterface.is (rw c.bytes-in-UnknownInterface.ensures at c.put_named_at_line-in-UnknownInterface.ensures)

pub returns-in-NoInterface : goal.returns-in-NoInterface
returns-in-NoInterface c = rw c.in-NoInterface.is (rw c.bytes-in-NoInterface.ensures at c.put_named.ensures)
