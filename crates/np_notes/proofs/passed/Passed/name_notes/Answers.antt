use Rattle.std.proofs.Common.{rules, ◌≡◌, ◌++◌, ap, ◌∙◌}
use Rattle.std.specs.List.{filter_map}
use Rattle.np_notes.specs.NameNotes.{group_note, interfaces_of, missing_notes, name_at_device}
use Rattle.np_notes.proofs.NameLaws.{names_noted}
use Rattle.np_notes.proofs.passed.Passed.name_notes.Goals as goal

pub returns : goal.returns
returns c =
    let all : c.as_slice-interfaces.result.now ≡ c.args.net.now.interfaces = search rules in
    let grouped : c.as_slice-groups.result.now ≡ c.args.self.now.groups.items = search rules in
    names_noted c.new-notes.result.items c.add_missing.new.notes.items c.add_applied.new.notes.items
    (interfaces_of c.args.net.now c.args.device) c.args.self.now c.new-notes.ensures.items
    (c.in_ok-add_missing.ensures
    ∙ ap (λ interfaces. c.new-notes.result.items ++ missing_notes (filter_map (name_at_device c.args.device) interfaces) c.args.self.now.named) all)
    (c.in_ok-add_applied.ensures
    ∙ ap (λ groups. c.add_missing.new.notes.items ++ filter_map (group_note (interfaces_of c.args.net.now c.args.device) c.args.self.now.declared.lists) groups) grouped)
