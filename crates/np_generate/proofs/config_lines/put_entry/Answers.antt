use Rattle.std.proofs.lemmas.List.{append_assoc}
use Rattle.np_generate.proofs.LineLaws.{entry_text}
use Rattle.np_generate.proofs.config_lines.put_entry.Goals as goal

pub returns : goal.returns
returns c =
    rw (
      c.in_ok-push-2.ensures.items,
      c.in_ok-put_port.ensures,
      c.in_ok-put_addresses-2.ensures,
      c.in_ok-put_addresses.ensures,
      c.in_ok-extend_from_slice-3.ensures.items,
      c.protocol_word.ensures,
      c.in_ok-push.ensures.items,
      c.in_ok-extend_from_slice-2.ensures.items,
      c.action_word.ensures,
      c.in_ok-extend_from_slice.ensures.items,
      entry_text c.args.entry,
    ) (simp append_assoc)
