use Rattle.std.proofs.lemmas.List.{append_assoc}
use Rattle.np_generate.proofs.LineLaws.{interface_text}
use Rattle.np_generate.proofs.net_lines.put_interface.Goals as goal

pub returns : goal.returns
returns c =
    rw (
      c.in_ok-push.ensures.items,
      c.in_ok-put_numbered-3.ensures,
      c.in_ok-put_numbered-2.ensures,
      c.in_ok-put_numbered.ensures,
      interface_text c.args.k c.args.n c.args.area,
    ) (simp append_assoc)
