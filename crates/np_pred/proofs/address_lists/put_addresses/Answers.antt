use Rattle.std.proofs.Common.{◌-◌, length, take, drop, ◌++◌, ◌∷◌, ap, ◌∙◌, append_assoc}
use Rattle.std.specs.List.{flat_map}
use Rattle.std.proofs.lemmas.Result.{on_ok_weaker, on_err_weaker}
use Rattle.np_text.specs.Appending.{AppendsFront}
use Rattle.np_text.proofs.AppendLaws.{AppendsFront-more, AppendsFront-after, OnErr-from}
use Rattle.np_pred.specs.Patterns.{prefix_text, addresses_text}
use Rattle.np_pred.proofs.PatternLaws.{addresses_text-first, addresses_text-none}
use Rattle.np_pred.proofs.address_lists.put_addresses.Goals as goal

pub returns-in_default-clause-ok : goal.returns-in_default-clause-ok
returns-in_default-clause-ok c = rw (addresses_text-none c.args.patterns.now c.in_default.len_below) c.put_bytes.ensures.ok

pub returns-in_default-clause-err : goal.returns-in_default-clause-err
returns-in_default-clause-err c = rw (addresses_text-none c.args.patterns.now c.in_default.len_below) c.put_bytes.ensures.err

pub returns-in_err-put_prefix-clause-err : goal.returns-in_err-put_prefix-clause-err
returns-in_err-put_prefix-clause-err c =
    let front : AppendsFront c.args.out.now.items c.put_prefix.new.out.items (addresses_text c.args.patterns.now) =
    rw (addresses_text-first c.args.patterns.now c.first-item.result c.in-len1-up.len_at_least c.first-item.is) (AppendsFront-more _ c.in_err-put_prefix.ensures.err) in
    OnErr-from _ front

pub returns-clause-ok : goal.returns-clause-ok
returns-clause-ok c =
    on_ok_weaker c.put_next_prefixes.result (λ last.
    rw (addresses_text-first c.args.patterns.now c.first-item.result c.in-len1-up.len_at_least c.first-item.is)
    (last ∙ ap (λ l. l ++ flat_map (λ q. 44 ∷ prefix_text q) (take (length c.args.patterns.now - 1) (drop 1 c.args.patterns.now))) c.in_ok-put_prefix.ensures.ok ∙ append_assoc c.args.out.now.items _ _)) c.put_next_prefixes.ensures.ok

pub returns-clause-err : goal.returns-clause-err
returns-clause-err c =
    on_err_weaker c.put_next_prefixes.result (λ last.
    rw (addresses_text-first c.args.patterns.now c.first-item.result c.in-len1-up.len_at_least c.first-item.is)
    (AppendsFront-after _ _ _ c.in_ok-put_prefix.ensures.ok last)) c.put_next_prefixes.ensures.err
