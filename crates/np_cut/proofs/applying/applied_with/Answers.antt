use Rattle.std.proofs.Common.{◌∙◌, length, ap, map, subst, sym}
use Rattle.std.specs.Borrow.{Bor}
use Rattle.std.specs.Prelude.{IsSome, List}
use Rattle.std.specs.List.{AllByRecursion}
use Rattle.std.proofs.lemmas.List.{length-map}
use Rattle.np_acl.specs.declared.entries.Entry.{Entry}
use Rattle.np_cut.specs.Applying.{key_list, list_there}
use Rattle.np_cut.proofs.ApplyLaws.{is_applied, keys_there}
use Rattle.np_cut.proofs.applying.applied_with.Goals as goal

pub lists_of_keys-requires : goal.lists_of_keys-requires
lists_of_keys-requires c = subst (λ l. AllByRecursion (λ key. IsSome (list_there c.args.configs.now key)) l) (sym (c.as_slice.ensures ∙ c.in_ok-set.ensures)) (keys_there c.args.configs.now c.args.keys.now c.requires)

pub invariant_of-result : goal.invariant_of-result
invariant_of-result c =
    is_applied (map (λ (l : Bor (List Entry)). l.now) c.in_ok-lists.lists.items) c.in_ok-names.names c.in_ok-set.set c.args.keys.now c.in_ok-at.at
    (ap length c.in_ok-lists.ensures ∙ length-map c.as_slice.result.now (key_list c.args.configs.now) ∙ ap length c.as_slice.ensures)
    (c.in_ok-names.ensures ∙ c.as_slice-2.ensures)
    c.in_ok-at.ensures
