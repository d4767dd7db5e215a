use Rattle.std.proofs.Common.{◌≡◌, ◌∷◌, ◌++◌, [], sym, ap, ◌∙◌}
use Rattle.std.specs.Borrow.{Bor}
use Rattle.std.specs.Prelude.{IsSome, List}
use Rattle.std.proofs.lemmas.List.{map_more, map_push}
use Rattle.np_acl.specs.declared.entries.Entry.{Entry}
use Rattle.np_net.proofs.ListLaws.{all_at}
use Rattle.np_cut.specs.Applying.{key_list, list_there}
use Rattle.np_cut.proofs.keys.lists_of_keys.Goals as goal

pub list_of_key-requires : goal.list_of_key-requires
list_of_key-requires c = all_at (λ key. IsSome (list_there c.args.configs.now key)) c.args.keys.now c.loop-n.n c.index-keys-n.result c.loop-n-test.true c.index-keys-n.is c.requires

pub loop-n-preserved : goal.loop-n-preserved
loop-n-preserved c =
    let list : c.list_of_key.result.now ≡ key_list c.args.configs.now c.index-keys-n.result = c.list_of_key.ensures in
    rw c.in_ok-push.ensures.items (
    map_push (λ (l : Bor (List Entry)). l.now) c.loop-n.lists.items c.list_of_key.result
    ∙ (λ i. c.loop-n.invariant i ++ (list ∙ ap (key_list c.args.configs.now) c.index-keys-n.is) i ∷ [])
    ∙ sym (map_more (key_list c.args.configs.now) c.args.keys.now c.loop-n.n c.index-keys-n.result c.loop-n-test.true)
    )
