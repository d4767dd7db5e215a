-- The lines of a network's IPsec part are of plain words.
use Rattle.std.proofs.Common.{◌≡◌, ℕ, ◌<◌, true, List, [], ◌∷◌, ◌++◌, length, map, codes, refl}
use Rattle.std.specs.List.{AllByRecursion}
use Rattle.np_net.specs.Names.{is_file_name}
use Rattle.np_net.specs.Network.{IsInterface, IsSa, IsTo, IsMatch, IsMark, IsOutAction, IsInRule, IsOutRule, IsTable, AreTables, IsIpGoal, IsNetwork}
use Rattle.np_net.specs.Naming.{sa_name}
use Rattle.np_net.specs.Plan.{Plan}
use Rattle.np_net.specs.declared.filtering.Interface.{Interface}
use Rattle.np_net.specs.declared.associations.Kind.{Kind}
use Rattle.np_net.specs.declared.associations.Kind.TheVariants as kind
use Rattle.np_net.specs.declared.associations.Sa.{Sa}
use Rattle.np_net.specs.declared.associations.Match.{Match}
use Rattle.np_net.specs.declared.associations.Match.TheVariants as top
use Rattle.np_net.specs.declared.associations.MarkTest.{MarkTest}
use Rattle.np_net.specs.declared.associations.MarkTest.TheVariants as mark
use Rattle.np_net.specs.declared.associations.InAction.{InAction}
use Rattle.np_net.specs.declared.associations.InAction.TheVariants as inward
use Rattle.np_net.specs.declared.associations.OutAction.{OutAction}
use Rattle.np_net.specs.declared.associations.OutAction.TheVariants as outward
use Rattle.np_net.specs.declared.associations.InRule.{InRule}
use Rattle.np_net.specs.declared.associations.OutRule.{OutRule}
use Rattle.np_net.specs.declared.associations.Table.{Table}
use Rattle.np_net.specs.declared.associations.IpGoal.{IpGoal}
use Rattle.np_net.specs.declared.associations.IpGoal.TheVariants as ipgoal
use Rattle.np_net_text.specs.Canonical.{kind_word, sa_words, match_words, mark_words, in_action_word, out_action_words, pop_words, in_rule_words, out_rule_words, place_words, table_lines, rule_lines, ipgoal_words, ipsec_lines}
use Rattle.np_net_read.specs.Words.{ArePlainWords}
use Rattle.np_net_text.proofs.ChainLaws.{ArePlainLines, plain_lines_append}
use Rattle.np_net_text.proofs.PlainForms.{pred_plain}
use Rattle.np_net_text.proofs.PlainLines.{area_plain, device_plain, named_plain}
use Rattle.np_net_text.proofs.PlainWords.{plain_append, name_plain, interface_name_plain}

-- ---- words

kind_plain : (k : Kind) → is_file_name (kind_word k) ≡ true
kind_plain kind.Esp = refl
kind_plain kind.EspEnc = refl
kind_plain kind.EspNull = refl
kind_plain kind.Ah = refl

in_action_plain : (a : InAction) → is_file_name (in_action_word a) ≡ true
in_action_plain inward.Bypass = refl
in_action_plain inward.Discard = refl

module _ (net : Plan) (is : IsNetwork net) where
  sa_plain : (n : ℕ) → n < length net.sas → is_file_name (sa_name net n) ≡ true
  sa_plain n lt = named_plain (λ (sa : Sa). IsSa (length net.devices) sa) (λ (sa : Sa). sa.name) (λ sa h. name_plain sa.name h.name) net.sas n is.sas lt

  match_plain : (m : Match) → IsMatch net.sas m → ArePlainWords (match_words net m)
  match_plain (top.Plain pred) h = (refl, pred_plain pred h.octets)
  match_plain (top.Under sa) h = (refl, (sa_plain sa h, tt))
  match_plain top.Every h = (refl, tt)

  mark_plain : (device : ℕ) (m : MarkTest) → IsMark net.sas device m → ArePlainWords (mark_words net m)
  mark_plain device mark.Unmarked h = (refl, tt)
  mark_plain device (mark.Popped sa) h = (refl, (sa_plain sa h.within, tt))
  mark_plain device mark.AnyMark h = (refl, tt)

  out_action_plain : (device : ℕ) (a : OutAction) → IsOutAction net.sas device a → ArePlainWords (out_action_words net a)
  out_action_plain device (outward.Protect sa) h = (refl, (sa_plain sa h.within, tt))
  out_action_plain device outward.Bypass h = (refl, tt)
  out_action_plain device outward.Discard h = (refl, tt)

  -- ---- associations

  sas_plain : (sas : List Sa) → AllByRecursion (λ sa. IsSa (length net.devices) sa) sas → ArePlainLines (map (sa_words net) sas)
  sas_plain [] h = tt
  sas_plain (sa ∷ sas) h =
      ((refl, (name_plain sa.name h.0.name, (kind_plain sa.kind, (device_plain net is sa.from h.0.from, (device_plain net is sa.to h.0.to, tt))))), sas_plain sas h.1)

  -- ---- rules

  module _ (interface : Interface) (formed : IsInterface (length net.devices) (length net.areas) interface) where
    -- the words of an interface and some behind them
    placed_plain : (first : List ℕ) (words : List (List ℕ)) → is_file_name first ≡ true → ArePlainWords words → ArePlainWords (first ∷ (place_words net interface ++ words))
    placed_plain first words f h = (f, (device_plain net is interface.device formed.device, (interface_name_plain interface.name formed.name, h)))

    pops_plain : (pops : List ℕ) → AllByRecursion (λ n. IsTo net.sas interface.device n) pops → ArePlainLines (map (pop_words net interface) pops)
    pops_plain [] h = tt
    pops_plain (sa ∷ pops) h = (placed_plain (codes "pop") (sa_name net sa ∷ []) refl (sa_plain sa h.0.within, tt), pops_plain pops h.1)

    in_rules_plain : (rules : List InRule) → AllByRecursion (λ rule. IsInRule net.sas interface.device rule) rules → ArePlainLines (map (in_rule_words net interface) rules)
    in_rules_plain [] h = tt
    in_rules_plain (rule ∷ rules) h =
        (placed_plain (codes "inrule") (in_action_word rule.action ∷ (mark_words net rule.mark ++ match_words net rule.top)) refl (in_action_plain rule.action, plain_append (mark_words net rule.mark) (match_words net rule.top) (mark_plain interface.device rule.mark h.0.mark) (match_plain rule.top h.0.top)), in_rules_plain rules h.1)

    out_rules_plain : (rules : List OutRule) → AllByRecursion (λ rule. IsOutRule net.sas interface.device rule) rules → ArePlainLines (map (out_rule_words net interface) rules)
    out_rules_plain [] h = tt
    out_rules_plain (rule ∷ rules) h =
        (placed_plain (codes "outrule") (out_action_words net rule.action ++ match_words net rule.top) refl (plain_append (out_action_words net rule.action) (match_words net rule.top) (out_action_plain interface.device rule.action h.0.action) (match_plain rule.top h.0.top)), out_rules_plain rules h.1)

    table_plain : (table : Table) → IsTable net.sas interface.device table → ArePlainLines (table_lines net interface table)
    table_plain table h =
        plain_lines_append (map (pop_words net interface) table.pops) _ (pops_plain table.pops h.pops)
        (plain_lines_append (map (in_rule_words net interface) table.ins) (map (out_rule_words net interface) table.outs) (in_rules_plain table.ins h.ins) (out_rules_plain table.outs h.outs))

  rules_plain : (interfaces : List Interface) (tables : List Table) → AllByRecursion (λ interface. IsInterface (length net.devices) (length net.areas) interface) interfaces → AreTables net.sas interfaces tables → ArePlainLines (rule_lines net interfaces tables)
  rules_plain [] tables formed are = tt
  rules_plain (interface ∷ interfaces) [] formed are = tt
  rules_plain (interface ∷ interfaces) (table ∷ tables) formed are =
      plain_lines_append (table_lines net interface table) (rule_lines net interfaces tables) (table_plain interface formed.0 table are.0) (rules_plain interfaces tables formed.1 are.1)

  -- ---- goals

  ipgoal_plain : (goal : IpGoal) → IsIpGoal (length net.areas) goal → ArePlainWords (ipgoal_words net goal)
  ipgoal_plain (ipgoal.Auth from at pred) h = (refl, (area_plain net is from h.0, (area_plain net is at h.1, pred_plain pred h.2.octets)))
  ipgoal_plain (ipgoal.Conf from pred) h = (refl, (area_plain net is from h.0, pred_plain pred h.1.octets))

  ipgoals_plain : (goals : List IpGoal) → AllByRecursion (λ goal. IsIpGoal (length net.areas) goal) goals → ArePlainLines (map (ipgoal_words net) goals)
  ipgoals_plain [] h = tt
  ipgoals_plain (goal ∷ goals) h = (ipgoal_plain goal h.0, ipgoals_plain goals h.1)

  -- ---- all lines

  pub ipsec_plain : ArePlainLines (ipsec_lines net)
  ipsec_plain =
      plain_lines_append (map (sa_words net) net.sas) _ (sas_plain net.sas is.sas)
      (plain_lines_append (rule_lines net net.interfaces net.tables) (map (ipgoal_words net) net.ipgoals) (rules_plain net.interfaces net.tables is.interfaces is.tables) (ipgoals_plain net.ipgoals is.ipgoals))
