-- The canonical words of associations, rules and IPsec goals are read as these.
use Rattle.std.proofs.Common.{◌≡◌, ◌==◌, ℕ, ◌+◌, ◌<◌, ◌≤◌, nat_eq, true, false, List, [], ◌∷◌, ◌++◌, length, map, Some, Ok, sym, refl, ap, ◌∙◌, subst, arith, append-nil, append_assoc, length-append, eq-eqb}
use Rattle.std.specs.List.{AllByRecursion, list_any}
use Rattle.std.specs.Str.{bytes_eq}
use Rattle.std.proofs.lemmas.Bool.{lt-ltb}
use Rattle.std.proofs.lemmas.List.{map-append, length-map}
use Rattle.std.proofs.lemmas.List.Sums.{sum-map, sum_by-append, sum_by-cons}
use Rattle.std.proofs.Math.Seq.{get_or-append_seam, set-append_seam}
use Rattle.np_pred.proofs.ReadBackLaws.{pred_of_words}
use Rattle.np_net.specs.Distinct.{AreNewAfter}
use Rattle.np_net.specs.Limits.{declaration_limit, rule_limit}
use Rattle.np_net.specs.Network.{IsInterface, IsSa, IsTo, IsFrom, IsMatch, IsMark, IsOutAction, IsInRule, IsOutRule, IsTable, AreTables, IsIpGoal, IsNetwork, rule_count, sa_at}
use Rattle.np_net.specs.Naming.{sa_name}
use Rattle.np_net.specs.Path.{device_of}
use Rattle.np_net.specs.Plan.{Plan, sa_names}
use Rattle.np_net.specs.Sources.{source_list}
use Rattle.np_net.specs.declared.filtering.Interface.{Interface}
use Rattle.np_net.specs.declared.associations.Kind.{Kind}
use Rattle.np_net.specs.declared.associations.Kind.TheVariants as kind
use Rattle.np_net.specs.declared.associations.Sa.{Sa}
use Rattle.np_net.specs.declared.associations.Match.{Match}
use Rattle.np_net.specs.declared.associations.Match.TheVariants as top
use Rattle.np_net.specs.declared.associations.MarkTest.{MarkTest}
use Rattle.np_net.specs.declared.associations.MarkTest.TheVariants as mark
use Rattle.np_net.specs.declared.associations.InAction.{InAction}
use Rattle.np_net.specs.declared.associations.InAction.TheVariants as inward
use Rattle.np_net.specs.declared.associations.OutAction.{OutAction}
use Rattle.np_net.specs.declared.associations.OutAction.TheVariants as outward
use Rattle.np_net.specs.declared.associations.InRule.{InRule}
use Rattle.np_net.specs.declared.associations.OutRule.{OutRule}
use Rattle.np_net.specs.declared.associations.Table.{Table}
use Rattle.np_net.specs.declared.associations.IpGoal.{IpGoal}
use Rattle.np_net.specs.declared.associations.IpGoal.TheVariants as ipgoal
use Rattle.np_net.proofs.NamingLaws.{name_found}
use Rattle.np_net_read.specs.declared.declared.Declared.{Declared}
use Rattle.np_net_read.specs.declared.statement.Statement.TheVariants as statement
use Rattle.np_net_text.specs.Canonical.{kind_word, sa_words, place_words, match_words, mark_words, in_action_word, out_action_words, pop_words, in_rule_words, out_rule_words, table_lines, rule_lines, ipgoal_words, ipsec_lines}
use Rattle.np_net_read.specs.Judging.{named, kind_of, in_action_of, interface_next, mark_next, out_action_next, match_in, words_say, sa_says, pop_says, inrule_says, outrule_says, auth_says, conf_says}
use Rattle.np_net_read.specs.Tables.{changed_at, no_rules, rule_total, table_at, with_in_rule, with_out_rule, with_pop}
use Rattle.np_net_text.proofs.ChainLaws.{ReadsInto, then_reads}
use Rattle.np_net_text.proofs.FreeLines.{interface_found}
use Rattle.np_net_text.proofs.StatementLines.{stage, area_named, device_named}
use Rattle.np_net_read.proofs.TableLaws.{pop_counts, in_rule_counts, out_rule_counts}

-- ---- rules of all tables, those of one apart

total_parts : (done : List Table) (table : Table) (rest : List Table) → rule_total (done ++ table ∷ rest) ≡ rule_total done + (rule_count table + rule_total rest)
total_parts done table rest =
    rw (sum-map rule_count (done ++ table ∷ rest), sum-map rule_count done, sum-map rule_count rest)
    (omega (arith, sum_by-append rule_count done (table ∷ rest), sum_by-cons rule_count table rest))

total_first : (table : Table) (rest : List Table) → rule_total (table ∷ rest) ≡ rule_count table + rule_total rest
total_first table rest = rw (sum-map rule_count (table ∷ rest), sum-map rule_count rest) (sum_by-cons rule_count table rest)

none_yet : (interfaces : List Interface) → rule_total (map (λ interface. no_rules) interfaces) ≡ 0
none_yet [] = refl
none_yet (interface ∷ interfaces) =
    let others = map (λ (i : Interface). no_rules) interfaces in
    let rest = none_yet interfaces in
    let none : rule_count no_rules + rule_total others ≡ 0 = omega arith in
    total_first no_rules others ∙ none

-- ---- single words

kind_back : (k : Kind) → kind_of (kind_word k) ≡ Ok k
kind_back kind.Esp = refl
kind_back kind.EspEnc = refl
kind_back kind.EspNull = refl
kind_back kind.Ah = refl

in_action_back : (a : InAction) → in_action_of (in_action_word a) ≡ Ok a
in_action_back inward.Bypass = refl
in_action_back inward.Discard = refl

-- ---- what follows the filtering part

module _ (net : Plan) (is : IsNetwork net) (freed : List ℕ) where
  -- what is declared after the filtering part and these associations, rules and goals
  abbrev pub later : List Sa → List Table → List IpGoal → Declared
  later sas tables ipgoals = record (stage net net.interfaces freed net.goals) { sas = sas; tables = tables; ipgoals = ipgoals }

  -- no interface has a rule
  abbrev pub begun : List Table
  begun = map (λ interface. no_rules) net.interfaces

  sa_named : (n : ℕ) → n < length net.sas → named (sa_names net.sas) (sa_name net n) ≡ Ok n
  sa_named n lt = rw (name_found (sa_names net.sas) n is.names.sas (omega (arith, length-map net.sas (λ (sa : Sa). sa.name)))) refl

  -- ---- associations

  sa_read : (before : List Sa) (sa : Sa) → IsSa (length net.devices) sa → list_any (bytes_eq sa.name) (sa_names before) ≡ false → length before < declaration_limit
      → words_say (later before begun []) (sa_words net sa) ≡ Ok (Some (statement.Sa sa))
  unfolding sa_says
  sa_read before sa formed new room =
      rw (formed.name, new, kind_back sa.kind, device_named net is sa.from formed.from, device_named net is sa.to formed.to, lt-ltb (length before) declaration_limit room) refl

  sas_read : (before sas : List Sa) → AreNewAfter bytes_eq (sa_names before) (sa_names sas) → AllByRecursion (λ sa. IsSa (length net.devices) sa) sas → length before + length sas ≤ declaration_limit
      → ReadsInto (later before begun []) (map (sa_words net) sas) (later (before ++ sas) begun [])
  sas_read before [] new formed room = ap (λ sas. later sas begun []) (sym (append-nil before))
  sas_read before (sa ∷ sas) new formed room =
      let rest = sas_read (before ++ sa ∷ []) sas (subst (λ seen. AreNewAfter bytes_eq seen (sa_names sas)) (sym (map-append (λ (s : Sa). s.name) before (sa ∷ []))) new.1) formed.1 (omega (arith, length-append before (sa ∷ []))) in
      (statement.Sa sa, sa_read before sa formed.0 new.0 (omega arith), subst (λ all. ReadsInto (later (before ++ sa ∷ []) begun []) (map (sa_words net) sas) (later all begun [])) (append_assoc before (sa ∷ []) sas) rest)

  -- ---- rules of one interface

  match_read : (tables : List Table) (m : Match) → IsMatch net.sas m → match_in (later net.sas tables []) (match_words net m) ≡ Ok m
  match_read tables (top.Plain pred) h = rw (pred_of_words (source_list net.areas) pred h) refl
  match_read tables (top.Under sa) h = rw (sa_named sa h) refl
  match_read tables top.Every h = refl

  module _ (front back : List Interface) (interface : Interface) (formed : IsInterface (length net.devices) (length net.areas) interface) (e : net.interfaces ≡ front ++ interface ∷ back) where
    device_is : device_of net.interfaces (length front) ≡ interface.device
    device_is =
        ap (λ (interfaces : List Interface). device_of interfaces (length front)) e
        ∙ ap (λ (i : Interface). i.device) (get_or-append_seam front interface back (record { name = []; device = 0; area = 0 }))

    place_read : (tables : List Table) (words : List (List ℕ)) → interface_next (later net.sas tables []) (place_words net interface ++ words) ≡ Ok (length front, words)
    unfolding interface_next
    place_read tables words = rw (device_named net is interface.device formed.device, interface_found net is front back interface e) refl

    ends_here : (sa : ℕ) → IsTo net.sas interface.device sa → ((sa_at net.sas sa).to == device_of net.interfaces (length front)) ≡ true
    ends_here sa h = eq-eqb _ _ (h.ends ∙ sym device_is)

    begins_here : (sa : ℕ) → IsFrom net.sas interface.device sa → ((sa_at net.sas sa).from == device_of net.interfaces (length front)) ≡ true
    begins_here sa h = eq-eqb _ _ (h.begins ∙ sym device_is)

    mark_read : (tables : List Table) (m : MarkTest) (words : List (List ℕ)) → IsMark net.sas interface.device m → mark_next (later net.sas tables []) (length front) (mark_words net m ++ words) ≡ Ok (m, words)
    mark_read tables mark.Unmarked words h = refl
    mark_read tables (mark.Popped sa) words h = rw (sa_named sa h.within, ends_here sa h) refl
    mark_read tables mark.AnyMark words h = refl

    out_action_read : (tables : List Table) (a : OutAction) (words : List (List ℕ)) → IsOutAction net.sas interface.device a → out_action_next (later net.sas tables []) (length front) (out_action_words net a ++ words) ≡ Ok (a, words)
    out_action_read tables (outward.Protect sa) words h = rw (sa_named sa h.within, begins_here sa h) refl
    out_action_read tables outward.Bypass words h = refl
    out_action_read tables outward.Discard words h = refl

    pop_read : (tables : List Table) (sa : ℕ) → IsTo net.sas interface.device sa → list_any (nat_eq sa) (table_at tables (length front)).pops ≡ false → rule_total tables < rule_limit
        → words_say (later net.sas tables []) (pop_words net interface sa) ≡ Ok (Some (statement.Pop (length front) sa))
    unfolding pop_says
    pop_read tables sa h new room =
        rw (place_read tables (sa_name net sa ∷ []), sa_named sa h.within, ends_here sa h, new, lt-ltb (rule_total tables) rule_limit room) refl

    in_rule_read : (tables : List Table) (rule : InRule) → IsInRule net.sas interface.device rule → rule_total tables < rule_limit
        → words_say (later net.sas tables []) (in_rule_words net interface rule) ≡ Ok (Some (statement.InRule (length front) rule))
    unfolding inrule_says
    in_rule_read tables rule h room =
        rw (place_read tables (in_action_word rule.action ∷ (mark_words net rule.mark ++ match_words net rule.top)), in_action_back rule.action, mark_read tables rule.mark (match_words net rule.top) h.mark, match_read tables rule.top h.top, lt-ltb (rule_total tables) rule_limit room) refl

    out_rule_read : (tables : List Table) (rule : OutRule) → IsOutRule net.sas interface.device rule → rule_total tables < rule_limit
        → words_say (later net.sas tables []) (out_rule_words net interface rule) ≡ Ok (Some (statement.OutRule (length front) rule))
    unfolding outrule_says
    out_rule_read tables rule h room =
        rw (place_read tables (out_action_words net rule.action ++ match_words net rule.top), out_action_read tables rule.action (match_words net rule.top) h.action, match_read tables rule.top h.top, lt-ltb (rule_total tables) rule_limit room) refl

    -- the tables of the interfaces before it, and those of the ones after it
    module _ (done rest : List Table) (same : length front ≡ length done) where
      -- what is declared, with these rules of the interface
      abbrev reading : Table → Declared
      reading table = later net.sas (done ++ table ∷ rest) []

      here : (table : Table) → table_at (done ++ table ∷ rest) (length front) ≡ table
      here table = rw (same, get_or-append_seam done table rest no_rules) refl

      changed : (change : Table → Table) (table : Table) → changed_at (length front) change (done ++ table ∷ rest) ≡ done ++ change table ∷ rest
      changed change table = rw (same, get_or-append_seam done table rest no_rules) (set-append_seam done table rest (change table))

      one_more : (change : Table → Table) (table : Table) → rule_count (change table) ≡ rule_count table + 1 → rule_total (done ++ change table ∷ rest) ≡ rule_total (done ++ table ∷ rest) + 1
      one_more change table more = rw (total_parts done (change table) rest, total_parts done table rest) (omega arith)

      pops_read : (table : Table) (pops : List ℕ) → AllByRecursion (λ n. IsTo net.sas interface.device n) pops → AreNewAfter nat_eq table.pops pops → rule_total (done ++ table ∷ rest) + length pops ≤ rule_limit
          → ReadsInto (reading table) (map (pop_words net interface) pops) (reading (record table { pops = table.pops ++ pops }))
      pops_read table [] to new room = ap (λ pops. reading (record table { pops = pops })) (sym (append-nil table.pops))
      pops_read table (sa ∷ pops) to new room =
          let more = one_more (with_pop sa) table (pop_counts sa table) in
          let behind = pops_read (with_pop sa table) pops to.1 new.1 (omega arith) in
          let joined = subst (λ all. ReadsInto (reading (with_pop sa table)) (map (pop_words net interface) pops) (reading (record table { pops = all }))) (append_assoc table.pops (sa ∷ []) pops) behind in (
            statement.Pop (length front) sa,
            pop_read (done ++ table ∷ rest) sa to.0 (rw (here table) new.0) (omega arith),
            subst (λ tables. ReadsInto (later net.sas tables []) (map (pop_words net interface) pops) (reading (record table { pops = table.pops ++ sa ∷ pops }))) (sym (changed (with_pop sa) table)) joined,
          )

      in_rules_read : (table : Table) (rules : List InRule) → AllByRecursion (λ rule. IsInRule net.sas interface.device rule) rules → rule_total (done ++ table ∷ rest) + length rules ≤ rule_limit
          → ReadsInto (reading table) (map (in_rule_words net interface) rules) (reading (record table { ins = table.ins ++ rules }))
      in_rules_read table [] are room = ap (λ ins. reading (record table { ins = ins })) (sym (append-nil table.ins))
      in_rules_read table (rule ∷ rules) are room =
          let more = one_more (with_in_rule rule) table (in_rule_counts rule table) in
          let behind = in_rules_read (with_in_rule rule table) rules are.1 (omega arith) in
          let joined = subst (λ all. ReadsInto (reading (with_in_rule rule table)) (map (in_rule_words net interface) rules) (reading (record table { ins = all }))) (append_assoc table.ins (rule ∷ []) rules) behind in (
            statement.InRule (length front) rule,
            in_rule_read (done ++ table ∷ rest) rule are.0 (omega arith),
            subst (λ tables. ReadsInto (later net.sas tables []) (map (in_rule_words net interface) rules) (reading (record table { ins = table.ins ++ rule ∷ rules }))) (sym (changed (with_in_rule rule) table)) joined,
          )

      out_rules_read : (table : Table) (rules : List OutRule) → AllByRecursion (λ rule. IsOutRule net.sas interface.device rule) rules → rule_total (done ++ table ∷ rest) + length rules ≤ rule_limit
          → ReadsInto (reading table) (map (out_rule_words net interface) rules) (reading (record table { outs = table.outs ++ rules }))
      out_rules_read table [] are room = ap (λ outs. reading (record table { outs = outs })) (sym (append-nil table.outs))
      out_rules_read table (rule ∷ rules) are room =
          let more = one_more (with_out_rule rule) table (out_rule_counts rule table) in
          let behind = out_rules_read (with_out_rule rule table) rules are.1 (omega arith) in
          let joined = subst (λ all. ReadsInto (reading (with_out_rule rule table)) (map (out_rule_words net interface) rules) (reading (record table { outs = all }))) (append_assoc table.outs (rule ∷ []) rules) behind in (
            statement.OutRule (length front) rule,
            out_rule_read (done ++ table ∷ rest) rule are.0 (omega arith),
            subst (λ tables. ReadsInto (later net.sas tables []) (map (out_rule_words net interface) rules) (reading (record table { outs = table.outs ++ rule ∷ rules }))) (sym (changed (with_out_rule rule) table)) joined,
          )

      table_read : (table : Table) → IsTable net.sas interface.device table → rule_total done + (rule_count table + rule_total rest) ≤ rule_limit → ReadsInto (reading no_rules) (table_lines net interface table) (reading table)
      table_read table h room =
          let popped : Table = record { pops = table.pops; ins = []; outs = [] } in
          let entered : Table = record { pops = table.pops; ins = table.ins; outs = [] } in
          let nothing = total_parts done no_rules rest in
          let after_pops = total_parts done popped rest in
          let after_ins = total_parts done entered rest in
          let pops = pops_read no_rules table.pops h.pops h.once (omega arith) in
          let ins = in_rules_read popped table.ins h.ins (omega arith) in
          let outs = out_rules_read entered table.outs h.outs (omega arith) in
          then_reads (reading no_rules) (reading popped) (reading table) (map (pop_words net interface) table.pops) _ pops
          (then_reads (reading popped) (reading entered) (reading table) (map (in_rule_words net interface) table.ins) (map (out_rule_words net interface) table.outs) ins outs)

  -- ---- rules of all interfaces

  rules_from : (front interfaces : List Interface) (done tables : List Table) → net.interfaces ≡ front ++ interfaces → AllByRecursion (λ interface. IsInterface (length net.devices) (length net.areas) interface) interfaces
      → length front ≡ length done → AreTables net.sas interfaces tables → rule_total done + rule_total tables ≤ rule_limit
      → ReadsInto (later net.sas (done ++ map (λ interface. no_rules) interfaces) []) (rule_lines net interfaces tables) (later net.sas (done ++ tables) [])
  rules_from front [] done [] e formed same are room = refl
  rules_from front [] done (table ∷ tables) e formed same are room = absurd are
  rules_from front (interface ∷ interfaces) done [] e formed same are room = absurd are
  rules_from front (interface ∷ interfaces) done (table ∷ tables) e formed same are room =
      let rest = map (λ (interface : Interface). no_rules) interfaces in
      let none = none_yet interfaces in
      let first = total_first table tables in
      let before = total_parts done table [] in
      let own = table_read front interfaces interface formed.0 e done rest same table are.0 (omega arith) in
      let others = rules_from (front ++ interface ∷ []) interfaces (done ++ table ∷ []) tables (e ∙ sym (append_assoc front (interface ∷ []) interfaces)) formed.1 (omega (arith, length-append front (interface ∷ []), length-append done (table ∷ []))) are.1 (omega arith) in
      let begins = subst (λ tables'. ReadsInto (later net.sas tables' []) (rule_lines net interfaces tables) (later net.sas ((done ++ table ∷ []) ++ tables) [])) (append_assoc done (table ∷ []) rest) others in
      then_reads (later net.sas (done ++ no_rules ∷ rest) []) (later net.sas (done ++ table ∷ rest) []) _ (table_lines net interface table) (rule_lines net interfaces tables) own
      (subst (λ all. ReadsInto (later net.sas (done ++ table ∷ rest) []) (rule_lines net interfaces tables) (later net.sas all [])) (append_assoc done (table ∷ []) tables) begins)

  rules_read : ReadsInto (later net.sas begun []) (rule_lines net net.interfaces net.tables) (later net.sas net.tables [])
  rules_read = let room = is.limits.rules in rules_from [] net.interfaces [] net.tables refl is.interfaces refl is.tables (omega arith)

  -- ---- goals

  ipgoal_read : (before : List IpGoal) (goal : IpGoal) → IsIpGoal (length net.areas) goal → length before < declaration_limit
      → words_say (later net.sas net.tables before) (ipgoal_words net goal) ≡ Ok (Some (statement.IpGoal goal))
  unfolding auth_says conf_says
  ipgoal_read before (ipgoal.Auth from at pred) h room =
      rw (area_named net is from h.0, area_named net is at h.1, pred_of_words (source_list net.areas) pred h.2, lt-ltb (length before) declaration_limit room) refl
  ipgoal_read before (ipgoal.Conf from pred) h room =
      rw (area_named net is from h.0, pred_of_words (source_list net.areas) pred h.1, lt-ltb (length before) declaration_limit room) refl

  ipgoals_read : (before goals : List IpGoal) → AllByRecursion (λ goal. IsIpGoal (length net.areas) goal) goals → length before + length goals ≤ declaration_limit
      → ReadsInto (later net.sas net.tables before) (map (ipgoal_words net) goals) (later net.sas net.tables (before ++ goals))
  ipgoals_read before [] formed room = ap (λ goals. later net.sas net.tables goals) (sym (append-nil before))
  ipgoals_read before (goal ∷ goals) formed room =
      let rest = ipgoals_read (before ++ goal ∷ []) goals formed.1 (omega (arith, length-append before (goal ∷ []))) in
      (statement.IpGoal goal, ipgoal_read before goal formed.0 (omega arith), subst (λ all. ReadsInto (later net.sas net.tables (before ++ goal ∷ [])) (map (ipgoal_words net) goals) (later net.sas net.tables all)) (append_assoc before (goal ∷ []) goals) rest)

  -- ---- all lines

  pub ipsec_read : ReadsInto (later [] begun []) (ipsec_lines net) (later net.sas net.tables net.ipgoals)
  ipsec_read =
      let some_sas = is.limits.sas in
      let some_goals = is.limits.ipgoals in
      then_reads (later [] begun []) (later net.sas begun []) (later net.sas net.tables net.ipgoals) (map (sa_words net) net.sas) _ (sas_read [] net.sas is.names.sas is.sas (omega arith))
      (then_reads (later net.sas begun []) (later net.sas net.tables []) (later net.sas net.tables net.ipgoals) (rule_lines net net.interfaces net.tables) (map (ipgoal_words net) net.ipgoals) rules_read (ipgoals_read [] net.ipgoals is.ipgoals (omega arith)))
