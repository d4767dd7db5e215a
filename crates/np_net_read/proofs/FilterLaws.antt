-- A rule names an interface on an earlier line, so the rules of an interface are those of all statements that name it.
use Rattle.std.proofs.Common.{◌≡◌, ◌==◌, ℕ, ◌+◌, ◌<◌, ◌≤◌, zero, suc, false, List, [], ◌∷◌, ◌++◌, length, map, Option, Some, None, refl, ap, subst, ◌∙◌, arith}
use Rattle.std.specs.Prelude.{Ok, Err, codes, position}
use Rattle.std.specs.List.{filter_map, list_all, range_with_len}
use Rattle.std.specs.Option.{ok_or}
use Rattle.std.specs.Str.{bytes_eq}
use Rattle.std.proofs.lemmas.Bool.{ne_eqb}
use Rattle.std.proofs.lemmas.List.{length-map}
use Rattle.std.proofs.lemmas.List.Quantifiers.{position-Some}
use Rattle.np_text.specs.Lines.{lines_of}
use Rattle.np_text.specs.Words.{words_of}
use Rattle.np_lines.specs.Judging.{Judged, ◌>>=◌, ended, within, word_in}
use Rattle.np_lines.specs.Reading.{and_one, at_line, statements_from}
use Rattle.np_lines.specs.Skipping.{begins_with, is_text_byte}
use Rattle.np_lines.specs.declared.fault.LineFault.{LineFault}
use Rattle.np_lines.proofs.HoldingLaws.{Holds, holds, faulty, after, onward, either_way, at_line_holds, ended_holds, within_holds}
use Rattle.np_net.specs.Distinct.{same_place}
use Rattle.np_net.specs.Limits.{declaration_limit, interface_limit, rule_limit}
use Rattle.np_net.specs.Plan.{Plan, area_names, device_names, interface_names, sa_names}
use Rattle.np_net.specs.declared.filtering.Interface.{Interface}
use Rattle.np_net.specs.declared.associations.IpGoal.TheVariants as ipgoal
use Rattle.np_net_read.specs.declared.declared.Declared.{Declared}
use Rattle.np_net_read.specs.declared.fault.NetWhy.{NetWhy}
use Rattle.np_net_read.specs.declared.fault.NetWhy.TheVariants as why
use Rattle.np_net_read.specs.declared.statement.Statement.{Statement}
use Rattle.np_net_read.specs.declared.statement.Statement.TheVariants as statement
use Rattle.np_net_read.specs.Declaring.{declared_by_network, interface_in, network_of, table_of, tables_from}
use Rattle.np_net_read.specs.Judging.{area_next, area_says, auth_says, conf_says, depth_of, depth_says, device_next, device_says, ending_next, free_says, goal_says, in_action_of, inrule_says, interface_named, interface_next, interface_says, ipsec_says, kind_of, line_says, mark_next, match_in, named, new_interface_name, new_name, new_pop, new_slot, only_of, options_of, other_than, out_action_next, outrule_says, pop_says, pred_in, sa_says, slot_of, sources_of, statement_says, trusted_of, undeclared, words_say}
use Rattle.np_net_read.specs.Reading.{net_of}
use Rattle.np_net_read.specs.Statements.{TablesAreFilters, statements_of, tables_of}
use Rattle.np_net_read.specs.Tables.{rule_total}

-- ---- a rule's interface

-- a rule is one of so many interfaces
abbrev IsRuleWithin : ℕ → Statement → Type 0
IsRuleWithin count (statement.Pop interface sa) = interface < count
IsRuleWithin count (statement.InRule interface rule) = interface < count
IsRuleWithin count (statement.OutRule interface rule) = interface < count
IsRuleWithin count other = Unit {0}

-- an interface that is found is one of them
found_within : (interfaces : List Interface) (device : ℕ) (word : List ℕ) → (o : Option ℕ) → position (same_place (device, word)) (interface_names interfaces) ≡ o → Holds (λ n. n < length interfaces) (ok_or o why.UnknownName)
found_within interfaces device word None is = faulty _ _
found_within interfaces device word (Some n) is =
    let within : n < length (interface_names interfaces) = (position-Some (same_place (device, word)) (interface_names interfaces) n (0, []) is).0 in
    holds _ n (subst (λ count. n < count) (length-map interfaces (λ (i : Interface). (i.device, i.name))) within)

module _ (declared : Declared) where
  -- what a statement says is a rule of an interface that is declared, or no rule
  abbrev Fits : Statement → Type 0
  Fits s = IsRuleWithin (length declared.interfaces) s

  next_within : (words : List (List ℕ)) → Holds (λ read. read.0 < length declared.interfaces) (interface_next declared words)
  unfolding interface_next
  next_within words =
      onward Within (device_next declared words) _ (λ device.
      onward Within (word_in why.BadShape device.1) _ (λ name.
      after (λ n. n < length declared.interfaces) Within (interface_named (interface_names declared.interfaces) device.0 name.0) _
      (found_within declared.interfaces device.0 name.0 _ refl) (λ i h. holds Within (i, name.1) h)))
    where
      Within : ℕ × List (List ℕ) → Type 0
      Within read = read.0 < length declared.interfaces

  -- a statement that fits where there is room for it
  room_holds : (limit count : ℕ) (s : Statement) → Fits s → Holds Fits (within why.TooMany limit count s)
  room_holds limit count s h = within_holds Fits why.TooMany limit count s h

  -- ---- statements that are no rules

  depth_fits : (words : List (List ℕ)) → Holds Fits (depth_says declared words)
  unfolding depth_says
  depth_fits words =
      onward Fits (undeclared declared.depth words) _ (λ words.
      onward Fits (word_in why.BadShape words) _ (λ depth.
      onward Fits (depth_of depth.0) _ (λ d.
      ended_holds Fits why.BadShape depth.1 (statement.Depth d) tt)))

  area_fits : (words : List (List ℕ)) → Holds Fits (area_says declared words)
  unfolding area_says
  area_fits words =
      onward Fits (word_in why.BadShape words) _ (λ name.
      onward Fits (new_name (area_names declared.areas) name.0) _ (λ n.
      onward Fits (word_in why.BadShape name.1) _ (λ addresses.
      onward Fits (sources_of addresses.0) _ (λ s.
      onward Fits (trusted_of addresses.1) _ (λ t.
      room_holds declaration_limit (length declared.areas) (statement.Area (record { name = n; sources = s; trusted = t })) tt)))))

  device_fits : (words : List (List ℕ)) → Holds Fits (device_says declared words)
  unfolding device_says
  device_fits words =
      onward Fits (word_in why.BadShape words) _ (λ name.
      onward Fits (new_name (device_names declared.devices) name.0) _ (λ n.
      onward Fits (options_of name.1) _ (λ options.
      room_holds declaration_limit (length declared.devices) (statement.Device (record { name = n; config = options.0; trusted = options.1 })) tt)))

  interface_fits : (words : List (List ℕ)) → Holds Fits (interface_says declared words)
  unfolding interface_says
  interface_fits words =
      onward Fits (word_in why.BadShape words) _ (λ device.
      onward Fits (named (device_names declared.devices) device.0) _ (λ d.
      onward Fits (word_in why.BadShape device.1) _ (λ name.
      onward Fits (new_interface_name (interface_names declared.interfaces) d name.0) _ (λ n.
      onward Fits (word_in why.BadShape name.1) _ (λ area.
      onward Fits (named (area_names declared.areas) area.0) _ (λ a.
      onward Fits (ended why.BadShape area.1 a) _ (λ a.
      room_holds interface_limit (length declared.interfaces) (statement.Interface (record { name = n; device = d; area = a })) tt)))))))

  free_fits : (words : List (List ℕ)) → Holds Fits (free_says declared words)
  unfolding free_says
  free_fits words =
      onward Fits (word_in why.BadShape words) _ (λ device.
      onward Fits (named (device_names declared.devices) device.0) _ (λ d.
      onward Fits (word_in why.BadShape device.1) _ (λ name.
      onward Fits (interface_named (interface_names declared.interfaces) d name.0) _ (λ i.
      onward Fits (word_in why.BadShape name.1) _ (λ way.
      onward Fits (slot_of i way.0) _ (λ slot.
      onward Fits (new_slot declared.freed slot) _ (λ slot.
      ended_holds Fits why.BadShape way.1 (statement.Free slot) tt)))))))

  goal_fits : (words : List (List ℕ)) → Holds Fits (goal_says declared words)
  unfolding goal_says
  goal_fits words =
      onward Fits (word_in why.BadShape words) _ (λ from.
      onward Fits (named (area_names declared.areas) from.0) _ (λ f.
      onward Fits (word_in why.BadShape from.1) _ (λ to.
      onward Fits (named (area_names declared.areas) to.0) _ (λ t.
      onward Fits (other_than f t) _ (λ t.
      onward Fits (word_in why.BadShape to.1) _ (λ keyword.
      onward Fits (only_of keyword.0) _ (λ o.
      onward Fits (pred_in declared keyword.1) _ (λ p.
      room_holds declaration_limit (length declared.goals) (statement.Goal (record { from = f; to = t; only = o; pred = p })) tt))))))))

  sa_fits : (words : List (List ℕ)) → Holds Fits (sa_says declared words)
  unfolding sa_says
  sa_fits words =
      onward Fits (word_in why.BadShape words) _ (λ name.
      onward Fits (new_name (sa_names declared.sas) name.0) _ (λ n.
      onward Fits (word_in why.BadShape name.1) _ (λ word.
      onward Fits (kind_of word.0) _ (λ k.
      onward Fits (device_next declared word.1) _ (λ from.
      onward Fits (device_next declared from.1) _ (λ to.
      onward Fits (ended why.BadShape to.1 to.0) _ (λ t.
      room_holds declaration_limit (length declared.sas) (statement.Sa (record { name = n; kind = k; from = from.0; to = t })) tt)))))))

  auth_fits : (words : List (List ℕ)) → Holds Fits (auth_says declared words)
  unfolding auth_says
  auth_fits words =
      onward Fits (area_next declared words) _ (λ from.
      onward Fits (area_next declared from.1) _ (λ at.
      onward Fits (pred_in declared at.1) _ (λ p.
      room_holds declaration_limit (length declared.ipgoals) (statement.IpGoal (ipgoal.Auth from.0 at.0 p)) tt)))

  conf_fits : (words : List (List ℕ)) → Holds Fits (conf_says declared words)
  unfolding conf_says
  conf_fits words =
      onward Fits (area_next declared words) _ (λ from.
      onward Fits (pred_in declared from.1) _ (λ p.
      room_holds declaration_limit (length declared.ipgoals) (statement.IpGoal (ipgoal.Conf from.0 p)) tt))

  -- ---- rules

  pop_fits : (words : List (List ℕ)) → Holds Fits (pop_says declared words)
  unfolding pop_says
  pop_fits words =
      after (λ read. read.0 < length declared.interfaces) Fits (interface_next declared words) _ (next_within words) (λ interface h.
      onward Fits (ending_next declared interface.0 interface.1) _ (λ sa.
      onward Fits (new_pop declared interface.0 sa.0) _ (λ s.
      onward Fits (ended why.BadShape sa.1 s) _ (λ s.
      room_holds rule_limit (rule_total declared.tables) (statement.Pop interface.0 s) h))))

  inrule_fits : (words : List (List ℕ)) → Holds Fits (inrule_says declared words)
  unfolding inrule_says
  inrule_fits words =
      after (λ read. read.0 < length declared.interfaces) Fits (interface_next declared words) _ (next_within words) (λ interface h.
      onward Fits (word_in why.BadShape interface.1) _ (λ word.
      onward Fits (in_action_of word.0) _ (λ a.
      onward Fits (mark_next declared interface.0 word.1) _ (λ m.
      onward Fits (match_in declared m.1) _ (λ t.
      room_holds rule_limit (rule_total declared.tables) (statement.InRule interface.0 (record { action = a; mark = m.0; top = t })) h)))))

  outrule_fits : (words : List (List ℕ)) → Holds Fits (outrule_says declared words)
  unfolding outrule_says
  outrule_fits words =
      after (λ read. read.0 < length declared.interfaces) Fits (interface_next declared words) _ (next_within words) (λ interface h.
      onward Fits (out_action_next declared interface.0 interface.1) _ (λ action.
      onward Fits (match_in declared action.1) _ (λ t.
      room_holds rule_limit (rule_total declared.tables) (statement.OutRule interface.0 (record { action = action.0; top = t })) h)))

  -- ---- lines

  ipsec_fits : (word : List ℕ) (words : List (List ℕ)) → Holds Fits (ipsec_says declared word words)
  ipsec_fits word words =
      either_way Fits (bytes_eq word (codes "sa")) _ _ (sa_fits words)
      (either_way Fits (bytes_eq word (codes "pop")) _ _ (pop_fits words)
      (either_way Fits (bytes_eq word (codes "inrule")) _ _ (inrule_fits words)
      (either_way Fits (bytes_eq word (codes "outrule")) _ _ (outrule_fits words)
      (either_way Fits (bytes_eq word (codes "auth")) _ _ (auth_fits words)
      (either_way Fits (bytes_eq word (codes "conf")) _ _ (conf_fits words) (faulty _ _))))))

  statement_fits : (word : List ℕ) (words : List (List ℕ)) → Holds Fits (statement_says declared word words)
  statement_fits word words =
      either_way Fits (bytes_eq word (codes "depth")) _ _ (depth_fits words)
      (either_way Fits (bytes_eq word (codes "area")) _ _ (area_fits words)
      (either_way Fits (bytes_eq word (codes "device")) _ _ (device_fits words)
      (either_way Fits (bytes_eq word (codes "interface")) _ _ (interface_fits words)
      (either_way Fits (bytes_eq word (codes "free")) _ _ (free_fits words)
      (either_way Fits (bytes_eq word (codes "goal")) _ _ (goal_fits words) (ipsec_fits word words))))))

  -- so is the statement of a line, where it has one
  abbrev IfFits : Option Statement → Type 0
  IfFits None = Unit {0}
  IfFits (Some s) = Fits s

  words_fit : (words : List (List ℕ)) → Holds IfFits (words_say declared words)
  words_fit [] = holds _ _ tt
  words_fit (word ∷ words) =
      either_way IfFits (begins_with 35 word) _ _ (holds _ _ tt) (after Fits IfFits (statement_says declared word words) _ (statement_fits word words) (λ s h. holds _ _ h))

  line_fits : (line : List ℕ) → Holds IfFits (line_says declared line)
  unfolding line_says
  line_fits line = either_way IfFits (list_all is_text_byte line) _ _ (words_fit (words_of line)) (faulty _ _)

-- ---- statements in order

-- after so many interfaces, each rule is one of the interfaces that stand before it
abbrev AreInOrder : ℕ → List Statement → Type 0
AreInOrder count [] = Unit {0}
AreInOrder count (statement.Interface interface ∷ statements) = AreInOrder (count + 1) statements
AreInOrder count (other ∷ statements) = IsRuleWithin count other × AreInOrder count statements

-- the number of interfaces that statements declare
abbrev interface_count : List Statement → ℕ
interface_count statements = length (filter_map interface_in statements)

-- one more in order
order_more : (count n : ℕ) (before : List Statement) (s : Statement) → n ≡ count + interface_count before → AreInOrder count before → IsRuleWithin n s → AreInOrder count (before ++ s ∷ [])
order_more count n [] (statement.Interface interface) all order fits = tt
order_more count n [] other all order fits =
    let none : n ≡ count + 0 = all in
    let same : n ≡ count = omega arith in
    (subst (λ k. IsRuleWithin k other) same fits, tt)
order_more count n (statement.Interface interface ∷ before) s all order fits =
    let one : n ≡ count + suc (interface_count before) = all in
    order_more (count + 1) n before s (omega arith) order fits
order_more count n (other ∷ before) s all order fits = (order.0, order_more count n before s all order.1 fits)

-- what is the same for each number from this one on
map_same : {X : Type 0} (f g : ℕ → X) (from count : ℕ) → ((n : ℕ) → from ≤ n → f n ≡ g n) → map f (range_with_len from count) ≡ map g (range_with_len from count)
map_same f g from zero same = refl
map_same f g from (suc count) same = λ i. same from (omega arith) i ∷ map_same f g (from + 1) count (λ n h. same n (omega arith)) i

-- a rule of an interface before these
other_number : (k n count : ℕ) → k < count → count ≤ n → (k == n) ≡ false
other_number k n count below above = ne_eqb k n (λ e. absurd (omega arith))

-- the tables of the interfaces from this number on are filters of all these statements, which are in order
tables_filtered : (count : ℕ) (statements : List Statement) → AreInOrder count statements → tables_from count statements ≡ map (λ n. table_of n statements) (range_with_len count (interface_count statements))
tables_filtered count [] order = refl
tables_filtered count (statement.Interface interface ∷ statements) order = ap (λ tables. table_of count statements ∷ tables) (tables_filtered (count + 1) statements order)
tables_filtered count (statement.Pop k sa ∷ statements) order =
    tables_filtered count statements order.1
    ∙ map_same (λ n. table_of n statements) (λ n. table_of n (statement.Pop k sa ∷ statements)) count (interface_count statements) (λ n above. rw (other_number k n count order.0 above) refl)
tables_filtered count (statement.InRule k rule ∷ statements) order =
    tables_filtered count statements order.1
    ∙ map_same (λ n. table_of n statements) (λ n. table_of n (statement.InRule k rule ∷ statements)) count (interface_count statements) (λ n above. rw (other_number k n count order.0 above) refl)
tables_filtered count (statement.OutRule k rule ∷ statements) order =
    tables_filtered count statements order.1
    ∙ map_same (λ n. table_of n statements) (λ n. table_of n (statement.OutRule k rule ∷ statements)) count (interface_count statements) (λ n above. rw (other_number k n count order.0 above) refl)
tables_filtered count (other ∷ statements) order = tables_filtered count statements order.1

-- ---- texts

line_in_order : (before : List Statement) (line : List ℕ) → AreInOrder 0 before → Holds (λ said. AreInOrder 0 (and_one before said)) (line_says (declared_by_network before) line)
unfolding declared_by_network
line_in_order before line order = by (line_says (declared_by_network before) line) (line_fits (declared_by_network before) line) where
  by : (j : Judged NetWhy (Option Statement)) → Holds (IfFits (declared_by_network before)) j → Holds (λ said. AreInOrder 0 (and_one before said)) j
  by (Ok None) fits = holds _ _ order
  by (Ok (Some s)) fits = holds _ _ (order_more 0 (interface_count before) before s (omega arith) order (fits.of (Some s) refl))
  by (Err fault) fits = faulty _ _

lines_in_order : (before : List Statement) (number : ℕ) (lines : List (List ℕ)) → AreInOrder 0 before → Holds (AreInOrder 0) (statements_from (λ earlier. line_says (declared_by_network earlier)) before number lines)
lines_in_order before number [] order = holds _ _ order
lines_in_order before number (line ∷ lines) order =
    after (λ said. AreInOrder 0 (and_one before said)) (AreInOrder 0) (at_line number (line_says (declared_by_network before) line)) _
    (at_line_holds _ number _ (line_in_order before line order))
    (λ said h. lines_in_order (and_one before said) (number + 1) lines h)

-- the network of statements in order
network_filtered : (judged : Judged (LineFault NetWhy) (List Statement)) (net : Plan) → Holds (AreInOrder 0) judged → (judged >>= λ statements. Ok (network_of (declared_by_network statements))) ≡ Ok net
    → (statements : List Statement) × (judged ≡ Ok statements) × (net.tables ≡ tables_of (length net.interfaces) statements)
unfolding network_of declared_by_network
network_filtered (Err fault) net order is = cc
network_filtered (Ok statements) net order is =
    let same : network_of (declared_by_network statements) ≡ net = cc in
    (statements, refl, subst (λ (n : Plan). n.tables ≡ tables_of (length n.interfaces) statements) same made)
  where
    made : (network_of (declared_by_network statements)).tables ≡ tables_of (length (network_of (declared_by_network statements)).interfaces) statements
    made = tables_filtered 0 statements (order.of statements refl)

pub all_filtered : (text : List ℕ) (net : Plan) → net_of text ≡ Ok net → TablesAreFilters text net
all_filtered text net is =
    let all = network_filtered (statements_of text) net (lines_in_order [] 1 (lines_of text) tt) is in
    record { statements = all.0; said = all.1; tables = all.2 }
