-- The tables of interfaces, with one rule, one interface or one association more.
use Rattle.std.proofs.Common.{◌≡◌, ℕ, zero, suc, ◌+◌, ◌<◌, nat_eq, false, List, [], ◌∷◌, ◌++◌, length, refl, arith}
use Rattle.std.proofs.Math.ListN.{get_or-append}
use Rattle.std.proofs.lemmas.List.Sums.{sum-map, sum_by_push, sum_by-set}
use Rattle.std.specs.List.{list_any}
use Rattle.np_net.specs.Network.{IsTo, IsFrom, IsMark, IsMatch, IsOutAction, IsInRule, IsOutRule, IsTable, AreTables, rule_count, sa_at}
use Rattle.np_net.specs.Path.{device_of}
use Rattle.np_net.specs.declared.filtering.Interface.{Interface}
use Rattle.np_net.specs.declared.associations.Kind.TheVariants as kind
use Rattle.np_net.specs.declared.associations.Sa.{Sa}
use Rattle.np_net.specs.declared.associations.Match.{Match}
use Rattle.np_net.specs.declared.associations.Match.TheVariants as top
use Rattle.np_net.specs.declared.associations.MarkTest.{MarkTest}
use Rattle.np_net.specs.declared.associations.MarkTest.TheVariants as mark
use Rattle.np_net.specs.declared.associations.OutAction.{OutAction}
use Rattle.np_net.specs.declared.associations.OutAction.TheVariants as outward
use Rattle.np_net.specs.declared.associations.InRule.{InRule}
use Rattle.np_net.specs.declared.associations.OutRule.{OutRule}
use Rattle.np_net.specs.declared.associations.Table.{Table}
use Rattle.np_net_read.specs.Tables.{changed_at, no_rules, rule_total, table_at, with_in_rule, with_out_rule, with_pop}
use Rattle.np_net_read.proofs.ListLaws.{all_more, all_weaker, length_more, new_more}

-- ---- one more association

module _ (sas : List Sa) (sa : Sa) where
  -- those before it stand where they stood
  sa_at_more : (n : ℕ) → n < length sas → sa_at (sas ++ sa ∷ []) n ≡ sa_at sas n
  sa_at_more n lt = get_or-append sas (sa ∷ []) (record { name = []; kind = kind.Esp; from = 0; to = 0 }) n lt

  below_more : (n : ℕ) → n < length sas → n < length (sas ++ sa ∷ [])
  below_more n lt = let more = length_more sas sa in omega arith

  to_stays : (device n : ℕ) → IsTo sas device n → IsTo (sas ++ sa ∷ []) device n
  to_stays device n is = record { within = below_more n is.within; ends = rw (sa_at_more n is.within) is.ends }

  from_stays : (device n : ℕ) → IsFrom sas device n → IsFrom (sas ++ sa ∷ []) device n
  from_stays device n is = record { within = below_more n is.within; begins = rw (sa_at_more n is.within) is.begins }

  match_stays : (m : Match) → IsMatch sas m → IsMatch (sas ++ sa ∷ []) m
  match_stays (top.Plain pred) is = is
  match_stays (top.Under n) is = below_more n is
  match_stays top.Every is = tt

  mark_stays : (device : ℕ) (m : MarkTest) → IsMark sas device m → IsMark (sas ++ sa ∷ []) device m
  mark_stays device mark.Unmarked is = tt
  mark_stays device (mark.Popped n) is = to_stays device n is
  mark_stays device mark.AnyMark is = tt

  action_stays : (device : ℕ) (a : OutAction) → IsOutAction sas device a → IsOutAction (sas ++ sa ∷ []) device a
  action_stays device (outward.Protect n) is = from_stays device n is
  action_stays device outward.Bypass is = tt
  action_stays device outward.Discard is = tt

  in_rule_stays : (device : ℕ) (r : InRule) → IsInRule sas device r → IsInRule (sas ++ sa ∷ []) device r
  in_rule_stays device r is = record { mark = mark_stays device r.mark is.mark; top = match_stays r.top is.top }

  out_rule_stays : (device : ℕ) (r : OutRule) → IsOutRule sas device r → IsOutRule (sas ++ sa ∷ []) device r
  out_rule_stays device r is = record { action = action_stays device r.action is.action; top = match_stays r.top is.top }

  table_stays : (device : ℕ) (t : Table) → IsTable sas device t → IsTable (sas ++ sa ∷ []) device t
  table_stays device t is = record {
    pops = all_weaker _ _ t.pops (to_stays device) is.pops;
    once = is.once;
    ins = all_weaker _ _ t.ins (in_rule_stays device) is.ins;
    outs = all_weaker _ _ t.outs (out_rule_stays device) is.outs;
  }

  pub tables_stay : (interfaces : List Interface) (tables : List Table) → AreTables sas interfaces tables → AreTables (sas ++ sa ∷ []) interfaces tables
  tables_stay [] [] are = tt
  tables_stay [] (t ∷ tables) are = absurd are
  tables_stay (i ∷ interfaces) [] are = absurd are
  tables_stay (i ∷ interfaces) (t ∷ tables) are = (table_stays i.device t are.0, tables_stay interfaces tables are.1)

-- ---- one more interface

-- there is a table for each interface
pub table_each : (sas : List Sa) (interfaces : List Interface) (tables : List Table) → AreTables sas interfaces tables → length tables ≡ length interfaces
table_each sas [] [] are = refl
table_each sas [] (t ∷ tables) are = absurd are
table_each sas (i ∷ interfaces) [] are = absurd are
table_each sas (i ∷ interfaces) (t ∷ tables) are = let rest = table_each sas interfaces tables are.1 in omega arith

pub table_more : (sas : List Sa) (interfaces : List Interface) (interface : Interface) (tables : List Table) → AreTables sas interfaces tables → AreTables sas (interfaces ++ interface ∷ []) (tables ++ no_rules ∷ [])
table_more sas [] interface [] are = (record { pops = tt; once = tt; ins = tt; outs = tt }, tt)
table_more sas [] interface (t ∷ tables) are = absurd are
table_more sas (i ∷ interfaces) interface [] are = absurd are
table_more sas (i ∷ interfaces) interface (t ∷ tables) are = (are.0, table_more sas interfaces interface tables are.1)

-- its table has no rules
pub total_begun : (tables : List Table) → rule_total (tables ++ no_rules ∷ []) ≡ rule_total tables
total_begun tables = rw (sum-map rule_count (tables ++ no_rules ∷ []), sum-map rule_count tables) (omega (arith, sum_by_push rule_count tables no_rules))

-- ---- one more rule

module _ (change : Table → Table) where
  -- the table that is changed is one of its interface again
  pub tables_changed : (sas : List Sa) (interfaces : List Interface) (tables : List Table) (n : ℕ) → AreTables sas interfaces tables → n < length interfaces
      → (IsTable sas (device_of interfaces n) (table_at tables n) → IsTable sas (device_of interfaces n) (change (table_at tables n)))
      → AreTables sas interfaces (changed_at n change tables)
  tables_changed sas [] tables n are lt is = absurd (omega arith)
  tables_changed sas (i ∷ interfaces) [] n are lt is = absurd are
  tables_changed sas (i ∷ interfaces) (t ∷ tables) zero are lt is = (is are.0, are.1)
  tables_changed sas (i ∷ interfaces) (t ∷ tables) (suc n) are lt is = (are.0, tables_changed sas interfaces tables n are.1 (omega arith) is)

  -- and there is one rule more
  pub total_changed : ((t : Table) → rule_count (change t) ≡ rule_count t + 1) → (tables : List Table) (n : ℕ) → n < length tables → rule_total (changed_at n change tables) ≡ rule_total tables + 1
  total_changed one tables n lt =
      let changed = sum_by-set rule_count tables n (change (table_at tables n)) no_rules lt in
      let more = one (table_at tables n) in
      rw (sum-map rule_count (changed_at n change tables), sum-map rule_count tables) (omega arith)

pub pop_counts : (sa : ℕ) (t : Table) → rule_count (with_pop sa t) ≡ rule_count t + 1
pop_counts sa t = let more = length_more t.pops sa in omega arith

pub in_rule_counts : (rule : InRule) (t : Table) → rule_count (with_in_rule rule t) ≡ rule_count t + 1
in_rule_counts rule t = let more = length_more t.ins rule in omega arith

pub out_rule_counts : (rule : OutRule) (t : Table) → rule_count (with_out_rule rule t) ≡ rule_count t + 1
out_rule_counts rule t = let more = length_more t.outs rule in omega arith

module _ (sas : List Sa) (device : ℕ) (t : Table) (is : IsTable sas device t) where
  pub pop_added : (sa : ℕ) → IsTo sas device sa → list_any (nat_eq sa) t.pops ≡ false → IsTable sas device (with_pop sa t)
  pop_added sa to new = record {
    pops = all_more _ t.pops sa is.pops to;
    once = new_more nat_eq [] t.pops sa is.once new;
    ins = is.ins;
    outs = is.outs;
  }

  pub in_rule_added : (rule : InRule) → IsInRule sas device rule → IsTable sas device (with_in_rule rule t)
  in_rule_added rule formed = record {
    pops = is.pops;
    once = is.once;
    ins = all_more _ t.ins rule is.ins formed;
    outs = is.outs;
  }

  pub out_rule_added : (rule : OutRule) → IsOutRule sas device rule → IsTable sas device (with_out_rule rule t)
  out_rule_added rule formed = record {
    pops = is.pops;
    once = is.once;
    ins = is.ins;
    outs = all_more _ t.outs rule is.outs formed;
  }
