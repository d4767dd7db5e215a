-- What is declared grows by one statement at a time.
use Rattle.std.proofs.Common.{◌≡◌, ◌==◌, ℕ, zero, suc, ◌+◌, ◌<◌, true, false, List, [], ◌∷◌, ◌++◌, Option, Some, append-nil, eq-eqb, refl, ap, arith}
use Rattle.std.proofs.lemmas.Bool.{ne_eqb}
use Rattle.std.proofs.lemmas.List.Elements.{filter_map-append}
use Rattle.np_lines.specs.Declaring.{GrowsBy}
use Rattle.np_lines.proofs.LastLaws.{last_more}
use Rattle.np_net.specs.declared.filtering.Interface.{Interface}
use Rattle.np_net.specs.declared.associations.InRule.{InRule}
use Rattle.np_net.specs.declared.associations.OutRule.{OutRule}
use Rattle.np_net.specs.declared.associations.Table.{Table}
use Rattle.np_net_read.specs.declared.statement.Statement.{Statement}
use Rattle.np_net_read.specs.declared.statement.Statement.TheVariants as statement
use Rattle.np_net_read.specs.Declaring.{declared_by_network, pop_in, in_rule_in, out_rule_in, table_of, tables_from}
use Rattle.np_net_read.specs.Fitting.{added}
use Rattle.np_net_read.specs.Tables.{changed_at, no_rules, with_in_rule, with_out_rule, with_pop}

-- ---- one more statement, and the tables

-- the rules of an interface where a statement more is none of them
pub table_kept : (n : ℕ) (before : List Statement) (s : Statement) → table_of n (s ∷ []) ≡ no_rules → table_of n (before ++ s ∷ []) ≡ table_of n before
table_kept n before s none =
    let pops = ap (λ (t : Table). t.pops) none in
    let ins = ap (λ (t : Table). t.ins) none in
    let outs = ap (λ (t : Table). t.outs) none in
    rw (filter_map-append (pop_in n) before (s ∷ []), filter_map-append (in_rule_in n) before (s ∷ []), filter_map-append (out_rule_in n) before (s ∷ []), pops, ins, outs)
    (simp append-nil)

-- a statement more that declares neither an interface nor a rule
module _ (s : Statement) (alone : (n : ℕ) → tables_from n (s ∷ []) ≡ []) (none : (n : ℕ) → table_of n (s ∷ []) ≡ no_rules) where
  pub tables_kept : (n : ℕ) (before : List Statement) → tables_from n (before ++ s ∷ []) ≡ tables_from n before
  tables_kept n [] = alone n
  tables_kept n (statement.Interface interface ∷ before) = rw (table_kept n before s (none n), tables_kept (n + 1) before) refl
  tables_kept n (other ∷ before) = tables_kept n before

-- an interface more
pub tables_begun : (interface : Interface) (n : ℕ) (before : List Statement) → tables_from n (before ++ statement.Interface interface ∷ []) ≡ tables_from n before ++ no_rules ∷ []
tables_begun interface n [] = refl
tables_begun interface n (statement.Interface i ∷ before) = rw (table_kept n before (statement.Interface interface) refl, tables_begun interface (n + 1) before) refl
tables_begun interface n (other ∷ before) = tables_begun interface n before

-- a rule more at the interface k
module _ (s : ℕ → Statement) (change : Table → Table)
    (alone : (n k : ℕ) → tables_from n (s k ∷ []) ≡ [])
    (own : (n : ℕ) (before : List Statement) → table_of n (before ++ s n ∷ []) ≡ change (table_of n before))
    (others : (n k : ℕ) → (k == n) ≡ false → table_of n (s k ∷ []) ≡ no_rules) where
  -- the interfaces after it
  tables_after : (k n : ℕ) (before : List Statement) → k < n → tables_from n (before ++ s k ∷ []) ≡ tables_from n before
  tables_after k n [] lt = alone n k
  tables_after k n (statement.Interface interface ∷ before) lt =
      rw (table_kept n before (s k) (others n k (ne_eqb k n (λ e. absurd (omega arith)))), tables_after k (n + 1) before (omega arith)) refl
  tables_after k n (other ∷ before) lt = tables_after k n before lt

  -- all of them, the first of which has the number n
  pub tables_with : (k n j : ℕ) (before : List Statement) → k ≡ n + j → tables_from n (before ++ s k ∷ []) ≡ changed_at j change (tables_from n before)
  tables_with k n zero [] at = alone n k
  tables_with k n (suc j) [] at = alone n k
  tables_with k n zero (statement.Interface interface ∷ before) at =
      let same : k ≡ n = omega arith in
      rw (same, own n before, tables_after n (n + 1) before (omega arith)) refl
  tables_with k n (suc j) (statement.Interface interface ∷ before) at =
      rw (table_kept n before (s k) (others n k (ne_eqb k n (λ e. absurd (omega arith)))), tables_with k (n + 1) j before (omega arith)) refl
  tables_with k n j (other ∷ before) at = tables_with k n j before at

same_number : (n : ℕ) → (n == n) ≡ true
same_number n = eq-eqb n n refl

pub tables_with_pop : (interface sa : ℕ) (before : List Statement) → tables_from 0 (before ++ statement.Pop interface sa ∷ []) ≡ changed_at interface (with_pop sa) (tables_from 0 before)
tables_with_pop interface sa before =
    tables_with (λ k. statement.Pop k sa) (with_pop sa) (λ n k. refl) (λ n before. simp (filter_map-append, append-nil, same_number)) (λ n k other. rw other refl) interface 0 interface before (omega arith)

pub tables_with_in_rule : (interface : ℕ) (rule : InRule) (before : List Statement) → tables_from 0 (before ++ statement.InRule interface rule ∷ []) ≡ changed_at interface (with_in_rule rule) (tables_from 0 before)
tables_with_in_rule interface rule before =
    tables_with (λ k. statement.InRule k rule) (with_in_rule rule) (λ n k. refl) (λ n before. simp (filter_map-append, append-nil, same_number)) (λ n k other. rw other refl) interface 0 interface before (omega arith)

pub tables_with_out_rule : (interface : ℕ) (rule : OutRule) (before : List Statement) → tables_from 0 (before ++ statement.OutRule interface rule ∷ []) ≡ changed_at interface (with_out_rule rule) (tables_from 0 before)
tables_with_out_rule interface rule before =
    tables_with (λ k. statement.OutRule k rule) (with_out_rule rule) (λ n k. refl) (λ n before. simp (filter_map-append, append-nil, same_number)) (λ n k other. rw other refl) interface 0 interface before (omega arith)

-- ---- one more statement, and all that is declared

-- one statement more declares what it adds to what the others declare
pub declared_one_more : GrowsBy declared_by_network added
unfolding declared_by_network
declared_one_more before (statement.Depth depth) = rw (tables_kept (statement.Depth depth) (λ n. refl) (λ n. refl) 0 before) (simp (filter_map-append, append-nil, last_more))
declared_one_more before (statement.Area area) = rw (tables_kept (statement.Area area) (λ n. refl) (λ n. refl) 0 before) (simp (filter_map-append, append-nil))
declared_one_more before (statement.Device device) = rw (tables_kept (statement.Device device) (λ n. refl) (λ n. refl) 0 before) (simp (filter_map-append, append-nil))
declared_one_more before (statement.Interface interface) = rw (tables_begun interface 0 before) (simp (filter_map-append, append-nil))
declared_one_more before (statement.Free slot) = rw (tables_kept (statement.Free slot) (λ n. refl) (λ n. refl) 0 before) (simp (filter_map-append, append-nil))
declared_one_more before (statement.Goal goal) = rw (tables_kept (statement.Goal goal) (λ n. refl) (λ n. refl) 0 before) (simp (filter_map-append, append-nil))
declared_one_more before (statement.Sa sa) = rw (tables_kept (statement.Sa sa) (λ n. refl) (λ n. refl) 0 before) (simp (filter_map-append, append-nil))
declared_one_more before (statement.Pop interface sa) = rw (tables_with_pop interface sa before) (simp (filter_map-append, append-nil))
declared_one_more before (statement.InRule interface rule) = rw (tables_with_in_rule interface rule before) (simp (filter_map-append, append-nil))
declared_one_more before (statement.OutRule interface rule) = rw (tables_with_out_rule interface rule before) (simp (filter_map-append, append-nil))
declared_one_more before (statement.IpGoal goal) = rw (tables_kept (statement.IpGoal goal) (λ n. refl) (λ n. refl) 0 before) (simp (filter_map-append, append-nil))
