-- There is the set of the associations under which an own packet may be readable: what is put around packets is decided, and names
-- associations below a bound.
use Rattle.std.proofs.Common.{◌≡◌, ◌∙◌, ◌⊎◌, ℕ, zero, suc, ◌+◌, ◌<◌, ◌≤◌, Bool, true, false, not, ◌||◌, cond, List, [], ◌∷◌, length, replicate, get_or, refl, sym, ap, inl, inr, arith}
use Rattle.std.specs.List.{count_by}
use Rattle.std.proofs.lemmas.Bool.{cases_eq, cases_lt}
use Rattle.std.proofs.lemmas.List.{get_or_past, length-replicate, length-set}
use Rattle.np_space.specs.Header.{is_valid_header}
use Rattle.np_space.specs.declared.headers.Header.{Header}
use Rattle.np_pred.specs.Meaning.{pred_holds}
use Rattle.np_pred.specs.declared.predicate.Pred.{Pred}
use Rattle.np_net.specs.Path.{device_of}
use Rattle.np_net.specs.Plan.{Plan}
use Rattle.np_net.specs.declared.associations.OutAction.{OutAction}
use Rattle.np_net.specs.declared.associations.OutAction.TheVariants as outs
use Rattle.np_net.specs.declared.associations.OutRule.{OutRule}
use Rattle.np_net.specs.declared.associations.Table.{Table}
use Rattle.np_flow.proofs.FindingLaws.{true_or_false, both_or_not}
use Rattle.np_ipsec.specs.Steps.{area_has}
use Rattle.np_ipsec.specs.Tables.{fits_top, is_secret, is_trusted_device, out_action_by, out_action_of}
use Rattle.np_ipsec.specs.declared.tables.Top.{Top}
use Rattle.np_ipsec.specs.declared.tables.Top.TheVariants as tops
use Rattle.np_conf.specs.Rules.{IsFirstAround, IsOwn, IsTrustedInterface}
use Rattle.np_conf.specs.Outlets.{PutsAt, PutsBefore}
use Rattle.np_conf.specs.Sets.{Adds, IsGathered, IsLeft, IsReadableSet, has_sa}
use Rattle.np_conf.proofs.SetLaws.{empty_replicate, fewer_left, gathered_all, gathered_more, with_done}
use Rattle.np_ipgoals.proofs.Searching.{Decided, below_or_not, decided_as, false_or_not, some_header, some_or_none}

-- ---- sets with more associations

-- an association of a set is below its size
pub has_within : (set : List Bool) (k : ℕ) → has_sa set k ≡ true → k < length set
has_within set k has = elim (cases_lt k (length set)) [
  | inl lt ↦ lt
  | inr past ↦ absurd (let both : false ≡ true = sym (get_or_past set k false past) ∙ has in cc)
]

-- whether it holds, as a truth
abbrev truth_of : {P : Type 0} → Decided P → Bool
truth_of (inl p) = true
truth_of (inr none) = false

truth_from : {P : Type 0} (d : Decided P) → P → truth_of d ≡ true
truth_from (inl p) holds = refl
truth_from (inr none) holds = absurd (none holds)

truth_to : {P : Type 0} (d : Decided P) → truth_of d ≡ true → P
truth_to (inl p) e = p
truth_to (inr none) e = absurd (cc)

-- one of two is true
either_true : (a b : Bool) → (a || b) ≡ true → (a ≡ true) ⊎ (b ≡ true)
either_true true b e = inl refl
either_true false b e = inr e

left_true : (a b : Bool) → a ≡ true → (a || b) ≡ true
left_true true b e = refl
left_true false b e = absurd (cc)

right_true : (a b : Bool) → b ≡ true → (a || b) ≡ true
right_true true b e = refl
right_true false b e = e

module _ (P : ℕ → Type 0) (decided : (k : ℕ) → Decided (P k)) where
  -- the set whose first association has this number, with those of which P holds
  abbrev joined : List Bool → ℕ → List Bool
  joined [] n = []
  joined (b ∷ bs) n = (b || truth_of (decided n)) ∷ joined bs (suc n)

  joined_size : (bs : List Bool) (n : ℕ) → length (joined bs n) ≡ length bs
  joined_size [] n = refl
  joined_size (b ∷ bs) n = ap suc (joined_size bs (suc n))

  joined_has : (bs : List Bool) (n k : ℕ) → k < length bs → has_sa (joined bs n) k ≡ (has_sa bs k || truth_of (decided (n + k)))
  joined_has [] n k lt = absurd (omega arith)
  joined_has (b ∷ bs) n zero lt = let e : n + 0 ≡ n = omega arith in rw e refl
  joined_has (b ∷ bs) n (suc k) lt = let e : n + suc k ≡ suc n + k = omega arith in rw e (joined_has bs (suc n) k (omega arith))

  -- it has them and nothing else, where P holds of numbers below its size alone
  pub joined_adds : (bs : List Bool) → ((k : ℕ) → P k → k < length bs) → Adds P bs (joined bs 0)
  joined_adds bs within = record {
    size = joined_size bs 0;
    kept = λ k has. rw (at k (has_within bs k has)) (left_true (has_sa bs k) (truth_of (decided k)) has);
    all = λ k p. rw (at k (within k p)) (right_true (has_sa bs k) (truth_of (decided k)) (truth_from (decided k) p));
    only = λ k has.
        let lt : k < length bs = (let inside : k < length (joined bs 0) = has_within (joined bs 0) k has in let size = joined_size bs 0 in omega arith) in
        elim (either_true (has_sa bs k) (truth_of (decided k)) (sym (at k lt) ∙ has)) [ inl was ↦ inl was | inr new ↦ inr (truth_to (decided k) new) ];
  }
    where
      at : (k : ℕ) → k < length bs → has_sa (joined bs 0) k ≡ (has_sa bs k || truth_of (decided k))
      at k lt = let e : 0 + k ≡ k = omega arith in joined_has bs 0 k lt ∙ ap (λ n. has_sa bs k || truth_of (decided n)) e

-- ---- the bound

-- a number above the association that an action puts around packets
abbrev action_bound : OutAction → ℕ
action_bound (outs.Protect k) = suc k
action_bound outs.Bypass = 0
action_bound outs.Discard = 0

abbrev rules_bound : List OutRule → ℕ
rules_bound [] = 0
rules_bound (rule ∷ rules) = action_bound rule.action + rules_bound rules

abbrev tables_bound : List Table → ℕ
tables_bound [] = 0
tables_bound (table ∷ tables) = rules_bound table.outs + tables_bound tables

-- of two actions neither is above both
either_bound : (fits : Bool) (first rest : OutAction) (bound : ℕ) → action_bound rest ≤ bound → action_bound (cond fits first rest) ≤ action_bound first + bound
either_bound true first rest bound le = omega arith
either_bound false first rest bound le = omega arith

by_rules : (rules : List OutRule) (top : Top) → action_bound (out_action_by rules top) ≤ rules_bound rules
by_rules [] top = omega arith
by_rules (rule ∷ rules) top = either_bound (fits_top rule.top top) rule.action (out_action_by rules top) (rules_bound rules) (by_rules rules top)

by_tables : (tables : List Table) (i : ℕ) → rules_bound (get_or tables i record { pops = []; ins = []; outs = [] }).outs ≤ tables_bound tables
by_tables [] i = omega arith
by_tables (table ∷ tables) zero = omega arith
by_tables (table ∷ tables) (suc i) = let rest = by_tables tables i in omega arith

-- what an interface puts around packets is below the bound
protected_below : (net : Plan) (i : ℕ) (top : Top) (k : ℕ) → out_action_of net i top ≡ outs.Protect k → k < tables_bound net.tables
protected_below net i top k protects =
    let own : action_bound (out_action_of net i top) ≡ suc k = ap action_bound protects in
    let first = by_rules (get_or net.tables i record { pops = []; ins = []; outs = [] }).outs top in
    let second = by_tables net.tables i in
    omega arith

-- ---- what is put around packets is decided

protect_or_not : (action : OutAction) (k : ℕ) → Decided (action ≡ outs.Protect k)
protect_or_not (outs.Protect n) k = elim (cases_eq n k) [ inl same ↦ inl (ap (λ m. outs.Protect m) same) | inr apart ↦ inr (λ e. apart (cc)) ]
protect_or_not outs.Bypass k = inr (λ e. let both : outs.Bypass ≡ outs.Protect k = e in cc)
protect_or_not outs.Discard k = inr (λ e. let both : outs.Discard ≡ outs.Protect k = e in cc)

module _ (net : Plan) where
  pub interface_or_not : (i : ℕ) → Decided (IsTrustedInterface net i)
  interface_or_not i =
      decided_as (λ all. record { within = all.0; trusted = all.1 }) (λ is. (is.within, is.trusted))
      (both_or_not (below_or_not i (length net.interfaces)) (true_or_false (is_trusted_device net (device_of net.interfaces i))))

  puts_at_or_not : (top : Top) (k i : ℕ) → Decided (PutsAt net top i k)
  puts_at_or_not top k i =
      decided_as (λ all. record { at = all.0; open_to_all = all.1.0; protects = all.1.1 }) (λ is. (is.at, (is.open_to_all, is.protects)))
      (both_or_not (interface_or_not i) (both_or_not (false_or_not (is_secret net k)) (protect_or_not (out_action_of net i top) k)))

  puts_or_not : (top : Top) (k : ℕ) → Decided (PutsBefore net top (length net.interfaces) k)
  puts_or_not top k =
      decided_as (λ some. record { i = some.0; before = some.1.at.within; puts = some.1 }) (λ p. (p.i, p.puts))
      (some_or_none (λ i. PutsAt net top i k) (puts_at_or_not top k) (length net.interfaces) (λ i is. is.at.within))

module _ (net : Plan) (from : ℕ) (pred : Pred) where
  pub own_or_not : (h : Header) → Decided (IsOwn net from pred h)
  own_or_not h =
      decided_as (λ all. record { valid = all.0; meant = all.1.0; source = all.1.1 }) (λ is. (is.valid, (is.meant, is.source)))
      (both_or_not (true_or_false (is_valid_header h)) (both_or_not (true_or_false (pred_holds pred h)) (true_or_false (area_has net from h))))

  -- an interface puts the association around a bare own packet of this header
  record PutsFirst (k i : ℕ) (h : Header) : Type 0 where
    own : IsOwn net from pred h
    puts : PutsAt net (tops.Plain h) i k

  puts_first_or_not : (k i : ℕ) (h : Header) → Decided (PutsFirst k i h)
  puts_first_or_not k i h =
      decided_as (λ all. record { own = all.0; puts = all.1 }) (λ is. (is.own, is.puts)) (both_or_not (own_or_not h) (puts_at_or_not net (tops.Plain h) k i))

  first_or_not : (k : ℕ) → Decided (IsFirstAround net from pred k)
  first_or_not k =
      decided_as
      (λ some. record { open_to_all = some.1.1.puts.open_to_all; i = some.0; at = some.1.1.puts.at; h = some.1.0; own = some.1.1.own; protects = some.1.1.puts.protects })
      (λ is. (is.i, (is.h, record { own = is.own; puts = record { at = is.at; open_to_all = is.open_to_all; protects = is.protects } })))
      (some_or_none (λ i. (h : Header) × PutsFirst k i h) (some_header (PutsFirst k) (puts_first_or_not k) (λ i h is. is.own.valid)) (length net.interfaces) (λ i some. some.1.puts.at.within))

  -- ---- the set is gathered

  abbrev bound : ℕ
  bound = tables_bound net.tables

  -- an association that isn't done, or there is none
  left_or_not : (now done : List Bool) → Decided ((k : ℕ) × IsLeft now done k)
  left_or_not now done =
      some_or_none (IsLeft now done)
      (λ k. decided_as (λ all. record { listed = all.0; within = all.1.0; left = all.1.1 }) (λ is. (is.listed, (is.within, is.left)))
      (both_or_not (true_or_false (has_sa now k)) (both_or_not (below_or_not k (length done)) (false_or_not (has_sa done k)))))
      (length done) (λ k is. is.within)

  -- once all are done it is the set
  all_done : (now done : List Bool) → IsGathered net from pred now done → length now ≡ bound → length done ≡ bound → ((k : ℕ) × IsLeft now done k → ⊥) → (set : List Bool) × IsReadableSet net from pred set
  all_done now done is size done_size none = (now, gathered_all net from pred now done is (size ∙ sym done_size) (λ k left. none (k, left)))

  module _ (now done : List Bool) (is : IsGathered net from pred now done) (size : length now ≡ bound) (k : ℕ) (left : IsLeft now done k) where
    -- what is put around packets under the association is added
    abbrev with_puts : List Bool
    with_puts = joined (PutsBefore net (tops.Under k) (length net.interfaces)) (puts_or_not net (tops.Under k)) now 0

    puts_added : Adds (PutsBefore net (tops.Under k) (length net.interfaces)) now with_puts
    puts_added =
        joined_adds (PutsBefore net (tops.Under k) (length net.interfaces)) (puts_or_not net (tops.Under k)) now
        (λ n p. let below = protected_below net p.i (tops.Under k) n p.puts.protects in omega arith)

    puts_gathered : IsGathered net from pred with_puts (with_done done k)
    puts_gathered = gathered_more net from pred now with_puts done k is left puts_added

  -- as long as one isn't done, there are fewer left after it
  gathered : (fuel : ℕ) (now done : List Bool) → IsGathered net from pred now done → length now ≡ bound → length done ≡ bound → count_by not done ≤ fuel → (set : List Bool) × IsReadableSet net from pred set
  gathered zero now done is size done_size upto = elim (left_or_not now done) [
    | inl some ↦ absurd (let fewer = fewer_left done some.0 some.1.within some.1.left in omega arith)
    | inr none ↦ all_done now done is size done_size none
  ]
  gathered (suc fuel) now done is size done_size upto = elim (left_or_not now done) [
    | inl some ↦
        let fewer = fewer_left done some.0 some.1.within some.1.left in
        gathered fuel (with_puts now done is size some.0 some.1) (with_done done some.0) (puts_gathered now done is size some.0 some.1)
        ((puts_added now done is size some.0 some.1).size ∙ size) (simp length-set done_size) (omega arith)
    | inr none ↦ all_done now done is size done_size none
  ]

  -- at first it has what is put around bare own packets
  abbrev no_set : List Bool
  no_set = replicate bound false

  abbrev firsts : List Bool
  firsts = joined (IsFirstAround net from pred) first_or_not no_set 0

  firsts_added : Adds (IsFirstAround net from pred) no_set firsts
  firsts_added =
      joined_adds (IsFirstAround net from pred) first_or_not no_set
      (λ k is. let below = protected_below net is.i (tops.Plain is.h) k is.protects in let size : length no_set ≡ bound = length-replicate bound false in omega arith)

  firsts_gathered : IsGathered net from pred firsts no_set
  firsts_gathered = record {
    sound = λ k has. elim (firsts_added.only k has) [
      | inl was ↦ absurd (let both : false ≡ true = sym (empty_replicate bound k) ∙ was in cc)
      | inr first ↦ record { rest = []; put = first }
    ];
    firsts = λ k first. firsts_added.all k first;
    nexts = λ k under has next. absurd (let both : false ≡ true = sym (empty_replicate bound under) ∙ has in cc);
  }

  pub have_readable_set : (set : List Bool) × IsReadableSet net from pred set
  have_readable_set =
      let size : length no_set ≡ bound = length-replicate bound false in
      gathered (count_by not no_set) firsts no_set firsts_gathered (firsts_added.size ∙ size) size (omega arith)
