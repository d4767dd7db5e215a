-- The steps by which the region of a list is cut out of the valid headers.
use Rattle.std.proofs.Common.{◌≡◌, ℕ, Bool, true, false, List, [], ◌∷◌, ◌++◌, nat_le, refl, sym, ◌∙◌, ap, arith, append_assoc}
use Rattle.std.specs.Prelude.{◌&&◌, ◌||◌, not, if◌then◌else◌, Some, None}
use Rattle.std.specs.List.{find}
use Rattle.std.specs.Option.{option_map_or}
use Rattle.std.proofs.lemmas.Bool.{true≢false, and_right, le-leb}
use Rattle.std.proofs.lemmas.List.Folds.{list_any-append}
use Rattle.np_space.specs.Flag.{flag_number}
use Rattle.np_space.specs.Header.{is_valid_header}
use Rattle.np_space.specs.Block.{block_has}
use Rattle.np_space.specs.Span.{span_has}
use Rattle.np_space.specs.Ternary.{ternary_has}
use Rattle.np_space.specs.declared.headers.Header.{Header}
use Rattle.np_space.specs.declared.spans.Span.{Span}
use Rattle.np_space.specs.declared.blocks.Block.{Block}
use Rattle.np_space.proofs.FlagLemmas.{or_false, and_true, flag_small}
use Rattle.np_space.proofs.HeaderLemmas.{valid_widths}
use Rattle.np_acl.specs.declared.entries.Entry.{Entry}
use Rattle.np_acl.specs.Entries.{ports_have, entry_matches, any_matches, first_says}
use Rattle.np_region.specs.Keeping.{KeepsRegions}
use Rattle.np_region.proofs.KeepingLemmas.{keeps_chained}
use Rattle.np_cut.specs.Cutting.{matches_with, IsRegionOf, IsPartOf}

-- ---- an entry as blocks

-- the protocol of a valid header is at most 255
valid_proto : (h : Header) → is_valid_header h ≡ true → nat_le h.proto 255 ≡ true
valid_proto h valid = let w = valid_widths h valid in le-leb h.proto 255 (omega (arith, w.proto))

flag_le : (e : Bool) → nat_le (flag_number e) 1 ≡ true
flag_le e = le-leb (flag_number e) 1 (flag_small e)

-- the code point of a valid header is at most 63
valid_code_point : (h : Header) → is_valid_header h ≡ true → nat_le h.dscp 63 ≡ true
valid_code_point h valid = let w = valid_widths h valid in le-leb h.dscp 63 (omega (arith, w.dscp))

-- the block with the entry's fields, the protocols up to 255, the flags up to 1 and the code points up to 63
pub block_matches : (e : Entry) (k : Block) (h : Header) → k.src ≡ e.src → k.dst ≡ e.dst → ((x : ℕ) → span_has k.proto x ≡ (span_has e.proto x && nat_le x 255)) → ((x : ℕ) → span_has k.est x ≡ (span_has e.est x && nat_le x 1)) → ((x : ℕ) → span_has k.dscp x ≡ (span_has e.dscp x && nat_le x 63)) → (is_valid_header h && block_has k h) ≡ (is_valid_header h && matches_with e (k.a ∷ []) (k.b ∷ []) h)
unfolding block_has
block_matches e k h src dst proto est dscp =
    (λ i. is_valid_header h && (ternary_has (src i) h.src && ternary_has (dst i) h.dst && proto h.proto i && span_has k.a h.a && span_has k.b h.b && est (flag_number h.est) i && dscp h.dscp i))
    ∙ by (is_valid_header h) (ternary_has e.src h.src) (ternary_has e.dst h.dst) (span_has e.proto h.proto) (span_has k.a h.a) (span_has k.b h.b) (span_has e.est (flag_number h.est)) (span_has e.dscp h.dscp) (nat_le h.proto 255) (nat_le (flag_number h.est) 1) (nat_le h.dscp 63) (valid_proto h) (flag_le h.est) (valid_code_point h)
  where
    turned : (s d p a b e : Bool) → (s && d && p && a && b && e) ≡ (p && s && d && a && b && e)
    turned false d false a b e = refl
    turned false d true a b e = refl
    turned true false false a b e = refl
    turned true false true a b e = refl
    turned true true p a b e = grind arith

    by : (v s d p a b e q lp le lq : Bool) → (v ≡ true → lp ≡ true) → le ≡ true → (v ≡ true → lq ≡ true) → (v && (s && d && (p && lp) && a && b && (e && le) && (q && lq))) ≡ (v && (p && s && d && (a || false) && (b || false) && e && q))
    by false s d p a b e q lp le lq wide flag point = refl
    by true s d p a b e q lp le lq wide flag point =
        (λ i. s && d && (p && wide refl i) && a && b && (e && flag i) && (q && point refl i))
        ∙ (λ i. s && d && (p_true i) && a && b && (e_true i) && (q_true i))
        ∙ ap (λ t. t && q) (turned s d p a b e)
        ∙ (λ i. p && s && d && sym (or_false a) i && sym (or_false b) i && e && q)
      where
        p_true : (p && true) ≡ p
        p_true = and_true p

        e_true : (e && true) ≡ e
        e_true = and_true e

        q_true : (q && true) ≡ q
        q_true = and_true q

-- no valid header matches where no protocol up to 255 does
pub no_proto : (e : Entry) (a b : List Span) (h : Header) → ((x : ℕ) → false ≡ (span_has e.proto x && nat_le x 255)) → (is_valid_header h && false) ≡ (is_valid_header h && matches_with e a b h)
no_proto e a b h none = by (is_valid_header h) (span_has e.proto h.proto) (nat_le h.proto 255) (ternary_has e.src h.src) (ternary_has e.dst h.dst) (ports_have a h.a) (ports_have b h.b) (span_has e.est (flag_number h.est)) (span_has e.dscp h.dscp) (valid_proto h) (none h.proto)
  where
    by : (v p lp s d a b e q : Bool) → (v ≡ true → lp ≡ true) → false ≡ (p && lp) → (v && false) ≡ (v && (p && s && d && a && b && e && q))
    by false p lp s d a b e q wide none = refl
    by true false lp s d a b e q wide none = refl
    by true true lp s d a b e q wide none = absurd (true≢false (sym (none ∙ wide refl)))

-- nor where no flag does
pub no_flag : (e : Entry) (a b : List Span) (h : Header) → ((x : ℕ) → false ≡ (span_has e.est x && nat_le x 1)) → (is_valid_header h && false) ≡ (is_valid_header h && matches_with e a b h)
no_flag e a b h none =
    ap (λ t. is_valid_header h && (t && span_has e.dscp h.dscp)) (sym (and_right (span_has e.proto h.proto && ternary_has e.src h.src && ternary_has e.dst h.dst && ports_have a h.a && ports_have b h.b) (span_has e.est (flag_number h.est)) (by (span_has e.est (flag_number h.est)) (nat_le (flag_number h.est) 1) (flag_le h.est) (none (flag_number h.est)))))
  where
    by : (t l : Bool) → l ≡ true → false ≡ (t && l) → t ≡ false
    by false l le none = refl
    by true l le none = absurd (true≢false (sym (none ∙ le)))

-- nor where no code point up to 63 does
pub no_code_point : (e : Entry) (a b : List Span) (h : Header) → ((x : ℕ) → false ≡ (span_has e.dscp x && nat_le x 63)) → (is_valid_header h && false) ≡ (is_valid_header h && matches_with e a b h)
no_code_point e a b h none = by (is_valid_header h) (span_has e.proto h.proto && ternary_has e.src h.src && ternary_has e.dst h.dst && ports_have a h.a && ports_have b h.b && span_has e.est (flag_number h.est)) (span_has e.dscp h.dscp) (nat_le h.dscp 63) (valid_code_point h) (none h.dscp)
  where
    by : (v t q lq : Bool) → (v ≡ true → lq ≡ true) → false ≡ (q && lq) → (v && false) ≡ (v && (t && q))
    by false t q lq point none = refl
    by true t false lq point none = sym (and_right t false refl)
    by true t true lq point none = absurd (true≢false (sym (none ∙ point refl)))

-- without spans nothing matches
pub no_ports : (e : Entry) (a : List Span) (h : Header) → matches_with e a [] h ≡ false
no_ports e a h = by (span_has e.proto h.proto && ternary_has e.src h.src && ternary_has e.dst h.dst && ports_have a h.a) (span_has e.est (flag_number h.est)) (span_has e.dscp h.dscp)
  where
    by : (t f q : Bool) → (((t && false) && f) && q) ≡ false
    by false f q = refl
    by true f q = refl

pub no_sources : (e : Entry) (b : List Span) (h : Header) → matches_with e [] b h ≡ false
no_sources e b h = by (span_has e.proto h.proto && ternary_has e.src h.src && ternary_has e.dst h.dst) (ports_have b h.b) (span_has e.est (flag_number h.est)) (span_has e.dscp h.dscp)
  where
    by : (t u f q : Bool) → ((((t && false) && u) && f) && q) ≡ false
    by false u f q = refl
    by true u f q = refl

one_more : (spans : List Span) (s : Span) (x : ℕ) → ports_have (spans ++ s ∷ []) x ≡ (ports_have spans x || ports_have (s ∷ []) x)
one_more spans s x = list_any-append (λ t. span_has t x) spans (s ∷ [])

-- one more span for the destination ports
pub ports_more : (e : Entry) (a b : List Span) (s : Span) (h : Header) → matches_with e a (b ++ s ∷ []) h ≡ (matches_with e a b h || matches_with e a (s ∷ []) h)
ports_more e a b s h =
    ap (λ t. span_has e.proto h.proto && ternary_has e.src h.src && ternary_has e.dst h.dst && ports_have a h.a && t && span_has e.est (flag_number h.est) && span_has e.dscp h.dscp) (one_more b s h.b)
    ∙ by (span_has e.proto h.proto && ternary_has e.src h.src && ternary_has e.dst h.dst && ports_have a h.a) (ports_have b h.b) (ports_have (s ∷ []) h.b) (span_has e.est (flag_number h.est)) (span_has e.dscp h.dscp)
  where
    by : (t u w f q : Bool) → (((t && (u || w)) && f) && q) ≡ ((((t && u) && f) && q) || (((t && w) && f) && q))
    by false u w f q = refl
    by true false w f q = refl
    by true true false f q = sym (or_false (f && q))
    by true true true false q = refl
    by true true true true false = refl
    by true true true true true = refl

-- one more span for the source ports
pub sources_more : (e : Entry) (a b : List Span) (s : Span) (h : Header) → matches_with e (a ++ s ∷ []) b h ≡ (matches_with e a b h || matches_with e (s ∷ []) b h)
sources_more e a b s h =
    ap (λ t. span_has e.proto h.proto && ternary_has e.src h.src && ternary_has e.dst h.dst && t && ports_have b h.b && span_has e.est (flag_number h.est) && span_has e.dscp h.dscp) (one_more a s h.a)
    ∙ by (span_has e.proto h.proto && ternary_has e.src h.src && ternary_has e.dst h.dst) (ports_have a h.a) (ports_have (s ∷ []) h.a) (ports_have b h.b) (span_has e.est (flag_number h.est)) (span_has e.dscp h.dscp)
  where
    by : (t u w p f q : Bool) → ((((t && (u || w)) && p) && f) && q) ≡ (((((t && u) && p) && f) && q) || ((((t && w) && p) && f) && q))
    by false u w p f q = refl
    by true false w p f q = refl
    by true true false p f q = sym (or_false ((p && f) && q))
    by true true true false f q = refl
    by true true true true false q = refl
    by true true true true true false = refl
    by true true true true true true = refl

-- ---- regions

-- a region with more of the same valid headers
pub or_more : (r v m n : Bool) → ((r || (v && m)) || (v && n)) ≡ (r || (v && (m || n)))
or_more true v m n = refl
or_more false false m n = refl
or_more false true m n = refl

pub or_nothing : (r v m : Bool) → (v && false) ≡ (v && m) → r ≡ (r || (v && m))
or_nothing r v m none = sym (or_false r) ∙ ap (λ t. r || t) (sym (and_right v false refl) ∙ none)

-- ---- entries in a row

-- what an entry says before others, by whether it matches
abbrev said_before : Entry → Bool → List Entry → Header → Bool
said_before e m entries h = option_map_or (λ (x : Entry). x.permit) (if m then Some e else find (λ x. entry_matches x h) entries) false

says_nothing : (e : Entry) (entries : List Entry) (h : Header) → (any_matches entries h ≡ false → first_says entries h ≡ false) → (m : Bool) → (m || any_matches entries h) ≡ false → said_before e m entries h ≡ false
says_nothing e entries h rest true none = absurd (true≢false none)
says_nothing e entries h rest false none = rest none

-- entries of which none matches say no
says_matches : (entries : List Entry) (h : Header) → any_matches entries h ≡ false → first_says entries h ≡ false
says_matches [] h none = refl
says_matches (e ∷ entries) h none = says_nothing e entries h (says_matches entries h) (entry_matches e h) none

says_first : (e : Entry) (xs ys : List Entry) (h : Header) → first_says (xs ++ ys) h ≡ (if any_matches xs h then first_says xs h else first_says ys h) → (m : Bool) → said_before e m (xs ++ ys) h ≡ (if m || any_matches xs h then said_before e m xs h else first_says ys h)
says_first e xs ys h rest true = refl
says_first e xs ys h rest false = rest

-- what the first entries match they decide before the others
says_together : (xs ys : List Entry) (h : Header) → first_says (xs ++ ys) h ≡ (if any_matches xs h then first_says xs h else first_says ys h)
says_together [] ys h = refl
says_together (e ∷ xs) ys h = says_first e xs ys h (says_together xs ys h) (entry_matches e h)

module _ {S R : Type 0} (fits : S → R → Type 0) (has : S → R → Header → Bool) where
  -- of no entries
  pub part_of_none : (s : S) (matched permitted : R) → fits s matched → fits s permitted → ((h : Header) → has s matched h ≡ false) → ((h : Header) → has s permitted h ≡ false) → IsPartOf fits has s [] matched permitted
  part_of_none s matched permitted fm fp nm np =
      record {
        matched_fits = fm;
        permitted_fits = fp;
        matches = λ h. nm h ∙ sym (and_right (is_valid_header h) false refl);
        permits = λ h. np h ∙ sym (and_right (is_valid_header h) false refl);
      }

  -- of one entry, by whether it permits
  pub part_of_entry : (e : Entry) (s : S) (matched permitted : R) → fits s matched → fits s permitted → ((h : Header) → has s matched h ≡ (is_valid_header h && entry_matches e h)) → ((h : Header) → has s permitted h ≡ (e.permit && has s matched h)) → IsPartOf fits has s (e ∷ []) matched permitted
  part_of_entry e s matched permitted fm fp m p =
      record {
        matched_fits = fm;
        permitted_fits = fp;
        matches = λ h. m h ∙ ap (λ b. is_valid_header h && b) (sym (or_false (entry_matches e h)));
        permits = λ h. p h ∙ ap (λ b. e.permit && b) (m h) ∙ said e h (is_valid_header h) (entry_matches e h);
      }
    where
      either : (permit v : Bool) → (permit && (v && true)) ≡ (v && permit)
      either false false = refl
      either false true = refl
      either true false = refl
      either true true = refl

      neither : (permit v : Bool) → (permit && (v && false)) ≡ (v && false)
      neither false false = refl
      neither false true = refl
      neither true false = refl
      neither true true = refl

      said : (e : Entry) (h : Header) (v m : Bool) → (e.permit && (v && m)) ≡ (v && said_before e m [] h)
      said e h v true = either e.permit v
      said e h v false = neither e.permit v

  -- after a call that keeps the regions
  pub part_kept : (entries : List Entry) (s t : S) (matched permitted : R) → KeepsRegions fits has s t → IsPartOf fits has s entries matched permitted → IsPartOf fits has t entries matched permitted
  part_kept entries s t matched permitted k p =
      record {
        matched_fits = k.fit matched p.matched_fits;
        permitted_fits = k.fit permitted p.permitted_fits;
        matches = λ h. k.same matched p.matched_fits h ∙ p.matches h;
        permits = λ h. k.same permitted p.permitted_fits h ∙ p.permits h;
      }

  -- what the first of entries match they decide alone
  pub parts_together : (xs ys : List Entry) (s t u : S) (first_matched first_permitted second_matched second_permitted matched permitted : R) → KeepsRegions fits has s t → KeepsRegions fits has t u → IsPartOf fits has s xs first_matched first_permitted → IsPartOf fits has s ys second_matched second_permitted
      → fits u matched → fits t permitted → ((h : Header) → has u matched h ≡ (has t first_matched h || has t second_matched h)) → ((h : Header) → has t permitted h ≡ (has s first_permitted h || (has s second_permitted h && not (has s first_matched h)))) → IsPartOf fits has u (xs ++ ys) matched permitted
  parts_together xs ys s t u first_matched first_permitted second_matched second_permitted matched permitted k l x y fm fp m p =
      record {
        matched_fits = fm;
        permitted_fits = l.fit permitted fp;
        matches = λ h.
            m h
            ∙ (λ i. (k.same first_matched x.matched_fits h ∙ x.matches h) i || (k.same second_matched y.matched_fits h ∙ y.matches h) i)
            ∙ both (is_valid_header h) (any_matches xs h) (any_matches ys h)
            ∙ ap (λ b. is_valid_header h && b) (sym (list_any-append (λ e. entry_matches e h) xs ys));
        permits = λ h.
            l.same permitted fp h
            ∙ p h
            ∙ (λ i. x.permits h i || (y.permits h i && not (x.matches h i)))
            ∙ first_decide (is_valid_header h) (first_says xs h) (any_matches xs h) (first_says ys h) (says_matches xs h)
            ∙ ap (λ b. is_valid_header h && b) (sym (says_together xs ys h));
      }
    where
      both : (v a b : Bool) → ((v && a) || (v && b)) ≡ (v && (a || b))
      both false a b = refl
      both true a b = refl

      first_decide : (v a m b : Bool) → (m ≡ false → a ≡ false) → ((v && a) || ((v && b) && not (v && m))) ≡ (v && (if m then a else b))
      first_decide false a m b none = refl
      first_decide true true true b none = refl
      first_decide true false true true none = refl
      first_decide true false true false none = refl
      first_decide true a false true none = ap (λ c. c || true) (none refl)
      first_decide true a false false none = ap (λ c. c || false) (none refl)

  -- a region with the headers that an entry matches by one more span of destination ports
  pub ports_step : (old s t : S) (region all next : R) (e : Entry) (a b bs : List Span) (x : Span) → IsRegionOf fits has (λ h. has old region h || (is_valid_header h && matches_with e a b h)) old s all → KeepsRegions fits has s t → fits t next → ((h : Header) → has t next h ≡ (has s all h || (is_valid_header h && matches_with e a (x ∷ []) h))) → bs ≡ b ++ x ∷ [] → IsRegionOf fits has (λ h. has old region h || (is_valid_header h && matches_with e a bs h)) old t next
  ports_step old s t region all next e a b bs x so_far k fn exact more =
      record {
        kept = keeps_chained fits has old s t so_far.kept k;
        fit = fn;
        exact = λ h.
            exact h
            ∙ ap (λ u. u || (is_valid_header h && matches_with e a (x ∷ []) h)) (so_far.exact h)
            ∙ or_more (has old region h) (is_valid_header h) (matches_with e a b h) (matches_with e a (x ∷ []) h)
            ∙ ap (λ u. has old region h || (is_valid_header h && u)) (sym (ports_more e a b x h))
            ∙ ap (λ l. has old region h || (is_valid_header h && matches_with e a l h)) (sym more);
      }

  -- by one more span of source ports
  pub sources_step : (old s t : S) (all next : R) (e : Entry) (a as' b : List Span) (x : Span) → IsRegionOf fits has (λ h. is_valid_header h && matches_with e a b h) old s all → KeepsRegions fits has s t → fits t next → ((h : Header) → has t next h ≡ (has s all h || (is_valid_header h && matches_with e (x ∷ []) b h))) → as' ≡ a ++ x ∷ [] → IsRegionOf fits has (λ h. is_valid_header h && matches_with e as' b h) old t next
  sources_step old s t all next e a as' b x so_far k fn exact more =
      record {
        kept = keeps_chained fits has old s t so_far.kept k;
        fit = fn;
        exact = λ h.
            exact h
            ∙ ap (λ u. u || (is_valid_header h && matches_with e (x ∷ []) b h)) (so_far.exact h)
            ∙ or_more false (is_valid_header h) (matches_with e a b h) (matches_with e (x ∷ []) b h)
            ∙ ap (λ u. is_valid_header h && u) (sym (sources_more e a b x h))
            ∙ ap (λ l. is_valid_header h && matches_with e l b h) (sym more);
      }
