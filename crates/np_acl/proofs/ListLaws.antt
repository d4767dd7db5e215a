-- The answers of lists, and what becomes of them with one more entry.
use Rattle.std.proofs.Common.{◌≡◌, ℕ, suc, Bool, true, false, cond, List, [], ◌∷◌, ◌++◌, length, nat_eq, Option, Some, None, refl, ◌∙◌, ap, arith}
use Rattle.std.proofs.lemmas.Bool.{true≢false}
use Rattle.std.proofs.lemmas.Bool.Decides.{nat_tests}
use Rattle.std.specs.Prelude.{◌&&◌, ◌||◌, not}
use Rattle.std.specs.List.{find}
use Rattle.std.specs.Option.{option_map_or}
use Rattle.np_space.specs.declared.headers.Header.{Header}
use Rattle.np_acl.specs.declared.entries.Entry.{Entry}
use Rattle.np_acl.specs.Entries.{entry_matches, any_matches, first_says, list_permits}

-- what a match says
pub permits_some : (entries : List Entry) (h : Header) (e : Entry) → Some e ≡ find (λ e. entry_matches e h) entries → e.permit ≡ list_permits entries h
permits_some [] h e found = cc
permits_some (x ∷ entries) h e found = ap (λ (o : Option Entry). option_map_or (λ (e : Entry). e.permit) o false) found

not_none : (n : ℕ) → nat_eq (suc n) 0 ≡ false
not_none n = grind (arith, nat_tests)

-- what no match says
pub permits_none : (entries : List Entry) (h : Header) → None ≡ find (λ e. entry_matches e h) entries → nat_eq (length entries) 0 ≡ list_permits entries h
permits_none [] h none = refl
permits_none (x ∷ entries) h none = not_none (length entries) ∙ ap (λ (o : Option Entry). option_map_or (λ (e : Entry). e.permit) o false) none

-- Of a list with one more entry the first match is that of the list, if it has one, and else the new entry.
pub says_more : (entries : List Entry) (e : Entry) (h : Header) → first_says (entries ++ e ∷ []) h ≡ (first_says entries h || (e.permit && (not (any_matches entries h) && entry_matches e h)))
says_more [] e h = by e.permit (entry_matches e h)
  where
    by : (p m : Bool) → option_map_or (λ (e : Entry). e.permit) (cond m (Some (record e { permit = p })) None) false ≡ (false || (p && (true && m)))
    by false false = refl
    by false true = refl
    by true false = refl
    by true true = refl
says_more (x ∷ entries) e h = by (entry_matches x h) (says_more entries e h)
  where
    by : (m : Bool) → first_says (entries ++ e ∷ []) h ≡ (first_says entries h || (e.permit && (not (any_matches entries h) && entry_matches e h)))
        → option_map_or (λ (e : Entry). e.permit) (cond m (Some x) (find (λ e. entry_matches e h) (entries ++ e ∷ []))) false
        ≡ (option_map_or (λ (e : Entry). e.permit) (cond m (Some x) (find (λ e. entry_matches e h) entries)) false || (e.permit && (not (m || any_matches entries h) && entry_matches e h)))
    by false rest = rest
    by true rest = said x.permit e.permit (entry_matches e h)
      where
        said : (p q m : Bool) → p ≡ (p || (q && (false && m)))
        said false false m = refl
        said false true m = refl
        said true q m = refl

-- a list with an entry permits what its first match says
pub permits_says : (entries : List Entry) (h : Header) → nat_eq (length entries) 0 ≡ false → first_says entries h ≡ list_permits entries h
permits_says [] h some = absurd (true≢false some)
permits_says (e ∷ entries) h some = refl
