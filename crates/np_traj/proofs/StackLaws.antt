-- The top of a stack, and what is under it.
use Rattle.std.proofs.Common.{◌≡◌, ℕ, ◌<◌, List, [], ◌∷◌, ◌++◌, length, Option, Some, None, All, IfSome, refl, sym, ◌∙◌, ap, subst}
use Rattle.std.proofs.lemmas.List.{append-nil}
use Rattle.std.proofs.lemmas.List.Elements.{All-cons, All-head, All-tail}
use Rattle.std.specs.Option.{option_to_list}
use Rattle.np_net.specs.Plan.{Plan}
use Rattle.np_stack.specs.HeaderStack.{top_of}
use Rattle.np_stack.proofs.Tops.{top_of-none}
use Rattle.np_ipsec.specs.Steps.{State}
use Rattle.np_traj.specs.States.{IsStateOf, under}

-- what is under the item that was pushed last
pub under-push : (xs : List ℕ) (k : ℕ) → under (xs ++ k ∷ []) ≡ xs
under-push [] k = refl
under-push (x ∷ []) k = refl
under-push (x ∷ y ∷ ys) k = ap (λ l. x ∷ l) (under-push (y ∷ ys) k)

-- a stack with a top is what is under it, and the top
pub under-top : (xs : List ℕ) (k : ℕ) → top_of xs ≡ Some k → xs ≡ under xs ++ k ∷ []
under-top [] k top = cc
under-top (x ∷ []) k top = let same : x ≡ k = cc in ap (λ l. l ∷ []) same
under-top (x ∷ y ∷ ys) k top = ap (λ l. x ∷ l) (under-top (y ∷ ys) k top)

-- a pop leaves what is under the top
pub popped : (old new : List ℕ) (top : Option ℕ) → old ≡ new ++ option_to_list top → top ≡ top_of old → new ≡ under old
popped old new None split top = sym (append-nil new) ∙ sym split ∙ top_of-none old (sym top) ∙ sym (ap under (top_of-none old (sym top)))
popped old new (Some k) split top = sym (ap under split ∙ under-push new k)

-- what holds of each item holds of the top
pub top-holds : (P : ℕ → Type 0) (xs : List ℕ) → All P xs → IfSome (top_of xs) P
top-holds P [] each = tt
top-holds P (x ∷ []) each = All-head P x [] each
top-holds P (x ∷ y ∷ ys) each = top-holds P (y ∷ ys) (All-tail P x (y ∷ ys) each)

-- the outermost association of a state is the network's
pub top_is_of_network : (net : Plan) (s : State) (top : Option ℕ) → IsStateOf net s → top ≡ top_of s.stack → IfSome top (λ k. k < length net.sas)
top_is_of_network net s top is same = subst (λ o. IfSome o (λ k. k < length net.sas)) (sym same) (top-holds (λ k. k < length net.sas) s.stack is.stack)

-- and those under it
pub under-holds : (P : ℕ → Type 0) (xs : List ℕ) → All P xs → All P (under xs)
under-holds P [] each = each
under-holds P (x ∷ []) each = All-tail P x [] each
under-holds P (x ∷ y ∷ ys) each = All-cons P x (under (y ∷ ys)) (All-head P x (y ∷ ys) each) (under-holds P (y ∷ ys) (All-tail P x (y ∷ ys) each))
