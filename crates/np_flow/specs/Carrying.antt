-- What paths carry, whatever the slots say.
use Rattle.std.specs.Prelude.{◌≡◌, ◌⊎◌, ℕ, ◌+◌, ◌*◌, ◌<◌, Bool, true, List, [], ◌∷◌, length, IsTrue}
use Rattle.std.specs.Ordering.{nat_cmp, is_le}
use Rattle.std.specs.Cmp.Lexicographic.{slice_cmp}
use Rattle.np_net.specs.Path.{IsPath}
use Rattle.np_net.specs.declared.filtering.Interface.{Interface}

-- Each hop may be crossed: slot 2 * i lets in at its first interface i, and slot 2 * j + 1 lets out at its second, j.
abbrev pub AllCross : (ℕ → Bool) → List (ℕ × ℕ) → Type 0
AllCross lets [] = Unit {0}
AllCross lets (hop ∷ hops) = (lets (2 * hop.0) ≡ true) × (lets (2 * hop.1 + 1) ≡ true) × AllCross lets hops

-- The hops are a path from area a to area b, and each of them may be crossed.
pub record Carries (interfaces : List Interface) (lets : ℕ → Bool) (a : ℕ) (hops : List (ℕ × ℕ)) (b : ℕ) : Type 0 where
  pub path : IsPath interfaces a hops b
  pub cross : AllCross lets hops

-- Some path from area a to area b may be crossed, of any length.
pub record Reaches (interfaces : List Interface) (lets : ℕ → Bool) (a b : ℕ) : Type 0 where
  pub hops : List (ℕ × ℕ)
  pub carries : Carries interfaces lets a hops b

-- the interfaces of hops, one hop after another, each hop's first interface before its second
abbrev pub numbers_of : List (ℕ × ℕ) → List ℕ
numbers_of [] = []
numbers_of (hop ∷ hops) = hop.0 ∷ hop.1 ∷ numbers_of hops

-- the first hops are fewer, or as many and not after the others in lexicographic order
abbrev pub IsShorterOrFirst : List (ℕ × ℕ) → List (ℕ × ℕ) → Type 0
IsShorterOrFirst xs ys = (length xs < length ys) ⊎ ((length xs ≡ length ys) × IsTrue (is_le (slice_cmp nat_cmp (numbers_of xs) (numbers_of ys))))

-- Of the paths from area a to area b that may be crossed these hops are the shortest, and of the shortest ones the first.
pub record IsFirstPath (interfaces : List Interface) (lets : ℕ → Bool) (a : ℕ) (hops : List (ℕ × ℕ)) (b : ℕ) : Type 0 where
  pub carries : Carries interfaces lets a hops b
  pub first : (others : List (ℕ × ℕ)) → Carries interfaces lets a others b → IsShorterOrFirst hops others
