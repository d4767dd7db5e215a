-- The texts of a seed are read without a fault.
use Rattle.std.proofs.Common.{◌≡◌, ℕ, List, [], ◌∷◌, map, ap}
use Rattle.std.specs.Prelude.{Ok, Result, IsOk, is_ok}
use Rattle.std.specs.List.{All, AllByRecursion}
use Rattle.std.proofs.lemmas.List.Elements.{All-from_recursion}
use Rattle.np_acl_read.specs.Reading.{config_of}
use Rattle.np_generate.specs.Generated.{drawn, generated_configs, generated_net}
use Rattle.np_net_read.specs.Reading.{net_of}
use Rattle.np_generated.specs.Configs.{config_meant}
use Rattle.np_generated.proofs.ConfigLaws.{configs_read}
use Rattle.np_generated.proofs.NetLaws.{net_read}

pub net_accepted : (seed : ℕ) → IsOk (net_of (generated_net seed))
net_accepted seed = ap is_ok (net_read seed)

-- results that are values, one by one
each_ok : {X Y V E : Type 0} (f : X → Result V E) (g : Y → V) (xs : List X) (ys : List Y) → map f xs ≡ map (λ y. Ok (g y)) ys → AllByRecursion (λ x. IsOk (f x)) xs
each_ok f g [] ys same = tt
each_ok f g (x ∷ xs) [] same = absurd (cc)
each_ok f g (x ∷ xs) (y ∷ ys) same =
    let first : f x ≡ Ok (g y) = cc in
    let rest : map f xs ≡ map (λ y. Ok (g y)) ys = cc in
    (ap is_ok first, each_ok f g xs ys rest)

pub configs_accepted : (seed : ℕ) → All (λ text. IsOk (config_of text)) (generated_configs seed)
configs_accepted seed =
    All-from_recursion (λ text. IsOk (config_of text)) (generated_configs seed) (each_ok config_of config_meant (generated_configs seed) (drawn seed).0.entries (configs_read seed))
