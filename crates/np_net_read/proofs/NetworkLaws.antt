-- Sound declarations make a network.
use Rattle.std.proofs.Common.{◌≡◌, ℕ, zero, suc, ◌≤◌, ◌+◌, ◌*◌, nat_eq, List, [], ◌∷◌, ◌++◌, length, map, Option, Some, None, refl, ◌∙◌, ap, arith}
use Rattle.std.specs.Prelude.{IfSome}
use Rattle.std.specs.Option.{unwrap_or}
use Rattle.std.specs.List.{list_any, range_with_len}
use Rattle.std.proofs.lemmas.List.{map-append}
use Rattle.std.proofs.lemmas.List.FromFn.{length-map-range_with_len}
use Rattle.np_net.specs.Network.{IsNetwork}
use Rattle.np_net.specs.Limits.{depth_limit}
use Rattle.np_net_read.specs.declared.declared.Declared.{Declared}
use Rattle.np_net_read.specs.Declaring.{free_flags, network_of, depth_or_default}
use Rattle.np_net_read.specs.Fitting.{IsSound}

shallow : (depth : Option ℕ) → IfSome depth (λ depth. (1 ≤ depth) × (depth ≤ depth_limit)) → 1 ≤ depth_or_default depth
shallow None is = omega arith
shallow (Some depth) is = is.0

deep : (depth : Option ℕ) → IfSome depth (λ depth. (1 ≤ depth) × (depth ≤ depth_limit)) → depth_or_default depth ≤ depth_limit
deep None is = omega arith
deep (Some depth) is = is.1

-- the default depth stands where none is declared
pub default_depth : (depth : Option ℕ) → unwrap_or depth 8 ≡ depth_or_default depth
default_depth None = refl
default_depth (Some depth) = refl

range_more : (a n : ℕ) → range_with_len a (suc n) ≡ range_with_len a n ++ (a + n) ∷ []
range_more a zero = ap (λ b. b ∷ []) (omega arith)
range_more a (suc n) = let same : a + 1 + n ≡ a + suc n = omega arith in ap (λ xs. a ∷ xs) (range_more (a + 1) n ∙ ap (λ b. range_with_len (a + 1) n ++ b ∷ []) same)

-- the flag of one more slot
pub flags_more : (freed : List ℕ) (n : ℕ) → free_flags freed (n + 1) ≡ free_flags freed n ++ list_any (nat_eq n) freed ∷ []
flags_more freed n =
    let next : n + 1 ≡ suc n = omega arith in
    let from : 0 + n ≡ n = omega arith in
    ap (free_flags freed) next ∙ ap (map (λ slot. list_any (nat_eq slot) freed)) (range_more 0 n ∙ ap (λ b. range_with_len 0 n ++ b ∷ []) from)
    ∙ map-append (λ slot. list_any (nat_eq slot) freed) (range_with_len 0 n) (n ∷ [])

-- sound declarations make a network
pub sound_network : (d : Declared) → IsSound d → IsNetwork (network_of d)
unfolding network_of
sound_network d sound = record {
  limits = record {
    areas = sound.area_room;
    devices = sound.device_room;
    interfaces = sound.interface_room;
    goals = sound.goal_room;
    sas = sound.sa_room;
    rules = sound.rule_room;
    ipgoals = sound.ipgoal_room;
  };
  names = record {
    areas = sound.area_names;
    devices = sound.device_names;
    interfaces = sound.interface_names;
    sas = sound.sa_names;
  };
  areas = sound.areas;
  devices = sound.devices;
  interfaces = sound.interfaces;
  free = length-map-range_with_len (λ slot. list_any (nat_eq slot) d.freed) 0 (2 * length d.interfaces);
  goals = sound.goals;
  sas = sound.sas;
  tables = sound.tables;
  ipgoals = sound.ipgoals;
  shallow = shallow d.depth sound.depth;
  deep = deep d.depth sound.depth;
}
