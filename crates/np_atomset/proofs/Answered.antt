-- From what a call says of its answer to what its caller says.
use Rattle.std.proofs.Common.{Option, Some, None}
use Rattle.std.specs.Prelude.{IfNone, IfSome}

pub IfNone-then : {X : Type 0} (o : Option X) (P Q : Type 0) → (P → Q) → IfNone o P → IfNone o Q
IfNone-then None P Q so is = so is
IfNone-then (Some x) P Q so is = tt

pub IfSome-then : {X : Type 0} (o : Option X) (P Q : X → Type 0) → ((x : X) → P x → Q x) → IfSome o P → IfSome o Q
IfSome-then None P Q so is = tt
IfSome-then (Some x) P Q so is = so x is
