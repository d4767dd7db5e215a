-- The words that begin a predicate.
use Rattle.std.specs.Prelude.{ℕ, List, Option, Some, None, codes, if◌then◌else◌}
use Rattle.std.specs.Str.{bytes_eq}
use Rattle.np_pred.specs.declared.predicate.Pred.{Pred}
use Rattle.np_pred.specs.declared.predicate.Pred.TheVariants as pred
use Rattle.np_pred.specs.declared.keywords.Field.{Field}
use Rattle.np_pred.specs.declared.keywords.Field.TheVariants as field
use Rattle.np_pred.specs.declared.keywords.Operator.{Operator}
use Rattle.np_pred.specs.declared.keywords.Operator.TheVariants as operator

-- the predicates that are one word
unfoldable pub constant_of : List ℕ → Option Pred
constant_of word =
    if bytes_eq word (codes "any") then Some pred.Any else
    (if bytes_eq word (codes "nothing") then Some pred.Nothing else
    (if bytes_eq word (codes "icmp") then Some (pred.Proto 1) else
    (if bytes_eq word (codes "tcp") then Some (pred.Proto 6) else
    (if bytes_eq word (codes "udp") then Some (pred.Proto 17) else
    (if bytes_eq word (codes "established") then Some pred.Established else None)))))

-- the words that take an argument
unfoldable pub field_of : List ℕ → Option Field
field_of word =
    if bytes_eq word (codes "proto") then Some field.Proto else
    (if bytes_eq word (codes "src") then Some field.Src else
    (if bytes_eq word (codes "dst") then Some field.Dst else
    (if bytes_eq word (codes "sport") then Some field.SrcPort else
    (if bytes_eq word (codes "dport") then Some field.DstPort else
    (if bytes_eq word (codes "type") then Some field.IcmpType else
    (if bytes_eq word (codes "code") then Some field.IcmpCode else
    (if bytes_eq word (codes "dscp") then Some field.Dscp else None)))))))

-- the words that take predicates
unfoldable pub operator_of : List ℕ → Option Operator
operator_of word =
    if bytes_eq word (codes "not") then Some operator.Not else
    (if bytes_eq word (codes "and") then Some operator.And else
    (if bytes_eq word (codes "or") then Some operator.Or else None))
