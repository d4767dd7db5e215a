-- The canonical words of a predicate.
use Rattle.std.specs.Prelude.{ℕ, ◌==◌, List, [], ◌∷◌, ◌++◌, codes, if◌then◌else◌}
use Rattle.std.specs.Fmt.{decimal}
use Rattle.std.specs.List.{join_with_byte}
use Rattle.np_pred.specs.declared.predicate.Pred.{Pred}
use Rattle.np_pred.specs.declared.predicate.Pred.TheOpen.{Pred-F, Any, Nothing, Proto, Src, Dst, SrcPort, DstPort, IcmpType, IcmpCode, Dscp, Established, Not, And, Or}
use Rattle.np_pred.specs.declared.predicate.Pred.TheFolds.{fold-Pred}
use Rattle.np_pred.specs.Patterns.{addresses_text}
use Rattle.np_pred.specs.Dscp.{dscp_text}
use Rattle.np_pred.specs.Ports.{ports_text}

-- the words of a protocol: three have a name
unfoldable pub protocol_words : ℕ → List (List ℕ)
protocol_words n =
    if n == 1 then codes "icmp" ∷ [] else
    (if n == 6 then codes "tcp" ∷ [] else
    (if n == 17 then codes "udp" ∷ [] else codes "proto" ∷ decimal n ∷ []))

-- one predicate, with its operands' words in their places
abbrev pub words_step : Pred-F (List (List ℕ)) → List (List ℕ)
words_step Any = codes "any" ∷ []
words_step Nothing = codes "nothing" ∷ []
words_step (Proto n) = protocol_words n
words_step (Src patterns) = codes "src" ∷ addresses_text patterns ∷ []
words_step (Dst patterns) = codes "dst" ∷ addresses_text patterns ∷ []
words_step (SrcPort ports) = codes "sport" ∷ ports_text ports ∷ []
words_step (DstPort ports) = codes "dport" ∷ ports_text ports ∷ []
words_step (IcmpType n) = codes "type" ∷ decimal n ∷ []
words_step (IcmpCode n) = codes "code" ∷ decimal n ∷ []
words_step (Dscp values) = codes "dscp" ∷ dscp_text values ∷ []
words_step Established = codes "established" ∷ []
words_step (Not p) = codes "not" ∷ p
words_step (And p q) = codes "and" ∷ (p ++ q)
words_step (Or p q) = codes "or" ∷ (p ++ q)

-- the words of a predicate, in the order in which they are written
abbrev pub pred_words : Pred → List (List ℕ)
pred_words p = fold-Pred (List (List ℕ)) words_step p

-- the words, joined by one space
abbrev pub pred_text : Pred → List ℕ
pred_text p = join_with_byte 32 (pred_words p)

-- the text of one predicate, with its operands' texts in their places
abbrev pub written_step : Pred-F (List ℕ) → List ℕ
written_step Any = codes "any"
written_step Nothing = codes "nothing"
written_step (Proto n) = join_with_byte 32 (protocol_words n)
written_step (Src patterns) = codes "src " ++ addresses_text patterns
written_step (Dst patterns) = codes "dst " ++ addresses_text patterns
written_step (SrcPort ports) = codes "sport " ++ ports_text ports
written_step (DstPort ports) = codes "dport " ++ ports_text ports
written_step (IcmpType n) = codes "type " ++ decimal n
written_step (IcmpCode n) = codes "code " ++ decimal n
written_step (Dscp values) = codes "dscp " ++ dscp_text values
written_step Established = codes "established"
written_step (Not p) = codes "not " ++ p
written_step (And p q) = codes "and " ++ (p ++ (32 ∷ [] ++ q))
written_step (Or p q) = codes "or " ++ (p ++ (32 ∷ [] ++ q))

-- the same text as `pred_text`, written operand by operand
abbrev pub written : Pred → List ℕ
written p = fold-Pred (List ℕ) written_step p
