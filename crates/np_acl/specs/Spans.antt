-- What an entry names that doesn't test a field.
use Rattle.np_space.specs.Span.{span_from}
use Rattle.np_space.specs.declared.spans.Span.{Span}

-- every port, type or code
abbrev pub any_number : Span
any_number = span_from 0 65535

-- every protocol
abbrev pub any_protocol : Span
any_protocol = span_from 0 255

-- whether a connection is established or not
abbrev pub any_flag : Span
any_flag = span_from 0 1

-- every code point of differentiated services
abbrev pub any_dscp : Span
any_dscp = span_from 0 63
