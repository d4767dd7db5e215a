pub mod CanonicalWords
pub mod CanonicalParts
pub mod CanonicalLaws
pub mod PortLaws
pub mod SpanMeaning
pub mod WrittenWords
