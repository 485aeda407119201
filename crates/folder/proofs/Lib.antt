pub mod StreamLemmas
pub mod TextLemmas
