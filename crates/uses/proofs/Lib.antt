pub mod ListGrammar
