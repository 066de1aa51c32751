pub mod LookupLaws
