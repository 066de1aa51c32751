pub mod StateStep
