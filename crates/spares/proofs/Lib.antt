pub mod PoolLaws
