-- Lists compared; what is left; orders compared; the plain search; the two cuts; related tables; good logs; judgements; cases.
pub mod SameLaws
pub mod Left
pub mod ComparingLaws
pub mod SearchLaws
pub mod Cuts
pub mod Related
pub mod Explained
pub mod Judgements
pub mod LogCases
