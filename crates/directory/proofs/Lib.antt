pub mod DirectoryLaws
