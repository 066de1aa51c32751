-- Laws that belong to no one function, and the theorem on whole inputs. They rest on the definitions of specs/.
pub mod FieldLaws
pub mod LineLaws
pub mod Longest
pub mod Streaming
pub mod Reading
pub mod TextLaws
pub mod TooMany
pub mod AllAnswered
pub mod Examples
