-- Laws of fields read together and of the letters. They rest on the definitions of specs/.
pub mod Fields
pub mod Letters
