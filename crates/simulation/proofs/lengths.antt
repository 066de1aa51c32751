-- Every step and every call keeps the number of words, whatever the words are.
pub mod StepLengths
pub mod CallLengths
