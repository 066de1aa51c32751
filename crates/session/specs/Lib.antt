-- The statements of this crate: what the words mean in a session, and that the program's output is the session's.
-- They rest on the driver's definitions, on the meaning of words and on the lines' session.
pub mod Program
