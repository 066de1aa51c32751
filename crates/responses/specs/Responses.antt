-- What a command does to the words and what it is met with. 01, The driver: "Each line is met with `ok`, `refused` and
-- its number, `moved` and the steps given, or `answered`, .." Rests on the table's calls and on the lines' commands and
-- replies.
use Rattle.std.specs.Prelude.{ℕ, List, pos, Result, Ok, Err, ⊤, Option, Some, None}
use Rattle.interface.specs.Numbers.{number_of, kind_insert, kind_delete, kind_lookup, kind_post}
use Rattle.interface.specs.declared.Ran.{Ran}
use Rattle.commands.specs.declared.Command.{Command}
use Rattle.replies.specs.declared.Reply.{Reply}
use Rattle.opening.specs.Opening.{open_words}
use Rattle.calls.specs.Calls.{call_words}
use Rattle.runs.specs.Runs.{run_words}
use Rattle.interface.specs.declared.Refusal.{Refusal}

-- ---- the replies of the calls

-- of an opening, or of a call
unfoldable pub of_done : Result ⊤ Refusal → Reply
of_done (Ok _) = Reply.Ok
of_done (Err r) = Reply.Refused (number_of r)

unfoldable pub of_ran : Result Ran Refusal → Reply
of_ran (Ok (Ran.Moved k)) = Reply.Moved k
of_ran (Ok (Ran.Answered c)) = Reply.Answered c
of_ran (Err r) = Reply.Refused (number_of r)

-- ---- commands

-- a call's words, and its answer as a reply
unfoldable pub replying : {A : Type 0} → (A → Reply) → List ℕ × A → List ℕ × Reply
replying reply x = (x.0, reply x.1)

-- the words after a line's command, and its reply; a line that is no command is unread; a delete and a lookup have no
-- total; a listing changes no words and has no reply of this type: it is met by its rows
unfoldable pub responded : List ℕ → Option Command → List ℕ × Reply
responded l None = (l, Reply.Unread)
responded l (Some (Command.Open n b M)) = replying of_done (open_words l n b M)
responded l (Some (Command.Insert w a t)) = replying of_done (call_words l w kind_insert a t)
responded l (Some (Command.Delete w a)) = replying of_done (call_words l w kind_delete a (pos 0))
responded l (Some (Command.Lookup w a)) = replying of_done (call_words l w kind_lookup a (pos 0))
responded l (Some (Command.Post w a v)) = replying of_done (call_words l w kind_post a v)
responded l (Some (Command.Steps w k)) = replying of_ran (run_words l w k)
responded l (Some Command.List) = (l, Reply.Unread)
