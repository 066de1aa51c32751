-- All places of a log, and the judgement: the search in words is the search over the log.
mod AllLeft
mod Judgement
