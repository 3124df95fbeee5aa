-- What a user reads of a call's end.
use Rattle.std.specs.Prelude.{ℕ, List, codes}
use Rattle.dbp_answers.specs.declared.status.Status.{Status}
use Rattle.dbp_answers.specs.declared.status.Status.TheVariants.{Ok, Overrun, Refused, Usage, ReadFault, WriteFault, NoMemory, TooLarge}

-- the line for the standard error
abbrev pub note_text : Status → List ℕ
note_text Ok = codes "done"
note_text Refused = codes "the document was refused"
note_text Overrun = codes "a release meets an unfinished instance"
note_text Usage = codes "usage: dbp COMMAND < DOCUMENT, where COMMAND is one of:"
note_text ReadFault = codes "a read of the input failed; nothing was written"
note_text WriteFault = codes "a write of the output failed; not all of it was written"
note_text NoMemory = codes "memory ran out; nothing was written"
note_text TooLarge = codes "the document has more than 1048576 bytes; nothing was written"
