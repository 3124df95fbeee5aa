-- How a call ends that read its input, and wrote its text.
use Rattle.std.proofs.Common.{◌≡◌, ◌≤◌, ℕ, Bool, true, List, Option, length, sym, subst, String, Global}
use Rattle.std.proofs.KnownBytes.{Consumes-whole}
use Rattle.std.specs.Io.KnownBytes.{Appends, Consumes, IsAtEnd}
use Rattle.dbp_plan.specs.Calls.{one_more}
use Rattle.dbp_plan.specs.Faults.{Rose}
use Rattle.dbp_answers.specs.Answer.{Answers, made, overran, refused}
use Rattle.dbp_answers.specs.Commands.{reads_input}
use Rattle.dbp_top.specs.Commands.{Names}
use Rattle.dbp_top.specs.Ends.{Answered, Ends, EndsAs, ReadWhole, WhereRead, WroteWhole, no_command, no_memory, overrun, refusal, text, too_large, whole}
use Rattle.dbp_answers.specs.declared.command.Command.{Command}
use Rattle.dbp_answers.specs.declared.status.Status.{Status}
use Rattle.dbp_answers.specs.declared.status.Status.TheVariants.{Ok, Overrun, Refused, Usage, ReadFault, WriteFault, NoMemory, TooLarge}
use Rattle.dbp_top.specs.declared.top.TheConstants.{MAX_DOCUMENT}

-- of a command that reads, and of one that doesn't
pub where-read : (command : Command) (A B : Type 0) → reads_input command ≡ true → A → WhereRead (reads_input command) A B
where-read command A B reads holds = subst (λ (r : Bool). WhereRead r A B) (sym reads) holds

module _ {S K : Type 0} (left : S → Option (List ℕ)) (source_faults source_ends : S → ℕ) (written : K → Option (List ℕ)) (sink_faults : K → ℕ) where
  ends-whole : (command : Command) (source new_source : S) (sink new_sink : K) (input output : List ℕ) (status : Status) → Answers input command status output
      → WroteWhole left source_faults source_ends written sink_faults source new_source sink new_sink command status → EndsAs left source_faults source_ends written sink_faults command source new_source sink new_sink status
  ends-whole command s t k l input written_text status (made made_text makes) wrote = wrote
  ends-whole command s t k l input written_text status (refused why is) wrote = wrote
  ends-whole command s t k l input written_text status (overran line is) wrote = wrote

  -- a call that read its input to the end, and wrote its answer whole, ends as its command's
  pub ends-written : (command : Command) (source new_source : S) (sink new_sink : K) (input output : List ℕ) (status : Status) → reads_input command ≡ true
      → (length input ≤ MAX_DOCUMENT) × Consumes (left source) (left new_source) input → IsAtEnd (left new_source) × (source_faults new_source ≡ source_faults source) × (source_ends new_source ≡ one_more (source_ends source))
      → Answers input command status output → Appends (written sink) (written new_sink) output × (sink_faults new_sink ≡ sink_faults sink)
      → EndsAs left source_faults source_ends written sink_faults command source new_source sink new_sink status
  ends-written command source new_source sink new_sink input output status reads bytes end answered wrote =
      ends-whole command source new_source sink new_sink input output status answered (record {
        read = where-read command (ReadWhole left source_faults source_ends written sink_faults source new_source) (new_source ≡ source) reads (record {
          end = end.0;
          taken = (input, bytes.1, bytes.0);
          fits = Consumes-whole _ _ input (λ l. length l ≤ MAX_DOCUMENT) bytes.1 end.0 bytes.0;
          no_fault = end.1;
          one_end = end.2;
        });
        wrote = where-read command _ _ reads
            (Consumes-whole _ _ input (λ l. (x : List ℕ) × Answers l command status x × Appends (written sink) (written new_sink) x) bytes.1 end.0 (output, answered, wrote.0));
        no_fault = wrote.1;
      })

  -- the arguments of a call that ended as its command's
  pub ends-named : (serves : Command → Bool) (arguments : List (String Global)) (command : Command) (source new_source : S) (sink new_sink : K) (status : Status) → Names arguments command → serves command ≡ true
      → EndsAs left source_faults source_ends written sink_faults command source new_source sink new_sink status → Ends left source_faults source_ends written sink_faults serves arguments source new_source sink new_sink status
  ends-named serves arguments command s t k l Ok named served ends = (command, named, served, ends)
  ends-named serves arguments command s t k l Refused named served ends = (command, named, served, ends)
  ends-named serves arguments command s t k l Overrun named served ends = (command, named, served, ends)
  ends-named serves arguments command s t k l Usage named served ends = absurd ends
  ends-named serves arguments command s t k l ReadFault named served ends = (command, named, served, ends)
  ends-named serves arguments command s t k l WriteFault named served ends = (command, named, served, ends)
  ends-named serves arguments command s t k l NoMemory named served ends = (command, named, served, ends)
  ends-named serves arguments command s t k l TooLarge named served ends = (command, named, served, ends)

  -- if nothing failed, the call was answered
  pub answered-without-faults : (serves : Command → Bool) (arguments : List (String Global)) (source new_source : S) (sink new_sink : K) (status : Status)
      → Ends left source_faults source_ends written sink_faults serves arguments source new_source sink new_sink status
      → (Rose (source_faults source) (source_faults new_source) → ⊥) → (Rose (sink_faults sink) (sink_faults new_sink) → ⊥)
      → Answered left source_faults source_ends written sink_faults serves arguments source new_source sink new_sink status
  answered-without-faults serves arguments s t k l Ok ends reads writes = whole ends.0 Ok text ends.1 ends.2 ends.3
  answered-without-faults serves arguments s t k l Refused ends reads writes = whole ends.0 Refused refusal ends.1 ends.2 ends.3
  answered-without-faults serves arguments s t k l Overrun ends reads writes = whole ends.0 Overrun overrun ends.1 ends.2 ends.3
  answered-without-faults serves arguments s t k l Usage ends reads writes = no_command ends.0 ends.1 ends.2
  answered-without-faults serves arguments s t k l ReadFault ends reads writes = absurd (reads ends.3.1.fault)
  answered-without-faults serves arguments s t k l WriteFault ends reads writes = absurd (writes ends.3.fault)
  answered-without-faults serves arguments s t k l NoMemory ends reads writes = no_memory ends.0 ends.1 ends.2 ends.3
  answered-without-faults serves arguments s t k l TooLarge ends reads writes = too_large ends.0 ends.1 ends.2 ends.3.0 ends.3.1
