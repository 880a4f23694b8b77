-- Each line that ends a report, with its line feed.
use Rattle.std.specs.Prelude.{ℕ, [], ◌++◌, codes, decimal}
use Rattle.qtl_syntax.specs.Tree.{Text}
use Rattle.qtl_syntax.specs.declared.fault.SpecFault.{SpecFault}
use Rattle.qtl_syntax.specs.declared.fault.SpecFault.TheVariants as spec_fault
use Rattle.wellformed.specs.declared.fault.NameFault.{NameFault}
use Rattle.wellformed.specs.declared.fault.NameFault.TheVariants as name_fault
use Rattle.log_reader.specs.declared.fault.LogFault.{LogFault}
use Rattle.log_reader.specs.declared.fault.LogFault.TheVariants as log_fault
use Rattle.report.specs.declared.which.Which.{Which}
use Rattle.report.specs.declared.which.Which.TheVariants as file

-- Of a run that judged the whole log

-- so many events were judged, and so many verdicts on them are false
abbrev pub end_line : (events violations : ℕ) → Text
end_line events violations =
    codes "events "
    ++ (decimal events ++ (codes " violations " ++ (decimal violations ++ codes "\n")))

-- Of the words and the files that they name

-- the words are a wrong use
abbrev pub usage_line : Text
usage_line =
    codes "stopped: usage: dejavu [--bits B] [--nodes N] [--cache C] [--limit L] [--all] "
    ++ codes "[--listen NAMES] [--sample SEED,EVENTS] SPEC [LOG]\n"

-- how a last line calls the file
abbrev pub file_text : Which → Text
file_text file.Spec = codes "the specification"
file_text file.Log = codes "the log"

-- the file could not be opened
abbrev pub unopened_line : Which → Text
unopened_line which = codes "stopped: cannot open " ++ (file_text which ++ codes "\n")

-- a read of the file failed
abbrev pub unread_line : Which → Text
unread_line which = codes "stopped: read fault in " ++ (file_text which ++ codes "\n")

-- Of the specification

-- it has too many bytes
abbrev pub long_spec_line : Text
long_spec_line = codes "stopped: specification longer than 1048576 bytes\n"

-- why it is refused by its grammar, and where
abbrev pub fault_line : SpecFault → Text
fault_line (spec_fault.NotToken at) =
    codes "stopped: no token at byte " ++ (decimal at ++ codes "\n")
fault_line (spec_fault.Syntax at) =
    codes "stopped: syntax at token " ++ (decimal at ++ codes "\n")
fault_line (spec_fault.TooDeep at) =
    codes "stopped: too deep at token " ++ (decimal at ++ codes "\n")
fault_line (spec_fault.BoundTooLarge at) =
    codes "stopped: bound too large at token " ++ (decimal at ++ codes "\n")
fault_line spec_fault.NoMemory = []

-- a fault in this item
abbrev pub in_item : Text → ℕ → Text
in_item head item = head ++ (codes " in item " ++ (decimal item ++ codes "\n"))

-- a fault at this node of this item's formula
abbrev pub at_node : Text → ℕ → ℕ → Text
at_node head item node =
    head
    ++ (codes " in item "
    ++ (decimal item ++ (codes " at node " ++ (decimal node ++ codes "\n"))))

-- why it is refused by its names, and where
abbrev pub name_line : NameFault → Text
name_line (name_fault.DuplicateName item) = in_item (codes "stopped: duplicate name") item
name_line (name_fault.LateMacro item node) = at_node (codes "stopped: late macro") item node
name_line (name_fault.MacroArity item node) =
    at_node (codes "stopped: wrong number of macro terms") item node
name_line (name_fault.ArityClash item node) = at_node (codes "stopped: clash of arities") item node
name_line (name_fault.FreeVariable item node) = at_node (codes "stopped: free variable") item node
name_line name_fault.NoProperty = codes "stopped: no property\n"
name_line (name_fault.TooManySubformulas found) =
    codes "stopped: too many subformulas, " ++ (decimal found ++ codes "\n")
name_line (name_fault.TooManyVariables found) =
    codes "stopped: too many variables, " ++ (decimal found ++ codes "\n")
name_line name_fault.NoMemory = []

-- Of the log

-- a fault in this record
abbrev pub at_record : Text → ℕ → Text
at_record head number = head ++ (codes " at record " ++ (decimal number ++ codes "\n"))

-- why the log has no further event, and in which record
abbrev pub log_line : LogFault → Text
log_line (log_fault.QuoteOpen number) = at_record (codes "stopped: quote not closed") number
log_line (log_fault.AfterQuote number) = at_record (codes "stopped: text after quote") number
log_line (log_fault.RecordTooLong number) = at_record (codes "stopped: record too long") number
log_line (log_fault.TooManyFields number) = at_record (codes "stopped: too many fields") number
log_line (log_fault.EmptyName number) = at_record (codes "stopped: empty name") number
log_line (log_fault.BadTime number) = at_record (codes "stopped: bad time") number
log_line (log_fault.TimeBack number before now) =
    codes "stopped: time falls from "
    ++ (decimal before
    ++ (codes " to "
    ++ (decimal now ++ (codes " at record " ++ (decimal number ++ codes "\n")))))
log_line log_fault.NoMemory = []

-- it has more bytes than this limit
abbrev pub long_log_line : (limit : ℕ) → Text
long_log_line limit = codes "stopped: log longer than " ++ (decimal limit ++ codes " bytes\n")

-- Of a monitor that is full

-- at this event so many codes are needed for the variable of this number and name, and it has fewer
abbrev pub codes_line : (event variable need : ℕ) → Text → Text
codes_line event variable need name =
    codes "stopped: codes full at event "
    ++ (decimal event
    ++ (codes ", variable "
    ++ (decimal variable
    ++ (codes " (" ++ (name ++ (codes "), need " ++ (decimal need ++ codes "\n")))))))

-- at this event this row of this subformula needs more nodes than there are
abbrev pub nodes_line : (event subformula row : ℕ) → Text
nodes_line event subformula row =
    codes "stopped: nodes full at event "
    ++ (decimal event
    ++ (codes ", subformula "
    ++ (decimal subformula ++ (codes ", row " ++ (decimal row ++ codes "\n")))))
