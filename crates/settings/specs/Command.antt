-- The command whose words are read, as the data that `clap` is told of it.
use Rattle.std.specs.Prelude.{List, ℕ, true, codes, Some}
use Rattle.clap.specs.Words.{App, Rule, new_app, new_rule, with_rule}
use Rattle.clap.specs.Simple.{on_top}
use Rattle.clap.specs.declared.builder.ArgAction.TheVariants.{Set, SetTrue}

-- an option of one value, which is set at most once and has no short form
abbrev pub option_rule : List ℕ → Rule
option_rule name = record (new_rule name) { long = Some name; action = Some Set }

-- the flag --all, which is set at most once
abbrev pub all_rule : Rule
all_rule = record (new_rule (codes "all")) { long = Some (codes "all"); action = Some SetTrue }

-- the first word, which has to be there
abbrev pub spec_rule : Rule
spec_rule = record (new_rule (codes "SPEC")) { action = Some Set; required = true }

-- the second word, which may be left out
abbrev pub log_rule : Rule
log_rule = record (new_rule (codes "LOG")) { action = Some Set }

-- the command without arguments; its words don't begin with the program's name
abbrev pub bare : App
bare = on_top (λ s. record s { no_binary_name = true }) (new_app (codes "dejavu"))

abbrev pub with_option : App → List ℕ → App
with_option command name = with_rule command (option_rule name)

-- the command with its options of one value
abbrev pub options : App
options = with_option (with_option (with_option (with_option (with_option (with_option bare (codes "bits")) (codes "nodes")) (codes "cache")) (codes "limit"))
    (codes "listen")) (codes "sample")

-- the whole command
unfoldable pub dejavu : App
dejavu = with_rule (with_rule (with_rule options all_rule) spec_rule) log_rule
