-- Whether a log begins with the byte-order mark.
use Rattle.std.specs.Prelude.{ℕ, [], ◌∷◌, Option, Some, None, Bool, true, false, ◌==◌, if◌then◌else◌}
use Rattle.qtl_syntax.specs.Tree.{Text}
use Rattle.log_reader.specs.declared.mark.Mark.{Mark}
use Rattle.log_reader.specs.declared.mark.Mark.TheVariants.{Whole, Begun, Missing}

-- behind EF BB
abbrev pub mark_behind_two : Text → Mark
mark_behind_two [] = Begun
mark_behind_two (b ∷ bs) = if b == 191 then Whole else Missing

-- behind EF
abbrev pub mark_behind_one : Text → Mark
mark_behind_one [] = Begun
mark_behind_one (b ∷ bs) = if b == 187 then mark_behind_two bs else Missing

-- what the bytes say of the mark EF BB BF at their front
abbrev pub mark_of : Text → Mark
mark_of [] = Begun
mark_of (b ∷ bs) = if b == 239 then mark_behind_one bs else Missing

-- how many bytes the mark takes, and none as long as more bytes may complete it
abbrev pub mark_length : Mark → Bool → Option ℕ
mark_length Whole are_all = Some 3
mark_length Begun true = Some 0
mark_length Begun false = None
mark_length Missing are_all = Some 0
