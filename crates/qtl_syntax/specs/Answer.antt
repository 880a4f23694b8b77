-- What the scanner and the parser answer.
use Rattle.std.specs.Prelude.{ℕ, List}
use Rattle.qtl_syntax.specs.declared.token.Token.{Token}
use Rattle.qtl_syntax.specs.declared.scan.TokenEnd.{TokenEnd}
use Rattle.qtl_syntax.specs.declared.scan.TokenEnd.TheVariants.{NotToken, NoMemory}
use Rattle.qtl_syntax.specs.declared.read.ReadEnd.{ReadEnd}
use Rattle.qtl_syntax.specs.declared.read.ReadEnd.TheVariants as read_end
use Rattle.qtl_syntax.specs.Cuts.{IsNotToken}
use Rattle.qtl_syntax.specs.Places.{Syntax, TooDeep, BoundTooLarge, IsRefused}

-- the place is that where no token begins; want of memory is free
abbrev pub IsRefusal : List ℕ → TokenEnd → Type 0
IsRefusal text (NotToken at) = IsNotToken text at
IsRefusal text NoMemory = Unit {0}

-- the place is the least one at which a rule holds, and this rule holds there; want of memory is free
abbrev pub IsRefusedBy : List Token → ReadEnd → Type 0
IsRefusedBy ts (read_end.Syntax at) = IsRefused ts Syntax at
IsRefusedBy ts (read_end.TooDeep at) = IsRefused ts TooDeep at
IsRefusedBy ts (read_end.BoundTooLarge at) = IsRefused ts BoundTooLarge at
IsRefusedBy ts read_end.NoMemory = Unit {0}
