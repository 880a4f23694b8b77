-- Worked rows, which compute.
use Rattle.std.proofs.Common.{◌≡◌, ℕ, zero, suc, List, [], ◌∷◌, ◌++◌, refl}
use Rattle.std.specs.Prelude.{replicate, codes}
use Rattle.qtl_syntax.specs.declared.formula.Term.TheVariants.{Variable}
use Rattle.qtl_syntax.specs.declared.token.Word.TheVariants as word
use Rattle.qtl_syntax.specs.declared.token.Sign.TheVariants as sign
use Rattle.qtl_syntax.specs.declared.token.Token.{Token}
use Rattle.qtl_syntax.specs.declared.token.Token.TheVariants.{Name, Number, Word, Sign}
use Rattle.qtl_syntax.specs.Tree.{Atom, And, Or, Exists, Prop}
use Rattle.qtl_syntax.specs.Places.{Syntax, TooDeep, BoundTooLarge}
use Rattle.qtl_syntax.specs.Judge.{Good, Bad, judge}
use Rattle.qtl_syntax.specs.Reading.{beginning}

abbrev named : List Token → List Token
named ts = Word word.Prop ∷ Name (codes "t") ∷ Sign sign.Colon ∷ ts

abbrev chain : Token → ℕ → List Token
chain op zero = []
chain op (suc n) = Name (codes "a") ∷ op ∷ chain op n

-- 256 times !: the last one
deep_not : judge beginning 0 (named (replicate 256 (Sign sign.Not) ++ Name (codes "p") ∷ [])) ≡ Bad TooDeep 258
deep_not = refl

-- a & a & ..: the 256th sign; and so for ->
deep_and : judge beginning 0 (named (chain (Sign sign.And) 300)) ≡ Bad TooDeep 514
deep_and = refl

deep_arrow : judge beginning 0 (named (chain (Sign sign.Implies) 300)) ≡ Bad TooDeep 514
deep_arrow = refl

-- P [ in height 256: a bound may come, an interval may not; the place is the token behind the bracket
deep_bracket : judge beginning 0 (named (replicate 254 (Sign sign.Not) ++ Word word.Once ∷ Sign sign.LeftBracket ∷ Name (codes "p") ∷ [])) ≡ Bad TooDeep 259
deep_bracket = refl

-- a bound that is too large, and never closed
large : judge beginning 0 (named (Word word.Once ∷ Sign sign.LeftBracket ∷ Sign sign.AtMost ∷ Number (codes "1048575") ∷ Name (codes "p") ∷ [])) ≡ Bad BoundTooLarge 6
large = refl

open_terms : judge beginning 0 (named (Word word.Forall ∷ Name (codes "x") ∷ Sign sign.Dot ∷ Name (codes "p") ∷ Sign sign.LeftParen ∷ Name (codes "x") ∷ [])) ≡ Bad Syntax 9
open_terms = refl

-- a & exists x . p(x) | q
body_reaches : judge beginning 0 (named (Name (codes "a") ∷ Sign sign.And ∷ Word word.Exists ∷ Name (codes "x") ∷ Sign sign.Dot ∷ Name (codes "p") ∷ Sign sign.LeftParen ∷ Name (codes "x") ∷ Sign sign.RightParen ∷ Sign sign.Or ∷ Name (codes "q") ∷ []))
    ≡ Good (Prop (codes "t") (And (Atom (codes "a") []) (Exists (codes "x") (Or (Atom (codes "p") (Variable (codes "x") ∷ [])) (Atom (codes "q") [])))) ∷ [], 4)
body_reaches = refl
