-- The parser of specifications, round that of formulas.
use Rattle.std.specs.Prelude.{ℕ, List, [], ◌∷◌, ◌++◌, Option, Some, None, max}
use Rattle.qtl_syntax.specs.declared.token.Word.TheVariants as word
use Rattle.qtl_syntax.specs.declared.token.Sign.TheVariants as sign
use Rattle.qtl_syntax.specs.declared.token.Token.{Token}
use Rattle.qtl_syntax.specs.declared.token.Token.TheVariants.{Name, Word, Sign}
use Rattle.qtl_syntax.specs.Tree.{Text, Item}
use Rattle.qtl_syntax.specs.Grammar.{Head, PropHead, PredHead, item}
use Rattle.qtl_syntax.specs.Machine.{State, Operand, next, finish, least, option_next, Measured}

-- where in an item
pub data Spot : Type 0 where
  Start : Spot
  PropName : Spot
  PropColon : Text → Spot
  PredName : Spot
  PredOpen : Text → Spot
  FirstParam : Text → Spot
  NextParam : Text → List Text → Spot
  ParamEnd : Text → List Text → Spot
  PredEquals : Text → List Text → Spot
  Inside : Head → State → Spot

-- the items before, the greatest height among them, and where in the next one
pub record Place : Type 0 where
  pub items : List Item
  pub tallest : ℕ
  pub spot : Spot

abbrev pub begun : Token → Option Spot
begun (Word word.Prop) = Some PropName
begun (Word word.Pred) = Some PredName
begun _ = None

abbrev pub moved : Place → Spot → Place
moved p spot = record { items = p.items; tallest = p.tallest; spot = spot }

abbrev pub added : Place → Head → Measured → Spot → Place
added p head m spot = record { items = p.items ++ item head m.0 ∷ []; tallest = max p.tallest m.1; spot = spot }

abbrev pub spot_next : Spot → Token → Option Spot
spot_next Start t = begun t
spot_next PropName (Name n) = Some (PropColon n)
spot_next (PropColon n) (Sign sign.Colon) = Some (Inside (PropHead n) (Operand []))
spot_next PredName (Name n) = Some (PredOpen n)
spot_next (PredOpen n) (Sign sign.LeftParen) = Some (FirstParam n)
spot_next (FirstParam n) (Name x) = Some (ParamEnd n (x ∷ []))
spot_next (FirstParam n) (Sign sign.RightParen) = Some (PredEquals n [])
spot_next (NextParam n xs) (Name x) = Some (ParamEnd n (xs ++ x ∷ []))
spot_next (ParamEnd n xs) (Sign sign.Comma) = Some (NextParam n xs)
spot_next (ParamEnd n xs) (Sign sign.RightParen) = Some (PredEquals n xs)
spot_next (PredEquals n xs) (Sign sign.Equals) = Some (Inside (PredHead n xs) (Operand []))
spot_next (Inside head s) t = option_next (next s t) (λ r. Some (Inside head r))
spot_next _ t = None

-- a word that begins an item ends the one before
abbrev pub place_next : Place → Spot → Token → Option Spot → Option Place
place_next p (Inside head s) t (Some spot) = option_next (finish s) (λ m. Some (added p head m spot))
place_next p spot t _ = option_next (spot_next spot t) (λ r. Some (moved p r))

abbrev pub next_place : Place → Token → Option Place
next_place p t = place_next p p.spot t (begun t)

abbrev pub Read : Type 0
Read = List Item × ℕ

abbrev pub ended : Place → Spot → Option Read
ended p Start = Some (p.items, p.tallest)
ended p (Inside head s) = option_next (finish s) (λ m. Some (p.items ++ item head m.0 ∷ [], max p.tallest m.1))
ended p _ = None

-- the items and their greatest height, if the tokens spell any
abbrev pub reading : Place → List Token → Option Read
reading p [] = ended p p.spot
reading p (t ∷ ts) = option_next (next_place p t) (λ r. reading r ts)

abbrev pub beginning : Place
beginning = record { items = []; tallest = 0; spot = Start }

-- the least height in the item begun
abbrev pub least_in : Spot → ℕ
least_in Start = 0
least_in (Inside head s) = least s
least_in _ = 1

-- the least height of a specification that begins so
abbrev pub least_of : Place → ℕ
least_of p = max p.tallest (least_in p.spot)

-- where the tokens lead, if they begin a specification
abbrev pub run : Place → List Token → Option Place
run p [] = Some p
run p (t ∷ ts) = option_next (next_place p t) (λ r. run r ts)
