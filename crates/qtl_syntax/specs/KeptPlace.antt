-- The place in the tokens that the parser's code stands for.
use Rattle.std.specs.Prelude.{map}
use Rattle.qtl_syntax.specs.Tree.{item_of}
use Rattle.qtl_syntax.specs.Grammar.{Head, PropHead, PredHead}
use Rattle.qtl_syntax.specs.Reading.{Spot, Start, PropName, PropColon, PredName, PredOpen, FirstParam, NextParam, ParamEnd, PredEquals, Inside, Place}
use Rattle.qtl_syntax.specs.KeptState.{state_of}
use Rattle.qtl_syntax.specs.declared.place.Head as rust_head
use Rattle.qtl_syntax.specs.declared.place.Head.TheVariants as code_head
use Rattle.qtl_syntax.specs.declared.place.Spot as rust_spot
use Rattle.qtl_syntax.specs.declared.place.Spot.TheVariants as code
use Rattle.qtl_syntax.specs.declared.place.Place as rust_place

abbrev pub head_of : rust_head.Head → Head
head_of (code_head.Prop name) = PropHead name
head_of (code_head.Pred name params) = PredHead name params

abbrev pub spot_of : rust_spot.Spot → Spot
spot_of code.Start = Start
spot_of code.PropName = PropName
spot_of (code.PropColon name) = PropColon name
spot_of code.PredName = PredName
spot_of (code.PredOpen name) = PredOpen name
spot_of (code.FirstParam name) = FirstParam name
spot_of (code.NextParam name params) = NextParam name params
spot_of (code.ParamEnd name params) = ParamEnd name params
spot_of (code.PredEquals name params) = PredEquals name params
spot_of (code.Inside head state) = Inside (head_of head) (state_of state)

abbrev pub place_of : rust_place.Place → Place
place_of p = record { items = map item_of p.items; tallest = p.tallest; spot = spot_of p.spot }
