-- A text has a byte at least for each token, and a token for each item, each node and each term that it spells.
use Rattle.std.proofs.Common.{◌≡◌, ℕ, zero, suc, ◌+◌, ◌<◌, ◌≤◌, List, [], ◌∷◌, ◌++◌, length, length-append, Bool, true, false, IsTrue, refl, ap, ◌∙◌, arith}
use Rattle.std.specs.Prelude.{if◌then◌else◌, ◌&&◌, not, nat_eq}
use Rattle.std.specs.List.{AllByRecursion}
use Rattle.qtl_syntax.specs.declared.formula.Term.{Term}
use Rattle.qtl_syntax.specs.declared.operator.Binary.{Binary}
use Rattle.qtl_syntax.specs.declared.operator.Binary.TheVariants as binary
use Rattle.qtl_syntax.specs.declared.operator.Prefix.{Prefix}
use Rattle.qtl_syntax.specs.declared.operator.Prefix.TheVariants as prefix
use Rattle.qtl_syntax.specs.declared.operator.Quantifier.{Quantifier}
use Rattle.qtl_syntax.specs.declared.operator.Quantifier.TheVariants as quantifier
use Rattle.qtl_syntax.specs.declared.token.Word.TheVariants as word
use Rattle.qtl_syntax.specs.declared.token.Word as rust_word
use Rattle.qtl_syntax.specs.declared.token.Sign.TheVariants as sign
use Rattle.qtl_syntax.specs.declared.token.Sign as rust_sign
use Rattle.qtl_syntax.specs.declared.token.Token.{Token}
use Rattle.qtl_syntax.specs.declared.token.Token.TheVariants.{Name, Quoted, Number, Word, Sign}
use Rattle.qtl_syntax.specs.Cuts.{is_blank, is_name, is_number, word_text, sign_text, IsSpelled, past_gap, CutsTo}
use Rattle.qtl_syntax.specs.Faults.{SpellsWithin}
use Rattle.qtl_syntax.specs.Tree.{Text, Formula, True, False, Atom, Not, And, Or, Implies, Iff, Prev, Since, TimedSince, Once, TimedOnce, Always, TimedAlways, Interval, Exists, Forall, Item}
use Rattle.qtl_syntax.specs.Grammar.{IsTerm, AreMore, AreListed, IsBinary, joined, IsPrefix, prefixed, quantified, Row, by_binary, by_prefix, by_quantifier, by_truth, by_falsity, by_name, by_atom, by_interval, by_parens, Derives, Head, PropHead, PredHead, IsHead, item, Spells}
use Rattle.wellformed.specs.Faults.{nodes_of, body_of, HasFewNodes}

-- no token is spelled by nothing
word_some : (w : rust_word.Word) → 1 ≤ length (word_text w)
word_some word.Prop = omega arith
word_some word.Pred = omega arith
word_some word.Exists = omega arith
word_some word.Forall = omega arith
word_some word.True = omega arith
word_some word.False = omega arith
word_some word.Since = omega arith
word_some word.Once = omega arith
word_some word.Always = omega arith

sign_some : (s : rust_sign.Sign) → 1 ≤ length (sign_text s)
sign_some sign.LeftParen = omega arith
sign_some sign.RightParen = omega arith
sign_some sign.LeftBracket = omega arith
sign_some sign.RightBracket = omega arith
sign_some sign.Comma = omega arith
sign_some sign.Dot = omega arith
sign_some sign.Colon = omega arith
sign_some sign.Equals = omega arith
sign_some sign.Not = omega arith
sign_some sign.And = omega arith
sign_some sign.Or = omega arith
sign_some sign.Implies = omega arith
sign_some sign.Iff = omega arith
sign_some sign.Prev = omega arith
sign_some sign.AtMost = omega arith
sign_some sign.MoreThan = omega arith

name_some : (t : Text) → IsTrue (is_name t) → 1 ≤ length t
name_some [] h = let no : ⊥ = cc in absurd no
name_some (b ∷ bs) h = omega arith

number_some : (t : Text) → IsTrue (is_number t) → 1 ≤ length t
number_some [] h = let no : ⊥ = cc in absurd no
number_some (b ∷ bs) h = omega arith

some_bytes : (front : List ℕ) (t : Token) → IsSpelled front t → 1 ≤ length front
some_bytes front (Name t) h = let e = ap length h.0 in let p = name_some t h.1 in omega (arith, e, p)
some_bytes front (Quoted t) h = let e = ap length h.0 in omega (arith, e)
some_bytes front (Number t) h = let e = ap length h.0 in let p = number_some t h.1 in omega (arith, e, p)
some_bytes front (Word w) h = let e = ap length h in let p = word_some w in omega (arith, e, p)
some_bytes front (Sign s) h = let e = ap length h in let p = sign_some s in omega (arith, e, p)

-- what follows a gap is no longer than the whole
length_if : (t : Bool) (xs ys : List ℕ) (n : ℕ) → length xs ≤ n → length ys ≤ n → length (if t then xs else ys) ≤ n
length_if true xs ys n p q = p
length_if false xs ys n p q = q

gap_within : (in_comment : Bool) (bs : List ℕ) → length (past_gap in_comment bs) ≤ length bs
gap_within true [] = omega arith
gap_within false [] = omega arith
gap_within true (b ∷ bs) = let h = gap_within (not (nat_eq b 10)) bs in omega (arith, h)
gap_within false (b ∷ []) = length_if (is_blank b) [] (b ∷ []) 1 (omega arith) (omega arith)
gap_within false (b ∷ c ∷ bs) =
    let p = gap_within false (c ∷ bs) in
    let q = gap_within true bs in
    length_if (is_blank b) (past_gap false (c ∷ bs)) _ (length (b ∷ c ∷ bs)) (omega (arith, p))
    (length_if (nat_eq b 47 && nat_eq c 47) (past_gap true bs) (b ∷ c ∷ bs) (length (b ∷ c ∷ bs)) (omega (arith, q)) (omega arith))

-- tokens are no more than the bytes
tokens_within : (text : Text) (ts : List Token) (rest : Text) → CutsTo text ts rest → length ts ≤ length text
tokens_within text [] rest c = omega arith
tokens_within text (t ∷ ts) rest c =
    let some = some_bytes c.1.front t c.1.spelled in
    let whole = ap length c.1.whole ∙ length-append c.1.front c.0 in
    let gap = gap_within false text in
    let more = tokens_within c.0 ts rest c.2 in
    omega (arith, some, whole, gap, more)

-- the nodes of a formula, and the terms of its atoms
abbrev pub weight : Formula → ℕ
weight True = 1
weight False = 1
weight (Atom name terms) = 1 + length terms
weight (Not f) = 1 + weight f
weight (And f g) = 1 + (weight f + weight g)
weight (Or f g) = 1 + (weight f + weight g)
weight (Implies f g) = 1 + (weight f + weight g)
weight (Iff f g) = 1 + (weight f + weight g)
weight (Prev f) = 1 + weight f
weight (Since f g) = 1 + (weight f + weight g)
weight (TimedSince b f g) = 1 + (weight f + weight g)
weight (Once f) = 1 + weight f
weight (TimedOnce b f) = 1 + weight f
weight (Always f) = 1 + weight f
weight (TimedAlways b f) = 1 + weight f
weight (Interval f g) = 1 + (weight f + weight g)
weight (Exists x f) = 1 + weight f
weight (Forall x f) = 1 + weight f

one_node : (n m : ℕ) → n ≤ m → suc n ≤ 1 + m
one_node n m h = omega (arith, h)

two_nodes : (xs ys : List Formula) (n m : ℕ) → length xs ≤ n → length ys ≤ m → suc (length (xs ++ ys)) ≤ 1 + (n + m)
two_nodes xs ys n m p q = let e = length-append xs ys in omega (arith, p, q, e)

nodes_within : (f : Formula) → length (nodes_of f) ≤ weight f
nodes_within True = omega arith
nodes_within False = omega arith
nodes_within (Atom name terms) = omega arith
nodes_within (Not f) = one_node _ _ (nodes_within f)
nodes_within (And f g) = two_nodes _ _ _ _ (nodes_within f) (nodes_within g)
nodes_within (Or f g) = two_nodes _ _ _ _ (nodes_within f) (nodes_within g)
nodes_within (Implies f g) = two_nodes _ _ _ _ (nodes_within f) (nodes_within g)
nodes_within (Iff f g) = two_nodes _ _ _ _ (nodes_within f) (nodes_within g)
nodes_within (Prev f) = one_node _ _ (nodes_within f)
nodes_within (Since f g) = two_nodes _ _ _ _ (nodes_within f) (nodes_within g)
nodes_within (TimedSince b f g) = two_nodes _ _ _ _ (nodes_within f) (nodes_within g)
nodes_within (Once f) = one_node _ _ (nodes_within f)
nodes_within (TimedOnce b f) = one_node _ _ (nodes_within f)
nodes_within (Always f) = one_node _ _ (nodes_within f)
nodes_within (TimedAlways b f) = one_node _ _ (nodes_within f)
nodes_within (Interval f g) = two_nodes _ _ _ _ (nodes_within f) (nodes_within g)
nodes_within (Exists x f) = one_node _ _ (nodes_within f)
nodes_within (Forall x f) = one_node _ _ (nodes_within f)

-- a term takes a token
more_within : (ts : List Token) (xs : List Term) → AreMore IsTerm ts xs → length xs ≤ length ts
more_within [] [] h = omega arith
more_within (Sign sign.Comma ∷ t ∷ ts) (x ∷ xs) h = let m = more_within ts xs h.1 in omega (arith, m)
more_within _ _ h = absurd h

terms_within : (ts : List Token) (xs : List Term) → AreListed IsTerm ts xs → length xs ≤ length ts
terms_within [] [] h = omega arith
terms_within (t ∷ ts) (x ∷ xs) h = let m = more_within ts xs h.1 in omega (arith, m)
terms_within _ _ h = absurd h

-- an operator takes a token
binary_some : (ts : List Token) (op : Binary) → IsBinary ts op → 1 ≤ length ts
binary_some ts binary.Iff h = let e = ap length h in omega (arith, e)
binary_some ts binary.Implies h = let e = ap length h in omega (arith, e)
binary_some ts binary.Or h = let e = ap length h in omega (arith, e)
binary_some ts binary.And h = let e = ap length h in omega (arith, e)
binary_some ts binary.Since h = let e = ap length h in omega (arith, e)
binary_some ts (binary.TimedSince b) h = let e = ap length h.1 in omega (arith, e)

prefix_some : (ts : List Token) (op : Prefix) → IsPrefix ts op → 1 ≤ length ts
prefix_some ts prefix.Not h = let e = ap length h in omega (arith, e)
prefix_some ts prefix.Prev h = let e = ap length h in omega (arith, e)
prefix_some ts prefix.Once h = let e = ap length h in omega (arith, e)
prefix_some ts prefix.Always h = let e = ap length h in omega (arith, e)
prefix_some ts (prefix.TimedOnce b) h = let e = ap length h.1 in omega (arith, e)
prefix_some ts (prefix.TimedAlways b) h = let e = ap length h.1 in omega (arith, e)

joined_within : (op : Binary) (f g : Formula) (n : ℕ) → 1 + (weight f + weight g) ≤ n → weight (joined op f g) ≤ n
joined_within binary.Iff f g n h = h
joined_within binary.Implies f g n h = h
joined_within binary.Or f g n h = h
joined_within binary.And f g n h = h
joined_within binary.Since f g n h = h
joined_within (binary.TimedSince b) f g n h = h

prefixed_within : (op : Prefix) (f : Formula) (n : ℕ) → 1 + weight f ≤ n → weight (prefixed op f) ≤ n
prefixed_within prefix.Not f n h = h
prefixed_within prefix.Prev f n h = h
prefixed_within prefix.Once f n h = h
prefixed_within prefix.Always f n h = h
prefixed_within (prefix.TimedOnce b) f n h = h
prefixed_within (prefix.TimedAlways b) f n h = h

quantified_within : (q : Quantifier) (x : Text) (f : Formula) (n : ℕ) → 1 + weight f ≤ n → weight (quantified q x f) ≤ n
quantified_within quantifier.Exists x f n h = h
quantified_within quantifier.Forall x f n h = h

-- nodes and terms are no more than the tokens that derive them
abbrev AllWithin : ℕ → Type 0
AllWithin height = (level : ℕ) (ts : List Token) (f : Formula) (closed : Bool) → Derives height level ts f closed → weight f ≤ length ts

row_within : (height : ℕ) → AllWithin height → (level : ℕ) (ts : List Token) (f : Formula) (closed : Bool) → Row (Derives height) level ts f closed → weight f ≤ length ts
row_within height go level ts f closed (by_binary op low a s b A B w i e p q) =
    let all = ap length w ∙ length-append a (s ++ b) in
    let rest = length-append s b in
    let some = binary_some s op i in
    let left = go _ a A _ p in
    let right = go _ b B _ q in
    rw e (joined_within op A B (length ts) (omega (arith, all, rest, some, left, right)))
row_within height go level ts f closed (by_prefix op low s a A w i e p) =
    let all = ap length w ∙ length-append s a in
    let some = prefix_some s op i in
    let part = go _ a A _ p in
    rw e (prefixed_within op A (length ts) (omega (arith, all, some, part)))
row_within height go level ts f closed (by_quantifier q low x a A c w e p z) =
    let all = ap length w in
    let part = go _ a A _ p in
    rw e (quantified_within q x A (length ts) (omega (arith, all, part)))
row_within height go level ts f closed (by_truth w e z) = let all = ap length w in rw e (omega (arith, all))
row_within height go level ts f closed (by_falsity w e z) = let all = ap length w in rw e (omega (arith, all))
row_within height go level ts f closed (by_name n w e z) = let all = ap length w in rw e (omega (arith, all))
row_within height go level ts f closed (by_atom n us terms w l e z) =
    let all = ap length w in
    let rest = length-append us (Sign sign.RightParen ∷ []) in
    let part = terms_within us terms l in
    rw e (omega (arith, all, rest, part))
row_within height go level ts f closed (by_interval a b A B c d w e p q z) =
    let all = ap length w in
    let front = length-append a (Sign sign.Comma ∷ (b ++ Sign sign.RightParen ∷ [])) in
    let rest = length-append b (Sign sign.RightParen ∷ []) in
    let left = go _ a A _ p in
    let right = go _ b B _ q in
    rw e (omega (arith, all, front, rest, left, right))
row_within height go level ts f closed (by_parens a c w p z) =
    let all = ap length w in
    let rest = length-append a (Sign sign.RightParen ∷ []) in
    let part = go _ a f _ p in
    omega (arith, all, rest, part)

derived_within : (height : ℕ) → AllWithin height
derived_within zero level ts f closed d = absurd d
derived_within (suc height) level ts f closed d = row_within height (derived_within height) level ts f closed d

-- an item takes a token, and so do each node and each term of its formula
head_some : (ts : List Token) (head : Head) → IsHead ts head → 1 ≤ length ts
head_some ts (PropHead name) h = let e = ap length h in omega (arith, e)
head_some ts (PredHead name params) h = let e = ap length h.1 in omega (arith, e)

item_body : (head : Head) (f : Formula) → body_of (item head f) ≡ f
item_body (PropHead name) f = refl
item_body (PredHead name params) f = refl

items_within : (height : ℕ) (ts : List Token) (items : List Item) → Spells height ts items → length items ≤ length ts
items_within height ts [] s = omega arith
items_within height ts (one ∷ items) s =
    let all = ap length s.6 ∙ length-append s.2 (s.3 ++ s.4) in
    let rest = length-append s.3 s.4 in
    let some = head_some s.2 s.0 s.7 in
    let more = items_within height s.4 items s.9 in
    omega (arith, all, rest, some, more)

bodies_within : (height n : ℕ) (ts : List Token) (items : List Item) → Spells height ts items → length ts ≤ n → AllByRecursion (λ one. weight (body_of one) ≤ n) items
bodies_within height n ts [] s l = tt
bodies_within height n ts (one ∷ items) s l =
    let all = ap length s.6 ∙ length-append s.2 (s.3 ++ s.4) in
    let rest = length-append s.3 s.4 in
    let part = derived_within height 0 s.3 s.1 s.8.0 s.8.1 in
    let body : body_of one ≡ s.1 = ap body_of s.5 ∙ item_body s.0 s.1 in
    (rw body (omega (arith, l, all, rest, part)), bodies_within height n s.4 items s.9 (omega (arith, l, all, rest)))

-- a text of at most 2^20 bytes spells few items, and formulas of few nodes and terms
pub short_items : (text : Text) (items : List Item) → length text ≤ 1048576 → SpellsWithin text items → length items < 4294967296
short_items text items l s =
    let tokens = tokens_within text s.0 [] s.1 in
    let most = items_within 256 s.0 items s.2 in
    omega (arith, l, tokens, most)

pub short_bodies : (text : Text) (items : List Item) → length text ≤ 1048576 → SpellsWithin text items → AllByRecursion (λ one. weight (body_of one) ≤ 1048576) items
short_bodies text items l s =
    let tokens = tokens_within text s.0 [] s.1 in
    bodies_within 256 1048576 s.0 items s.2 (omega (arith, l, tokens))

few_nodes : (items : List Item) → AllByRecursion (λ one. weight (body_of one) ≤ 1048576) items → AllByRecursion HasFewNodes items
few_nodes [] all = tt
few_nodes (one ∷ items) all =
    let nodes = nodes_within (body_of one) in
    let most = all.0 in
    (omega (arith, nodes, most), few_nodes items all.1)

pub short_nodes : (text : Text) (items : List Item) → length text ≤ 1048576 → SpellsWithin text items → AllByRecursion HasFewNodes items
short_nodes text items l s = few_nodes items (short_bodies text items l s)
