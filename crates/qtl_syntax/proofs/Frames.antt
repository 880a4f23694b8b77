-- What frames and signs do to the outcome.
use Rattle.std.proofs.Common.{◌≡◌, ℕ, ◌+◌, ◌<◌, ◌≤◌, List, [], ◌∷◌, ◌++◌, Bool, true, false, max, refl, ap, ◌∙◌, arith}
use Rattle.std.specs.Prelude.{nat_le, if◌then◌else◌}
use Rattle.std.proofs.lemmas.Bool.Decides.{nat_tests}
use Rattle.qtl_syntax.specs.declared.formula.Bound.{Bound}
use Rattle.qtl_syntax.specs.declared.formula.Bound.TheVariants as bound
use Rattle.qtl_syntax.specs.declared.operator.Binary.{Binary}
use Rattle.qtl_syntax.specs.declared.operator.Binary.TheVariants as binary
use Rattle.qtl_syntax.specs.declared.operator.Prefix.{Prefix}
use Rattle.qtl_syntax.specs.declared.operator.Prefix.TheVariants as prefix
use Rattle.qtl_syntax.specs.declared.operator.Quantifier.{Quantifier}
use Rattle.qtl_syntax.specs.declared.operator.Quantifier.TheVariants as quantifier
use Rattle.qtl_syntax.specs.declared.token.Sign.TheVariants as sign
use Rattle.qtl_syntax.specs.declared.token.Token.{Token}
use Rattle.qtl_syntax.specs.declared.token.Token.TheVariants.{Name, Word, Sign}
use Rattle.qtl_syntax.specs.Tree.{Text, Formula, Atom}
use Rattle.qtl_syntax.specs.Grammar.{IsBound, IsBinary, IsPrefix, level_of, left_of, right_of, joined, prefixed, quantified, quantifier_word}
use Rattle.qtl_syntax.specs.Machine.{Frame, PrefixOf, BinaryOf, QuantifierOf, ParenOf, FirstOf, SecondOf, Timeable, OnceOf, AlwaysOf, SinceOf, untimed, timed, Operand, Named, Whole, Bounded, Bracket, Behind, reduce, with_sign, with_since, outcome}

-- the least level of a formula inside these frames
abbrev pub need : List Frame → ℕ
need [] = 0
need (PrefixOf p ∷ frames) = 5
need (BinaryOf op g j ∷ frames) = right_of op
need (QuantifierOf q x ∷ frames) = 0
need (ParenOf ∷ frames) = 0
need (FirstOf ∷ frames) = 0
need (SecondOf g j ∷ frames) = 0

-- what may follow a formula of level l, closed or not
pub data Follow (l : ℕ) (c : Bool) (rest : List Token) : Type 0 where
  at_end : rest ≡ [] → Follow l c rest
  at_paren : (ts : List Token) → rest ≡ Sign sign.RightParen ∷ ts → Follow l c rest
  at_comma : (ts : List Token) → rest ≡ Sign sign.Comma ∷ ts → Follow l c rest
  at_binary : c ≡ true → (op : Binary) → left_of op ≤ l → (s ts : List Token) → rest ≡ s ++ ts → IsBinary s op → Follow l c rest

pub lower : (l m : ℕ) (c d : Bool) (rest : List Token) → l ≤ m → (c ≡ true → d ≡ true) → Follow l c rest → Follow m d rest
lower l m c d rest p q (at_end e) = at_end e
lower l m c d rest p q (at_paren ts e) = at_paren ts e
lower l m c d rest p q (at_comma ts e) = at_comma ts e
lower l m c d rest p q (at_binary t op i s ts e b) = at_binary (q t) op (omega arith) s ts e b

pick : {A : Type 0} (b : Bool) (x y : A) → b ≡ true → (if b then x else y) ≡ x
pick true x y e = refl
pick false x y e = cc

drop_to : {A : Type 0} (b : Bool) (x y : A) → b ≡ false → (if b then x else y) ≡ y
drop_to true x y e = cc
drop_to false x y e = refl

le_test : (a b : ℕ) → a ≤ b → nat_le a b ≡ true
le_test a b h = grind (arith, nat_tests)

gt_test : (a b : ℕ) → b < a → nat_le a b ≡ false
gt_test a b h = grind (arith, nat_tests)

-- a sign's outcome looks at the reduced frames alone
same_reduced : (op : Binary) (s ts : List Token) → IsBinary s op → (F G : List Frame) (f g : Formula) (k m : ℕ) → reduce (left_of op) F f k ≡ reduce (left_of op) G g m →
    outcome (Whole F f k) (s ++ ts) ≡ outcome (Whole G g m) (s ++ ts)
same_reduced binary.Iff s ts i F G f g k m e = rw i (ap (λ (b : Behind). outcome (with_sign binary.Iff b) ts) e)
same_reduced binary.Implies s ts i F G f g k m e = rw i (ap (λ (b : Behind). outcome (with_sign binary.Implies b) ts) e)
same_reduced binary.Or s ts i F G f g k m e = rw i (ap (λ (b : Behind). outcome (with_sign binary.Or b) ts) e)
same_reduced binary.And s ts i F G f g k m e = rw i (ap (λ (b : Behind). outcome (with_sign binary.And b) ts) e)
same_reduced binary.Since s ts i F G f g k m e = rw i (ap (λ (b : Behind). outcome (with_since b) ts) e)
same_reduced (binary.TimedSince t) s ts i F G f g k m e = rw i.1 (ap (λ (b : Behind). outcome (with_since b) (i.0 ++ ts)) e)

pub prefix_up : (l : ℕ) (c : Bool) (rest : List Token) → Follow l c rest → (p : Prefix) (frames : List Frame) (f : Formula) (k : ℕ) →
    outcome (Whole (PrefixOf p ∷ frames) f k) rest ≡ outcome (Whole frames (prefixed p f) (k + 1)) rest
prefix_up l c rest (at_end e) p frames f k = rw e refl
prefix_up l c rest (at_paren ts e) p frames f k = rw e refl
prefix_up l c rest (at_comma ts e) p frames f k = rw e refl
prefix_up l c rest (at_binary t op i s ts e b) p frames f k = rw e (same_reduced op s ts b (PrefixOf p ∷ frames) frames f (prefixed p f) k (k + 1) refl)

pub quantifier_up : (l : ℕ) (rest : List Token) → Follow l false rest → (q : Quantifier) (x : Text) (frames : List Frame) (f : Formula) (k : ℕ) →
    outcome (Whole (QuantifierOf q x ∷ frames) f k) rest ≡ outcome (Whole frames (quantified q x f) (k + 1)) rest
quantifier_up l rest (at_end e) q x frames f k = rw e refl
quantifier_up l rest (at_paren ts e) q x frames f k = rw e refl
quantifier_up l rest (at_comma ts e) q x frames f k = rw e refl
quantifier_up l rest (at_binary t op i s ts e b) q x frames f k = cc

reduced_binary : (left : ℕ) (o : Binary) (g : Formula) (j : ℕ) (frames : List Frame) (f : Formula) (k : ℕ) → left ≤ level_of o →
    reduce left (BinaryOf o g j ∷ frames) f k ≡ reduce left frames (joined o g f) (max j k + 1)
reduced_binary left o g j frames f k h = pick (nat_le left (level_of o)) _ _ (le_test left (level_of o) h)

pub binary_up : (l : ℕ) (c : Bool) (rest : List Token) → Follow l c rest → (o : Binary) → l ≤ level_of o → (g : Formula) (j : ℕ) (frames : List Frame) (f : Formula) (k : ℕ) →
    outcome (Whole (BinaryOf o g j ∷ frames) f k) rest ≡ outcome (Whole frames (joined o g f) (max j k + 1)) rest
binary_up l c rest (at_end e) o h g j frames f k = rw e refl
binary_up l c rest (at_paren ts e) o h g j frames f k = rw e refl
binary_up l c rest (at_comma ts e) o h g j frames f k = rw e refl
binary_up l c rest (at_binary t op i s ts e b) o h g j frames f k =
    let low : left_of op ≤ level_of o = omega arith in
    rw e (same_reduced op s ts b (BinaryOf o g j ∷ frames) frames f (joined o g f) k (max j k + 1) (reduced_binary (left_of op) o g j frames f k low))

below_five : (op : Binary) → level_of op < 5
below_five binary.Iff = omega arith
below_five binary.Implies = omega arith
below_five binary.Or = omega arith
below_five binary.And = omega arith
below_five binary.Since = omega arith
below_five (binary.TimedSince b) = omega arith

-- two binary forms go together in one way alone
pub one_way : (o op : Binary) → right_of o ≤ level_of op → level_of o < left_of op
one_way binary.Iff binary.Iff h = absurd (omega arith)
one_way binary.Iff binary.Implies h = omega arith
one_way binary.Iff binary.Or h = omega arith
one_way binary.Iff binary.And h = omega arith
one_way binary.Iff binary.Since h = omega arith
one_way binary.Iff (binary.TimedSince b) h = omega arith
one_way binary.Implies binary.Iff h = absurd (omega arith)
one_way binary.Implies binary.Implies h = omega arith
one_way binary.Implies binary.Or h = omega arith
one_way binary.Implies binary.And h = omega arith
one_way binary.Implies binary.Since h = omega arith
one_way binary.Implies (binary.TimedSince b) h = omega arith
one_way binary.Or binary.And h = omega arith
one_way binary.Or binary.Since h = omega arith
one_way binary.Or (binary.TimedSince b) h = omega arith
one_way binary.And binary.Since h = omega arith
one_way binary.And (binary.TimedSince b) h = omega arith
one_way binary.Or _ h = absurd (omega arith)
one_way binary.And _ h = absurd (omega arith)
one_way binary.Since op h = let b = below_five op in absurd (omega arith)
one_way (binary.TimedSince c) op h = let b = below_five op in absurd (omega arith)

-- nothing ends before a sign that these frames wait for
stays : (op : Binary) (frames : List Frame) (f : Formula) (k : ℕ) → need frames ≤ level_of op →
    reduce (left_of op) frames f k ≡ record { frames = frames; formula = f; height = k }
stays op [] f k h = refl
stays op (PrefixOf p ∷ frames) f k h = let b = below_five op in absurd (omega arith)
stays op (BinaryOf o g j ∷ frames) f k h = drop_to (nat_le (left_of op) (level_of o)) _ _ (gt_test (left_of op) (level_of o) (one_way o op h))
stays op (QuantifierOf q x ∷ frames) f k h = refl
stays op (ParenOf ∷ frames) f k h = refl
stays op (FirstOf ∷ frames) f k h = refl
stays op (SecondOf g j ∷ frames) f k h = refl

-- a formula's first tokens are no bound's
abbrev pub starts_within : List Token → Bool
starts_within [] = false
starts_within (Sign sign.AtMost ∷ ts) = false
starts_within (Sign sign.MoreThan ∷ ts) = false
starts_within (t ∷ ts) = true

abbrev pub starts : List Token → Bool
starts [] = false
starts (Sign sign.AtMost ∷ ts) = false
starts (Sign sign.MoreThan ∷ ts) = false
starts (Sign sign.LeftBracket ∷ ts) = starts_within ts
starts (t ∷ ts) = true

pub within : (ts : List Token) → starts ts ≡ true → starts_within ts ≡ true
within [] e = e
within (Sign sign.AtMost ∷ ts) e = e
within (Sign sign.MoreThan ∷ ts) e = e
within (t ∷ ts) e = refl

bracketed : (frames : List Frame) (w : Timeable) (ts : List Token) → starts_within ts ≡ true →
    outcome (Bracket frames w) ts ≡ outcome (Operand (FirstOf ∷ untimed w ∷ frames)) ts
bracketed frames w [] e = cc
bracketed frames w (Sign sign.AtMost ∷ ts) e = cc
bracketed frames w (Sign sign.MoreThan ∷ ts) e = cc
bracketed frames w (t ∷ ts) e = refl

unbounded : (frames : List Frame) (w : Timeable) (ts : List Token) → starts ts ≡ true → outcome (Bounded frames w) ts ≡ outcome (Operand (untimed w ∷ frames)) ts
unbounded frames w [] e = cc
unbounded frames w (Sign sign.AtMost ∷ ts) e = cc
unbounded frames w (Sign sign.MoreThan ∷ ts) e = cc
unbounded frames w (Sign sign.LeftBracket ∷ ts) e = bracketed frames w ts e
unbounded frames w (t ∷ ts) e = refl

bounded : (frames : List Frame) (w : Timeable) (bs : List Token) (b : Bound) (ts : List Token) → IsBound bs b →
    outcome (Bounded frames w) (bs ++ ts) ≡ outcome (Operand (timed b w ∷ frames)) ts
bounded frames w bs (bound.AtMost n) ts i = rw i.1 (ap (λ m. outcome (Operand (timed (bound.AtMost m) w ∷ frames)) ts) i.2)
bounded frames w bs (bound.MoreThan n) ts i = rw i.1 (ap (λ m. outcome (Operand (timed (bound.MoreThan m) w ∷ frames)) ts) i.2)

pub reads_prefix : (p : Prefix) (s ts : List Token) (frames : List Frame) → IsPrefix s p → starts ts ≡ true →
    outcome (Operand frames) (s ++ ts) ≡ outcome (Operand (PrefixOf p ∷ frames)) ts
reads_prefix prefix.Not s ts frames i e = rw i refl
reads_prefix prefix.Prev s ts frames i e = rw i refl
reads_prefix prefix.Once s ts frames i e = rw i (unbounded frames OnceOf ts e)
reads_prefix prefix.Always s ts frames i e = rw i (unbounded frames AlwaysOf ts e)
reads_prefix (prefix.TimedOnce b) s ts frames i e = rw i.1 (bounded frames OnceOf i.0 b ts i.2)
reads_prefix (prefix.TimedAlways b) s ts frames i e = rw i.1 (bounded frames AlwaysOf i.0 b ts i.2)

reads_stayed : (op : Binary) (s ts : List Token) (frames : List Frame) (f : Formula) (k : ℕ) → IsBinary s op → starts ts ≡ true →
    reduce (left_of op) frames f k ≡ record { frames = frames; formula = f; height = k } →
    outcome (Whole frames f k) (s ++ ts) ≡ outcome (Operand (BinaryOf op f k ∷ frames)) ts
reads_stayed binary.Iff s ts frames f k i e r = rw i (ap (λ (b : Behind). outcome (with_sign binary.Iff b) ts) r)
reads_stayed binary.Implies s ts frames f k i e r = rw i (ap (λ (b : Behind). outcome (with_sign binary.Implies b) ts) r)
reads_stayed binary.Or s ts frames f k i e r = rw i (ap (λ (b : Behind). outcome (with_sign binary.Or b) ts) r)
reads_stayed binary.And s ts frames f k i e r = rw i (ap (λ (b : Behind). outcome (with_sign binary.And b) ts) r)
reads_stayed binary.Since s ts frames f k i e r = rw i (ap (λ (b : Behind). outcome (with_since b) ts) r ∙ unbounded frames (SinceOf f k) ts e)
reads_stayed (binary.TimedSince t) s ts frames f k i e r = rw i.1 (ap (λ (b : Behind). outcome (with_since b) (i.0 ++ ts)) r ∙ bounded frames (SinceOf f k) i.0 t ts i.2)

pub reads_binary : (op : Binary) (s ts : List Token) (frames : List Frame) (f : Formula) (k : ℕ) → IsBinary s op → starts ts ≡ true → need frames ≤ level_of op →
    outcome (Whole frames f k) (s ++ ts) ≡ outcome (Operand (BinaryOf op f k ∷ frames)) ts
reads_binary op s ts frames f k i e h = reads_stayed op s ts frames f k i e (stays op frames f k h)

pub reads_quantifier : (q : Quantifier) (x : Text) (ts : List Token) (frames : List Frame) →
    outcome (Operand frames) (Word (quantifier_word q) ∷ Name x ∷ Sign sign.Dot ∷ ts) ≡ outcome (Operand (QuantifierOf q x ∷ frames)) ts
reads_quantifier quantifier.Exists x ts frames = refl
reads_quantifier quantifier.Forall x ts frames = refl

named_sign : (op : Binary) (s ts : List Token) (frames : List Frame) (n : Text) → IsBinary s op → outcome (Named frames n) (s ++ ts) ≡ outcome (Whole frames (Atom n []) 1) (s ++ ts)
named_sign binary.Iff s ts frames n i = rw i refl
named_sign binary.Implies s ts frames n i = rw i refl
named_sign binary.Or s ts frames n i = rw i refl
named_sign binary.And s ts frames n i = rw i refl
named_sign binary.Since s ts frames n i = rw i refl
named_sign (binary.TimedSince b) s ts frames n i = rw i.1 refl

-- a name alone is an atom, whatever may follow it
pub named : (l : ℕ) (c : Bool) (rest : List Token) → Follow l c rest → (frames : List Frame) (n : Text) → outcome (Named frames n) rest ≡ outcome (Whole frames (Atom n []) 1) rest
named l c rest (at_end e) frames n = rw e refl
named l c rest (at_paren ts e) frames n = rw e refl
named l c rest (at_comma ts e) frames n = rw e refl
named l c rest (at_binary t op i s ts e b) frames n = rw e (named_sign op s ts frames n b)
