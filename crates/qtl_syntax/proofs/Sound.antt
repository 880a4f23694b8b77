-- What the parser takes, the grammar derives.
use Rattle.std.proofs.Common.{◌≡◌, ℕ, ◌+◌, ◌<◌, ◌≤◌, List, [], ◌∷◌, ◌++◌, append_assoc, append-nil, Option, Some, None, Bool, true, false, max, refl, sym, ap, ◌∙◌, subst, arith}
use Rattle.std.specs.Prelude.{nat_le, if◌then◌else◌}
use Rattle.qtl_syntax.specs.declared.formula.Term.{Term}
use Rattle.qtl_syntax.specs.declared.formula.Bound.{Bound}
use Rattle.qtl_syntax.specs.declared.operator.Binary.{Binary}
use Rattle.qtl_syntax.specs.declared.operator.Binary.TheVariants as binary
use Rattle.qtl_syntax.specs.declared.token.Word.TheVariants as word
use Rattle.qtl_syntax.specs.declared.token.Sign.{Sign as TheSign}
use Rattle.qtl_syntax.specs.declared.token.Sign.TheVariants as sign
use Rattle.qtl_syntax.specs.declared.token.Token.{Token}
use Rattle.qtl_syntax.specs.declared.token.Token.TheVariants.{Name, Quoted, Number, Word, Sign}
use Rattle.qtl_syntax.specs.Tree.{Text, Formula, True, False, Atom}
use Rattle.qtl_syntax.specs.Grammar.{IsTerm, AreListed, AreMore, IsBound, IsBinary, IsPrefix, level_of, left_of, right_of, joined, prefixed, quantified, quantifier_word, by_truth, by_falsity, by_name, by_atom, Derives, IsFormula}
use Rattle.qtl_syntax.specs.Machine.{Frame, PrefixOf, BinaryOf, QuantifierOf, ParenOf, FirstOf, SecondOf, Timeable, OnceOf, AlwaysOf, SinceOf, untimed, timed, bound_of, State, Operand, Named, FirstTerm, NextTerm, TermEnd, Whole, OfVariable, OfDot, Bounded, Bracket, OfNumber, BoundEnd, Behind, reduce, shut, with_sign, with_since, closed_by, parted_by, after_whole, operand_next, term_of, option_next, next, Measured, only_bottom, bottom, finish, outcome}
use Rattle.std.proofs.lemmas.Bool.{leb-true}
use Rattle.std.proofs.lemmas.Bool.Decides.{nat_tests}
use Rattle.qtl_syntax.proofs.Rows.{higher, prefix_grown, binary_grown, quantifier_grown, parens_grown, interval_grown}
use Rattle.qtl_syntax.proofs.Frames.{need}

-- the tokens that these frames were read from
abbrev pub FramesRead : List Frame → List Token → Type 0
FramesRead [] ts = ts ≡ []
FramesRead (PrefixOf p ∷ frames) ts = (a : List Token) × (s : List Token) × (ts ≡ a ++ s) × IsPrefix s p × FramesRead frames a
FramesRead (BinaryOf op g j ∷ frames) ts =
    (a : List Token) × (b : List Token) × (s : List Token) × (ts ≡ a ++ (b ++ s)) × IsBinary s op × Derives j (left_of op) b g true × (need frames ≤ level_of op) × FramesRead frames a
FramesRead (QuantifierOf q x ∷ frames) ts = (a : List Token) × (ts ≡ a ++ (Word (quantifier_word q) ∷ Name x ∷ Sign sign.Dot ∷ [])) × FramesRead frames a
FramesRead (ParenOf ∷ frames) ts = (a : List Token) × (ts ≡ a ++ Sign sign.LeftParen ∷ []) × FramesRead frames a
FramesRead (FirstOf ∷ frames) ts = (a : List Token) × (ts ≡ a ++ Sign sign.LeftBracket ∷ []) × FramesRead frames a
FramesRead (SecondOf g j ∷ frames) ts =
    (a : List Token) × (b : List Token) × (c : Bool) × (ts ≡ a ++ (Sign sign.LeftBracket ∷ (b ++ Sign sign.Comma ∷ []))) × Derives j 0 b g c × FramesRead frames a

abbrev pub TimeableRead : List Frame → Timeable → List Token → Type 0
TimeableRead frames OnceOf ts = (a : List Token) × (ts ≡ a ++ Word word.Once ∷ []) × FramesRead frames a
TimeableRead frames AlwaysOf ts = (a : List Token) × (ts ≡ a ++ Word word.Always ∷ []) × FramesRead frames a
TimeableRead frames (SinceOf f k) ts =
    (a : List Token) × (b : List Token) × (ts ≡ a ++ (b ++ Word word.Since ∷ [])) × Derives k 4 b f true × (need frames ≤ 4) × FramesRead frames a

abbrev pub AreSome : List Token → List Term → Type 0
AreSome [] xs = ⊥
AreSome (t ∷ us) [] = ⊥
AreSome (t ∷ us) (x ∷ xs) = IsTerm t x × AreMore IsTerm us xs

abbrev pub compare : Bool → TheSign
compare true = sign.AtMost
compare false = sign.MoreThan

-- the tokens that a state was read from
abbrev pub Reads : State → List Token → Type 0
Reads (Operand frames) ts = FramesRead frames ts
Reads (Named frames n) ts = (a : List Token) × (ts ≡ a ++ Name n ∷ []) × FramesRead frames a
Reads (FirstTerm frames n) ts = (a : List Token) × (ts ≡ a ++ (Name n ∷ Sign sign.LeftParen ∷ [])) × FramesRead frames a
Reads (NextTerm frames n xs) ts =
    (a : List Token) × (us : List Token) × (ts ≡ a ++ (Name n ∷ Sign sign.LeftParen ∷ (us ++ Sign sign.Comma ∷ []))) × FramesRead frames a × AreSome us xs
Reads (TermEnd frames n xs) ts =
    (a : List Token) × (us : List Token) × (ts ≡ a ++ (Name n ∷ Sign sign.LeftParen ∷ us)) × FramesRead frames a × AreSome us xs
Reads (Whole frames f k) ts = (a : List Token) × (b : List Token) × (ts ≡ a ++ b) × FramesRead frames a × Derives k 5 b f true
Reads (OfVariable frames q) ts = (a : List Token) × (ts ≡ a ++ Word (quantifier_word q) ∷ []) × FramesRead frames a
Reads (OfDot frames q x) ts = (a : List Token) × (ts ≡ a ++ (Word (quantifier_word q) ∷ Name x ∷ [])) × FramesRead frames a
Reads (Bounded frames w) ts = TimeableRead frames w ts
Reads (Bracket frames w) ts = (a : List Token) × (ts ≡ a ++ Sign sign.LeftBracket ∷ []) × TimeableRead frames w a
Reads (OfNumber frames w most) ts = (a : List Token) × (ts ≡ a ++ (Sign sign.LeftBracket ∷ Sign (compare most) ∷ [])) × TimeableRead frames w a
Reads (BoundEnd frames w b) ts =
    (a : List Token) × (t : Text) × (most : Bool) × (ts ≡ a ++ (Sign sign.LeftBracket ∷ Sign (compare most) ∷ Number t ∷ [])) × (b ≡ bound_of most t) × TimeableRead frames w a

untimed_read : (frames : List Frame) (w : Timeable) (ts : List Token) → TimeableRead frames w ts → FramesRead (untimed w ∷ frames) ts
untimed_read frames OnceOf ts r = (r.0, Word word.Once ∷ [], r.1, refl, r.2)
untimed_read frames AlwaysOf ts r = (r.0, Word word.Always ∷ [], r.1, refl, r.2)
untimed_read frames (SinceOf f k) ts r = (r.0, r.1, Word word.Since ∷ [], r.2, refl, r.3, r.4, r.5)

timed_read : (frames : List Frame) (w : Timeable) (ts bs : List Token) (b : Bound) → TimeableRead frames w ts → IsBound bs b → FramesRead (timed b w ∷ frames) (ts ++ bs)
timed_read frames OnceOf ts bs b r i = (r.0, Word word.Once ∷ bs, rw (r.1, append_assoc) refl, (bs, refl, i), r.2)
timed_read frames AlwaysOf ts bs b r i = (r.0, Word word.Always ∷ bs, rw (r.1, append_assoc) refl, (bs, refl, i), r.2)
timed_read frames (SinceOf f k) ts bs b r i =
    (r.0, r.1, Word word.Since ∷ bs, rw (r.2, append_assoc, append_assoc) refl, (bs, refl, i), r.3, r.4, r.5)

need_five : (frames : List Frame) → need frames ≤ 5
need_five [] = omega arith
need_five (PrefixOf p ∷ frames) = omega arith
need_five (BinaryOf binary.Iff g j ∷ frames) = omega arith
need_five (BinaryOf binary.Implies g j ∷ frames) = omega arith
need_five (BinaryOf binary.Or g j ∷ frames) = omega arith
need_five (BinaryOf binary.And g j ∷ frames) = omega arith
need_five (BinaryOf binary.Since g j ∷ frames) = omega arith
need_five (BinaryOf (binary.TimedSince b) g j ∷ frames) = omega arith
need_five (QuantifierOf q x ∷ frames) = omega arith
need_five (ParenOf ∷ frames) = omega arith
need_five (FirstOf ∷ frames) = omega arith
need_five (SecondOf g j ∷ frames) = omega arith

left_five : (op : Binary) → left_of op ≤ 5
left_five binary.Iff = omega arith
left_five binary.Implies = omega arith
left_five binary.Or = omega arith
left_five binary.And = omega arith
left_five binary.Since = omega arith
left_five (binary.TimedSince b) = omega arith

left_four : (op : Binary) → left_of op ≤ 4
left_four binary.Iff = omega arith
left_four binary.Implies = omega arith
left_four binary.Or = omega arith
left_four binary.And = omega arith
left_four binary.Since = omega arith
left_four (binary.TimedSince b) = omega arith

-- what doesn't end before a sign takes the sign's form as its right part
other_way : (o op : Binary) → level_of o < left_of op → right_of o ≤ level_of op
other_way binary.Iff binary.Iff h = absurd (omega arith)
other_way binary.Iff binary.Implies h = omega arith
other_way binary.Iff binary.Or h = omega arith
other_way binary.Iff binary.And h = omega arith
other_way binary.Iff binary.Since h = omega arith
other_way binary.Iff (binary.TimedSince b) h = omega arith
other_way binary.Implies binary.Iff h = absurd (omega arith)
other_way binary.Implies binary.Implies h = omega arith
other_way binary.Implies binary.Or h = omega arith
other_way binary.Implies binary.And h = omega arith
other_way binary.Implies binary.Since h = omega arith
other_way binary.Implies (binary.TimedSince b) h = omega arith
other_way binary.Or binary.And h = omega arith
other_way binary.Or binary.Since h = omega arith
other_way binary.Or (binary.TimedSince b) h = omega arith
other_way binary.And binary.Since h = omega arith
other_way binary.And (binary.TimedSince b) h = omega arith
other_way binary.Or _ h = absurd (omega arith)
other_way binary.And _ h = absurd (omega arith)
other_way binary.Since op h = let l = left_four op in absurd (omega arith)
other_way (binary.TimedSince c) op h = let l = left_four op in absurd (omega arith)

-- frames and a formula that is the left part of the sign
abbrev pub Reduced : Binary → Behind → List Token → Type 0
Reduced op r ts = (a : List Token) × (m : List Token) × (ts ≡ a ++ m) × FramesRead r.frames a × Derives r.height (left_of op) m r.formula true × (need r.frames ≤ level_of op)

either : (P : Behind → Type 0) (b : Bool) (x y : Behind) → (b ≡ true → P x) → (b ≡ false → P y) → P (if b then x else y)
either P true x y p q = p refl
either P false x y p q = q refl

le_true : (a b : ℕ) → nat_le a b ≡ true → a ≤ b
le_true a b e = leb-true a b e

lt_false : (a b : ℕ) → nat_le a b ≡ false → b < a
lt_false a b e = grind (arith, nat_tests)

reduced_on : (op o : Binary) (g : Formula) (j : ℕ) (frames : List Frame) (a m : List Token) (f : Formula) (k : ℕ) (r : FramesRead (BinaryOf o g j ∷ frames) a) →
    Derives (max j k + 1) (level_of o) (r.1 ++ (r.2 ++ m)) (joined o g f) true →
    ((a' m' : List Token) → FramesRead frames a' → Derives (max j k + 1) (level_of o) m' (joined o g f) true → Reduced op (reduce (left_of op) frames (joined o g f) (max j k + 1)) (a' ++ m')) →
    Reduced op (reduce (left_of op) frames (joined o g f) (max j k + 1)) (a ++ m)
reduced_on op o g j frames a m f k r d go =
    let e : r.0 ++ (r.1 ++ (r.2 ++ m)) ≡ a ++ m = rw (r.3, append_assoc, append_assoc) refl in
    subst (Reduced op (reduce (left_of op) frames (joined o g f) (max j k + 1))) e (go r.0 (r.1 ++ (r.2 ++ m)) r.7 d)

reduced_off : (op : Binary) (frames : List Frame) (l : ℕ) (a m : List Token) (f : Formula) (k : ℕ) → FramesRead frames a → Derives k l m f true → left_of op ≤ l → need frames ≤ level_of op →
    Reduced op (record { frames = frames; formula = f; height = k }) (a ++ m)
reduced_off op frames l a m f k r d h n = (a, m, refl, r, higher k k (omega arith) (left_of op) l m f true h d, n)

reduce_reads : (op : Binary) (frames : List Frame) (l : ℕ) (a m : List Token) (f : Formula) (k : ℕ) → FramesRead frames a → Derives k l m f true → need frames ≤ l → left_of op ≤ l →
    Reduced op (reduce (left_of op) frames f k) (a ++ m)
reduce_reads op [] l a m f k r d n h = (a, m, refl, r, higher k k (omega arith) (left_of op) l m f true h d, omega arith)
reduce_reads op (PrefixOf p ∷ frames) l a m f k r d n h =
    let up = prefix_grown p k r.1 m f true r.3 (higher k k (omega arith) 5 l m f true n d) in
    let more = reduce_reads op frames 5 r.0 (r.1 ++ m) (prefixed p f) (k + 1) r.4 up (need_five frames) (left_five op) in
    let e : r.0 ++ (r.1 ++ m) ≡ a ++ m = rw (r.2, append_assoc) refl in
    subst (Reduced op (reduce (left_of op) frames (prefixed p f) (k + 1))) e more
reduce_reads op (BinaryOf o g j ∷ frames) l a m f k r d n h =
    let on = λ (t : nat_le (left_of op) (level_of o) ≡ true). reduced_on op o g j frames a m f k r
    (binary_grown o j k r.1 r.2 m g f true r.4 r.5 (higher k k (omega arith) (right_of o) l m f true n d))
    (λ a' m' x y. reduce_reads op frames (level_of o) a' m' (joined o g f) (max j k + 1) x y r.6 (le_true (left_of op) (level_of o) t)) in
    let off = λ (t : nat_le (left_of op) (level_of o) ≡ false). reduced_off op (BinaryOf o g j ∷ frames) l a m f k r d h (other_way o op (lt_false (left_of op) (level_of o) t)) in
    either (λ b. Reduced op b (a ++ m)) (nat_le (left_of op) (level_of o)) _ _ on off
reduce_reads op (QuantifierOf q x ∷ frames) l a m f k r d n h = (a, m, refl, r, higher k k (omega arith) (left_of op) l m f true h d, omega arith)
reduce_reads op (ParenOf ∷ frames) l a m f k r d n h = (a, m, refl, r, higher k k (omega arith) (left_of op) l m f true h d, omega arith)
reduce_reads op (FirstOf ∷ frames) l a m f k r d n h = (a, m, refl, r, higher k k (omega arith) (left_of op) l m f true h d, omega arith)
reduce_reads op (SecondOf g j ∷ frames) l a m f k r d n h = (a, m, refl, r, higher k k (omega arith) (left_of op) l m f true h d, omega arith)

-- frames and a formula whose last sign has come
abbrev pub Ended : Behind → List Token → Type 0
Ended r ts = (a : List Token) × (m : List Token) × (c : Bool) × (ts ≡ a ++ m) × FramesRead r.frames a × Derives r.height 0 m r.formula c

shut_reads : (frames : List Frame) (l : ℕ) (c : Bool) (a m : List Token) (f : Formula) (k : ℕ) → FramesRead frames a → Derives k l m f c → need frames ≤ l → Ended (shut frames f k) (a ++ m)
shut_reads [] l c a m f k r d n = (a, m, c, refl, r, higher k k (omega arith) 0 l m f c (omega arith) d)
shut_reads (PrefixOf p ∷ frames) l c a m f k r d n =
    let up = prefix_grown p k r.1 m f c r.3 (higher k k (omega arith) 5 l m f c n d) in
    let more = shut_reads frames 5 c r.0 (r.1 ++ m) (prefixed p f) (k + 1) r.4 up (need_five frames) in
    let e : r.0 ++ (r.1 ++ m) ≡ a ++ m = rw (r.2, append_assoc) refl in
    subst (Ended (shut frames (prefixed p f) (k + 1))) e more
shut_reads (BinaryOf o g j ∷ frames) l c a m f k r d n =
    let up = binary_grown o j k r.1 r.2 m g f c r.4 r.5 (higher k k (omega arith) (right_of o) l m f c n d) in
    let more = shut_reads frames (level_of o) c r.0 (r.1 ++ (r.2 ++ m)) (joined o g f) (max j k + 1) r.7 up r.6 in
    let e : r.0 ++ (r.1 ++ (r.2 ++ m)) ≡ a ++ m = rw (r.3, append_assoc, append_assoc) refl in
    subst (Ended (shut frames (joined o g f) (max j k + 1))) e more
shut_reads (QuantifierOf q x ∷ frames) l c a m f k r d n =
    let up = quantifier_grown q x k m f c (higher k k (omega arith) 0 l m f c (omega arith) d) in
    let more = shut_reads frames 5 false r.0 (Word (quantifier_word q) ∷ Name x ∷ Sign sign.Dot ∷ m) (quantified q x f) (k + 1) r.2 up (need_five frames) in
    let e : r.0 ++ (Word (quantifier_word q) ∷ Name x ∷ Sign sign.Dot ∷ m) ≡ a ++ m = rw (r.1, append_assoc) refl in
    subst (Ended (shut frames (quantified q x f) (k + 1))) e more
shut_reads (ParenOf ∷ frames) l c a m f k r d n = (a, m, c, refl, r, higher k k (omega arith) 0 l m f c (omega arith) d)
shut_reads (FirstOf ∷ frames) l c a m f k r d n = (a, m, c, refl, r, higher k k (omega arith) 0 l m f c (omega arith) d)
shut_reads (SecondOf g j ∷ frames) l c a m f k r d n = (a, m, c, refl, r, higher k k (omega arith) 0 l m f c (omega arith) d)

pub none : {A B : Type 0} (x : A) → None ≡ Some x → B
none x e = cc

pub was_some : {A : Type 0} (x y : A) → Some x ≡ Some y → y ≡ x
was_some x y e = cc

-- behind a whole formula
whole_reduced : (op : Binary) (frames : List Frame) (f : Formula) (k : ℕ) (ts : List Token) → Reads (Whole frames f k) ts → Reduced op (reduce (left_of op) frames f k) ts
whole_reduced op frames f k ts r = rw r.2 (reduce_reads op frames 5 r.0 r.1 f k r.3 r.4 (need_five frames) (left_five op))

whole_ended : (frames : List Frame) (f : Formula) (k : ℕ) (ts : List Token) → Reads (Whole frames f k) ts → Ended (shut frames f k) ts
whole_ended frames f k ts r = rw r.2 (shut_reads frames 5 true r.0 r.1 f k r.3 r.4 (need_five frames))

with_sign_reads : (op : Binary) (s : Token) (b : Behind) (ts : List Token) → IsBinary (s ∷ []) op → Reduced op b ts → Reads (with_sign op b) (ts ++ s ∷ [])
with_sign_reads op s b ts i r = (r.0, r.1, s ∷ [], rw (r.2, append_assoc) refl, i, r.4, r.5, r.3)

with_since_reads : (b : Behind) (ts : List Token) → Reduced binary.Since b ts → Reads (with_since b) (ts ++ Word word.Since ∷ [])
with_since_reads b ts r = (r.0, r.1, rw (r.2, append_assoc) refl, r.4, r.5, r.3)

closed_reads : (frames : List Frame) (f : Formula) (k : ℕ) (s : State) (ts a m : List Token) (c : Bool) → ts ≡ a ++ m → FramesRead frames a → Derives k 0 m f c →
    closed_by frames f k ≡ Some s → Reads s (ts ++ Sign sign.RightParen ∷ [])
closed_reads (ParenOf ∷ frames) f k s ts a m c e r d q =
    let p : ts ++ Sign sign.RightParen ∷ [] ≡ r.0 ++ (Sign sign.LeftParen ∷ (m ++ Sign sign.RightParen ∷ [])) = rw (e, r.1, append_assoc, append_assoc) refl in
    rw (was_some _ _ q) (r.0, Sign sign.LeftParen ∷ (m ++ Sign sign.RightParen ∷ []), p, r.2, parens_grown k m f c d)
closed_reads (SecondOf g j ∷ frames) f k s ts a m c e r d q =
    let p : ts ++ Sign sign.RightParen ∷ [] ≡ r.0 ++ (Sign sign.LeftBracket ∷ (r.1 ++ Sign sign.Comma ∷ (m ++ Sign sign.RightParen ∷ []))) =
    rw (e, r.3, append_assoc, append_assoc, append_assoc) refl in
    rw (was_some _ _ q) (r.0, Sign sign.LeftBracket ∷ (r.1 ++ Sign sign.Comma ∷ (m ++ Sign sign.RightParen ∷ [])), p, r.5, interval_grown j k r.1 m g f r.2 c r.4 d)
closed_reads _ f k s ts a m c e r d q = none s q

parted_reads : (frames : List Frame) (f : Formula) (k : ℕ) (s : State) (ts a m : List Token) (c : Bool) → ts ≡ a ++ m → FramesRead frames a → Derives k 0 m f c →
    parted_by frames f k ≡ Some s → Reads s (ts ++ Sign sign.Comma ∷ [])
parted_reads (FirstOf ∷ frames) f k s ts a m c e r d q =
    let p : ts ++ Sign sign.Comma ∷ [] ≡ r.0 ++ (Sign sign.LeftBracket ∷ (m ++ Sign sign.Comma ∷ [])) = rw (e, r.1, append_assoc, append_assoc) refl in
    rw (was_some _ _ q) (r.0, m, c, p, d, r.2)
parted_reads _ f k s ts a m c e r d q = none s q

after_reads : (frames : List Frame) (f : Formula) (k : ℕ) (t : Token) (s' : State) (ts : List Token) → Reads (Whole frames f k) ts → after_whole frames f k t ≡ Some s' → Reads s' (ts ++ t ∷ [])
after_reads frames f k (Sign sign.Iff) s' ts r e = rw (was_some _ _ e) (with_sign_reads binary.Iff (Sign sign.Iff) (reduce 0 frames f k) ts refl (whole_reduced binary.Iff frames f k ts r))
after_reads frames f k (Sign sign.Implies) s' ts r e = rw (was_some _ _ e) (with_sign_reads binary.Implies (Sign sign.Implies) (reduce 2 frames f k) ts refl (whole_reduced binary.Implies frames f k ts r))
after_reads frames f k (Sign sign.Or) s' ts r e = rw (was_some _ _ e) (with_sign_reads binary.Or (Sign sign.Or) (reduce 2 frames f k) ts refl (whole_reduced binary.Or frames f k ts r))
after_reads frames f k (Sign sign.And) s' ts r e = rw (was_some _ _ e) (with_sign_reads binary.And (Sign sign.And) (reduce 3 frames f k) ts refl (whole_reduced binary.And frames f k ts r))
after_reads frames f k (Word word.Since) s' ts r e = rw (was_some _ _ e) (with_since_reads (reduce 4 frames f k) ts (whole_reduced binary.Since frames f k ts r))
after_reads frames f k (Sign sign.RightParen) s' ts r e =
    let x = whole_ended frames f k ts r in
    closed_reads (shut frames f k).frames (shut frames f k).formula (shut frames f k).height s' ts x.0 x.1 x.2 x.3 x.4 x.5 e
after_reads frames f k (Sign sign.Comma) s' ts r e =
    let x = whole_ended frames f k ts r in
    parted_reads (shut frames f k).frames (shut frames f k).formula (shut frames f k).height s' ts x.0 x.1 x.2 x.3 x.4 x.5 e
after_reads frames f k _ s' ts r e = none s' e

operand_reads : (frames : List Frame) (t : Token) (s' : State) (ts : List Token) → FramesRead frames ts → operand_next frames t ≡ Some s' → Reads s' (ts ++ t ∷ [])
operand_reads frames (Sign sign.Not) s' ts r e = rw (was_some _ _ e) (ts, Sign sign.Not ∷ [], refl, refl, r)
operand_reads frames (Sign sign.Prev) s' ts r e = rw (was_some _ _ e) (ts, Sign sign.Prev ∷ [], refl, refl, r)
operand_reads frames (Word word.Once) s' ts r e = rw (was_some _ _ e) (ts, refl, r)
operand_reads frames (Word word.Always) s' ts r e = rw (was_some _ _ e) (ts, refl, r)
operand_reads frames (Word word.Exists) s' ts r e = rw (was_some _ _ e) (ts, refl, r)
operand_reads frames (Word word.Forall) s' ts r e = rw (was_some _ _ e) (ts, refl, r)
operand_reads frames (Word word.True) s' ts r e =
    let d : Derives 1 5 (Word word.True ∷ []) True true = by_truth refl refl refl in
    rw (was_some _ _ e) (ts, Word word.True ∷ [], refl, r, d)
operand_reads frames (Word word.False) s' ts r e =
    let d : Derives 1 5 (Word word.False ∷ []) False true = by_falsity refl refl refl in
    rw (was_some _ _ e) (ts, Word word.False ∷ [], refl, r, d)
operand_reads frames (Name n) s' ts r e = rw (was_some _ _ e) (ts, refl, r)
operand_reads frames (Sign sign.LeftBracket) s' ts r e = rw (was_some _ _ e) (ts, refl, r)
operand_reads frames (Sign sign.LeftParen) s' ts r e = rw (was_some _ _ e) (ts, refl, r)
operand_reads frames _ s' ts r e = none s' e

name_whole : (frames : List Frame) (n : Text) (ts : List Token) → Reads (Named frames n) ts → Reads (Whole frames (Atom n []) 1) ts
name_whole frames n ts r =
    let d : Derives 1 5 (Name n ∷ []) (Atom n []) true = by_name n refl refl refl in
    (r.0, Name n ∷ [], r.1, r.2, d)

more_more : (us : List Token) (xs : List Term) (t : Token) (x : Term) → AreMore IsTerm us xs → IsTerm t x → AreMore IsTerm (us ++ (Sign sign.Comma ∷ t ∷ [])) (xs ++ x ∷ [])
more_more [] [] t x h i = (i, tt)
more_more (Sign sign.Comma ∷ u ∷ us) (y ∷ ys) t x h i = (h.0, more_more us ys t x h.1 i)
more_more _ _ t x h i = absurd h

some_more : (us : List Token) (xs : List Term) (t : Token) (x : Term) → AreSome us xs → IsTerm t x → AreSome (us ++ (Sign sign.Comma ∷ t ∷ [])) (xs ++ x ∷ [])
some_more [] xs t x h i = absurd h
some_more (u ∷ us) [] t x h i = absurd h
some_more (u ∷ us) (y ∷ ys) t x h i = (h.0, more_more us ys t x h.1 i)

are_listed : (us : List Token) (xs : List Term) → AreSome us xs → AreListed IsTerm us xs
are_listed [] xs h = absurd h
are_listed (u ∷ us) [] h = absurd h
are_listed (u ∷ us) (y ∷ ys) h = h

term_is : (t : Token) (x : Term) → term_of t ≡ Some x → IsTerm t x
term_is (Name y) x e = was_some _ _ e
term_is (Quoted y) x e = was_some _ _ e
term_is (Number y) x e = was_some _ _ e
term_is (Word w) x e = none x e
term_is (Sign s) x e = none x e

first_term_reads : (o : Option Term) (frames : List Frame) (n : Text) (t : Token) (s' : State) (ts : List Token) → term_of t ≡ o → Reads (FirstTerm frames n) ts →
    option_next o (λ x. Some (TermEnd frames n ([] ++ x ∷ []))) ≡ Some s' → Reads s' (ts ++ t ∷ [])
first_term_reads None frames n t s' ts q r e = none s' e
first_term_reads (Some x) frames n t s' ts q r e =
    let p : ts ++ t ∷ [] ≡ r.0 ++ (Name n ∷ Sign sign.LeftParen ∷ t ∷ []) = rw (r.1, append_assoc) refl in
    rw (was_some _ _ e) (r.0, t ∷ [], p, r.2, (term_is t x q, tt))

next_term_reads : (o : Option Term) (frames : List Frame) (n : Text) (xs : List Term) (t : Token) (s' : State) (ts : List Token) → term_of t ≡ o → Reads (NextTerm frames n xs) ts →
    option_next o (λ x. Some (TermEnd frames n (xs ++ x ∷ []))) ≡ Some s' → Reads s' (ts ++ t ∷ [])
next_term_reads None frames n xs t s' ts q r e = none s' e
next_term_reads (Some x) frames n xs t s' ts q r e =
    let p : ts ++ t ∷ [] ≡ r.0 ++ (Name n ∷ Sign sign.LeftParen ∷ (r.1 ++ (Sign sign.Comma ∷ t ∷ []))) = rw (r.2, append_assoc, append_assoc) refl in
    rw (was_some _ _ e) (r.0, r.1 ++ (Sign sign.Comma ∷ t ∷ []), p, r.3, some_more r.1 xs t x r.4 (term_is t x q))

atom_reads : (frames : List Frame) (n : Text) (a us : List Token) (xs : List Term) (s' : State) (ts : List Token) → FramesRead frames a → AreListed IsTerm us xs →
    ts ≡ a ++ (Name n ∷ Sign sign.LeftParen ∷ us) → Some (Whole frames (Atom n xs) 1) ≡ Some s' → Reads s' (ts ++ Sign sign.RightParen ∷ [])
atom_reads frames n a us xs s' ts r l q e =
    let d : Derives 1 5 (Name n ∷ Sign sign.LeftParen ∷ (us ++ Sign sign.RightParen ∷ [])) (Atom n xs) true = by_atom n us xs refl l refl refl in
    let p : ts ++ Sign sign.RightParen ∷ [] ≡ a ++ (Name n ∷ Sign sign.LeftParen ∷ (us ++ Sign sign.RightParen ∷ [])) = rw (q, append_assoc) refl in
    rw (was_some _ _ e) (a, Name n ∷ Sign sign.LeftParen ∷ (us ++ Sign sign.RightParen ∷ []), p, r, d)

bound_read : (most : Bool) (t : Text) → IsBound (Sign sign.LeftBracket ∷ Sign (compare most) ∷ Number t ∷ Sign sign.RightBracket ∷ []) (bound_of most t)
bound_read true t = (t, refl, refl)
bound_read false t = (t, refl, refl)

-- each step reads one token more
pub next_reads : (s : State) (t : Token) (s' : State) (ts : List Token) → Reads s ts → next s t ≡ Some s' → Reads s' (ts ++ t ∷ [])
next_reads (Operand frames) t s' ts r e = operand_reads frames t s' ts r e
next_reads (Named frames n) (Sign sign.LeftParen) s' ts r e = rw (was_some _ _ e) (r.0, rw (r.1, append_assoc) refl, r.2)
next_reads (Named frames n) t s' ts r e = after_reads frames (Atom n []) 1 t s' ts (name_whole frames n ts r) e
next_reads (FirstTerm frames n) (Sign sign.RightParen) s' ts r e = atom_reads frames n r.0 [] [] s' ts r.2 tt r.1 e
next_reads (FirstTerm frames n) t s' ts r e = first_term_reads (term_of t) frames n t s' ts refl r e
next_reads (NextTerm frames n xs) t s' ts r e = next_term_reads (term_of t) frames n xs t s' ts refl r e
next_reads (TermEnd frames n xs) (Sign sign.Comma) s' ts r e =
    let p : ts ++ Sign sign.Comma ∷ [] ≡ r.0 ++ (Name n ∷ Sign sign.LeftParen ∷ (r.1 ++ Sign sign.Comma ∷ [])) = rw (r.2, append_assoc) refl in
    rw (was_some _ _ e) (r.0, r.1, p, r.3, r.4)
next_reads (TermEnd frames n xs) (Sign sign.RightParen) s' ts r e = atom_reads frames n r.0 r.1 xs s' ts r.3 (are_listed r.1 xs r.4) r.2 e
next_reads (Whole frames f k) t s' ts r e = after_reads frames f k t s' ts r e
next_reads (OfVariable frames q) (Name x) s' ts r e = rw (was_some _ _ e) (r.0, rw (r.1, append_assoc) refl, r.2)
next_reads (OfDot frames q x) (Sign sign.Dot) s' ts r e = rw (was_some _ _ e) (r.0, rw (r.1, append_assoc) refl, r.2)
next_reads (Bounded frames w) (Sign sign.LeftBracket) s' ts r e = rw (was_some _ _ e) (ts, refl, r)
next_reads (Bounded frames w) t s' ts r e = operand_reads (untimed w ∷ frames) t s' ts (untimed_read frames w ts r) e
next_reads (Bracket frames w) (Sign sign.AtMost) s' ts r e = rw (was_some _ _ e) (r.0, rw (r.1, append_assoc) refl, r.2)
next_reads (Bracket frames w) (Sign sign.MoreThan) s' ts r e = rw (was_some _ _ e) (r.0, rw (r.1, append_assoc) refl, r.2)
next_reads (Bracket frames w) t s' ts r e =
    operand_reads (FirstOf ∷ untimed w ∷ frames) t s' ts (r.0, r.1, untimed_read frames w r.0 r.2) e
next_reads (OfNumber frames w most) (Number t) s' ts r e = rw (was_some _ _ e) (r.0, t, most, rw (r.1, append_assoc) refl, refl, r.2)
next_reads (BoundEnd frames w b) (Sign sign.RightBracket) s' ts r e =
    let bs : List Token = Sign sign.LeftBracket ∷ Sign (compare r.2) ∷ Number r.1 ∷ Sign sign.RightBracket ∷ [] in
    let p : ts ++ Sign sign.RightBracket ∷ [] ≡ r.0 ++ (Sign sign.LeftBracket ∷ Sign (compare r.2) ∷ Number r.1 ∷ Sign sign.RightBracket ∷ []) = rw (r.3, append_assoc) refl in
    rw (was_some _ _ e, p, r.4) (timed_read frames w r.0 _ (bound_of r.2 r.1) r.5 (bound_read r.2 r.1))
next_reads _ t s' ts r e = none s' e

only_reads : (frames : List Frame) (f : Formula) (k : ℕ) (m : Measured) (ts a b : List Token) (c : Bool) → ts ≡ a ++ b → FramesRead frames a → Derives k 0 b f c →
    only_bottom frames f k ≡ Some m → IsFormula m.1 ts m.0
only_reads [] f k m ts a b c e r d q =
    let all : ts ≡ b = e ∙ ap (λ a. a ++ b) r in
    rw (was_some _ _ q, all) (c, d)
only_reads _ f k m ts a b c e r d q = none m q

whole_finishes : (frames : List Frame) (f : Formula) (k : ℕ) (m : Measured) (ts : List Token) → Reads (Whole frames f k) ts → bottom (shut frames f k) ≡ Some m → IsFormula m.1 ts m.0
whole_finishes frames f k m ts r e =
    let x = whole_ended frames f k ts r in
    only_reads (shut frames f k).frames (shut frames f k).formula (shut frames f k).height m ts x.0 x.1 x.2 x.3 x.4 x.5 e

pub finish_reads : (s : State) (m : Measured) (ts : List Token) → Reads s ts → finish s ≡ Some m → IsFormula m.1 ts m.0
finish_reads (Named frames n) m ts r e = whole_finishes frames (Atom n []) 1 m ts (name_whole frames n ts r) e
finish_reads (Whole frames g k) m ts r e = whole_finishes frames g k m ts r e
finish_reads _ m ts r e = none m e

sound_step : (o : Option State) (s : State) (t : Token) (ts : List Token) (m : Measured) (before : List Token) → Reads s before → next s t ≡ o → option_next o (λ r. outcome r ts) ≡ Some m →
    ((s' : State) → Reads s' (before ++ t ∷ []) → outcome s' ts ≡ Some m → IsFormula m.1 ((before ++ t ∷ []) ++ ts) m.0) → IsFormula m.1 (before ++ (t ∷ ts)) m.0
sound_step None s t ts m before r n e go = none m e
sound_step (Some s') s t ts m before r n e go =
    subst (λ us. IsFormula m.1 us m.0) (append_assoc before (t ∷ []) ts) (go s' (next_reads s t s' before r n) e)

-- what is read behind these tokens is a formula of the height that is given
pub sound_from : (ts : List Token) (s : State) (m : Measured) (before : List Token) → Reads s before → outcome s ts ≡ Some m → IsFormula m.1 (before ++ ts) m.0
sound_from [] s m before r e = subst (λ us. IsFormula m.1 us m.0) (sym (append-nil before)) (finish_reads s m before r e)
sound_from (t ∷ ts) s m before r e = sound_step (next s t) s t ts m before r refl e (λ s' q h. sound_from ts s' m (before ++ t ∷ []) q h)
