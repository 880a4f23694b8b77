-- What the grammar derives, the parser takes.
use Rattle.std.proofs.Common.{◌≡◌, ℕ, zero, suc, ◌+◌, ◌≤◌, List, [], ◌∷◌, ◌++◌, append_assoc, append-nil, Some, Bool, true, false, max, refl, sym, ap, ◌∙◌, subst, arith}
use Rattle.qtl_syntax.specs.declared.formula.Term.{Term}
use Rattle.qtl_syntax.specs.declared.operator.Binary.{Binary}
use Rattle.qtl_syntax.specs.declared.operator.Binary.TheVariants as binary
use Rattle.qtl_syntax.specs.declared.operator.Prefix.{Prefix}
use Rattle.qtl_syntax.specs.declared.operator.Prefix.TheVariants as prefix
use Rattle.qtl_syntax.specs.declared.operator.Quantifier.{Quantifier}
use Rattle.qtl_syntax.specs.declared.operator.Quantifier.TheVariants as quantifier
use Rattle.qtl_syntax.specs.declared.token.Sign.TheVariants as sign
use Rattle.qtl_syntax.specs.declared.token.Token.{Token}
use Rattle.qtl_syntax.specs.declared.token.Token.TheVariants.{Name, Quoted, Number, Word, Sign}
use Rattle.qtl_syntax.specs.Tree.{Text, Formula, Atom, Interval}
use Rattle.qtl_syntax.specs.Grammar.{IsTerm, AreListed, AreMore, IsBinary, IsPrefix, level_of, left_of, right_of, joined, prefixed, quantified, quantifier_word, Row, by_binary, by_prefix, by_quantifier, by_truth, by_falsity, by_name, by_atom, by_interval, by_parens, Derives, IsFormula}
use Rattle.qtl_syntax.specs.Machine.{Frame, PrefixOf, BinaryOf, QuantifierOf, ParenOf, FirstOf, SecondOf, Operand, FirstTerm, TermEnd, Whole, term_of, first_term, outcome}
use Rattle.qtl_syntax.proofs.Frames.{need, Follow, at_end, at_paren, at_comma, at_binary, lower, prefix_up, quantifier_up, binary_up, starts, within, reads_prefix, reads_binary, reads_quantifier, named}

-- the parser's outcome is that of the formula behind these frames, at some height up to h
abbrev pub Taken : ℕ → List Frame → List Token → List Token → Formula → Type 0
Taken h frames front rest f = (k : ℕ) × (1 ≤ k) × (k ≤ h) × (outcome (Operand frames) (front ++ rest) ≡ outcome (Whole frames f k) rest)

abbrev pub Takes : ℕ → Type 0
Takes h = (l : ℕ) (front : List Token) (f : Formula) (c : Bool) → Derives h l front f c →
    (frames : List Frame) → need frames ≤ l → (rest : List Token) → Follow l c rest → Taken h frames front rest f

first_prefix : (p : Prefix) (s a rest : List Token) → IsPrefix s p → starts ((s ++ a) ++ rest) ≡ true
first_prefix prefix.Not s a rest i = rw i refl
first_prefix prefix.Prev s a rest i = rw i refl
first_prefix prefix.Once s a rest i = rw i refl
first_prefix prefix.Always s a rest i = rw i refl
first_prefix (prefix.TimedOnce b) s a rest i = rw i.1 refl
first_prefix (prefix.TimedAlways b) s a rest i = rw i.1 refl

first_quantifier : (q : Quantifier) (ts : List Token) → starts (Word (quantifier_word q) ∷ ts) ≡ true
first_quantifier quantifier.Exists ts = refl
first_quantifier quantifier.Forall ts = refl

-- the first tokens of a formula
pub first : (h l : ℕ) (front : List Token) (f : Formula) (c : Bool) → Derives h l front f c → (rest : List Token) → starts (front ++ rest) ≡ true
first zero l front f c d rest = absurd d
first (suc h) l front f c (by_binary op p a s b A B e i g dA dB) rest =
    let x = first h (left_of op) a A true dA ((s ++ b) ++ rest) in
    rw e (rw (append_assoc a (s ++ b) rest) x)
first (suc h) l front f c (by_prefix op p s a A e i g d) rest = rw e (first_prefix op s a rest i)
first (suc h) l front f c (by_quantifier q p x a A d e g b r) rest = rw e (first_quantifier q (Name x ∷ Sign sign.Dot ∷ (a ++ rest)))
first (suc h) l front f c (by_truth e g r) rest = rw e refl
first (suc h) l front f c (by_falsity e g r) rest = rw e refl
first (suc h) l front f c (by_name n e g r) rest = rw e refl
first (suc h) l front f c (by_atom n us terms e q g r) rest = rw e refl
first (suc h) l front f c (by_interval a b A B m n e g dA dB r) rest =
    let x = first h 0 a A m dA ((Sign sign.Comma ∷ (b ++ Sign sign.RightParen ∷ [])) ++ rest) in
    rw e (within _ (rw (append_assoc a (Sign sign.Comma ∷ (b ++ Sign sign.RightParen ∷ [])) rest) x))
first (suc h) l front f c (by_parens a m e d r) rest = rw e refl

is_term : (t : Token) (x : Term) → IsTerm t x → term_of t ≡ Some x
is_term (Name y) x i = rw i refl
is_term (Quoted y) x i = rw i refl
is_term (Number y) x i = rw i refl
is_term (Word w) x i = absurd i
is_term (Sign s) x i = absurd i

is_first_term : (frames : List Frame) (n : Text) (t : Token) (x : Term) → IsTerm t x → first_term frames n t ≡ Some (TermEnd frames n (x ∷ []))
is_first_term frames n (Name y) x i = rw i refl
is_first_term frames n (Quoted y) x i = rw i refl
is_first_term frames n (Number y) x i = rw i refl
is_first_term frames n (Word w) x i = absurd i
is_first_term frames n (Sign s) x i = absurd i

terms_more : (frames : List Frame) (n : Text) (rest us : List Token) (xs acc : List Term) → AreMore IsTerm us xs →
    outcome (TermEnd frames n acc) (us ++ (Sign sign.RightParen ∷ rest)) ≡ outcome (Whole frames (Atom n (acc ++ xs)) 1) rest
terms_more frames n rest [] [] acc h = rw append-nil refl
terms_more frames n rest (Sign sign.Comma ∷ t ∷ us) (x ∷ xs) acc h =
    let e = is_term t x h.0 in
    let more = terms_more frames n rest us xs (acc ++ x ∷ []) h.1 in
    rw e (more ∙ rw append_assoc refl)
terms_more frames n rest _ _ acc h = absurd h

terms_all : (frames : List Frame) (n : Text) (rest us : List Token) (xs : List Term) → AreListed IsTerm us xs →
    outcome (FirstTerm frames n) (us ++ (Sign sign.RightParen ∷ rest)) ≡ outcome (Whole frames (Atom n xs) 1) rest
terms_all frames n rest [] [] h = refl
terms_all frames n rest (t ∷ us) (x ∷ xs) h =
    rw (is_first_term frames n t x h.0) (terms_more frames n rest us xs (x ∷ []) h.1)
terms_all frames n rest _ _ h = absurd h

levels : (op : Binary) → (level_of op ≤ left_of op) × (level_of op ≤ right_of op) × (left_of op ≤ 5)
levels binary.Iff = (omega arith, omega arith, omega arith)
levels binary.Implies = (omega arith, omega arith, omega arith)
levels binary.Or = (omega arith, omega arith, omega arith)
levels binary.And = (omega arith, omega arith, omega arith)
levels binary.Since = (omega arith, omega arith, omega arith)
levels (binary.TimedSince b) = (omega arith, omega arith, omega arith)

sign_follows : (op : Binary) (s ts : List Token) → IsBinary s op → Follow (left_of op) true (s ++ ts)
sign_follows op s ts i = at_binary refl op (omega arith) s ts refl i

binary_taken : (h l : ℕ) (front : List Token) (f : Formula) (c : Bool) (frames : List Frame) (rest : List Token) → Takes h → need frames ≤ l → Follow l c rest →
    (op : Binary) → l ≤ level_of op → (a s b : List Token) (A B : Formula) → front ≡ a ++ (s ++ b) → IsBinary s op → f ≡ joined op A B →
    Derives h (left_of op) a A true → Derives h (right_of op) b B c → Taken (suc h) frames front rest f
binary_taken h l front f c frames rest ih n fo op p a s b A B e i g dA dB =
    let v = levels op in
    let v0 : level_of op ≤ left_of op = v.0 in
    let v1 : level_of op ≤ right_of op = v.1 in
    let x = ih (left_of op) a A true dA frames (omega arith) (s ++ (b ++ rest)) (sign_follows op s (b ++ rest) i) in
    let mid = reads_binary op s (b ++ rest) frames A x.0 i (first h (right_of op) b B c dB rest) (omega arith) in
    let y = ih (right_of op) b B c dB (BinaryOf op A x.0 ∷ frames) (omega arith) rest (lower l (right_of op) c c rest (omega arith) (λ z. z) fo) in
    let up = binary_up l c rest fo op p A x.0 frames B y.0 in
    let parts : front ++ rest ≡ a ++ (s ++ (b ++ rest)) = rw (e, append_assoc, append_assoc) refl in
    let x1 : 1 ≤ x.0 = x.1 in
    let x2 : x.0 ≤ h = x.2 in
    let y2 : y.0 ≤ h = y.2 in
    (max x.0 y.0 + 1, omega arith, omega arith, rw (parts, g) (x.3 ∙ (mid ∙ (y.3 ∙ up))))

prefix_taken : (h l : ℕ) (front : List Token) (f : Formula) (c : Bool) (frames : List Frame) (rest : List Token) → Takes h → Follow l c rest →
    (op : Prefix) → l ≤ 5 → (s a : List Token) (A : Formula) → front ≡ s ++ a → IsPrefix s op → f ≡ prefixed op A → Derives h 5 a A c → Taken (suc h) frames front rest f
prefix_taken h l front f c frames rest ih fo op p s a A e i g d =
    let x = ih 5 a A c d (PrefixOf op ∷ frames) (omega arith) rest (lower l 5 c c rest p (λ z. z) fo) in
    let begin = reads_prefix op s (a ++ rest) frames i (first h 5 a A c d rest) in
    let up = prefix_up l c rest fo op frames A x.0 in
    let parts : front ++ rest ≡ s ++ (a ++ rest) = rw (e, append_assoc) refl in
    let x2 : x.0 ≤ h = x.2 in
    (x.0 + 1, omega arith, omega arith, rw (parts, g) (begin ∙ (x.3 ∙ up)))

quantifier_taken : (h l : ℕ) (front : List Token) (f : Formula) (c : Bool) (frames : List Frame) (rest : List Token) → Takes h → Follow l c rest →
    (q : Quantifier) (x : Text) (a : List Token) (A : Formula) (d : Bool) → front ≡ Word (quantifier_word q) ∷ Name x ∷ Sign sign.Dot ∷ a →
    f ≡ quantified q x A → Derives h 0 a A d → c ≡ false → Taken (suc h) frames front rest f
quantifier_taken h l front f c frames rest ih fo q x a A m e g d r =
    let open_ = subst (λ z. Follow l z rest) r fo in
    let y = ih 0 a A m d (QuantifierOf q x ∷ frames) (omega arith) rest (unclosed l m rest open_) in
    let begin = reads_quantifier q x (a ++ rest) frames in
    let up = quantifier_up l rest open_ q x frames A y.0 in
    let y2 : y.0 ≤ h = y.2 in
    (y.0 + 1, omega arith, omega arith, rw (e, g) (begin ∙ (y.3 ∙ up)))
  where
    unclosed : (l : ℕ) (m : Bool) (rest : List Token) → Follow l false rest → Follow 0 m rest
    unclosed l m rest (at_end e) = at_end e
    unclosed l m rest (at_paren ts e) = at_paren ts e
    unclosed l m rest (at_comma ts e) = at_comma ts e
    unclosed l m rest (at_binary t op i s ts e b) = cc

interval_taken : (h : ℕ) (front : List Token) (f : Formula) (frames : List Frame) (rest : List Token) → Takes h →
    (a b : List Token) (A B : Formula) (m n : Bool) → front ≡ Sign sign.LeftBracket ∷ (a ++ Sign sign.Comma ∷ (b ++ Sign sign.RightParen ∷ [])) →
    f ≡ Interval A B → Derives h 0 a A m → Derives h 0 b B n → Taken (suc h) frames front rest f
interval_taken h front f frames rest ih a b A B m n e g dA dB =
    let x = ih 0 a A m dA (FirstOf ∷ frames) (omega arith) (Sign sign.Comma ∷ (b ++ (Sign sign.RightParen ∷ rest))) (at_comma _ refl) in
    let y = ih 0 b B n dB (SecondOf A x.0 ∷ frames) (omega arith) (Sign sign.RightParen ∷ rest) (at_paren _ refl) in
    let inner : (b ++ Sign sign.RightParen ∷ []) ++ rest ≡ b ++ (Sign sign.RightParen ∷ rest) = append_assoc b (Sign sign.RightParen ∷ []) rest in
    let outer : (a ++ Sign sign.Comma ∷ (b ++ Sign sign.RightParen ∷ [])) ++ rest ≡ a ++ (Sign sign.Comma ∷ (b ++ (Sign sign.RightParen ∷ rest))) =
    append_assoc a (Sign sign.Comma ∷ (b ++ Sign sign.RightParen ∷ [])) rest ∙ ap (λ u. a ++ (Sign sign.Comma ∷ u)) inner in
    let x2 : x.0 ≤ h = x.2 in
    let y2 : y.0 ≤ h = y.2 in
    (max x.0 y.0 + 1, omega arith, omega arith, rw (e, g, outer) (x.3 ∙ y.3))

parens_taken : (h : ℕ) (front : List Token) (f : Formula) (frames : List Frame) (rest : List Token) → Takes h →
    (a : List Token) (m : Bool) → front ≡ Sign sign.LeftParen ∷ (a ++ Sign sign.RightParen ∷ []) → Derives h 0 a f m → Taken (suc h) frames front rest f
parens_taken h front f frames rest ih a m e d =
    let x = ih 0 a f m d (ParenOf ∷ frames) (omega arith) (Sign sign.RightParen ∷ rest) (at_paren _ refl) in
    let parts : (a ++ Sign sign.RightParen ∷ []) ++ rest ≡ a ++ (Sign sign.RightParen ∷ rest) = append_assoc a (Sign sign.RightParen ∷ []) rest in
    let x2 : x.0 ≤ h = x.2 in
    (x.0 + 1, omega arith, omega arith, rw (e, parts) x.3)

row_taken : (h l : ℕ) (front : List Token) (f : Formula) (c : Bool) (frames : List Frame) (rest : List Token) → Takes h → need frames ≤ l → Follow l c rest →
    Row (Derives h) l front f c → Taken (suc h) frames front rest f
row_taken h l front f c frames rest ih n fo (by_binary op p a s b A B e i g dA dB) = binary_taken h l front f c frames rest ih n fo op p a s b A B e i g dA dB
row_taken h l front f c frames rest ih n fo (by_prefix op p s a A e i g d) = prefix_taken h l front f c frames rest ih fo op p s a A e i g d
row_taken h l front f c frames rest ih n fo (by_quantifier q p x a A m e g d r) = quantifier_taken h l front f c frames rest ih fo q x a A m e g d r
row_taken h l front f c frames rest ih n fo (by_truth e g r) = (1, omega arith, omega arith, rw (e, g) refl)
row_taken h l front f c frames rest ih n fo (by_falsity e g r) = (1, omega arith, omega arith, rw (e, g) refl)
row_taken h l front f c frames rest ih n fo (by_name m e g r) = (1, omega arith, omega arith, rw (e, g) (named l c rest fo frames m))
row_taken h l front f c frames rest ih n fo (by_atom m us terms e q g r) =
    let parts : (us ++ Sign sign.RightParen ∷ []) ++ rest ≡ us ++ (Sign sign.RightParen ∷ rest) = append_assoc us (Sign sign.RightParen ∷ []) rest in
    (1, omega arith, omega arith, rw (e, g, parts) (terms_all frames m rest us terms q))
row_taken h l front f c frames rest ih n fo (by_interval a b A B m k e g dA dB r) = interval_taken h front f frames rest ih a b A B m k e g dA dB
row_taken h l front f c frames rest ih n fo (by_parens a m e d r) = parens_taken h front f frames rest ih a m e d

pub complete : (h : ℕ) → Takes h
complete zero l front f c d frames n rest fo = absurd d
complete (suc h) l front f c d frames n rest fo = row_taken h l front f c frames rest (complete h) n fo d

-- a formula of height at most h is the parser's outcome
pub exact : (h : ℕ) (ts : List Token) (f : Formula) → IsFormula h ts f → (k : ℕ) × (1 ≤ k) × (k ≤ h) × (outcome (Operand []) ts ≡ Some (f, k))
exact h ts f d =
    let x = complete h 0 ts f d.0 d.1 [] (omega arith) [] (at_end refl) in
    let same : outcome (Operand []) ts ≡ outcome (Operand []) (ts ++ []) = ap (outcome (Operand [])) (sym (append-nil ts)) in
    (x.0, x.1, x.2, same ∙ x.3)
