-- What holds of each formula that an expansion makes.
use Rattle.std.proofs.Common.{◌≡◌, ℕ, ◌+◌, ◌≤◌, List, [], ◌∷◌, ◌++◌, length, refl, Bool, true, false, IsTrue, ap, arith, zero, suc}
use Rattle.std.specs.Prelude.{map, bytes_eq, if◌then◌else◌, ◌&&◌, ◌||◌, nat_eq, MatchBool}
use Rattle.std.specs.List.{zip, list_any, range_with_len}
use Rattle.std.proofs.lemmas.Bool.Decides.{nat_tests}
use Rattle.qtl_syntax.specs.declared.formula.Term.{Term}
use Rattle.qtl_syntax.specs.declared.formula.Term.TheVariants as term
use Rattle.qtl_syntax.specs.Tree.{Text, Formula, True, False, Atom, Not, And, Or, Implies, Iff, Prev, Since, TimedSince, Once, TimedOnce, Always, TimedAlways, Interval, Exists, Forall, Item, Pred, Prop}
use Rattle.qtl_syntax.specs.Lawful.{is_lawful_bound, is_lawful_formula, is_lawful_item, are_lawful}
use Rattle.qtl_truth.specs.declared.numbered_atom.AtomTerm.{AtomTerm}
use Rattle.qtl_truth.specs.declared.numbered_atom.AtomTerm.TheVariants as number
use Rattle.wellformed.specs.CoreTree.{CoreFormula}
use Rattle.wellformed.specs.Expansion.{quantifiers_in, call_quantifiers, quantifiers, size_in, call_size, size, Names, meant, numbered_term, expanded, called, expansion, AreBound, Takes, IsClosedIn, AreClosed}
use Rattle.wellformed.specs.Sound.{nodes, bound_by, are_among, is_closed, has_lawful_bounds}

-- the nodes are no more than the expanded size
SizesKept : (Text → List AtomTerm → ℕ → CoreFormula) → (Text → ℕ) → Type 0
SizesKept call sizes = (name : Text) (terms : List AtomTerm) (next : ℕ) → nodes (call name terms next) ≤ 1 + sizes name

module _ (call : Text → List AtomTerm → ℕ → CoreFormula) (count sizes : Text → ℕ) (kept : SizesKept call sizes) where
  nodes_in_size : (f : Formula) (names : Names) (next : ℕ) → nodes (expanded call count names next f) ≤ size_in sizes f
  unfolding SizesKept
  nodes_in_size True names next = omega arith
  nodes_in_size False names next = omega arith
  nodes_in_size (Atom name ts) names next = kept name (map (numbered_term names) ts) next
  nodes_in_size (Not f) names next = let p = nodes_in_size f names next in omega arith
  nodes_in_size (And f g) names next =
      let p = nodes_in_size f names next in let q = nodes_in_size g names (next + quantifiers_in count f) in omega arith
  nodes_in_size (Or f g) names next =
      let p = nodes_in_size f names next in let q = nodes_in_size g names (next + quantifiers_in count f) in omega arith
  nodes_in_size (Implies f g) names next =
      let p = nodes_in_size f names next in let q = nodes_in_size g names (next + quantifiers_in count f) in omega arith
  nodes_in_size (Iff f g) names next =
      let p = nodes_in_size f names next in let q = nodes_in_size g names (next + quantifiers_in count f) in omega arith
  nodes_in_size (Prev f) names next = let p = nodes_in_size f names next in omega arith
  nodes_in_size (Since f g) names next =
      let p = nodes_in_size f names next in let q = nodes_in_size g names (next + quantifiers_in count f) in omega arith
  nodes_in_size (TimedSince b f g) names next =
      let p = nodes_in_size f names next in let q = nodes_in_size g names (next + quantifiers_in count f) in omega arith
  nodes_in_size (Once f) names next = let p = nodes_in_size f names next in omega arith
  nodes_in_size (TimedOnce b f) names next = let p = nodes_in_size f names next in omega arith
  nodes_in_size (Always f) names next = let p = nodes_in_size f names next in omega arith
  nodes_in_size (TimedAlways b f) names next = let p = nodes_in_size f names next in omega arith
  nodes_in_size (Interval f g) names next =
      let p = nodes_in_size f names next in let q = nodes_in_size g names (next + quantifiers_in count f) in omega arith
  nodes_in_size (Exists x f) names next = let p = nodes_in_size f ((x, number.Variable next) ∷ names) (next + 1) in omega arith
  nodes_in_size (Forall x f) names next = let p = nodes_in_size f ((x, number.Variable next) ∷ names) (next + 1) in omega arith

size_by : (b : Bool) (F G : CoreFormula) (m n : ℕ) → nodes F ≤ 1 + m → nodes G ≤ 1 + n → nodes (if b then F else G) ≤ 1 + (if b then m else n)
size_by true F G m n p q = p
size_by false F G m n p q = q

sizes_kept : (before : List Item) → SizesKept (called before) (call_size before)
unfolding SizesKept
sizes_kept [] name terms next = omega arith
sizes_kept (Prop p body ∷ before) name terms next = sizes_kept before name terms next
sizes_kept (Pred p params body ∷ before) name terms next =
    size_by (bytes_eq p name) _ _ _ _ (let h = nodes_in_size (called before) (call_quantifiers before) (call_size before) (sizes_kept before) body (zip params terms) next in omega arith)
    (sizes_kept before name terms next)

pub expansion_size : (before : List Item) (names : Names) (next : ℕ) (f : Formula) → nodes (expansion before names next f) ≤ size before f
expansion_size before names next f = nodes_in_size (called before) (call_quantifiers before) (call_size before) (sizes_kept before) f names next

-- the quantifiers bind the numbers from the next one on
range_parts : (n a b : ℕ) → range_with_len n a ++ range_with_len (n + a) b ≡ range_with_len n (a + b)
range_parts n zero b = let e : n + 0 ≡ n = omega arith in let f : 0 + b ≡ b = omega arith in rw (e, f) refl
range_parts n (suc a) b =
    let e : n + suc a ≡ (n + 1) + a = omega arith in
    let f : suc a + b ≡ suc (a + b) = omega arith in
    rw (e, f) (ap (λ xs. n ∷ xs) (range_parts (n + 1) a b))

NumbersKept : (Text → List AtomTerm → ℕ → CoreFormula) → (Text → ℕ) → Type 0
NumbersKept call count = (name : Text) (terms : List AtomTerm) (next : ℕ) → bound_by (call name terms next) ≡ range_with_len next (count name)

pub both_bound : (xs ys : List ℕ) (n a b : ℕ) → xs ≡ range_with_len n a → ys ≡ range_with_len (n + a) b → xs ++ ys ≡ range_with_len n (a + b)
both_bound xs ys n a b p q = rw (p, q) (range_parts n a b)

first_bound : (xs : List ℕ) (n a : ℕ) → xs ≡ range_with_len (n + 1) a → n ∷ xs ≡ range_with_len n (1 + a)
first_bound xs n a p =
    let f : 1 + a ≡ suc a = omega arith in
    rw (p, f) refl

module _ (call : Text → List AtomTerm → ℕ → CoreFormula) (count : Text → ℕ) (kept : NumbersKept call count) where
  numbers_in : (f : Formula) (names : Names) (next : ℕ) → bound_by (expanded call count names next f) ≡ range_with_len next (quantifiers_in count f)
  unfolding NumbersKept
  numbers_in True names next = refl
  numbers_in False names next = refl
  numbers_in (Atom name ts) names next = kept name (map (numbered_term names) ts) next
  numbers_in (Not f) names next = numbers_in f names next
  numbers_in (And f g) names next = both_bound _ _ next _ _ (numbers_in f names next) (numbers_in g names (next + quantifiers_in count f))
  numbers_in (Or f g) names next = both_bound _ _ next _ _ (numbers_in f names next) (numbers_in g names (next + quantifiers_in count f))
  numbers_in (Implies f g) names next = both_bound _ _ next _ _ (numbers_in f names next) (numbers_in g names (next + quantifiers_in count f))
  numbers_in (Iff f g) names next = both_bound _ _ next _ _ (numbers_in f names next) (numbers_in g names (next + quantifiers_in count f))
  numbers_in (Prev f) names next = numbers_in f names next
  numbers_in (Since f g) names next = both_bound _ _ next _ _ (numbers_in f names next) (numbers_in g names (next + quantifiers_in count f))
  numbers_in (TimedSince b f g) names next = both_bound _ _ next _ _ (numbers_in f names next) (numbers_in g names (next + quantifiers_in count f))
  numbers_in (Once f) names next = numbers_in f names next
  numbers_in (TimedOnce b f) names next = numbers_in f names next
  numbers_in (Always f) names next = numbers_in f names next
  numbers_in (TimedAlways b f) names next = numbers_in f names next
  numbers_in (Interval f g) names next = both_bound _ _ next _ _ (numbers_in f names next) (numbers_in g names (next + quantifiers_in count f))
  numbers_in (Exists x f) names next = first_bound _ next _ (numbers_in f ((x, number.Variable next) ∷ names) (next + 1))
  numbers_in (Forall x f) names next = first_bound _ next _ (numbers_in f ((x, number.Variable next) ∷ names) (next + 1))

numbers_by : (b : Bool) (F G : CoreFormula) (next m n : ℕ) → bound_by F ≡ range_with_len next m → bound_by G ≡ range_with_len next n →
    bound_by (if b then F else G) ≡ range_with_len next (if b then m else n)
numbers_by true F G next m n p q = p
numbers_by false F G next m n p q = q

numbers_kept : (before : List Item) → NumbersKept (called before) (call_quantifiers before)
unfolding NumbersKept
numbers_kept [] name terms next = refl
numbers_kept (Prop p body ∷ before) name terms next = numbers_kept before name terms next
numbers_kept (Pred p params body ∷ before) name terms next =
    numbers_by (bytes_eq p name) _ _ next _ _ (numbers_in (called before) (call_quantifiers before) (numbers_kept before) body (zip params terms) next) (numbers_kept before name terms next)

pub expansion_numbers : (before : List Item) (names : Names) (next : ℕ) (f : Formula) → bound_by (expansion before names next f) ≡ range_with_len next (quantifiers before f)
expansion_numbers before names next f = numbers_in (called before) (call_quantifiers before) (numbers_kept before) f names next

-- bounds stay what they were
pub and_parts : (b c : Bool) → IsTrue (b && c) → IsTrue b × IsTrue c
and_parts true c h = (refl, h)
and_parts false c h = absurd (let no : ⊥ = cc in no)

pub and_true : (b c : Bool) → IsTrue b → IsTrue c → IsTrue (b && c)
and_true true c h k = k
and_true false c h k = absurd (let no : ⊥ = cc in no)

BoundsKept : (Text → List AtomTerm → ℕ → CoreFormula) → Type 0
BoundsKept call = (name : Text) (terms : List AtomTerm) (next : ℕ) → IsTrue (has_lawful_bounds (call name terms next))

module _ (call : Text → List AtomTerm → ℕ → CoreFormula) (count : Text → ℕ) (kept : BoundsKept call) where
  bounds_in : (f : Formula) (names : Names) (next : ℕ) → IsTrue (is_lawful_formula f) → IsTrue (has_lawful_bounds (expanded call count names next f))
  unfolding BoundsKept
  bounds_in True names next h = refl
  bounds_in False names next h = refl
  bounds_in (Atom name ts) names next h = kept name (map (numbered_term names) ts) next
  bounds_in (Not f) names next h = bounds_in f names next h
  bounds_in (And f g) names next h =
      let p = and_parts (is_lawful_formula f) _ h in and_true (has_lawful_bounds (expanded call count names next f)) _ (bounds_in f names next p.0) (bounds_in g names (next + quantifiers_in count f) p.1)
  bounds_in (Or f g) names next h =
      let p = and_parts (is_lawful_formula f) _ h in and_true (has_lawful_bounds (expanded call count names next f)) _ (bounds_in f names next p.0) (bounds_in g names (next + quantifiers_in count f) p.1)
  bounds_in (Implies f g) names next h =
      let p = and_parts (is_lawful_formula f) _ h in and_true (has_lawful_bounds (expanded call count names next f)) _ (bounds_in f names next p.0) (bounds_in g names (next + quantifiers_in count f) p.1)
  bounds_in (Iff f g) names next h =
      let p = and_parts (is_lawful_formula f) _ h in and_true (has_lawful_bounds (expanded call count names next f)) _ (bounds_in f names next p.0) (bounds_in g names (next + quantifiers_in count f) p.1)
  bounds_in (Prev f) names next h = bounds_in f names next h
  bounds_in (Since f g) names next h =
      let p = and_parts (is_lawful_formula f) _ h in and_true (has_lawful_bounds (expanded call count names next f)) _ (bounds_in f names next p.0) (bounds_in g names (next + quantifiers_in count f) p.1)
  bounds_in (TimedSince b f g) names next h =
      let o = and_parts (is_lawful_bound b) _ h in let p = and_parts (is_lawful_formula f) _ o.1 in
      and_true (is_lawful_bound b) _ o.0 (and_true (has_lawful_bounds (expanded call count names next f)) _ (bounds_in f names next p.0) (bounds_in g names (next + quantifiers_in count f) p.1))
  bounds_in (Once f) names next h = bounds_in f names next h
  bounds_in (TimedOnce b f) names next h = let p = and_parts (is_lawful_bound b) _ h in and_true (is_lawful_bound b) _ p.0 (bounds_in f names next p.1)
  bounds_in (Always f) names next h = bounds_in f names next h
  bounds_in (TimedAlways b f) names next h = let p = and_parts (is_lawful_bound b) _ h in and_true (is_lawful_bound b) _ p.0 (bounds_in f names next p.1)
  bounds_in (Interval f g) names next h =
      let p = and_parts (is_lawful_formula f) _ h in and_true (has_lawful_bounds (expanded call count names next f)) _ (bounds_in f names next p.0) (bounds_in g names (next + quantifiers_in count f) p.1)
  bounds_in (Exists x f) names next h = let p = and_parts _ (is_lawful_formula f) h in bounds_in f ((x, number.Variable next) ∷ names) (next + 1) p.1
  bounds_in (Forall x f) names next h = let p = and_parts _ (is_lawful_formula f) h in bounds_in f ((x, number.Variable next) ∷ names) (next + 1) p.1

bounds_by : (b : Bool) (F G : CoreFormula) → IsTrue (has_lawful_bounds F) → IsTrue (has_lawful_bounds G) → IsTrue (has_lawful_bounds (if b then F else G))
bounds_by true F G p q = p
bounds_by false F G p q = q

bounds_kept : (before : List Item) → IsTrue (are_lawful before) → BoundsKept (called before)
unfolding BoundsKept
bounds_kept [] h name terms next = refl
bounds_kept (Prop p body ∷ before) h name terms next =
    let k = and_parts (is_lawful_item (Prop p body)) (are_lawful before) h in bounds_kept before k.1 name terms next
bounds_kept (Pred p params body ∷ before) h name terms next =
    let k = and_parts (is_lawful_item (Pred p params body)) (are_lawful before) h in
    let l = and_parts _ (is_lawful_formula body) (and_parts _ _ k.0).1 in
    bounds_by (bytes_eq p name) _ _ (bounds_in (called before) (call_quantifiers before) (bounds_kept before k.1) body (zip params terms) next l.1) (bounds_kept before k.1 name terms next)

pub expansion_bounds : (before : List Item) (names : Names) (next : ℕ) (f : Formula) → IsTrue (are_lawful before) → IsTrue (is_lawful_formula f) →
    IsTrue (has_lawful_bounds (expansion before names next f))
expansion_bounds before names next f h k = bounds_in (called before) (call_quantifiers before) (bounds_kept before h) f names next k

-- each variable is bound
IsAmong : List ℕ → AtomTerm → Type 0
IsAmong vs (number.Variable v) = IsTrue (list_any (λ w. nat_eq w v) vs)
IsAmong vs (number.Constant t) = Unit {0}

-- names that are in scope stand for constants or for variables that are bound
Stand : List ℕ → List Text → Names → Type 0
Stand vs [] [] = Unit {0}
Stand vs (x ∷ scope) ((y, t) ∷ names) = (y ≡ x) × IsAmong vs t × Stand vs scope names
Stand vs _ _ = ⊥

or_right : (b c : Bool) → IsTrue (b || c) → b ≡ false → IsTrue c
or_right true c h e = cc
or_right false c h e = h

stands_by : (b : Bool) (vs : List ℕ) (c d : AtomTerm) → IsAmong vs c → (b ≡ false → IsAmong vs d) → IsAmong vs (if b then c else d)
stands_by true vs c d h k = h
stands_by false vs c d h k = k refl

stands : (vs : List ℕ) (x : Text) (scope : List Text) (names : Names) → Stand vs scope names → IsTrue (list_any (λ y. bytes_eq y x) scope) → IsAmong vs (meant names x)
unfolding Stand
stands vs x [] [] s h = absurd (let no : ⊥ = cc in no)
stands vs x (w ∷ scope) ((y, t) ∷ names) s h =
    rw s.0 (stands_by (bytes_eq w x) vs t (meant names x) s.1 (λ e. stands vs x scope names s.2 (or_right (bytes_eq w x) _ h e)))
stands vs x [] (_ ∷ _) s h = absurd s
stands vs x (_ ∷ _) [] s h = absurd s

among_first : (vs : List ℕ) (t : AtomTerm) (ts : List AtomTerm) → IsAmong vs t → IsTrue (are_among vs ts) → IsTrue (are_among vs (t ∷ ts))
unfolding IsAmong
among_first vs (number.Variable v) ts h k = and_true (list_any (λ w. nat_eq w v) vs) _ h k
among_first vs (number.Constant t) ts h k = k

all_among : (vs : List ℕ) (scope : List Text) (names : Names) → Stand vs scope names → (ts : List Term) → AreBound scope ts → IsTrue (are_among vs (map (numbered_term names) ts))
all_among vs scope names s [] b = refl
all_among vs scope names s (term.Variable x ∷ ts) b = among_first vs (meant names x) _ (stands vs x scope names s b.0) (all_among vs scope names s ts b.1)
all_among vs scope names s (term.Constant t ∷ ts) b = all_among vs scope names s ts b

or_left : (b c : Bool) → IsTrue c → IsTrue (b || c)
or_left true c h = refl
or_left false c h = h

among_more : (vs : List ℕ) (v : ℕ) (t : AtomTerm) → IsAmong vs t → IsAmong (v ∷ vs) t
unfolding IsAmong
among_more vs v (number.Variable w) h = or_left (nat_eq v w) _ h
among_more vs v (number.Constant t) h = tt

stand_more : (vs : List ℕ) (v : ℕ) (scope : List Text) (names : Names) → Stand vs scope names → Stand (v ∷ vs) scope names
unfolding Stand
stand_more vs v [] [] s = tt
stand_more vs v (x ∷ scope) ((y, t) ∷ names) s = (s.0, among_more vs v t s.1, stand_more vs v scope names s.2)
stand_more vs v [] (_ ∷ _) s = absurd s
stand_more vs v (_ ∷ _) [] s = absurd s

same_number : (v : ℕ) → IsTrue (nat_eq v v)
same_number v = grind (arith, nat_tests)

or_here : (b c : Bool) → IsTrue b → IsTrue (b || c)
or_here true c h = refl
or_here false c h = absurd (let no : ⊥ = cc in no)

stand_under : (vs : List ℕ) (v : ℕ) (x : Text) (scope : List Text) (names : Names) → Stand vs scope names → Stand (v ∷ vs) (x ∷ scope) ((x, number.Variable v) ∷ names)
unfolding Stand IsAmong
stand_under vs v x scope names s = (refl, or_here (nat_eq v v) _ (same_number v), stand_more vs v scope names s)

among_parts : (vs : List ℕ) (t : AtomTerm) (ts : List AtomTerm) → IsTrue (are_among vs (t ∷ ts)) → IsAmong vs t × IsTrue (are_among vs ts)
unfolding IsAmong
among_parts vs (number.Variable v) ts h = and_parts (list_any (λ w. nat_eq w v) vs) _ h
among_parts vs (number.Constant t) ts h = (tt, h)

stand_call : (vs : List ℕ) (params : List Text) (terms : List AtomTerm) → IsTrue (are_among vs terms) → length params ≡ length terms → Stand vs params (zip params terms)
unfolding Stand
stand_call vs [] terms h n = tt
stand_call vs (x ∷ params) [] h n = absurd (omega arith)
stand_call vs (x ∷ params) (t ∷ ts) h n = let p = among_parts vs t ts h in (refl, p.0, stand_call vs params ts p.1 (omega arith))

ClosedKept : (Text → List AtomTerm → ℕ → CoreFormula) → (Text → ℕ → Type 0) → Type 0
ClosedKept call takes = (name : Text) (terms : List AtomTerm) (next : ℕ) (vs : List ℕ) → IsTrue (are_among vs terms) → takes name (length terms) → IsTrue (is_closed vs (call name terms next))

map_length : {A B : Type 0} (f : A → B) (xs : List A) → length (map f xs) ≡ length xs
map_length f [] = refl
map_length f (x ∷ xs) = let h = map_length f xs in omega arith

module _ (call : Text → List AtomTerm → ℕ → CoreFormula) (count : Text → ℕ) (takes : Text → ℕ → Type 0) (kept : ClosedKept call takes) where
  closed_in : (f : Formula) (vs : List ℕ) (scope : List Text) (names : Names) (next : ℕ) → Stand vs scope names → IsClosedIn takes scope f → IsTrue (is_closed vs (expanded call count names next f))
  unfolding ClosedKept
  closed_in True vs scope names next s c = refl
  closed_in False vs scope names next s c = refl
  closed_in (Atom name ts) vs scope names next s c =
      kept name (map (numbered_term names) ts) next vs (all_among vs scope names s ts c.0) (rw (map_length (numbered_term names) ts) c.1)
  closed_in (Not f) vs scope names next s c = closed_in f vs scope names next s c
  closed_in (And f g) vs scope names next s c =
      and_true (is_closed vs (expanded call count names next f)) _ (closed_in f vs scope names next s c.0) (closed_in g vs scope names (next + quantifiers_in count f) s c.1)
  closed_in (Or f g) vs scope names next s c =
      and_true (is_closed vs (expanded call count names next f)) _ (closed_in f vs scope names next s c.0) (closed_in g vs scope names (next + quantifiers_in count f) s c.1)
  closed_in (Implies f g) vs scope names next s c =
      and_true (is_closed vs (expanded call count names next f)) _ (closed_in f vs scope names next s c.0) (closed_in g vs scope names (next + quantifiers_in count f) s c.1)
  closed_in (Iff f g) vs scope names next s c =
      and_true (is_closed vs (expanded call count names next f)) _ (closed_in f vs scope names next s c.0) (closed_in g vs scope names (next + quantifiers_in count f) s c.1)
  closed_in (Prev f) vs scope names next s c = closed_in f vs scope names next s c
  closed_in (Since f g) vs scope names next s c =
      and_true (is_closed vs (expanded call count names next f)) _ (closed_in f vs scope names next s c.0) (closed_in g vs scope names (next + quantifiers_in count f) s c.1)
  closed_in (TimedSince b f g) vs scope names next s c =
      and_true (is_closed vs (expanded call count names next f)) _ (closed_in f vs scope names next s c.0) (closed_in g vs scope names (next + quantifiers_in count f) s c.1)
  closed_in (Once f) vs scope names next s c = closed_in f vs scope names next s c
  closed_in (TimedOnce b f) vs scope names next s c = closed_in f vs scope names next s c
  closed_in (Always f) vs scope names next s c = closed_in f vs scope names next s c
  closed_in (TimedAlways b f) vs scope names next s c = closed_in f vs scope names next s c
  closed_in (Interval f g) vs scope names next s c =
      and_true (is_closed vs (expanded call count names next f)) _ (closed_in f vs scope names next s c.0) (closed_in g vs scope names (next + quantifiers_in count f) s c.1)
  closed_in (Exists x f) vs scope names next s c =
      closed_in f (next ∷ vs) (x ∷ scope) ((x, number.Variable next) ∷ names) (next + 1) (stand_under vs next x scope names s) c
  closed_in (Forall x f) vs scope names next s c =
      closed_in f (next ∷ vs) (x ∷ scope) ((x, number.Variable next) ∷ names) (next + 1) (stand_under vs next x scope names s) c

closed_by : (b : Bool) (vs : List ℕ) (F G : CoreFormula) (T U : Type 0) → MatchBool b T U → (T → IsTrue (is_closed vs F)) → (U → IsTrue (is_closed vs G)) → IsTrue (is_closed vs (if b then F else G))
closed_by true vs F G T U t p q = p t
closed_by false vs F G T U t p q = q t

closed_kept : (before : List Item) → AreClosed before → ClosedKept (called before) (Takes before)
unfolding ClosedKept
closed_kept [] c name terms next vs h t = h
closed_kept (Prop p body ∷ before) c name terms next vs h t = closed_kept before c name terms next vs h t
closed_kept (Pred p params body ∷ before) c name terms next vs h t =
    closed_by (bytes_eq p name) vs _ _ _ _ t
    (λ n. closed_in (called before) (call_quantifiers before) (Takes before) (closed_kept before c.1) body vs params (zip params terms) next (stand_call vs params terms h n) c.0)
    (λ u. closed_kept before c.1 name terms next vs h u)

pub expansion_closed : (before : List Item) (next : ℕ) (f : Formula) → AreClosed before → IsClosedIn (Takes before) [] f → IsTrue (is_closed [] (expansion before [] next f))
unfolding Stand
expansion_closed before next f b c = closed_in (called before) (call_quantifiers before) (Takes before) (closed_kept before b) f [] [] [] next tt c
