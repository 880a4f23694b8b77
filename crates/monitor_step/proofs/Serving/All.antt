-- The variables are served one after the other.
use Rattle.std.proofs.Common.{◌≡◌, ◌≢◌, ℕ, zero, suc, append-nil, ◌+◌, ◌*◌, ◌<◌, ◌≤◌, ◌⊎◌, inl, inr, ◌∙◌, [], ◌∷◌, ◌++◌, List, length, map, take, drop, get_or, set, get_or-set_same, get_or-set_other, ⊎_elim, refl, sym, ap, subst, arith, Option, Some, None, Bool, true, false, length-append}
use Rattle.std.specs.Prelude.{nat_eq, slice_index_or, slice_get, if◌then◌else◌, Result, Ok, Err, IsErrAnd, MatchResult}
use Rattle.std.specs.List.{AllByRecursion}
use Rattle.std.proofs.lemmas.Bool.{cases_lt}
use Rattle.std.proofs.lemmas.Bool.Decides.{eqb_tells, nat_tests}
use Rattle.std.proofs.lemmas.List.{get_or-map, get_or_append_left, map-set, length-set, take-append-drop, take_more_set}
use Rattle.std.proofs.Math.Seq.{get_or-append_seam}
use Rattle.std.proofs.lemmas.Nat.{mul-le}
use Rattle.std.proofs.lemmas.List.Concat.{flat_map-append}
use Rattle.qtl_syntax.specs.Tree.{Text}
use Rattle.qtl_truth.specs.declared.event.Event.{Event}
use Rattle.node_tree.specs.Tree.{Tree}
use Rattle.node_table.specs.declared.node.Node.{Node}
use Rattle.node_table.specs.Unfold.{tree_at}
use Rattle.node_table.specs.Table.{Table, tree_of}
use Rattle.subformulas.specs.declared.need_list.Need.{Need}
use Rattle.subformulas.specs.NeedList.{EntryArgsBelow, AreByVariable, entry_texts, texts_for}
use Rattle.value_codes.specs.Pairs.{Contents, code_of, IsBook}
use Rattle.monitor_step.specs.Coded.{AreCodes}
use Rattle.monitor_step.specs.declared.serve.ServeEnd.{ServeEnd}
use Rattle.monitor_step.specs.declared.serve.ServeEnd.TheVariants as serve
use Rattle.monitor_step.specs.Giving.{own_texts, AddsCodes}
use Rattle.monitor_step.specs.Serving.{AreServed, IsServed, IsEndAt, IsFull, IsServeEnd, pairs_at}
use Rattle.monitor_step.proofs.Serving.Marked.{have_at, have_count, own_count}

no_text : (b : Bool) (x : ℕ) (n : Need) (t : Text) → nat_eq x n.variable ≡ b → (n.variable ≡ x → ⊥) → (if b then t ∷ [] else []) ≡ []
no_text true x n t e other = let same : n.variable ≡ x = grind (arith, nat_tests) in absurd (other same)
no_text false x n t e other = refl

one_text : (b : Bool) (x : ℕ) (n : Need) (t : Text) → nat_eq x n.variable ≡ b → n.variable ≡ x → (if b then t ∷ [] else []) ≡ t ∷ []
one_text true x n t e same = refl
one_text false x n t e same = absurd (let never : ⊥ = grind (arith, nat_tests) in never)

-- entries of x alone give it all their texts
all_own : (x : ℕ) (args : List Text) (ns : List Need) → AllByRecursion (λ n. n.variable ≡ x) ns → texts_for x args ns ≡ own_texts args ns
all_own x args [] h = refl
all_own x args (n ∷ ns) h = rw (one_text (nat_eq x n.variable) x n (slice_index_or args n.arg []) refl h.0, all_own x args ns h.1) refl

-- codes in front stay, and those behind stand behind
front_stays : (cs ds : List ℕ) (n c : ℕ) → slice_get cs n ≡ Some c → slice_get (cs ++ ds) n ≡ Some c
front_stays [] ds n c e = absurd (let never : ⊥ = cc in never)
front_stays (d ∷ cs) ds zero c e = e
front_stays (d ∷ cs) ds (suc n) c e = front_stays cs ds n c e

get_behind : (cs ds : List ℕ) (n c : ℕ) → slice_get ds n ≡ Some c → slice_get (cs ++ ds) (length cs + n) ≡ Some c
get_behind [] ds n c e = let none : length {A = ℕ} [] + n ≡ n = omega arith in ap (λ (k : ℕ). slice_get ds k) none ∙ e
get_behind (d ∷ cs) ds n c e =
    let next : length (d ∷ cs) + n ≡ suc (length cs + n) = omega arith in
    ap (λ (k : ℕ). slice_get ((d ∷ cs) ++ ds) k) next ∙ get_behind cs ds n c e

-- ---- entries of a variable, and of later ones

all_weaker : (P Q : Need → Type 0) → ((n : Need) → P n → Q n) → (ns : List Need) → AllByRecursion P ns → AllByRecursion Q ns
all_weaker P Q w [] h = tt
all_weaker P Q w (n ∷ ns) h = (w n h.0, all_weaker P Q w ns h.1)

others_none : (x : ℕ) (args : List Text) (ns : List Need) → AllByRecursion (λ n. n.variable ≡ x → ⊥) ns → texts_for x args ns ≡ []
others_none x args [] h = refl
others_none x args (n ∷ ns) h = rw (no_text (nat_eq x n.variable) x n (slice_index_or args n.arg []) refl h.0) (others_none x args ns h.1)

parts : (x : ℕ) (args : List Text) (ns : List Need) (k : ℕ) → texts_for x args ns ≡ texts_for x args (take k ns) ++ texts_for x args (drop k ns)
parts x args ns k = ap (λ ms. texts_for x args ms) (sym (take-append-drop k ns)) ∙ flat_map-append (entry_texts x args) (take k ns) (drop k ns)

none_behind : (ts us : List Text) → us ≡ [] → ts ++ us ≡ ts
none_behind ts us e = rw e (append-nil ts)

-- the texts of a variable whose entries all stand in front
own_front : (x : ℕ) (args : List Text) (ns : List Need) (k : ℕ) → AllByRecursion (λ n. x < n.variable) (drop k ns) → texts_for x args (take k ns) ≡ texts_for x args ns
own_front x args ns k back =
    let none = others_none x args (drop k ns) (all_weaker (λ n. x < n.variable) (λ n. n.variable ≡ x → ⊥) (λ n l e. omega (arith, l, e)) (drop k ns) back) in
    sym (parts x args ns k ∙ none_behind (texts_for x args (take k ns)) (texts_for x args (drop k ns)) none)

-- those of a variable none of whose entries stands in front
later_texts : (x y : ℕ) (args : List Text) (ns : List Need) (k : ℕ) → x < y → AllByRecursion (λ n. n.variable ≤ x) (take k ns) → texts_for y args (drop k ns) ≡ texts_for y args ns
later_texts x y args ns k l front =
    let none = others_none y args (take k ns) (all_weaker (λ n. n.variable ≤ x) (λ n. n.variable ≡ y → ⊥) (λ n m e. omega (arith, l, m, e)) (take k ns) front) in
    sym (parts y args ns k ∙ ap (λ ts. ts ++ texts_for y args (drop k ns)) none)

order_behind : (fs bs : List Need) → AreByVariable (fs ++ bs) → AreByVariable bs
order_behind [] bs h = h
order_behind (f ∷ fs) bs h = order_behind fs bs h.1

all_behind : {A : Type 0} (P : A → Type 0) (fs bs : List A) → AllByRecursion P (fs ++ bs) → AllByRecursion P bs
all_behind P [] bs h = h
all_behind P (f ∷ fs) bs h = all_behind P fs bs h.1

pub all_more : {A : Type 0} (P : A → Type 0) (xs : List A) (x : A) → AllByRecursion P xs → P x → AllByRecursion P (xs ++ x ∷ [])
all_more P [] x h p = (p, tt)
all_more P (y ∷ xs) x h p = (h.0, all_more P xs x h.1 p)

all_set : {A : Type 0} (P : A → Type 0) (xs : List A) (i : ℕ) (x : A) → AllByRecursion P xs → P x → AllByRecursion P (set xs i x)
all_set P [] i x h p = tt
all_set P (y ∷ xs) zero x h p = (p, h.1)
all_set P (y ∷ xs) (suc i) x h p = (h.0, all_set P xs i x h.1 p)

all_get : {A : Type 0} (P : A → Type 0) (xs : List A) (i : ℕ) (d : A) → i < length xs → AllByRecursion P xs → P (get_or xs i d)
all_get P [] i d l h = absurd (omega (arith, l))
all_get P (x ∷ xs) zero d l h = h.0
all_get P (x ∷ xs) (suc i) d l h = all_get P xs i d (omega (arith, l)) h.1

-- ---- books by variable

pairs_here : (books : List Contents) (x : ℕ) (d : Contents) → x < length books → pairs_at books x ≡ (get_or books x d).pairs
pairs_here books x d l = get_or-map (λ (b : Contents). b.pairs) books x d [] l

pairs_set : (books : List Contents) (x : ℕ) (b : Contents) → x < length books → pairs_at (set books x b) x ≡ b.pairs
pairs_set books x b l =
    let m : x < length (set books x b) = rw (length-set books x b) l in
    get_or-map (λ (d : Contents). d.pairs) (set books x b) x b [] m ∙ ap (λ (d : Contents). d.pairs) (get_or-set_same books x b b l)

pairs_other : (books : List Contents) (x y : ℕ) (b : Contents) → y ≢ x → pairs_at (set books x b) y ≡ pairs_at books y
pairs_other books x y b n = ap (λ ps. slice_index_or ps y []) (map-set (λ (d : Contents). d.pairs) books x b) ∙ get_or-set_other (map (λ (d : Contents). d.pairs) books) x y b.pairs [] n

-- ---- one variable after the other

-- the variables below x are served, these entries are left, and the codes of the others are listed
pub record IsServing (trees : List Tree) (bits : ℕ) (e : Event) (entries : List Need) (before : List Contents) (x : ℕ) (rest : List Need) (books : List Contents)
    (starts codes : List ℕ) : Type 0 where
  pub count : length books ≡ length before
  pub served : AreServed trees bits e.args entries x before books
  pub later : (y : ℕ) → x ≤ y → pairs_at books y ≡ pairs_at before y
  pub same_bits : AllByRecursion (λ b. b.bits ≡ bits) books
  pub sound : AllByRecursion IsBook (take x books)
  pub texts : (y : ℕ) → x ≤ y → texts_for y e.args rest ≡ texts_for y e.args entries
  pub order : AreByVariable rest
  pub within : EntryArgsBelow (length e.args) rest
  pub from : AllByRecursion (λ n. x ≤ n.variable) rest
  pub start_count : length starts ≡ x
  pub code_count : length codes + length rest ≡ length entries
  pub coded : AreCodes x e entries (pairs_at books) (record { starts = starts; codes = codes; start_room = 0; code_room = 0 })

all_from : (ns : List Need) → AllByRecursion (λ n. 0 ≤ n.variable) ns
all_from [] = tt
all_from (n ∷ ns) = (omega arith, all_from ns)

-- before the first variable
pub serving_first : (trees : List Tree) (bits : ℕ) (e : Event) (entries : List Need) (before : List Contents) → AllByRecursion (λ b. b.bits ≡ bits) before → AreByVariable entries → EntryArgsBelow (length e.args) entries →
    IsServing trees bits e entries before 0 entries before [] []
serving_first trees bits e entries before same order within = record {
  count = refl;
  served = λ y l. absurd (omega (arith, l));
  later = λ y l. refl;
  same_bits = same;
  sound = tt;
  texts = λ y l. refl;
  order = order;
  within = within;
  from = all_from entries;
  start_count = refl;
  code_count = omega arith;
  coded = λ y nth t l at. absurd (omega (arith, l));
}

all_same : (x : ℕ) (ns : List Need) → AllByRecursion (λ n. x ≤ n.variable) ns → AllByRecursion (λ n. n.variable ≤ x) ns → AllByRecursion (λ n. n.variable ≡ x) ns
all_same x [] h k = tt
all_same x (n ∷ ns) h k = ((let a = h.0 in let b = k.0 in omega (arith, a, b)), all_same x ns h.1 k.1)

all_front : {A : Type 0} (P : A → Type 0) (fs bs : List A) → AllByRecursion P (fs ++ bs) → AllByRecursion P fs
all_front P [] bs h = tt
all_front P (f ∷ fs) bs h = (h.0, all_front P fs bs h.1)

parts_count : (ns : List Need) (k : ℕ) → length (take k ns) + length (drop k ns) ≡ length ns
parts_count ns k = let n = length-append (take k ns) (drop k ns) in let e = ap (λ (ms : List Need). length ms) (take-append-drop k ns) in omega (arith, n, e)

module _ (trees : List Tree) (bits : ℕ) (e : Event) (entries : List Need) (before : List Contents) (x : ℕ) (rest : List Need) (books : List Contents) (starts codes : List ℕ)
    (s : IsServing trees bits e entries before x rest books starts codes)
    (own others : List Need) (k : ℕ) (own_are : own ≡ take k rest) (others_are : others ≡ drop k rest) (front : AllByRecursion (λ n. n.variable ≤ x) (take k rest)) (back : AllByRecursion (λ n. x < n.variable) (drop k rest)) where
  -- its own entries give the texts of x
  pub own_is : own_texts e.args own ≡ texts_for x e.args entries
  own_is =
      ap (own_texts e.args) own_are
      ∙ sym (all_own x e.args (take k rest) (all_same x (take k rest) (all_front (λ n. x ≤ n.variable) (take k rest) (drop k rest) (rw (take-append-drop k rest) s.from)) front))
      ∙ own_front x e.args rest k back ∙ s.texts x (omega arith)

  pub own_within : EntryArgsBelow (length e.args) own
  own_within = subst (EntryArgsBelow (length e.args)) (sym own_are) (all_front (λ n. n.arg < length e.args) (take k rest) (drop k rest) (rw (take-append-drop k rest) s.within))

  -- and there are no more than all
  pub own_few : length codes + length own ≤ length entries
  own_few = let c = s.code_count in let p = parts_count rest k in let o = ap (λ (ms : List Need). length ms) own_are in omega (arith, c, p, o)

  module _ (d : Contents) (l : x < length books) where
    -- its pairs are as before
    pub pairs_are : (get_or books x d).pairs ≡ pairs_at before x
    pairs_are = sym (pairs_here books x d l) ∙ s.later x (omega arith)

    served_before : (after : Contents) → AreServed trees bits e.args entries x before (set books x after)
    served_before after y m =
        let other : y ≢ x = λ f. omega (arith, m, f) in
        subst (λ ps. IsServed trees (y * bits) bits (texts_for y e.args entries) (pairs_at before y) ps) (sym (pairs_other books x y after other)) (s.served y m)

    coded_more : (after : Contents) (start : ℕ) (more : List ℕ) → start ≡ length codes → AddsCodes after.pairs (own_texts e.args own) codes more →
        AreCodes (x + 1) e entries (pairs_at (set books x after)) (record { starts = starts ++ start ∷ []; codes = more; start_room = 0; code_room = 0 })
    coded_more after start more at a y nth t m there = by_place (eqb_tells y x)
      where
        early : y < x → (c : ℕ) × (slice_get more (slice_index_or (starts ++ start ∷ []) y 0 + nth) ≡ Some c) × (code_of (pairs_at (set books x after) y) t ≡ Some c)
        early less =
            let (c, got, is) = s.coded y nth t less there in
            let same : slice_index_or (starts ++ start ∷ []) y 0 ≡ slice_index_or starts y 0 = get_or_append_left starts (start ∷ []) 0 y (let n = s.start_count in omega (arith, n, less)) in (
              c,
              ap (λ (j : ℕ). slice_get more (j + nth)) same ∙ ap (λ xs. slice_get xs (slice_index_or starts y 0 + nth)) a.behind ∙ front_stays codes a.added (slice_index_or starts y 0 + nth) c got,
              ap (λ ps. code_of ps t) (pairs_other books x y after (λ f. omega (arith, less, f))) ∙ is,
            )

        own_code : y ≡ x → (c : ℕ) × (slice_get more (slice_index_or (starts ++ start ∷ []) y 0 + nth) ≡ Some c) × (code_of (pairs_at (set books x after) y) t ≡ Some c)
        own_code here =
            let mine : slice_get (own_texts e.args own) nth ≡ Some t = ap (λ ts. slice_get ts nth) (own_is ∙ sym (ap (λ (z : ℕ). texts_for z e.args entries) here)) ∙ there in
            let (c, got, is) = have_at after.pairs (own_texts e.args own) a.added a.codes nth t mine in
            let place : slice_index_or (starts ++ start ∷ []) y 0 ≡ length codes =
            ap (λ (z : ℕ). slice_index_or (starts ++ start ∷ []) z 0) (here ∙ sym s.start_count) ∙ get_or-append_seam starts start [] 0 ∙ at in (
              c,
              ap (λ (j : ℕ). slice_get more (j + nth)) place ∙ ap (λ xs. slice_get xs (length codes + nth)) a.behind ∙ get_behind codes a.added nth c got,
              ap (λ ps. code_of ps t) (ap (pairs_at (set books x after)) here ∙ pairs_set books x after l) ∙ is,
            )

        by_place : ((nat_eq y x ≡ true) × (y ≡ x)) ⊎ ((nat_eq y x ≡ false) × (y ≢ x)) →
            (c : ℕ) × (slice_get more (slice_index_or (starts ++ start ∷ []) y 0 + nth) ≡ Some c) × (code_of (pairs_at (set books x after) y) t ≡ Some c)
        by_place (inl q) = own_code q.1
        by_place (inr q) = early (let other = q.1 in omega (arith, m, other))

    pub serving_more : (after : Contents) (start : ℕ) (more : List ℕ) → start ≡ length codes → AddsCodes after.pairs (own_texts e.args own) codes more →
        IsServed trees (x * bits) bits (own_texts e.args own) (get_or books x d).pairs after.pairs → after.bits ≡ (get_or books x d).bits → IsBook after →
        IsServing trees bits e entries before (x + 1) others (set books x after) (starts ++ start ∷ []) more
    serving_more after start more at a served same sound = record {
      count = length-set books x after ∙ s.count;
      served = λ y m. ⊎_elim (λ less. served_before after y less) (λ more. here y (omega (arith, m, more))) (cases_lt y x);
      later = λ y m. let other : y ≢ x = λ f. omega (arith, m, f) in pairs_other books x y after other ∙ s.later y (omega (arith, m));
      same_bits = all_set (λ b. b.bits ≡ bits) books x after s.same_bits (same ∙ all_get (λ b. b.bits ≡ bits) books x d l s.same_bits);
      sound = rw (take_more_set books x after l) (all_more IsBook (take x books) after s.sound sound);
      texts = λ y m. ap (λ ns. texts_for y e.args ns) others_are ∙ (later_texts x y e.args rest k (omega (arith, m)) front ∙ s.texts y (omega (arith, m)));
      order = subst AreByVariable (sym others_are) (order_behind (take k rest) (drop k rest) (rw (take-append-drop k rest) s.order));
      within = subst (EntryArgsBelow (length e.args)) (sym others_are) (all_behind (λ n. n.arg < length e.args) (take k rest) (drop k rest) (rw (take-append-drop k rest) s.within));
      from = subst (AllByRecursion (λ n. x + 1 ≤ n.variable)) (sym others_are) (all_weaker (λ n. x < n.variable) (λ n. x + 1 ≤ n.variable) (λ n m. omega (arith, m)) (drop k rest) back);
      start_count = let n = length-append starts (start ∷ []) in let c = s.start_count in omega (arith, n, c);
      code_count =
          let n = ap (λ (xs : List ℕ). length xs) a.behind in
          let m = length-append codes a.added in
          let h = have_count after.pairs (own_texts e.args own) a.added a.codes in
          let o = own_count e.args own in
          let c = s.code_count in
          let p = parts_count rest k in
          let f = ap (λ (ms : List Need). length ms) own_are in
          let g = ap (λ (ms : List Need). length ms) others_are in
          omega (arith, n, m, h, o, c, p, f, g);
      coded = coded_more after start more at a;
    }
      where
        here : (y : ℕ) → y ≡ x → IsServed trees (y * bits) bits (texts_for y e.args entries) (pairs_at before y) (pairs_at (set books x after) y)
        here y f =
            subst (λ (z : ℕ). IsServed trees (z * bits) bits (texts_for z e.args entries) (pairs_at before z) (pairs_at (set books x after) z)) (sym f)
            (subst (λ ps. IsServed trees (x * bits) bits (texts_for x e.args entries) (pairs_at before x) ps) (sym (pairs_set books x after l))
            (subst (λ ps. IsServed trees (x * bits) bits (texts_for x e.args entries) ps after.pairs) pairs_are
            (subst (λ ts. IsServed trees (x * bits) bits ts (get_or books x d).pairs after.pairs) own_is served)))

    -- an end at x is one of all variables
    pub serving_end : (after : Contents) (end : ServeEnd) → IsEndAt trees (x * bits) bits x (own_texts e.args own) (get_or books x d).pairs end →
        IsServeEnd trees bits e.args entries before (set books x after) end
    serving_end after (serve.CodesFull y need) (same, full) =
        subst (λ (z : ℕ). IsServeEnd trees bits e.args entries before (set books x after) (serve.CodesFull z need)) (sym same) (
          subst (λ (n : ℕ). x < n) s.count l,
          served_before after,
          subst (λ ps. IsFull trees (x * bits) bits (texts_for x e.args entries) ps need) pairs_are
              (subst (λ ts. IsFull trees (x * bits) bits ts (get_or books x d).pairs need) own_is full),
        )
    serving_end after serve.NoMemory full = tt

-- ---- what else is said

-- a table with the same nodes has the same trees
pub same_trees : (t u : Table) → t.nodes ≡ u.nodes → (hs : List ℕ) → map (tree_of t) hs ≡ map (tree_of u) hs
same_trees t u e hs = ap (λ (ns : List (Option Node)). map (λ h. tree_at (λ k. slice_index_or ns k None) h) hs) e

-- steps of one more variable
pub cost_more : (each first now after x : ℕ) → now ≤ first + x * each → after ≤ now + each → after ≤ first + (x + 1) * each
cost_more each first now after x h k = omega (arith, h, k)

pub cost_end : (each first now after x n : ℕ) → x < n → now ≤ first + x * each → after ≤ now + each → after ≤ first + n * each
cost_end each first now after x n l h k = let m = mul-le (x + 1) each n each (omega (arith, l)) (omega arith) in let d = cost_more each first now after x h k in omega (arith, m, d)

-- the levels of a book's block, whose bits are at least one
pub width_here : (bits x n : ℕ) (books : List Contents) (d : Contents) → length books ≡ n → x < n →
    n * bits ≤ 65536 → AllByRecursion (λ b. b.bits ≡ bits) books → IsBook (get_or books x d) →
    (x < 65536) × (x * bits + bits ≤ 65536) × (x * bits < 65536)
width_here bits x n books d count l h same sound =
    let m : x < length books = omega (arith, count, l) in
    let is : (get_or books x d).bits ≡ bits = all_get (λ b. b.bits ≡ bits) books x d m same in
    let one : 1 ≤ bits = subst (λ (k : ℕ). 1 ≤ k) is sound.some_bits in
    let more : (x + 1) * bits ≤ n * bits = mul-le (x + 1) bits n bits (omega (arith, l)) (omega arith) in
    let wide : n * 1 ≤ n * bits = mul-le n 1 n bits (omega arith) one in
    let part : (x + 1) * bits ≡ x * bits + bits = omega arith in
    (omega (arith, l, h, wide), omega (arith, more, part, h), omega (arith, more, part, h, one))

-- what holds of an error holds of the result that passes it on
pub end_passed : (A : Type 0) (P : ServeEnd → Type 0) (r : Result (Unit {0}) ServeEnd)
    (e : ServeEnd) → P e → IsErrAnd r (λ d. d ≡ e) → MatchResult r (λ _. A) P
end_passed A P (Ok u) e p is = absurd is
end_passed A P (Err d) e p is = subst P (sym is) p
