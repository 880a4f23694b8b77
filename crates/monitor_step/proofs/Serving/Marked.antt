-- The codes of a variable's texts, with a mark for each that has none.
use Rattle.std.proofs.Common.{◌≡◌, ◌≢◌, ℕ, zero, suc, ◌+◌, ◌-◌, ◌^◌, ◌<◌, ◌≤◌, ◌⊎◌, ◌∙◌, [], ◌∷◌, ◌++◌, List, length, length-append, take, drop, get_or, set, inl, inr, refl, sym, ap, subst, arith, Bool, true, false, ◌||◌, Option, Some, None, add-one, drop-cons, append-nil}
use Rattle.std.specs.Prelude.{nat_eq, is_some, if◌then◌else◌, unwrap_or, bytes_eq, slice_index_or, slice_get}
use Rattle.std.proofs.Math.Pow.{pow_mono}
use Rattle.std.proofs.lemmas.Bool.Decides.{eqb_tells}
use Rattle.std.proofs.lemmas.List.{length-set, length-drop, take_more, take_more_set, drop-set-lt, drop_all, drop_at, get_or_read, take_all, take_at}
use Rattle.qtl_syntax.specs.Tree.{Text}
use Rattle.subformulas.specs.NeedList.{EntryArgsBelow}
use Rattle.subformulas.specs.Texts.{Has}
use Rattle.subformulas.specs.declared.need_list.Need.{Need}
use Rattle.value_codes.specs.Pairs.{Pairs, Contents, code_of, value_of, Adds, IsBook}
use Rattle.value_codes.proofs.Lookups.{Tells, code_reads, some_none, texts_tell}
use Rattle.code_reclaim.specs.Swept.{stands_in}
use Rattle.monitor_model.specs.Books.{without_code}
use Rattle.monitor_step.specs.Giving.{marked, no_code, own_texts, HaveCodes}

-- a code that stands in a book is no mark
pub code_small : (b : Contents) → IsBook b → (t : Text) (c : ℕ) → code_of b.pairs t ≡ Some c →
    c < no_code
code_small b sound t c e =
    let there : value_of b.pairs c ≢ None =
    (λ none. some_none (value_of b.pairs c) t (code_reads b.pairs t c sound.paired e) none) in
    let below = sound.below c there in
    let few : 2 ^ b.bits ≤ 2 ^ 20 = pow_mono sound.few_bits in
    omega (arith, below, few)

-- ---- marks among codes

module _ (book : Pairs) where
  -- a code that is no mark is that of one of the texts
  pub marked_from : (ts : List Text) (c : ℕ) → c < no_code → stands_in (marked book ts) c ≡ true →
      (u : Text) × Has ts u × (code_of book u ≡ Some c)
  marked_from [] c l h = let never : false ≡ true = h in cc
  marked_from (t ∷ ts) c l h = by_code (code_of book t) refl (marked_from ts c l) h
    where
      more : (u : Text) × Has ts u × (code_of book u ≡ Some c) →
          (u : Text) × Has (t ∷ ts) u × (code_of book u ≡ Some c)
      more (u, k, e) = (u, inr k, e)

      by_head : (d : ℕ) → (d ≡ c → code_of book t ≡ Some c) → Tells (nat_eq d c) (d ≡ c) →
          (stands_in (marked book ts) c ≡ true →
          (u : Text) × Has ts u × (code_of book u ≡ Some c)) →
          (nat_eq d c || stands_in (marked book ts) c) ≡ true →
          (u : Text) × Has (t ∷ ts) u × (code_of book u ≡ Some c)
      by_head d e (inl q) rest k = (t, inl refl, e q.1)
      by_head d e (inr q) rest k =
          more (rest (let i : (false || stands_in (marked book ts) c) ≡ true = rw q.0 at k in i))

      by_code : (o : Option ℕ) → code_of book t ≡ o →
          (stands_in (marked book ts) c ≡ true →
          (u : Text) × Has ts u × (code_of book u ≡ Some c)) →
          (nat_eq (unwrap_or o no_code) c || stands_in (marked book ts) c) ≡ true →
          (u : Text) × Has (t ∷ ts) u × (code_of book u ≡ Some c)
      by_code None e rest k =
          by_head no_code (λ q. absurd (omega (arith, q, l))) (eqb_tells no_code c) rest k
      by_code (Some d) e rest k =
          by_head d (λ q. e ∙ ap (λ (j : ℕ). Some j) q) (eqb_tells d c) rest k

  -- and the code of each text stands there
  pub marked_have : (ts : List Text) (t : Text) (c : ℕ) → Has ts t → code_of book t ≡ Some c →
      stands_in (marked book ts) c ≡ true
  marked_have [] t c h e = absurd h
  marked_have (u ∷ ts) t c h e =
      by_text h (λ k. marked_have ts t c k e) (eqb_tells (unwrap_or (code_of book u) no_code) c)
    where
      by_text : (u ≡ t) ⊎ Has ts t → (Has ts t → stands_in (marked book ts) c ≡ true) →
          Tells (nat_eq (unwrap_or (code_of book u) no_code) c)
          (unwrap_or (code_of book u) no_code ≡ c) →
          (nat_eq (unwrap_or (code_of book u) no_code) c || stands_in (marked book ts) c) ≡ true
      by_text k rest (inl q) = rw q.0 refl
      by_text (inl s) rest (inr q) =
          let f : code_of book u ≡ Some c = ap (λ z. code_of book z) s ∙ e in
          absurd (q.1 (ap (λ o. unwrap_or o no_code) f))
      by_text (inr k) rest (inr q) = rw q.0 (rest k)

  -- where no text is new the marks are codes
  pub marked_all : (ts : List Text) → length (without_code book ts) ≡ 0 →
      HaveCodes book ts (marked book ts)
  marked_all [] h = refl
  marked_all (t ∷ ts) h = by_code (code_of book t) refl (λ k. marked_all ts k) h
    where
      by_code : (o : Option ℕ) → code_of book t ≡ o →
          (length (without_code book ts) ≡ 0 → HaveCodes book ts (marked book ts)) →
          length (if is_some o then without_code book ts else t ∷ without_code book ts) ≡ 0 →
          (c : ℕ) × (rest : List ℕ) × (unwrap_or o no_code ∷ marked book ts ≡ c ∷ rest) ×
          (code_of book t ≡ Some c) × HaveCodes book ts rest
      by_code None e rest k =
          absurd (let f : suc (length (without_code book ts)) ≡ 0 = k in omega (arith, f))
      by_code (Some c) e rest k = (c, marked book ts, refl, e, rest k)

  pub have_count : (ts : List Text) (cs : List ℕ) → HaveCodes book ts cs → length cs ≡ length ts
  have_count [] cs h = ap (λ (xs : List ℕ). length xs) h
  have_count (t ∷ ts) cs (c, rest, e, at, h) =
      ap (λ (xs : List ℕ). length xs) e ∙ ap (λ (n : ℕ). suc n) (have_count ts rest h)

  pub marked_count : (ts : List Text) → length (marked book ts) ≡ length ts
  marked_count [] = refl
  marked_count (t ∷ ts) = ap (λ (n : ℕ). suc n) (marked_count ts)

  -- the nth text has the nth code
  pub have_at : (ts : List Text) (cs : List ℕ) → HaveCodes book ts cs → (n : ℕ) (t : Text) →
      slice_get ts n ≡ Some t → (c : ℕ) × (slice_get cs n ≡ Some c) × (code_of book t ≡ Some c)
  have_at [] cs h n t e = absurd (let never : ⊥ = cc in never)
  have_at (u ∷ ts) cs (c, rest, same, at, h) zero t e =
      let is : u ≡ t = cc in
      (c, ap (λ xs. slice_get xs 0) same, subst (λ z. code_of book z ≡ Some c) is at)
  have_at (u ∷ ts) cs (c, rest, same, at, h) (suc n) t e =
      let (d, there, is) = have_at ts rest h n t e in
      (d, ap (λ xs. slice_get xs (suc n)) same ∙ there, is)

  -- codes of more texts
  pub have_more : (ts us : List Text) (cs ds : List ℕ) → HaveCodes book ts cs →
      HaveCodes book us ds → HaveCodes book (ts ++ us) (cs ++ ds)
  have_more [] us cs ds h k = rw h k
  have_more (t ∷ ts) us cs ds (c, rest, e, at, h) k =
      (c, rest ++ ds, ap (λ xs. xs ++ ds) e, at, have_more ts us rest ds h k)

  pub have_one : (t : Text) (c : ℕ) → code_of book t ≡ Some c →
      HaveCodes book (t ∷ []) (c ∷ [])
  have_one t c e = (c, [], refl, e, refl)

-- books with the same codes for these texts mark them alike
pub marked_same : (a b : Pairs) (ts : List Text) →
    ((t : Text) → Has ts t → code_of a t ≡ code_of b t) → marked a ts ≡ marked b ts
marked_same a b [] h = refl
marked_same a b (t ∷ ts) h = rw (h t (inl refl), marked_same a b ts (λ u k. h u (inr k))) refl

pub have_same : (a b : Pairs) (ts : List Text) (cs : List ℕ) →
    ((t : Text) (c : ℕ) → code_of a t ≡ Some c → code_of b t ≡ Some c) → HaveCodes a ts cs →
    HaveCodes b ts cs
have_same a b [] cs s h = h
have_same a b (t ∷ ts) cs s (c, rest, e, at, h) =
    (c, rest, e, s t c at, have_same a b ts rest s h)

-- ---- a code is given

module _ (before after : Pairs) (t : Text) (c : ℕ) (none : code_of before t ≡ None)
    (a : Adds before t c after) where
  -- to its text
  pub added_own : code_of after t ≡ Some c
  added_own = a.codes t ∙ by_text (texts_tell t t)
    where
      by_text : Tells (bytes_eq t t) (t ≡ t) →
          (if bytes_eq t t then Some c else code_of before t) ≡ Some c
      by_text (inl q) = rw q.0 refl
      by_text (inr q) = absurd (q.1 refl)

  -- other texts keep theirs
  pub added_stays : (u : Text) (d : ℕ) → code_of before u ≡ Some d → code_of after u ≡ Some d
  added_stays u d e = a.codes u ∙ by_text (texts_tell t u)
    where
      by_text : Tells (bytes_eq t u) (t ≡ u) →
          (if bytes_eq t u then Some c else code_of before u) ≡ Some d
      by_text (inl q) =
          some_none (code_of before u) d e (ap (λ z. code_of before z) (sym q.1) ∙ none)
      by_text (inr q) = rw q.0 e

  pub added_other : (u : Text) → (t ≡ u → ⊥) → code_of after u ≡ code_of before u
  added_other u other = a.codes u ∙ by_text (texts_tell t u)
    where
      by_text : Tells (bytes_eq t u) (t ≡ u) →
          (if bytes_eq t u then Some c else code_of before u) ≡ code_of before u
      by_text (inl q) = absurd (other q.1)
      by_text (inr q) = rw q.0 refl

  has_none : (ts : List Text) → ¬ Has ts t → (u : Text) → Has ts u → t ≡ u → ⊥
  has_none ts n u h e = n (subst (Has ts) (sym e) h)

  pub marked_other : (ts : List Text) → ¬ Has ts t → marked after ts ≡ marked before ts
  marked_other ts n = marked_same after before ts (λ u h. added_other u (has_none ts n u h))

-- ---- entries one after the other

from_place : {A : Type 0} (xs : List A) (i : ℕ) (d : A) → i < length xs →
    drop i xs ≡ get_or xs i d ∷ drop (i + 1) xs
from_place xs i d l = let h = drop-cons xs i d l in rw (add-one, h) refl

own_behind : (args : List Text) (fs bs : List Need) →
    own_texts args (fs ++ bs) ≡ own_texts args fs ++ own_texts args bs
own_behind args [] bs = refl
own_behind args (f ∷ fs) bs = ap (λ ts. slice_index_or args f.arg [] ∷ ts) (own_behind args fs bs)

module _ (args : List Text) (ns : List Need) (i : ℕ) (d : Need) (l : i < length ns) where
  abbrev here : Text
  here = slice_index_or args (get_or ns i d).arg []

  -- the text of the entry at a place comes before those of the later ones
  pub own_first : own_texts args (drop i ns) ≡ here ∷ own_texts args (drop (i + 1) ns)
  own_first = ap (own_texts args) (from_place ns i d l)

  -- and after those of the earlier ones
  pub own_last : own_texts args (take (i + 1) ns) ≡ own_texts args (take i ns) ++ here ∷ []
  own_last =
      ap (own_texts args) (take_more ns i d l)
      ∙ own_behind args (take i ns) (get_or ns i d ∷ [])

pub own_count : (args : List Text) (ns : List Need) → length (own_texts args ns) ≡ length ns
own_count args [] = refl
own_count args (n ∷ ns) = ap (λ (k : ℕ). suc k) (own_count args ns)

pub arg_here : (args : List Text) (ns : List Need) (i : ℕ) (d : Need) → i < length ns →
    EntryArgsBelow (length args) (drop i ns) →
    ((get_or ns i d).arg < length args) × EntryArgsBelow (length args) (drop (i + 1) ns)
arg_here args ns i d l h = rw (from_place ns i d l) at h

-- what indexing gives at an entry is its text
pub text_here : (args : List Text) (ns : List Need) (i : ℕ) (d : Need) (t : Text) →
    i < length ns → EntryArgsBelow (length args) (drop i ns) →
    t ≡ slice_index_or args (get_or ns i d).arg t →
    t ≡ slice_index_or args (get_or ns i d).arg []
text_here args ns i d t l within is =
    get_or_read args (get_or ns i d).arg t (arg_here args ns i d l within).0 is []

-- the texts without a code are some of the texts
pub without_short : (book : Pairs) (ts : List Text) → length (without_code book ts) ≤ length ts
without_short book [] = omega arith
without_short book (t ∷ ts) = by_test (is_some (code_of book t)) (without_short book ts)
  where
    by_test : (b : Bool) → length (without_code book ts) ≤ length ts →
        length (if b then without_code book ts else t ∷ without_code book ts) ≤ length (t ∷ ts)
    by_test true h = omega arith
    by_test false h = omega arith

-- what was put behind a list stands there alone
pub behind : (from : ℕ) (old added all : List ℕ) → from ≡ length old → all ≡ old ++ added →
    take (length all - from) (drop from all) ≡ added
behind from old added all f e =
    let d : drop from all ≡ added =
    ap (λ (xs : List ℕ). drop from xs) e ∙ drop_at old added from (sym f) in
    let n : length added ≤ length all - from =
    let l = ap (λ (xs : List ℕ). length xs) d in let k = length-drop from all in
    omega (arith, l, k) in
    ap (λ (xs : List ℕ). take (length all - from) xs) d ∙ take_all (length all - from) added n

-- a list that is written over one as long is what stands then
written_over : (xs items : List ℕ) (len : ℕ) → length xs ≡ length items → len ≡ length items →
    take len (xs ++ drop (length xs) items) ≡ xs
written_over xs items len same l =
    let e : xs ++ drop (length xs) items ≡ xs =
    ap (λ ys. xs ++ ys) (drop_all (length xs) items (omega (arith, same))) ∙ append-nil xs in
    ap (λ ys. take len ys) e ∙ take_all len xs (omega (arith, same, l))

-- what is written over the part that was put behind a list stands behind it
pub put_behind : (from : ℕ) (old added all new items : List ℕ) (len : ℕ) → from ≡ length old →
    all ≡ old ++ added → all ≡ items → len ≡ length items →
    length new ≡ length (take (length all - from) (drop from all)) →
    take len ((take from all ++ (new ++ drop (length all - from) (drop from all)))
    ++ drop (length (take from all ++ (new ++ drop (length all - from) (drop from all)))) items)
    ≡ old ++ new
put_behind from old added all new items len f e same l n =
    let front : take from all ≡ old =
    ap (λ (xs : List ℕ). take from xs) e ∙ take_at old added from (sym f) in
    let none : drop (length all - from) (drop from all) ≡ [] =
    drop_all (length all - from) (drop from all)
    (let k = length-drop from all in omega (arith, k)) in
    let is : take from all ++ (new ++ drop (length all - from) (drop from all)) ≡ old ++ new =
    ap (λ xs. xs ++ (new ++ drop (length all - from) (drop from all))) front
    ∙ ap (λ xs. old ++ (new ++ xs)) none ∙ ap (λ xs. old ++ xs) (append-nil new) in
    let long : length (take from all ++ (new ++ drop (length all - from) (drop from all))) ≡
    length items =
    let a = ap (λ (xs : List ℕ). length xs) is in
    let b = length-append old new in
    let g = ap (λ (xs : List ℕ). length xs) e in
    let d = length-append old added in
    let h = n ∙ ap (λ (xs : List ℕ). length xs) (behind from old added all f e) in
    let k = ap (λ (xs : List ℕ). length xs) same in
    omega (arith, a, b, g, d, h, k) in
    written_over (take from all ++ (new ++ drop (length all - from) (drop from all))) items len
    long l ∙ is

-- what holds while marks are replaced: the earlier texts have codes, and the later ones are marked
pub record AreGiven (args : List Text) (ns : List Need) (i : ℕ) (now : Pairs) (codes : List ℕ) :
    Type 0 where
  pub count : length codes ≡ length ns
  pub done : HaveCodes now (own_texts args (take i ns)) (take i codes)
  pub left : drop i codes ≡ marked now (own_texts args (drop i ns))

pub given_begin : (args : List Text) (ns : List Need) (book : Pairs) (codes : List ℕ) →
    codes ≡ marked book (own_texts args ns) → AreGiven args ns 0 book codes
given_begin args ns book codes e = record {
  count = ap (λ (xs : List ℕ). length xs) e ∙ marked_count book (own_texts args ns)
      ∙ own_count args ns;
  done = refl;
  left = e;
}

pub given_end : (args : List Text) (ns : List Need) (i : ℕ) (book : Pairs) (codes : List ℕ) →
    length ns ≤ i → AreGiven args ns i book codes → HaveCodes book (own_texts args ns) codes
given_end args ns i book codes l g =
    let all : take i ns ≡ ns = take_all i ns l in
    let every : take i codes ≡ codes =
    take_all i codes (let c = g.count in omega (arith, c, l)) in
    let done = g.done in
    rw (all, every) at done

module _ (args : List Text) (ns : List Need) (i : ℕ) (d : Need) (l : i < length ns) (now : Pairs)
    (codes : List ℕ) (g : AreGiven args ns i now codes) where
  within : i < length codes
  within = let c = g.count in omega (arith, c, l)

  abbrev text : Text
  text = slice_index_or args (get_or ns i d).arg []

  parts : get_or codes i 0 ∷ drop (i + 1) codes ≡
      unwrap_or (code_of now text) no_code ∷ marked now (own_texts args (drop (i + 1) ns))
  parts =
      sym (from_place codes i 0 within) ∙ g.left
      ∙ ap (marked now) (own_first args ns i d l)

  code_here : get_or codes i 0 ≡ unwrap_or (code_of now text) no_code
  code_here = let p = parts in cc

  later : drop (i + 1) codes ≡ marked now (own_texts args (drop (i + 1) ns))
  later = let p = parts in cc

  -- a text with a mark has no code
  pub mark_none : ((t : Text) (c : ℕ) → code_of now t ≡ Some c → c < no_code) →
      get_or codes i 0 ≡ no_code → code_of now text ≡ None
  mark_none small is = by_code (code_of now text) refl (sym code_here ∙ is)
    where
      by_code : (o : Option ℕ) → code_of now text ≡ o → unwrap_or o no_code ≡ no_code → o ≡ None
      by_code None e k = refl
      by_code (Some c) e k = absurd (let s = small text c e in omega (arith, s, k))

  -- and one with another number has it
  pub no_mark : (get_or codes i 0 ≡ no_code → ⊥) → code_of now text ≡ Some (get_or codes i 0)
  no_mark other = by_code (code_of now text) refl code_here
    where
      by_code : (o : Option ℕ) → code_of now text ≡ o →
          get_or codes i 0 ≡ unwrap_or o no_code → code_of now text ≡ Some (get_or codes i 0)
      by_code None e k = absurd (other k)
      by_code (Some c) e k = e ∙ ap (λ (j : ℕ). Some j) (sym k)

  -- a text that has a code is passed over
  pub given_skip : (get_or codes i 0 ≡ no_code → ⊥) → AreGiven args ns (i + 1) now codes
  given_skip other = record {
    count = g.count;
    done = rw (own_last args ns i d l, take_more codes i 0 within)
        (have_more now (own_texts args (take i ns)) (text ∷ []) (take i codes)
        (get_or codes i 0 ∷ []) g.done (have_one now text (get_or codes i 0) (no_mark other)));
    left = later;
  }

  -- a new one gets its code
  pub given_put : (c : ℕ) (after : Pairs) → code_of now text ≡ None → Adds now text c after →
      ¬ Has (own_texts args (drop (i + 1) ns)) text → AreGiven args ns (i + 1) after (set codes i c)
  given_put c after none a apart = record {
    count = length-set codes i c ∙ g.count;
    done = rw (own_last args ns i d l, take_more_set codes i c within)
        (have_more after (own_texts args (take i ns)) (text ∷ []) (take i codes) (c ∷ [])
        (have_same now after (own_texts args (take i ns)) (take i codes)
        (added_stays now after text c none a) g.done)
        (have_one after text c (added_own now after text c none a)));
    left = drop-set-lt (i + 1) codes i c (omega arith) ∙ later
        ∙ sym (marked_other now after text c none a (own_texts args (drop (i + 1) ns)) apart);
  }
