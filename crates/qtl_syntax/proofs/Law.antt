-- The parser's answer is the one that the grammar and its two prefix relations give.
use Rattle.std.proofs.Common.{◌≡◌, ℕ, ◌+◌, ◌<◌, ◌≤◌, List, [], ◌∷◌, ◌++◌, length, append_assoc, append-nil, Option, Some, None, Bool, true, false, max, refl, sym, ap, ◌∙◌, subst, arith}
use Rattle.qtl_syntax.specs.declared.token.Sign.TheVariants as sign
use Rattle.qtl_syntax.specs.declared.token.Token.{Token}
use Rattle.qtl_syntax.specs.declared.token.Token.TheVariants.{Number, Sign}
use Rattle.qtl_syntax.specs.Tree.{Text, Item}
use Rattle.qtl_syntax.specs.Grammar.{Head, item, Spells}
use Rattle.qtl_syntax.specs.Machine.{State, Bracket, OfNumber, next, finish, least, option_next, Measured}
use Rattle.qtl_syntax.specs.Reading.{Spot, Start, Inside, Place, begun, moved, spot_next, place_next, next_place, Read, ended, reading, beginning, least_in, least_of, run}
use Rattle.std.specs.Prelude.{nat_le, if◌then◌else◌, take, slice_get, get_or, ◌⊎◌}
use Rattle.std.proofs.Common.{inl, inr}
use Rattle.std.proofs.Math.Seq.{take-append_seam, get_or-append_seam}
use Rattle.std.proofs.lemmas.Option.{slice_get_read, slice_get_within}
use Rattle.std.proofs.lemmas.List.{length-append}
use Rattle.std.proofs.lemmas.Bool.{leb-true, ltb-true, lt-ltb}
use Rattle.std.proofs.lemmas.Bool.Decides.{nat_tests}
use Rattle.qtl_syntax.specs.declared.token.Sign.{Sign as TheSign}
use Rattle.qtl_syntax.specs.Grammar.{decimal_from}
use Rattle.qtl_syntax.specs.Places.{BeginsWithin, BeginsLow, IsSpecification, Refusal, Syntax, TooDeep, BoundTooLarge, IsTooLarge, IsRefusedAt, IsRefused}
use Rattle.qtl_syntax.specs.Judge.{Verdict, Good, Bad, is_large, judged_on, ending, judge}
use Rattle.qtl_syntax.proofs.Sound.{compare}
use Rattle.qtl_syntax.proofs.Least.{finish_height}
use Rattle.qtl_syntax.proofs.CompleteItems.{none, was_some, complete_items}
use Rattle.qtl_syntax.proofs.SoundItems.{SpotRead, sound_items, spells_higher}
use Rattle.qtl_syntax.proofs.Reach.{begins_reached, reached_begins, reached_read, begins_higher, run_one}

one_longer : (a : List Token) (t : Token) → length (a ++ t ∷ []) ≡ length a + 1
one_longer a t = simp length-append (refl)

take_front : (a b : List Token) (n : ℕ) → n ≡ length a → take n (a ++ b) ≡ a
take_front a b n e = rw e (take-append_seam a b)

take_more : (a b : List Token) (t : Token) (n : ℕ) → n ≡ length a → take (n + 1) (a ++ (t ∷ b)) ≡ a ++ t ∷ []
take_more a b t n e =
    let l : n + 1 ≡ length (a ++ t ∷ []) = ap (λ m. m + 1) e ∙ sym (one_longer a t) in
    ap (take (n + 1)) (sym (append_assoc a (t ∷ []) b)) ∙ take_front (a ++ t ∷ []) b (n + 1) l

within : (a b : List Token) (t : Token) (n : ℕ) → n ≡ length a → n < length (a ++ (t ∷ b))
within a b t n e = let l = length-append a (t ∷ b) in omega (arith, l)

there : (a b : List Token) (t : Token) (n : ℕ) → n ≡ length a → slice_get (a ++ (t ∷ b)) n ≡ Some t
there a b t n e =
    let h = within a b t n e in
    let g : t ≡ get_or (a ++ (t ∷ b)) n t = rw e (sym (get_or-append_seam a t b t)) in
    slice_get_read (a ++ (t ∷ b)) (length (a ++ (t ∷ b))) n t refl h g

-- the last token of some
pub record Last (ts : List Token) : Type 0 where
  pub front : List Token
  pub last : Token
  pub whole : ts ≡ front ++ last ∷ []

last_of : (t : Token) (ts : List Token) → Last (t ∷ ts)
last_of t [] = record { front = []; last = t; whole = refl }
last_of t (u ∷ ts) = let x = last_of u ts in record { front = t ∷ x.front; last = x.last; whole = ap (λ v. t ∷ v) x.whole }

last_at : (ts : List Token) (i : ℕ) → length ts ≡ i + 1 → Last ts
last_at [] i e = absurd (omega arith)
last_at (t ∷ ts) i e = last_of t ts

-- only the number of a bound comes behind <= or >
abbrev pub WantsNumber : Spot → Type 0
WantsNumber (Inside head (OfNumber frames w most)) = Unit {0}
WantsNumber _ = ⊥

abbrev pub IsCompare : Token → Type 0
IsCompare (Sign sign.AtMost) = Unit {0}
IsCompare (Sign sign.MoreThan) = Unit {0}
IsCompare _ = ⊥

compared_state : (s : State) (t : Token) (s' : State) (head : Head) → IsCompare t → next s t ≡ Some s' → WantsNumber (Inside head s')
compared_state (Bracket frames w) (Sign sign.AtMost) s' head c e = rw (was_some _ _ e) tt
compared_state (Bracket frames w) (Sign sign.MoreThan) s' head c e = rw (was_some _ _ e) tt
compared_state s (Sign sign.AtMost) s' head c e = none s' e
compared_state s (Sign sign.MoreThan) s' head c e = none s' e
compared_state s t s' head c e = absurd c

compared_inside : (o : Option State) (head : Head) (s : State) (t : Token) (spot : Spot) → IsCompare t → next s t ≡ o → option_next o (λ r. Some (Inside head r)) ≡ Some spot → WantsNumber spot
compared_inside None head s t spot c n e = none spot e
compared_inside (Some s') head s t spot c n e = rw (was_some _ _ e) (compared_state s t s' head c n)

compared_spot : (spot : Spot) (t : Token) (spot' : Spot) → IsCompare t → spot_next spot t ≡ Some spot' → WantsNumber spot'
compared_spot (Inside head s) t spot' c e = compared_inside (next s t) head s t spot' c refl e
compared_spot spot (Sign sign.AtMost) spot' c e = none spot' e
compared_spot spot (Sign sign.MoreThan) spot' c e = none spot' e
compared_spot spot t spot' c e = absurd c

compared_moved : (o : Option Spot) (p : Place) (spot : Spot) (t : Token) (q : Place) → IsCompare t → spot_next spot t ≡ o → option_next o (λ r. Some (moved p r)) ≡ Some q → WantsNumber q.spot
compared_moved None p spot t q c n e = none q e
compared_moved (Some r) p spot t q c n e = rw (was_some _ _ e) (compared_spot spot t r c n)

pub compared_place : (p : Place) (spot : Spot) (t : Token) (q : Place) → IsCompare t → place_next p spot t (begun t) ≡ Some q → WantsNumber q.spot
compared_place p (Inside head s) (Sign sign.AtMost) q c e = compared_moved (spot_next (Inside head s) (Sign sign.AtMost)) p (Inside head s) (Sign sign.AtMost) q c refl e
compared_place p (Inside head s) (Sign sign.MoreThan) q c e = compared_moved (spot_next (Inside head s) (Sign sign.MoreThan)) p (Inside head s) (Sign sign.MoreThan) q c refl e
compared_place p spot (Sign sign.AtMost) q c e = compared_moved (spot_next spot (Sign sign.AtMost)) p spot (Sign sign.AtMost) q c refl e
compared_place p spot (Sign sign.MoreThan) q c e = compared_moved (spot_next spot (Sign sign.MoreThan)) p spot (Sign sign.MoreThan) q c refl e
compared_place p spot t q c e = absurd c

large : (spot : Spot) (n : Text) → WantsNumber spot → 1048574 < decimal_from 0 n → is_large spot (Number n) ≡ true
large (Inside head (OfNumber frames w most)) n c h = lt-ltb 1048574 (decimal_from 0 n) h
large _ n c h = absurd c

pub run_front : (a b : List Token) (p q : Place) → run p (a ++ b) ≡ Some q → (r : Place) × (run p a ≡ Some r)
run_front [] b p q e = (p, refl)
run_front (t ∷ a) b p q e = front_step (next_place p t) a b q e (λ r h. run_front a b r q h)
  where
    front_step : (o : Option Place) (a b : List Token) (q : Place) → option_next o (λ r. run r (a ++ b)) ≡ Some q →
        ((r : Place) → run r (a ++ b) ≡ Some q → (x : Place) × (run r a ≡ Some x)) → (x : Place) × (option_next o (λ r. run r a) ≡ Some x)
    front_step None a b q e go = none q e
    front_step (Some r) a b q e go = go r e

reading_run : (a b : List Token) (p q : Place) → run p a ≡ Some q → reading p (a ++ b) ≡ reading q b
reading_run [] b p q e = ap (λ r. reading r b) (sym (was_some _ _ e))
reading_run (t ∷ a) b p q e = reading_step (next_place p t) a b q e (λ r h. reading_run a b r q h)
  where
    reading_step : (o : Option Place) (a b : List Token) (q : Place) → option_next o (λ r. run r a) ≡ Some q → ((r : Place) → run r a ≡ Some q → reading r (a ++ b) ≡ reading q b) →
        option_next o (λ r. reading r (a ++ b)) ≡ reading q b
    reading_step None a b q e go = none q e
    reading_step (Some r) a b q e go = go r e

-- what a large number stands behind
pub record LargeRead (ts : List Token) (t : Token) : Type 0 where
  pub front : List Token
  pub before : TheSign
  pub digits : Text
  pub whole : ts ≡ front ++ Sign before ∷ []
  pub number : t ≡ Number digits
  pub is_compare : (before ≡ sign.AtMost) ⊎ (before ≡ sign.MoreThan)
  pub large : 1048574 < decimal_from 0 digits

compares : (most : Bool) → (compare most ≡ sign.AtMost) ⊎ (compare most ≡ sign.MoreThan)
compares true = inl refl
compares false = inr refl

large_read : (spot : Spot) (t : Token) (ts : List Token) → SpotRead spot ts → is_large spot t ≡ true → LargeRead ts t
large_read (Inside head (OfNumber frames w most)) (Number x) ts r e =
    let u = r.0 in
    let a = r.4.0 in
    let p : ts ≡ (u ++ (a ++ Sign sign.LeftBracket ∷ [])) ++ Sign (compare most) ∷ [] = rw (r.2, r.4.1, append_assoc, append_assoc) refl in
    record { front = u ++ (a ++ Sign sign.LeftBracket ∷ []); before = compare most; digits = x; whole = p; number = refl; is_compare = compares most; large = ltb-true 1048574 (decimal_from 0 x) e }
large_read _ t ts r e = cc

too_large : (before rest : List Token) (t : Token) (p : Place) (n : ℕ) → n ≡ length before → run beginning before ≡ Some p → is_large p.spot t ≡ true → IsTooLarge (before ++ (t ∷ rest)) n
too_large before rest t p n l e g =
    let r = reached_read before p e in
    let x = large_read p.spot t r.1 r.4 g in
    let z = r.0 ++ x.front in
    let w : before ≡ z ++ Sign x.before ∷ [] = r.2 ∙ (ap (λ v. r.0 ++ v) x.whole ∙ sym (append_assoc r.0 x.front (Sign x.before ∷ []))) in
    let i : n ≡ length z + 1 = l ∙ (ap length w ∙ one_longer z (Sign x.before)) in
    let back : before ++ (t ∷ rest) ≡ z ++ (Sign x.before ∷ (t ∷ rest)) = ap (λ v. v ++ (t ∷ rest)) w ∙ append_assoc z (Sign x.before ∷ []) (t ∷ rest) in
    let one = ap (λ v. slice_get v (length z)) back ∙ there z (t ∷ rest) (Sign x.before) (length z) refl in
    let two = there before rest t n l ∙ ap Some x.number in
    (x.digits, x.before, length z, i, one, x.is_compare, two, x.large)

pub is_compare : (s : TheSign) → ((s ≡ sign.AtMost) ⊎ (s ≡ sign.MoreThan)) → IsCompare (Sign s)
is_compare s (inl e) = rw e tt
is_compare s (inr e) = rw e tt

not_large : (before rest : List Token) (t : Token) (p : Place) (n : ℕ) → n ≡ length before → run beginning before ≡ Some p → is_large p.spot t ≡ false → IsTooLarge (before ++ (t ∷ rest)) n → ⊥
not_large before rest t p n l e g x =
    let b = last_at before x.2 (sym l ∙ x.3) in
    let longer : length before ≡ length b.front + 1 = ap length b.whole ∙ one_longer b.front b.last in
    let n_is : n ≡ x.2 + 1 = x.3 in
    let i : x.2 ≡ length b.front = omega arith in
    let back : before ++ (t ∷ rest) ≡ b.front ++ (b.last ∷ (t ∷ rest)) = ap (λ v. v ++ (t ∷ rest)) b.whole ∙ append_assoc b.front (b.last ∷ []) (t ∷ rest) in
    let one = there b.front (t ∷ rest) b.last x.2 i in
    let sign_is : Some b.last ≡ Some (Sign x.1) = sym one ∙ (ap (λ v. slice_get v x.2) (sym back) ∙ x.4) in
    let number_is : Some t ≡ Some (Number x.0) = sym (there before rest t n l) ∙ x.6 in
    let last_is : b.last ≡ Sign x.1 = sym (was_some _ _ sign_is) in
    let t_is : t ≡ Number x.0 = sym (was_some _ _ number_is) in
    let run_is : run beginning (b.front ++ b.last ∷ []) ≡ Some p = ap (run beginning) (sym b.whole) ∙ e in
    let f = run_front b.front (b.last ∷ []) beginning p run_is in
    let step : next_place f.0 b.last ≡ Some p = sym (run_one b.front b.last beginning f.0 f.1) ∙ run_is in
    let wants = compared_place f.0 f.0.spot b.last p (rw last_is (is_compare x.1 x.5)) step in
    let yes : is_large p.spot t ≡ true = rw t_is (large p.spot x.0 wants x.7) in
    let no : true ≡ false = sym yes ∙ g in
    cc

-- no rule holds before this place
abbrev pub Clear : List Token → ℕ → Type 0
Clear ts n = (other : Refusal) (place : ℕ) → IsRefusedAt ts other place → n ≤ place

-- what the answer says
abbrev pub Answers : List Token → Verdict → Type 0
Answers ts (Good r) = Spells 256 ts r.0 × ((other : Refusal) (place : ℕ) → ¬ IsRefusedAt ts other place)
Answers ts (Bad refusal at) = IsRefused ts refusal at

ended_item_height : (o : Option Measured) (p : Place) (head : Head) (s : State) (r : Read) → finish s ≡ o →
    option_next o (λ m. Some (p.items ++ item head m.0 ∷ [], max p.tallest m.1)) ≡ Some r → r.1 ≡ max p.tallest (least s)
ended_item_height None p head s r n e = none r e
ended_item_height (Some m) p head s r n e = let h = finish_height s m n in rw (was_some _ _ e, h) refl

ended_height : (p : Place) (spot : Spot) (r : Read) → ended p spot ≡ Some r → r.1 ≡ max p.tallest (least_in spot)
ended_height p Start r e = let g : p.tallest ≡ max p.tallest 0 = omega arith in rw (was_some _ _ e) g
ended_height p (Inside head s) r e = ended_item_height (finish s) p head s r refl e
ended_height p _ r e = none r e

at_the_end : (o : Option Read) (ts : List Token) (p : Place) (n : ℕ) → n ≡ length ts → run beginning ts ≡ Some p → least_of p ≤ 256 → Clear ts n → ended p p.spot ≡ o → Answers ts (ending n o)
at_the_end None ts p n l e h c q = record {
  there = inr (
    l,
    (least_of p, reached_begins ts p e),
    λ x.
        let y = complete_items x.1 x.0 ts x.2 [] 0 in
        let no : None ≡ Some ([] ++ x.1, y.0) = sym q ∙ (sym (reading_run ts [] beginning p e) ∙ (ap (reading beginning) (append-nil ts) ∙ y.2)) in
        none _ no,
  );
  least = c;
}
at_the_end (Some r) ts p n l e h c q =
    let height : r.1 ≡ least_of p = ended_height p p.spot r q in
    let s = sound_items [] p r ts (reached_read ts p e) q in
    let s' : Spells r.1 ts r.0 = subst (λ v. Spells r.1 v r.0) (append-nil ts) s in
    (spells_higher r.1 256 (omega arith) ts r.0 s', λ other place x. never_after ts n l (r.1, r.0, s') c other place x)
  where
    never_after : (ts : List Token) (n : ℕ) → n ≡ length ts → IsSpecification ts → Clear ts n → (other : Refusal) (place : ℕ) → IsRefusedAt ts other place → ⊥
    never_after ts n l s c Syntax place (inl x) = let g = c Syntax place (inl x) in let x0 = x.0 in omega arith
    never_after ts n l s c Syntax place (inr x) = x.2 s
    never_after ts n l s c TooDeep place x = let g = c TooDeep place x in let x0 = x.0 in omega arith
    never_after ts n l s c BoundTooLarge place x = let g = c BoundTooLarge place x in let y = slice_get_within ts place (Number x.0) x.6 in omega arith

begins_none : (before : List Token) (t : Token) (p : Place) (h : ℕ) → run beginning before ≡ Some p → next_place p t ≡ None → BeginsWithin h (before ++ t ∷ []) → ⊥
begins_none before t p h e n b =
    let x = begins_reached h (before ++ t ∷ []) b in
    let no : None ≡ Some x.0 = sym n ∙ (sym (run_one before t beginning p e) ∙ x.1) in
    none _ no

pub reached_one : (before : List Token) (t : Token) (p q : Place) → run beginning before ≡ Some p → next_place p t ≡ Some q → run beginning (before ++ t ∷ []) ≡ Some q
reached_one before t p q e n = run_one before t beginning p e ∙ n

lowest : (ts : List Token) (q : Place) (h : ℕ) → run beginning ts ≡ Some q → BeginsWithin h ts → least_of q ≤ h
lowest ts q h e b =
    let x = begins_reached h ts b in
    let same : Some q ≡ Some x.0 = sym e ∙ x.1 in
    let x2 : least_of x.0 ≤ h = x.2 in
    let q_is : x.0 ≡ q = was_some _ _ same in
    subst (λ z. least_of z ≤ h) q_is x2

-- one token more leaves the rules not met
still_clear : (before rest : List Token) (t : Token) (p q : Place) (n : ℕ) → n ≡ length before → run beginning before ≡ Some p → next_place p t ≡ Some q → least_of q ≤ 256 → is_large p.spot t ≡ false →
    Clear (before ++ (t ∷ rest)) n → Clear (before ++ (t ∷ rest)) (n + 1)
still_clear before rest t p q n l e s h g c other place x =
    let a = c other place x in
    later n place a (λ same. not_here before rest t p q n l e s h g other (subst (λ z. IsRefusedAt (before ++ (t ∷ rest)) other z) (sym same) x))
  where
    later : (n place : ℕ) → n ≤ place → (n ≡ place → ⊥) → n + 1 ≤ place
    later n place h f = grind arith

    not_here : (before rest : List Token) (t : Token) (p q : Place) (n : ℕ) → n ≡ length before → run beginning before ≡ Some p → next_place p t ≡ Some q → least_of q ≤ 256 → is_large p.spot t ≡ false →
        (other : Refusal) → IsRefusedAt (before ++ (t ∷ rest)) other n → ⊥
    not_here before rest t p q n l e s h g Syntax (inl x) = x.2 (least_of q, subst (BeginsWithin (least_of q)) (sym (take_more before rest t n l)) (reached_begins (before ++ t ∷ []) q (reached_one before t p q e s)))
    not_here before rest t p q n l e s h g Syntax (inr x) = let i = within before rest t n l in let x0 = x.0 in omega arith
    not_here before rest t p q n l e s h g TooDeep x =
        x.3 (subst BeginsLow (sym (take_more before rest t n l)) (begins_higher (least_of q) 256 h (before ++ t ∷ []) (reached_begins (before ++ t ∷ []) q (reached_one before t p q e s))))
    not_here before rest t p q n l e s h g BoundTooLarge x = not_large before rest t p n l e g x

judged_step : (o : Option Place) (big : Bool) (before rest : List Token) (t : Token) (p : Place) (n : ℕ) → n ≡ length before → run beginning before ≡ Some p → least_of p ≤ 256 → Clear (before ++ (t ∷ rest)) n →
    next_place p t ≡ o → is_large p.spot t ≡ big →
    ((q : Place) → next_place p t ≡ Some q → least_of q ≤ 256 → Clear (before ++ (t ∷ rest)) (n + 1) → Answers (before ++ (t ∷ rest)) (judge q (n + 1) rest)) →
    Answers (before ++ (t ∷ rest)) (judged_on n big o (λ q. judge q (n + 1) rest))
judged_step None big before rest t p n l e h c s g go = record {
  there = inl (
    within before rest t n l,
    (least_of p, subst (BeginsWithin (least_of p)) (sym (take_front before (t ∷ rest) n l)) (reached_begins before p e)),
    λ x. begins_none before t p x.0 e s (subst (BeginsWithin x.0) (take_more before rest t n l) x.1),
  );
  least = c;
}
judged_step (Some q) true before rest t p n l e h c s g go = record { there = too_large before rest t p n l e g; least = c }
judged_step (Some q) false before rest t p n l e h c s g go =
    either (λ v. Answers (before ++ (t ∷ rest)) v) (nat_le (least_of q) 256) (judge q (n + 1) rest) (Bad TooDeep n)
    (λ low. let small = leb-true (least_of q) 256 low in go q s small (still_clear before rest t p q n l e s small g c))
    (λ high. record {
      there = (
        within before rest t n l,
        subst BeginsLow (sym (take_front before (t ∷ rest) n l)) (begins_higher (least_of p) 256 h before (reached_begins before p e)),
        (least_of q, subst (BeginsWithin (least_of q)) (sym (take_more before rest t n l)) (reached_begins (before ++ t ∷ []) q (reached_one before t p q e s))),
        λ x. let low = lowest (before ++ t ∷ []) q 256 (reached_one before t p q e s) (subst BeginsLow (take_more before rest t n l) x) in too_high (least_of q) low high,
      );
      least = c;
    })
  where
    either : (P : Verdict → Type 0) (b : Bool) (x y : Verdict) → (b ≡ true → P x) → (b ≡ false → P y) → P (if b then x else y)
    either P true x y f g = f refl
    either P false x y f g = g refl

    too_high : (k : ℕ) → k ≤ 256 → nat_le k 256 ≡ false → ⊥
    too_high k h e = grind (arith, nat_tests)

judge_from : (rest before : List Token) (p : Place) (n : ℕ) → n ≡ length before → run beginning before ≡ Some p → least_of p ≤ 256 → Clear (before ++ rest) n → Answers (before ++ rest) (judge p n rest)
judge_from [] before p n l e h c =
    subst (λ v. Answers v (ending n (ended p p.spot))) (sym (append-nil before))
    (at_the_end (ended p p.spot) before p n l e h (subst (λ v. Clear v n) (append-nil before) c) refl)
judge_from (t ∷ rest) before p n l e h c =
    judged_step (next_place p t) (is_large p.spot t) before rest t p n l e h c refl refl
    (λ q s small clear. subst (λ v. Answers v (judge q (n + 1) rest)) (append_assoc before (t ∷ []) rest)
    (judge_from rest (before ++ t ∷ []) q (n + 1) (ap (λ m. m + 1) l ∙ sym (one_longer before t)) (reached_one before t p q e s) small
    (subst (λ v. Clear v (n + 1)) (sym (append_assoc before (t ∷ []) rest)) clear)))

-- the answer is right: the one specification that is spelled, or the least place at which a rule holds
pub judge_right : (ts : List Token) → Answers ts (judge beginning 0 ts)
judge_right ts = judge_from ts [] beginning 0 refl refl (omega arith) (λ other place x. omega arith)

-- the tokens spell at most one specification
pub one_specification : (h k : ℕ) (ts : List Token) (items others : List Item) → Spells h ts items → Spells k ts others → items ≡ others
one_specification h k ts items others s t =
    let x = complete_items items h ts s [] 0 in
    let y = complete_items others k ts t [] 0 in
    let e : Some (items, x.0) ≡ Some (others, y.0) = sym x.2 ∙ y.2 in
    ap (λ p. p.0) (sym (was_some (items, x.0) (others, y.0) e))
