-- What the files tell of uses, one after the other.
use Rattle.std.proofs.Common.{◌≡◌, List, [], ◌∷◌, ◌++◌, refl, sym, ap, ◌∙◌, subst, append_assoc, append-nil, Bool}
use Rattle.std.proofs.lemmas.List.{map-append}
use Rattle.std.specs.Prelude.{Option, Some, None, IfSome}
use Rattle.mon_base.specs.Told.{Stays, Gains, GainsTold}
use Rattle.qtl_syntax.specs.Tree.{Text}
use Rattle.run_model.specs.Uses.{Gained, Fate, NotGiven, Closed, Use, names_in, hurt_by, hurt_in, told_first, left_by, left_in, TellUses}

-- Lists that are told

pub gained_none : {T : Type 0} (a : Option (List T)) → Gained a a []
gained_none None = tt
gained_none (Some xs) = sym (append-nil xs)

pub gained_trans : {T : Type 0} (a b c : Option (List T)) (xs ys : List T) → Gained a b xs → Gained b c ys → Gained a c (xs ++ ys)
gained_trans None b c xs ys h k = tt
gained_trans (Some told) None c xs ys h k = absurd h
gained_trans (Some told) (Some now) None xs ys h k = k
gained_trans (Some told) (Some now) (Some later) xs ys h k = k ∙ ap (λ l. l ++ ys) h ∙ append_assoc told xs ys

pub stays_gained : {T : Type 0} (a b : Option (List T)) → Stays a b → Gained a b []
stays_gained None b h = tt
stays_gained (Some xs) None h = h
stays_gained (Some xs) (Some ys) h = h ∙ sym (append-nil xs)

gains_gained : {T : Type 0} (a b : Option (List T)) (x : T) → Gains a b x → Gained a b (x ∷ [])
gains_gained None b x h = tt
gains_gained (Some xs) None x h = h
gains_gained (Some xs) (Some ys) x h = h

-- one that stays, and then grows by one, and one that grows by one, and then stays
later_gained : {T : Type 0} (a b c : Option (List T)) (x : T) → Stays a b → Gains b c x → Gained a c (x ∷ [])
later_gained a b c x h k = gained_trans a b c [] (x ∷ []) (stays_gained a b h) (gains_gained b c x k)

first_gained : {T : Type 0} (a b c : Option (List T)) (x : T) → Gains a b x → Stays b c → Gained a c (x ∷ [])
first_gained a b c x h k = gained_trans a b c (x ∷ []) [] (gains_gained a b x h) (stays_gained b c k)

-- Maps of the trace

hurt_next : (c : Fate) (xs ys zs : List Bool) → zs ≡ xs ++ ys → hurt_by c zs ≡ hurt_by c xs ++ ys
hurt_next NotGiven xs ys zs h = h
hurt_next (Closed hurt left) xs ys zs h = ap (λ (l : List Bool). hurt ∷ l) h

pub hurt_append : (us vs : List Use) → hurt_in (us ++ vs) ≡ hurt_in us ++ hurt_in vs
hurt_append [] vs = refl
hurt_append (u ∷ us) vs = hurt_next u.came (hurt_in us) (hurt_in vs) (hurt_in (us ++ vs)) (hurt_append us vs)

-- both told
abbrev pub joined : Option (List Text) → Option (List Text) → Option (List Text)
joined (Some xs) (Some ys) = Some (xs ++ ys)
joined _ _ = None

left_more : (left : Option Text) (a b : Option (List Text)) → told_first left (joined a b) ≡ joined (told_first left a) b
left_more None None b = refl
left_more None (Some xs) b = refl
left_more (Some text) None b = refl
left_more (Some text) (Some xs) None = refl
left_more (Some text) (Some xs) (Some ys) = refl

left_next : (c : Fate) (a b all : Option (List Text)) → all ≡ joined a b → left_by c all ≡ joined (left_by c a) b
left_next NotGiven a b all h = h
left_next (Closed hurt left) a b all h = ap (λ (o : Option (List Text)). told_first left o) h ∙ left_more left a b

pub left_append : (us vs : List Use) → left_in (us ++ vs) ≡ joined (left_in us) (left_in vs)
left_append [] vs = go (left_in vs) where
  go : (o : Option (List Text)) → o ≡ joined (Some []) o
  go None = refl
  go (Some xs) = refl
left_append (u ∷ us) vs = left_next u.came (left_in us) (left_in vs) (left_in (us ++ vs)) (left_append us vs)

joined_gained : (a b : Option (List Text)) (o p q : Option (List Text)) → IfSome a (λ l. Gained o p l) → IfSome b (λ l. Gained p q l) → IfSome (joined a b) (λ l. Gained o q l)
joined_gained None b o p q h k = tt
joined_gained (Some xs) None o p q h k = tt
joined_gained (Some xs) (Some ys) o p q h k = gained_trans o p q xs ys h k

-- Uses

-- none
pub tell_none : (o : Option (List Text)) (h : Option (List Bool)) (u : Option (List Text)) → TellUses [] o o h h u u
tell_none o h u = record { opened = gained_none o; hurt = gained_none h; unread = gained_none u }

-- one after the other: all that the files tell of a run comes from this
pub tell_trans : (us vs : List Use) (o0 o1 o2 : Option (List Text)) (h0 h1 h2 : Option (List Bool)) (u0 u1 u2 : Option (List Text)) → TellUses us o0 o1 h0 h1 u0 u1 → TellUses vs o1 o2 h1 h2 u1 u2 →
    TellUses (us ++ vs) o0 o2 h0 h2 u0 u2
tell_trans us vs o0 o1 o2 h0 h1 h2 u0 u1 u2 a b =
    record {
      opened = subst (λ (l : List Text). Gained o0 o2 l) (sym (map-append (λ u. u.name) us vs)) (gained_trans o0 o1 o2 (names_in us) (names_in vs) a.opened b.opened);
      hurt = subst (λ (l : List Bool). Gained h0 h2 l) (sym (hurt_append us vs)) (gained_trans h0 h1 h2 (hurt_in us) (hurt_in vs) a.hurt b.hurt);
      unread = subst (λ (l : Option (List Text)). IfSome l (λ x. Gained u0 u2 x)) (sym (left_append us vs)) (joined_gained (left_in us) (left_in vs) u0 u1 u2 a.unread b.unread);
    }

-- an open that gave no source
pub tell_refused : (name : Text) (o0 o1 : Option (List Text)) (h0 h1 : Option (List Bool)) (u0 u1 : Option (List Text)) → Gains o0 o1 name → Stays h0 h1 → Stays u0 u1 →
    TellUses (record { name = name; came = NotGiven } ∷ []) o0 o1 h0 h1 u0 u1
tell_refused name o0 o1 h0 h1 u0 u1 o h u = record { opened = gains_gained o0 o1 name o; hurt = stays_gained h0 h1 h; unread = stays_gained u0 u1 u }

-- an open and a close
pub tell_closed : (name : Text) (hurt : Bool) (left : Option Text) (o0 o1 o2 : Option (List Text)) (h0 h1 h2 : Option (List Bool)) (u0 u1 u2 : Option (List Text)) →
    Gains o0 o1 name → Stays o1 o2 → Stays h0 h1 → Gains h1 h2 hurt → Stays u0 u1 → GainsTold u1 u2 left → TellUses (record { name = name; came = Closed hurt left } ∷ []) o0 o2 h0 h2 u0 u2
tell_closed name hurt None o0 o1 o2 h0 h1 h2 u0 u1 u2 a b c d e f =
    record { opened = first_gained o0 o1 o2 name a b; hurt = later_gained h0 h1 h2 hurt c d; unread = tt }
tell_closed name hurt (Some left) o0 o1 o2 h0 h1 h2 u0 u1 u2 a b c d e f =
    record { opened = first_gained o0 o1 o2 name a b; hurt = later_gained h0 h1 h2 hurt c d; unread = later_gained u0 u1 u2 left e f }
