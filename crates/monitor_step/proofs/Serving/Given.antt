-- Codes are given to texts one after the other.
use Rattle.std.proofs.Common.{◌≡◌, ℕ, ◌+◌, ◌-◌, ◌^◌, ◌<◌, ◌∙◌, [], ◌∷◌, List, length, inl, inr, refl, sym, ap, subst, arith, Option, Some, None}
use Rattle.std.specs.Prelude.{bytes_eq, is_some, if◌then◌else◌}
use Rattle.qtl_syntax.specs.Tree.{Text}
use Rattle.subformulas.specs.Texts.{Has}
use Rattle.value_codes.specs.Pairs.{Pairs, Contents, code_of, IsBook, IsPaired, Adds}
use Rattle.value_codes.proofs.Lookups.{Tells, texts_tell}
use Rattle.monitor_model.specs.Books.{AllApart, Gives, without_code}
use Rattle.monitor_model.specs.State.{SameCodes}
use Rattle.monitor_model.proofs.Books.Order.{same_least, added_same}
use Rattle.monitor_step.specs.Giving.{GivesAll, Takes}

-- a text that has a code changes nothing, and another one takes the least that is free
abbrev pub GivesTo : (bits : ℕ) → Text → (before after : Pairs) → Option ℕ → Type 0
GivesTo bits t before after None = (c : ℕ) × Takes bits t c before after
GivesTo bits t before after (Some c) = after ≡ before

abbrev pub GivesOne : (bits : ℕ) → Text → (before after : Pairs) → Type 0
GivesOne bits t before after = GivesTo bits t before after (code_of before t)

pub gives_nothing : (bits : ℕ) (t : Text) (c : ℕ) (book : Pairs) → code_of book t ≡ Some c → GivesOne bits t book book
gives_nothing bits t c book e = subst (GivesTo bits t book book) (sym e) refl

pub gives_code : (bits : ℕ) (t : Text) (c : ℕ) (before after : Pairs) → code_of before t ≡ None → Takes bits t c before after → GivesOne bits t before after
gives_code bits t c before after e k = subst (GivesTo bits t before after) (sym e) (c, k)

-- of each book with the same codes as before there is one with the same codes as now, and what the rest of the texts
-- makes of it all of them make of the first
abbrev pub GivenUpTo : (bits : ℕ) → (all : List Text) → (before : Pairs) → (rest : List Text) → (now : Pairs) → Type 0
GivenUpTo bits all before rest now =
    (book : Pairs) → IsPaired book → SameCodes before book →
    (mid : Pairs) × IsPaired mid × SameCodes now mid × ((after : Pairs) → Gives bits (without_code now rest) mid after → Gives bits (without_code before all) book after)

pub given_first : (bits : ℕ) (all : List Text) (before : Pairs) → GivenUpTo bits all before all before
given_first bits all before book p h = (book, p, h, λ after g. g)

pub given_last : (bits : ℕ) (all : List Text) (before now : Pairs) → GivenUpTo bits all before [] now → GivesAll bits all before now
given_last bits all before now h book p s = let (mid, q, r, g) = h book p s in (mid, g mid refl, r)

-- a code that is given to another text changes nothing
without_other : (before after : Pairs) (t : Text) (c : ℕ) → Adds before t c after → (ts : List Text) → ¬ Has ts t → without_code after ts ≡ without_code before ts
without_other before after t c a [] n = refl
without_other before after t c a (u ∷ ts) n = rw (same (texts_tell t u), without_other before after t c a ts (λ h. n (inr h))) refl
  where
    same : Tells (bytes_eq t u) (t ≡ u) → code_of after u ≡ code_of before u
    same (inl q) = absurd (n (inl (sym q.1)))
    same (inr q) = a.codes u ∙ ap (λ b. if b then Some c else code_of before u) q.0

module _ (bits : ℕ) (all : List Text) (before : Pairs) (t : Text) (rest : List Text) (now after : Pairs) (apart : AllApart (t ∷ rest)) where
  -- the next text
  pub given_more : IsPaired now → GivesOne bits t now after → GivenUpTo bits all before (t ∷ rest) now → GivenUpTo bits all before rest after
  given_more paired = by_code (code_of now t) refl
    where
      by_code : (o : Option ℕ) → code_of now t ≡ o → GivesTo bits t now after o → GivenUpTo bits all before (t ∷ rest) now → GivenUpTo bits all before rest after
      by_code (Some c) e same h book p s =
          let (mid, q, r, g) = h book p s in
          let skip : without_code now (t ∷ rest) ≡ without_code now rest = rw e refl in
          (mid, q, subst (λ b. SameCodes b mid) (sym same) r, λ last k. g last (subst (λ ts. Gives bits ts mid last) (sym skip) (subst (λ b. Gives bits (without_code b rest) mid last) same k)))
      by_code None e (c, k) h book p s =
          let (mid, q, r, g) = h book p s in
          let least = k.least in
          let below = k.below in
          let adds = k.adds in
          let new : without_code now (t ∷ rest) ≡ t ∷ without_code now rest = rw e refl in
          let free = same_least now mid c paired q r least in
          let none : code_of mid t ≡ None = sym (r t) ∙ e in (
            (t, c) ∷ mid,
            (none, free.0, q),
            added_same now mid after t c r adds,
            λ last o. g last (subst (λ ts. Gives bits ts mid last) (sym new) (c, none, free, below, subst (λ ts. Gives bits ts ((t, c) ∷ mid) last) (without_other now after t c adds rest apart.0) o)),
          )

  -- the codes that the rest still takes
  pub room_more : GivesOne bits t now after → length now + length (without_code now (t ∷ rest)) < 2 ^ bits → length after + length (without_code after rest) < 2 ^ bits
  room_more = by_code (code_of now t) refl
    where
      by_code : (o : Option ℕ) → code_of now t ≡ o → GivesTo bits t now after o → length now + length (if is_some o then without_code now rest else t ∷ without_code now rest) < 2 ^ bits →
          length after + length (without_code after rest) < 2 ^ bits
      by_code (Some c) e same l = subst (λ b. length b + length (without_code b rest) < 2 ^ bits) (sym same) l
      by_code None e (c, takes) l =
          let k = takes.adds.count in
          let m = ap (λ (ts : List Text). length ts) (without_other now after t c takes.adds rest apart.0) in
          omega (arith, k, m, l)

-- what holds while codes are given: these texts are left
pub record IsGiving (bits : ℕ) (all : List Text) (before : Pairs) (rest : List Text) (now : Contents) : Type 0 where
  pub given : GivenUpTo bits all before rest now.pairs
  pub room : length now.pairs + length (without_code now.pairs rest) < 2 ^ bits
  pub once : AllApart rest
  pub same_bits : now.bits ≡ bits
  pub sound : IsBook now

-- there is room for the next text
pub room_here : (bits : ℕ) (all : List Text) (before : Pairs) (t : Text) (ts rest : List Text) (now : Contents) → IsGiving bits all before ts now → ts ≡ t ∷ rest → code_of now.pairs t ≡ None → length now.pairs < 2 ^ now.bits - 1
room_here bits all before t ts rest now g e none =
    let l : length now.pairs + length (without_code now.pairs (t ∷ rest)) < 2 ^ bits = subst (λ us. length now.pairs + length (without_code now.pairs us) < 2 ^ bits) e g.room in
    let m : length now.pairs + length (t ∷ without_code now.pairs rest) < 2 ^ bits = rw none at l in
    rw (g.same_bits) (omega (arith, m))

pub giving_more : (bits : ℕ) (all : List Text) (before : Pairs) (t : Text) (ts rest : List Text) (now after : Contents) → IsGiving bits all before ts now → ts ≡ t ∷ rest →
    GivesOne now.bits t now.pairs after.pairs → after.bits ≡ now.bits → IsBook after → IsGiving bits all before rest after
giving_more bits all before t ts rest now after g e one same sound =
    let apart : AllApart (t ∷ rest) = subst AllApart e g.once in
    let gives : GivesOne bits t now.pairs after.pairs = subst (λ (n : ℕ). GivesOne n t now.pairs after.pairs) g.same_bits one in
    record {
      given = given_more bits all before t rest now.pairs after.pairs apart g.sound.paired gives (subst (λ us. GivenUpTo bits all before us now.pairs) e g.given);
      room = room_more bits all before t rest now.pairs after.pairs apart gives (subst (λ us. length now.pairs + length (without_code now.pairs us) < 2 ^ bits) e g.room);
      once = apart.1;
      same_bits = same ∙ g.same_bits;
      sound = sound;
    }
