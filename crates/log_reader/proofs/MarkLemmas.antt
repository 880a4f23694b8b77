-- What the mark at the start of a log does.
use Rattle.std.proofs.Common.{◌≡◌, ℕ, ◌+◌, ◌≤◌, [], ◌∷◌, ◌++◌, length, drop, refl, sym, ap, ◌∙◌, subst, arith, Bool, true, false, append-nil}
use Rattle.std.specs.Prelude.{Option, Some, None, Ok, nat_eq, ◌==◌, ◌&&◌, if◌then◌else◌}
use Rattle.std.specs.List.{starts_with}
use Rattle.std.proofs.lemmas.Bool.Decides.{nat_tests}
use Rattle.qtl_syntax.specs.Tree.{Text}
use Rattle.log_reader.specs.Lines.{lines_from}
use Rattle.log_reader.specs.Records.{cut, cut_in, mark, without_mark}
use Rattle.log_reader.specs.Marks.{mark_behind_two, mark_behind_one, mark_of, mark_length}
use Rattle.log_reader.specs.Standing.{Reading, IsLater, unmarked, left, answer, Goes}
use Rattle.log_reader.specs.declared.mark.Mark.{Mark}
use Rattle.log_reader.specs.declared.mark.Mark.TheVariants.{Whole, Begun, Missing}
use Rattle.log_reader.proofs.EndLemmas.{now, nothing_later}

other_way : (x y : ℕ) → (y == x) ≡ (x == y)
other_way x y = grind (arith, nat_tests)

-- bytes that begin with another byte than the mark
no_mark : (bytes : Text) → starts_with nat_eq bytes mark ≡ false → without_mark bytes ≡ bytes
no_mark bytes e = rw e refl

-- what is left behind the mark, whatever comes
abbrev pub Unmarks : Text → Bool → Option ℕ → Type 0
Unmarks bytes are_all None = Unit {0}
Unmarks bytes are_all (Some n) = (n ≤ length bytes) × ((more : Text) (ended : Bool) → IsLater are_all more ended → without_mark (bytes ++ more) ≡ drop n bytes ++ more)

begun_short : (bytes : Text) → starts_with nat_eq bytes mark ≡ false → (are_all : Bool) → Unmarks bytes are_all (mark_length Begun are_all)
begun_short bytes e true = (omega arith, λ more ended later. ap (λ m. without_mark (bytes ++ m)) later.0 ∙ ap without_mark (append-nil bytes) ∙ no_mark bytes e ∙ sym (append-nil bytes) ∙ ap (λ m. bytes ++ m) (sym later.0))
begun_short bytes e false = tt

missing : (bytes : Text) → ((more : Text) → starts_with nat_eq (bytes ++ more) mark ≡ false) → (are_all : Bool) → Unmarks bytes are_all (Some 0)
missing bytes e are_all = (omega arith, λ more ended later. no_mark (bytes ++ more) (e more))

short_one : (a : ℕ) → starts_with nat_eq (a ∷ []) mark ≡ false
short_one a = by_test (239 == a)
  where
    by_test : (x : Bool) → (x && false) ≡ false
    by_test true = refl
    by_test false = refl

short_two : (a b : ℕ) → starts_with nat_eq (a ∷ b ∷ []) mark ≡ false
short_two a b = by_test (239 == a) (187 == b)
  where
    by_test : (x y : Bool) → (x && (y && false)) ≡ false
    by_test true true = refl
    by_test true false = refl
    by_test false y = refl

pub unmarks : (bytes : Text) (are_all : Bool) → Unmarks bytes are_all (mark_length (mark_of bytes) are_all)
unmarks [] are_all = begun_short [] refl are_all
unmarks (a ∷ bytes) are_all = by_first (a == 239) (other_way a 239)
  where
    by_third : (b c : ℕ) (rest : Text) (x : Bool) → (239 == a) ≡ true → (187 == b) ≡ true → (191 == c) ≡ x → Unmarks (a ∷ b ∷ c ∷ rest) are_all (mark_length (if x then Whole else Missing) are_all)
    by_third b c rest true e f g = (omega arith, λ more ended later. rw (e, f, g) refl)
    by_third b c rest false e f g = missing (a ∷ b ∷ c ∷ rest) (λ more. rw (e, f, g) refl) are_all

    by_second : (b : ℕ) (bytes : Text) (x : Bool) → (239 == a) ≡ true → (187 == b) ≡ x → Unmarks (a ∷ b ∷ bytes) are_all (mark_length (if x then mark_behind_two bytes else Missing) are_all)
    by_second b [] true e f = begun_short (a ∷ b ∷ []) (short_two a b) are_all
    by_second b (c ∷ bytes) true e f = by_third b c bytes (c == 191) e f (other_way c 191)
    by_second b bytes false e f = missing (a ∷ b ∷ bytes) (λ more. rw (e, f) refl) are_all

    by_rest : (bytes : Text) → (239 == a) ≡ true → Unmarks (a ∷ bytes) are_all (mark_length (mark_behind_one bytes) are_all)
    by_rest [] e = begun_short (a ∷ []) (short_one a) are_all
    by_rest (b ∷ bytes) e = by_second b bytes (b == 187) e (other_way b 187)

    by_first : (x : Bool) → (239 == a) ≡ x → Unmarks (a ∷ bytes) are_all (mark_length (if x then mark_behind_one bytes else Missing) are_all)
    by_first true e = by_rest bytes e
    by_first false e = missing (a ∷ bytes) (λ more. rw e refl) are_all

some_none : (n : ℕ) → Some n ≡ None → ⊥
some_none n e = cc

pub none_begun : (m : Mark) (ended : Bool) → mark_length m ended ≡ None → (m ≡ Begun) × (ended ≡ false)
none_begun Whole ended e = absurd (some_none 3 e)
none_begun Begun true e = absurd (some_none 0 e)
none_begun Begun false e = (refl, refl)
none_begun Missing ended e = absurd (some_none 0 e)

is_byte : (x y : ℕ) → (x == y) ≡ true → x ≡ y
is_byte x y e = grind (arith, nat_tests)

-- the front of a mark is a line that waits
pub begun_waits : (timed : Bool) (number before : ℕ) (bytes : Text) → mark_of bytes ≡ Begun → answer (cut_in timed false number before (lines_from [] (without_mark bytes))) ≡ Ok None
begun_waits timed number before [] e = refl
begun_waits timed number before (a ∷ bytes) e = by_first bytes (a == 239) refl e
  where
    one : (x : ℕ) → x ≡ 239 → answer (cut_in timed false number before (lines_from [] (without_mark (x ∷ [])))) ≡ Ok None
    one x f = rw f refl

    two : (x y : ℕ) → x ≡ 239 → y ≡ 187 → answer (cut_in timed false number before (lines_from [] (without_mark (x ∷ y ∷ [])))) ≡ Ok None
    two x y f g = rw (f, g) refl

    by_third : (b c : ℕ) (bytes : Text) (x : Bool) → (if x then Whole else Missing) ≡ Begun → answer (cut_in timed false number before (lines_from [] (without_mark (a ∷ b ∷ c ∷ bytes)))) ≡ Ok None
    by_third b c bytes true e = let h : Whole ≡ Begun = e in absurd (let never : ⊥ = cc in never)
    by_third b c bytes false e = let h : Missing ≡ Begun = e in absurd (let never : ⊥ = cc in never)

    by_second : (b : ℕ) (bytes : Text) (y : Bool) → (a == 239) ≡ true → (b == 187) ≡ y → (if y then mark_behind_two bytes else Missing) ≡ Begun → answer (cut_in timed false number before (lines_from [] (without_mark (a ∷ b ∷ bytes)))) ≡ Ok None
    by_second b [] true f g e = two a b (is_byte a 239 f) (is_byte b 187 g)
    by_second b (c ∷ bytes) true f g e = by_third b c bytes (c == 191) e
    by_second b bytes false f g e = let h : Missing ≡ Begun = e in absurd (let never : ⊥ = cc in never)

    by_first : (bytes : Text) (x : Bool) → (a == 239) ≡ x → (if x then mark_behind_one bytes else Missing) ≡ Begun → answer (cut_in timed false number before (lines_from [] (without_mark (a ∷ bytes)))) ≡ Ok None
    by_first [] true f e = one a (is_byte a 239 f)
    by_first (b ∷ bytes) true f e = by_second b bytes (b == 187) f refl e
    by_first bytes false f e = let h : Missing ≡ Begun = e in absurd (let never : ⊥ = cc in never)

module _ (bytes : Text) (r : Reading) (g : Goes bytes r) (first : r.is_begun ≡ false) where
  -- behind the mark, if there is one
  pub mark_goes : (n : ℕ) → mark_length (mark_of r.rest) r.ended ≡ Some n → Goes bytes (record r { is_begun = true; rest = drop n r.rest })
  mark_goes n e =
      let u : Unmarks r.rest r.ended (Some n) = subst (Unmarks r.rest r.ended) e (unmarks r.rest r.ended) in
      record {
        line = g.line;
        fits = record { texts = g.fits.texts; field = g.fits.field; place = g.fits.place; length = g.fits.length; right = g.fits.right; first = λ x. g.fits.first first };
        coming = λ more ended later.
            g.coming more ended later
            ∙ ap (λ l. cut_in r.timed ended (r.given + 1) r.last_time (lines_from g.line l)) (ap (λ x. unmarked x (r.rest ++ more)) first ∙ u.1 more ended later);
      }

  -- the bytes may still become the mark
  pub mark_waits : mark_length (mark_of r.rest) r.ended ≡ None → answer (left r.given (cut bytes r.timed r.ended)) ≡ Ok None
  mark_waits e =
      let b = none_begun (mark_of r.rest) r.ended e in
      ap answer
      (now bytes r _ (g.coming [] r.ended (nothing_later r.ended))
      ∙ ap (λ l. cut_in r.timed r.ended (r.given + 1) r.last_time (lines_from l (unmarked r.is_begun (r.rest ++ [])))) (g.fits.first first)
      ∙ ap (λ x. cut_in r.timed r.ended (r.given + 1) r.last_time (lines_from [] (unmarked x (r.rest ++ [])))) first
      ∙ ap (λ l. cut_in r.timed r.ended (r.given + 1) r.last_time (lines_from [] (without_mark l))) (append-nil r.rest)
      ∙ ap (λ x. cut_in r.timed x (r.given + 1) r.last_time (lines_from [] (without_mark r.rest))) b.1)
      ∙ begun_waits r.timed (r.given + 1) r.last_time r.rest b.0
