-- Lines in pieces.
use Rattle.std.proofs.Common.{◌≡◌, ℕ, zero, suc, ◌+◌, ◌-◌, ◌^◌, ◌<◌, ◌≤◌, List, [], ◌∷◌, ◌++◌, length, take, drop, Bool, refl, sym, ap, ◌∙◌, subst, arith, append_assoc, length-drop, length-append}
use Rattle.std.specs.Prelude.{true, decimal, if◌then◌else◌}
use Rattle.std.proofs.Math.ListN.{drop_of_length-le}
use Rattle.std.proofs.Math.Seq.{drop-nil, take-append-add, take-append_seam}
use Rattle.std.proofs.lemmas.List.{length-take-le, take-append-le, take-append-drop}
use Rattle.std.proofs.lemmas.Fmt.{length-decimal-le}
use Rattle.sample_log.specs.Sample.{line, lines}

-- a number of the program's has at most twenty digits
pub short : (n : ℕ) → n < 2 ^ 64 → length (decimal n) ≤ 20
short n h = length-decimal-le 20 n (omega arith) (omega arith) h

-- the next line is the first of the lines to come
pub begun_next : (seed : ℕ) (timed : Bool) (begun events : ℕ) → begun < events → line seed timed (begun + 1) ++ lines seed timed (begun + 1 + 1) (events - (begun + 1)) ≡ lines seed timed (begun + 1) (events - begun)
begun_next seed timed begun events h =
    let e : suc (events - (begun + 1)) ≡ events - begun = omega arith in
    subst (λ (n : ℕ). line seed timed (begun + 1) ++ lines seed timed (begun + 1 + 1) (events - (begun + 1)) ≡ lines seed timed (begun + 1) n) e refl

-- a refill makes the next line that at hand, where all of the last one is given
pub refilled : (seed : ℕ) (timed : Bool) (begun events : ℕ) (room room' : List ℕ) (next next' : ℕ) → length room ≤ next → begun < events → drop next' room' ≡ line seed timed (begun + 1) →
    drop next' room' ++ lines seed timed (begun + 1 + 1) (events - (begun + 1)) ≡ drop next room ++ lines seed timed (begun + 1) (events - begun)
refilled seed timed begun events room room' next next' past h e =
    ap (λ xs. xs ++ lines seed timed (begun + 1 + 1) (events - (begun + 1))) e ∙ (begun_next seed timed begun events h ∙ ap (λ xs. xs ++ lines seed timed (begun + 1) (events - begun)) (sym (drop_of_length-le room past)))

-- the end of a timed line
pub timed_end : (timed : Bool) (n m : ℕ) (xs ys zs room : List ℕ) → timed ≡ true → n ≡ m → length room ≡ 64 → xs ≡ 44 ∷ ys → ys ≡ decimal n ++ zs → zs ≡ 10 ∷ drop 64 room → xs ≡ (if timed then 44 ∷ decimal m else []) ++ 10 ∷ []
timed_end timed n m xs ys zs room t s l w d e =
    let past : length room ≤ 64 = omega arith in
    let last : zs ≡ 10 ∷ [] = e ∙ ap (λ r. 10 ∷ r) (drop_of_length-le room past) in
    let digits : ys ≡ decimal m ++ 10 ∷ [] = d ∙ (ap (λ (k : ℕ). decimal k ++ zs) s ∙ ap (λ r. decimal m ++ r) last) in
    rw t (w ∙ ap (λ r. 44 ∷ r) digits)

drop_drop : (m n : ℕ) (xs : List ℕ) → drop n (drop m xs) ≡ drop (m + n) xs
drop_drop zero n xs = let e : zero + n ≡ n = omega arith in ap (λ (k : ℕ). drop k xs) (sym e)
drop_drop (suc m) n [] = drop-nil n ∙ sym (drop-nil (suc m + n))
drop_drop (suc m) n (x ∷ xs) = let e : suc m + n ≡ suc (m + n) = omega arith in drop_drop m n xs ∙ ap (λ (k : ℕ). drop k (x ∷ xs)) (sym e)

-- what is given of the line at hand, and what is left
pub given : (room buf copied rest : List ℕ) (next count : ℕ) → copied ≡ take count (drop next room) → next + count ≤ length room →
    drop next room ++ rest ≡ take count (copied ++ drop count buf) ++ (drop (next + count) room ++ rest)
given room buf copied rest next count e h =
    let long : length copied ≡ count = (let l = length-drop next room in ap length e ∙ length-take-le count (drop next room) (omega arith)) in
    let front : take count (copied ++ drop count buf) ≡ copied = subst (λ (k : ℕ). take k (copied ++ drop count buf) ≡ copied) long (take-append_seam copied (drop count buf)) in
    let whole : drop next room ≡ copied ++ drop (next + count) room = sym (take-append-drop count (drop next room)) ∙ (ap (λ xs. xs ++ drop count (drop next room)) (sym e) ∙ ap (λ xs. copied ++ xs) (drop_drop next count room)) in
    ap (λ xs. xs ++ rest) whole ∙ (append_assoc copied (drop (next + count) room) rest ∙ ap (λ xs. xs ++ (drop (next + count) room ++ rest)) (sym front))

-- a piece more in the buffer
pub filled_more : (left mid rest buf sub post : List ℕ) (filled count : ℕ) → filled ≤ length buf → count ≤ length sub → left ≡ take filled buf ++ mid → mid ≡ take count sub ++ rest →
    left ≡ take (filled + count) (take filled buf ++ (sub ++ post)) ++ rest
filled_more left mid rest buf sub post filled count h k e f =
    let long : length (take filled buf) ≡ filled = length-take-le filled buf h in
    let front : take (filled + count) (take filled buf ++ (sub ++ post)) ≡ take filled buf ++ take count sub =
    subst (λ (n : ℕ). take (n + count) (take filled buf ++ (sub ++ post)) ≡ take filled buf ++ take count sub) long
    (take-append-add (take filled buf) (sub ++ post) count ∙ ap (λ xs. take filled buf ++ xs) (take-append-le count sub post k)) in
    e ∙ (ap (λ xs. take filled buf ++ xs) f ∙ (sym (append_assoc (take filled buf) (take count sub) rest) ∙ ap (λ xs. xs ++ rest) (sym front)))

pub filled_within : (buf sub post : List ℕ) (filled count : ℕ) → filled ≤ length buf → count ≤ length sub → filled + count ≤ length (take filled buf ++ (sub ++ post))
filled_within buf sub post filled count h k =
    let a = length-take-le filled buf h in
    let b = length-append (take filled buf) (sub ++ post) in
    let c = length-append sub post in
    omega arith
